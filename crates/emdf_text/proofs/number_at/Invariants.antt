use Rattle.std.proofs.Common.{◌≡◌, ◌+◌, drop}
use Rattle.emdf_text.specs.Text.{scan, decimal_at}
use Rattle.emdf_text.proofs.number_at.Given as goal

abbrev pub invariant-loop-i : goal.invariant-loop-i
invariant-loop-i l = decimal_at l.text l.at ≡ scan l.number (l.at + l.i) (drop l.i l.rest)
