use Rattle.std.proofs.Common.{◌≤◌}
use Rattle.emdf_replay.proofs.list.line_at.Given as goal

abbrev pub invariant-loop-i : goal.invariant-loop-i
invariant-loop-i l = l.at ≤ l.next
