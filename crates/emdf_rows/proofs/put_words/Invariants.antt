use Prim.Native.Nat.{◌+◌, ◌*◌}
use mathlib.Core.Path.{◌≡◌}
use lib.ListN.{drop}
use lib.Seq.{sets}
use Rattle.emdf_answers.specs.Form.{words}
use Rattle.emdf_rows.proofs.put_words.Given as goal

abbrev pub invariant-loop-i : goal.invariant-loop-i
invariant-loop-i l = sets l.out (l.at + 8 * l.i) (words (drop l.i l.values)) ≡ sets l.initial.out l.at (words l.values)
