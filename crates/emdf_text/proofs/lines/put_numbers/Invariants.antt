use Prim.Native.Nat.{◌+◌, ◌*◌, ◌≤◌}
use mathlib.Core.Path.{◌≡◌}
use lib.ListN.{length, drop}
use Rattle.emdf_text.specs.Lines.{spaced}
use Rattle.emdf_text.proofs.Put.{Leaves}
use Rattle.emdf_text.proofs.lines.put_numbers.Given as goal

abbrev pub invariant-loop-number : goal.invariant-loop-number
invariant-loop-number l = record {
  within : l.end ≤ l.at + 21 * l.number-index;
  size : length l.out ≡ length l.initial.out;
  leaves : Leaves l.initial.out l.at (spaced l.numbers) l.out l.end (spaced (drop l.number-index l.numbers));
}
