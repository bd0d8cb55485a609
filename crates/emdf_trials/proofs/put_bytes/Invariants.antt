use mathlib.Core.Path.{◌≡◌}
use Prim.Native.Nat.{◌-◌}
use lib.ListN.{length, take, drop}
use lib.Seq.{sets}
use Rattle.emdf_trials.proofs.put_bytes.Given as goal

abbrev pub invariant-loop-i : goal.invariant-loop-i
invariant-loop-i l = (length l.out ≡ length l.initial.out) × (sets l.out l.i (take (length l.initial.out - l.i) (drop l.i l.bytes)) ≡ sets l.initial.out 0 (take (length l.initial.out) l.bytes))
