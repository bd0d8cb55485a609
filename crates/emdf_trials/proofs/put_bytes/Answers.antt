use mathlib.Core.Path.{refl, ◌∙◌}
use Prim.Native.Nat.{◌≤◌, ◌<◌}
use native.Mathlib.Nat.{sub-zero}
use native.Mathlib.Omega.{arith}
use lib.ListN.{length, length-set}
use Rattle.emdf_trials.proofs.Stored.{byte-stored, all-taken, all_there}
use Rattle.emdf_trials.proofs.put_bytes.Goals as goal

pub loop-i-init : goal.loop-i-init
loop-i-init c = (refl, rw sub-zero)

pub returns-then-out-i : goal.returns-then-out-i
returns-then-out-i c =
    let l = c.loop-i in
    let k : length c.args.out.now ≤ l.i = omega (arith, c.if-out-i.true, l.invariant.0) in
    rw (all-taken _ _ _ k) at l.invariant.1

pub loop-i-preserved : goal.loop-i-preserved
loop-i-preserved c =
    let l = c.loop-i in
    let k : l.i < length c.args.out.now = omega (arith, c.if-out-i.false, l.invariant.0) in
    (simp length-set l.invariant.0, byte-stored _ _ _ _ k c.loop-i-test.true ∙ l.invariant.1)

pub returns : goal.returns
returns c = rw (all_there _ _ _ c.loop-i-test.false) at c.loop-i.invariant.1
