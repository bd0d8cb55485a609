use Prim.Native.Nat.{◌-◌}
use lib.Pow.{shr_le}
use mathlib.Core.Path.{◌≡◌}
use native.Mathlib.Omega.{arith}
use Rattle.emdf_format.specs.Syntax.{count_before, groups}
use Rattle.emdf_measure.proofs.Asked.{count-more, groups-few}
use Rattle.emdf_measure.proofs.group_count.Goals as goal

pub overflow_shr-left : goal.overflow_shr-left
overflow_shr-left c = c.requires.1

pub loop-left-init : goal.loop-left-init
unfolding groups
loop-left-init c = omega arith

pub overflow_shr-left-in-loop-left : goal.overflow_shr-left-in-loop-left
overflow_shr-left-in-loop-left c = c.requires.1

pub overflow_add-n : goal.overflow_add-n
overflow_add-n c = omega (arith, c.loop-left.invariant, groups-few c.args.width c.args.v c.requires.0 (omega arith))

pub loop-left-smaller : goal.loop-left-smaller
loop-left-smaller c = omega (arith, shr_le (c.loop-left.left - 1) c.args.width)

pub loop-left-preserved : goal.loop-left-preserved
loop-left-preserved c = omega (arith, c.loop-left.invariant, count-more c.args.width c.loop-left.left (λ e. omega (arith, e)))

pub returns : goal.returns
unfolding count_before
returns c =
    let z : c.loop-left.left ≡ 0 = omega arith in
    let e = rw z at c.loop-left.invariant in
    omega (arith, e, groups-few c.args.width c.args.v c.requires.0 (omega arith))
