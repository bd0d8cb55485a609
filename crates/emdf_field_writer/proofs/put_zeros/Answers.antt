use mathlib.Core.Path.{◌≡◌}
use Prim.Native.Nat.{◌+◌, ◌*◌, ◌%◌}
use native.Mathlib.Omega.{arith}
use Rattle.openjoc_bitio.specs.Bits.{number_bits}
use Rattle.openjoc_bitio.proofs.Bits.{length-number}
use Rattle.emdf_field_writer.proofs.Putting.{none-put, zeros-put}
use Rattle.emdf_field_writer.proofs.put_zeros.Goals as goal

pub loop-init : goal.loop-init
unfolding number_bits
loop-init c = none-put _ _

pub put_field-next-requires : goal.put_field-next-requires
put_field-next-requires c =
    let o = c.loop in
    omega (arith, length-number, o.invariant.0, c.requires)

pub loop-preserved : goal.loop-preserved
loop-preserved c =
    let o = c.loop in
    let e : 64 * (o.counter + 1) ≡ 64 * o.counter + 64 = omega arith in
    rw e (zeros-put _ _ _ _ (64 * o.counter) 64 o.invariant c.put_field-next.ensures)

pub put_field-requires : goal.put_field-requires
put_field-requires c =
    let o = c.loop in
    omega (arith, length-number, o.invariant.0, c.requires)

pub returns : goal.returns
returns c =
    let n = c.args.n in
    let e : 64 * c.loop.counter + n % 64 ≡ n = omega arith in
    rw e at (zeros-put _ _ _ _ (64 * c.loop.counter) (n % 64) c.loop.invariant c.put_field.ensures)
