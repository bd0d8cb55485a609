use Prim.Native.Nat.{◌+◌, ◌*◌, ◌%◌, ◌^◌, ◌<◌}
use native.Mathlib.Omega.{arith}
use lib.Pow.{pow_pos}
use Rattle.std.proofs.lemmas.Nat.{one_shl}
use Rattle.openjoc_bitio.proofs.Bits.{length-number}
use Rattle.emdf_field_writer.proofs.Putting.{length-group, group-number, group-small}
use Rattle.emdf_field_writer.proofs.put_group.Goals as goal

pub nonzero_rem-low : goal.nonzero_rem-low
nonzero_rem-low c = rw (one_shl c.args.width 64 c.requires.0) (omega (arith, pow_pos c.args.width))

pub overflow_mul-low : goal.overflow_mul-low
overflow_mul-low c =
    let small : let a = c.args in a.v % (1 * 2 ^ a.width % 2 ^ 64) * 2 + a.more < 2 ^ 64 = group-small _ _ _ _ (one_shl c.args.width 64 c.requires.0) c.requires.1 c.requires.0 in
    omega (arith, small)

pub overflow_add-low : goal.overflow_add-low
overflow_add-low c =
    let small : let a = c.args in a.v % (1 * 2 ^ a.width % 2 ^ 64) * 2 + a.more < 2 ^ 64 = group-small _ _ _ _ (one_shl c.args.width 64 c.requires.0) c.requires.1 c.requires.0 in
    omega (arith, small)

pub put_field-requires : goal.put_field-requires
put_field-requires c =
    let a = c.args in
    omega (arith, length-number (a.width + 1) (a.v % (1 * 2 ^ a.width % 2 ^ 64) * 2 + a.more), length-group a.width a.v a.more)

pub returns : goal.returns
returns c =
    rw (← group-number _ _ _ _ (one_shl c.args.width 64 c.requires.0) c.requires.1) c.put_field.ensures
