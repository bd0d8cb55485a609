use Prim.Native.Nat.{◌+◌, ◌-◌, ◌*◌, ◌<◌}
use native.Mathlib.Omega.{arith}
use Rattle.openjoc_bitio.proofs.Bits.{length-number}
use Rattle.emdf_field_writer.proofs.Putting.{then-put}
use Rattle.emdf_edit.proofs.Edited.{splice-sizes, splice-bits}
use Rattle.emdf_edit.proofs.put_splice.Goals as goal

pub put_sync-sync-requires : goal.put_sync-sync-requires
put_sync-sync-requires c = omega (arith, c.requires.1, splice-sizes c.requires.0)

pub put_run-before-requires : goal.put_run-before-requires
put_run-before-requires c =
    omega (arith, c.requires.1, splice-sizes c.requires.0, c.put_sync-sync.ensures.0, c.put_sync-sync.auto.out)

pub put_new-new-requires : goal.put_new-new-requires
put_new-new-requires c =
    omega (arith, c.requires.1, splice-sizes c.requires.0, c.put_sync-sync.ensures.0, c.put_sync-sync.auto.out, c.put_run-before.ensures.0, c.put_run-before.auto.out)

pub put_run-after-requires : goal.put_run-after-requires
put_run-after-requires c =
    omega (arith, c.requires.1, splice-sizes c.requires.0, c.put_sync-sync.ensures.0, c.put_sync-sync.auto.out, c.put_run-before.ensures.0, c.put_run-before.auto.out, c.put_new-new.ensures.0, c.put_new-new.auto.out)

pub overflow_add-size : goal.overflow_add-size
overflow_add-size c =
    let small : c.args.cut.size.0 < 65536 = c.requires.0.small in
    omega (arith, small)

pub overflow_mul-size : goal.overflow_mul-size
overflow_mul-size c =
    let small : c.args.cut.size.0 < 65536 = c.requires.0.small in
    omega (arith, small)

pub overflow_sub-size : goal.overflow_sub-size
overflow_sub-size c =
    omega (arith, c.requires.1, splice-sizes c.requires.0, c.put_sync-sync.ensures.0, c.put_run-before.ensures.0, c.put_new-new.ensures.0, c.put_run-after.ensures.0)

pub put_zeros-requires : goal.put_zeros-requires
put_zeros-requires c =
    omega (arith, c.requires.1, splice-sizes c.requires.0, length-number ((4 + c.args.cut.size.0) * 8 - c.put_run-after.result.0) 0, c.put_sync-sync.ensures.0, c.put_sync-sync.auto.out, c.put_run-before.ensures.0, c.put_run-before.auto.out, c.put_new-new.ensures.0, c.put_new-new.auto.out, c.put_run-after.ensures.0, c.put_run-after.auto.out)

pub returns : goal.returns
returns c =
    rw (← splice-bits c.requires.0 c.put_run-after.result.0 (omega (arith, splice-sizes c.requires.0, c.put_sync-sync.ensures.0, c.put_run-before.ensures.0, c.put_new-new.ensures.0, c.put_run-after.ensures.0)))
    (then-put _ _ _ _ _ _ c.put_sync-sync.ensures (then-put _ _ _ _ _ _ c.put_run-before.ensures (then-put _ _ _ _ _ _ c.put_new-new.ensures (then-put _ _ _ _ _ _ c.put_run-after.ensures c.put_zeros.ensures))))
