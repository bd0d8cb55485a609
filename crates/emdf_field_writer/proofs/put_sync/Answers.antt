use native.Mathlib.Omega.{arith}
use Rattle.emdf_field_writer.proofs.Putting.{length-sync, sync-put}
use Rattle.emdf_field_writer.proofs.put_sync.Goals as goal

pub put_u16-requires : goal.put_u16-requires
put_u16-requires c = omega (arith, c.requires.0, length-sync c.args.size.0)

pub put_u16-requires-2 : goal.put_u16-requires-2
put_u16-requires-2 c =
    omega (arith, c.put_u16.auto.out, c.requires.0, length-sync c.args.size.0)

pub returns : goal.returns
returns c = sync-put _ _ _ _ (rw c.from.ensures at c.put_u16.ensures) c.put_u16-2.ensures
