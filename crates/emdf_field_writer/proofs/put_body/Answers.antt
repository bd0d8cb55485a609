use native.Mathlib.Omega.{arith}
use Rattle.emdf_field_writer.proofs.Putting.{room-first, room_next, then-put, groups-field}
use Rattle.emdf_field_writer.proofs.put_body.Goals as goal

pub put_variable-size-requires : goal.put_variable-size-requires
put_variable-size-requires c = (omega arith, omega arith, omega arith, rw groups-field (room-first _ _ _ c.requires))

pub put_octets-requires : goal.put_octets-requires
put_octets-requires c =
    room_next _ _ _ _ _ c.requires (rw groups-field at c.put_variable-size.ensures) c.put_variable-size.auto.out

pub returns : goal.returns
returns c = then-put _ _ _ _ _ _ (rw groups-field at c.put_variable-size.ensures) c.put_octets.ensures
