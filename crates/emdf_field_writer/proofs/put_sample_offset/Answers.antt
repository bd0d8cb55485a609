use native.Mathlib.Omega.{arith}
use Rattle.openjoc_bitio.specs.Bits.{number_bits}
use Rattle.emdf_format.specs.Syntax.{◌⨟◌}
use Rattle.emdf_format.specs.Contents.{sample_offset_bits}
use Rattle.emdf_field_writer.specs.Fields.{Room}
use Rattle.emdf_field_writer.proofs.Putting.{room-same, room-first, room_next, then-put}
use Rattle.emdf_field_writer.proofs.Settings.{flag-clear, offset-set}
use Rattle.emdf_field_writer.proofs.put_sample_offset.Goals as goal

pub put_field-requires : goal.put_field-requires
put_field-requires c = (omega arith, room-same _ (flag-clear sample_offset_bits c.in-None.is) c.requires)

pub put_field-flag-requires : goal.put_field-flag-requires
put_field-flag-requires c = (omega arith, room-first _ _ _ (room-same _ (offset-set c.in-Some.is) c.requires))

pub put_field-value-requires : goal.put_field-value-requires
put_field-value-requires c =
    let after-flag : Room c.put_field-flag.new.out c.put_field-flag.result.0 (number_bits 11 c.in-Some.v ⨟ number_bits 1 0) =
    room_next _ _ _ _ _ (room-same _ (offset-set c.in-Some.is) c.requires) c.put_field-flag.ensures c.put_field-flag.auto.out in
    (omega arith, room-first _ _ _ after-flag)

pub put_field-requires-in-Some : goal.put_field-requires-in-Some
put_field-requires-in-Some c =
    let after-flag : Room c.put_field-flag.new.out c.put_field-flag.result.0 (number_bits 11 c.in-Some.v ⨟ number_bits 1 0) =
    room_next _ _ _ _ _ (room-same _ (offset-set c.in-Some.is) c.requires) c.put_field-flag.ensures c.put_field-flag.auto.out in
    (omega arith, room_next _ _ _ _ _ after-flag c.put_field-value.ensures c.put_field-value.auto.out)

pub returns-in-None : goal.returns-in-None
returns-in-None c = rw (flag-clear sample_offset_bits c.in-None.is) c.put_field.ensures

pub returns-in-Some : goal.returns-in-Some
returns-in-Some c =
    rw (offset-set c.in-Some.is) (then-put _ _ _ _ _ _ c.put_field-flag.ensures (then-put _ _ _ _ _ _ c.put_field-value.ensures c.put_field-in-Some.ensures))
