use Rattle.openjoc_bitio.specs.Bits.{number_bits}
use Rattle.emdf_field_writer.proofs.Putting.{room-same, none-put}
use Rattle.emdf_field_writer.proofs.Settings.{field-absent, field-present}
use Rattle.emdf_field_writer.proofs.put_present.Goals as goal

pub put_field-requires : goal.put_field-requires
put_field-requires c =
    (c.requires.0, room-same _ (field-present (number_bits c.args.width) c.in-Some.is) c.requires.1)

pub returns-in-None : goal.returns-in-None
returns-in-None c = rw (field-absent (number_bits c.args.width) c.in-None.is) (none-put _ _)

pub returns-in-Some : goal.returns-in-Some
returns-in-Some c =
    rw (field-present (number_bits c.args.width) c.in-Some.is) c.put_field.ensures
