use native.Mathlib.Omega.{arith}
use Rattle.emdf_format.specs.Syntax.{variable_field}
use Rattle.emdf_field_writer.proofs.Putting.{room-same, room-first, room_next, then-put}
use Rattle.emdf_field_writer.proofs.Settings.{flag-clear, variable-set}
use Rattle.emdf_field_writer.proofs.put_flagged.Goals as goal

pub put_field-requires : goal.put_field-requires
put_field-requires c =
    (omega arith, room-same _ (flag-clear (variable_field c.args.width) c.in-None.is) c.requires.2)

pub put_field-flag-requires : goal.put_field-flag-requires
put_field-flag-requires c = (omega arith, room-first _ _ _ (room-same _ (variable-set _ c.in-Some.is) c.requires.2))

pub put_variable-requires : goal.put_variable-requires
put_variable-requires c =
    let p = c.requires in
    (p.0, p.1, omega arith, room_next _ _ _ _ _ (room-same _ (variable-set _ c.in-Some.is) p.2) c.put_field-flag.ensures c.put_field-flag.auto.out)

pub returns-in-None : goal.returns-in-None
returns-in-None c = rw (flag-clear (variable_field c.args.width) c.in-None.is) c.put_field.ensures

pub returns-in-Some : goal.returns-in-Some
returns-in-Some c =
    rw (variable-set _ c.in-Some.is) (then-put _ _ _ _ _ _ c.put_field-flag.ensures c.put_variable.ensures)
