use native.Mathlib.Omega.{arith}
use Rattle.emdf_field_writer.proofs.Putting.{room-same, room-first, room_next, then-put}
use Rattle.emdf_field_writer.proofs.Settings.{codec-clear, codec-set}
use Rattle.emdf_field_writer.proofs.put_codec_data.Goals as goal

pub put_field-requires : goal.put_field-requires
put_field-requires c = (omega arith, room-same _ (codec-clear c.if-flag-eq0.true) c.requires)

pub returns-then-flag-eq0 : goal.returns-then-flag-eq0
returns-then-flag-eq0 c = rw (codec-clear c.if-flag-eq0.true) c.put_field.ensures

pub put_field-next-requires : goal.put_field-next-requires
put_field-next-requires c = (omega arith, room-first _ _ _ (room-same _ (codec-set _ c.if-flag-eq0.false) c.requires))

pub put_field-requires-2 : goal.put_field-requires-2
put_field-requires-2 c =
    (omega arith, room_next _ _ _ _ _ (room-same _ (codec-set _ c.if-flag-eq0.false) c.requires) c.put_field-next.ensures c.put_field-next.auto.out)

pub returns : goal.returns
returns c =
    rw (codec-set _ c.if-flag-eq0.false) (then-put _ _ _ _ _ _ c.put_field-next.ensures c.put_field-2.ensures)
