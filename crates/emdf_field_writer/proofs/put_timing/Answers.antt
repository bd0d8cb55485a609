use native.Mathlib.Omega.{arith}
use Rattle.emdf_format.specs.Syntax.{◌⨟◌, variable_field, flagged_field}
use Rattle.emdf_field_writer.specs.Fields.{Room, timing_bits}
use Rattle.emdf_field_writer.proofs.Putting.{room-first, room_next, then-put}
use Rattle.emdf_field_writer.proofs.put_timing.Goals as goal

pub put_sample_offset-first-requires : goal.put_sample_offset-first-requires
unfolding timing_bits
put_sample_offset-first-requires c = room-first _ _ _ c.requires

pub put_flagged-second-requires : goal.put_flagged-second-requires
unfolding timing_bits
put_flagged-second-requires c =
    let after-offset : let t = c.args.t in
    Room c.put_sample_offset-first.new.out c.put_sample_offset-first.result.0 (flagged_field (variable_field 11) t.duration ⨟ flagged_field (variable_field 2) t.group_id) = room_next _ _ _ _ _ c.requires c.put_sample_offset-first.ensures c.put_sample_offset-first.auto.out in
    (omega arith, omega arith, room-first _ _ _ after-offset)

pub put_flagged-requires : goal.put_flagged-requires
unfolding timing_bits
put_flagged-requires c =
    let after-offset : let t = c.args.t in
    Room c.put_sample_offset-first.new.out c.put_sample_offset-first.result.0 (flagged_field (variable_field 11) t.duration ⨟ flagged_field (variable_field 2) t.group_id) = room_next _ _ _ _ _ c.requires c.put_sample_offset-first.ensures c.put_sample_offset-first.auto.out in
    (omega arith, omega arith, room_next _ _ _ _ _ after-offset c.put_flagged-second.ensures c.put_flagged-second.auto.out)

pub returns : goal.returns
unfolding timing_bits
returns c =
    then-put _ _ _ _ _ _ c.put_sample_offset-first.ensures (then-put _ _ _ _ _ _ c.put_flagged-second.ensures c.put_flagged.ensures)
