use native.Mathlib.Omega.{arith}
use lib.ListN.{length}
use Rattle.emdf_format.specs.Syntax.{◌⨟◌, variable_field, octet_bits}
use Rattle.emdf_format.specs.Contents.{config_bits, payload_bits}
use Rattle.emdf_field_writer.specs.Fields.{Room}
use Rattle.emdf_field_writer.proofs.Putting.{room-first, room_next, then-put}
use Rattle.emdf_field_writer.proofs.put_payload.Goals as goal

pub put_extended-settings-requires : goal.put_extended-settings-requires
unfolding payload_bits
put_extended-settings-requires c = (omega arith, omega arith, room-first _ _ _ c.requires)

pub put_config-size-requires : goal.put_config-size-requires
unfolding payload_bits
put_config-size-requires c =
    let after-id : let a = c.args in
    Room c.put_extended-settings.new.out c.put_extended-settings.result.0 (config_bits a.config ⨟ variable_field 8 (length a.body.now) ⨟ octet_bits a.body.now) = room_next _ _ _ _ _ c.requires c.put_extended-settings.ensures c.put_extended-settings.auto.out in
    room-first _ _ _ after-id

pub put_body-requires : goal.put_body-requires
unfolding payload_bits
put_body-requires c =
    let after-id : let a = c.args in
    Room c.put_extended-settings.new.out c.put_extended-settings.result.0 (config_bits a.config ⨟ variable_field 8 (length a.body.now) ⨟ octet_bits a.body.now) = room_next _ _ _ _ _ c.requires c.put_extended-settings.ensures c.put_extended-settings.auto.out in
    room_next _ _ _ _ _ after-id c.put_config-size.ensures c.put_config-size.auto.out

pub returns : goal.returns
unfolding payload_bits
returns c =
    then-put _ _ _ _ _ _ c.put_extended-settings.ensures (then-put _ _ _ _ _ _ c.put_config-size.ensures c.put_body.ensures)
