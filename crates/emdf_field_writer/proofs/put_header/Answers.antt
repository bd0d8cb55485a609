use native.Mathlib.Omega.{arith}
use Rattle.openjoc_bitio.specs.Bits.{number_bits}
use Rattle.emdf_format.specs.Syntax.{◌⨟◌, extended_field}
use Rattle.emdf_field_writer.specs.Fields.{Room, header_bits}
use Rattle.emdf_field_writer.proofs.Putting.{room-first, room_next, then-put}
use Rattle.emdf_field_writer.proofs.put_header.Goals as goal

pub put_sync-sync-requires : goal.put_sync-sync-requires
unfolding header_bits
put_sync-sync-requires c = room-first _ _ _ c.requires

pub put_field-version-requires : goal.put_field-version-requires
unfolding header_bits
put_field-version-requires c =
    let after-sync : Room c.put_sync-sync.new.out c.put_sync-sync.result.0 (number_bits 2 0 ⨟ extended_field 3 c.args.key) = room_next _ _ _ _ _ c.requires c.put_sync-sync.ensures c.put_sync-sync.auto.out in
    (omega arith, room-first _ _ _ after-sync)

pub put_extended-requires : goal.put_extended-requires
unfolding header_bits
put_extended-requires c =
    let after-sync : Room c.put_sync-sync.new.out c.put_sync-sync.result.0 (number_bits 2 0 ⨟ extended_field 3 c.args.key) = room_next _ _ _ _ _ c.requires c.put_sync-sync.ensures c.put_sync-sync.auto.out in
    (omega arith, omega arith, room_next _ _ _ _ _ after-sync c.put_field-version.ensures c.put_field-version.auto.out)

pub returns : goal.returns
unfolding header_bits
returns c =
    then-put _ _ _ _ _ _ c.put_sync-sync.ensures (then-put _ _ _ _ _ _ c.put_field-version.ensures c.put_extended.ensures)
