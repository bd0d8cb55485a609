use mathlib.Core.List.{List}
use Prim.Native.Nat.{ℕ}
use native.Mathlib.Omega.{arith}
use Rattle.openjoc_bitio.specs.Bits.{number_bits}
use Rattle.emdf_format.specs.declared.EmdfPayloadConfig.{EmdfPayloadConfig}
use Rattle.emdf_format.specs.Syntax.{◌⨟◌, present_field}
use Rattle.emdf_field_writer.specs.Fields.{Room, controls_bits}
use Rattle.emdf_field_writer.proofs.Putting.{room-first, room_next, then-put}
use Rattle.emdf_field_writer.proofs.put_controls.Goals as goal

-- what is still to come after the flag, and after each setting
abbrev after-remove : EmdfPayloadConfig → List ℕ
after-remove t = present_field (number_bits 5) t.priority ⨟ present_field (number_bits 2) t.processing_allowed

abbrev after-create : EmdfPayloadConfig → List ℕ
after-create t = present_field (number_bits 1) t.remove_duplicate ⨟ after-remove t

abbrev after-aligned : EmdfPayloadConfig → List ℕ
after-aligned t = present_field (number_bits 1) t.create_duplicate ⨟ after-create t

abbrev after-discard : EmdfPayloadConfig → List ℕ
after-discard t = present_field (number_bits 1) t.payload_frame_aligned ⨟ after-aligned t

pub put_field-first-requires : goal.put_field-first-requires
unfolding controls_bits
put_field-first-requires c = (omega arith, room-first _ _ _ c.requires)

pub put_present-second-requires : goal.put_present-second-requires
unfolding controls_bits
put_present-second-requires c =
    let room-discard : Room c.put_field-first.new.out c.put_field-first.result.0 (after-discard c.args.t) = room_next _ _ _ _ _ c.requires c.put_field-first.ensures c.put_field-first.auto.out in
    (omega arith, room-first _ _ _ room-discard)

pub put_present-third-requires : goal.put_present-third-requires
unfolding controls_bits
put_present-third-requires c =
    let room-discard : Room c.put_field-first.new.out c.put_field-first.result.0 (after-discard c.args.t) = room_next _ _ _ _ _ c.requires c.put_field-first.ensures c.put_field-first.auto.out in
    let room-aligned : Room c.put_present-second.new.out c.put_present-second.result.0 (after-aligned c.args.t) = room_next _ _ _ _ _ room-discard c.put_present-second.ensures c.put_present-second.auto.out in
    (omega arith, room-first _ _ _ room-aligned)

pub put_present-fourth-requires : goal.put_present-fourth-requires
unfolding controls_bits
put_present-fourth-requires c =
    let room-discard : Room c.put_field-first.new.out c.put_field-first.result.0 (after-discard c.args.t) = room_next _ _ _ _ _ c.requires c.put_field-first.ensures c.put_field-first.auto.out in
    let room-aligned : Room c.put_present-second.new.out c.put_present-second.result.0 (after-aligned c.args.t) = room_next _ _ _ _ _ room-discard c.put_present-second.ensures c.put_present-second.auto.out in
    let room-create : Room c.put_present-third.new.out c.put_present-third.result.0 (after-create c.args.t) = room_next _ _ _ _ _ room-aligned c.put_present-third.ensures c.put_present-third.auto.out in
    (omega arith, room-first _ _ _ room-create)

pub put_present-fifth-requires : goal.put_present-fifth-requires
unfolding controls_bits
put_present-fifth-requires c =
    let room-discard : Room c.put_field-first.new.out c.put_field-first.result.0 (after-discard c.args.t) = room_next _ _ _ _ _ c.requires c.put_field-first.ensures c.put_field-first.auto.out in
    let room-aligned : Room c.put_present-second.new.out c.put_present-second.result.0 (after-aligned c.args.t) = room_next _ _ _ _ _ room-discard c.put_present-second.ensures c.put_present-second.auto.out in
    let room-create : Room c.put_present-third.new.out c.put_present-third.result.0 (after-create c.args.t) = room_next _ _ _ _ _ room-aligned c.put_present-third.ensures c.put_present-third.auto.out in
    let room-remove : Room c.put_present-fourth.new.out c.put_present-fourth.result.0 (after-remove c.args.t) = room_next _ _ _ _ _ room-create c.put_present-fourth.ensures c.put_present-fourth.auto.out in
    (omega arith, room-first _ _ _ room-remove)

pub put_present-requires : goal.put_present-requires
unfolding controls_bits
put_present-requires c =
    let room-discard : Room c.put_field-first.new.out c.put_field-first.result.0 (after-discard c.args.t) = room_next _ _ _ _ _ c.requires c.put_field-first.ensures c.put_field-first.auto.out in
    let room-aligned : Room c.put_present-second.new.out c.put_present-second.result.0 (after-aligned c.args.t) = room_next _ _ _ _ _ room-discard c.put_present-second.ensures c.put_present-second.auto.out in
    let room-create : Room c.put_present-third.new.out c.put_present-third.result.0 (after-create c.args.t) = room_next _ _ _ _ _ room-aligned c.put_present-third.ensures c.put_present-third.auto.out in
    let room-remove : Room c.put_present-fourth.new.out c.put_present-fourth.result.0 (after-remove c.args.t) = room_next _ _ _ _ _ room-create c.put_present-fourth.ensures c.put_present-fourth.auto.out in
    (omega arith, room_next _ _ _ _ _ room-remove c.put_present-fifth.ensures c.put_present-fifth.auto.out)

pub returns : goal.returns
unfolding controls_bits
returns c =
    then-put _ _ _ _ _ _ c.put_field-first.ensures
    (then-put _ _ _ _ _ _ c.put_present-second.ensures
    (then-put _ _ _ _ _ _ c.put_present-third.ensures
    (then-put _ _ _ _ _ _ c.put_present-fourth.ensures (then-put _ _ _ _ _ _ c.put_present-fifth.ensures c.put_present.ensures))))
