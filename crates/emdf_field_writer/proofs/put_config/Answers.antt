use Rattle.emdf_format.specs.Syntax.{◌⨟◌}
use Rattle.emdf_format.specs.Contents.{codec_data_bits}
use Rattle.emdf_field_writer.specs.Fields.{Room, controls_bits}
use Rattle.emdf_field_writer.proofs.Putting.{room-same, room-first, room_next, then-put}
use Rattle.emdf_field_writer.proofs.Settings.{config-parts}
use Rattle.emdf_field_writer.proofs.put_config.Goals as goal

pub put_timing-timing-requires : goal.put_timing-timing-requires
put_timing-timing-requires c = room-first _ _ _ (room-same _ (config-parts _) c.requires)

pub put_codec_data-codec-requires : goal.put_codec_data-codec-requires
put_codec_data-codec-requires c =
    let after-timing : let t = c.args.t in
    Room c.put_timing-timing.new.out c.put_timing-timing.result.0 (codec_data_bits t.codec_data_present ⨟ controls_bits t) = room_next _ _ _ _ _ (room-same _ (config-parts _) c.requires) c.put_timing-timing.ensures c.put_timing-timing.auto.out in
    room-first _ _ _ after-timing

pub put_controls-requires : goal.put_controls-requires
put_controls-requires c =
    let after-timing : let t = c.args.t in
    Room c.put_timing-timing.new.out c.put_timing-timing.result.0 (codec_data_bits t.codec_data_present ⨟ controls_bits t) = room_next _ _ _ _ _ (room-same _ (config-parts _) c.requires) c.put_timing-timing.ensures c.put_timing-timing.auto.out in
    room_next _ _ _ _ _ after-timing c.put_codec_data-codec.ensures c.put_codec_data-codec.auto.out

pub returns : goal.returns
returns c =
    rw (config-parts _) (then-put _ _ _ _ _ _ c.put_timing-timing.ensures (then-put _ _ _ _ _ _ c.put_codec_data-codec.ensures c.put_controls.ensures))
