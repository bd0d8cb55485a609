-- Fields that lie in one word of 64 bits, from its top on. Settings are compact where the duration is one group and the
-- group id one or two, what is reserved is zero, and at most 41 bits stand before discard: then a word holds them with the id before
-- them. Assumes nothing.
use Rattle.std.specs.Prelude.{Bool, ◌||◌, ℕ, ◌+◌, ◌*◌, ◌%◌, ◌^◌, eqb, leb, if◌then◌else◌, Option, Some, None}
use Rattle.emdf_format.specs.Contents.{◌&◌, is_present, is_one, has_aligned, has_priority}
use Rattle.emdf_format.specs.declared.EmdfPayloadConfig.{EmdfPayloadConfig}
use Rattle.emdf_fields.specs.Word.{top, after}

-- ---- a flag and, where it is set, w bits and a bit that is zero: a sample offset, or a variable field of one group

unfoldable pub flagged_span : ℕ → ℕ → ℕ
flagged_span w x = if eqb (top 1 x) 0 then 1 else w + 2

unfoldable pub flagged_value : ℕ → ℕ → Option ℕ
flagged_value w x = if eqb (top 1 x) 0 then None else Some (top w (after 1 x))

unfoldable pub flagged_ends : ℕ → ℕ → Bool
flagged_ends w x = eqb (top 1 x) 0 || eqb (top (w + 2) x % 2) 0

-- ---- a flag and, where it is set, a variable field of one group or two, of w bits each

unfoldable pub variable_span : ℕ → ℕ → ℕ
variable_span w x = if eqb (top 1 x) 0 then 1 else (if eqb (top (w + 2) x % 2) 0 then w + 2 else 2 * w + 3)

unfoldable pub variable_value : ℕ → ℕ → Option ℕ
variable_value w x =
    if eqb (top 1 x) 0
    then None
    else Some (if eqb (top (w + 2) x % 2) 0 then top w (after 1 x) else top w (after 1 x) * 2 ^ w + 2 ^ w + top w (after (w + 2) x))

unfoldable pub variable_ends : ℕ → ℕ → Bool
variable_ends w x = eqb (top 1 x) 0 || (eqb (top (w + 2) x % 2) 0 || eqb (top (2 * w + 3) x % 2) 0)

-- ---- the codec data's flag and, where it is set, the reserved octet

unfoldable pub codec_span : ℕ → ℕ
codec_span x = 1 + 8 * top 1 x

unfoldable pub codec_ends : ℕ → Bool
codec_ends x = eqb (top 1 x) 0 || eqb (top 9 x % 2 ^ 8) 0

-- ---- from discard on

-- w bits, where they are there
unfoldable pub present_span : Bool → ℕ → ℕ
present_span there w = if there then w else 0

unfoldable pub present_value : Bool → ℕ → ℕ → Option ℕ
present_value there w x = if there then Some (top w x) else None

unfoldable pub controls_span : Bool → ℕ → ℕ
controls_span offset x =
    if eqb (top 1 x) 1 then 1 else (if offset then 8 else (if eqb (top 2 x) 0 then 2 else 11))

-- those after discard, which is 0 or 1
unfoldable pub compact_controls : Option ℕ → Option ℕ → Option ℕ → ℕ → ℕ → EmdfPayloadConfig
compact_controls sample-offset duration group-id codec x =
    let discard : ℕ = top 1 x in
    let there : Bool = has_aligned discard sample-offset in
    let aligned : Option ℕ = present_value there 1 (after 1 x) in
    let y : ℕ = after (present_span there 1) (after 1 x) in
    let z : ℕ = after (present_span (is_one aligned) 2) y in
    let ranked : Bool = has_priority discard sample-offset aligned in
    record {
      sample_offset = sample-offset;
      duration = duration;
      group_id = group-id;
      codec_data_present = codec;
      discard_unknown_payload = discard;
      payload_frame_aligned = aligned;
      create_duplicate = present_value (is_one aligned) 1 y;
      remove_duplicate = present_value (is_one aligned) 1 (after 1 y);
      priority = present_value ranked 5 z;
      processing_allowed = present_value ranked 2 (after 5 z);
    }

-- ---- all of the settings

-- the word after a sample offset or a duration
abbrev pub flagged_after : ℕ → ℕ
flagged_after x = after (flagged_span 11 x) x

-- after both of them, after the group id, after the codec data
abbrev pub after_timing : ℕ → ℕ
after_timing x = flagged_after (flagged_after x)

abbrev pub after_group : ℕ → ℕ
after_group x = after (variable_span 2 (after_timing x)) (after_timing x)

abbrev pub after_codec : ℕ → ℕ
after_codec x = after (codec_span (after_group x)) (after_group x)

-- the bits before discard
abbrev pub head_span : ℕ → ℕ
head_span x = flagged_span 11 x + flagged_span 11 (flagged_after x) + variable_span 2 (after_timing x) + codec_span (after_group x)

unfoldable pub compact_settings : ℕ → Bool
compact_settings x = flagged_ends 11 x & flagged_ends 11 (flagged_after x) & variable_ends 2 (after_timing x) & codec_ends (after_group x) & leb (head_span x) 41

unfoldable pub compact_config : ℕ → EmdfPayloadConfig
compact_config x =
    compact_controls (flagged_value 11 x) (flagged_value 11 (flagged_after x)) (variable_value 2 (after_timing x)) (top 1 (after_group x)) (after_codec x)

-- how many bits compact settings take; 64 where they are not compact
unfoldable pub config_length : ℕ → ℕ
config_length x = if compact_settings x then head_span x + controls_span (is_present (flagged_value 11 x)) (after_codec x) else 64

-- whether their group id has two groups; 128 more bits than there are say so
unfoldable pub two_groups : ℕ → Bool
two_groups x = eqb (variable_span 2 (after_timing x)) 7

unfoldable pub grouped_length : ℕ → ℕ
grouped_length x = if compact_settings x then config_length x + (if two_groups x then 128 else 0) else 64

-- ---- an id and settings, and a size

-- how many bits an id below the escape and compact settings take, or the id 0 alone; 0 where it is neither
unfoldable pub head_length : ℕ → ℕ
head_length x =
    if eqb (top 5 x) 0
    then 5
    else (if eqb (top 5 x) 31 then 0 else (if eqb (config_length (after 5 x)) 64 then 0 else 5 + config_length (after 5 x)))

-- the same, and 128 more where a group id of two groups is in it
unfoldable pub grouped_head : ℕ → ℕ
grouped_head x =
    if eqb (top 5 x) 0
    then 5
    else (if eqb (top 5 x) 31 then 0 else (if eqb (grouped_length (after 5 x)) 64 then 0 else 5 + grouped_length (after 5 x)))

-- a size of one group or two: how many bits it takes, 0 where it has more; and the size
unfoldable pub size_length : ℕ → ℕ
size_length x = if eqb (top 9 x % 2) 0 then 9 else (if eqb (top 18 x % 2) 0 then 18 else 0)

unfoldable pub size_value : ℕ → ℕ
size_value x = if eqb (top 9 x % 2) 0 then top 8 x else top 8 x * 2 ^ 8 + 2 ^ 8 + top 17 x % 2 ^ 8
