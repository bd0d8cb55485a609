-- Fields put one after another into a buffer. Assumes nothing.
use Rattle.std.specs.Prelude.{◌≡◌, List, [], ◌∷◌, ℕ, ◌+◌, ◌*◌, ◌/◌, ◌%◌, ◌^◌, ◌<◌, ◌≤◌, length}
use Rattle.std.proofs.lemmas.List.Edits.{sets}
use Rattle.openjoc_bitio.specs.Bits.{number_bits}
use Rattle.emdf_format.specs.Syntax.{syncword, ◌⨟◌, groups_before, variable_field, extended_field, octet_bits, flagged_field, present_field}
use Rattle.emdf_format.specs.Contents.{sample_offset_bits}
use Rattle.emdf_format.specs.declared.EmdfPayloadConfig.{EmdfPayloadConfig}

-- bits from position at on fit into out, and its positions can be counted
abbrev pub Room : List ℕ → ℕ → List ℕ → Type 0
Room out at bs = (at + length bs ≤ length out * 8) × (length out < 2 ^ 61)

-- r is the position past the bits, and they are put over those of out from position at on
abbrev pub Put : List ℕ → ℕ → List ℕ → List ℕ → ℕ → Type 0
Put out at bs exit r = (r ≡ at + length bs) × (octet_bits exit ≡ sets (octet_bits out) at bs)

-- one group: w bits and the more bit
unfoldable pub group : ℕ → ℕ → ℕ → List ℕ
group w low more = number_bits w low ⨟ (more ∷ [])

-- the groups of v, the last with this more bit
unfoldable pub variable_groups : ℕ → ℕ → ℕ → List ℕ
variable_groups w v more = groups_before (v / 2 ^ w) w (v / 2 ^ w) ⨟ group w (v % 2 ^ w) more

-- ---- settings: those before the codec flag, and those after it

unfoldable pub timing_bits : EmdfPayloadConfig → List ℕ
timing_bits t =
    flagged_field sample_offset_bits t.sample_offset
    ⨟ flagged_field (variable_field 11) t.duration
    ⨟ flagged_field (variable_field 2) t.group_id

unfoldable pub controls_bits : EmdfPayloadConfig → List ℕ
controls_bits t =
    number_bits 1 t.discard_unknown_payload
    ⨟ present_field (number_bits 1) t.payload_frame_aligned
    ⨟ present_field (number_bits 1) t.create_duplicate
    ⨟ present_field (number_bits 1) t.remove_duplicate
    ⨟ present_field (number_bits 5) t.priority
    ⨟ present_field (number_bits 2) t.processing_allowed

-- ---- carriers

-- the sync word, and the length that the container declares
unfoldable pub sync_bits : ℕ → List ℕ
sync_bits n = number_bits 16 syncword ⨟ number_bits 16 n

-- the sync word, the declared length, version 0, key_id
unfoldable pub header_bits : ℕ → ℕ → List ℕ
header_bits n key = sync_bits n ⨟ number_bits 2 0 ⨟ extended_field 3 key
