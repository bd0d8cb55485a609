-- Parts of contents: whether they are writable, and their bits. Assumes nothing.
use Rattle.std.specs.Prelude.{Bool, not, List, ℕ, ◌+◌, length, eqb}
use Rattle.emdf_format.specs.Contents.{◌&◌, codable, is_one, has_aligned, has_priority, present_as_ruled, present_bits}
use Rattle.emdf_format.specs.declared.EmdfPayloadConfig.{EmdfPayloadConfig}

-- the settings after discard
unfoldable pub writable_controls : EmdfPayloadConfig → Bool
writable_controls t =
    present_as_ruled (has_aligned t.discard_unknown_payload t.sample_offset) 1 t.payload_frame_aligned
    & present_as_ruled (is_one t.payload_frame_aligned) 1 t.create_duplicate
    & present_as_ruled (is_one t.payload_frame_aligned) 1 t.remove_duplicate
    & present_as_ruled (has_priority t.discard_unknown_payload t.sample_offset t.payload_frame_aligned) 31 t.priority
    & present_as_ruled (has_priority t.discard_unknown_payload t.sample_offset t.payload_frame_aligned) 3 t.processing_allowed

unfoldable pub control_bits : EmdfPayloadConfig → ℕ
control_bits t =
    present_bits 1 t.payload_frame_aligned
    + present_bits 1 t.create_duplicate
    + present_bits 1 t.remove_duplicate
    + present_bits 5 t.priority
    + present_bits 2 t.processing_allowed

-- protections that have a code, the first of them not empty
unfoldable pub writable_protection : List ℕ → List ℕ → Bool
writable_protection a b = not (eqb (length a) 0) & codable (length a) & codable (length b)
