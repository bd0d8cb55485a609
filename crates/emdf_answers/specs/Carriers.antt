-- What the exported calls on a carrier return and write: docs/HOST.md, 'Carrier calls'. Assumes nothing.
use Rattle.std.specs.Prelude.{◌≡◌, ℕ, ◌*◌, ◌/◌, List, [], ◌∷◌, ◌++◌, length, drop, Option, Some, None, Result, Ok, Err}
use Rattle.openjoc_bitio.specs.declared.ByteCount.{ByteCount}
use Rattle.openjoc_bitio.specs.declared.BitOffset.{BitOffset}
use Rattle.emdf_format.specs.declared.FindError.{FindError}
use Rattle.emdf_format.specs.declared.BodyError.{BodyError}
use Rattle.emdf_format.specs.Reading.{reading}
use Rattle.emdf_format.specs.Refusals.{refusal_of, records_refusal, body_refusal, find_refusal, figures_of}
use Rattle.emdf_format.specs.Ordinals.{rows_of}
use Rattle.emdf_format.specs.Calls.{in_table, Records, recorded, unrecorded, move_body, found_at, scratch_after}
use Rattle.emdf_format.specs.declared.Figures.{Figures}
use Rattle.emdf_format.specs.declared.EmdfPayloadConfig.{EmdfPayloadConfig}
use Rattle.emdf_format.specs.declared.EmdfPayloadBitTrace.{EmdfPayloadBitTrace}
use Rattle.emdf_format.specs.declared.PayloadRecord.{PayloadRecord}
use Rattle.emdf_format.specs.declared.PayloadRow.{PayloadRow}
use Rattle.openjoc_emdf.specs.Answers.{parsed_emdf}
use Rattle.emdf_container.specs.declared.ProtectionBytes.{ProtectionBytes}
use Rattle.openjoc_emdf.specs.declared.ParsedEmdf.{ParsedEmdf}
use Rattle.openjoc_emdf.specs.declared.CarrierClassification.{CarrierClassification}
use Rattle.emdf_answers.specs.Form.{row_bytes, words}
use Rattle.emdf_answers.specs.Replies.{Reply, padded, accepted_reply, refused_reply, two_reply, Replies}

-- ---- a reading's answer: 10 numbers

-- its length, and its bytes as a number of 128 bits, in two halves
abbrev pub protection_words : ProtectionBytes → List ℕ
protection_words b = b.length.0 ∷ b.high ∷ b.low ∷ []

abbrev pub parsed_words : ParsedEmdf → List ℕ
parsed_words p =
    p.bytes_consumed.0
    ∷ p.container.key_id
    ∷ p.container.payloads
    ∷ protection_words p.container.protection.primary
    ++ protection_words p.container.protection.secondary
    ++ (p.container.largest_groups ∷ [])

-- the carrier s read into a table of so many bytes
unfoldable pub read_into : List ℕ → List ℕ → Records
read_into s table = in_table (length table / row_bytes) (reading s)

unfoldable pub read_reply : Records → Reply
read_reply (recorded n c) = accepted_reply (parsed_words (parsed_emdf n c))
read_reply (unrecorded why) = refused_reply 10 (figures_of (records_refusal why))

-- ---- the table: a row of 28 numbers a payload

unfoldable pub optional_words : Option ℕ → List ℕ
optional_words None = 0 ∷ 0 ∷ []
optional_words (Some v) = 1 ∷ v ∷ []

-- the ten settings, in the order in which they are written: 18 numbers
unfoldable pub config_words : EmdfPayloadConfig → List ℕ
config_words t =
    optional_words t.sample_offset
    ++ optional_words t.duration
    ++ optional_words t.group_id
    ++ (t.codec_data_present ∷ t.discard_unknown_payload ∷ [])
    ++ optional_words t.payload_frame_aligned
    ++ optional_words t.create_duplicate
    ++ optional_words t.remove_duplicate
    ++ optional_words t.priority
    ++ optional_words t.processing_allowed

abbrev pub trace_words : EmdfPayloadBitTrace → List ℕ
trace_words t =
    t.payload_id_start_bit.0
    ∷ t.payload_id_end_bit.0
    ∷ t.config_start_bit.0
    ∷ t.config_end_bit.0
    ∷ t.payload_size_start_bit.0
    ∷ t.payload_size_end_bit.0
    ∷ t.payload_body_start_bit.0
    ∷ t.payload_body_end_bit.0
    ∷ []

unfoldable pub record_words : PayloadRecord → List ℕ
record_words r = r.id ∷ config_words r.config ++ trace_words r.trace

-- the ordinal stands last
unfoldable pub row_words : PayloadRow → List ℕ
row_words r = record_words r.payload ++ (r.ordinal ∷ [])

unfoldable pub rows_bytes : List PayloadRow → List ℕ
rows_bytes [] = []
rows_bytes (r ∷ rs) = words (row_words r) ++ rows_bytes rs

-- the table's bytes after a reading: a row a payload, the rest as it was; a refusal leaves all of it
unfoldable pub rows_after : Records → List ℕ → List ℕ
rows_after (recorded n c) table = rows_bytes (rows_of c.found) ++ drop (row_bytes * length c.found) table
rows_after (unrecorded why) table = table

abbrev pub ReadReplies : Records → ℕ → List ℕ → List ℕ → List ℕ → Type 0
ReadReplies t r answer table exit = Replies (read_reply t) r answer × (exit ≡ rows_after t table)

-- ---- a classification's answer: 11 numbers, the first of them the class

abbrev pub malformed_reply : Figures → Reply
malformed_reply f = record { number = f.number; numbers = 3 ∷ (refused_reply 10 f).numbers }

unfoldable pub class_reply : CarrierClassification → Reply
class_reply CarrierClassification.NonEmdf = accepted_reply (padded 11 [])
class_reply (CarrierClassification.Parsed p) = accepted_reply (1 ∷ parsed_words p)
class_reply (CarrierClassification.TrailingData n len) = accepted_reply (padded 11 (2 ∷ n.0 ∷ len.0 ∷ []))
class_reply (CarrierClassification.Malformed why) = malformed_reply (figures_of (refusal_of why))

-- ---- a body's move: 2 numbers

unfoldable pub move_figures : Result (BitOffset × ByteCount) BodyError → Figures
move_figures (Ok (start, len)) = record { number = 0; first = start.0; second = len.0 }
move_figures (Err why) = figures_of (body_refusal why)

abbrev pub MoveReplies : List ℕ → ℕ → List ℕ → ℕ → List ℕ → List ℕ → Type 0
MoveReplies s place scratch r answer exit =
    Replies (two_reply (move_figures (move_body (reading s) place (length scratch)))) r answer
    × (exit ≡ scratch_after (found_at (reading s) place) scratch)

-- ---- a payload found by its id and ordinal: 2 numbers, the first of them its place

abbrev pub find_figures : Result ℕ FindError → Figures
find_figures (Ok k) = record { number = 0; first = k; second = 0 }
find_figures (Err why) = figures_of (find_refusal why)
