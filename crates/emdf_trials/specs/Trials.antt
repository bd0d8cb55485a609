-- What the exported trials return and write. Assumes nothing.
use Rattle.std.specs.Prelude.{List, Bool, true, false, ℕ, ◌/◌, ◌%◌, take, replicate, leb, eqb, if◌then◌else◌, Some, Result, Ok, Err}
use Rattle.openjoc_emdf.specs.declared.ParsedEmdf.{ParsedEmdf}
use Rattle.openjoc_bitio.specs.Cursor.{whole_slice, bits_remaining, read_bits, read_bit, take_bits, byte_align}
use Rattle.openjoc_bitio.specs.declared.BitCursor.{BitCursor}
use Rattle.emdf_format.specs.declared.EmdfError.{EmdfError}
use Rattle.emdf_format.specs.declared.RecordsError.{RecordsError}
use Rattle.emdf_format.specs.Reading.{reading}
use Rattle.emdf_format.specs.Refusals.{refusal_of, records_refusal, figures_of}
use Rattle.emdf_format.specs.Calls.{Records, in_table, table_after}
use Rattle.emdf_format.specs.declared.PayloadRow.{PayloadRow}
use Rattle.emdf_answers.specs.Bits.{accepted, bits_reply, bit_reply, window_reply, align_reply}
use Rattle.emdf_answers.specs.Form.{row_bytes}
use Rattle.emdf_answers.specs.Replies.{Reply, accepted_reply, refused_reply}
use Rattle.emdf_answers.specs.Carriers.{parsed_words}
use Rattle.emdf_answers.specs.declared.BitReply.{BitReply}

-- ---- a BitReader's call: what the call at its cursor answers

-- the call of this number; a width is a byte
unfoldable pub reader_reply : ℕ → List ℕ → BitCursor → ℕ → BitReply
reader_reply k s c n =
    if eqb k 0
    then accepted (whole_slice s) 0
    else (if eqb k 1
    then accepted c (bits_remaining s c)
    else (if eqb k 2
    then bits_reply c (read_bits s c (n % 256))
    else (if eqb k 3 then bit_reply c (read_bit s c) else (if eqb k 4 then window_reply c (take_bits s c n) else align_reply c (byte_align s c)))))

-- ---- a reading's answer, as a host is told it

unfoldable pub told_reading : Result ParsedEmdf RecordsError → Reply
told_reading (Ok p) = accepted_reply (parsed_words p)
told_reading (Err why) = refused_reply 10 (figures_of (records_refusal why))

-- of a reading without a table
unfoldable pub parse_reply : Result ParsedEmdf EmdfError → Reply
parse_reply (Ok p) = accepted_reply (parsed_words p)
parse_reply (Err why) = refused_reply 10 (figures_of (refusal_of why))

-- ---- a reading into rows

abbrev pub most : ℕ
most = 0xffffffffffffffff

abbrev pub blank_row : PayloadRow
blank_row = record {
  payload = record {
    id = most;
    config = record {
      sample_offset = Some most;
      duration = Some most;
      group_id = Some most;
      codec_data_present = most;
      discard_unknown_payload = most;
      payload_frame_aligned = Some most;
      create_duplicate = Some most;
      remove_duplicate = Some most;
      priority = Some most;
      processing_allowed = Some most;
    };
    trace = record {
      payload_id_start_bit = record { 0 = most };
      payload_id_end_bit = record { 0 = most };
      config_start_bit = record { 0 = most };
      config_end_bit = record { 0 = most };
      payload_size_start_bit = record { 0 = most };
      payload_size_end_bit = record { 0 = most };
      payload_body_start_bit = record { 0 = most };
      payload_body_end_bit = record { 0 = most };
    };
  };
  ordinal = most;
}

-- the rows that are lent, where a table has so many bytes
unfoldable pub table_rows : ℕ → ℕ
table_rows bytes = if leb (bytes / row_bytes) 512 then bytes / row_bytes else 512

abbrev pub records_read : List ℕ → ℕ → Records
records_read s bytes = in_table (table_rows bytes) (reading s)

-- those rows after the reading
unfoldable pub read_rows : List ℕ → ℕ → List PayloadRow
read_rows s bytes = take (table_rows bytes) (table_after (records_read s bytes) (replicate 512 blank_row))

-- ---- bits put into a buffer

-- whether they were put, as a number
abbrev pub told : Bool → ℕ
told true = 1
told false = 0
