-- What stands at a position, where a word holds its head and another its size: the end mark, or a compact payload. Assumes nothing.
use Rattle.std.specs.Prelude.{false, List, ◌≡◌, ℕ, ◌+◌, ◌*◌, ◌/◌, ◌%◌, ◌^◌, ◌<◌, eqb, if◌then◌else◌, Option, Some, None, Result, Ok}
use Rattle.openjoc_bitio.specs.declared.BitCursor.{BitCursor}
use Rattle.openjoc_bitio.specs.Bits.{window_at}
use Rattle.emdf_format.specs.declared.EmdfError.{EmdfError}
use Rattle.emdf_format.specs.Reader.{cursor_at}
use Rattle.emdf_format.specs.Reading.{trace_of}
use Rattle.emdf_format.specs.declared.PayloadRecord.{PayloadRecord}
use Rattle.emdf_fields.specs.Word.{top, after}
use Rattle.emdf_compact.specs.Words.{compact_config, head_length, grouped_head, size_length, size_value}
use Rattle.emdf_payloads.specs.Payloads.{step_at, record_groups}
use Rattle.emdf_payloads.specs.declared.CompactPayload.{CompactPayload}

-- the words that hold the head of what stands at p, and the size after it
abbrev pub head_at : List ℕ → ℕ → ℕ
head_at s p = window_at s p

abbrev pub size_at : List ℕ → ℕ → ℕ
size_at s p = window_at s (p + head_length (head_at s p))

-- a word that says of a size at z what the word there says
pub record SizeWord (s : List ℕ) (z y : ℕ) : Type 0 where
  pub length : size_length y ≡ size_length (window_at s z)
  pub value : size_value y ≡ size_value (window_at s z)

-- neither stands there
abbrev pub not_compact : CompactPayload
not_compact = record { word = 0; head = 0; size = 0; length = 0 }

-- the end mark or a compact payload at p: its head, its size and its octets
unfoldable pub compact_parts : List ℕ → ℕ → CompactPayload
compact_parts s p =
    if eqb (head_length (head_at s p)) 0
    then not_compact
    else (if eqb (top 5 (head_at s p)) 0
    then record { word = head_at s p; head = grouped_head (head_at s p); size = 0; length = head_length (head_at s p) }
    else (if eqb (size_length (size_at s p)) 0
    then not_compact
    else record { word = head_at s p; head = grouped_head (head_at s p); size = size_length (size_at s p); length = head_length (head_at s p) + size_length (size_at s p) + size_value (size_at s p) * 8 }))

-- what is recorded of a compact payload at p
abbrev pub compact_record : CompactPayload → ℕ → PayloadRecord
compact_record c p = record { id = top 5 c.word; config = compact_config (after 5 c.word); trace = trace_of p (p + 5) (p + c.head % 128) (p + c.head % 128 + c.size) (p + c.length) }

-- the largest number of groups in it: its size's, or its settings', by the mark in its head's length
unfoldable pub compact_groups : ℕ → ℕ → ℕ
compact_groups head size = if eqb size 18 then 2 else 1 + head / 128

-- what stands at p, before the end e
unfoldable pub compact_step : CompactPayload → ℕ → ℕ → Result (Option PayloadRecord × BitCursor) EmdfError
compact_step c e p =
    if eqb (top 5 c.word) 0
    then Ok (None, cursor_at e (p + c.length))
    else Ok (Some (compact_record c p), cursor_at e (p + c.length))

-- c is what stands at p, all of it before the end e, if it has any bits; and no sum of its parts is too large
pub record CompactAt (s : List ℕ) (e p : ℕ) (c : CompactPayload) : Type 0 where
  pub is : 0 < c.length → step_at s (cursor_at e p) ≡ compact_step c e p
  pub near : 0 < c.length → p < 2 ^ 61
  pub head : c.head < 2 ^ 8
  pub size : c.size < 2 ^ 7
  pub fits : p + c.length < 2 ^ 64
  pub groups : 0 < c.length → eqb (top 5 c.word) 0 ≡ false → record_groups (compact_record c p) ≡ compact_groups c.head c.size
