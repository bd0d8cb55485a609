-- What the calls on a carrier answer: records, class, bodies. Assumes nothing.
use Rattle.std.specs.Prelude.{◌≡◌, Bool, ◌||◌, List, [], ◌∷◌, ◌++◌, ℕ, zero, suc, ◌+◌, ◌*◌, ◌/◌, ◌%◌, length, take, drop, leb, eqb, if◌then◌else◌, Result, Ok, Err}
use Rattle.std.proofs.Math.Option.{Option, none, some}
use Rattle.std.proofs.Math.ListN.{get_elem?}
use Rattle.openjoc_bitio.specs.declared.ByteCount.{ByteCount}
use Rattle.openjoc_bitio.specs.declared.BitOffset.{BitOffset}
use Rattle.openjoc_bitio.specs.Bits.{bits_value}
use Rattle.emdf_format.specs.Types.{EmdfError, RecordsError, BodyError, PayloadRecord, PayloadRow}
use Rattle.emdf_format.specs.Syntax.{syncword}
use Rattle.emdf_format.specs.Contents.{◌&◌}
use Rattle.emdf_format.specs.Reading.{Found, Container, Reading, accepted, refusal, reading}
use Rattle.emdf_format.specs.Ordinals.{rows_of, OrdinalsInOrder}

-- ---- records

unfoldable pub records_of : List Found → List PayloadRecord
records_of [] = []
records_of (x ∷ xs) = x.record_of ∷ records_of xs

-- a reading that fills a table: 13 is asked only of what a reading accepts
pub data Records : Type 0 where
  recorded : ℕ → Container → Records
  unrecorded : RecordsError → Records

unfoldable pub in_table : ℕ → Reading → Records
in_table rows (accepted n c) =
    if leb (length c.found) rows then recorded n c else unrecorded (RecordsError.TableTooShort (length c.found))
in_table rows (refusal why) = unrecorded (RecordsError.Emdf why)

-- the table after it: a row a payload, the rest as it was; a refusal leaves all of it
unfoldable pub table_after : Records → List PayloadRow → List PayloadRow
table_after (recorded n c) table = rows_of c.found ++ drop (length c.found) table
table_after (unrecorded why) table = table

-- of every table that a reading filled
abbrev pub TableInvariant : Type 0
TableInvariant = (n : ℕ) (c : Container) (table : List PayloadRow) → OrdinalsInOrder (table_after (recorded n c) table) (length c.found)

-- ---- class

pub data Class : Type 0 where
  non_emdf : Class
  parsed : ℕ → Container → Class
  trailing_data : ℕ → ℕ → Class
  malformed : EmdfError → Class

unfoldable pub class_of : Reading → ℕ → Class
class_of (accepted n c) len = if eqb n len then parsed n c else trailing_data n len
class_of (refusal why) len = malformed why

unfoldable pub classify : List ℕ → Class
classify s = if leb 2 (length s) & eqb (bits_value s 0 16) syncword then class_of (reading s) (length s) else non_emdf

-- ---- bodies

abbrev pub body_start : Found → ℕ
body_start x = x.record_of.trace.payload_body_start_bit.0

unfoldable pub starts_on_byte : Found → Bool
starts_on_byte x = eqb (body_start x % 8) 0

-- n octets from position p
unfoldable pub octets_at : List ℕ → ℕ → ℕ → List ℕ
octets_at s p zero = []
octets_at s p (suc n) = bits_value s p 8 ∷ octets_at s (p + 8) n

-- each body is what stands at its span
unfoldable pub BodiesAtSpans : List ℕ → List Found → Type 0
BodiesAtSpans s [] = Unit {0}
BodiesAtSpans s (x ∷ xs) =
    (x.body ≡ octets_at s (body_start x) (length x.body))
    × (x.record_of.trace.payload_body_end_bit.0 ≡ body_start x + 8 * length x.body)
    × BodiesAtSpans s xs

-- a body that starts on a byte stays where it is; another one wants room in the scratch
unfoldable pub found_moved : Option Found → ℕ → Result (BitOffset × ByteCount) BodyError
found_moved none room = Err BodyError.NoSuchPayload
found_moved (some x) room =
    if starts_on_byte x || leb (length x.body) room
    then Ok (record { 0 = body_start x }, record { 0 = length x.body })
    else Err (BodyError.ScratchTooShort (record { 0 = length x.body }))

unfoldable pub move_body : Reading → ℕ → ℕ → Result (BitOffset × ByteCount) BodyError
move_body (accepted n c) k room = found_moved (get_elem? c.found k) room
move_body (refusal why) k room = Err (BodyError.Emdf why)

unfoldable pub found_at : Reading → ℕ → Option Found
found_at (accepted n c) k = get_elem? c.found k
found_at (refusal why) k = none

-- the scratch after a move
unfoldable pub scratch_after : Option Found → List ℕ → List ℕ
scratch_after none scratch = scratch
scratch_after (some x) scratch =
    if starts_on_byte x
    then scratch
    else (if leb (length x.body) (length scratch) then x.body ++ drop (length x.body) scratch else scratch)

-- what the moving call gives: its answer, and its scratch at exit
abbrev pub MovesBody : List ℕ → ℕ → List ℕ → Result (BitOffset × ByteCount) BodyError → List ℕ → Type 0
MovesBody s k scratch answer exit =
    (answer ≡ move_body (reading s) k (length scratch)) × (exit ≡ scratch_after (found_at (reading s) k) scratch)

-- what the choosing call hands back: a part of the carrier, or of the scratch
unfoldable pub choose_body : Option Found → List ℕ → List ℕ → List ℕ
choose_body none s scratch = []
choose_body (some x) s scratch =
    if starts_on_byte x
    then take (length x.body) (drop (body_start x / 8) s)
    else (if leb (length x.body) (length scratch) then take (length x.body) scratch else [])
