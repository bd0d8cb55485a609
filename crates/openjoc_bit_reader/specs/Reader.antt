-- What each call of a BitReader answers, and the reader that it leaves: the calls at its cursor, over its bytes. Assumes nothing.
use Rattle.std.specs.Prelude.{ℕ, List, Bool, Result, Ok, Err, ⊤}
use Rattle.std.specs.Borrow.{Bor}
use Rattle.std.specs.Result.{result_map_both}
use Rattle.openjoc_bitio.specs.declared.BitError.{BitError}
use Rattle.openjoc_bitio.specs.Cursor.{whole_slice, bits_remaining, read_bits, read_bit, take_bits, byte_align}
use Rattle.openjoc_bitio.specs.declared.BitCursor.{BitCursor}
use Rattle.openjoc_bit_reader.specs.declared.BitReader.{BitReader}

-- ---- an answer at a cursor as a result and the cursor after it

abbrev pub result_of : {A : Type 0} → Result (A × BitCursor) BitError → Result A BitError
result_of (Ok (v, next)) = Ok v
result_of (Err why) = Err why

-- a refusal leaves the cursor c
abbrev pub cursor_after : {A : Type 0} → BitCursor → Result (A × BitCursor) BitError → BitCursor
cursor_after c (Ok (v, next)) = next
cursor_after c (Err why) = c

-- of a move, which gives no value
abbrev pub moved : Result BitCursor BitError → Result (⊤ × BitCursor) BitError
moved (Ok next) = Ok (tt, next)
moved (Err why) = Err why

-- ---- readers

-- a reader over all of x
abbrev pub opened : Bor (List ℕ) → BitReader
opened x = record { bytes = x; cursor = whole_slice x.now }

-- the reader r with its cursor at c
abbrev pub reader_at : BitReader → BitCursor → BitReader
reader_at r c = record { bytes = r.bytes; cursor = c }

-- the reader r after a call with this answer
abbrev pub reader_after : {A : Type 0} → BitReader → Result (A × BitCursor) BitError → BitReader
reader_after r a = reader_at r (cursor_after r.cursor a)

abbrev pub reader_remaining : BitReader → ℕ
reader_remaining r = bits_remaining r.bytes.now r.cursor

abbrev pub bits_read : BitReader → ℕ → Result (ℕ × BitCursor) BitError
bits_read r n = read_bits r.bytes.now r.cursor n

abbrev pub bit_read : BitReader → Result (Bool × BitCursor) BitError
bit_read r = read_bit r.bytes.now r.cursor

-- a window is a reader over the same bytes
abbrev pub window_taken : BitReader → ℕ → Result (BitReader × BitCursor) BitError
window_taken r n = result_map_both (λ (w, next). (reader_at r w, next)) (λ why. why) (take_bits r.bytes.now r.cursor n)

abbrev pub aligned : BitReader → Result (⊤ × BitCursor) BitError
aligned r = moved (byte_align r.bytes.now r.cursor)
