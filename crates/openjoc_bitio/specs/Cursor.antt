-- What each call at a cursor answers: the scope, 'Bits', and its questions 3 and 4. Assumes nothing.
use Rattle.std.specs.Prelude.{Bool, Result, Ok, Err, ℕ, ◌+◌, ◌-◌, ◌*◌, ◌%◌, ◌^◌, List, not, length, eqb, leb, ltb, if◌then◌else◌}
use Rattle.openjoc_bitio.specs.Bits.{bit_at, bits_value}
use Rattle.openjoc_bitio.specs.Types.{BitCursor, BitError}
use Rattle.openjoc_bitio.specs.declared.BitError.TheVariants.{InvalidWidth, EndOfInput}

-- the bits that a cursor can count in s: none where they are 2^64 or more
unfoldable pub bit_length : List ℕ → ℕ
bit_length s = if ltb (length s) (2 ^ 61) then length s * 8 else 0

-- the bits left at c: none where its end passes the slice, or its position its end
unfoldable pub bits_remaining : List ℕ → BitCursor → ℕ
bits_remaining s c = if leb c.end (bit_length s) then c.end - c.position else 0

unfoldable pub whole_slice : List ℕ → BitCursor
whole_slice s = record { position = 0; end = bit_length s }

-- c, n bits further on
abbrev pub past : BitCursor → ℕ → BitCursor
past c n = record { position = c.position + n; end = c.end }

-- past the next n bits, where so many are left
abbrev pub bits_past : List ℕ → BitCursor → ℕ → Result BitCursor BitError
bits_past s c n =
    if leb n (bits_remaining s c)
    then Ok (past c n)
    else Err (EndOfInput n (bits_remaining s c))

-- w bits as a number: width at most 64? enough bits?
unfoldable pub read_bits : List ℕ → BitCursor → ℕ → Result (ℕ × BitCursor) BitError
read_bits s c w =
    if leb w 64
    then (if leb w (bits_remaining s c)
    then Ok (bits_value s c.position w, past c w)
    else Err (EndOfInput w (bits_remaining s c)))
    else Err (InvalidWidth w)

-- one bit
unfoldable pub read_bit : List ℕ → BitCursor → Result (Bool × BitCursor) BitError
read_bit s c =
    if leb 1 (bits_remaining s c)
    then Ok (not (eqb (bit_at s c.position) 0), past c 1)
    else Err (EndOfInput 1 (bits_remaining s c))

-- the next n bits as a cursor of their own, and the cursor past them
unfoldable pub take_bits : List ℕ → BitCursor → ℕ → Result (BitCursor × BitCursor) BitError
take_bits s c n =
    if leb n (bits_remaining s c)
    then Ok (record { position = c.position; end = c.position + n }, past c n)
    else Err (EndOfInput n (bits_remaining s c))

-- the bits from position p to the next byte of the slice
abbrev pub to_byte : ℕ → ℕ
to_byte p = (8 - p % 8) % 8

-- past them, unseen
unfoldable pub byte_align : List ℕ → BitCursor → Result BitCursor BitError
byte_align s c = bits_past s c (to_byte c.position)
