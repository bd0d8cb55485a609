-- Bits put over a buffer's bits. Assumes nothing.
use Rattle.std.specs.Prelude.{ℕ, zero, suc, ◌+◌, ◌-◌, ◌*◌, ◌/◌, ◌%◌, ◌^◌, Bool, List, get_or, set, take, drop, leb, if◌then◌else◌}
use Rattle.std.proofs.lemmas.List.Edits.{sets}
use Rattle.openjoc_bitio.specs.Bits.{bit_at, number_bits}
use Rattle.openjoc_bitio.specs.Cursor.{bit_length}
use Rattle.emdf_format.specs.Syntax.{octet_bits}
use Rattle.emdf_format.specs.Contents.{◌&◌}

-- n bits of s from position p on
unfoldable pub bit_run : List ℕ → ℕ → ℕ → List ℕ
bit_run s p n = take n (drop p (octet_bits s))

-- whether w bits of a number, no more than 64, fit into out from position at on
unfoldable pub number_fits_in : List ℕ → ℕ → ℕ → Bool
number_fits_in out at w = leb w 64 & leb (at + w) (bit_length out)

-- whether n bits of s from position p on are there, and fit into out from position at on
unfoldable pub run_fits_in : List ℕ → ℕ → List ℕ → ℕ → ℕ → Bool
run_fits_in out at s p n = leb (p + n) (bit_length s) & leb (at + n) (bit_length out)

-- the bits of out after the w low bits of v are put from position at on, where they fit; else nothing is put
unfoldable pub number_put : List ℕ → ℕ → ℕ → ℕ → List ℕ
number_put out at w v = if number_fits_in out at w then sets (octet_bits out) at (number_bits w v) else octet_bits out

-- ---- a run of bits, taken bit by bit

-- the byte b with the t bits of v in place of those above its low e ones
abbrev pub byte_with : ℕ → ℕ → ℕ → ℕ → ℕ
byte_with b t e v = (b / 2 ^ (t + e) * 2 ^ t + v) * 2 ^ e + b % 2 ^ e

-- the bytes of out after the bit b is put at position at
unfoldable pub bit_put : List ℕ → ℕ → ℕ → List ℕ
bit_put out at b = set out (at / 8) (byte_with (get_or out (at / 8) 0) 1 (7 - at % 8) b)

-- n bits of s from position p on, one after another from position at on
unfoldable pub bits_put : List ℕ → ℕ → List ℕ → ℕ → ℕ → List ℕ
bits_put out at s p zero = out
bits_put out at s p (suc n) = bits_put (bit_put out at (bit_at s p)) (suc at) s (suc p) n

-- where they are there and fit; else nothing is put
unfoldable pub bit_by_bit : List ℕ → ℕ → List ℕ → ℕ → ℕ → List ℕ
bit_by_bit out at s p n = if run_fits_in out at s p n then bits_put out at s p n else out
