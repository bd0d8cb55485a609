-- The bits of a list of bytes, the most significant bit of each byte first. Assumes nothing.
use Rattle.std.specs.Prelude.{ℕ, zero, suc, ◌+◌, ◌-◌, ◌*◌, ◌/◌, ◌%◌, ◌^◌, List, [], ◌∷◌, get_or}

-- the bit at position p, counted from the first byte's most significant bit
unfoldable pub bit_at : List ℕ → ℕ → ℕ
bit_at s p = get_or s (p / 8) 0 / 2 ^ (7 - p % 8) % 2

-- the number that the w bits from position p make, the first of them the most significant
unfoldable pub bits_value : List ℕ → ℕ → ℕ → ℕ
bits_value s p zero = 0
bits_value s p (suc w) = bits_value s p w * 2 + bit_at s (p + w)

-- the bits from position p to the end of its octet and of the seven after it, at the top of a word of 64; past the list they are 0
unfoldable pub window_at : List ℕ → ℕ → ℕ
window_at s p = bits_value s p (64 - p % 8) * 2 ^ (p % 8)

-- the w low bits of v, the most significant first
unfoldable pub number_bits : ℕ → ℕ → List ℕ
number_bits zero v = []
number_bits (suc w) v = v / 2 ^ w % 2 ∷ number_bits w v
