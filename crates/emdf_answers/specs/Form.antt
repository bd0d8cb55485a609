-- Numbers as bytes, the most significant first: the form of every answer to a host. Assumes nothing.
use Rattle.std.specs.Prelude.{ℕ, zero, suc, ◌*◌, ◌/◌, ◌%◌, ◌^◌, List, [], ◌∷◌, ◌++◌}
use Rattle.openjoc_bitio.specs.Bits.{bits_value}

-- a payload's row in a host's table, and the settings in it
abbrev pub row_bytes : ℕ
row_bytes = 224

abbrev pub settings_bytes : ℕ
settings_bytes = 144

-- v in n bytes
unfoldable pub big_endian : ℕ → ℕ → List ℕ
big_endian zero v = []
big_endian (suc n) v = v / 2 ^ (8 * n) % 256 ∷ big_endian n v

-- numbers, 8 bytes each
unfoldable pub words : List ℕ → List ℕ
words [] = []
words (v ∷ vs) = big_endian 8 v ++ words vs

-- number k of some bytes, 8 bytes each
unfoldable pub number_at : List ℕ → ℕ → ℕ
number_at s k = bits_value s (64 * k) 64

-- the version of the forms: it rises whenever the size or the meaning of an answer, a row, settings or a refusal changes, or what
-- a call leaves
unfoldable pub version : ℕ
version = 5
