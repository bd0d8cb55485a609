-- The fields of Annex H in the direction of writing, as bits: what a value looks like in a container. Assumes nothing.
use Rattle.std.specs.Prelude.{List, [], ◌∷◌, ◌++◌, ℕ, zero, suc, ◌+◌, ◌-◌, ◌*◌, ◌/◌, ◌%◌, ◌^◌, ltb, if◌then◌else◌, Option, Some, None}
use Rattle.openjoc_bitio.specs.Bits.{number_bits}

-- the first 16 bits of a carrier
abbrev pub syncword : ℕ
syncword = 0x5838

-- the most bytes that a container declares, in 16 bits
abbrev pub most_declared : ℕ
most_declared = 65535

infixr 65 ◌⨟◌
-- some bits and then others; not the library's _++_, so that proofs open it where they choose
unfoldable pub ◌⨟◌ : List ℕ → List ℕ → List ℕ
xs ⨟ ys = xs ++ ys

-- ---- variable_bits(w), clause H.2.1.2.1

-- the groups before the last, where k is the value over 2^w: those of k − 1, all with more set (the first number bounds them)
unfoldable pub groups_before : ℕ → ℕ → ℕ → List ℕ
groups_before zero w k = []
groups_before (suc f) w zero = []
groups_before (suc f) w (suc u) = groups_before f w (u / 2 ^ w) ⨟ number_bits w (u % 2 ^ w) ⨟ (1 ∷ [])

-- the value v: where it is 2^w or more, first (v / 2^w) − 1 with more set; then v mod 2^w, with more clear
unfoldable pub variable_field : ℕ → ℕ → List ℕ
variable_field w v = groups_before (v / 2 ^ w) w (v / 2 ^ w) ⨟ number_bits w (v % 2 ^ w) ⨟ (0 ∷ [])

-- how many groups stand before the last, and how many there are
unfoldable pub count_before : ℕ → ℕ → ℕ → ℕ
count_before zero w k = 0
count_before (suc f) w zero = 0
count_before (suc f) w (suc u) = suc (count_before f w (u / 2 ^ w))

unfoldable pub groups : ℕ → ℕ → ℕ
groups w v = suc (count_before (v / 2 ^ w) w (v / 2 ^ w))

-- how many values g groups hold: 2^w + 2^(2w) + .. + 2^(gw)
unfoldable pub capacity : ℕ → ℕ → ℕ
capacity w zero = 0
capacity w (suc g) = capacity w g + 2 ^ (suc g * w)

-- ---- a field with an escape: w bits, all ones where a variable field follows, which is added to them

unfoldable pub escape : ℕ → ℕ
escape w = 2 ^ w - 1

unfoldable pub extended_field : ℕ → ℕ → List ℕ
extended_field w v = if ltb v (escape w) then number_bits w v else number_bits w (escape w) ⨟ variable_field w (v - escape w)

-- how many groups follow the escape; below it there is no variable field
unfoldable pub extended_groups : ℕ → ℕ → ℕ
extended_groups w v = if ltb v (escape w) then 0 else groups w (v - escape w)

-- ---- octets, and fields that may be absent

unfoldable pub octet_bits : List ℕ → List ℕ
octet_bits [] = []
octet_bits (b ∷ bs) = number_bits 8 b ⨟ octet_bits bs

-- a flag and, where it is set, the field
unfoldable pub flagged_field : (ℕ → List ℕ) → Option ℕ → List ℕ
flagged_field field None = 0 ∷ []
flagged_field field (Some v) = 1 ∷ field v

-- the field, where it is present
unfoldable pub present_field : (ℕ → List ℕ) → Option ℕ → List ℕ
present_field field None = []
present_field field (Some v) = field v
