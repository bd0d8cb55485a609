-- Lines of words and decimal numbers, as lists of ASCII codes, and how they stand in a buffer. Assumes nothing.
use Rattle.std.specs.Prelude.{ℕ, zero, suc, ◌+◌, ◌/◌, ◌%◌, ◌≤◌, ◌<◌, ◌≡◌, cond, List, [], ◌∷◌, ◌++◌, length, take, drop, ltb}
use Prim.Native.Char.{code}
use Prim.Native.String.{String, [] as nil, ◌∷◌ as cons}

abbrev pub ascii : String → List ℕ
ascii nil = []
ascii (cons c s) = code c ∷ ascii s

-- n in decimal, where it has at most k digits
unfoldable pub digits : ℕ → ℕ → List ℕ
digits zero n = []
digits (suc k) n = cond (ltb n 10) ((48 + n) ∷ []) (digits k (n / 10) ++ ((48 + n % 10) ∷ []))

unfoldable pub decimal : ℕ → List ℕ
decimal n = digits (suc n) n

-- numbers, a space before each, and the end of the line
unfoldable pub spaced : List ℕ → List ℕ
spaced [] = 10 ∷ []
spaced (n ∷ ns) = 32 ∷ decimal n ++ spaced ns

unfoldable pub line : List ℕ → List ℕ → List ℕ
line word ns = word ++ spaced ns

-- text was put at index at and ends at index end; what stood before and after it still does
pub record Printed (before : List ℕ) (at : ℕ) (text after : List ℕ) (end : ℕ) : Type 0 where
  pub is : take end after ≡ take at before ++ text
  pub rest : drop end after ≡ drop end before
  pub size : end ≡ at + length text
  pub inside : end ≤ length after

-- text is put where there is room for most bytes, and takes no more; else nothing is
pub record PrintedWithin (most : ℕ) (before : List ℕ) (at : ℕ) (text after : List ℕ) (end : ℕ) : Type 0 where
  pub put : at + most ≤ length before → Printed before at text after end × (end ≤ at + most)
  pub left : length before < at + most → (after ≡ before) × (end ≡ at)
