-- The decimal number that stands in a text. Assumes nothing.
use Rattle.std.specs.Prelude.{ℕ, suc, ◌+◌, ◌-◌, ◌*◌, ◌^◌, List, [], ◌∷◌, Bool, false, cond, get_or, drop, leb, ltb, Option, Some, None}

-- the bytes 48 to 57
unfoldable pub digit : ℕ → Bool
digit b = cond (leb 48 b) (leb b 57) false

-- the number v of the digits so far, i the index of the first byte that is left
unfoldable pub scan : ℕ → ℕ → List ℕ → Option (ℕ × ℕ)
scan v i [] = Some (v, i)
scan v i (b ∷ bs) =
    cond (digit b) (cond (ltb (v * 10 + (b - 48)) (2 ^ 64)) (scan (v * 10 + (b - 48)) (suc i) bs) None) (Some (v, i))

-- the number whose digits start at index at, and the index past its last digit
unfoldable pub decimal_at : List ℕ → ℕ → Option (ℕ × ℕ)
decimal_at s at = cond (digit (get_or s at 0)) (scan 0 at (drop at s)) None
