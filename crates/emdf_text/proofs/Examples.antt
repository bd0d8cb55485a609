-- Numbers in short texts. Assumes nothing.
use mathlib.Core.Path.{◌≡◌, refl}
use mathlib.Core.List.{[], ◌∷◌}
use Rattle.std.specs.Prelude.{Some, None}
use Rattle.emdf_text.specs.Text.{digit, scan, decimal_at}

-- "120 7"
two-numbers : decimal_at (49 ∷ 50 ∷ 48 ∷ 32 ∷ 55 ∷ []) 0 ≡ Some (120, 3)
unfolding digit scan decimal_at
two-numbers = refl

-- "120 7"
second-number : decimal_at (49 ∷ 50 ∷ 48 ∷ 32 ∷ 55 ∷ []) 4 ≡ Some (7, 5)
unfolding digit scan decimal_at
second-number = refl

-- "120 7"
no_digit : decimal_at (49 ∷ 50 ∷ 48 ∷ 32 ∷ 55 ∷ []) 3 ≡ None
unfolding digit scan decimal_at
no_digit = refl

-- "7"
past-the-text : decimal_at (55 ∷ []) 1 ≡ None
unfolding digit scan decimal_at
past-the-text = refl

-- "18446744073709551615"
largest : decimal_at (49 ∷ 56 ∷ 52 ∷ 52 ∷ 54 ∷ 55 ∷ 52 ∷ 52 ∷ 48 ∷ 55 ∷ 51 ∷ 55 ∷ 48 ∷ 57 ∷ 53 ∷ 53 ∷ 49 ∷ 54 ∷ 49 ∷ 53 ∷ []) 0 ≡ Some (18446744073709551615, 20)
unfolding digit scan decimal_at
largest = refl

-- "18446744073709551616"
too_large : decimal_at (49 ∷ 56 ∷ 52 ∷ 52 ∷ 54 ∷ 55 ∷ 52 ∷ 52 ∷ 48 ∷ 55 ∷ 51 ∷ 55 ∷ 48 ∷ 57 ∷ 53 ∷ 53 ∷ 49 ∷ 54 ∷ 49 ∷ 54 ∷ []) 0 ≡ None
unfolding digit scan decimal_at
too_large = refl

-- "007"
zeros : decimal_at (48 ∷ 48 ∷ 55 ∷ []) 0 ≡ Some (7, 3)
unfolding digit scan decimal_at
zeros = refl
