-- Laws of a number in text. Assumes nothing.
use mathlib.Core.Path.{◌≡◌, refl, ap}
use mathlib.Core.List.{List, [], ◌∷◌}
use mathlib.Core.Bool.{Bool, true, false, cond, ◌&&◌}
use Prim.Native.Nat.{ℕ, suc, ◌+◌, ◌-◌, ◌*◌, ◌^◌, ◌<◌, ◌≤◌}
use native.Mathlib.Nat.{add-zero, add-suc}
use native.Mathlib.Numerals.{add-one}
use native.Mathlib.Omega.{arith}
use lib.ListN.{length, get_or, get_or-eq_default, drop, length-drop, drop_of_length-le}
use lib.Seq.{drop-cons}
use lib.Dec.{ltb, leb}
use Rattle.std.specs.Prelude.{slice_range, Option, Some, None}
use Rattle.std.specs.Char.{is_ascii_digit}
use Rattle.std.proofs.lemmas.List.{get_or-drop}
use Rattle.std.proofs.lemmas.Slice.{between_to_end}
use Rattle.emdf_text.specs.Text.{digit, scan, decimal_at}

-- ---- a scan, a byte at a time

digit-is : (b : ℕ) → digit b ≡ is_ascii_digit b
unfolding digit
digit-is b = go (leb 48 b)
  where
    go : (t : Bool) → cond t (leb b 57) false ≡ t && leb b 57
    go true = refl
    go false = refl

-- with a digit after those that make v
abbrev more : ℕ → ℕ → ℕ
more v b = v * 10 + (b - 48)

-- bs are the bytes from index at on, of which the scan has passed i
pub scan-step : (bs : List ℕ) (v at i : ℕ) → i < length bs
    → (let b : ℕ = get_or bs i 0 in
    scan v (at + i) (drop i bs) ≡ cond (is_ascii_digit b) (cond (ltb (more v b) (2 ^ 64)) (scan (more v b) (at + (i + 1)) (drop (i + 1) bs)) None) (Some (v, at + i)))
unfolding scan
scan-step bs v at i h = rw (drop-cons bs i 0, digit-is, add-one, add-suc)

pub scan-end : (bs : List ℕ) (v j i : ℕ) → length bs ≤ i → scan v j (drop i bs) ≡ Some (v, j)
unfolding scan
scan-end bs v j i h = rw (drop_of_length-le bs h)

-- rest is what is left from index at on
pub decimal-is : {rest : List ℕ} (s : List ℕ) (at : ℕ) → rest ≡ slice_range s at (length s)
    → decimal_at s at ≡ cond (is_ascii_digit (get_or rest 0 0)) (scan 0 at rest) None
unfolding decimal_at
decimal-is s at e = rw (e, between_to_end s at (length s) (omega arith), get_or-drop, add-zero, digit-is)

pub past : (s : List ℕ) (at : ℕ) → length s ≤ at → decimal_at s at ≡ None
unfolding digit decimal_at
past s at h = rw (get_or-eq_default s 0 h)

-- ---- where a number lies

same-end : {v w m n : ℕ} → ◌≡◌ {A = Option (ℕ × ℕ)} (Some (v, m)) (Some (w, n)) → m ≡ n
same-end {v} {w} {m} {n} e = let p : ◌≡◌ {A = ℕ × ℕ} (v, m) (w, n) = cc in ap (λ (x : ℕ × ℕ). x.1) p

scan-inside : (bs : List ℕ) (v i w n : ℕ) → scan v i bs ≡ Some (w, n) → (cond (digit (get_or bs 0 0)) (suc i) i ≤ n) × (n ≤ i + length bs)
unfolding digit scan
scan-inside [] v i w n e = omega (arith, same-end e)
scan-inside (b ∷ bs) v i w n e = go (digit b) (ltb (more v b) (2 ^ 64)) (digit (get_or bs 0 0)) (scan-inside bs (more v b) (suc i) w n) e
  where
    go : (p q r : Bool) {x : Option (ℕ × ℕ)} → (x ≡ Some (w, n) → (cond r (suc (suc i)) (suc i) ≤ n) × (n ≤ suc i + length bs))
        → cond p (cond q x None) (Some (v, i)) ≡ Some (w, n) → (cond p (suc i) i ≤ n) × (n ≤ i + suc (length bs))
    go true true r f e = grind (arith, f e)
    go true false r f e = cc
    go false q r f e = omega (arith, same-end e)

-- a number has a digit, and ends in the text
pub number-inside : (s : List ℕ) (at v n : ℕ) → decimal_at s at ≡ Some (v, n) → (at < n) × (n ≤ length s)
unfolding decimal_at
number-inside s at v n e = go (digit (get_or s at 0)) refl e
  where
    go : (p : Bool) → digit (get_or s at 0) ≡ p → cond p (scan 0 at (drop at s)) None ≡ Some (v, n) → (at < n) × (n ≤ length s)
    go true d e = let h = rw (get_or-drop, add-zero, d) at (scan-inside (drop at s) 0 at v n e) in omega (arith, h, length-drop {A = ℕ})
    go false d e = cc
