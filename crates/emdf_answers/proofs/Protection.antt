-- Where a protection's bytes stand in an answer. Assumes nothing.
use mathlib.Core.Path.{◌≡◌, refl, sym, ap, ◌∙◌}
use mathlib.Core.List.{List, [], ◌∷◌, ◌++◌, append-nil, append_assoc}
use Prim.Native.Nat.{ℕ, zero, suc, ◌+◌, ◌-◌, ◌*◌, ◌/◌, ◌%◌, ◌^◌, ◌<◌, ◌≤◌}
use native.Mathlib.Nat.{div-one, zero-div, div-div-eq-div-mul, add-zero}
use native.Mathlib.Omega.{arith}
use lib.Pow.{pow-add}
use lib.ListN.{length, take, drop, length-drop, take-append-drop}
use lib.Seq.{get_or-drop, length-take-le}
use Rattle.emdf_format.specs.Edits.{Bytes}
use Rattle.emdf_container.specs.Container.{bytes_number, protection_bytes}
use Rattle.emdf_answers.specs.Form.{big_endian, words}
use Rattle.emdf_answers.specs.Replies.{padded}

-- a byte more below a number
bytes-of-sum : (n v b : ℕ) → b < 256 → big_endian (suc n) (v * 256 + b) ≡ big_endian n v ++ b ∷ []
unfolding big_endian
bytes-of-sum zero v b h = let e : (v * 256 + b) % 256 ≡ b = omega arith in rw (div-one, e)
bytes-of-sum (suc n) v b h =
    let e : 8 * suc n ≡ 8 + 8 * n = omega arith in
    let f : (v * 256 + b) / 256 ≡ v = omega arith in
    let g : (v * 256 + b) / 2 ^ (8 * suc n) ≡ v / 2 ^ (8 * n) = rw (e, pow-add 2 8 (8 * n), ← div-div-eq-div-mul (v * 256 + b) 256 (2 ^ (8 * n)), f) in
    rw g (ap (λ (l : List ℕ). v / 2 ^ (8 * n) % 256 ∷ l) (bytes-of-sum n v b h))

bytes-of-number : (n v : ℕ) (bs : List ℕ) → Bytes bs → big_endian (n + length bs) (bytes_number v bs) ≡ big_endian n v ++ bs
unfolding bytes_number
bytes-of-number n v [] h = rw add-zero (sym (append-nil (big_endian n v)))
bytes-of-number n v (b ∷ bs) h =
    let e : n + suc (length bs) ≡ suc n + length bs = omega arith in
    rw e (bytes-of-number (suc n) (v * 256 + b) bs (λ i. h (suc i)) ∙ rw (bytes-of-sum n v b (h 0)) (append_assoc (big_endian n v) (b ∷ []) bs))

bytes-of-zero : (n : ℕ) → big_endian n 0 ≡ padded n []
unfolding big_endian padded
bytes-of-zero zero = refl
bytes-of-zero (suc n) = rw (zero-div, bytes-of-zero n)

-- some bytes as a number of 8, whose first bytes are zeros
in-eight : (bs : List ℕ) → Bytes bs → length bs ≤ 8 → big_endian 8 (bytes_number 0 bs) ≡ padded (8 - length bs) [] ++ bs
in-eight bs h l =
    let e : 8 ≡ 8 - length bs + length bs = omega arith in
    rw (← bytes-of-zero (8 - length bs)) (ap (λ (n : ℕ). big_endian n (bytes_number 0 bs)) e ∙ bytes-of-number (8 - length bs) 0 bs h)

bytes-taken : (k : ℕ) (bs : List ℕ) → Bytes bs → Bytes (take k bs)
bytes-taken zero bs h i = omega arith
bytes-taken (suc k) [] h i = omega arith
bytes-taken (suc k) (b ∷ bs) h zero = h 0
bytes-taken (suc k) (b ∷ bs) h (suc i) = bytes-taken k bs (λ j. h (suc j)) i

bytes_left : (k : ℕ) (bs : List ℕ) → Bytes bs → Bytes (drop k bs)
bytes_left k bs h i = rw get_or-drop (h (k + i))

zeros-added : (m n : ℕ) → padded m [] ++ padded n [] ≡ padded (m + n) []
unfolding padded
zeros-added zero n = let e : 0 + n ≡ n = omega arith in rw e
zeros-added (suc m) n = let e : suc m + n ≡ suc (m + n) = omega arith in rw e (ap (λ (l : List ℕ). 0 ∷ l) (zeros-added m n))

module _ (bs : List ℕ) (h : Bytes bs) (l : length bs ≤ 16) where
  at-most-eight : length bs ≤ 8 → big_endian 8 0 ++ big_endian 8 (bytes_number 0 bs) ≡ padded (16 - length bs) [] ++ bs
  at-most-eight k =
      let e : 8 + (8 - length bs) ≡ 16 - length bs = omega arith in
      rw (in-eight bs h k, bytes-of-zero 8, ← append_assoc, zeros-added 8 (8 - length bs), e)

  above-eight : 8 ≤ length bs → big_endian 8 (bytes_number 0 (take (length bs - 8) bs)) ++ big_endian 8 (bytes_number 0 (drop (length bs - 8) bs)) ≡ padded (16 - length bs) [] ++ bs
  unfolding padded
  above-eight k =
      let m : ℕ = length bs - 8 in
      let a : length (take m bs) ≡ m = length-take-le m bs (omega arith) in
      let b : length (drop m bs) ≡ 8 = omega (arith, length-drop m bs) in
      let e : 8 - m ≡ 16 - length bs = omega arith in
      rw (in-eight (take m bs) (bytes-taken m bs h) (omega arith), in-eight (drop m bs) (bytes_left m bs h) (omega arith), a, b, e)
      (append_assoc (padded (16 - length bs) []) (take m bs) (drop m bs) ∙ ap (λ (r : List ℕ). padded (16 - length bs) [] ++ r) (take-append-drop m bs))

  -- the last bytes of the 16 in which an answer has a protection
  pub protection-at : words ((protection_bytes bs).high ∷ (protection_bytes bs).low ∷ []) ≡ padded (16 - length bs) [] ++ bs
  unfolding words protection_bytes bytes_number
  protection-at = rw append-nil (go (length bs - 8) refl)
    where
      go : (k : ℕ) → length bs - 8 ≡ k → big_endian 8 (bytes_number 0 (take (length bs - 8) bs)) ++ big_endian 8 (bytes_number 0 (drop (length bs - 8) bs)) ≡ padded (16 - length bs) [] ++ bs
      go zero e = rw e (at-most-eight (omega arith))
      go (suc k) e = above-eight (omega arith)
