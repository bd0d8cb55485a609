-- Laws of bits and of the numbers that they make, for every crate that reads or writes them. Assumes nothing.
use mathlib.Core.Path.{◌≡◌, refl, sym, ap, ◌∙◌}
use mathlib.Core.List.{List, [], ◌∷◌, ◌++◌}
use Prim.Native.Nat.{ℕ, zero, suc, ◌+◌, ◌-◌, ◌*◌, ◌/◌, ◌%◌, ◌^◌, ◌<◌, ◌≤◌}
use native.Mathlib.Nat.{pow-suc, add-zero, add-suc, add_assoc, add-mul, mul_assoc, mul_comm, mul-one, mod-one, mod-eq_of_lt, lt_of_lt_of_le, div-one, zero-div, zero-mul, mul-add-div_right, mul-add-mod_self_right}
use native.Mathlib.Numerals.{add-one}
use native.Mathlib.Omega.{arith}
use lib.ListN.{length, get_or, take, drop, get_or-append, get_or-eq_default}
use lib.Seq.{get_or-take, get_or-drop}
use lib.Dec.{lit<, lit≤}
use lib.Pow.{mod-pow-add, shr-shr, shl-shr, shl_lt, high, low, pow_mono, pow-add, pow_pos}
use lib.Pow.{split as pow-split}
use Rattle.openjoc_bitio.specs.Bits.{bit_at, bits_value, window_at, number_bits}

pub bit-range : (s : List ℕ) (p : ℕ) → bit_at s p < 2
unfolding bit_at
bit-range s p = omega arith

pub value_none : (s : List ℕ) (p : ℕ) → bits_value s p 0 ≡ 0
unfolding bits_value
value_none s p = refl

-- one bit more, at the end
pub value-more : (s : List ℕ) (p w : ℕ) → bits_value s p (w + 1) ≡ bits_value s p w * 2 + bit_at s (p + w)
unfolding bits_value
value-more s p w = rw add-one

pub value-one : (s : List ℕ) (p : ℕ) → bits_value s p 1 ≡ bit_at s p
unfolding bits_value
value-one s p = rw add-zero (omega arith)

pub value-range : (s : List ℕ) (p w : ℕ) → bits_value s p w < 2 ^ w
unfolding bits_value
value-range s p zero = lit< tt
value-range s p (suc w) = rw pow-suc (omega (arith, value-range s p w, bit-range s (p + w)))

pub value-within : (s : List ℕ) (p w n : ℕ) → w ≤ n → bits_value s p w < 2 ^ n
value-within s p w n h = lt_of_lt_of_le (value-range s p w) (pow_mono h)

-- a read in two parts
pub value-split : (s : List ℕ) (p i t : ℕ) → bits_value s p (i + t) ≡ bits_value s p i * 2 ^ t + bits_value s (p + i) t
unfolding bits_value
value-split s p i zero = rw (add-zero, mul-one, add-zero)
value-split s p i (suc t) = rw (add-suc, pow-suc, ← mul_assoc, ← add_assoc) (omega (arith, value-split s p i t))

-- one bit more, at the front
pub value-first : (s : List ℕ) (p w : ℕ) → bits_value s p (suc w) ≡ bit_at s p * 2 ^ w + bits_value s (suc p) w
value-first s p w = let e : suc w ≡ 1 + w = omega arith in let f : p + 1 ≡ suc p = omega arith in rw (e, value-split, value-one, f)

-- ---- bits of one octet

half : (b e t : ℕ) → b / 2 ^ suc e % 2 ^ t * 2 + b / 2 ^ e % 2 ≡ b / 2 ^ e % 2 ^ suc t
half b e t = rw (← add-one e, ← add-one t, ← shr-shr, mod-pow-add) (omega arith)

bit-octet : (s : List ℕ) (q t e : ℕ) → q % 8 + t + e ≡ 7 → bit_at s (q + t) ≡ get_or s (q / 8) 0 / 2 ^ e % 2
unfolding bit_at
bit-octet s q t e h =
    let i : (q + t) / 8 ≡ q / 8 = omega arith in
    let j : 7 - (q + t) % 8 ≡ e = omega arith in
    rw (i, j)

-- t bits of one octet, with e bits of it below them
pub value-octet : (s : List ℕ) (q t e : ℕ) → q % 8 + t + e ≡ 8 → bits_value s q t ≡ get_or s (q / 8) 0 / 2 ^ e % 2 ^ t
unfolding bits_value
value-octet s q zero e h = sym (mod-one _)
value-octet s q (suc t) e h = rw (value-octet s q t (suc e) (omega arith), bit-octet s q t e (omega arith), half)

-- a whole octet
pub value-byte : (s : List ℕ) (i : ℕ) → get_or s i 0 < 2 ^ 8 → bits_value s (i * 8) 8 ≡ get_or s i 0
value-byte s i h =
    let e : i * 8 / 8 ≡ i = omega arith in
    value-octet s (i * 8) 8 0 (omega arith) ∙ rw (e, div-one) (mod-eq_of_lt h)

-- one octet more, at the end
pub value-bytes : (s : List ℕ) (i k : ℕ) → get_or s (i + k) 0 < 2 ^ 8 → bits_value s (i * 8) (k * 8 + 8) ≡ bits_value s (i * 8) (k * 8) * 2 ^ 8 + get_or s (i + k) 0
value-bytes s i k h = let e : i * 8 + k * 8 ≡ (i + k) * 8 = omega arith in value-split s (i * 8) (k * 8) 8 ∙ rw (e, value-byte s (i + k) h)

-- ---- bits past the slice

bit_past : (s : List ℕ) (p : ℕ) → length s * 8 ≤ p → bit_at s p ≡ 0
unfolding bit_at
bit_past s p h = rw (get_or-eq_default s 0 {n = p / 8} (omega arith), zero-div)

-- the octet that starts r bits into the byte i
pub octet-value : (s : List ℕ) (i r : ℕ) → r < 8 → get_or s i 0 < 2 ^ 8 → get_or s (i + 1) 0 < 2 ^ 8 → (get_or s i 0 * 256 + get_or s (i + 1) 0) / 2 ^ (8 - r) % 256 ≡ bits_value s (i * 8 + r) 8
octet-value s i r h a b =
    let z : (i + 1) * 8 ≡ i * 8 + 8 = omega arith in
    let e : r + 8 + (8 - r) ≡ 16 = omega arith in
    let y : bits_value s (i * 8 + 8) 8 ≡ get_or s (i + 1) 0 = rw z at (value-byte s (i + 1) b) in
    let w : get_or s i 0 * 256 + get_or s (i + 1) 0 ≡ bits_value s (i * 8) (r + 8 + (8 - r)) = sym (ap (bits_value s (i * 8)) e ∙ value-split s (i * 8) 8 8 ∙ rw (value-byte s i a, y)) in
    rw (w, value-split s (i * 8) (r + 8) (8 - r), high (bits_value s (i * 8) (r + 8)) (8 - r) (value-range s (i * 8 + (r + 8)) (8 - r)), value-split s (i * 8) r 8)
    (low (bits_value s (i * 8) r) 8 (value-range s (i * 8 + r) 8))

pub value-past : (s : List ℕ) (p w : ℕ) → length s * 8 ≤ p → bits_value s p w ≡ 0
unfolding bits_value
value-past s p zero h = refl
value-past s p (suc w) h = rw (value-past s p w h, bit_past s (p + w) (omega arith))

-- e bits more, all past the slice
pub value-pad : (s : List ℕ) (p t e : ℕ) → length s * 8 ≤ p + t → bits_value s p (t + e) ≡ bits_value s p t * 2 ^ e
value-pad s p t e h = value-split s p t e ∙ rw (value-past s (p + t) e h, add-zero)

-- ---- words of 64 bits

-- a word of which only the first t bits can be in the slice
pub value-word : (s : List ℕ) (p t e : ℕ) → t + e ≡ 64 → length s * 8 ≤ p + t → bits_value s p t * 2 ^ e % 2 ^ 64 ≡ bits_value s p 64
value-word s p t e h l = rw (← value-pad s p t e l, h) (mod-eq_of_lt (value-range s p 64))

-- the first j bits of a word are shifted out
pub value-shift : (s : List ℕ) (q j t : ℕ) → j + t ≡ 64 → bits_value s q 64 * 2 ^ j % 2 ^ 64 ≡ bits_value s (q + j) t * 2 ^ j
value-shift s q j t h =
    let e : t + j ≡ 64 = omega arith in
    let whole : bits_value s q 64 * 2 ^ j ≡ bits_value s q j * 2 ^ 64 + bits_value s (q + j) t * 2 ^ j =
    ap (λ (w : ℕ). bits_value s q w * 2 ^ j) (sym h) ∙ rw (value-split, add-mul, mul_assoc, ← pow-add 2 t j, e) in
    rw whole (low (bits_value s q j) 64 (rw e at (shl_lt t j (value-range s (q + j) t))))

pub window-past : (s : List ℕ) (p : ℕ) → length s * 8 ≤ p → window_at s p ≡ 0
unfolding window_at
window-past s p h = rw (value-past s p (64 - p % 8) h, zero-mul)

-- from the word at p's octet
pub window-word : (s : List ℕ) (p : ℕ) → bits_value s (p / 8 * 8) 64 * 2 ^ (p % 8) % 2 ^ 64 ≡ window_at s p
unfolding window_at
window-word s p =
    let e : p / 8 * 8 + p % 8 ≡ p = omega arith in
    value-shift s (p / 8 * 8) (p % 8) (64 - p % 8) (omega arith) ∙ rw e

-- from the last bits of the slice, at the top of a word
pub window-end : (s : List ℕ) (p t j : ℕ) → t + j ≡ 64 → p % 8 ≤ j → length s * 8 ≤ p + t → bits_value s p t * 2 ^ j ≡ window_at s p
unfolding window_at
window-end s p t j h k l =
    let e = j - p % 8 in
    let f : 64 - p % 8 ≡ t + e = omega arith in
    let g : e + p % 8 ≡ j = omega arith in
    rw (f, value-pad s p t e l, mul_assoc, ← pow-add 2 e (p % 8), g)

-- the first n bits of a window
pub window-top : (s : List ℕ) (p n : ℕ) → n ≤ 57 → window_at s p / 2 ^ (64 - n) ≡ bits_value s p n
unfolding window_at
window-top s p n h =
    let k = p % 8 in
    let m = 64 - k - n in
    let e : 64 - n ≡ k + m = omega arith in
    let f : 64 - k ≡ n + m = omega arith in
    let parts : bits_value s p (64 - k) ≡ bits_value s p n * 2 ^ m + bits_value s (p + n) m = ap (bits_value s p) f ∙ value-split s p n m in
    rw (e, ← shr-shr, shl-shr, parts) (high (bits_value s p n) m (value-range s (p + n) m))

-- w bits from two windows
pub windows-joined : (s : List ℕ) (p w : ℕ) → 32 ≤ w → w ≤ 64 → window_at s p / 2 ^ 32 * 2 ^ (w - 32) % 2 ^ 64 + window_at s (p + 32) / 2 ^ (64 - (w - 32)) ≡ bits_value s p w
windows-joined s p w h k =
    let low = w - 32 in
    let e : w ≡ 32 + low = omega arith in
    let f : bits_value s p 32 * 2 ^ low < 2 ^ 64 = lt_of_lt_of_le (shl_lt 32 low (value-range s p 32)) (pow_mono {j = 64} (omega arith)) in
    rw (window-top s p 32 (lit≤ tt), window-top s (p + 32) low (omega arith), mod-eq_of_lt f) (sym (ap (bits_value s p) e ∙ value-split s p 32 low))

pub window-range : (s : List ℕ) (p : ℕ) → window_at s p < 2 ^ 64
unfolding window_at
window-range s p =
    let e : 64 - p % 8 + p % 8 ≡ 64 = omega arith in
    rw e at (shl_lt (64 - p % 8) (p % 8) (value-range s p (64 - p % 8)))

-- what stands above t bits from bit j on of a sum does not reach them
bits_below : (x l j t d : ℕ) → (x * 2 ^ (j + t + d) + l) / 2 ^ j % 2 ^ t ≡ l / 2 ^ j % 2 ^ t
bits_below x l j t d =
    let e : x * 2 ^ (j + t + d) ≡ x * 2 ^ d * 2 ^ t * 2 ^ j = rw (pow-add 2 (j + t) d, pow-add 2 j t, mul_comm (2 ^ j * 2 ^ t) (2 ^ d), mul_comm (2 ^ j) (2 ^ t), ← mul_assoc, ← mul_assoc) in
    rw (e, mul-add-div_right (pow_pos j)) (mul-add-mod_self_right (x * 2 ^ d) (2 ^ t) (l / 2 ^ j))

-- eight octets, the first the most significant
pub value-eight : (s : List ℕ) (i : ℕ) → ((k : ℕ) → get_or s k 0 < 2 ^ 8)
    → get_or s i 0 * 256 ^ 7 + get_or s (i + 1) 0 * 256 ^ 6 + get_or s (i + 2) 0 * 256 ^ 5 + get_or s (i + 3) 0 * 256 ^ 4 + get_or s (i + 4) 0 * 256 ^ 3 + get_or s (i + 5) 0 * 256 ^ 2 + get_or s (i + 6) 0 * 256 ^ 1 + get_or s (i + 7) 0
    ≡ bits_value s (i * 8) 64
value-eight s i h =
    let first : bits_value s (i * 8) 8 ≡ get_or s i 0 = value-byte s i (h i) in
    let more : (k : ℕ) → bits_value s (i * 8) (k * 8 + 8) ≡ bits_value s (i * 8) (k * 8) * 2 ^ 8 + get_or s (i + k) 0 = λ k. value-bytes s i k (h (i + k)) in
    omega (arith, first, more 1, more 2, more 3, more 4, more 5, more 6, more 7)

-- the same, as a list
abbrev pub eight : List ℕ → ℕ → List ℕ
eight s i = get_or s i 0 ∷ get_or s (i + 1) 0 ∷ get_or s (i + 2) 0 ∷ get_or s (i + 3) 0 ∷ get_or s (i + 4) 0 ∷ get_or s (i + 5) 0 ∷ get_or s (i + 6) 0 ∷ get_or s (i + 7) 0 ∷ []

pub eight-bytes : (s : List ℕ) (i : ℕ) → ((k : ℕ) → get_or s k 0 < 2 ^ 8) → (k : ℕ) → get_or (eight s i) k 0 < 256
eight-bytes s i h zero = h i
eight-bytes s i h (suc zero) = h (i + 1)
eight-bytes s i h (suc (suc zero)) = h (i + 2)
eight-bytes s i h (suc (suc (suc zero))) = h (i + 3)
eight-bytes s i h (suc (suc (suc (suc zero)))) = h (i + 4)
eight-bytes s i h (suc (suc (suc (suc (suc zero))))) = h (i + 5)
eight-bytes s i h (suc (suc (suc (suc (suc (suc zero)))))) = h (i + 6)
eight-bytes s i h (suc (suc (suc (suc (suc (suc (suc zero))))))) = h (i + 7)
eight-bytes s i h (suc (suc (suc (suc (suc (suc (suc (suc k)))))))) = omega arith

-- ---- the same bits elsewhere

-- a value depends on its bits alone
pub value_same : (s r : List ℕ) (p q w : ℕ) → ((i : ℕ) → i < w → bit_at s (p + i) ≡ bit_at r (q + i)) → bits_value s p w ≡ bits_value r q w
unfolding bits_value
value_same s r p q zero h = refl
value_same s r p q (suc w) h = rw (value_same s r p q w (λ i l. h i (omega arith)), h w (omega arith))

bit-take : (s : List ℕ) (n p : ℕ) → p < n * 8 → bit_at (take n s) p ≡ bit_at s p
unfolding bit_at
bit-take s n p h = let l : p / 8 < n = omega arith in rw get_or-take

bit-drop : (s : List ℕ) (n p : ℕ) → bit_at (drop n s) p ≡ bit_at s (n * 8 + p)
unfolding bit_at
bit-drop s n p =
    let i : (n * 8 + p) / 8 ≡ n + p / 8 = omega arith in
    let j : (n * 8 + p) % 8 ≡ p % 8 = omega arith in
    rw (i, j, get_or-drop)

-- reads in the first n bytes, after them, and before bytes that follow
pub value-take : (s : List ℕ) (n p w : ℕ) → p + w ≤ n * 8 → bits_value (take n s) p w ≡ bits_value s p w
value-take s n p w h = value_same (take n s) s p p w (λ i l. bit-take s n (p + i) (omega arith))

pub value-drop : (s : List ℕ) (n p w : ℕ) → bits_value (drop n s) p w ≡ bits_value s (n * 8 + p) w
value-drop s n p w = value_same (drop n s) s p (n * 8 + p) w (λ i l. rw add_assoc (bit-drop s n (p + i)))

bit-append : (s r : List ℕ) (p : ℕ) → p < length s * 8 → bit_at (s ++ r) p ≡ bit_at s p
unfolding bit_at
bit-append s r p h = let l : p / 8 < length s = omega arith in rw get_or-append

pub value-append : (s r : List ℕ) (p w : ℕ) → p + w ≤ length s * 8 → bits_value (s ++ r) p w ≡ bits_value s p w
value-append s r p w h = value_same (s ++ r) s p p w (λ i l. bit-append s r (p + i) (omega arith))

-- ---- the bits of a number

pub length-number : (w v : ℕ) → length (number_bits w v) ≡ w
unfolding number_bits
length-number zero v = refl
length-number (suc w) v = ap suc (length-number w v)

-- the low bits of a number are those of its rest
pub number-high : (w d x l : ℕ) → number_bits w (x * 2 ^ (w + d) + l) ≡ number_bits w l
unfolding number_bits
number-high zero d x l = refl
number-high (suc w) d x l =
    let e : suc w + d ≡ w + 1 + d = omega arith in
    let f : suc w + d ≡ w + suc d = omega arith in
    let h : (x * 2 ^ (suc w + d) + l) / 2 ^ w % 2 ≡ l / 2 ^ w % 2 = rw e (bits_below x l w 1 d) in
    let t : number_bits w (x * 2 ^ (suc w + d) + l) ≡ number_bits w l = rw f (number-high w (suc d) x l) in
    rw (h, t)

pub number-low : (w v : ℕ) → number_bits w (v % 2 ^ w) ≡ number_bits w v
number-low w v =
    let e : v / 2 ^ w * 2 ^ (w + 0) + v % 2 ^ w ≡ v = rw add-zero (pow-split v w) in
    sym (number-high w 0 (v / 2 ^ w) (v % 2 ^ w)) ∙ ap (number_bits w) e
