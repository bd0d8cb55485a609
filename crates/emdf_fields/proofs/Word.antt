-- Bits that stand in a word are those that the readers of emdf_format find. Assumes nothing.
use mathlib.Core.Path.{◌≡◌, sym, ap, ◌∙◌}
use mathlib.Core.Bool.{false}
use mathlib.Core.List.{List}
use Prim.Native.Nat.{ℕ, ◌+◌, ◌-◌, ◌*◌, ◌/◌, ◌%◌, ◌^◌, ◌≤◌, ◌<◌}
use native.Mathlib.Omega.{arith}
use native.Mathlib.Decide.{dec_le}
use lib.Dec.{eqb}
use lib.Pow.{shl-shr, shr-shr, field, low}
use Rattle.openjoc_bitio.specs.Bits.{bits_value, window_at}
use Rattle.openjoc_bitio.proofs.Bits.{value-split, value-range, window-top}
use Rattle.emdf_format.specs.Reader.{got, bits}
use Rattle.emdf_format.proofs.Standing.{bit_limit, T-not-of, neqb→ne}
use Rattle.emdf_format.proofs.Loops.{bits-there}
use Rattle.emdf_fields.specs.Word.{top, after}

-- the first m bits of x are those of s from position p on
pub record Word (s : List ℕ) (p m x : ℕ) : Type 0 where
  pub is : (n : ℕ) → n ≤ m → top n x ≡ bits_value s p n

pub word-window : (s : List ℕ) (p : ℕ) → Word s p 57 (window_at s p)
word-window s p = record { is = λ n h. window-top s p n h }

pub word_after : {s : List ℕ} {p m x : ℕ} (a : ℕ) → m ≤ 64 → a ≤ m → Word s p m x → Word s (p + a) (m - a) (after a x)
word_after {s} {p} {m} {x} a l h w = record { is = bits-after }
  where
    bits-after : (n : ℕ) → n ≤ m - a → top n (after a x) ≡ bits_value s (p + a) n
    bits-after n k =
        let e = 64 - (a + n) in
        let i : 64 ≡ n + (64 - n) = omega arith in
        let j : 64 - n ≡ a + e = omega arith in
        let above : x * 2 ^ a % 2 ^ 64 / 2 ^ (64 - n) ≡ x * 2 ^ a / 2 ^ (64 - n) % 2 ^ n = ap (λ (z : ℕ). x * 2 ^ a % 2 ^ z / 2 ^ (64 - n)) i ∙ field (x * 2 ^ a) n (64 - n) in
        let moved : x * 2 ^ a / 2 ^ (64 - n) ≡ x / 2 ^ e = ap (λ (z : ℕ). x * 2 ^ a / 2 ^ z) j ∙ sym (shr-shr (x * 2 ^ a) a e) ∙ ap (λ (z : ℕ). z / 2 ^ e) (shl-shr x a) in
        above ∙ ap (λ (z : ℕ). z % 2 ^ n) (moved ∙ w.is (a + n) (omega arith) ∙ value-split s p a n) ∙ low (bits_value s p a) n (value-range s (p + a) n)

-- a flag that is not 0
pub flag-set : (v : ℕ) → v < 2 → eqb v 0 ≡ false → v ≡ 1
flag-set v l h = let f = neqb→ne v 0 (T-not-of h) in elim (dec_le 1 v) [
  | yes k ↦ omega arith
  | no k ↦ absurd (f (omega arith))
]

-- ---- bits that are there, from a word

module _ {s : List ℕ} {p m x : ℕ} (w : Word s p m x) where
  -- the k low ones of the first n + k bits
  pub word_low : (n k : ℕ) → n + k ≤ m → top (n + k) x % 2 ^ k ≡ bits_value s (p + n) k
  word_low n k h = ap (λ (v : ℕ). v % 2 ^ k) (w.is (n + k) h ∙ value-split s p n k) ∙ low (bits_value s p n) k (value-range s (p + n) k)

  pub flag-range : 1 ≤ m → top 1 x < 2
  flag-range h = rw (w.is 1 h) (value-range s p 1)

module _ {s : List ℕ} {p m x : ℕ} (w : Word s p m x) (e : ℕ) where
  pub word-bits : (n : ℕ) → n ≤ 64 → n ≤ m → p + n ≤ bit_limit s e → bits n s e p ≡ got (top n x) (p + n)
  word-bits n h k l = bits-there n s e p h (omega arith) ∙ ap (λ (v : ℕ). got v (p + n)) (sym (w.is n k))
