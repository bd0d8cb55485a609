-- Whether bits fit into a slice, and what is put there by that. Assumes nothing.
use mathlib.Core.Path.{◌≡◌, refl, sym, ◌∙◌}
use mathlib.Core.Bool.{Bool, true, false}
use mathlib.Core.List.{List}
use Prim.Native.Nat.{ℕ, ◌+◌, ◌-◌, ◌*◌, ◌^◌, ◌<◌, ◌≤◌}
use native.Mathlib.Omega.{arith}
use native.Mathlib.Decide.{dec_lt}
use lib.ListN.{length}
use lib.Dec.{leb, ltb}
use lib.Seq.{sets}
use borrow.Author.Tests.{leb-true, ltb-true, le-leb, lt-leb}
use Rattle.std.specs.Prelude.{if◌then◌else◌}
use Rattle.openjoc_bitio.specs.Bits.{number_bits}
use Rattle.openjoc_bitio.specs.Cursor.{bit_length}
use Rattle.emdf_format.specs.Syntax.{octet_bits}
use Rattle.emdf_format.specs.Contents.{◌&◌}
use Rattle.emdf_writer.specs.Writing.{number_fits_in, run_fits_in, number_put, bits_put, bit_by_bit}

-- the test without the sum
pub room-test : (limit at n : ℕ) → at ≤ limit → leb n (limit - at) ≡ leb (at + n) limit
room-test limit at n h = go (dec_lt limit (at + n))
  where
    go : Dec (limit < at + n) → leb n (limit - at) ≡ leb (at + n) limit
    go (yes l) = lt-leb n (limit - at) (omega arith) ∙ sym (lt-leb (at + n) limit l)
    go (no l) = le-leb n (limit - at) (omega arith) ∙ sym (le-leb (at + n) limit (omega arith))

-- n bits from position at on lie in s, and so positions up to their end can be counted
pub record Inside (s : List ℕ) (at n : ℕ) : Type 0 where
  pub within : at + n ≤ length s * 8
  pub small : at + n < 2 ^ 64

pub inside : (s : List ℕ) (at n : ℕ) → leb (at + n) (bit_length s) ≡ true → Inside s at n
unfolding bit_length
inside s at n h = go (ltb (length s) (2 ^ 61)) (λ e. ltb-true (length s) (2 ^ 61) e) (leb-true (at + n) (if ltb (length s) (2 ^ 61) then length s * 8 else 0) h)
  where
    go : (t : Bool) → (t ≡ true → length s < 2 ^ 61) → at + n ≤ (if t then length s * 8 else 0) → Inside s at n
    go true f l = record { within = l; small = omega (arith, f refl) }
    go false f l = record { within = omega arith; small = omega arith }

-- ---- a number

-- what is answered, and the bits that are left
abbrev Number : List ℕ → ℕ → ℕ → ℕ → Bool → List ℕ → Type 0
Number out at w v r bits = (r ≡ number_fits_in out at w) × (bits ≡ number_put out at w v)

pub number-wide : (out : List ℕ) (at w v : ℕ) → 64 < w → Number out at w v false (octet_bits out)
unfolding number_put number_fits_in ◌&◌
number-wide out at w v h = simp (lt-leb w 64 h) (refl, refl)

pub number-out : (out : List ℕ) (at w v : ℕ) → w ≤ 64 → leb (at + w) (bit_length out) ≡ false → Number out at w v false (octet_bits out)
unfolding number_put number_fits_in ◌&◌
number-out out at w v h e = simp (le-leb w 64 h, e) (refl, refl)

pub number_in : (out : List ℕ) (at w v : ℕ) → w ≤ 64 → leb (at + w) (bit_length out) ≡ true → Number out at w v true (sets (octet_bits out) at (number_bits w v))
unfolding number_put number_fits_in ◌&◌
number_in out at w v h e = simp (le-leb w 64 h, e) (refl, refl)

-- ---- a run of bits

-- what is answered, and the bytes that are left
abbrev Run : List ℕ → ℕ → List ℕ → ℕ → ℕ → Bool → List ℕ → Type 0
Run out at s p n r exit = (r ≡ run_fits_in out at s p n) × (exit ≡ bit_by_bit out at s p n)

module _ (out : List ℕ) (at : ℕ) (s : List ℕ) (p n : ℕ) where
  pub run-away : leb (p + n) (bit_length s) ≡ false → Run out at s p n false out
  unfolding bit_by_bit run_fits_in ◌&◌
  run-away e = simp e (refl, refl)

  pub run_out : leb (p + n) (bit_length s) ≡ true → leb (at + n) (bit_length out) ≡ false → Run out at s p n false out
  unfolding bit_by_bit run_fits_in ◌&◌
  run_out h e = simp (h, e) (refl, refl)

  pub run_in : leb (p + n) (bit_length s) ≡ true → leb (at + n) (bit_length out) ≡ true → Run out at s p n true (bits_put out at s p n)
  unfolding bit_by_bit run_fits_in ◌&◌
  run_in h e = simp (h, e) (refl, refl)
