-- Runs of a slice's bits, as numbers and put into a buffer. Assumes nothing.
use mathlib.Core.Path.{◌≡◌, refl, sym, ap, ◌∙◌}
use mathlib.Core.List.{List, [], ◌∷◌, ◌++◌}
use Prim.Native.Nat.{ℕ, zero, suc, ◌+◌, ◌-◌, ◌*◌, ◌/◌, ◌%◌, ◌^◌, ◌<◌, ◌≤◌}
use native.Mathlib.Nat.{add-zero, sub-zero}
use native.Mathlib.Omega.{arith}
use native.Mathlib.Decide.{dec_lt}
use lib.ListN.{length, get_or, set, drop, get_or-append}
use lib.Pow.{high}
use lib.Seq.{sets, drop-cons, drop-drop, take-add, get_or-append-add}
use Rattle.openjoc_bitio.specs.Bits.{bit_at, bits_value, number_bits}
use Rattle.openjoc_bitio.proofs.Bits.{bit-range, value-first, value-range, value-split, length-number, number-high}
use Rattle.emdf_format.specs.Syntax.{◌⨟◌, octet_bits}
use Rattle.emdf_format.proofs.Bytes.{sets-append}
use Rattle.emdf_format.proofs.Payloads.{length-octets}
use Rattle.emdf_writer.specs.Writing.{bit_run}
use Rattle.emdf_writer.proofs.Stored.{octet-stored}

-- ---- a run is the bits of a number

get_d-number : (w v i : ℕ) → i < w → get_or (number_bits w v) i 0 ≡ v / 2 ^ (w - 1 - i) % 2
unfolding number_bits
get_d-number zero v i h = absurd (omega arith)
get_d-number (suc w) v zero h = let e : suc w - 1 - 0 ≡ w = omega arith in rw e
get_d-number (suc w) v (suc i) h = let e : suc w - 1 - suc i ≡ w - 1 - i = omega arith in rw e (get_d-number w v i (omega arith))

get_d-octets : (s : List ℕ) (p : ℕ) → p < length s * 8 → get_or (octet_bits s) p 0 ≡ bit_at s p
unfolding octet_bits ◌⨟◌ bit_at
get_d-octets [] p h = absurd (omega arith)
get_d-octets (x ∷ s) p h = go (dec_lt p 8) (λ l. get_d-octets s (p - 8) l)
  where
    go : Dec (p < 8) → (p - 8 < length s * 8 → get_or (octet_bits s) (p - 8) 0 ≡ get_or s ((p - 8) / 8) 0 / 2 ^ (7 - (p - 8) % 8) % 2) → get_or (number_bits 8 x ++ octet_bits s) p 0 ≡ get_or (x ∷ s) (p / 8) 0 / 2 ^ (7 - p % 8) % 2
    go (yes l) f =
        let i : p / 8 ≡ 0 = omega arith in
        let j : 7 - p % 8 ≡ 8 - 1 - p = omega arith in
        rw (i, j) (get_or-append (number_bits 8 x) (octet_bits s) 0 p (omega (arith, length-number 8 x)) ∙ get_d-number 8 x p l)
    go (no l) f =
        let d : p ≡ length (number_bits 8 x) + (p - 8) = omega (arith, length-number 8 x) in
        let i : p / 8 ≡ suc ((p - 8) / 8) = omega arith in
        let j : p % 8 ≡ (p - 8) % 8 = omega arith in
        ap (λ (k : ℕ). get_or (number_bits 8 x ++ octet_bits s) k 0) d ∙ get_or-append-add (number_bits 8 x) (octet_bits s) (p - 8) 0 ∙ f (omega arith) ∙ rw (i, j)

-- no bits of it
pub run-nil : (s : List ℕ) (p : ℕ) → bit_run s p 0 ≡ []
unfolding bit_run
run-nil s p = refl

-- its first bit, and the others
pub run-first : (s : List ℕ) (p n : ℕ) → p < length s * 8 → bit_run s p (suc n) ≡ bit_at s p ∷ bit_run s (suc p) n
unfolding bit_run
run-first s p n h = let k : p < length (octet_bits s) = omega (arith, length-octets s) in rw (drop-cons (octet_bits s) p 0 k, get_d-octets s p h)

pub run_value : (s : List ℕ) (p n : ℕ) → p + n ≤ length s * 8 → bit_run s p n ≡ number_bits n (bits_value s p n)
unfolding number_bits
run_value s p zero h = run-nil s p
run_value s p (suc n) h =
    let b : (bit_at s p * 2 ^ n + bits_value s (suc p) n) / 2 ^ n % 2 ≡ bit_at s p = rw (high (bit_at s p) n (value-range s (suc p) n)) (omega (arith, bit-range s p)) in
    let t : number_bits n (bit_at s p * 2 ^ n + bits_value s (suc p) n) ≡ number_bits n (bits_value s (suc p) n) = rw add-zero at (number-high n 0 (bit_at s p) (bits_value s (suc p) n)) in
    run-first s p n (omega arith) ∙ rw (value-first, b, t) (ap (λ (r : List ℕ). bit_at s p ∷ r) (run_value s (suc p) n (omega arith)))

pub length_run : (s : List ℕ) (p n : ℕ) → p + n ≤ length s * 8 → length (bit_run s p n) ≡ n
length_run s p n h = rw (run_value s p n h) (length-number n _)

-- ---- octets

-- its first t bits
pub octet-part : (s : List ℕ) (p t : ℕ) → t ≤ 8 → bits_value s p 8 / 2 ^ (8 - t) ≡ bits_value s p t
octet-part s p t h =
    let e : t + (8 - t) ≡ 8 = omega arith in
    ap (λ (n : ℕ). bits_value s p n / 2 ^ (8 - t)) (sym e) ∙ rw (value-split s p t (8 - t)) (high (bits_value s p t) (8 - t) (value-range s (p + t) (8 - t)))

-- ---- runs that are put one after another

pub run-add : (s : List ℕ) (p a b : ℕ) → bit_run s p (a + b) ≡ bit_run s p a ++ bit_run s (p + a) b
unfolding bit_run
run-add s p a b = take-add a b (drop p (octet_bits s)) ∙ rw drop-drop

pub run_none : (l s : List ℕ) (q p n : ℕ) → n ≡ 0 → sets l q (bit_run s p n) ≡ l
unfolding bit_run
run_none l s q p n e = rw e

run_join : (l s : List ℕ) (q p a b : ℕ) → p + a ≤ length s * 8 → sets (sets l q (bit_run s p a)) (q + a) (bit_run s (p + a) b) ≡ sets l q (bit_run s p (a + b))
run_join l s q p a b h = sym (rw (run-add, sets-append, length_run s p a h))

-- octets of a run from byte i on: what is left to store at the start, after k of them, and after all
pub octets-start : (l s : List ℕ) (q p n : ℕ) → sets l (q + 0 * 8) (bit_run s (p + 0 * 8) ((n - 0) * 8)) ≡ sets l q (bit_run s p (n * 8))
octets-start l s q p n = simp (add-zero, sub-zero)

pub octets-more : (l s : List ℕ) (i p n k b : ℕ) → k < n → i + k < length l → p + n * 8 ≤ length s * 8 → b ≡ bits_value s (p + k * 8) 8
    → sets (octet_bits (set l (i + k) b)) (i * 8 + (k + 1) * 8) (bit_run s (p + (k + 1) * 8) ((n - (k + 1)) * 8)) ≡ sets (octet_bits l) (i * 8 + k * 8) (bit_run s (p + k * 8) ((n - k) * 8))
octets-more l s i p n k b h g f e =
    let w : (i + k) * 8 ≡ i * 8 + k * 8 = omega arith in
    let x : (n - k) * 8 ≡ 8 + (n - (k + 1)) * 8 = omega arith in
    let y : i * 8 + (k + 1) * 8 ≡ i * 8 + k * 8 + 8 = omega arith in
    let z : p + (k + 1) * 8 ≡ p + k * 8 + 8 = omega arith in
    rw (octet-stored l (i + k) b g, w, x, y, z, e, ← run_value s (p + k * 8) 8 (omega arith)) (run_join (octet_bits l) s (i * 8 + k * 8) (p + k * 8) 8 ((n - (k + 1)) * 8) (omega arith))

-- where there are none, their place doesn't matter
octets-at : (l s : List ℕ) (x y p m : ℕ) → (0 < m → x ≡ y) → sets l x (bit_run s p (m * 8)) ≡ sets l y (bit_run s p (m * 8))
octets-at l s x y p zero h = run_none l s x p _ (omega arith) ∙ sym (run_none l s y p _ (omega arith))
octets-at l s x y p (suc m) h = ap (λ (k : ℕ). sets l k (bit_run s p (suc m * 8))) (h (omega arith))

-- a run in three parts: h bits, m octets from byte i on, the other bits
pub run-parts : (l s : List ℕ) (q p n h m i : ℕ) → p + n ≤ length s * 8 → h + m * 8 ≤ n → (0 < m → i * 8 ≡ q + h)
    → sets (sets (sets l q (bit_run s p h)) (i * 8) (bit_run s (p + h) (m * 8))) (q + (h + m * 8)) (bit_run s (p + (h + m * 8)) (n - (h + m * 8))) ≡ sets l q (bit_run s p n)
run-parts l s q p n h m i f g e =
    let d : h + m * 8 + (n - (h + m * 8)) ≡ n = omega arith in
    rw (octets-at (sets l q (bit_run s p h)) s (i * 8) (q + h) (p + h) m e, run_join l s q p h (m * 8) (omega arith))
    (run_join l s q p (h + m * 8) (n - (h + m * 8)) (omega arith) ∙ rw d)
