-- Octets that stand at a position, as numbers. Assumes nothing.
use mathlib.Core.Path.{◌≡◌, refl, sym, ap, ◌∙◌}
use mathlib.Core.List.{List}
use Prim.Native.Nat.{ℕ, zero, suc, ◌+◌, ◌-◌, ◌*◌, ◌≤◌, ◌<◌}
use native.Mathlib.Omega.{arith}
use native.Mathlib.Nat.{add-zero, le_refl}
use lib.ListN.{take, drop}
use lib.Dec.{leb, eqb}
use borrow.Author.Tests.{le-leb, lt-leb, eq-eqb, ne_eqb}
use mathlib.Core.Bool.{Bool, true, false}
use Rattle.std.specs.Prelude.{if◌then◌else◌, MatchResult, Result, Ok, Err}
use Rattle.openjoc_bitio.specs.Bits.{bits_value}
use Rattle.openjoc_bitio.specs.Cursor.{bits_remaining, past, read_bits}
use Rattle.openjoc_bitio.specs.declared.BitError.{BitError}
use Rattle.openjoc_bitio.specs.declared.BitError.TheVariants.{EndOfInput}
use Rattle.openjoc_bitio.specs.declared.BitCursor.{BitCursor}
use Rattle.openjoc_bitio.proofs.Bits.{value_none, value-split}
use Rattle.emdf_format.specs.Calls.{octets_at}
use Rattle.emdf_format.specs.Contents.{protection_length}
use Rattle.emdf_format.specs.Reader.{got, refused, ask, cursor_at, remaining, bits, octets}
use Rattle.emdf_format.specs.Reading.{padding}
use Rattle.emdf_format.specs.declared.EmdfError.TheVariants.{ExcessPadding, NonzeroPadding}
use Rattle.emdf_format.proofs.Standing.{bit_limit, remaining-limit, T_of, T-not-of, bind-go, ask-go, ask-refuses, ask-fine}
use Rattle.emdf_format.proofs.Loops.{bits-there}
use Rattle.emdf_container.specs.Container.{bytes_number, protection_bytes, bytes_answer, value_there}
use Rattle.emdf_fields.proofs.Octets.{length-octets-at, Passed}

-- octets, taken after k bits that make v
octets-number : (s : List ℕ) (p k n : ℕ) → bytes_number (bits_value s p k) (octets_at s (p + k) n) ≡ bits_value s p (k + 8 * n)
unfolding bytes_number octets_at
octets-number s p k zero = let z : k + 8 * 0 ≡ k = omega arith in rw z
octets-number s p k (suc n) =
    let z : p + k + 8 ≡ p + (k + 8) = omega arith in
    let y : k + 8 + 8 * n ≡ k + 8 * suc n = omega arith in
    let v : bits_value s p k * 256 + bits_value s (p + k) 8 ≡ bits_value s p (k + 8) = sym (value-split s p k 8) in
    ap (λ (w : ℕ). bytes_number w (octets_at s (p + k + 8) n)) v
    ∙ ap (λ (q : ℕ). bytes_number (bits_value s p (k + 8)) (octets_at s q n)) z
    ∙ octets-number s p (k + 8) n
    ∙ ap (bits_value s p) y

pub octets-value : (s : List ℕ) (p n : ℕ) → bytes_number 0 (octets_at s p n) ≡ bits_value s p (8 * n)
octets-value s p n =
    let h = octets-number s p 0 n in
    let z : 0 + 8 * n ≡ 8 * n = omega arith in
    rw (value_none, add-zero, z) at h

octets-take : (s : List ℕ) (p k n : ℕ) → take k (octets_at s p (k + n)) ≡ octets_at s p k
unfolding octets_at
octets-take s p zero n = refl
octets-take s p (suc k) n = let z : suc k + n ≡ suc (k + n) = omega arith in rw (z, octets-take s (p + 8) k n)

octets-drop : (s : List ℕ) (p k n : ℕ) → drop k (octets_at s p (k + n)) ≡ octets_at s (p + 8 * k) n
unfolding octets_at
octets-drop s p zero n = let z : 0 + n ≡ n = omega arith in let y : p + 8 * 0 ≡ p = omega arith in rw (z, y)
octets-drop s p (suc k) n =
    let z : suc k + n ≡ suc (k + n) = omega arith in
    let y : p + 8 + 8 * k ≡ p + 8 * suc k = omega arith in
    rw z (rw y at (octets-drop s (p + 8) k n))

-- ---- at most 16 octets, as two numbers

there : (s : List ℕ) (c : BitCursor) (n : ℕ) → n ≤ bits_remaining s c → value_there s c n ≡ bits_value s c.position n
unfolding value_there
there s c n h = simp (le-leb n (bits_remaining s c) h)

high-octets : (s : List ℕ) (p n : ℕ) → bytes_number 0 (take (n - 8) (octets_at s p n)) ≡ bits_value s p (8 * (n - 8))
high-octets s p n =
    let z : n ≡ n - 8 + (n - (n - 8)) = omega arith in
    ap (λ (m : ℕ). bytes_number 0 (take (n - 8) (octets_at s p m))) z ∙ ap (bytes_number 0) (octets-take s p (n - 8) (n - (n - 8))) ∙ octets-value s p (n - 8)

low-octets : (s : List ℕ) (p n : ℕ) → bytes_number 0 (drop (n - 8) (octets_at s p n)) ≡ bits_value s (p + 8 * (n - 8)) (8 * (n - (n - 8)))
low-octets s p n =
    let z : n ≡ n - 8 + (n - (n - 8)) = omega arith in
    ap (λ (m : ℕ). bytes_number 0 (drop (n - 8) (octets_at s p m))) z ∙ ap (bytes_number 0) (octets-drop s p (n - 8) (n - (n - 8))) ∙ octets-value s (p + 8 * (n - 8)) (n - (n - 8))

protection-is : (s : List ℕ) (p n : ℕ) {high low : ℕ} → high ≡ bits_value s p (8 * (n - 8)) → low ≡ bits_value s (p + 8 * (n - 8)) (8 * (n - (n - 8)))
    → record { length = record { 0 = n }; high = high; low = low } ≡ protection_bytes (octets_at s p n)
unfolding protection_bytes
protection-is s p n h l = rw (length-octets-at, high-octets, low-octets, h, l)

pub long-is : (s : List ℕ) (p n : ℕ) {high low : ℕ} → n ≡ 16 → high ≡ bits_value s p 64 → low ≡ bits_value s (p + 64) 64
    → record { length = record { 0 = n }; high = high; low = low } ≡ protection_bytes (octets_at s p n)
long-is s p n e h l = rw e (protection-is s p 16 h l)

pub short-is : (s : List ℕ) (p n : ℕ) {low : ℕ} → n ≤ 8 → low ≡ bits_value s p (8 * n) → record { length = record { 0 = n }; high = 0; low = low } ≡ protection_bytes (octets_at s p n)
short-is s p n k l =
    let z : n - 8 ≡ 0 = omega arith in
    let y : p + 8 * 0 ≡ p = omega arith in
    let x : n - 0 ≡ n = omega arith in
    protection-is s p n (rw z (sym (value_none s p))) (rw (z, y, x) l)

-- ---- the code's answers

-- the value that a read answers, and 0 where its bits are not there
pub value_read : (s : List ℕ) (c : BitCursor) (n : ℕ) (r : Result (ℕ × BitCursor) BitError) {v : ℕ} {P : ℕ × BitCursor → Type 0}
    → n ≤ 64 → r ≡ read_bits s c n → MatchResult r P (λ _. v ≡ 0) → ((x : ℕ × BitCursor) → P x → v ≡ x.0) → v ≡ value_there s c n
unfolding read_bits value_there
value_read s c n r {v} {P} h i m is = go (leb n (bits_remaining s c)) (rw (simp (le-leb n 64 h) at i) at m)
  where
    go : (t : Bool) → MatchResult (if t then Ok (bits_value s c.position n, past c n) else Err (EndOfInput n (bits_remaining s c))) P (λ _. v ≡ 0) → v ≡ (if t then bits_value s c.position n else 0)
    go true f = is _ f
    go false f = f

pub protection-long : (c : ℕ) → 3 ≤ c → 16 ≡ protection_length c
unfolding protection_length
protection-long zero h = absurd (omega arith)
protection-long (suc zero) h = absurd (omega arith)
protection-long (suc (suc zero)) h = absurd (omega arith)
protection-long (suc (suc (suc c))) h = refl

-- ---- padding

asked-no : (v : ℕ) (s : List ℕ) (e p : ℕ) → (v ≡ 0 → ⊥) → ask (eqb v 0) NonzeroPadding s e p ≡ refused NonzeroPadding p
unfolding ask
asked-no v s e p k = rw (ne_eqb v 0 k)

module _ (s : List ℕ) (e p : ℕ) where
  abbrev rest : ℕ
  rest = bits_remaining s (cursor_at e p)

  left : remaining s e p ≡ got rest p
  unfolding remaining
  left = refl

  all_there : rest ≤ 7 → bits rest s e p ≡ got (bits_value s p rest) (p + rest)
  all_there h = bits-there rest s e p (omega arith) (omega (arith, remaining-limit s e p))

  pub pad-excess : 7 < rest → padding s e p ≡ refused (ExcessPadding rest) p
  unfolding padding
  pad-excess h = bind-go remaining _ left (ask-refuses _ _ _ s e p (T-not-of (lt-leb rest 7 h)))

  pub pad-nonzero : rest ≤ 7 → (bits_value s p rest ≡ 0 → ⊥) → padding s e p ≡ refused NonzeroPadding (p + rest)
  unfolding padding
  pad-nonzero h k =
      bind-go remaining _ left (ask-go _ _ _ (T_of (le-leb rest 7 h)) (bind-go (bits rest) _ (all_there h) (asked-no (bits_value s p rest) s e (p + rest) k)))

  pub padding-there : rest ≤ 7 → bits_value s p rest ≡ 0 → padding s e p ≡ got tt (p + rest)
  unfolding padding
  padding-there h k =
      bind-go remaining _ left (ask-go _ _ _ (T_of (le-leb rest 7 h)) (bind-go (bits rest) _ (all_there h) (ask-fine _ _ s e (T_of (eq-eqb (bits_value s p rest) 0 k)) refl)))

pub rest-value : (s : List ℕ) (c : BitCursor) {n : ℕ} → n ≡ bits_remaining s c → value_there s c n ≡ bits_value s c.position (bits_remaining s c)
rest-value s c {n} h = rw h (there s c (bits_remaining s c) (le_refl _))

-- ---- a protection, read in two parts

pub bytes-are : (s : List ℕ) (c : BitCursor) (n : ℕ) {past : BitCursor} {more high low : ℕ} → Passed s c.end c.position n past → more ≡ n - 8
    → high ≡ value_there s c (more * 8) → low ≡ value_there s (cursor_at c.end (c.position + more * 8)) ((n - more) * 8)
    → Ok (record { length = record { 0 = n }; high = high; low = low }, past) ≡ bytes_answer c.end (octets n s c.end c.position)
unfolding bytes_answer
bytes-are s c n {past} {more} {high} {low} d m h l =
    let q = c.position + (n - 8) * 8 in
    let r : bits_remaining s c ≡ bit_limit s c.end - c.position = remaining-limit s c.end c.position in
    let k : bits_remaining s (cursor_at c.end q) ≡ bit_limit s c.end - q = remaining-limit s c.end q in
    let i : (n - 8) * 8 ≡ 8 * (n - 8) = omega arith in
    let j : (n - (n - 8)) * 8 ≡ 8 * (n - (n - 8)) = omega arith in
    let h' : high ≡ bits_value s c.position (8 * (n - 8)) = rw (m, i) at h ∙ there s c (8 * (n - 8)) (omega (arith, d.room)) in
    let l' : low ≡ bits_value s (c.position + 8 * (n - 8)) (8 * (n - (n - 8))) =
    rw (m, j) at l ∙ there s (cursor_at c.end q) (8 * (n - (n - 8))) (omega (arith, d.room)) ∙ ap (λ (z : ℕ). bits_value s (c.position + z) (8 * (n - (n - 8)))) i in
    rw (d.is, protection-is s c.position n h' l', ← d.end)
