-- Laws of the calls at a cursor. Assumes nothing.
use mathlib.Core.Path.{◌≡◌, refl, sym}
use mathlib.Core.List.{List}
use mathlib.Core.Bool.{Bool, true, false}
use Prim.Native.Nat.{ℕ, ◌-◌, ◌*◌, ◌^◌, ◌<◌, ◌≤◌, zero-le}
use native.Mathlib.Nat.{le_refl}
use native.Mathlib.Omega.{arith}
use lib.ListN.{length}
use lib.Dec.{leb, ltb}
use borrow.Author.Tests.{leb-true, leb-false, le-leb, lt-leb, lt-ltb}
use Rattle.std.specs.Prelude.{if◌then◌else◌, Result, Ok, Err}
use Rattle.openjoc_bitio.specs.Bits.{bits_value}
use Rattle.openjoc_bitio.proofs.Results.{ok-same, err-same, ok-is-not-err, err-is-not-ok, both-same}
use Rattle.openjoc_bitio.specs.Cursor.{bit_length, bits_remaining, past, bits_past, read_bits}
use Rattle.openjoc_bitio.specs.declared.BitCursor.{BitCursor}
use Rattle.openjoc_bitio.specs.declared.BitError.{BitError}
use Rattle.openjoc_bitio.specs.declared.BitError.TheVariants.{InvalidWidth, EndOfInput}

under : {x y : ℕ} (b : Bool) → (b ≡ true → x ≤ y) → (if b then x else 0) ≤ y
under true h = h refl
under false h = zero-le

length-bits : (s : List ℕ) → bit_length s ≤ length s * 8
unfolding bit_length
length-bits s = under (ltb (length s) (2 ^ 61)) (λ h. le_refl _)

-- what is left lies before the end, and in the slice
pub remaining-end : (s : List ℕ) (c : BitCursor) → bits_remaining s c ≤ c.end - c.position
unfolding bits_remaining
remaining-end s c = under (leb c.end (bit_length s)) (λ h. le_refl _)

pub remaining-slice : (s : List ℕ) (c : BitCursor) → bits_remaining s c ≤ length s * 8 - c.position
unfolding bits_remaining
remaining-slice s c = under (leb c.end (bit_length s)) (λ h. omega (arith, leb-true c.end (bit_length s) h, length-bits s))

-- a cursor that lies in the slice
pub remaining-inside : (s : List ℕ) (c : BitCursor) → length s < 2 ^ 61 → c.end ≤ length s * 8 → bits_remaining s c ≡ c.end - c.position
unfolding bits_remaining bit_length
remaining-inside s c h k = simp (lt-ltb (length s) (2 ^ 61) h, le-leb c.end (length s * 8) k)

-- ---- the two answers past some bits

pub past-found : (s : List ℕ) (c : BitCursor) (n : ℕ) {d : BitCursor} → bits_past s c n ≡ Ok d → (n ≤ bits_remaining s c) × (past c n ≡ d)
past-found s c n {d} h = go (leb n (bits_remaining s c)) refl h
  where
    go : (t : Bool) → leb n (bits_remaining s c) ≡ t → ◌≡◌ {A = Result BitCursor BitError} (if t then Ok (past c n) else Err (EndOfInput n (bits_remaining s c))) (Ok d) → (n ≤ bits_remaining s c) × (past c n ≡ d)
    go true e f = (leb-true n (bits_remaining s c) e, ok-same f)
    go false e f = absurd (err-is-not-ok f)

pub past-ended : (s : List ℕ) (c : BitCursor) (n : ℕ) {why : BitError} → bits_past s c n ≡ Err why → (bits_remaining s c < n) × (why ≡ EndOfInput n (bits_remaining s c))
past-ended s c n {why} h = go (leb n (bits_remaining s c)) refl h
  where
    go : (t : Bool) → leb n (bits_remaining s c) ≡ t → ◌≡◌ {A = Result BitCursor BitError} (if t then Ok (past c n) else Err (EndOfInput n (bits_remaining s c))) (Err why) → (bits_remaining s c < n) × (why ≡ EndOfInput n (bits_remaining s c))
    go true e f = absurd (ok-is-not-err f)
    go false e f = (leb-false n (bits_remaining s c) e, sym (err-same f))

-- ---- the three answers of a read

pub read-accepted : (s : List ℕ) (c : BitCursor) (w : ℕ) → w ≤ 64 → w ≤ bits_remaining s c → read_bits s c w ≡ Ok (bits_value s c.position w, past c w)
unfolding read_bits
read-accepted s c w h k = simp (le-leb w 64 h, le-leb w (bits_remaining s c) k)

pub read-ended : (s : List ℕ) (c : BitCursor) (w : ℕ) → w ≤ 64 → bits_remaining s c < w → read_bits s c w ≡ Err (EndOfInput w (bits_remaining s c))
unfolding read_bits
read-ended s c w h k = simp (le-leb w 64 h, lt-leb w (bits_remaining s c) k)

pub read-too-wide : (s : List ℕ) (c : BitCursor) (w : ℕ) → 64 < w → read_bits s c w ≡ Err (InvalidWidth w)
unfolding read_bits
read-too-wide s c w h = simp (lt-leb w 64 h)

-- a read that is accepted leaves the cursor past its bits
pub read_past : (s : List ℕ) (c : BitCursor) (w : ℕ) {v : ℕ} {d : BitCursor} → read_bits s c w ≡ Ok (v, d) → past c w ≡ d
unfolding read_bits
read_past s c w {v} {d} h = go (leb w 64) (leb w (bits_remaining s c)) h
  where
    go : (x y : Bool) → ◌≡◌ {A = Result (ℕ × BitCursor) BitError} (if x then (if y then Ok (bits_value s c.position w, past c w) else Err (EndOfInput w (bits_remaining s c))) else Err (InvalidWidth w)) (Ok (v, d)) → past c w ≡ d
    go true true f = (both-same f).1
    go true false f = absurd (err-is-not-ok f)
    go false y f = absurd (err-is-not-ok f)
