-- Laws of the byte form of numbers. Assumes nothing.
use mathlib.Core.Path.{◌≡◌, refl, sym, ap, ◌∙◌}
use mathlib.Core.List.{List, [], ◌∷◌, ◌++◌}
use Prim.Native.Nat.{ℕ, zero, suc, ◌+◌, ◌*◌, ◌/◌, ◌%◌, ◌^◌, ◌<◌}
use native.Mathlib.Nat.{div-one, mod-one, mod-eq_of_lt}
use native.Mathlib.Omega.{arith}
use lib.Pow.{mod-pow-add}
use lib.ListN.{length, get_or, length-append}
use Rattle.openjoc_bitio.specs.Bits.{bits_value}
use Rattle.openjoc_bitio.proofs.Bits.{value_none, value-split, value-octet, value-append, value-drop}
use Rattle.emdf_answers.specs.Form.{big_endian, words, number_at}

pub length-big-endian : (n v : ℕ) → length (big_endian n v) ≡ n
unfolding big_endian
length-big-endian zero v = refl
length-big-endian (suc n) v = ap suc (length-big-endian n v)

pub length-words : (vs : List ℕ) → length (words vs) ≡ 8 * length vs
unfolding words
length-words [] = refl
length-words (v ∷ vs) = rw (length-append, length-big-endian 8 v) (omega (arith, length-words vs))

-- ---- numbers from their bytes

first_byte : (b : ℕ) (l : List ℕ) → bits_value (b ∷ l) 0 8 ≡ b % 256
first_byte b l = value-octet (b ∷ l) 0 8 0 refl ∙ rw div-one

-- n bytes, as one number
bytes-value : (n v : ℕ) → bits_value (big_endian n v) 0 (8 * n) ≡ v % 2 ^ (8 * n)
unfolding big_endian
bytes-value zero v = value_none [] 0 ∙ sym (mod-one v)
bytes-value (suc n) v =
    let e : 8 * suc n ≡ 8 + 8 * n = omega arith in
    let b : ℕ = v / 2 ^ (8 * n) % 256 in
    let l : List ℕ = big_endian n v in
    let d : bits_value (b ∷ l) 8 (8 * n) ≡ v % 2 ^ (8 * n) = sym (value-drop (b ∷ l) 1 0 (8 * n)) ∙ bytes-value n v in
    let f : b % 256 ≡ b = omega arith in
    rw (e, value-split (b ∷ l) 0 8 (8 * n), first_byte b l, f, d) (sym (mod-pow-add v 8 (8 * n)))

-- each of some numbers is read back from their bytes
pub number_read : (vs : List ℕ) (k : ℕ) → k < length vs → get_or vs k 0 < 2 ^ 64 → number_at (words vs) k ≡ get_or vs k 0
unfolding number_at words big_endian
number_read [] k h l = absurd (omega arith)
number_read (v ∷ vs) zero h l =
    value-append (big_endian 8 v) (words vs) 0 64 (omega (arith, length-big-endian 8 v)) ∙ bytes-value 8 v ∙ mod-eq_of_lt l
number_read (v ∷ vs) (suc k) h l =
    let e : 64 * suc k ≡ 8 * 8 + 64 * k = omega arith in
    rw e (sym (value-drop (big_endian 8 v ++ words vs) 8 (64 * k) 64) ∙ number_read vs k (omega arith) l)
