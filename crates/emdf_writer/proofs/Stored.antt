-- Bits set in a list of bits, and the stores of bytes that set them. Assumes nothing.
use mathlib.Core.Path.{◌≡◌, refl, sym, ap, ◌∙◌}
use mathlib.Core.List.{List, [], ◌∷◌, ◌++◌}
use Prim.Native.Nat.{ℕ, zero, suc, ◌+◌, ◌-◌, ◌*◌, ◌/◌, ◌%◌, ◌^◌, ◌<◌, ◌≤◌}
use native.Mathlib.Nat.{add-zero, zero-add, suc-add, mod-lt, mod-eq_of_lt}
use native.Mathlib.Omega.{arith}
use lib.ListN.{length, get_or, set, length-set, length-append}
use lib.Pow.{pow_pos, pow-add, pow_mono, shr_lt, shr-shr, high}
use lib.Arith.{digits_lt}
use lib.Seq.{sets, set-append_left}
use Rattle.std.proofs.lemmas.Nat.{one_shl}
use Rattle.openjoc_bitio.specs.Bits.{number_bits}
use Rattle.openjoc_bitio.proofs.Bits.{length-number, number-high, number-low}
use Rattle.emdf_format.specs.Syntax.{◌⨟◌, octet_bits}
use Rattle.emdf_format.proofs.Bytes.{sets-append}
use Rattle.emdf_writer.specs.Writing.{byte_with}

-- ---- bits set in a list

sets-cons : (x : ℕ) (l : List ℕ) (p : ℕ) (bs : List ℕ) → sets (x ∷ l) (suc p) bs ≡ x ∷ sets l p bs
sets-cons x l p [] = refl
sets-cons x l p (b ∷ bs) = sets-cons x (set l p b) (suc p) bs

-- in the front of two parts, in the back, and all of it
sets-front : (xs ys : List ℕ) (p : ℕ) (bs : List ℕ) → p + length bs ≤ length xs → sets (xs ++ ys) p bs ≡ sets xs p bs ++ ys
sets-front xs ys p [] h = refl
sets-front xs ys p (b ∷ bs) h =
    let g : suc p + length bs ≤ length (set xs p b) = rw length-set (omega arith) in
    rw (set-append_left xs ys p b (omega arith)) (sets-front (set xs p b) ys (suc p) bs g)

sets-back : (xs ys : List ℕ) (p : ℕ) (bs : List ℕ) → sets (xs ++ ys) (length xs + p) bs ≡ xs ++ sets ys p bs
sets-back [] ys p bs = rw zero-add
sets-back (x ∷ xs) ys p bs = rw (suc-add, sets-cons) (ap (λ (r : List ℕ). x ∷ r) (sets-back xs ys p bs))

sets-all : (xs bs : List ℕ) → length xs ≡ length bs → sets xs 0 bs ≡ bs
sets-all [] [] h = refl
sets-all [] (b ∷ bs) h = absurd (omega arith)
sets-all (x ∷ xs) [] h = absurd (omega arith)
sets-all (x ∷ xs) (b ∷ bs) h = sets-cons b xs 0 bs ∙ ap (λ (r : List ℕ). b ∷ r) (sets-all xs bs (omega arith))

-- the middle of three parts
sets-middle : (xs ys zs bs : List ℕ) (p : ℕ) → length xs ≡ p → length ys ≡ length bs → sets (xs ++ ys ++ zs) p bs ≡ xs ++ bs ++ zs
sets-middle xs ys zs bs p e h =
    let d : p ≡ length xs + 0 = omega arith in
    let g : p + length bs ≤ length (xs ++ ys) = rw length-append (omega arith) in
    sets-front (xs ++ ys) zs p bs g ∙ rw (d, sets-back, sets-all ys bs h)

-- ---- a byte stored

-- where the new byte is the old one with bits set in it, these bits are set in the buffer
byte-stored : (l : List ℕ) (i a y : ℕ) (bs : List ℕ) → i < length l → a + length bs ≤ 8 → number_bits 8 y ≡ sets (number_bits 8 (get_or l i 0)) a bs
    → octet_bits (set l i y) ≡ sets (octet_bits l) (i * 8 + a) bs
unfolding octet_bits ◌⨟◌
byte-stored [] i a y bs h k e = absurd (omega arith)
byte-stored (x ∷ l) zero a y bs h k e =
    let d : 0 * 8 + a ≡ a = omega arith in
    rw (d, e) (sym (sets-front (number_bits 8 x) (octet_bits l) a bs (omega (arith, length-number 8 x))))
byte-stored (x ∷ l) (suc i) a y bs h k e =
    let d : suc i * 8 + a ≡ length (number_bits 8 x) + (i * 8 + a) = omega (arith, length-number 8 x) in
    rw (d, sets-back) (ap (λ (r : List ℕ). number_bits 8 x ++ r) (byte-stored l i a y bs (omega arith) k e))

pub octet-stored : (l : List ℕ) (i b : ℕ) → i < length l → octet_bits (set l i b) ≡ sets (octet_bits l) (i * 8) (number_bits 8 b)
octet-stored l i b h =
    let z : i * 8 + 0 ≡ i * 8 = omega arith in
    let n : length (number_bits 8 (get_or l i 0)) ≡ length (number_bits 8 b) = length-number 8 _ ∙ sym (length-number 8 b) in
    rw z at (byte-stored l i 0 b (number_bits 8 b) h (omega (arith, length-number 8 b)) (sym (sets-all _ _ n)))

-- the bits of a number in two parts
pub number-split : (n t v : ℕ) → number_bits (n + t) v ≡ number_bits n (v / 2 ^ t) ++ number_bits t v
unfolding number_bits
number-split zero t v = rw zero-add
number-split (suc n) t v =
    let c : n + t ≡ t + n = omega arith in
    let e : v / 2 ^ (n + t) ≡ v / 2 ^ t / 2 ^ n = rw (c, shr-shr) in
    rw (suc-add, e, number-split n t v)

byte-parts : (a t e x : ℕ) → a + t + e ≡ 8 → number_bits 8 x ≡ number_bits a (x / 2 ^ e / 2 ^ t) ++ number_bits t (x / 2 ^ e) ++ number_bits e x
byte-parts a t e x h = ap (λ (n : ℕ). number_bits n x) (sym h) ∙ rw (number-split (a + t) e x, number-split a t (x / 2 ^ e))

-- a number's low bits, below others
low_bits : (t x v : ℕ) → number_bits t (x * 2 ^ t + v) ≡ number_bits t v
low_bits t x v = rw add-zero at (number-high t 0 x v)

with-bits : (b a t e v : ℕ) → a + t + e ≡ 8 → v < 2 ^ t → number_bits 8 (byte_with b t e v) ≡ sets (number_bits 8 b) a (number_bits t v)
with-bits b a t e v h k =
    let c : b / 2 ^ e / 2 ^ t ≡ b / 2 ^ (t + e) = (let z : t + e ≡ e + t = omega arith in rw (z, shr-shr)) in
    let m : sets (number_bits 8 b) a (number_bits t v) ≡ number_bits a (b / 2 ^ (t + e)) ++ number_bits t v ++ number_bits e b =
    rw (byte-parts a t e b h, c) (sets-middle (number_bits a (b / 2 ^ (t + e))) (number_bits t (b / 2 ^ e)) (number_bits e b) (number_bits t v) a (length-number a _) (length-number t _ ∙ sym (length-number t v))) in
    byte-parts a t e _ h
    ∙ rw (high (b / 2 ^ (t + e) * 2 ^ t + v) e (mod-lt b (pow_pos e)), high (b / 2 ^ (t + e)) t k, low_bits t (b / 2 ^ (t + e)) v, low_bits e (b / 2 ^ (t + e) * 2 ^ t + v) (b % 2 ^ e), number-low e b)
    (sym m)

pub part-stored : (l : List ℕ) (i a t e v : ℕ) → i < length l → a + t + e ≡ 8 → v < 2 ^ t
    → octet_bits (set l i (byte_with (get_or l i 0) t e v)) ≡ sets (octet_bits l) (i * 8 + a) (number_bits t v)
part-stored l i a t e v h k m = byte-stored l i a _ (number_bits t v) h (omega (arith, length-number t v)) (with-bits _ a t e v k m)

-- byte_with as the code makes it, and that it is a byte
pub record WithCode (b t e v : ℕ) : Type 0 where
  pub is : (b / 2 ^ (t + e) * 2 ^ t % 2 ^ 64 + v) * 2 ^ e % 2 ^ 64 + b % (1 * 2 ^ e % 2 ^ 64) ≡ byte_with b t e v
  pub all : byte_with b t e v < 256

pub with_code : (b t e v : ℕ) → b < 256 → t + e ≤ 8 → v < 2 ^ t → WithCode b t e v
with_code b t e v hb h hv =
    let a = 8 - (t + e) in
    let s : a + (t + e) ≡ 8 = omega arith in
    let s' : a + t + e ≡ 8 = omega arith in
    let q : b / 2 ^ (t + e) < 2 ^ a = shr_lt a (t + e) (rw s hb) in
    let y : b / 2 ^ (t + e) * 2 ^ t + v < 2 ^ (a + t) = rw (pow-add 2 a t) (digits_lt q hv) in
    let z : (b / 2 ^ (t + e) * 2 ^ t + v) * 2 ^ e + b % 2 ^ e < 2 ^ (a + t + e) = rw (pow-add 2 (a + t) e) (digits_lt y (mod-lt b (pow_pos e))) in
    let z' : (b / 2 ^ (t + e) * 2 ^ t + v) * 2 ^ e + b % 2 ^ e < 256 = (rw s' at z) in
    let l : 2 ^ (a + t) ≤ 2 ^ 8 = pow_mono {j = 8} (omega arith) in
    let i : b / 2 ^ (t + e) * 2 ^ t < 2 ^ 64 = omega arith in
    let j : (b / 2 ^ (t + e) * 2 ^ t + v) * 2 ^ e < 2 ^ 64 = omega arith in
    record { is = rw (mod-eq_of_lt i, mod-eq_of_lt j, one_shl e 64 (omega arith)); all = z' }

-- ---- the parts of a number

-- t bits stored of n, the others to come
pub number_more : (l : List ℕ) (p n t v : ℕ) → t ≤ n → sets (sets l p (number_bits t (v / 2 ^ (n - t) % 2 ^ t))) (p + t) (number_bits (n - t) v) ≡ sets l p (number_bits n v)
number_more l p n t v h =
    let e : t + (n - t) ≡ n = omega arith in
    let a : number_bits n v ≡ number_bits t (v / 2 ^ (n - t)) ++ number_bits (n - t) v = ap (λ (x : ℕ). number_bits x v) (sym e) ∙ number-split t (n - t) v in
    let d : p + length (number_bits t (v / 2 ^ (n - t))) ≡ p + t = rw length-number in
    rw number-low (sym (rw (a, sets-append, d)))

pub number-none : (l : List ℕ) (p n v : ℕ) → n ≡ 0 → sets l p (number_bits n v) ≡ l
unfolding number_bits
number-none l p n v e = rw e

-- 16 bits as two bytes
pub u16-stored : (l : List ℕ) (i v : ℕ) → i + 1 < length l → octet_bits (set (set l i (v / 256 % 256)) (i + 1) (v % 256)) ≡ sets (octet_bits l) (i * 8) (number_bits 16 v)
u16-stored l i v h =
    let e : (i + 1) * 8 ≡ i * 8 + 8 = omega arith in
    octet-stored (set l i (v / 256 % 256)) (i + 1) (v % 256) (rw length-set h)
    ∙ rw (octet-stored l i (v / 256 % 256) (omega arith), e, number-low 8 v) (number_more (octet_bits l) (i * 8) 16 8 v (omega arith))
