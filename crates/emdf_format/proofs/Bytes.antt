-- Bytes and bits: a carrier's bytes are its bits, packed. Assumes nothing.
use mathlib.Core.Path.{◌≡◌, refl, sym, ap, ◌∙◌}
use mathlib.Core.Bool.{Bool, true, false}
use mathlib.Core.List.{List, [], ◌∷◌, ◌++◌}
use Prim.Native.Nat.{ℕ, zero, suc, ◌+◌, ◌-◌, ◌*◌, ◌/◌, ◌%◌, ◌^◌, ◌≤◌, ◌<◌}
use native.Mathlib.Omega.{arith}
use native.Mathlib.Nat.{mod-lt, mod-eq_of_lt, div-one, div-lt_iff_lt-mul, add-zero, le_trans}
use lib.ListN.{length, get_or, set, take, drop, take-append-drop, length-take, length-drop}
use lib.Seq.{sets, take_at, drop_at, drop-cons, length-take-le, take-length}
use lib.Pow.{pow_pos, high, pow_mono}
use lib.Pow.{split as pow-split}
use lib.Arith.{digits_lt}
use lib.Dec.{ltb}
use Rattle.std.specs.Prelude.{if◌then◌else◌, Option, Some, None}
use Rattle.openjoc_bitio.specs.Bits.{bits_value, number_bits}
use Rattle.openjoc_bitio.proofs.Bits.{value-octet, length-number, number-high, number-low}
use Rattle.emdf_format.specs.declared.EmdfPayloadConfig.{EmdfPayloadConfig}
use Rattle.emdf_format.specs.Syntax.{◌⨟◌, groups_before, variable_field, escape, extended_field, octet_bits, flagged_field, present_field}
use Rattle.emdf_format.specs.Contents.{Payload, Contents, codec_data_bits, sample_offset_bits, config_bits, payload_bits, payloads_bits, protection_bits, container_bits, declared, carrier_bits, bits_number, bytes_of, carrier}
use Rattle.emdf_format.proofs.Standing.{Stands, nil, cons, join, bit_limit, number-stands, length-then, stands-to}
use Rattle.emdf_format.proofs.Lengths.{length-container}

pub mono : {s : List ℕ} {e p q : ℕ} {bs : List ℕ} (e' : ℕ) → bit_limit s e ≤ bit_limit s e' → Stands s e p q bs → Stands s e' p q bs
mono e' l nil = nil
mono e' l (cons k b h) = cons (le_trans k l) b (mono e' l h)

-- at one place there is one list of bits up to an end
pub unique_to : {s : List ℕ} {e p q q' : ℕ} {xs ys : List ℕ} → Stands s e p q xs → Stands s e p q' ys → q ≡ q' → xs ≡ ys
unique_to nil nil z = refl
unique_to nil (cons l b h) z = absurd (omega (arith, stands-to h))
unique_to (cons l b h) nil z = absurd (omega (arith, stands-to h))
unique_to (cons {bs = xs} l b h) (cons {b = b'} {bs = ys} l' c k) z = rw (← b, ← c, unique_to h k z)

pub unique : {s : List ℕ} {e p q : ℕ} {xs ys : List ℕ} → Stands s e p q xs → Stands s e p q ys → xs ≡ ys
unique h k = unique_to h k refl

-- ---- what is stored in two parts

pub sets-append : (l : List ℕ) (i : ℕ) (xs ys : List ℕ) → sets l i (xs ++ ys) ≡ sets (sets l i xs) (i + length xs) ys
sets-append l i [] ys = rw add-zero
sets-append l i (x ∷ xs) ys = let e : i + suc (length xs) ≡ suc i + length xs = omega arith in rw e (sets-append (set l i x) (suc i) xs ys)

-- ---- a byte's bits

pub byte-value : (s : List ℕ) (i : ℕ) → get_or s i 0 < 256 → bits_value s (8 * i) 8 ≡ get_or s i 0
byte-value s i h =
    let d : 8 * i / 8 ≡ i = omega arith in
    value-octet s (8 * i) 8 0 (omega arith) ∙ rw (d, div-one) (mod-eq_of_lt h)

-- n bytes from byte i spell their octet_bits
pub octets-stand : (s : List ℕ) (e n i : ℕ) → i + n ≤ length s → 8 * (i + n) ≤ bit_limit s e → ((k : ℕ) → k < i + n → get_or s k 0 < 256)
    → Stands s e (8 * i) (8 * (i + n)) (octet_bits (take n (drop i s)))
unfolding octet_bits
octets-stand s e zero i h l f = rw add-zero nil
octets-stand s e (suc n) i h l f =
    let b = byte-value s i (f i (omega arith)) in
    let one : Stands s e (8 * i) (8 * i + 8) (number_bits 8 (bits_value s (8 * i) 8)) = number-stands s e (8 * i) 8 (omega arith) in
    let one' : Stands s e (8 * i) (8 * suc i) (number_bits 8 (get_or s i 0)) = rw (b, (let z : 8 * i + 8 ≡ 8 * suc i = omega arith in z)) at one in
    let z : suc i + n ≡ i + suc n = omega arith in
    let rest = octets-stand s e n (suc i) (omega arith) (omega arith) (λ k m. f k (omega arith)) in
    rw (drop-cons s i 0 (omega arith)) (join one' (rw z at rest))

-- ---- bits and numbers

pub data AllBits : List ℕ → Type 0 where
  over : AllBits []
  one : {b : ℕ} {bs : List ℕ} → b < 2 → AllBits bs → AllBits (b ∷ bs)

bits_number-lt : {bs : List ℕ} → AllBits bs → bits_number bs < 2 ^ length bs
unfolding bits_number
bits_number-lt over = omega arith
bits_number-lt (one {b} {bs} l h) =
    let g : b * 2 ^ length bs + bits_number bs < 2 ^ suc (length bs) = omega (arith, digits_lt l (bits_number-lt h)) in g

bits_number-number : (w v : ℕ) → v < 2 ^ w → bits_number (number_bits w v) ≡ v
unfolding number_bits bits_number
bits_number-number zero v h = omega arith
bits_number-number (suc w) v h =
    let d : v / 2 ^ w < 2 = (div-lt_iff_lt-mul (pow_pos w)).1 (omega arith) in
    let d' : v / 2 ^ w % 2 ≡ v / 2 ^ w = omega arith in
    let r : bits_number (number_bits w v) ≡ v % 2 ^ w = rw number-low at (bits_number-number w (v % 2 ^ w) (mod-lt v (pow_pos w))) in
    rw (length-number w v, r, d') (pow-split v w)

number-bits_number : {bs : List ℕ} → AllBits bs → number_bits (length bs) (bits_number bs) ≡ bs
unfolding number_bits bits_number
number-bits_number over = refl
number-bits_number (one {b} {bs} l h) =
    let d : b % 2 ≡ b = omega arith in
    let t : number_bits (length bs) (b * 2 ^ length bs + bits_number bs) ≡ number_bits (length bs) (bits_number bs) =
    rw add-zero at (number-high (length bs) 0 b (bits_number bs)) in
    rw (high b (length bs) (bits_number-lt h), d, t, number-bits_number h)

bits-take : (n : ℕ) {bs : List ℕ} → AllBits bs → AllBits (take n bs)
bits-take zero h = over
bits-take (suc n) over = over
bits-take (suc n) (one l h) = one l (bits-take n h)

bits-drop : (n : ℕ) {bs : List ℕ} → AllBits bs → AllBits (drop n bs)
bits-drop zero h = h
bits-drop (suc n) over = over
bits-drop (suc n) (one l h) = bits-drop n h

pub octets-bytes : (n : ℕ) (bs : List ℕ) → AllBits bs → length bs ≡ 8 * n → octet_bits (bytes_of n bs) ≡ bs
unfolding octet_bits bytes_of ◌⨟◌
octets-bytes zero [] h l = refl
octets-bytes zero (b ∷ bs) h l = absurd (omega arith)
octets-bytes (suc n) bs h l =
    let t : length (take 8 bs) ≡ 8 = length-take-le 8 bs (omega arith) in
    let k : length (drop 8 bs) ≡ 8 * n = omega (arith, length-drop 8 bs) in
    let a : number_bits 8 (bits_number (take 8 bs)) ≡ take 8 bs = rw t at (number-bits_number (bits-take 8 h)) in
    rw (octets-bytes n (drop 8 bs) (bits-drop 8 h) k, a) (take-append-drop 8 bs)

pub bytes-octets : (xs : List ℕ) → ((k : ℕ) → k < length xs → get_or xs k 0 < 256) → bytes_of (length xs) (octet_bits xs) ≡ xs
unfolding octet_bits bytes_of ◌⨟◌
bytes-octets [] f = refl
bytes-octets (x ∷ xs) f =
    rw (take_at (number_bits 8 x) (octet_bits xs) 8 (length-number 8 x), drop_at (number_bits 8 x) (octet_bits xs) 8 (length-number 8 x), bits_number-number 8 x (f 0 (omega arith)), bytes-octets xs (λ k l. f (suc k) (omega arith)))

pub length-bytes : (n : ℕ) (bs : List ℕ) → length (bytes_of n bs) ≡ n
unfolding bytes_of
length-bytes zero bs = refl
length-bytes (suc n) bs = ap suc (length-bytes n (drop 8 bs))

pub bytes_lt : (n : ℕ) {bs : List ℕ} → AllBits bs → (k : ℕ) → get_or (bytes_of n bs) k 0 < 256
unfolding bytes_of
bytes_lt zero h k = omega arith
bytes_lt (suc n) {bs} h zero =
    let l = bits_number-lt (bits-take 8 h) in
    let m : length (take 8 bs) ≤ 8 = omega (arith, length-take 8 bs) in
    let k : 2 ^ length (take 8 bs) ≤ 2 ^ 8 = pow_mono m in
    le_trans l k
bytes_lt (suc n) h (suc k) = bytes_lt n (bits-drop 8 h) k

-- ---- what is written is bits

pub bits-then : {xs ys : List ℕ} → AllBits xs → AllBits ys → AllBits (xs ⨟ ys)
unfolding ◌⨟◌
bits-then over k = k
bits-then (one l h) k = one l (bits-then h k)

pub bits-number : (w v : ℕ) → AllBits (number_bits w v)
unfolding number_bits
bits-number zero v = over
bits-number (suc w) v = let l : v / 2 ^ w % 2 < 2 = omega arith in one l (bits-number w v)

bits-0 : AllBits (0 ∷ [])
bits-0 = let l : 0 < 2 = omega arith in one l over

bits-1 : AllBits (1 ∷ [])
bits-1 = let l : 1 < 2 = omega arith in one l over

bits-before : (f w k : ℕ) → AllBits (groups_before f w k)
unfolding groups_before
bits-before zero w k = over
bits-before (suc f) w zero = over
bits-before (suc f) w (suc u) = bits-then (bits-before f w (u / 2 ^ w)) (bits-then (bits-number w (u % 2 ^ w)) bits-1)

bits-variable : (w v : ℕ) → AllBits (variable_field w v)
unfolding variable_field
bits-variable w v = bits-then (bits-before _ _ _) (bits-then (bits-number _ _) bits-0)

bits-if : (t : Bool) (xs ys : List ℕ) → AllBits xs → AllBits ys → AllBits (if t then xs else ys)
bits-if true xs ys h k = h
bits-if false xs ys h k = k

bits-extended : (w v : ℕ) → AllBits (extended_field w v)
unfolding extended_field
bits-extended w v =
    bits-if (ltb v (escape w)) (number_bits w v) (number_bits w (escape w) ⨟ variable_field w (v - escape w)) (bits-number _ _)
    (bits-then (bits-number _ _) (bits-variable _ _))

bits-octets : (bs : List ℕ) → AllBits (octet_bits bs)
unfolding octet_bits
bits-octets [] = over
bits-octets (b ∷ bs) = bits-then (bits-number _ _) (bits-octets bs)

bits-flagged : (wr : ℕ → List ℕ) → ((v : ℕ) → AllBits (wr v)) → (o : Option ℕ) → AllBits (flagged_field wr o)
unfolding flagged_field
bits-flagged wr f None = bits-0
bits-flagged wr f (Some v) = let l : 1 < 2 = omega arith in one l (f v)

bits-present : (w : ℕ) (o : Option ℕ) → AllBits (present_field (number_bits w) o)
unfolding present_field
bits-present w None = over
bits-present w (Some v) = bits-number w v

bits-sample : (v : ℕ) → AllBits (sample_offset_bits v)
unfolding sample_offset_bits
bits-sample v = bits-then (bits-number _ _) bits-0

bits-codec : (c : ℕ) → AllBits (codec_data_bits c)
unfolding codec_data_bits
bits-codec zero = bits-0
bits-codec (suc c) = let l : 1 < 2 = omega arith in one l (bits-number 8 0)

bits-config : (t : EmdfPayloadConfig) → AllBits (config_bits t)
unfolding config_bits
bits-config t =
    bits-then (bits-flagged _ bits-sample _)
    (bits-then (bits-flagged _ (bits-variable 11) _)
    (bits-then (bits-flagged _ (bits-variable 2) _)
    (bits-then (bits-codec _)
    (bits-then (bits-number _ _)
    (bits-then (bits-present _ _) (bits-then (bits-present _ _) (bits-then (bits-present _ _) (bits-then (bits-present _ _) (bits-present _ _)))))))))

bits-payloads : (xs : List Payload) → AllBits (payloads_bits xs)
unfolding payloads_bits payload_bits
bits-payloads [] = bits-number _ _
bits-payloads (x ∷ xs) =
    bits-then (bits-then (bits-extended _ _) (bits-then (bits-config _) (bits-then (bits-variable _ _) (bits-octets _)))) (bits-payloads xs)

bits-container : (c : Contents) → AllBits (container_bits c)
unfolding container_bits protection_bits
bits-container c =
    bits-then (bits-number _ _)
    (bits-then (bits-extended _ _)
    (bits-then (bits-payloads _)
    (bits-then (bits-number _ _) (bits-then (bits-number _ _) (bits-then (bits-octets _) (bits-octets _))))))

pub bits-carrier : (c : Contents) → AllBits (carrier_bits c)
unfolding carrier_bits
bits-carrier c = bits-then (bits-number _ _) (bits-then (bits-number _ _) (bits-then (bits-container c) (bits-number _ _)))

pub declared-is : (c : Contents) → (length (container_bits c) ≤ 8 * declared c) × (8 * declared c < length (container_bits c) + 8)
unfolding declared
declared-is c = rw length-container (omega arith)

pub length-carrier-bits : (c : Contents) → length (carrier_bits c) ≡ 8 * (4 + declared c)
unfolding carrier_bits
length-carrier-bits c = simp (length-then, length-number) (omega (arith, declared-is c))

pub octets-carrier : (c : Contents) → octet_bits (carrier c) ≡ carrier_bits c
unfolding carrier
octets-carrier c = octets-bytes (4 + declared c) (carrier_bits c) (bits-carrier c) (length-carrier-bits c)

pub length-carrier : (c : Contents) → length (carrier c) ≡ 4 + declared c
unfolding carrier
length-carrier c = length-bytes (4 + declared c) (carrier_bits c)

pub carrier-lt : (c : Contents) (k : ℕ) → get_or (carrier c) k 0 < 256
unfolding carrier
carrier-lt c k = bytes_lt (4 + declared c) (bits-carrier c) k

-- bytes whose bits stand are those bits, packed
pub packed : (s bs : List ℕ) (e : ℕ) → 8 * length s ≤ bit_limit s e → ((k : ℕ) → get_or s k 0 < 256) → Stands s e 0 (8 * length s) bs → s ≡ bytes_of (length s) bs
packed s bs e l f h =
    let z : 8 * (0 + length s) ≡ 8 * length s = omega arith in
    let o : Stands s e 0 (8 * length s) (octet_bits s) = rw (z, take-length) at (octets-stand s e (length s) 0 (omega arith) (omega arith) (λ k m. f k)) in
    rw (unique h o) (sym (bytes-octets s (λ k m. f k)))
