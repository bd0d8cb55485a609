-- The two laws of the format. A: what a reading accepts is the carrier of its contents, which are writable. B: the carrier of what is
-- writable is accepted, whatever follows it. Assumes nothing.
use mathlib.Core.Path.{◌≡◌, refl, sym, ap, ◌∙◌, subst}
use mathlib.Core.Bool.{Bool, true, false, not}
use mathlib.Core.List.{List, [], ◌++◌}
use Prim.Native.Nat.{ℕ, ◌+◌, ◌-◌, ◌*◌, ◌^◌, ◌≤◌, ◌<◌}
use native.Mathlib.Omega.{arith}
use lib.ListN.{length, get_or, take, length-append, get_or-eq_default}
use native.Mathlib.Decide.{dec_lt}
use lib.Seq.{take_at, length-take-le, get_or-take, take-length}
use lib.Dec.{T, ltb, eqb, nltb→le, eqb→eq, lit<}
use lib.Arith.{le→nltb}
use borrow.Author.Tests.{le-leb, lt-ltb}
use Rattle.std.specs.Prelude.{if◌then◌else◌}
use Rattle.openjoc_bitio.specs.Bits.{bits_value, number_bits}
use Rattle.openjoc_bitio.specs.Cursor.{bit_length}
use Rattle.openjoc_bitio.proofs.Bits.{length-number, value-take, value-append, value-range}
use Rattle.emdf_format.specs.declared.TruncatedPart.TheVariants as TruncatedPart
use Rattle.emdf_format.specs.declared.EmdfError.TheVariants.{TruncatedContainer, InvalidSyncword}
use Rattle.emdf_format.specs.Contents.{Contents, writable, contents_are_bytes, container_bits, declared, carrier_bits, bytes_of, carrier}
use Rattle.emdf_format.specs.Reader.{Read, got, refused}
use Rattle.emdf_format.specs.Reading.{Container, container, accepted, refusal, consumed, reading, contents_of}
use Rattle.emdf_format.specs.Edits.{Bytes}
use Rattle.emdf_format.proofs.Standing.{Stands, join, part, bit_limit, number-stands, number_read, is_true, if_no, T_of, T-not-of, length-then, stands-to, stands-in}
use Rattle.emdf_format.proofs.Payloads.{found-payloads}
use Rattle.emdf_format.proofs.Container.{Padded, Contained, container-sound, contained-stands, container_from, container-exact}
use Rattle.emdf_format.proofs.Bytes.{packed, octets-stand, declared-is, octets-carrier, length-carrier, carrier-lt}

limit-whole : (s : List ℕ) (n : ℕ) → length s ≡ n → n ≤ 65539 → bit_limit s (8 * n) ≡ 8 * n
unfolding bit_limit bit_length
limit-whole s n h k =
    let a : length s < 2 ^ 61 = omega arith in
    let b : 8 * n ≤ length s * 8 = omega arith in
    simp (lt-ltb (length s) (2 ^ 61) a, le-leb (8 * n) (length s * 8) b)

-- ---- the header

pub record Header (s : List ℕ) (n : ℕ) (c : Container) : Type 0 where
  pub four : 4 ≤ length s
  pub sync : bits_value s 0 16 ≡ 0x5838
  pub size : n ≡ 4 + bits_value s 16 16
  pub there : n ≤ length s
  pub to : ℕ
  pub inner : container (take n s) (8 * n) 32 ≡ got c to

header : (s : List ℕ) (n : ℕ) (c : Container) → reading s ≡ accepted n c → Header s n c
unfolding reading consumed
header s n c h = go (ltb (length s) 4) (eqb (bits_value s 0 16) 0x5838) (ltb (length s - 4) (bits_value s 16 16)) refl refl refl (container (take (4 + bits_value s 16 16) s) (8 * (4 + bits_value s 16 16)) 32) refl h
  where
    go : (x y z : Bool) → ltb (length s) 4 ≡ x → eqb (bits_value s 0 16) 0x5838 ≡ y → ltb (length s - 4) (bits_value s 16 16) ≡ z
        → (r : Read Container) → container (take (4 + bits_value s 16 16) s) (8 * (4 + bits_value s 16 16)) 32 ≡ r
        → (if x then refusal (TruncatedContainer TruncatedPart.Header 4 (length s)) else (if not y then refusal (InvalidSyncword (bits_value s 0 16)) else (if z then refusal (TruncatedContainer TruncatedPart.Body (bits_value s 16 16) (length s - 4)) else consumed (4 + bits_value s 16 16) r))) ≡ accepted n c
        → Header s n c
    go true y z a b e r f g = absurd (let z : ◌≡◌ {A = ℕ} 0 1 = cc in omega arith)
    go false false z a b e r f g = absurd (let z : ◌≡◌ {A = ℕ} 0 1 = cc in omega arith)
    go false true true a b e r f g = absurd (let z : ◌≡◌ {A = ℕ} 0 1 = cc in omega arith)
    go false true false a b e (refused why q) f g = absurd (let z : ◌≡◌ {A = ℕ} 0 1 = cc in omega arith)
    go false true false a b e (got c' q) f g =
        let k : 4 + bits_value s 16 16 ≡ n = cc in
        let m : c' ≡ c = cc in
        let l : 4 ≤ length s = nltb→le (length s) 4 (T-not-of a) in
        let o : bits_value s 16 16 ≤ length s - 4 = nltb→le (length s - 4) (bits_value s 16 16) (T-not-of e) in
        record { four = l; sync = eqb→eq (bits_value s 0 16) 0x5838 (T_of b); size = sym k; there = omega arith; to = q; inner = rw (k, m) at f }

header-go : (s : List ℕ) (n : ℕ) (c : Container) → Header s n c → reading s ≡ accepted n c
unfolding reading consumed
header-go s n c h =
    let e : 4 + bits_value s 16 16 ≡ n = sym h.size in
    let l : T (not (ltb (length s) 4)) = le→nltb (length s) 4 h.four in
    let k : T (eqb (bits_value s 0 16) 0x5838) = rw h.sync tt in
    let o : T (not (ltb (length s - 4) (bits_value s 16 16))) = le→nltb (length s - 4) (bits_value s 16 16) (omega (arith, h.there)) in
    if_no (ltb (length s) 4) _ _ l ∙ rw (is_true (eqb (bits_value s 0 16) 0x5838) k) (if_no (ltb (length s - 4) (bits_value s 16 16)) _ _ o ∙ rw (e, h.inner))

-- ---- A

pub record Accepted (s : List ℕ) (n : ℕ) (c : Contents) : Type 0 where
  pub fit : T (writable c)
  pub bytes : T (contents_are_bytes c)
  pub small : declared c ≤ 65535
  pub size : n ≡ 4 + declared c
  pub there : n ≤ length s
  pub is : take n s ≡ carrier c

long : (c : Contents) → 0 < length (container_bits c)
unfolding container_bits
long c = simp (length-then, length-number) (omega arith)

module _ (s : List ℕ) (n : ℕ) (c : Container) (bs : Bytes s) (h : Header s n c) where
  abbrev t : List ℕ
  t = take n s

  len : length t ≡ n
  len = length-take-le n s h.there

  n-lt : n ≤ 65539
  n-lt = omega (arith, h.size, value-range s 16 16)

  lim : bit_limit t (8 * n) ≡ 8 * n
  lim = limit-whole t n len n-lt

  word_stands : (p v : ℕ) → p + 16 ≤ 32 → bits_value s p 16 ≡ v → Stands t (8 * n) p (p + 16) (number_bits 16 v)
  word_stands p v l e =
      let k : bits_value t p 16 ≡ v = value-take s n p 16 (omega (arith, h.size)) ∙ e in
      rw k at (number-stands t (8 * n) p 16 (omega (arith, lim, h.size)))

  k : Contained t (8 * n) 32 h.to c
  k = container-sound h.inner

  abbrev inside : Contents
  inside = contents_of c

  at-end : k.end ≡ 32 + length (container_bits inside)
  at-end = sym (stands-to (contained-stands k))

  end-in : k.end ≤ 8 * n
  end-in = rw lim at (stands-in (contained-stands k) (long inside))

  d-is : 4 + declared inside ≡ n
  d-is = omega (arith, declared-is inside, at-end, end-in, lim, k.pad.few, h.size)

  all-stands : Stands t (8 * n) 0 (8 * n) (carrier_bits inside)
  unfolding carrier_bits
  all-stands =
      let z : bit_limit t (8 * n) - k.end ≡ 8 * declared inside - length (container_bits inside) = omega (arith, lim, d-is, at-end) in
      let q : h.to ≡ 8 * n = omega (arith, rw length-number at (stands-to k.pad.stands), end-in, lim) in
      let pad₀ : Stands t (8 * n) k.end h.to (number_bits (8 * declared inside - length (container_bits inside)) 0) = rw z at k.pad.stands in
      let pad = subst (λ (x : ℕ). Stands t (8 * n) k.end x (number_bits (8 * declared inside - length (container_bits inside)) 0)) q pad₀ in
      let v : bits_value s 16 16 ≡ declared inside = omega (arith, d-is, h.size) in
      join (word_stands 0 0x5838 (omega arith) h.sync) (join (word_stands 16 (declared inside) (omega arith) v) (join (contained-stands k) pad))

  bytes-are : t ≡ carrier inside
  unfolding carrier
  bytes-are =
      let z : 8 * length t ≡ 8 * n = omega (arith, len) in
      let p : t ≡ _ = packed t (carrier_bits inside) (8 * n) (omega (arith, lim, len)) (λ i. in-range i) (rw z all-stands) in
      p ∙ ap (λ (m : ℕ). bytes_of m (carrier_bits inside)) (len ∙ sym d-is)
    where
      in-range : (i : ℕ) → get_or t i 0 < 256
      in-range i = elim (dec_lt i n) [ yes l ↦ rw (get_or-take n s i 0 l) (bs i) | no l ↦ rw (get_or-eq_default t 0 {n = i} (omega (arith, len))) (lit< tt) ]

  found-is : Accepted s n inside
  found-is = record { fit = k.fit; bytes = k.bytes; small = omega (arith, d-is, n-lt); size = sym d-is; there = h.there; is = bytes-are }

-- A: what a reading accepts is what the syntax writes, and writable
pub read-sound : (s : List ℕ) (n : ℕ) (c : Container) → Bytes s → reading s ≡ accepted n c → Accepted s n (contents_of c)
read-sound s n c bs h = found-is s n c bs (header s n c h)

-- and its payloads stand where their records say
pub read-contained : (s : List ℕ) (n : ℕ) (c : Container) → reading s ≡ accepted n c → (q : ℕ) × Contained (take n s) (8 * n) 32 q c
read-contained s n c h = let d = header s n c h in (d.to, container-sound d.inner)

-- in the declared bytes the end is their end
pub read-limit : (s : List ℕ) (n : ℕ) (c : Container) → reading s ≡ accepted n c → (n ≤ length s) × (bit_limit (take n s) (8 * n) ≡ 8 * n)
read-limit s n c h =
    let d = header s n c h in
    (d.there, limit-whole (take n s) n (length-take-le n s d.there) (omega (arith, d.size, value-range s 16 16)))

-- and fit in 16 bits, with the 4 before them
pub read-size : (s : List ℕ) (n : ℕ) (c : Container) → reading s ≡ accepted n c → n ≤ 65539
read-size s n c h = omega (arith, (header s n c h).size, value-range s 16 16)

-- ---- B

module _ (c : Contents) (rest : List ℕ) (fit : T (writable c)) (bytes : T (contents_are_bytes c)) (small : declared c ≤ 65535) where
  abbrev k' : List ℕ
  k' = carrier c

  abbrev s' : List ℕ
  s' = carrier c ++ rest

  abbrev n' : ℕ
  n' = 4 + declared c

  len' : length s' ≡ n' + length rest
  len' = length-append (carrier c) rest ∙ ap (λ (m : ℕ). m + length rest) (length-carrier c)

  lim' : bit_limit k' (8 * n') ≡ 8 * n'
  lim' = limit-whole k' n' (length-carrier c) (omega arith)

  carrier-stands : Stands k' (8 * n') 0 (8 * n') (carrier_bits c)
  carrier-stands =
      let o = octets-stand k' (8 * n') n' 0 (omega (arith, length-carrier c)) (omega (arith, lim')) (λ i l. carrier-lt c i) in
      let z : 8 * (0 + n') ≡ 8 * n' = omega arith in
      let w : take n' k' ≡ k' = ap (λ (m : ℕ). take m k') (sym (length-carrier c)) ∙ take-length k' in
      rw (w, octets-carrier c, z) at o

  head : Header s' n' (container_from 32 c)
  unfolding carrier_bits
  head =
      part _ _ carrier-stands λ p₁ s₁ h₁. part _ _ h₁ λ p₂ s₂ h₂. part _ _ h₂ λ p₃ s₃ s₄.
      let r₁ = number_read 16 0x5838 (lit< tt) s₁ in
      let r₂ = number_read 16 (declared c) (omega arith) s₂ in
      let e₁ : p₁ ≡ 16 = sym r₁.to in
      let e₂ : p₂ ≡ 32 = omega (arith, r₂.to) in
      let at : p₃ ≡ 32 + length (container_bits c) = omega (arith, stands-to s₃) in
      let z : bit_limit k' (8 * n') - p₃ ≡ 8 * declared c - length (container_bits c) = omega (arith, lim', at) in
      let pad : Padded k' (8 * n') p₃ (8 * n') = record { few = omega (arith, declared-is c); stands = rw z s₄ } in
      let inner : container k' (8 * n') 32 ≡ got (container_from 32 c) (8 * n') = container-exact c (omega (arith, lim')) fit bytes (rw e₂ at s₃) pad in
      let w : take n' s' ≡ k' = take_at (carrier c) rest n' (length-carrier c) in
      record {
        four = omega (arith, len');
        sync = value-append k' rest 0 16 (omega (arith, length-carrier c)) ∙ r₁.is;
        size = omega (arith, value-append k' rest 16 16 (omega (arith, length-carrier c)), rw e₁ at r₂.is);
        there = omega (arith, len');
        to = 8 * n';
        inner = rw w inner;
      }

pub contents-back : (p : ℕ) (c : Contents) → contents_of (container_from p c) ≡ c
contents-back p c = rw found-payloads

-- B: what is writable, and declares at most 65,535, is accepted where it is written
pub read-exact : (c : Contents) (rest : List ℕ) → T (writable c) → T (contents_are_bytes c) → declared c ≤ 65535
    → reading (carrier c ++ rest) ≡ accepted (4 + declared c) (container_from 32 c)
read-exact c rest fit bytes small = header-go _ _ _ (head c rest fit bytes small)

-- bytes after n change nothing
pub read-rest : (s rest : List ℕ) (n : ℕ) (c : Container) → reading s ≡ accepted n c → reading (take n s ++ rest) ≡ accepted n c
read-rest s rest n c h =
    let d = header s n c h in
    let t = take n s in
    let l : length t ≡ n = length-take-le n s d.there in
    let m : length (t ++ rest) ≡ n + length rest = length-append t rest ∙ ap (λ (k : ℕ). k + length rest) l in
    let same : (p : ℕ) → p + 16 ≤ 32 → bits_value (t ++ rest) p 16 ≡ bits_value s p 16 = λ p h.
    value-append t rest p 16 (omega (arith, l, d.size)) ∙ value-take s n p 16 (omega (arith, d.size)) in
    let z : take n (t ++ rest) ≡ t = take_at t rest n l in
    header-go (t ++ rest) n c (record {
      four = omega (arith, m, d.size);
      sync = same 0 (omega arith) ∙ d.sync;
      size = omega (arith, d.size, same 16 (omega arith));
      there = omega (arith, m);
      to = d.to;
      inner = rw z d.inner;
    })

-- what is written can be told apart
pub carrier-injective : (c c' : Contents) → T (writable c) → T (writable c') → T (contents_are_bytes c) → T (contents_are_bytes c')
    → declared c ≤ 65535 → declared c' ≤ 65535 → carrier c ≡ carrier c' → c ≡ c'
carrier-injective c c' f f' b b' d d' e =
    let r = read-exact c [] f b d in
    let r' = read-exact c' [] f' b' d' in
    let z : container_from 32 c ≡ container_from 32 c' = cc in
    sym (contents-back 32 c) ∙ ap contents_of z ∙ contents-back 32 c'
