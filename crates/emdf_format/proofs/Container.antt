-- The container: what is read is what is written. Assumes nothing.
use mathlib.Core.Path.{◌≡◌, refl, sym, ap, ◌∙◌}
use mathlib.Core.Bool.{Bool, true, false, not}
use mathlib.Core.List.{List, append_assoc}
use Prim.Native.Nat.{ℕ, zero, suc, ◌+◌, ◌-◌, ◌*◌, ◌^◌, ◌≤◌, ◌<◌}
use native.Mathlib.Omega.{arith}
use lib.ListN.{length}
use lib.Pow.{pow_pos}
use lib.Dec.{T, eqb, leb→le, le→leb, ltb→lt, lt→ltb, eqb→eq, lit<, lit≤}
use Rattle.std.specs.Prelude.{if◌then◌else◌}
use Rattle.openjoc_bitio.specs.Bits.{number_bits}
use Rattle.openjoc_bitio.proofs.Bits.{length-number}
use Rattle.emdf_format.specs.Syntax.{◌⨟◌, escape, extended_field}
use Rattle.emdf_format.specs.Contents.{◌&◌, Contents, protection_length, protection_code, codable, protection_bits, writable, container_bits, all_bytes, contents_are_bytes}
use Rattle.emdf_format.specs.Reader.{got, remaining, extended_value}
use Rattle.emdf_format.specs.Reading.{Container, payloads, padding, container_end, container, contents_of}
use Rattle.emdf_format.proofs.Standing.{Stands, join, part, Codec, bits-law, bit_limit, remaining-limit, bind_inv, bind-go, ask-inv, ask-go, ask-end, ask-fine, step, asked, taken, give-inv, give-go, neqb→ne, ne→neqb, same-what, same-to, both, fits, and, stands-to, stands-in}
use Rattle.emdf_format.proofs.Fields.{sized, fits_extended, extended, octets-law}
use Rattle.emdf_format.proofs.Payloads.{word, key-law, Listed, traced-stands, payloads-sound, payloads-exact, payloads-long, all_found_from, encodable-from, encodable-to}

-- ---- what is left, and the padding

pub record Left (s : List ℕ) (e p n q : ℕ) : Type 0 where
  pub is : bit_limit s e - p ≡ n
  pub to : p ≡ q

left-inv : {s : List ℕ} {e p n q : ℕ} → remaining s e p ≡ got n q → Left s e p n q
unfolding remaining
left-inv {s} {e} {p} h = record { is = sym (remaining-limit s e p) ∙ same-what h; to = same-to h }

left-go : (s : List ℕ) (e p : ℕ) → remaining s e p ≡ got (bit_limit s e - p) p
unfolding remaining
left-go s e p = rw remaining-limit

pub record Padded (s : List ℕ) (e p q : ℕ) : Type 0 where
  pub few : bit_limit s e - p ≤ 7
  pub stands : Stands s e p q (number_bits (bit_limit s e - p) 0)

few-wide : (n : ℕ) → n ≤ 7 → n ≤ 64
few-wide n h = omega arith

pad-sound : {s : List ℕ} {e p q : ℕ} {u : Unit {0}} → padding s e p ≡ got u q → Padded s e p q
unfolding padding
pad-sound {s} {e} {p} {q} h =
    taken (bind_inv h) λ n p₁ f t₁.
    let l = left-inv f in
    asked (ask-inv t₁) λ k t₂.
    step (bits-law n (few-wide n (leb→le n 7 k))) (bind_inv t₂) λ z p₂ sz lz t₃.
    let d = ask-end t₃ in
    let sz' : Stands s e p₁ p₂ (number_bits n 0) = rw (eqb→eq z 0 d.yes) at sz in
    record { few = rw l.is (leb→le n 7 k); stands = rw (l.is, l.to, ← d.to) sz' }

pad-exact : {s : List ℕ} {e p q : ℕ} → bit_limit s e - p ≤ 7 → Stands s e p q (number_bits (bit_limit s e - p) 0) → padding s e p ≡ got tt q
unfolding padding
pad-exact {s} {e} {p} {q} l h =
    bind-go _ _ (left-go s e p)
    (ask-go _ _ _ (le→leb (bit_limit s e - p) 7 l)
    (bind-go _ _ ((bits-law (bit_limit s e - p) (few-wide _ l)).exact (lt→ltb 0 (2 ^ (bit_limit s e - p)) (pow_pos (bit_limit s e - p))) h)
    (ask-fine _ _ s e tt refl)))

-- ---- protection

code-back : (a : ℕ) → a < 4 → protection_code (protection_length a) ≡ a
unfolding protection_code protection_length
code-back zero h = refl
code-back (suc zero) h = refl
code-back (suc (suc zero)) h = refl
code-back (suc (suc (suc zero))) h = refl
code-back (suc (suc (suc (suc a)))) h = absurd (omega arith)

if-below : (t : Bool) (m x y : ℕ) → x < m → y < m → (if t then x else y) < m
if-below true m x y h k = h
if-below false m x y h k = k

code_lt : (n : ℕ) → protection_code n < 4
unfolding protection_code
code_lt n =
    if-below (eqb n 0) 4 0 (if eqb n 1 then 1 else (if eqb n 4 then 2 else 3)) (lit< tt)
    (if-below (eqb n 1) 4 1 (if eqb n 4 then 2 else 3) (lit< tt) (if-below (eqb n 4) 4 2 3 (lit< tt) (lit< tt)))

-- a protection that was read
pub record Protection (a : ℕ) (bs : List ℕ) : Type 0 where
  pub len : length bs ≡ protection_length a
  pub code : protection_code (length bs) ≡ a
  pub fit : T (codable (length bs))
  pub bytes : T (all_bytes bs)

protection-back : (a : ℕ) (bs : List ℕ) → a < 4 → T (sized (protection_length a) bs) → Protection a bs
unfolding sized codable
protection-back a bs l f =
    let k : length bs ≡ protection_length a = eqb→eq (length bs) (protection_length a) (both f).left in
    let c : protection_code (length bs) ≡ a = rw k (code-back a l) in
    record { len = k; code = c; fit = rw c (both f).left; bytes = (both f).right }

length-pos : (a n : ℕ) → n ≡ protection_length a → (a ≡ 0 → ⊥) → n ≡ 0 → ⊥
unfolding protection_length
length-pos zero n h k z = k refl
length-pos (suc zero) n h k z = omega arith
length-pos (suc (suc zero)) n h k z = omega arith
length-pos (suc (suc (suc a))) n h k z = omega arith

code-pos : (n : ℕ) → T (codable n) → T (not (eqb n 0)) → T (not (eqb (protection_code n) 0))
unfolding codable protection_length
code-pos n f z =
    ne→neqb (protection_code n) 0 (λ e. neqb→ne n 0 z (eqb→eq n (protection_length (protection_code n)) f ∙ ap protection_length e))

version-fit : T (fits_extended 2 0)
unfolding fits_extended escape
version-fit = tt

version-zero : extended_field 2 0 ≡ number_bits 2 0
unfolding extended_field escape
version-zero = refl

version-law : Codec (extended_value 2) (extended_field 2) (fits_extended 2)
unfolding ◌&◌
version-law = extended 2 tt

-- ---- the container

pub record Contained (s : List ℕ) (e p q : ℕ) (c : Container) : Type 0 where
  pub fit : T (writable (contents_of c))
  pub bytes : T (contents_are_bytes (contents_of c))
  pub payloads-at : ℕ
  pub codes_at : ℕ
  pub end : ℕ
  pub key : Stands s e p payloads-at (number_bits 2 0 ⨟ extended_field 3 c.key-id)
  pub key-read : extended_value 3 s e (p + 2) ≡ got c.key-id payloads-at
  pub bound : ℕ
  pub list_read : payloads bound s e payloads-at ≡ got c.found codes_at
  pub listed : Listed s e payloads-at codes_at c.found
  pub protection : Stands s e codes_at end (protection_bits c.primary c.secondary)
  pub pad : Padded s e end q

pub container-sound : {s : List ℕ} {e p q : ℕ} {c : Container} → container s e p ≡ got c q → Contained s e p q c
unfolding container container_end writable contents_are_bytes word protection_bits
container-sound {s} {e} {p} {q} {c} h =
    step version-law (bind_inv h) λ version p₁ s₁ f₁ t₁.
    asked (ask-inv t₁) λ v₀ t₂.
    taken (bind_inv t₂) λ key p₂ k t₃.
    taken (bind_inv t₃) λ n p₃ l t₄.
    taken (bind_inv t₄) λ xs p₄ r t₅.
    step (bits-law 2 (lit≤ tt)) (bind_inv t₅) λ a p₅ s₅ f₅ t₆.
    step (bits-law 2 (lit≤ tt)) (bind_inv t₆) λ b p₆ s₆ f₆ t₇.
    asked (ask-inv t₇) λ a₀ t₈.
    step (octets-law (protection_length a)) (bind_inv t₈) λ primary p₇ s₇ f₇ t₉.
    step (octets-law (protection_length b)) (bind_inv t₉) λ secondary p₈ s₈ f₈ t₁₀.
    taken (bind_inv t₁₀) λ u p₉ g t₁₁.
    let d = give-inv t₁₁ in
    let (s₂, f₂) = key-law.sound k in
    let x = payloads-sound n r in
    let w = encodable-to _ x.fit in
    let a₁ = protection-back a primary (ltb→lt a 4 f₅) f₇ in
    let b₁ = protection-back b secondary (ltb→lt b 4 f₆) f₈ in
    let s₁' : Stands s e p p₁ (number_bits 2 0) = rw (eqb→eq version 0 v₀, version-zero) at s₁ in
    let s₂' : Stands s e p₁ p₃ (extended_field 3 key) = rw (left-inv l).to at s₂ in
    let v : p₁ ≡ p + 2 = sym (rw length-number at (stands-to s₁')) in
    let k' : extended_value 3 s e (p + 2) ≡ got key p₃ = rw (v, (left-inv l).to) at k in
    let s₅' : Stands s e p₄ p₅ (number_bits 2 (protection_code (length primary))) = rw a₁.code s₅ in
    let s₆' : Stands s e p₅ p₆ (number_bits 2 (protection_code (length secondary))) = rw b₁.code s₆ in
    let z : T (not (eqb (length primary) 0)) = ne→neqb (length primary) 0 (length-pos a (length primary) a₁.len (neqb→ne a 0 a₀)) in
    rw (← d.what, ← d.to)
    (record {
      fit = and _ _ f₂ (and _ _ w.0 (and _ _ z (and _ _ a₁.fit b₁.fit)));
      bytes = and _ _ w.1 (and _ _ a₁.bytes b₁.bytes);
      payloads-at = p₃;
      codes_at = p₄;
      end = p₈;
      key = join s₁' s₂';
      key-read = k';
      bound = n;
      list_read = r;
      listed = x;
      protection = join s₅' (join s₆' (join s₇ s₈));
      pad = pad-sound g;
    })

⨟-assoc : (xs ys zs : List ℕ) → (xs ⨟ ys) ⨟ zs ≡ xs ⨟ (ys ⨟ zs)
unfolding ◌⨟◌
⨟-assoc xs ys zs = append_assoc xs ys zs

-- all of it is what is written
pub contained-stands : {s : List ℕ} {e p q : ℕ} {c : Container} (k : Contained s e p q c) → Stands s e p k.end (container_bits (contents_of c))
unfolding container_bits
contained-stands {c = c} k =
    rw ⨟-assoc at (join k.key (join (traced-stands k.listed.traced k.listed.end_mark) k.protection))

-- the container of contents that are written from p on
abbrev pub container_from : ℕ → Contents → Container
container_from p c = record {
  key-id = c.key-id;
  found = all_found_from (p + (2 + length (extended_field 3 c.key-id))) c.payloads;
  primary = c.primary;
  secondary = c.secondary;
}

pub container-exact : {s : List ℕ} {e p m q : ℕ} (c : Contents) → bit_limit s e ≤ 8 * 65539 → T (writable c) → T (contents_are_bytes c)
    → Stands s e p m (container_bits c) → Padded s e m q → container s e p ≡ got (container_from p c) q
unfolding container container_end container_bits protection_bits writable contents_are_bytes word sized codable
container-exact {s} {e} {p} {m} {q} c l f b h d =
    fits (both f) λ f₂ g₂. fits (both g₂) λ fx g₃. fits (both g₃) λ z g₄. fits (both g₄) λ fp fs.
    fits (both b) λ bx g₅. fits (both g₅) λ bp bs.
    part _ _ h λ p₁ s₁ h₁. part _ _ h₁ λ p₂ s₂ h₂. part _ _ h₂ λ p₃ s₃ h₃. part _ _ h₃ λ p₄ s₄ h₄.
    part _ _ h₄ λ p₅ s₅ h₅. part _ _ h₅ λ p₆ s₆ s₇.
    let room : length c.payloads < bit_limit s e - p₂ = omega (arith, payloads-long c.payloads, stands-to s₃, stands-in s₃ (omega (arith, payloads-long c.payloads))) in
    let a₀ = code-pos (length c.primary) fp z in
    let k : p + (2 + length (extended_field 3 c.key-id)) ≡ p₂ = omega (arith, rw length-number at (stands-to s₁), stands-to s₂) in
    bind-go _ _ (version-law.exact {a = 0} version-fit (rw version-zero s₁))
    (ask-go _ _ _ tt
    (bind-go _ _ (key-law.exact f₂ s₂)
    (bind-go _ _ (left-go s e p₂)
    (bind-go _ _ (payloads-exact (bit_limit s e - p₂) c.payloads l room (encodable-from c.payloads fx bx) s₃)
    (bind-go _ _ ((bits-law 2 (lit≤ tt)).exact (lt→ltb (protection_code (length c.primary)) 4 (code_lt (length c.primary))) s₄)
    (bind-go _ _ ((bits-law 2 (lit≤ tt)).exact (lt→ltb (protection_code (length c.secondary)) 4 (code_lt (length c.secondary))) s₅)
    (ask-go _ _ _ a₀
    (bind-go _ _ ((octets-law (protection_length (protection_code (length c.primary)))).exact (and _ _ fp bp) s₆)
    (bind-go _ _ ((octets-law (protection_length (protection_code (length c.secondary)))).exact (and _ _ fs bs) s₇)
    (bind-go _ _ (pad-exact d.few d.stands)
    (give-go s e (rw k) refl)))))))))))
