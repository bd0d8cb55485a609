-- Payloads: what is read is what is written, and stands at the recorded spans. Assumes nothing.
use mathlib.Core.Path.{◌≡◌, refl, sym, ap}
use mathlib.Core.Bool.{Bool, true, false}
use mathlib.Core.List.{List, [], ◌∷◌}
use Prim.Native.Nat.{ℕ, zero, suc, ◌+◌, ◌-◌, ◌*◌, ◌^◌, ◌≤◌, ◌<◌}
use native.Mathlib.Omega.{arith}
use lib.ListN.{length}
use lib.Pow.{pow_mono}
use lib.Dec.{T, leb, ltb, eqb, leb→le, le→leb, ltb→lt, lt→ltb, eqb→eq, eqb_refl, lit≤}
use Rattle.std.specs.Prelude.{if◌then◌else◌}
use Rattle.openjoc_bitio.specs.Bits.{number_bits}
use Rattle.openjoc_bitio.proofs.Bits.{length-number}
use Rattle.emdf_format.specs.Syntax.{◌⨟◌, variable_field, capacity, escape, extended_field, octet_bits}
use Rattle.emdf_format.specs.Contents.{◌&◌, Payload, config_bits, payload_bits, payloads_bits, writable_config, writable_payload, writable_payloads, all_bytes, bodies_are_bytes}
use Rattle.emdf_format.specs.Reader.{got, position, variable_bits, extended_value}
use Rattle.emdf_format.specs.Reading.{Found, trace_of, payload_after, payloads, payload_of, payloads_of}
use Rattle.emdf_format.proofs.Standing.{Stands, join, part, Codec, bit_limit, bind_inv, bind-go, ask-inv, choose-inv, choose-this, choose-that, step, asked, chosen, taken, give-inv, give-go, T_of, neqb→ne, ne→neqb, both, fits, and, length-then, stands-to, stands-in, same-what, same-to}
use Rattle.emdf_format.proofs.Fields.{fits_variable, fits_extended, sized, refit, variable, extended, octets-law}
use Rattle.emdf_format.proofs.Config.{config-law}

-- ---- a field with an escape holds every number of 64 bits

word-from : (w v : ℕ) → w ≤ 64 → T (fits_extended w v) → T (ltb v (2 ^ 64))
unfolding fits_extended escape
word-from w v l f = go (ltb v (2 ^ w - 1)) refl f
  where
    go : (t : Bool) → ltb v (2 ^ w - 1) ≡ t → T (if t then true else (fits_variable w 31 (v - (2 ^ w - 1)) & ltb v (2 ^ 64))) → T (ltb v (2 ^ 64))
    go true e f = let m : 2 ^ w ≤ 2 ^ 64 = pow_mono l in lt→ltb v (2 ^ 64) (omega (arith, ltb→lt v (2 ^ w - 1) (T_of e)))
    go false e f = (both f).right

word-to : (w v : ℕ) → 2 ^ 64 ≤ capacity w 31 → T (ltb v (2 ^ 64)) → T (fits_extended w v)
unfolding fits_extended fits_variable escape
word-to w v l f = go (ltb v (2 ^ w - 1))
  where
    go : (t : Bool) → T (if t then true else (fits_variable w 31 (v - (2 ^ w - 1)) & ltb v (2 ^ 64)))
    go true = tt
    go false =
        let k : v < 2 ^ 64 = ltb→lt v (2 ^ 64) f in
        and _ _ (and _ _ (lt→ltb (v - (2 ^ w - 1)) (capacity w 31) (omega arith)) (lt→ltb (v - (2 ^ w - 1)) (2 ^ 64) (omega arith))) f

unfoldable pub word : ℕ → Bool
word v = ltb v (2 ^ 64)

word-law : (w : ℕ) → T (leb 1 w & leb w 63) → 2 ^ 64 ≤ capacity w 31 → Codec (extended_value w) (extended_field w) word
unfolding word
word-law w l k =
    let h : w ≤ 64 = omega (arith, leb→le w 63 (both l).right) in
    refit (extended w l) (λ v f. word-from w v h f) (λ v f. word-to w v k f)

pub id-law : Codec (extended_value 5) (extended_field 5) word
unfolding ◌&◌ capacity
id-law = word-law 5 tt (lit≤ tt)

pub key-law : Codec (extended_value 3) (extended_field 3) word
unfolding ◌&◌ capacity
key-law = word-law 3 tt (lit≤ tt)

pub size-law : Codec (variable_bits 8 2) (variable_field 8) (fits_variable 8 2)
unfolding ◌&◌
size-law = variable 8 2 tt

-- ---- what can be written: writable, and bytes

unfoldable pub encodable : Payload → Bool
encodable x = writable_payload x & all_bytes x.body

unfoldable pub all_encodable : List Payload → Bool
all_encodable [] = true
all_encodable (x ∷ xs) = encodable x & all_encodable xs

pub encodable-from : (xs : List Payload) → T (writable_payloads xs) → T (bodies_are_bytes xs) → T (all_encodable xs)
unfolding writable_payloads bodies_are_bytes all_encodable encodable
encodable-from [] h k = tt
encodable-from (x ∷ xs) h k =
    let a = both h in
    let b = both k in
    and _ _ (and _ _ a.left b.left) (encodable-from xs a.right b.right)

pub encodable-to : (xs : List Payload) → T (all_encodable xs) → T (writable_payloads xs) × T (bodies_are_bytes xs)
unfolding writable_payloads bodies_are_bytes all_encodable encodable
encodable-to [] h = (tt, tt)
encodable-to (x ∷ xs) h =
    let a = both h in
    let b = both a.left in
    let r = encodable-to xs a.right in
    (and _ _ b.left r.0, and _ _ b.right r.1)

-- ---- spans

-- a payload's parts stand from p to q, where its record says so
pub record Spans (s : List ℕ) (e p q : ℕ) (x : Found) : Type 0 where
  pub config-at : ℕ
  pub size-at : ℕ
  pub body_at : ℕ
  pub trace : x.record_of.trace ≡ trace_of p config-at size-at body_at q
  pub id : Stands s e p config-at (extended_field 5 x.record_of.id)
  pub config : Stands s e config-at size-at (config_bits x.record_of.config)
  pub size : Stands s e size-at body_at (variable_field 8 (length x.body))
  pub body : Stands s e body_at q (octet_bits x.body)

-- payloads that follow one another from p to q
pub data Traced (s : List ℕ) (e : ℕ) : ℕ → ℕ → List Found → Type 0 where
  none : {p : ℕ} → Traced s e p p []
  more : {p q r : ℕ} {x : Found} {xs : List Found} → Spans s e p q x → Traced s e q r xs → Traced s e p r (x ∷ xs)

pub spans-stand : {s : List ℕ} {e p q : ℕ} {x : Found} → Spans s e p q x → Stands s e p q (payload_bits (payload_of x))
unfolding payload_bits
spans-stand h = join h.id (join h.config (join h.size h.body))

-- they and the end mark are what is written
pub traced-stands : {s : List ℕ} {e p q r : ℕ} {xs : List Found} → Traced s e p q xs → Stands s e q r (number_bits 5 0) → Stands s e p r (payloads_bits (payloads_of xs))
unfolding payloads_bits payloads_of
traced-stands none h = h
traced-stands (more a b) h = join (spans-stand a) (traced-stands b h)

-- ---- reading finds what is written

pub record At (s : List ℕ) (e p a q : ℕ) : Type 0 where
  pub is : p ≡ a
  pub to : p ≡ q

pub at-inv : {s : List ℕ} {e p a q : ℕ} → position s e p ≡ got a q → At s e p a q
unfolding position
at-inv h = record { is = same-what h; to = same-to h }

pub at-go : (s : List ℕ) (e p : ℕ) → position s e p ≡ got p p
unfolding position
at-go s e p = refl

-- after the id, which starts at p₀
pub record After (s : List ℕ) (e p₀ p q id : ℕ) (x : Found) : Type 0 where
  pub is : x.record_of.id ≡ id
  pub spans : Stands s e p₀ p (extended_field 5 id) → Spans s e p₀ q x
  pub config : T (writable_config x.record_of.config)
  pub bytes : T (all_bytes x.body)

pub after-sound : (p₀ id : ℕ) {s : List ℕ} {e p q : ℕ} {x : Found} → payload_after p₀ id s e p ≡ got x q → After s e p₀ p q id x
unfolding payload_after sized
after-sound p₀ id {s} {e} {p} {q} h =
    taken (bind_inv h) λ a p₁ h₁ t₁.
    step config-law (bind_inv t₁) λ config p₂ s₂ f₂ t₂.
    taken (bind_inv t₂) λ b p₃ h₃ t₃.
    step size-law (bind_inv t₃) λ size p₄ s₄ f₄ t₄.
    taken (bind_inv t₄) λ c p₅ h₅ t₅.
    step (octets-law size) (bind_inv t₅) λ body p₆ s₆ f₆ t₆.
    taken (bind_inv t₆) λ d p₇ h₇ t₇.
    let g = give-inv t₇ in
    let z₁ = at-inv h₁ in
    let z₃ = at-inv h₃ in
    let z₅ = at-inv h₅ in
    let z₇ = at-inv h₇ in
    let k : size ≡ length body = sym (eqb→eq (length body) size (both f₆).left) in
    let c₁ : Stands s e a b (config_bits config) = rw (← z₁.is, z₁.to, ← z₃.is) s₂ in
    let c₂ : Stands s e b c (variable_field 8 (length body)) = rw (← k, ← z₃.is, z₃.to, ← z₅.is) s₄ in
    let c₃ : Stands s e c d (octet_bits body) = rw (← z₅.is, z₅.to, ← z₇.is) s₆ in
    rw (← g.what, ← g.to, ← z₇.to, z₇.is)
    (record {
      is = refl;
      spans = λ i. record { config-at = a; size-at = b; body_at = c; trace = refl; id = rw z₁.is at i; config = c₁; size = c₂; body = c₃ };
      config = f₂;
      bytes = (both f₆).right;
    })

end_mark : extended_field 5 0 ≡ number_bits 5 0
unfolding extended_field escape
end_mark = refl

pub record Listed (s : List ℕ) (e p q : ℕ) (xs : List Found) : Type 0 where
  pub end-mark-at : ℕ
  pub traced : Traced s e p end-mark-at xs
  pub end_mark : Stands s e end-mark-at q (number_bits 5 0)
  pub fit : T (all_encodable (payloads_of xs))

pub payloads-sound : (n : ℕ) {s : List ℕ} {e p q : ℕ} {xs : List Found} → payloads n s e p ≡ got xs q → Listed s e p q xs
unfolding payloads payloads_of encodable all_encodable writable_payload word
payloads-sound zero h = asked (ask-inv h) λ no₁ t. absurd no₁
payloads-sound (suc n) {s} {e} {p} {q} h =
    taken (bind_inv h) λ p₀ p₁ h₁ t₁.
    let z = at-inv h₁ in
    step id-law (bind_inv t₁) λ id p₂ s₂ f₂ t₂.
    chosen (choose-inv t₂)
    (λ y t₃.
    let g = give-inv t₃ in
    let m : Stands s e p p₂ (number_bits 5 0) = rw (z.to, ← end_mark, ← eqb→eq id 0 y) s₂ in
    rw (← g.what, ← g.to) (record { end-mark-at = p; traced = none; end_mark = m; fit = tt }))
    λ y t₃.
    taken (bind_inv t₃) λ x p₃ h₃ t₄.
    taken (bind_inv t₄) λ xs p₄ h₄ t₅.
    let g = give-inv t₅ in
    let a = after-sound p₀ id h₃ in
    let r = payloads-sound n h₄ in
    let i : 1 ≤ id = omega (arith, neqb→ne id 0 y) in
    let sp : Spans s e p p₃ x = rw z.is (a.spans (rw (← z.is, z.to) s₂)) in
    rw (← g.what, ← g.to)
    (record {
      end-mark-at = r.end-mark-at;
      traced = more sp r.traced;
      end_mark = r.end_mark;
      fit = and _ _ (and _ _ (rw a.is (and _ _ (le→leb 1 id i) (and _ _ f₂ a.config))) a.bytes) r.fit;
    })

-- ---- reading finds all that is written

-- the payload x where it is written from p on
abbrev pub config_start : ℕ → Payload → ℕ
config_start p x = p + length (extended_field 5 x.id)

abbrev pub size_start : ℕ → Payload → ℕ
size_start p x = config_start p x + length (config_bits x.config)

abbrev pub body_start : ℕ → Payload → ℕ
body_start p x = size_start p x + length (variable_field 8 (length x.body))

abbrev pub body_end : ℕ → Payload → ℕ
body_end p x = body_start p x + length (octet_bits x.body)

unfoldable pub found_from : ℕ → Payload → Found
found_from p x = record {
  record_of = record { id = x.id; config = x.config; trace = trace_of p (config_start p x) (size_start p x) (body_start p x) (body_end p x) };
  body = x.body;
}

unfoldable pub all_found_from : ℕ → List Payload → List Found
all_found_from p [] = []
all_found_from p (x ∷ xs) = found_from p x ∷ all_found_from (body_end p x) xs

pub found-payloads : (p : ℕ) (xs : List Payload) → payloads_of (all_found_from p xs) ≡ xs
unfolding payloads_of all_found_from found_from
found-payloads p [] = refl
found-payloads p (x ∷ xs) = ap (λ (ys : List Payload). x ∷ ys) (found-payloads (body_end p x) xs)

-- each payload takes a bit at least
pub field-long : (w v : ℕ) → 0 < length (variable_field w v)
unfolding variable_field
field-long w v = rw (length-then, length-then) (omega arith)

pub payloads-long : (xs : List Payload) → length xs < length (payloads_bits xs)
unfolding payloads_bits payload_bits
payloads-long [] = rw length-number (omega arith)
payloads-long (x ∷ xs) = simp length-then (omega (arith, payloads-long xs, field-long 8 (length x.body)))

pub length-octets : (bs : List ℕ) → length (octet_bits bs) ≡ 8 * length bs
unfolding octet_bits
length-octets [] = refl
length-octets (b ∷ bs) = rw (length-then, length-number, length-octets bs) (omega arith)

-- two groups hold the size of every body that ends in a carrier
size-fit : {s : List ℕ} {e p q : ℕ} (bs : List ℕ) → bit_limit s e ≤ 8 * 65539 → Stands s e p q (octet_bits bs) → T (fits_variable 8 2 (length bs))
unfolding fits_variable capacity
size-fit [] l h = and _ _ tt tt
size-fit (b ∷ bs) l h =
    let k = length-octets (b ∷ bs) in
    let m = stands-to h in
    let n = stands-in h (omega arith) in
    let o : length (b ∷ bs) < 65792 = omega arith in
    and _ _ (lt→ltb (length (b ∷ bs)) 65792 o) (lt→ltb (length (b ∷ bs)) (2 ^ 64) (omega arith))

after-exact : {s : List ℕ} {e p₁ q : ℕ} (p : ℕ) (x : Payload) → bit_limit s e ≤ 8 * 65539 → config_start p x ≡ p₁ → T (writable_config x.config) → T (all_bytes x.body)
    → Stands s e p₁ q (config_bits x.config ⨟ variable_field 8 (length x.body) ⨟ octet_bits x.body) → (payload_after p x.id s e p₁ ≡ got (found_from p x) q) × (body_end p x ≡ q)
unfolding payload_after found_from sized
after-exact {s} {e} {p₁} {q} p x l k f g h =
    part _ _ h λ p₂ s₂ h₂. part _ _ h₂ λ p₃ s₃ s₄.
    let e₂ = stands-to s₂ in
    let e₃ = stands-to s₃ in
    let e₄ = stands-to s₄ in
    let o : T (eqb (length x.body) (length x.body) & all_bytes x.body) = and _ _ (eqb_refl (length x.body)) g in (
      bind-go _ _ (at-go s e p₁)
          (bind-go _ _ (config-law.exact f s₂)
          (bind-go _ _ (at-go s e p₂)
          (bind-go _ _ (size-law.exact (size-fit x.body l s₄) s₃)
          (bind-go _ _ (at-go s e p₃)
          (bind-go _ _ ((octets-law (length x.body)).exact o s₄)
          (bind-go _ _ (at-go s e q) (give-go s e (rw (k, e₂, e₃, e₄)) refl))))))),
      rw (k, e₂, e₃) e₄,
    )

pub payloads-exact : (n : ℕ) {s : List ℕ} {e p q : ℕ} (xs : List Payload) → bit_limit s e ≤ 8 * 65539 → length xs < n → T (all_encodable xs)
    → Stands s e p q (payloads_bits xs) → payloads n s e p ≡ got (all_found_from p xs) q
unfolding payloads payloads_bits payload_bits all_encodable encodable writable_payload word all_found_from
payloads-exact zero xs l k f h = absurd (omega arith)
payloads-exact (suc n) {s} {e} {p} [] l k f h =
    bind-go _ _ (at-go s e p)
    (bind-go _ _ (id-law.exact {a = 0} tt (rw end_mark h)) (choose-this _ _ _ tt (give-go s e refl refl)))
payloads-exact (suc n) {s} {e} {p} {q} (x ∷ xs) l k f h =
    fits (both f) λ fx fs. fits (both fx) λ fw fb. fits (both fw) λ f₁ g₁. fits (both g₁) λ f₂ f₃.
    part _ _ h λ p₅ hx s₅. part _ _ hx λ p₁ s₁ h₁.
    let a = after-exact p x l (stands-to s₁) f₃ fb h₁ in
    let s₆ : Stands s e (body_end p x) q (payloads_bits xs) = rw a.1 s₅ in
    let one : 1 ≤ x.id = leb→le 1 x.id f₁ in
    bind-go _ _ (at-go s e p)
    (bind-go _ _ (id-law.exact f₂ s₁)
    (choose-that _ _ _ (ne→neqb x.id 0 (λ (z : x.id ≡ 0). omega arith))
    (bind-go _ _ (rw (← a.1) at a.0)
    (bind-go _ _ (payloads-exact n xs l (omega arith) fs s₆) (give-go s e refl refl)))))
