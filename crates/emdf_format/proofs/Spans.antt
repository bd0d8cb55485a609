-- Spans: they adjoin, follow one another, lie in the carrier, hold the bodies, and all bits are counted. Assumes nothing.
use mathlib.Core.Path.{◌≡◌, refl, sym, ap, ◌∙◌}
use mathlib.Core.List.{List, [], ◌∷◌}
use Prim.Native.Nat.{ℕ, zero, suc, ◌+◌, ◌-◌, ◌*◌, ◌≤◌}
use native.Mathlib.Omega.{arith}
use lib.ListN.{length, take}
use lib.Dec.{T, ltb→lt}
use Rattle.openjoc_bitio.proofs.Bits.{length-number, value-take}
use Rattle.emdf_format.specs.Syntax.{extended_field, octet_bits}
use Rattle.emdf_format.specs.Contents.{all_bytes, bodies_are_bytes, contents_are_bytes, protection_bits}
use Rattle.emdf_format.specs.Reading.{Found, Container, accepted, reading, payloads_of}
use Rattle.emdf_format.specs.Calls.{body_start, octets_at, BodiesAtSpans}
use Rattle.emdf_format.proofs.Standing.{Stands, part, bit_limit, number_read, both, length-then, stands-to, stands-in, stands-within}
use Rattle.emdf_format.proofs.Payloads.{Spans, Traced, none, more, field-long, length-octets}
use Rattle.emdf_format.proofs.Carrier.{read-contained, read-limit}

-- ---- where the parts of a payload start

abbrev pub id_start : Found → ℕ
id_start x = x.record_of.trace.payload_id_start_bit.0

abbrev pub body_end : Found → ℕ
body_end x = x.record_of.trace.payload_body_end_bit.0

-- the parts of x adjoin, in order
pub record Adjoin (x : Found) : Type 0 where
  pub id : id_start x ≤ x.record_of.trace.payload_id_end_bit.0
  pub config-start : x.record_of.trace.payload_id_end_bit.0 ≡ x.record_of.trace.config_start_bit.0
  pub config : x.record_of.trace.config_start_bit.0 ≤ x.record_of.trace.config_end_bit.0
  pub size-start : x.record_of.trace.config_end_bit.0 ≡ x.record_of.trace.payload_size_start_bit.0
  pub size : x.record_of.trace.payload_size_start_bit.0 ≤ x.record_of.trace.payload_size_end_bit.0
  pub body-start : x.record_of.trace.payload_size_end_bit.0 ≡ body_start x
  pub body : body_start x ≤ body_end x

-- payloads that follow one another, from bit a up to bit b
unfoldable pub Follow : ℕ → ℕ → List Found → Type 0
Follow a b [] = a ≤ b
Follow a b (x ∷ xs) = (a ≡ id_start x) × Adjoin x × Follow (body_end x) b xs

adjoin : {s : List ℕ} {e p q : ℕ} {x : Found} → Spans s e p q x → Adjoin x
adjoin {x = x} h =
    rw h.trace
    (record {
      id = omega (arith, stands-to h.id);
      config-start = refl;
      config = omega (arith, stands-to h.config);
      size-start = refl;
      size = omega (arith, stands-to h.size);
      body-start = refl;
      body = omega (arith, stands-to h.body);
    })

follow : {s : List ℕ} {e p q b : ℕ} {xs : List Found} → Traced s e p q xs → q ≤ b → Follow p b xs
unfolding Follow
follow none h = h
follow (more {p = p} {q = q} {x = x} a t) h =
    let z : id_start x ≡ p = ap (λ u. u.payload_id_start_bit.0) a.trace in
    let y : body_end x ≡ q = ap (λ u. u.payload_body_end_bit.0) a.trace in
    (sym z, adjoin a, rw y (follow t h))

-- ---- bodies

octets-taken : (s : List ℕ) (n p k : ℕ) → p + 8 * k ≤ n * 8 → octets_at (take n s) p k ≡ octets_at s p k
unfolding octets_at
octets-taken s n p zero h = refl
octets-taken s n p (suc k) h = rw (value-take s n p 8 (omega arith), octets-taken s n (p + 8) k (omega arith))

-- octets that stand are what is read there
pub octets-read : {s : List ℕ} {e p q : ℕ} (bs : List ℕ) → T (all_bytes bs) → Stands s e p q (octet_bits bs) → bs ≡ octets_at s p (length bs)
unfolding all_bytes octet_bits octets_at
octets-read [] f h = refl
octets-read {s} {e} {p} (b ∷ bs) f h =
    part _ _ h λ p₁ s₁ s₂.
    let r = number_read 8 b (ltb→lt b 256 (both f).left) s₁ in
    let t : bs ≡ octets_at s (p + 8) (length bs) = rw r.to (octets-read bs (both f).right s₂) in
    rw (r.is, ← t)

bodies : (s : List ℕ) (n : ℕ) {p q : ℕ} {xs : List Found} → bit_limit (take n s) (8 * n) ≡ 8 * n → T (bodies_are_bytes (payloads_of xs))
    → Traced (take n s) (8 * n) p q xs → BodiesAtSpans s xs
unfolding bodies_are_bytes payloads_of BodiesAtSpans
bodies s n l f none = tt
bodies s n l f (more {q = q} {x = x} a t) =
    let z : body_start x ≡ a.body_at = ap (λ u. u.payload_body_start_bit.0) a.trace in
    let y : body_end x ≡ q = ap (λ u. u.payload_body_end_bit.0) a.trace in
    let m : a.body_at + 8 * length x.body ≡ q = omega (arith, stands-to a.body, length-octets x.body) in
    let i : a.body_at + 8 * length x.body ≤ n * 8 = omega (arith, l, stands-within a.body (stands-in a.size (field-long 8 (length x.body)))) in
    (rw z (octets-read x.body (both f).left a.body ∙ octets-taken s n a.body_at (length x.body) i), rw (z, y, m), bodies s n l (both f).right t)

-- ---- what holds of every accepted reading

-- the bits of the payloads' spans
unfoldable pub span_bits : List Found → ℕ
span_bits [] = 0
span_bits (x ∷ xs) = (body_end x - id_start x) + span_bits xs

traced-bits : {s : List ℕ} {e p q : ℕ} {xs : List Found} → Traced s e p q xs → p + span_bits xs ≡ q
unfolding span_bits
traced-bits none = omega arith
traced-bits (more {p = p} {q = q} {x = x} a t) =
    let z : id_start x ≡ p = ap (λ u. u.payload_id_start_bit.0) a.trace in
    let y : body_end x ≡ q = ap (λ u. u.payload_body_end_bit.0) a.trace in
    omega (arith, traced-bits t, stands-to a.id, stands-to a.config, stands-to a.size, stands-to a.body)

pub record Laid (s : List ℕ) (n : ℕ) (c : Container) : Type 0 where
  pub first : ℕ
  pub starts : 32 ≤ first
  pub follow : Follow first (8 * n) c.found
  pub bodies : BodiesAtSpans s c.found
  pub padding : ℕ
  pub few : padding ≤ 7
  pub counted : 8 * n ≡ 32 + (2 + length (extended_field 3 c.key-id)) + span_bits c.found + 5 + 4 + 8 * (length c.primary + length c.secondary) + padding

-- spans adjoin, follow one another between bit 32 and bit 8n, hold the bodies, and all bits are counted
pub laid : (s : List ℕ) (n : ℕ) (c : Container) → reading s ≡ accepted n c → Laid s n c
unfolding protection_bits contents_are_bytes
laid s n c h =
    let l = (read-limit s n c h).1 in
    let k = (read-contained s n c h).1 in
    let a : 32 + (2 + length (extended_field 3 c.key-id)) ≡ k.payloads-at = simp (length-then, length-number) at (stands-to k.key) in
    let b = traced-bits k.listed.traced in
    let d : k.listed.end-mark-at + 5 ≡ k.codes_at = rw length-number at (stands-to k.listed.end_mark) in
    let p = stands-to k.protection in
    let f : k.codes_at + (2 + (2 + (8 * length c.primary + 8 * length c.secondary))) ≡ k.end = simp (length-then, length-number, length-octets) at p in
    let m : k.end ≤ 8 * n = rw l at (stands-in k.protection (simp (length-then, length-number) (omega arith))) in
    let g : 8 * n - k.end ≤ 7 = rw l at k.pad.few in
    record {
      first = k.payloads-at;
      starts = omega arith;
      follow = follow k.listed.traced (omega arith);
      bodies = bodies s n l (both k.bytes).left k.listed.traced;
      padding = 8 * n - k.end;
      few = g;
      counted = omega arith;
    }
