-- The groups that a reading meets are those of the values that it finds. Assumes nothing.
use mathlib.Core.Path.{◌≡◌, refl}
use mathlib.Core.Bool.{Bool, true, false}
use mathlib.Core.List.{List, [], ◌∷◌}
use mathlib.Core.Logic.{◌↔◌}
use Prim.Native.Nat.{ℕ, ◌+◌, ◌-◌, ◌*◌, ◌/◌, ◌^◌, ◌≤◌, ◌<◌}
use native.Mathlib.Omega.{arith}
use lib.ListN.{length}
use lib.Dec.{T, ltb, ltb→lt, leb→le, lit≤, lit<}
use borrow.Author.Tests.{ltb-true, ltb-false, le-ltb, lt-ltb}
use Rattle.std.specs.Prelude.{if◌then◌else◌, Option, Some, None}
use Rattle.emdf_format.specs.Syntax.{groups, capacity, escape, extended_groups}
use Rattle.emdf_format.specs.Contents.{when_present, up_to, Payload, Contents, writable_config, writable_payload, writable_payloads, writable, needed_payload, needed_payloads, needed_bits}
use Rattle.emdf_format.specs.Reader.{got, variable_bits}
use Rattle.emdf_format.specs.Reading.{Found, Container, accepted, reading, contents_of}
use Rattle.emdf_format.specs.Groups.{larger, optional_groups, config_groups, payload_groups, payloads_groups, largest_groups_of, Grouping}
use Rattle.emdf_format.proofs.Standing.{both, stands-to, stands-in}
use Rattle.emdf_format.proofs.Variable.{field-sound, length-field, groups-hold, groups-least}
use Rattle.emdf_format.proofs.Payloads.{Spans}
use Rattle.emdf_format.proofs.Container.{contained-stands}
use Rattle.emdf_format.proofs.Lengths.{length-container}
use Rattle.emdf_format.proofs.Carrier.{read-contained, read-limit, read-size}

-- a field that is read ends so many groups after its start
pub field-groups : (w lim : ℕ) (s : List ℕ) (e p : ℕ) {q v : ℕ} → variable_bits w lim s e p ≡ got v q → q ≡ p + (w + 1) * groups w v
field-groups w lim s e p {v = v} h = omega (arith, stands-to (field-sound w lim h).stands, length-field w v)

-- and a payload's size is as long as its body's
pub size-groups : {s : List ℕ} {e p q : ℕ} {x : Found} → Spans s e p q x
    → let t = x.record_of.trace in (t.payload_size_end_bit.0 - t.payload_size_start_bit.0) / 9 ≡ groups 8 (length x.body)
size-groups {x = x} h = rw h.trace (omega (arith, stands-to h.size, length-field 8 (length x.body)))

-- ---- the larger of two numbers

pub larger-right : (a b : ℕ) → a ≤ b → larger a b ≡ b
larger-right a b h = go (ltb a b) refl
  where
    go : (t : Bool) → ltb a b ≡ t → larger a b ≡ b
    go true k = rw k
    go false k = let e : a ≡ b = omega (arith, ltb-false a b k) in rw (k, e)

pub larger-left : (a b : ℕ) → b ≤ a → larger a b ≡ a
larger-left a b h = rw (le-ltb a b h)

pub larger-assoc : (a b c : ℕ) → larger (larger a b) c ≡ larger a (larger b c)
larger-assoc a b c = go (ltb a b) refl (ltb b c) refl (ltb a c) refl
  where
    go : (x : Bool) → ltb a b ≡ x → (y : Bool) → ltb b c ≡ y → (z : Bool) → ltb a c ≡ z → larger (larger a b) c ≡ larger a (larger b c)
    go true h true k true l = simp (h, k, l)
    go true h true k false l = absurd (omega (arith, ltb-true a b h, ltb-true b c k, ltb-false a c l))
    go true h false k z l = simp (h, k)
    go false h true k z l = simp (h, k)
    go false h false k true l = absurd (omega (arith, ltb-false a b h, ltb-false b c k, ltb-true a c l))
    go false h false k false l = simp (h, k, l)

pub larger-zero : (a : ℕ) → larger 0 a ≡ a
larger-zero a = larger-right 0 a (omega arith)

pub larger-most : {a b n : ℕ} → a ≤ n → b ≤ n → larger a b ≤ n
larger-most {a} {b} {n} h k = by (ltb a b)
  where
    by : (t : Bool) → (if t then b else a) ≤ n
    by true = k
    by false = h

larger-least : (a b : ℕ) → (a ≤ larger a b) × (b ≤ larger a b)
larger-least a b = by (ltb a b) refl
  where
    by : (t : Bool) → ltb a b ≡ t → (a ≤ (if t then b else a)) × (b ≤ (if t then b else a))
    by true h = (omega (arith, ltb-true a b h), omega arith)
    by false h = (omega arith, omega (arith, ltb-false a b h))

-- ---- what is claimed of them

extended-most : (w v : ℕ) → 2 ^ 64 ≤ capacity w 31 → v < 2 ^ 64 → extended_groups w v ≤ 31
unfolding extended_groups
extended-most w v h k = by (ltb v (escape w))
  where
    by : (t : Bool) → (if t then 0 else groups w (v - escape w)) ≤ 31
    by true = omega arith
    by false = groups-least w (v - escape w) 31 (omega arith)

optional-most : (w n : ℕ) (o : Option ℕ) → n < capacity w 31 → T (when_present (up_to n) o) → optional_groups w o ≤ 31
unfolding optional_groups when_present up_to
optional-most w n None l h = omega arith
optional-most w n (Some v) l h = groups-least w v 31 (omega (arith, leb→le v n h))

size-most : (n : ℕ) → n < 65792 → groups 8 n ≤ 31
unfolding capacity
size-most n h = omega (arith, groups-least 8 n 2 h)

payload-most : (x : Payload) → T (writable_payload x) → needed_payload x ≤ 8 * 65539 → payload_groups x ≤ 31
unfolding payload_groups writable_payload writable_config needed_payload capacity
payload-most x h k =
    let a = both (both h).right in
    let t = both (both a.right).right in
    larger-most
    (larger-most
    (extended-most 5 x.id (lit≤ tt) (ltb→lt x.id (2 ^ 64) a.left))
    (larger-most (optional-most 11 4_196_351 _ (lit< tt) t.left) (optional-most 2 6_148_914_691_236_517_203 _ (lit< tt) (both t.right).left)))
    (size-most (length x.body) (omega arith))

payloads-most : (xs : List Payload) → T (writable_payloads xs) → needed_payloads xs ≤ 8 * 65539 → payloads_groups xs ≤ 31
unfolding payloads_groups writable_payloads needed_payloads
payloads-most [] h k = omega arith
payloads-most (x ∷ xs) h k =
    larger-most (payload-most x (both h).left (omega arith)) (payloads-most xs (both h).right (omega arith))

most : (s : List ℕ) (n : ℕ) (c : Container) → reading s ≡ accepted n c → largest_groups_of (contents_of c) ≤ 31
unfolding largest_groups_of writable needed_bits capacity
most s n c h =
    let (q, d) = read-contained s n c h in
    let z = contained-stands d in
    let l : needed_bits (contents_of c) ≤ 8 * 65539 = omega (arith, length-container (contents_of c), stands-to z, stands-in z (omega (arith, length-container (contents_of c))), read-limit s n c h, read-size s n c h) in
    let f = both d.fit in
    larger-most (extended-most 3 c.key-id (lit≤ tt) (ltb→lt c.key-id (2 ^ 64) f.left)) (payloads-most _ (both f.right).left (omega (arith, l)))

some : (w v : ℕ) → 0 < groups w v
unfolding groups
some w v = omega arith

no-extension : (v : ℕ) → extended_groups 3 v ≡ 0 → v < 7
unfolding extended_groups escape
no-extension v h = by (ltb v 7) refl h
  where
    by : (t : Bool) → ltb v 7 ≡ t → (if t then 0 else groups 3 (v - 7)) ≡ 0 → v < 7
    by true k e = ltb-true v 7 k
    by false k e = absurd (omega (arith, e, some 3 (v - 7)))

no_payload : (xs : List Payload) → payloads_groups xs ≡ 0 → xs ≡ []
unfolding payloads_groups payload_groups
no_payload [] h = refl
no_payload (x ∷ xs) h =
    absurd (omega (arith, h, larger-least (payload_groups x) (payloads_groups xs), larger-least (larger (extended_groups 5 x.id) (config_groups x.config)) (groups 8 (length x.body)), some 8 (length x.body)))

none : (c : Contents) → (largest_groups_of c ≡ 0) ↔ ((c.key-id < 7) × (c.payloads ≡ []))
unfolding largest_groups_of extended_groups payloads_groups escape
none c = (forth, λ h. rw (h.1, lt-ltb c.key-id 7 h.0))
  where
    forth : largest_groups_of c ≡ 0 → (c.key-id < 7) × (c.payloads ≡ [])
    forth h =
        let l = larger-least (extended_groups 3 c.key-id) (payloads_groups c.payloads) in
        (no-extension c.key-id (omega (arith, h, l)), no_payload c.payloads (omega (arith, h, l)))

pub grouping : Grouping
grouping = record {
  least = λ w v. (groups-hold w v, groups-least w v);
  read = λ w lim s e p v q h. field-groups w lim s e p h;
  none = none;
  most = most;
}
