-- Fields put one after another. Assumes nothing.
use mathlib.Core.Path.{◌≡◌, refl, sym, ap, ◌∙◌}
use mathlib.Core.Bool.{true}
use mathlib.Core.List.{List, [], ◌∷◌}
use Prim.Native.Nat.{ℕ, zero, suc, ◌+◌, ◌-◌, ◌*◌, ◌/◌, ◌%◌, ◌^◌, ◌<◌, ◌≤◌}
use native.Mathlib.Nat.{le_refl, mod-lt}
use native.Mathlib.Omega.{arith}
use lib.ListN.{length, length-append}
use lib.Seq.{sets, take-length}
use lib.Dec.{leb}
use lib.Pow.{shr_le, pow_pos, pow_mono}
use borrow.Author.Tests.{lt-ltb, le-ltb, le-leb}
use Rattle.openjoc_bitio.specs.Bits.{number_bits}
use Rattle.openjoc_bitio.specs.Cursor.{bit_length}
use Rattle.openjoc_bitio.proofs.Bits.{length-number, number-low}
use Rattle.emdf_format.specs.Syntax.{syncword, ◌⨟◌, groups_before, variable_field, escape, extended_field, octet_bits}
use Rattle.emdf_format.specs.Contents.{protection_bits}
use Rattle.emdf_format.proofs.Standing.{length-then}
use Rattle.emdf_format.proofs.Bytes.{sets-append}
use Rattle.emdf_format.proofs.Payloads.{length-octets}
use Rattle.emdf_format.proofs.Splice.{zeros-append}
use Rattle.emdf_format.proofs.Variable.{before-fuel}
use Rattle.emdf_writer.specs.Writing.{bit_run, number_put, bit_by_bit}
use Rattle.emdf_writer.proofs.Stored.{number-split}
use Rattle.emdf_writer.proofs.Run.{length_run}
use Rattle.emdf_writer.proofs.Plain.{octets-put}
use Rattle.emdf_writer.proofs.Fitting.{number_in, run_in}
use Rattle.emdf_field_writer.specs.Fields.{Room, Put, group, variable_groups, sync_bits, header_bits}

-- ---- room

pub fits : (out : List ℕ) (end : ℕ) → end ≤ length out * 8 → length out < 2 ^ 61 → leb end (bit_length out) ≡ true
unfolding bit_length
fits out end h l = simp (lt-ltb (length out) (2 ^ 61) l) (le-leb end (length out * 8) h)

pub number_fits : (out : List ℕ) (at w v : ℕ) → w ≤ 64 → Room out at (number_bits w v) → number_put out at w v ≡ sets (octet_bits out) at (number_bits w v)
number_fits out at w v h r = sym (number_in out at w v h (fits out (at + w) (omega (arith, length-number w v, r.0)) r.1)).1

-- room in a buffer of n bytes
abbrev RoomOf : ℕ → ℕ → List ℕ → Type 0
RoomOf n at bs = (at + length bs ≤ n * 8) × (n < 2 ^ 61)

pub room-same : {xs ys : List ℕ} (at : ℕ) {n : ℕ} → xs ≡ ys → RoomOf n at xs → RoomOf n at ys
room-same at e r = rw (← e) r

-- where some bits and then others fit, the first do, and the others after them
pub room-first : (xs ys : List ℕ) (at : ℕ) {n : ℕ} → RoomOf n at (xs ⨟ ys) → RoomOf n at xs
room-first xs ys at r = (omega (arith, r.0, length-then xs ys), r.1)

pub room_next : (out mid xs ys : List ℕ) (at : ℕ) {p : ℕ} → Room out at (xs ⨟ ys) → Put out at xs mid p → length mid ≡ length out → Room mid p ys
room_next out mid xs ys at r a e = (omega (arith, r.0, a.0, e, length-then xs ys), rw e r.1)

-- some bits and then others
pub then-put : (out mid end xs ys : List ℕ) (at : ℕ) {p q : ℕ} → Put out at xs mid p → Put mid p ys end q → Put out at (xs ⨟ ys) end q
unfolding ◌⨟◌
then-put out mid end xs ys at {p} {q} a b =
    (omega (arith, a.0, b.0, length-append xs ys), b.1 ∙ rw (a.1, a.0) (sym (sets-append (octet_bits out) at xs ys)))

-- no bits
pub none-put : (out : List ℕ) (at : ℕ) → Put out at [] out at
none-put out at = (omega arith, refl)

-- zero bits and then others
pub zeros-put : (out mid end : List ℕ) (at n w : ℕ) {p q : ℕ} → Put out at (number_bits n 0) mid p → Put mid p (number_bits w 0) end q → Put out at (number_bits (n + w) 0) end q
zeros-put out mid end at n w a b = rw (← zeros-append n w) (then-put out mid end _ _ at a b)

-- ---- groups

pub length-group : (w low more : ℕ) → length (group w low more) ≡ w + 1
unfolding group
length-group w low more = rw (length-then, length-number)

-- the number that a group is put as, and that it is not too large
pub group-number : (w v more p : ℕ) → p ≡ 2 ^ w → more < 2 → number_bits (w + 1) (v % p * 2 + more) ≡ group w v more
unfolding group ◌⨟◌ number_bits
group-number w v more p e h =
    let a : (v % p * 2 + more) / 2 ^ 1 ≡ v % p = omega arith in
    let b : (v % p * 2 + more) / 2 ^ 0 % 2 ≡ more = omega arith in
    number-split w 1 (v % p * 2 + more) ∙ rw (a, b, e, number-low)

pub group-small : (w v more p : ℕ) → p ≡ 2 ^ w → more < 2 → w < 64 → v % p * 2 + more < 2 ^ 64
group-small w v more p e h l =
    let a : 2 ^ suc w ≤ 2 ^ 64 = pow_mono {j = 64} (omega arith) in
    rw e (omega (arith, a, mod-lt v (pow_pos w)))

-- the groups before the last are those of the shorter value
groups-rest : (w k : ℕ) → (k ≡ 0 → ⊥) → groups_before k w k ≡ variable_groups w (k - 1) 1
unfolding groups_before variable_groups group
groups-rest w zero h = absurd (h refl)
groups-rest w (suc u) h =
    let e : suc u - 1 ≡ u = omega arith in
    rw (e, number-low) (ap (λ (x : List ℕ). x ⨟ number_bits w u ⨟ (1 ∷ [])) (before-fuel w u (u / 2 ^ w) (u / 2 ^ w) (shr_le u w) (le_refl _)))

group-low : (w v more : ℕ) → group w (v % 2 ^ w) more ≡ group w v more
unfolding group
group-low w v more = rw number-low

module _ (w v more : ℕ) where
  pub groups-one : v / 2 ^ w ≡ 0 → variable_groups w v more ≡ group w v more
  unfolding variable_groups groups_before ◌⨟◌
  groups-one h = rw (h, group-low)

  groups-split : variable_groups w v more ≡ groups_before (v / 2 ^ w) w (v / 2 ^ w) ⨟ group w v more
  unfolding variable_groups
  groups-split = rw group-low

  pub groups-more : (v / 2 ^ w ≡ 0 → ⊥) → variable_groups w v more ≡ variable_groups w (v / 2 ^ w - 1) 1 ⨟ group w v more
  groups-more h = groups-split ∙ rw (groups-rest w (v / 2 ^ w) h)

  pub length-one : v / 2 ^ w ≡ 0 → length (variable_groups w v more) ≡ w + 1
  length-one h = rw (groups-one h, length-group)

  pub length_more : (v / 2 ^ w ≡ 0 → ⊥) → length (variable_groups w v more) ≡ length (variable_groups w (v / 2 ^ w - 1) 1) + (w + 1)
  length_more h = rw (groups-more h, length-then, length-group)

-- with the last more bit clear they are the field
pub groups-field : (w v : ℕ) → variable_groups w v 0 ≡ variable_field w v
unfolding variable_groups variable_field group
groups-field w v = refl

-- ---- a field with an escape

-- p is 2 ^ w, as the code has it
module _ (w v p : ℕ) (e : p ≡ 2 ^ w) where
  pub extended-short : v < p - 1 → extended_field w v ≡ number_bits w v
  unfolding extended_field escape
  extended-short h = let l : v < 2 ^ w - 1 = rw e at h in simp (lt-ltb v (2 ^ w - 1) l)

  pub extended-long : p - 1 ≤ v → extended_field w v ≡ number_bits w (p - 1) ⨟ variable_groups w (v - (p - 1)) 0
  unfolding extended_field escape
  extended-long h = let l : 2 ^ w - 1 ≤ v = rw e at h in rw (e, le-ltb v (2 ^ w - 1) l, groups-field)

-- ---- bits of a slice, and all its octets

pub run_fits : (out : List ℕ) (at : ℕ) (s : List ℕ) (from n : ℕ) → Room out at (bit_run s from n) → from + n ≤ length s * 8 → length s < 2 ^ 61
    → octet_bits (bit_by_bit out at s from n) ≡ sets (octet_bits out) at (bit_run s from n)
run_fits out at s from n r h l =
    let k : at + n ≤ length out * 8 = omega (arith, length_run s from n h, r.0) in
    ap octet_bits (sym (run_in out at s from n (fits s (from + n) h l) (fits out (at + n) k r.1)).1) ∙ octets-put out at s from n k h

pub run-all : (s : List ℕ) → bit_run s 0 (length s * 8) ≡ octet_bits s
unfolding bit_run
run-all s = let e : length s * 8 ≡ length (octet_bits s) = omega (arith, length-octets s) in rw e (take-length (octet_bits s))

pub octets-fit : (out : List ℕ) (at : ℕ) (s : List ℕ) → Room out at (octet_bits s) → octet_bits (bit_by_bit out at s 0 (length s * 8)) ≡ sets (octet_bits out) at (octet_bits s)
octets-fit out at s r = run_fits out at s 0 (length s * 8) (rw (run-all s) r) (omega arith) (omega (arith, length-octets s, r.0, r.1)) ∙ rw (run-all s)

-- ---- the parts of a carrier

pub length-protection : (a b : List ℕ) → length (protection_bits a b) ≡ 4 + (length (octet_bits a) + length (octet_bits b))
unfolding protection_bits
length-protection a b = simp (length-then, length-number) (omega arith)

pub length-sync : (n : ℕ) → length (sync_bits n) ≡ 32
unfolding sync_bits
length-sync n = simp (length-then, length-number)

pub sync-put : (out mid end : List ℕ) (n : ℕ) → octet_bits mid ≡ sets (octet_bits out) 0 (number_bits 16 syncword) → octet_bits end ≡ sets (octet_bits mid) 16 (number_bits 16 n)
    → Put out 0 (sync_bits n) end 32
unfolding sync_bits
sync-put out mid end n a b =
    then-put out mid end (number_bits 16 syncword) (number_bits 16 n) 0 {p = 16} {q = 32} (omega (arith, length-number 16 syncword), a) (omega (arith, length-number 16 n), b)

pub length-header : (n key : ℕ) → length (header_bits n key) ≡ 34 + length (extended_field 3 key)
unfolding header_bits
length-header n key = simp (length-then, length-number, length-sync) (omega arith)
