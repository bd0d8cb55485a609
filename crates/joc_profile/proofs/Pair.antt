-- The payloads of table 55, met one after another: what is seen of them is what the definition counts and finds. Assumes nothing.
use mathlib.Core.Path.{◌≡◌, refl, sym, ap, ◌∙◌}
use mathlib.Core.Bool.{Bool, true, false}
use mathlib.Core.List.{List, [], ◌∷◌}
use Prim.Native.Nat.{ℕ, zero, suc, ◌+◌, ◌≤◌}
use native.Mathlib.Omega.{arith}
use lib.Dec.{eqb}
use borrow.Author.Tests.{ne_eqb}
use Rattle.std.specs.Prelude.{if◌then◌else◌, Some, None, Result, Ok, Err, Option}
use Rattle.openjoc_bitio.specs.declared.BitCursor.{BitCursor}
use Rattle.openjoc_bitio.proofs.Results.{both-same, ok-is-not-err}
use Rattle.emdf_format.specs.declared.ValidatedJocProfile.{ValidatedJocProfile}
use Rattle.emdf_format.specs.declared.JocProfileError.{JocProfileError}
use Rattle.emdf_format.specs.Reading.{Found, Container, accepted, reading, contents_of}
use Rattle.emdf_format.specs.Groups.{largest_groups_of}
use Rattle.emdf_format.specs.Profile.{count_id, first_id, only_id, judge, judged, verdict_on, verdict}
use Rattle.emdf_format.specs.declared.JocValidationProfile.{JocValidationProfile}
use Rattle.emdf_format.specs.declared.JocProfileError.TheVariants.{Emdf, PayloadCount}
use Rattle.emdf_format.specs.declared.EmdfError.{EmdfError}
use Rattle.emdf_format.specs.declared.PayloadRecord.{PayloadRecord}
use Rattle.emdf_format.specs.declared.PlacedConfig.{PlacedConfig}
use Rattle.emdf_container.specs.Container.{container_of}
use Rattle.openjoc_emdf.specs.declared.ParsedEmdf.{ParsedEmdf}
use Rattle.openjoc_emdf.specs.Answers.{parsed_emdf, open_answer}
use Rattle.openjoc_emdf.proofs.Opening.{unopened}
use Rattle.emdf_payloads.specs.Payloads.{Listed, step_at}
use Rattle.emdf_payloads.proofs.Walk.{First, step-found, step-ended}
use Rattle.joc_profile.specs.Pair.{count_of, seen_more, seen_next, seen_from, pair_of, placed_of, judged_pair}
use Rattle.joc_profile.specs.declared.Seen.{Seen}
use Rattle.joc_profile.specs.declared.Seen.TheVariants.{Nothing, One, Several}

-- ---- a turn of the loop

count-more : (b : Seen) (k : ℕ) (x : PlacedConfig) → count_of b ≤ k → count_of (seen_more b x) ≤ k + 1
unfolding seen_more
count-more Nothing k x h = omega arith
count-more (One y) k x h = omega arith
count-more (Several n) k x h = omega arith

pub count_next : (b : Seen) (id k : ℕ) (r : PayloadRecord) → count_of b ≤ k → count_of (seen_next b id k r) ≤ k + 1
unfolding seen_next
count_next b id k r h = go b (eqb r.id id) h
  where
    go : (b : Seen) (t : Bool) → count_of b ≤ k → count_of (if t then seen_more b (record { place = k; config = r.config }) else b) ≤ k + 1
    go b true h = count-more b k _ h
    go b false h = omega arith

pub none_seen : count_of Nothing ≤ 0
none_seen = omega arith

-- ---- all of them

seen-several : (n id k : ℕ) (xs : List Found) → seen_from (Several n) id k xs ≡ Several (n + count_id id xs)
unfolding seen_from count_id seen_next seen_more
seen-several n id k [] = let e : n ≡ n + 0 = omega arith in ap Several e
seen-several n id k (x ∷ xs) = go (eqb x.record_of.id id)
    (seen-several (n + 1) id (k + 1) xs ∙ ap Several (let e : n + 1 + count_id id xs ≡ n + (1 + count_id id xs) = omega arith in e))
    (seen-several n id (k + 1) xs ∙ ap Several (let e : n + count_id id xs ≡ n + (0 + count_id id xs) = omega arith in e))
  where
    go : (t : Bool) → seen_from (Several (n + 1)) id (k + 1) xs ≡ Several (n + (1 + count_id id xs)) → seen_from (Several n) id (k + 1) xs ≡ Several (n + (0 + count_id id xs))
        → seen_from (if t then Several (n + 1) else Several n) id (k + 1) xs ≡ Several (n + ((if t then 1 else 0) + count_id id xs))
    go true a b = a
    go false a b = b

-- one is seen: it stays where no other has the id
unfoldable one_of : PlacedConfig → ℕ → Seen
one_of p zero = One p
one_of p (suc n) = Several (2 + n)

seen_one : (p : PlacedConfig) (id k : ℕ) (xs : List Found) → seen_from (One p) id k xs ≡ one_of p (count_id id xs)
unfolding seen_from count_id seen_next seen_more one_of
seen_one p id k [] = refl
seen_one p id k (x ∷ xs) = go (eqb x.record_of.id id) (seen-several 2 id (k + 1) xs) (seen_one p id (k + 1) xs)
  where
    go : (t : Bool) → seen_from (Several 2) id (k + 1) xs ≡ Several (2 + count_id id xs) → seen_from (One p) id (k + 1) xs ≡ one_of p (count_id id xs)
        → seen_from (if t then Several 2 else One p) id (k + 1) xs ≡ one_of p ((if t then 1 else 0) + count_id id xs)
    go true a b = let e : suc (count_id id xs) ≡ 1 + count_id id xs = omega arith in a ∙ ap (one_of p) e
    go false a b = let e : count_id id xs ≡ 0 + count_id id xs = omega arith in b ∙ ap (one_of p) e

pub record Agrees (seen : Seen) (n : ℕ) (first : Option PlacedConfig) : Type 0 where
  pub place : placed_of seen ≡ (if eqb n 1 then first else None)
  pub count : count_of seen ≡ n

one-agrees : (p : PlacedConfig) (n : ℕ) → Agrees (one_of p n) (1 + n) (Some p)
unfolding one_of placed_of
one-agrees p zero = record { place = refl; count = refl }
one-agrees p (suc n) = record { place = rw (ne_eqb (1 + suc n) 1 (λ e. omega (arith, e))); count = omega arith }

pub seen-agrees : (id k : ℕ) (xs : List Found) → Agrees (seen_from Nothing id k xs) (count_id id xs) (first_id id k xs)
unfolding seen_from count_id first_id seen_next seen_more placed_of
seen-agrees id k [] = record { place = refl; count = refl }
seen-agrees id k (x ∷ xs) = go (eqb x.record_of.id id) (seen-agrees id (k + 1) xs)
  where
    here : PlacedConfig
    here = record { place = k; config = x.record_of.config }

    go : (t : Bool) → Agrees (seen_from Nothing id (k + 1) xs) (count_id id xs) (first_id id (k + 1) xs)
        → Agrees (seen_from (if t then One (record { place = k; config = x.record_of.config }) else Nothing) id (k + 1) xs) ((if t then 1 else 0) + count_id id xs)
        (if t then Some (record { place = k; config = x.record_of.config }) else first_id id (suc k) xs)
    go true h = rw (seen_one _ id (k + 1) xs) (one-agrees _ (count_id id xs))
    go false h =
        let e : suc k ≡ k + 1 = omega arith in
        let z : 0 + count_id id xs ≡ count_id id xs = omega arith in
        rw (e, z) h

-- ---- the verdict on what is seen

module _ (profile : JocValidationProfile) (most : ℕ) (o j : Seen) where
  -- 14: one of them is missing or repeated
  pub not-both : {m n : ℕ} → ((p q : PlacedConfig) → o ≡ One p → j ≡ One q → ⊥) → m ≡ count_of o → n ≡ count_of j → Err (PayloadCount m n) ≡ judged_pair profile most o j
  unfolding judged_pair judged placed_of
  not-both f a b = rw (a, b) (go o j f)
    where
      counts : Result ValidatedJocProfile JocProfileError
      counts = Err (PayloadCount (count_of o) (count_of j))

      go : (x y : Seen) → ((p q : PlacedConfig) → x ≡ One p → y ≡ One q → ⊥) → counts ≡ judged profile most (placed_of x) (placed_of y) counts
      go Nothing y f = refl
      go (Several k) y f = refl
      go (One p) Nothing f = refl
      go (One p) (Several k) f = refl
      go (One p) (One q) f = absurd (f p q refl refl)

  pub both-there : {r : Result ValidatedJocProfile JocProfileError} {p q : PlacedConfig} → o ≡ One p → j ≡ One q → r ≡ judge profile most p q → r ≡ judged_pair profile most o j
  unfolding judged_pair judged placed_of
  both-there e f h = rw (e, f) h

-- ---- the verdict on a carrier

-- a carrier that is read has its contents' groups
pub parsed-groups : {n : ℕ} (c : Container) {p : ParsedEmdf} → parsed_emdf n c ≡ p → p.container.largest_groups ≡ largest_groups_of (contents_of c)
unfolding container_of
parsed-groups c h = rw (← h)

-- the payloads of a carrier that is read are never refused
pub never-refused : (xs : List Found) {a : Result (Seen × Seen) EmdfError} → a ≡ pair_of xs → (why : EmdfError) × (a ≡ Err why) → ⊥
unfolding pair_of
never-refused xs is (why, h) = ok-is-not-err (sym is ∙ h)

module _ (profile : JocValidationProfile) (s : List ℕ) where
  pub refused-verdict : {a : Result (ParsedEmdf × BitCursor) EmdfError} {r : Result ValidatedJocProfile JocProfileError} → a ≡ open_answer s (reading s)
      → (why : EmdfError) × (a ≡ Err why) × (r ≡ Err (Emdf why)) → r ≡ verdict profile s
  unfolding verdict verdict_on
  refused-verdict i (why, h, e) = e ∙ rw (unopened s (sym i ∙ h))

  module _ {n : ℕ} {c : Container} (read : reading s ≡ accepted n c) {a : Result (Seen × Seen) EmdfError} (is : a ≡ pair_of c.found) where
    pub found-verdict : {most : ℕ} {o j : Seen} {r : Result ValidatedJocProfile JocProfileError} → most ≡ largest_groups_of (contents_of c) → a ≡ Ok (o, j) → r ≡ judged_pair profile most o j → r ≡ verdict profile s
    unfolding verdict verdict_on judged_pair only_id pair_of
    found-verdict {o = o} {j = j} m h k =
        let (f, g) = both-same (sym is ∙ h) in
        let u = seen-agrees 11 0 c.found in
        let v = seen-agrees 14 0 c.found in
        rw read (rw (m, ← f, ← g, u.place, u.count, v.place, v.count) at k)

-- ---- both ids: what is left to see gives what the whole list gives

pub record Same (s : List ℕ) (at : BitCursor) (oamd joc : Seen) (place : ℕ) (xs : List Found) : Type 0 where
  pub left : List Found
  pub listed : Listed s at left
  pub first : seen_from oamd 11 place left ≡ seen_from Nothing 11 0 xs
  pub second : seen_from joc 14 place left ≡ seen_from Nothing 14 0 xs

pub same_start : (s : List ℕ) (at : BitCursor) (xs : List Found) → Listed s at xs → Same s at Nothing Nothing 0 xs
same_start s at xs l = record { left = xs; listed = l; first = refl; second = refl }

seen_first : (b : Seen) (id k : ℕ) {s : List ℕ} {at next : BitCursor} {r : PayloadRecord} {ys : List Found} (f : First s at next r ys)
    → seen_from (seen_next b id k r) id (k + 1) f.others ≡ seen_from b id k ys
unfolding seen_from
seen_first b id k f = rw (f.is, ← f.record_is)

pub same_next : {s : List ℕ} {at next : BitCursor} {o j o' j' : Seen} {place : ℕ} {xs : List Found} {r : PayloadRecord} → Same s at o j place xs
    → step_at s at ≡ Ok (Some r, next) → o' ≡ seen_next o 11 place r → j' ≡ seen_next j 14 place r → Same s next o' j' (place + 1) xs
same_next {s} {at} {o = o} {j = j} {place = place} m h a b =
    let f = step-found s at m.left m.listed h in
    record { left = f.others; listed = f.listed; first = rw a (seen_first o 11 place f) ∙ m.first; second = rw b (seen_first j 14 place f) ∙ m.second }

pub same_end : {s : List ℕ} {at next : BitCursor} {o j : Seen} {place : ℕ} {xs : List Found} → Same s at o j place xs → step_at s at ≡ Ok (None, next) → Ok (o, j) ≡ pair_of xs
unfolding pair_of seen_from
same_end {s} {at} m h =
    let e = step-ended s at m.left m.listed h in
    let a = rw e at m.first in
    let b = rw e at m.second in
    rw (a, b)
