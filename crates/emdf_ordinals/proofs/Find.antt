-- A payload looked for by its id and ordinal, as a loop over skip_payload comes to it. Assumes nothing.
use mathlib.Core.Path.{◌≡◌, refl, sym, ap, subst, ◌∙◌}
use mathlib.Core.Bool.{Bool, true, false}
use mathlib.Core.List.{List, [], ◌∷◌, ◌++◌, append_assoc}
use Prim.Native.Nat.{ℕ, suc, ◌+◌, ◌≤◌}
use native.Mathlib.Omega.{arith}
use lib.Dec.{eqb}
use lib.ListN.{length, length-append}
use borrow.Author.Tests.{eqb-true, eq-eqb, ne_eqb}
use Rattle.std.specs.Prelude.{if◌then◌else◌, Option, Some, None, Result, Ok, Err}
use Rattle.openjoc_bitio.specs.declared.BitCursor.{BitCursor}
use Rattle.emdf_format.specs.declared.FindError.{FindError}
use Rattle.emdf_format.specs.declared.EmdfError.{EmdfError}
use Rattle.emdf_format.specs.declared.PayloadRecord.{PayloadRecord}
use Rattle.emdf_format.specs.declared.FindError.TheVariants.{Emdf, NoSuchOrdinal}
use Rattle.emdf_format.specs.Contents.{◌&◌}
use Rattle.emdf_format.specs.Reading.{Found, payloads_of, reading}
use Rattle.emdf_format.specs.Ordinals.{occurrences, ordinal_at, ids_of, ids_in, rows_from, rows_of, find_in, find_payload}
use Rattle.emdf_format.proofs.Ordinals.{occurrences-append, ordinal-next}
use Rattle.openjoc_emdf.specs.declared.ParsedEmdf.{ParsedEmdf}
use Rattle.openjoc_emdf.specs.Answers.{open_answer, Opened}
use Rattle.openjoc_emdf.proofs.Opening.{unopened}
use Rattle.emdf_payloads.specs.Payloads.{Listed, step_at, skip_of}
use Rattle.emdf_payloads.proofs.Walk.{step-found, step-ended, step-refused, skip-refused}
use Rattle.emdf_ordinals.specs.Rows.{is_wanted}

-- payloads with the ids before were passed, so many of them with id x; what is found among those left is the answer
pub record Looking (s : List ℕ) (at : BitCursor) (x o place seen : ℕ) (answer : Result ℕ FindError) : Type 0 where
  pub before : List ℕ
  pub left : List Found
  pub listed : Listed s at left
  pub passed : length before ≡ place
  pub counted : occurrences x before ≡ seen
  pub same : find_in x o place (rows_from (before ++ ids_in left) place left) ≡ answer

pub looking-all : {s : List ℕ} {c : BitCursor} (x o : ℕ) (xs : List Found) → Listed s c xs → Looking s c x o 0 0 (find_in x o 0 (rows_of xs))
unfolding rows_of occurrences
looking-all x o xs l = record { before = []; left = xs; listed = l; passed = refl; counted = refl; same = refl }

-- the test of the payload after those
wanted-row : (found x o : ℕ) (before : List ℕ) → is_wanted found x o (occurrences x before) ≡ (eqb found x & eqb (suc (occurrences found before)) o)
unfolding ◌&◌
wanted-row found x o before = go (eqb found x) refl
  where
    go : (b : Bool) → eqb found x ≡ b → (b & eqb (occurrences x before + 1) o) ≡ (b & eqb (suc (occurrences found before)) o)
    go true e =
        let n : occurrences x before + 1 ≡ suc (occurrences found before) = omega (arith, ap (λ (y : ℕ). occurrences y before) (eqb-true found x e)) in
        ap (λ (k : ℕ). eqb k o) n
    go false e = refl

module _ {s : List ℕ} {c : BitCursor} {x o place seen : ℕ} {answer : Result ℕ FindError} (a : Looking s c x o place seen answer) where
  module _ {r : PayloadRecord} {next : BitCursor} (h : step_at s c ≡ Ok (Some r, next)) where
    -- the first row, and the others
    turned : (xs : List Found) → a.left ≡ xs → Listed s c xs
        → (others : List Found) × (Listed s next others) × (answer ≡ (if is_wanted r.id x o seen then Ok place else find_in x o (suc place) (rows_from ((a.before ++ r.id ∷ []) ++ ids_in others) (suc place) others)))
    unfolding find_in rows_from ids_of payloads_of
    turned xs e l =
        let f = step-found s c xs l h in
        (f.others, f.listed, sym a.same ∙ ap (λ (ys : List Found). find_in x o place (rows_from (a.before ++ ids_in ys) place ys)) (e ∙ f.is) ∙ first-row f.first f.others (ap (λ (q : PayloadRecord). q.id) f.record_is))
      where
        first-row : (y : Found) (ys : List Found) → y.record_of.id ≡ r.id
            → find_in x o place (rows_from (a.before ++ ids_in (y ∷ ys)) place (y ∷ ys)) ≡ (if is_wanted r.id x o seen then Ok place else find_in x o (suc place) (rows_from ((a.before ++ r.id ∷ []) ++ ids_in ys) (suc place) ys))
        first-row y ys i =
            let n : ordinal_at (a.before ++ y.record_of.id ∷ ids_in ys) place ≡ suc (occurrences y.record_of.id a.before) = ap (ordinal_at (a.before ++ y.record_of.id ∷ ids_in ys)) (sym a.passed) ∙ ordinal-next a.before y.record_of.id (ids_in ys) in
            let P : ℕ → Type 0 = λ q. (if is_wanted q x o (occurrences x a.before) then Ok place else find_in x o (suc place) (rows_from (a.before ++ q ∷ ids_in ys) (suc place) ys)) ≡ (if is_wanted r.id x o seen then Ok place else find_in x o (suc place) (rows_from ((a.before ++ r.id ∷ []) ++ ids_in ys) (suc place) ys)) in
            let last : P r.id = rw (a.counted, append_assoc a.before (r.id ∷ []) (ids_in ys)) in
            rw (n, ← wanted-row y.record_of.id x o a.before) (subst P (sym i) last)

    pub looked-found : is_wanted r.id x o seen ≡ true → Ok place ≡ answer
    looked-found w = let (others, l, e) = turned a.left refl a.listed in sym (rw w at e)

    pub looked-past : {more : ℕ} → is_wanted r.id x o seen ≡ false → more ≡ (if eqb r.id x then seen + 1 else seen) → Looking s next x o (place + 1) more answer
    unfolding occurrences
    looked-past {more} w m =
        let (others, l, e) = turned a.left refl a.listed in
        let p : suc place ≡ place + 1 = omega arith in
        record {
          before = a.before ++ r.id ∷ [];
          left = others;
          listed = l;
          passed = length-append a.before (r.id ∷ []) ∙ omega (arith, a.passed);
          counted = occurrences-append x a.before (r.id ∷ []) ∙ more-seen (eqb r.id x) refl;
          same = sym (rw (w, p) at e);
        }
      where
        more-seen : (b : Bool) → eqb r.id x ≡ b → occurrences x a.before + occurrences x (r.id ∷ []) ≡ more
        more-seen true b = let k : more ≡ seen + 1 = rw b at m in rw b (omega (arith, a.counted))
        more-seen false b = let k : more ≡ seen = rw b at m in rw b (omega (arith, a.counted))

  pub looked-ended : {next : BitCursor} → step_at s c ≡ Ok (None, next) → Err NoSuchOrdinal ≡ answer
  unfolding find_in rows_from
  looked-ended h = ap (λ (ys : List Found). find_in x o place (rows_from (a.before ++ ids_in ys) place ys)) (sym (step-ended s c a.left a.listed h)) ∙ a.same

  -- no payload of a list that is read is refused
  pub never-refused : {b : Result (Option ℕ × BitCursor) EmdfError} → b ≡ skip_of (step_at s c) → (why : EmdfError) × (b ≡ Err why) → ⊥
  never-refused i (why, h) = step-refused s c a.left a.listed (skip-refused (step_at s c) (sym i ∙ h))

-- ---- what was seen, by whether a payload has the id

module _ (seen : ℕ) {more : ℕ} (a x : ℕ) where
  pub one_more : a ≡ x → more ≡ seen + 1 → more ≡ (if eqb a x then seen + 1 else seen)
  one_more e m = rw (eq-eqb a x e) m

  pub no_more : (a ≡ x → ⊥) → more ≡ seen → more ≡ (if eqb a x then seen + 1 else seen)
  no_more e m = rw (ne_eqb a x e) m

  -- at most one more
  pub seen-within : {place : ℕ} → seen ≤ place → more ≡ (if eqb a x then seen + 1 else seen) → more ≤ place + 1
  seen-within {place} h m = go (eqb a x) m
    where
      go : (b : Bool) → more ≡ (if b then seen + 1 else seen) → more ≤ place + 1
      go true e = omega arith
      go false e = omega arith

-- ---- by what opening the carrier says

pub opened-find : {s : List ℕ} {p : ParsedEmdf} {first : BitCursor} (x o : ℕ) (d : Opened s p first) → find_in x o 0 (rows_of d.container.found) ≡ find_payload x o (reading s)
unfolding find_payload
opened-find x o d = rw d.is

pub unopened-find : (s : List ℕ) (x o : ℕ) {a : Result (ParsedEmdf × BitCursor) EmdfError} {r : Result ℕ FindError} → a ≡ open_answer s (reading s)
    → (why : EmdfError) × (a ≡ Err why) × (r ≡ Err (Emdf why)) → r ≡ find_payload x o (reading s)
unfolding find_payload
unopened-find s x o i (why, h, e) = e ∙ rw (unopened s (sym i ∙ h))
