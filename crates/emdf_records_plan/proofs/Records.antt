-- The plan of a reading that fills a table, and a turn of filling it. Assumes nothing.
use mathlib.Core.Path.{◌≡◌, refl, sym, ap, ◌∙◌}
use mathlib.Core.Bool.{Bool, true, false}
use mathlib.Core.List.{List, [], ◌∷◌}
use Prim.Native.Nat.{ℕ, suc, ◌≤◌, ◌<◌}
use native.Mathlib.Omega.{arith}
use native.Mathlib.Nat.{zero-add}
use lib.ListN.{length, take}
use lib.Seq.{sets, sets-eq}
use lib.Dec.{leb, leb→le}
use borrow.Author.Tests.{le-leb, lt-leb}
use Rattle.std.specs.Prelude.{Some, None, Result, Ok, Err}
use Rattle.openjoc_bitio.specs.declared.BitCursor.{BitCursor}
use Rattle.openjoc_bitio.proofs.Results.{err-same, both-same, ok-is-not-err, err-is-not-ok}
use Rattle.emdf_format.specs.Reading.{Found, Reading, accepted, refusal, reading, payloads_of}
use Rattle.emdf_format.specs.Ordinals.{ids_of, ids_in, ordinal_at, rows_from, rows_of}
use Rattle.emdf_format.specs.Calls.{Records, recorded, unrecorded, in_table, table_after}
use Rattle.emdf_format.specs.declared.EmdfError.{EmdfError}
use Rattle.emdf_format.specs.declared.PayloadRecord.{PayloadRecord}
use Rattle.emdf_format.specs.declared.PayloadRow.{PayloadRow}
use Rattle.emdf_format.specs.declared.RecordsError.{RecordsError}
use Rattle.emdf_format.proofs.Carrier.{read-limit}
use Rattle.emdf_format.proofs.Standing.{T_of}
use Rattle.openjoc_emdf.specs.Answers.{parsed_emdf, first_payload, open_answer}
use Rattle.emdf_container.specs.Container.{container_of}
use Rattle.openjoc_emdf.specs.declared.ParsedEmdf.{ParsedEmdf}
use Rattle.emdf_payloads.specs.Payloads.{Listed, step_at}
use Rattle.emdf_payloads.proofs.Walk.{step-found, step-ended, step-refused}
use Rattle.openjoc_emdf.proofs.Opening.{opened, unopened, read_first}
use Rattle.emdf_records_plan.specs.Records.{records_answer, GivesRecords, rows_plan, records_plan}

-- ---- the plan, by what opening the carrier answers

module _ (s : List ℕ) (rows : ℕ) {a : Result (ParsedEmdf × BitCursor) EmdfError} (i : a ≡ open_answer s (reading s)) where
  pub unread : {r : Result (ParsedEmdf × BitCursor) RecordsError} → (why : EmdfError) × (a ≡ Err why) × (r ≡ Err (RecordsError.Emdf why)) → r ≡ records_plan rows s (reading s)
  unfolding records_plan
  unread (why, h, e) = e ∙ rw (unopened s (sym i ∙ h))

  module _ {p : ParsedEmdf} {c : BitCursor} (h : a ≡ Ok (p, c)) where
    by_rows : records_plan rows s (reading s) ≡ rows_plan p c rows
    unfolding records_plan
    by_rows = let o = opened s (sym i ∙ h) in rw (o.is, o.parsed, ← o.from)

    pub too_few : rows < p.container.payloads → Err (RecordsError.TableTooShort p.container.payloads) ≡ records_plan rows s (reading s)
    unfolding rows_plan
    too_few l = sym (by_rows ∙ rw (lt-leb _ _ l))

    pub enough : p.container.payloads ≤ rows → Ok (p, c) ≡ records_plan rows s (reading s)
    unfolding rows_plan
    enough l = sym (by_rows ∙ rw (le-leb _ _ l))

-- ---- what the plan says of the table

abbrev pub planned : Records → List Found
planned (recorded n c) = c.found
planned (unrecorded why) = []

-- a carrier that is recorded, and the cursor at its first payload
pub record Planned (s : List ℕ) (rows : ℕ) (p : ParsedEmdf) (first : BitCursor) : Type 0 where
  pub answer : Ok p ≡ records_answer (in_table rows (reading s))
  pub count : p.container.payloads ≡ length (planned (in_table rows (reading s)))
  pub room : p.container.payloads ≤ rows
  pub there : p.bytes_consumed.0 ≤ length s
  pub listed : Listed (take p.bytes_consumed.0 s) first (planned (in_table rows (reading s)))

module _ (s : List ℕ) (rows : ℕ) where
  pub plan-is : {p : ParsedEmdf} {first : BitCursor} → records_plan rows s (reading s) ≡ Ok (p, first) → Planned s rows p first
  unfolding records_plan rows_plan in_table records_answer container_of
  plan-is {p} {first} h = go (reading s) refl h
    where
      go : (x : Reading) → reading s ≡ x → records_plan rows s x ≡ Ok (p, first) → Planned s rows p first
      go (refusal why) r h = absurd (err-is-not-ok h)
      go (accepted n c) r h = by_room (leb (length c.found) rows) refl h
        where
          by_room : (t : Bool) → leb (length c.found) rows ≡ t → rows_plan (parsed_emdf n c) (first_payload n s) rows ≡ Ok (p, first) → Planned s rows p first
          by_room true e h =
              let (a, b) = both-same (rw e at h) in
              rw (← a, ← b) (record { answer = rw (r, e); count = rw (r, e); room = leb→le _ _ (T_of e); there = (read-limit s n c r).0; listed = rw (r, e) (read_first s n c r).0 })
          by_room false e h = absurd (err-is-not-ok (rw e at h))

  -- refused: the table stays as it is
  pub no_plan : {why : RecordsError} (xs : List PayloadRow) → records_plan rows s (reading s) ≡ Err why → GivesRecords (in_table rows (reading s)) xs (Err why) xs
  unfolding records_plan rows_plan in_table records_answer table_after container_of
  no_plan {why} xs h = go (reading s) h
    where
      go : (x : Reading) → records_plan rows s x ≡ Err why → GivesRecords (in_table rows x) xs (Err why) xs
      go (refusal w) h = rw (err-same h) (refl, refl)
      go (accepted n c) h = by_room (leb (length c.found) rows) refl h
        where
          by_room : (t : Bool) → leb (length c.found) rows ≡ t → rows_plan (parsed_emdf n c) (first_payload n s) rows ≡ Err why → GivesRecords (in_table rows (accepted n c)) xs (Err why) xs
          by_room true e h = absurd (ok-is-not-err (rw e at h))
          by_room false e h = let w = err-same (rw e at h) in rw (e, w) (refl, refl)

length-rows : (ids : List ℕ) (k : ℕ) (xs : List Found) → length (rows_from ids k xs) ≡ length xs
unfolding rows_from
length-rows ids k [] = refl
length-rows ids k (x ∷ xs) = ap suc (length-rows ids (suc k) xs)

-- the rows of the plan, put in, are the table afterwards
pub filled : (t : Records) (xs : List PayloadRow) → length (planned t) ≤ length xs → sets xs 0 (rows_from (ids_in (planned t)) 0 (planned t)) ≡ table_after t xs
unfolding table_after rows_of rows_from
filled (recorded n c) xs h = sets-eq (rows_from (ids_in c.found) 0 c.found) xs 0 (rw (zero-add, length-rows) h) ∙ rw (zero-add, length-rows)
filled (unrecorded why) xs h = refl

-- ---- a turn: the payload is the next one

pub record Turned (s : List ℕ) (xs : List Found) (next : BitCursor) (r : PayloadRecord) : Type 0 where
  pub left : List Found
  pub listed : Listed s next left
  pub ids : ids_in xs ≡ r.id ∷ ids_in left
  pub rows : (ids : List ℕ) (k : ℕ) → rows_from ids k xs ≡ record { payload = r; ordinal = ordinal_at ids k } ∷ rows_from ids (suc k) left
  pub count : length xs ≡ suc (length left)

turned_by : (s : List ℕ) (next : BitCursor) (r : PayloadRecord) (x : Found) (ys xs : List Found) → xs ≡ x ∷ ys → x.record_of ≡ r → Listed s next ys → Turned s xs next r
unfolding ids_of payloads_of rows_from
turned_by s next r x ys xs e f m = rw e (record { left = ys; listed = m; ids = rw f; rows = λ ids k. rw f; count = refl })

module _ (s : List ℕ) (c : BitCursor) (xs : List Found) (l : Listed s c xs) where
  pub turned : {next : BitCursor} {r : PayloadRecord} → step_at s c ≡ Ok (Some r, next) → Turned s xs next r
  turned {next} {r} h = let f = step-found s c xs l h in turned_by s next r f.first f.others xs f.is f.record_is f.listed

  -- where there are any
  pub never-ended : {next : BitCursor} → 0 < length xs → step_at s c ≡ Ok (None, next) → ⊥
  never-ended some h = let z : length xs ≡ 0 = rw (step-ended s c xs l h) in omega arith

  pub never-refused : {why : EmdfError} → step_at s c ≡ Err why → ⊥
  never-refused h = step-refused s c xs l h
