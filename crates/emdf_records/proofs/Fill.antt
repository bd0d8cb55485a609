-- The loop that fills the table: its state, and what a turn makes of it. The rows still to come, put in, give the table at the
-- end; of the rows that are there only their ids and ordinals count, and the slots of their ids. Assumes nothing.
use mathlib.Core.Path.{◌≡◌, refl, sym, ap, ◌∙◌}
use mathlib.Core.List.{List, [], ◌∷◌}
use Prim.Native.Nat.{ℕ, suc, ◌+◌, ◌≤◌, ◌<◌, ◌^◌}
use native.Mathlib.Omega.{arith}
use lib.ListN.{length, get_or, take, drop, replicate, set, length-set, length-replicate}
use lib.Seq.{sets, drop-cons}
use Rattle.std.specs.Prelude.{Some, Ok}
use Rattle.openjoc_bitio.specs.declared.BitCursor.{BitCursor}
use Rattle.emdf_format.specs.Reading.{Found, reading}
use Rattle.emdf_format.specs.Ordinals.{ids_in, rows_from}
use Rattle.emdf_format.proofs.Ordinals.{length-ids-in}
use Rattle.emdf_format.specs.Calls.{Records, in_table, table_after}
use Rattle.emdf_format.specs.declared.PayloadRecord.{PayloadRecord}
use Rattle.emdf_format.specs.declared.PayloadRow.{PayloadRow}
use Rattle.emdf_payloads.specs.Payloads.{Listed, step_at}
use Rattle.openjoc_emdf.specs.declared.ParsedEmdf.{ParsedEmdf}
use Rattle.emdf_ordinals.specs.Rows.{slot_of, searched, slots_with}
use Rattle.emdf_ordinals.proofs.Rows.{Tracks, tracks-none, tracks-next}
use Rattle.emdf_records_plan.proofs.Records.{planned, Planned, filled, Turned, turned}
use Rattle.emdf_records_row.specs.Row.{last_of, row_after}
use Rattle.emdf_records_row.proofs.Numbered.{RowsNumbered, numbered-none, row_at, numbered_next, row-is-at, found-most}

-- of a table xs and a carrier in s
abbrev pub done : List ℕ → List PayloadRow → Records
done s xs = in_table (length xs) (reading s)

abbrev pub ids : List ℕ → List PayloadRow → List ℕ
ids s xs = ids_in (planned (done s xs))

-- before row k: the cursor, the table, the ids' slots, and the payloads that are left in the carrier's bytes
pub record State (s : List ℕ) (xs : List PayloadRow) (carrier : List ℕ) (k : ℕ) (at : BitCursor) (l : List PayloadRow) (slots : List ℕ) : Type 0 where
  pub left : List Found
  pub counted : k + length left ≡ length (planned (done s xs))
  pub len : length l ≡ length xs
  pub listed : Listed carrier at left
  pub ids-ahead : ids_in left ≡ drop k (ids s xs)
  pub numbered : RowsNumbered l (ids s xs) k
  pub slots_len : length slots ≡ 512
  pub tracked : Tracks slots (ids s xs) k
  pub same : sets l k (rows_from (ids s xs) k left) ≡ table_after (done s xs) xs

-- no row is there yet
abbrev pub no_slots : List ℕ
no_slots = replicate 512 0

module _ (s : List ℕ) (xs : List PayloadRow) {p : ParsedEmdf} {first : BitCursor} (d : Planned s (length xs) p first) where
  pub start : State s xs (take p.bytes_consumed.0 s) 0 first xs no_slots
  start = record {
    left = planned (done s xs);
    counted = omega arith;
    len = refl;
    listed = d.listed;
    ids-ahead = refl;
    numbered = numbered-none xs (ids s xs);
    slots_len = length-replicate {A = ℕ} 512 0;
    tracked = tracks-none 512 (ids s xs);
    same = filled (done s xs) xs (omega (arith, d.room, d.count));
  }

  module _ {carrier : List ℕ} {k : ℕ} {at : BitCursor} {l : List PayloadRow} {slots : List ℕ} (st : State s xs carrier k at l slots) where
    pub some_left : k < p.container.payloads → 0 < length st.left
    some_left h = omega (arith, h, d.count, st.counted)

    pub over : p.container.payloads ≤ k → l ≡ table_after (done s xs) xs
    unfolding rows_from
    over h = go st.left st.counted st.same
      where
        go : (ys : List Found) → k + length ys ≡ length (planned (done s xs)) → sets l k (rows_from (ids s xs) k ys) ≡ table_after (done s xs) xs → l ≡ table_after (done s xs) xs
        go [] e f = f
        go (y ∷ ys) e f = absurd (omega (arith, e, h, d.count))

    module _ {r : PayloadRecord} {c : BitCursor} (g : step_at carrier at ≡ Ok (Some r, c)) (h : k < p.container.payloads) where
      abbrev pub turn : Turned carrier st.left c r
      turn = turned carrier at st.left st.listed g

      in-l : k < length l
      in-l = omega (arith, h, d.room, st.len)

      in_ids : k < length (ids s xs)
      in_ids = omega (arith, h, d.count, length-ids-in (planned (done s xs)))

      -- the ids from this one on
      own : r.id ∷ ids_in turn.left ≡ get_or (ids s xs) k 0 ∷ drop (suc k) (ids s xs)
      own = sym turn.ids ∙ st.ids-ahead ∙ drop-cons (ids s xs) k 0 in_ids

      own-id : get_or (ids s xs) k 0 ≡ r.id
      own-id = cc own

      next-ids : ids_in turn.left ≡ drop (k + 1) (ids s xs)
      next-ids =
          let e : k + 1 ≡ suc k = omega arith in
          let f : ids_in turn.left ≡ drop (suc k) (ids s xs) = cc own in
          rw e f

      -- the row that is put in
      abbrev new : PayloadRow
      new = row_at (ids s xs) k r

      -- how many rows are searched for it
      abbrev pub rows : ℕ
      rows = searched slots r.id k

      new_is : row_after l rows r ≡ new
      new_is = row-is-at l (ids s xs) k st.numbered r own-id slots st.tracked in_ids

      pub asked : {n : ℕ} → n ≡ rows → k + 1 < 2 ^ 64 → (n ≤ k) × (k < length l) × (last_of l r.id n + 1 < 2 ^ 64)
      asked e w = rw e (st.tracked.within r.id, in-l, omega (arith, found-most l (ids s xs) k st.numbered r own-id slots st.tracked in_ids, w))

      next-tracked : Tracks (slots_with slots r.id k) (ids s xs) (k + 1)
      next-tracked =
          let e : k + 1 ≡ suc k = omega arith in
          rw (e, ← own-id) (tracks-next st.tracked in_ids)

      next-same : sets (set l k new) (k + 1) (rows_from (ids s xs) (k + 1) turn.left) ≡ table_after (done s xs) xs
      next-same =
          let e : k + 1 ≡ suc k = omega arith in
          ap (λ (i : ℕ). sets (set l k new) i (rows_from (ids s xs) i turn.left)) e ∙ ap (sets l k) (sym (turn.rows (ids s xs) k)) ∙ st.same

      -- one more row
      next_state : State s xs carrier (k + 1) c (set l k new) (slots_with slots r.id k)
      next_state = record {
        left = turn.left;
        counted = omega (arith, st.counted, turn.count);
        len = length-set l k new ∙ st.len;
        listed = turn.listed;
        ids-ahead = next-ids;
        numbered = numbered_next l (ids s xs) k st.numbered r own-id in-l;
        slots_len = length-set slots (slot_of r.id) (suc k) ∙ st.slots_len;
        tracked = next-tracked;
        same = next-same;
      }

      pub next : {n : ℕ} {l' : List PayloadRow} {slots' : List ℕ} → n ≡ rows → slots' ≡ slots_with slots r.id k → l' ≡ set l k (row_after l n r) → State s xs carrier (k + 1) c l' slots'
      next e f g = rw (f, g, e, new_is) next_state
