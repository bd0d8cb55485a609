-- Laws of ordinals: of a list of ids, of rows, after edits. Assumes nothing.
use mathlib.Core.Path.{◌≡◌, refl, sym, ap, subst, ◌∙◌}
use mathlib.Core.Bool.{Bool, true, false}
use mathlib.Core.List.{List, [], ◌∷◌, ◌++◌}
use mathlib.Core.Option.{some}
use Prim.Native.Nat.{ℕ, zero, suc, ◌+◌, ◌-◌, ◌<◌, ◌≤◌}
use native.Mathlib.Nat.{zero-add, add-zero}
use native.Mathlib.Decide.{dec_lt}
use native.Mathlib.Omega.{arith}
use lib.Dec.{T, eqb, eqb→eq}
use lib.ListN.{length, get_or, get_elem?, take, drop, take-append-drop}
use lib.Seq.{length-take-le, drop-cons, take-suc, take-append_seam, take-append-le, take-append-add, get_or-append_seam, get_or-append-add, get_or-take, get_or-drop, take-take}
use borrow.Author.Tests.{eq-eqb, eqb-true}
use Rattle.std.specs.Prelude.{if◌then◌else◌, Result, Ok, Err}
use Rattle.emdf_format.specs.Types.{EmdfPayloadConfig, PayloadRow, FindError}
use Rattle.emdf_format.specs.Contents.{Payload, Contents, ◌&◌}
use Rattle.emdf_format.specs.Reading.{Found, Container, accepted, payloads_of}
use Rattle.emdf_format.specs.Ordinals.{occurrences, ordinal_at, ids_of, ids_in, rows_from, rows_of, row_ids, find_in, find_payload, Numbered, FindsExactly}
use Rattle.emdf_format.specs.Calls.{table_after, TableInvariant}
use Rattle.emdf_format.specs.Edits.{body_edit, settings_edit, drop_edit, insert_edit, key_edit, protection_edit, with_at, with_body, with_config, with_payloads, cleared, change, OrdinalsOfEdits}
use Rattle.emdf_format.proofs.Standing.{both, and}

-- ---- occurrences

pub occurrences-append : (x : ℕ) (xs ys : List ℕ) → occurrences x (xs ++ ys) ≡ occurrences x xs + occurrences x ys
unfolding occurrences
occurrences-append x [] ys = sym (zero-add _)
occurrences-append x (y ∷ xs) ys = go (eqb y x) (occurrences-append x xs ys)
  where
    go : (t : Bool) → occurrences x (xs ++ ys) ≡ occurrences x xs + occurrences x ys
        → (if t then suc (occurrences x (xs ++ ys)) else occurrences x (xs ++ ys)) ≡ (if t then suc (occurrences x xs) else occurrences x xs) + occurrences x ys
    go true h = omega (arith, h)
    go false h = h

occurrences-own : (x : ℕ) → occurrences x (x ∷ []) ≡ 1
unfolding occurrences
occurrences-own x = rw (eq-eqb x x refl)

pub occurrences-most : (x : ℕ) (xs : List ℕ) → occurrences x xs ≤ length xs
unfolding occurrences
occurrences-most x [] = omega arith
occurrences-most x (y ∷ xs) = go (eqb y x) (occurrences-most x xs)
  where
    go : (t : Bool) → occurrences x xs ≤ length xs → (if t then suc (occurrences x xs) else occurrences x xs) ≤ suc (length xs)
    go true h = omega (arith, h)
    go false h = omega (arith, h)

-- ---- up to a place and past it

module _ (ids : List ℕ) (k : ℕ) (h : k < length ids) where
  -- the id at the place, apart from those before it
  parted-after : (x : ℕ) → occurrences x (take (suc k) ids) ≡ occurrences x (take k ids) + (if eqb (get_or ids k 0) x then 1 else 0)
  unfolding occurrences
  parted-after x = ap (occurrences x) (take-suc ids k 0 h) ∙ occurrences-append x (take k ids) (get_or ids k 0 ∷ [])

  pub same_id : (x : ℕ) → get_or ids k 0 ≡ x → occurrences x (take (suc k) ids) ≡ suc (occurrences x (take k ids))
  same_id x e = rw (eq-eqb (get_or ids k 0) x e) at (parted-after x) ∙ omega arith

  pub other-id : (x : ℕ) → eqb (get_or ids k 0) x ≡ false → occurrences x (take (suc k) ids) ≡ occurrences x (take k ids)
  other-id x e = rw e at (parted-after x) ∙ omega arith

-- where there are suc o among the first n, the last of them is one of these, with so many up to it
last-among : (ids : List ℕ) (x o n : ℕ) → n ≤ length ids → occurrences x (take n ids) ≡ suc o
    → (j : ℕ) × (j < n) × (get_or ids j 0 ≡ x) × (occurrences x (take (suc j) ids) ≡ suc o)
unfolding occurrences
last-among ids x o zero h e = absurd (omega (arith, e))
last-among ids x o (suc n) h e = go (eqb (get_or ids n 0) x) refl (last-among ids x o n (omega arith))
  where
    go : (t : Bool) → eqb (get_or ids n 0) x ≡ t
        → (occurrences x (take n ids) ≡ suc o → (j : ℕ) × (j < n) × (get_or ids j 0 ≡ x) × (occurrences x (take (suc j) ids) ≡ suc o))
        → (j : ℕ) × (j < suc n) × (get_or ids j 0 ≡ x) × (occurrences x (take (suc j) ids) ≡ suc o)
    go true t before = (n, omega arith, eqb-true (get_or ids n 0) x t, e)
    go false t before =
        let (j, l, i, f) = before (sym (other-id ids n (omega arith) x t) ∙ e) in
        (j, omega arith, i, f)

occurrences-take : (x n : ℕ) (xs : List ℕ) → occurrences x (take n xs) ≤ occurrences x xs
occurrences-take x n xs = omega (arith, ap (occurrences x) (take-append-drop n xs), occurrences-append x (take n xs) (drop n xs))

-- ---- ordinals in a list of two parts

-- within the first part the second doesn't count
ordinal-within : (xs ys : List ℕ) (i : ℕ) → i < length xs → ordinal_at (xs ++ ys) i ≡ ordinal_at xs i
unfolding ordinal_at
ordinal-within xs ys i h =
    let e : get_or (xs ++ ys) i 0 ≡ get_or xs i 0 = sym (get_or-take (length xs) (xs ++ ys) i 0 h) ∙ ap (λ (l : List ℕ). get_or l i 0) (take-append_seam xs ys) in
    rw (e, take-append-le (suc i) xs ys (omega arith))

-- in the second those of the first are added
ordinal-past : (xs ys : List ℕ) (i : ℕ) → ordinal_at (xs ++ ys) (length xs + i) ≡ occurrences (get_or ys i 0) xs + ordinal_at ys i
unfolding ordinal_at
ordinal-past xs ys i =
    let e : suc (length xs + i) ≡ length xs + suc i = omega arith in
    rw (get_or-append-add xs ys i 0, e, take-append-add xs ys (suc i)) (occurrences-append (get_or ys i 0) xs (take (suc i) ys))

-- the first of the second part
pub ordinal-next : (xs : List ℕ) (y : ℕ) (ys : List ℕ) → ordinal_at (xs ++ y ∷ ys) (length xs) ≡ suc (occurrences y xs)
unfolding ordinal_at
ordinal-next xs y ys =
    let e : suc (length xs) ≡ length xs + 1 = omega arith in
    rw (get_or-append_seam xs y ys 0, e, take-append-add xs (y ∷ ys) 1) (omega (arith, occurrences-append y xs (y ∷ []), occurrences-own y))

-- one more in front of the others
ordinal-more : (y : ℕ) (ys : List ℕ) (i : ℕ) → ordinal_at (y ∷ ys) (suc i) ≡ (if eqb y (get_or ys i 0) then suc (ordinal_at ys i) else ordinal_at ys i)
unfolding ordinal_at occurrences
ordinal-more y ys i = refl

-- a list with one more between two parts: behind it, its own ids' ordinals are by 1 larger
ordinal-between : (xs : List ℕ) (y : ℕ) (ys : List ℕ) (i : ℕ)
    → ordinal_at (xs ++ y ∷ ys) (length xs + suc i) ≡ (if eqb y (get_or ys i 0) then suc (ordinal_at (xs ++ ys) (length xs + i)) else ordinal_at (xs ++ ys) (length xs + i))
ordinal-between xs y ys i = rw (ordinal-past xs (y ∷ ys) (suc i), ordinal-past xs ys i, ordinal-more y ys i) (go (eqb y (get_or ys i 0)))
  where
    go : (t : Bool) → occurrences (get_or ys i 0) xs + (if t then suc (ordinal_at ys i) else ordinal_at ys i)
        ≡ (if t then suc (occurrences (get_or ys i 0) xs + ordinal_at ys i) else occurrences (get_or ys i 0) xs + ordinal_at ys i)
    go true = omega arith
    go false = refl

-- what stands behind the first part
behind : (xs ys : List ℕ) (i : ℕ) → length xs ≤ i → get_or (xs ++ ys) i 0 ≡ get_or ys (i - length xs) 0
behind xs ys i h =
    let e : i ≡ length xs + (i - length xs) = omega arith in
    ap (λ (n : ℕ). get_or (xs ++ ys) n 0) e ∙ get_or-append-add xs ys (i - length xs) 0

between : (xs : List ℕ) (y : ℕ) (ys : List ℕ) (i : ℕ) → length xs ≤ i
    → ordinal_at (xs ++ y ∷ ys) (suc i) ≡ (if eqb y (get_or (xs ++ ys) i 0) then suc (ordinal_at (xs ++ ys) i) else ordinal_at (xs ++ ys) i)
between xs y ys i h =
    let d : length xs + (i - length xs) ≡ i = omega arith in
    let e : suc i ≡ length xs + suc (i - length xs) = omega arith in
    rw (behind xs ys i h) (ap (ordinal_at (xs ++ y ∷ ys)) e ∙ rw d at (ordinal-between xs y ys (i - length xs)))

-- of two of the same id, the later one's is larger
ordinals-rise : (ids : List ℕ) (i j : ℕ) → i < j → j < length ids → get_or ids i 0 ≡ get_or ids j 0 → ordinal_at ids i < ordinal_at ids j
unfolding ordinal_at
ordinals-rise ids i j h k e =
    let t : take (suc i) (take j ids) ≡ take (suc i) ids = take-take (suc i) j ids (omega arith) in
    omega (arith, same_id ids j k (get_or ids j 0) refl, ap (λ (x : ℕ). occurrences x (take (suc i) ids)) e, ap (occurrences (get_or ids j 0)) t, occurrences-take (get_or ids j 0) (suc i) (take j ids))

-- ---- the ids of payloads

ids-append : (xs ys : List Payload) → ids_of (xs ++ ys) ≡ ids_of xs ++ ids_of ys
unfolding ids_of
ids-append [] ys = refl
ids-append (x ∷ xs) ys = ap (λ (l : List ℕ). x.id ∷ l) (ids-append xs ys)

ids-take : (n : ℕ) (xs : List Payload) → ids_of (take n xs) ≡ take n (ids_of xs)
unfolding ids_of
ids-take zero xs = refl
ids-take (suc n) [] = refl
ids-take (suc n) (x ∷ xs) = ap (λ (l : List ℕ). x.id ∷ l) (ids-take n xs)

ids-drop : (n : ℕ) (xs : List Payload) → ids_of (drop n xs) ≡ drop n (ids_of xs)
unfolding ids_of
ids-drop zero xs = refl
ids-drop (suc n) [] = refl
ids-drop (suc n) (x ∷ xs) = ids-drop n xs

length_ids : (xs : List Payload) → length (ids_of xs) ≡ length xs
unfolding ids_of
length_ids [] = refl
length_ids (x ∷ xs) = ap suc (length_ids xs)

pub length-ids-in : (xs : List Found) → length (ids_in xs) ≡ length xs
unfolding ids_of payloads_of
length-ids-in [] = refl
length-ids-in (x ∷ xs) = ap suc (length-ids-in xs)

-- another payload with the same id
ids-with : (k : ℕ) (f : Payload → Payload) (xs : List Payload) → ((x : Payload) → (f x).id ≡ x.id) → ids_of (with_at k f xs) ≡ ids_of xs
unfolding ids_of with_at
ids-with k f [] h = refl
ids-with zero f (x ∷ xs) h = rw (h x)
ids-with (suc k) f (x ∷ xs) h = ap (λ (l : List ℕ). x.id ∷ l) (ids-with k f xs h)

-- ---- after edits

module _ (c : Contents) where
  abbrev ids : List ℕ
  ids = ids_of c.payloads

  -- the ids, parted at a place
  module _ (k : ℕ) where
    abbrev before : List ℕ
    before = take k ids

    length_before : k ≤ length c.payloads → length before ≡ k
    length_before h = length-take-le k ids (omega (arith, length_ids c.payloads))

    ids-dropped : ids_of (change (drop_edit k) c).payloads ≡ before ++ drop (suc k) ids
    unfolding change with_payloads cleared
    ids-dropped = ids-append (take k c.payloads) (drop (suc k) c.payloads) ∙ rw (ids-take k c.payloads, ids-drop (suc k) c.payloads)

    ids-inserted : (x : ℕ) (t : EmdfPayloadConfig) (bs : List ℕ) → ids_of (change (insert_edit k x t bs) c).payloads ≡ before ++ x ∷ drop k ids
    unfolding change with_payloads cleared ids_of
    ids-inserted x t bs = ids-append (take k c.payloads) (record { id = x; config = t; body = bs } ∷ drop k c.payloads) ∙ rw (ids-take k c.payloads, ids-drop k c.payloads)

    parted : before ++ drop k ids ≡ ids
    parted = take-append-drop k ids

    parted-at : k < length c.payloads → before ++ get_or ids k 0 ∷ drop (suc k) ids ≡ ids
    parted-at h = ap (λ (r : List ℕ). before ++ r) (sym (drop-cons ids k 0 (omega (arith, length_ids c.payloads)))) ∙ parted

    at_place : (i : ℕ) {l : List ℕ} {m : List ℕ} → l ≡ m → ordinal_at l i ≡ ordinal_at m i
    at_place i e = ap (λ (l : List ℕ). ordinal_at l i) e

    before-drop : (i : ℕ) → k < length c.payloads → i < k → ordinal_at (ids_of (change (drop_edit k) c).payloads) i ≡ ordinal_at ids i
    before-drop i h l =
        let n : i < length before = omega (arith, length_before (omega arith)) in
        at_place i ids-dropped ∙ ordinal-within before (drop (suc k) ids) i n ∙ sym (ordinal-within before (drop k ids) i n) ∙ at_place i parted

    after-drop : (i : ℕ) → k ≤ i → suc i < length c.payloads
        → ordinal_at ids (suc i)
        ≡ (if eqb (get_or ids k 0) (get_or ids (suc i) 0) then suc (ordinal_at (ids_of (change (drop_edit k) c).payloads) i) else ordinal_at (ids_of (change (drop_edit k) c).payloads) i)
    after-drop i h l =
        let n : length before ≤ i = omega (arith, length_before (omega arith)) in
        let e : get_or (before ++ drop (suc k) ids) i 0 ≡ get_or ids (suc i) 0 =
        behind before (drop (suc k) ids) i n ∙ get_or-drop (suc k) ids (i - length before) 0 ∙ ap (λ (m : ℕ). get_or ids m 0) (omega (arith, length_before (omega arith))) in
        at_place (suc i) (sym (parted-at (omega arith))) ∙ rw (e, ← ids-dropped) at (between before (get_or ids k 0) (drop (suc k) ids) i n)

    module _ (x : ℕ) (t : EmdfPayloadConfig) (bs : List ℕ) where
      before-insert : (i : ℕ) → k ≤ length c.payloads → i < k → ordinal_at (ids_of (change (insert_edit k x t bs) c).payloads) i ≡ ordinal_at ids i
      before-insert i h l =
          let n : i < length before = omega (arith, length_before h) in
          at_place i (ids-inserted x t bs) ∙ ordinal-within before (x ∷ drop k ids) i n ∙ sym (ordinal-within before (drop k ids) i n) ∙ at_place i parted

      inserted : k ≤ length c.payloads → ordinal_at (ids_of (change (insert_edit k x t bs) c).payloads) k ≡ suc (occurrences x before)
      inserted h = at_place k (ids-inserted x t bs) ∙ rw (length_before h) at (ordinal-next before x (drop k ids))

      after-insert : (i : ℕ) → k ≤ i → i < length c.payloads
          → ordinal_at (ids_of (change (insert_edit k x t bs) c).payloads) (suc i) ≡ (if eqb x (get_or ids i 0) then suc (ordinal_at ids i) else ordinal_at ids i)
      after-insert i h l =
          let n : length before ≤ i = omega (arith, length_before (omega arith)) in
          at_place (suc i) (ids-inserted x t bs) ∙ rw parted at (between before x (drop k ids) i n)

  other-body : (k i : ℕ) (bs : List ℕ) → ordinal_at (ids_of (change (body_edit k bs) c).payloads) i ≡ ordinal_at ids i
  unfolding change with_payloads cleared
  other-body k i bs = at_place k i (ids-with k (with_body bs) c.payloads (λ x. refl))

  other-settings : (k i : ℕ) (t : EmdfPayloadConfig) → ordinal_at (ids_of (change (settings_edit k t) c).payloads) i ≡ ordinal_at ids i
  unfolding change with_payloads cleared
  other-settings k i t = at_place k i (ids-with k (with_config t) c.payloads (λ x. refl))

  other_key : (i x : ℕ) → ordinal_at (ids_of (change (key_edit x) c).payloads) i ≡ ordinal_at ids i
  unfolding change
  other_key i x = refl

  other-protection : (i : ℕ) (a b : List ℕ) → ordinal_at (ids_of (change (protection_edit a b) c).payloads) i ≡ ordinal_at ids i
  unfolding change
  other-protection i a b = refl

pub ordinals-of-edits : OrdinalsOfEdits
ordinals-of-edits = record {
  before-drop = λ c k i. before-drop c k i;
  after-drop = λ c k i. after-drop c k i;
  before-insert = λ c k i x t bs. before-insert c k x t bs i;
  inserted = λ c k x t bs. inserted c k x t bs;
  after-insert = λ c k i x t bs. after-insert c k x t bs i;
  other-body = λ c k i bs. other-body c k i bs;
  other-settings = λ c k i t. other-settings c k i t;
  other_key = λ c i x. other_key c i x;
  other-protection = λ c i a b. other-protection c i a b;
}

-- ---- rows

row-ordinal : (ids : List ℕ) (k : ℕ) (xs : List Found) (i : ℕ) (r : PayloadRow) → get_elem? (rows_from ids k xs) i ≡ some r → r.ordinal ≡ ordinal_at ids (k + i)
unfolding rows_from
row-ordinal ids k [] i r h = absurd (let w : ◌≡◌ {A = ℕ} 0 1 = cc in omega arith)
row-ordinal ids k (x ∷ xs) zero r h =
    let e : record { payload = x.record_of; ordinal = ordinal_at ids k } ≡ r = cc in
    rw (← e, add-zero)
row-ordinal ids k (x ∷ xs) (suc i) r h = let e : suc k + i ≡ k + suc i = omega arith in rw e at (row-ordinal ids (suc k) xs i r h)

pub row-numbered : (xs : List Found) (i : ℕ) (r : PayloadRow) → get_elem? (rows_of xs) i ≡ some r → r.ordinal ≡ ordinal_at (ids_in xs) i
unfolding rows_of
row-numbered xs i r h = rw zero-add at (row-ordinal (ids_in xs) 0 xs i r h)

row-id : (ids : List ℕ) (k : ℕ) (xs : List Found) (i : ℕ) (r : PayloadRow) → get_elem? (rows_from ids k xs) i ≡ some r → (r.payload.id ≡ get_or (ids_in xs) i 0) × (i < length (ids_in xs))
unfolding rows_from ids_of payloads_of
row-id ids k [] i r h = absurd (let w : ◌≡◌ {A = ℕ} 0 1 = cc in omega arith)
row-id ids k (x ∷ xs) zero r h =
    let e : record { payload = x.record_of; ordinal = ordinal_at ids k } ≡ r = cc in
    (rw (← e), omega arith)
row-id ids k (x ∷ xs) (suc i) r h = let (a, b) = row-id ids (suc k) xs i r h in (a, omega arith)

-- ---- the table's invariant

row-ids : (ids : List ℕ) (k : ℕ) (xs : List Found) → row_ids (rows_from ids k xs) ≡ ids_in xs
unfolding rows_from row_ids ids_of payloads_of
row-ids ids k [] = refl
row-ids ids k (x ∷ xs) = ap (λ (l : List ℕ). x.record_of.id ∷ l) (row-ids ids (suc k) xs)

row-ids-take : (n : ℕ) (rs : List PayloadRow) → row_ids (take n rs) ≡ take n (row_ids rs)
unfolding row_ids
row-ids-take zero rs = refl
row-ids-take (suc n) [] = refl
row-ids-take (suc n) (r ∷ rs) = ap (λ (l : List ℕ). r.payload.id ∷ l) (row-ids-take n rs)

length-rows : (ids : List ℕ) (k : ℕ) (xs : List Found) → length (rows_from ids k xs) ≡ length xs
unfolding rows_from
length-rows ids k [] = refl
length-rows ids k (x ∷ xs) = ap suc (length-rows ids (suc k) xs)

row-there : (ids : List ℕ) (k : ℕ) (xs : List Found) (j : ℕ) → j < length xs → Numbered (rows_from ids k xs) j (get_or (ids_in xs) j 0) (ordinal_at ids (k + j))
unfolding rows_from ids_of payloads_of
row-there ids k [] j h = absurd (omega arith)
row-there ids k (x ∷ xs) zero h = record { row = record { payload = x.record_of; ordinal = ordinal_at ids k }; at = refl; id = refl; ordinal = rw add-zero }
row-there ids k (x ∷ xs) (suc j) h =
    let e : suc k + j ≡ k + suc j = omega arith in
    let a = row-there ids (suc k) xs j (omega arith) in
    record { row = a.row; at = a.at; id = a.id; ordinal = rw (← e) a.ordinal }

-- rows after them change nothing
element-within : (rs qs : List PayloadRow) (k : ℕ) → k < length rs → get_elem? (rs ++ qs) k ≡ get_elem? rs k
element-within [] qs k h = absurd (omega arith)
element-within (r ∷ rs) qs zero h = refl
element-within (r ∷ rs) qs (suc k) h = element-within rs qs k (omega arith)

module _ (xs : List Found) (qs : List PayloadRow) where
  abbrev filled : List PayloadRow
  filled = rows_of xs ++ qs

  module _ (k : ℕ) (h : k < length xs) where
    in_rows : k < length (rows_of xs)
    unfolding rows_of
    in_rows = omega (arith, length-rows (ids_in xs) 0 xs)

    in_ids : k < length (ids_in xs)
    in_ids = omega (arith, length-ids-in xs)

    own_row : {x o : ℕ} → Numbered filled k x o → Numbered (rows_of xs) k x o
    own_row a = record { row = a.row; at = sym (element-within (rows_of xs) qs k in_rows) ∙ a.at; id = a.id; ordinal = a.ordinal }

    filled_row : Numbered filled k (get_or (ids_in xs) k 0) (ordinal_at (ids_in xs) k)
    unfolding rows_of
    filled_row =
        let a = row-there (ids_in xs) 0 xs k h in
        record { row = a.row; at = element-within (rows_of xs) qs k in_rows ∙ a.at; id = a.id; ordinal = rw zero-add at a.ordinal }

    row_is : {x o : ℕ} → Numbered filled k x o → (get_or (ids_in xs) k 0 ≡ x) × (o ≡ occurrences x (take (suc k) (ids_in xs)))
    unfolding rows_of ordinal_at
    row_is {x} {o} a =
        let b = own_row a in
        let i : get_or (ids_in xs) k 0 ≡ x = sym (row-id (ids_in xs) 0 xs k b.row b.at).0 ∙ b.id in
        (i, sym b.ordinal ∙ row-numbered xs k b.row b.at ∙ ap (λ (y : ℕ). occurrences y (take (suc k) (ids_in xs))) i)

    ids-filled : row_ids (take (suc k) filled) ≡ take (suc k) (ids_in xs)
    unfolding rows_of
    ids-filled = ap row_ids (take-append-le (suc k) (rows_of xs) qs in_rows) ∙ row-ids-take (suc k) (rows_of xs) ∙ ap (take (suc k)) (row-ids (ids_in xs) 0 xs)

    row-counted : {x o : ℕ} → Numbered filled k x o → o ≡ occurrences x (row_ids (take (suc k) filled))
    row-counted {x} a = (row_is a).1 ∙ ap (occurrences x) (sym ids-filled)

    -- its ordinal is by 1 more than there are before it
    row-follows : {x o : ℕ} → Numbered filled k x o → o ≡ suc (occurrences x (take k (ids_in xs)))
    row-follows {x} a = (row_is a).1 ∙ same_id (ids_in xs) k in_ids x (row_is a).0

  one-before : (k : ℕ) {x o : ℕ} → k < length xs → Numbered filled k x (suc (suc o)) → (j : ℕ) × (j < k) × Numbered filled j x (suc o)
  unfolding ordinal_at
  one-before k {x} {o} h a =
      let (j, l, i, e) = last-among (ids_in xs) x o k (omega (arith, length-ids-in xs)) (omega (arith, row-follows k h a)) in
      let b = filled_row j (omega arith) in
      let f : ordinal_at (ids_in xs) j ≡ suc o = ap (λ (y : ℕ). occurrences y (take (suc j) (ids_in xs))) i ∙ e in
      (j, l, record { row = b.row; at = b.at; id = b.id ∙ i; ordinal = b.ordinal ∙ f })

pub table-invariant : TableInvariant
unfolding table_after
table-invariant n c table = record {
  counted = λ k x o h a. row-counted c.found (drop (length c.found) table) k h a;
  from_one = λ k x o h a. omega (arith, row-follows c.found (drop (length c.found) table) k h a);
  without-gaps = λ k x o h a. one-before c.found (drop (length c.found) table) k h a;
}

-- ---- no two have the same id and ordinal

module _ (xs : List Found) where
  abbrev all : List ℕ
  all = ids_in xs

  not-twice : {i j x o : ℕ} → Numbered (rows_of xs) i x o → Numbered (rows_of xs) j x o → i < j → ⊥
  unfolding rows_of
  not-twice {i} {j} a b h =
      let (p, k) = row-id all 0 xs i a.row a.at in
      let (q, l) = row-id all 0 xs j b.row b.at in
      omega (arith, ordinals-rise all i j h l (sym p ∙ a.id ∙ sym b.id ∙ q), row-numbered xs i a.row a.at, row-numbered xs j b.row b.at, a.ordinal, b.ordinal)

  one_place : {i j x o : ℕ} → Numbered (rows_of xs) i x o → Numbered (rows_of xs) j x o → i ≡ j
  one_place {i} {j} a b = elim (dec_lt i j) [ yes h ↦ absurd (not-twice a b h) | no h ↦ elim (dec_lt j i) [ yes l ↦ absurd (not-twice b a l) | no l ↦ omega arith ] ]

-- ---- finding

found-row : (x o k : ℕ) (rs : List PayloadRow) (p : ℕ) → find_in x o k rs ≡ Ok p → (i : ℕ) × (p ≡ k + i) × Numbered rs i x o
unfolding find_in
found-row x o k [] p h = absurd (let w : ◌≡◌ {A = ℕ} 0 1 = cc in omega arith)
found-row x o k (r ∷ rs) p h = go (eqb r.payload.id x & eqb r.ordinal o) refl h (λ f. found-row x o (suc k) rs p f)
  where
    go : (t : Bool) → (eqb r.payload.id x & eqb r.ordinal o) ≡ t → (if t then Ok k else find_in x o (suc k) rs) ≡ Ok p → (find_in x o (suc k) rs ≡ Ok p → (i : ℕ) × (p ≡ suc k + i) × Numbered rs i x o)
        → (i : ℕ) × (p ≡ k + i) × Numbered (r ∷ rs) i x o
    go true e f later =
        let d = both (subst T (sym e) tt) in
        let i : k ≡ p = cc in
        (0, omega arith, record { row = r; at = refl; id = eqb→eq r.payload.id x d.left; ordinal = eqb→eq r.ordinal o d.right })
    go false e f later =
        let (i, l, a) = later f in
        (suc i, omega arith, record { row = a.row; at = a.at; id = a.id; ordinal = a.ordinal })

not_found : (x o k : ℕ) (rs : List PayloadRow) (why : FindError) → find_in x o k rs ≡ Err why
    → (why ≡ FindError.NoSuchOrdinal) × ((i : ℕ) → Numbered rs i x o → ⊥)
unfolding find_in
not_found x o k [] why h = (cc, λ i a. let w : ◌≡◌ {A = ℕ} 0 1 = cc a.at in omega arith)
not_found x o k (r ∷ rs) why h = go (eqb r.payload.id x & eqb r.ordinal o) refl h (λ f. not_found x o (suc k) rs why f)
  where
    here : (eqb r.payload.id x & eqb r.ordinal o) ≡ false → Numbered (r ∷ rs) 0 x o → ⊥
    here e a =
        let z : a.row ≡ r = cc a.at in
        let i : r.payload.id ≡ x = ap (λ u. u.payload.id) (sym z) ∙ a.id in
        let l : r.ordinal ≡ o = ap (λ u. u.ordinal) (sym z) ∙ a.ordinal in
        subst T e (and _ _ (subst T (sym (eq-eqb r.payload.id x i)) tt) (subst T (sym (eq-eqb r.ordinal o l)) tt))

    go : (t : Bool) → (eqb r.payload.id x & eqb r.ordinal o) ≡ t → (if t then Ok k else find_in x o (suc k) rs) ≡ Err why → (find_in x o (suc k) rs ≡ Err why → (why ≡ FindError.NoSuchOrdinal) × ((i : ℕ) → Numbered rs i x o → ⊥))
        → (why ≡ FindError.NoSuchOrdinal) × ((i : ℕ) → Numbered (r ∷ rs) i x o → ⊥)
    go true e f later = absurd (let w : ◌≡◌ {A = ℕ} 0 1 = cc in omega arith)
    go false e f later = let (y, g) = later f in (y, none-at g)
      where
        none-at : ((i : ℕ) → Numbered rs i x o → ⊥) → (i : ℕ) → Numbered (r ∷ rs) i x o → ⊥
        none-at g zero a = here e a
        none-at g (suc i) a = g i (record { row = a.row; at = a.at; id = a.id; ordinal = a.ordinal })

module _ (n : ℕ) (c : Container) (x o : ℕ) where
  abbrev rows : List PayloadRow
  rows = rows_of c.found

  found_at : (k : ℕ) → find_payload x o (accepted n c) ≡ Ok k → Numbered rows k x o
  unfolding find_payload
  found_at k h = let (i, e, a) = found-row x o 0 rows k h in subst (λ (j : ℕ). Numbered rows j x o) (omega arith) a

  at-found : (k : ℕ) → Numbered rows k x o → find_payload x o (accepted n c) ≡ Ok k
  unfolding find_payload
  at-found k a = go (find_in x o 0 rows) refl
    where
      go : (r : Result ℕ FindError) → find_in x o 0 rows ≡ r → find_in x o 0 rows ≡ Ok k
      go (Ok p) h =
          let (i, e, b) = found-row x o 0 rows p h in
          let d : p ≡ k = omega (arith, one_place c.found a b) in
          h ∙ ap Ok d
      go (Err why) h = absurd ((not_found x o 0 rows why h).1 k a)

  none_found : find_payload x o (accepted n c) ≡ Err FindError.NoSuchOrdinal → (k : ℕ) → Numbered rows k x o → ⊥
  unfolding find_payload
  none_found h = (not_found x o 0 rows FindError.NoSuchOrdinal h).1

  found_none : ((k : ℕ) → Numbered rows k x o → ⊥) → find_payload x o (accepted n c) ≡ Err FindError.NoSuchOrdinal
  unfolding find_payload
  found_none f = go (find_in x o 0 rows) refl
    where
      go : (r : Result ℕ FindError) → find_in x o 0 rows ≡ r → find_in x o 0 rows ≡ Err FindError.NoSuchOrdinal
      go (Ok p) h = let (i, e, b) = found-row x o 0 rows p h in absurd (f i b)
      go (Err why) h = h ∙ ap Err (not_found x o 0 rows why h).0

pub finds-exactly : FindsExactly
finds-exactly = record {
  found = λ n c x o k. (found_at n c x o k, at-found n c x o k);
  missing = λ n c x o. (none_found n c x o, found_none n c x o);
}
