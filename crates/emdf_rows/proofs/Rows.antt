-- Laws of the rows. Assumes nothing.
use mathlib.Core.Path.{◌≡◌, refl, sym, ap, ◌∙◌}
use mathlib.Core.Bool.{Bool, true, false}
use mathlib.Core.List.{List, [], ◌∷◌, ◌++◌}
use Prim.Native.Nat.{ℕ, suc, ◌+◌, ◌*◌, ◌<◌, ◌≤◌, ◌^◌}
use native.Mathlib.Nat.{zero-add}
use native.Mathlib.Decide.{dec_lt}
use native.Mathlib.Omega.{arith}
use lib.Dec.{eqb}
use lib.ListN.{length, get_or, take, drop, replicate, length-append, length-drop, take-append-drop}
use lib.Seq.{sets, sets-eq, length-take-le, drop-cons, drop-append_seam, get_or-append_seam}
use Rattle.std.specs.Prelude.{Option, Some, None, Ok}
use Rattle.openjoc_bitio.specs.Bits.{bits_value}
use Rattle.openjoc_bitio.proofs.Bits.{value-append, value-drop}
use Rattle.openjoc_bitio.specs.declared.BitCursor.{BitCursor}
use Rattle.openjoc_bitio.proofs.Results.{some-same, none-is-not-some}
use Rattle.emdf_format.specs.Reader.{cursor_at}
use Rattle.emdf_format.specs.Reading.{Found, payloads_of}
use Rattle.emdf_format.specs.Ordinals.{ordinal_at, ids_of, ids_in, rows_from, rows_of}
use Rattle.emdf_format.proofs.Bytes.{sets-append}
use Rattle.emdf_format.specs.declared.EmdfPayloadConfig.{EmdfPayloadConfig}
use Rattle.emdf_format.specs.declared.PayloadRecord.{PayloadRecord}
use Rattle.emdf_format.specs.declared.PayloadRow.{PayloadRow}
use Rattle.emdf_fields.specs.Word.{top}
use Rattle.emdf_payloads.specs.Payloads.{Listed, step_at}
use Rattle.emdf_payloads.proofs.Walk.{listed-step}
use Rattle.emdf_payloads.specs.Compact.{CompactAt, compact_record, compact_step}
use Rattle.emdf_payloads.specs.declared.CompactPayload.{CompactPayload}
use Rattle.emdf_ordinals.specs.Rows.{searched, slots_with}
use Rattle.emdf_ordinals.proofs.Rows.{Tracks, tracks-none, tracks-next, Numbers, last-most, ordinal-by-rows}
use Rattle.emdf_answers.specs.Form.{big_endian, words, number_at}
use Rattle.emdf_answers.specs.Carriers.{optional_words, config_words, trace_words, record_words, row_words, rows_bytes}
use Rattle.emdf_answers.proofs.Form.{length-words, number_read}
use Rattle.emdf_rows.specs.Rows.{id_column, ordinal_column, last_in, Searchable, PutsNumbered}
use Rattle.emdf_rows.proofs.Stored.{words-stored, words-one, words-then}

-- ---- a row

length-optional : (o : Option ℕ) → length (optional_words o) ≡ 2
unfolding optional_words
length-optional None = refl
length-optional (Some v) = refl

length-config : (t : EmdfPayloadConfig) → length (config_words t) ≡ 18
unfolding config_words
length-config t = simp (length-append, length-optional)

length-record : (r : PayloadRecord) → length (record_words r) ≡ 27
unfolding record_words
length-record r = simp (length-append, length-config)

numbers-row : (r : PayloadRow) → length (row_words r) ≡ 28
unfolding row_words
numbers-row r = length-append (record_words r.payload) (r.ordinal ∷ []) ∙ omega (arith, length-record r.payload)

pub length-row : (r : PayloadRow) → length (words (row_words r)) ≡ 224
length-row r = length-words (row_words r) ∙ omega (arith, numbers-row r)

pub row-stored : (l : List ℕ) (at : ℕ) (r : PayloadRow)
    → sets (sets (sets (sets l at (big_endian 8 r.payload.id)) (at + 8) (words (config_words r.payload.config))) (at + 152) (words (trace_words r.payload.trace))) (at + 216) (big_endian 8 r.ordinal)
    ≡ sets l at (words (row_words r))
unfolding record_words row_words
row-stored l at r =
    let a : sets (sets (sets l at (big_endian 8 r.payload.id)) (at + 8) (words (config_words r.payload.config))) (at + 152) (words (trace_words r.payload.trace)) ≡ sets l at (words (record_words r.payload)) =
    rw words-stored (words-then l at (r.payload.id ∷ config_words r.payload.config) (trace_words r.payload.trace) (rw length-config)) in
    rw (a, ← words-one r.ordinal) (words-then l at (record_words r.payload) (r.ordinal ∷ []) (rw length-record))

-- ---- what the table says of its rows

module _ (l : List ℕ) (at : ℕ) where
  -- numbers that are stored
  number-stored : (vs : List ℕ) (i : ℕ) → at + 8 * length vs ≤ length l → i < length vs → get_or vs i 0 < 2 ^ 64 → bits_value (sets l at (words vs)) ((at + 8 * i) * 8) 64 ≡ get_or vs i 0
  unfolding number_at
  number-stored vs i h k b =
      let n : length (take at l) ≡ at = length-take-le at l (omega arith) in
      let m : length (take at l ++ words vs) ≡ at + 8 * length vs = length-append (take at l) (words vs) ∙ omega (arith, length-words vs) in
      let p : (at + 8 * i) * 8 ≡ length (take at l) * 8 + 64 * i = omega arith in
      ap (λ (r : List ℕ). bits_value r ((at + 8 * i) * 8) 64) (sets-eq (words vs) l at (omega (arith, length-words vs)))
      ∙ value-append (take at l ++ words vs) (drop (at + length (words vs)) l) ((at + 8 * i) * 8) 64 (omega arith)
      ∙ ap (λ (q : ℕ). bits_value (take at l ++ words vs) q 64) p
      ∙ sym (value-drop (take at l ++ words vs) (length (take at l)) (64 * i) 64)
      ∙ ap (λ (r : List ℕ). bits_value r (64 * i) 64) (drop-append_seam (take at l) (words vs))
      ∙ number_read vs i k b

  -- and one before them
  number-kept : (ws : List ℕ) (p : ℕ) → p + 64 ≤ at * 8 → at + length ws ≤ length l → bits_value (sets l at ws) p 64 ≡ bits_value l p 64
  number-kept ws p h k =
      let n : length (take at l) ≡ at = length-take-le at l (omega arith) in
      let b : p + 64 ≤ length (take at l) * 8 = omega arith in
      ap (λ (m : List ℕ). bits_value m p 64) (sets-eq ws l at k)
      ∙ value-append (take at l ++ ws) (drop (at + length ws) l) p 64 (omega (arith, length-append (take at l) ws))
      ∙ value-append (take at l) ws p 64 b
      ∙ sym (value-append (take at l) (drop at l) p 64 b)
      ∙ ap (λ (m : List ℕ). bits_value m p 64) (take-append-drop at l)

module _ (table exit ids : List ℕ) (place : ℕ) (row : PayloadRow) (room : place * 224 + 224 ≤ length table) (stored : exit ≡ sets table (place * 224) (words (row_words row))) where
  row-id : row.payload.id < 2 ^ 64 → id_column exit place ≡ row.payload.id
  unfolding record_words row_words
  row-id b =
      let p : (place * 224 + 0) * 8 ≡ (place * 224 + 8 * 0) * 8 = omega arith in
      rw (stored, p) (number-stored table (place * 224) (row_words row) 0 (omega (arith, numbers-row row)) (omega (arith, numbers-row row)) b)

  row-ordinal : row.ordinal < 2 ^ 64 → ordinal_column exit place ≡ row.ordinal
  unfolding row_words
  row-ordinal b =
      let p : (place * 224 + 216) * 8 ≡ (place * 224 + 8 * 27) * 8 = omega arith in
      let g : get_or (row_words row) 27 0 ≡ row.ordinal = ap (λ (i : ℕ). get_or (row_words row) i 0) (sym (length-record row.payload)) ∙ get_or-append_seam (record_words row.payload) row.ordinal [] 0 in
      rw (stored, p) (number-stored table (place * 224) (row_words row) 27 (omega (arith, numbers-row row)) (omega (arith, numbers-row row)) (rw g b) ∙ g)

  earlier : (offset j : ℕ) → offset + 8 ≤ 224 → j < place → bits_value exit ((j * 224 + offset) * 8) 64 ≡ bits_value table ((j * 224 + offset) * 8) 64
  earlier offset j h k = rw stored (number-kept table (place * 224) (words (row_words row)) ((j * 224 + offset) * 8) (omega arith) (omega (arith, length-row row)))

  numbers-next : Numbers (id_column table) (ordinal_column table) ids place → row.payload.id ≡ get_or ids place 0 → row.ordinal ≡ ordinal_at ids place → row.payload.id < 2 ^ 64 → row.ordinal < 2 ^ 64
      → Numbers (id_column exit) (ordinal_column exit) ids (suc place)
  numbers-next f a b c d j h = elim (dec_lt j place) [
    | yes k ↦ (earlier 0 j (omega arith) k ∙ (f j k).0, earlier 216 j (omega arith) k ∙ (f j k).1)
    | no k ↦ let e : j ≡ place = omega arith in rw e (row-id c ∙ a, row-ordinal d ∙ b)
  ]

-- ---- the rows

rows-stored : (l ids : List ℕ) (i : ℕ) (x : Found) (xs : List Found) (row : PayloadRow) → row ≡ record { payload = x.record_of; ordinal = ordinal_at ids i }
    → sets (sets l (i * 224) (words (row_words row))) (suc i * 224) (rows_bytes (rows_from ids (suc i) xs)) ≡ sets l (i * 224) (rows_bytes (rows_from ids i (x ∷ xs)))
unfolding rows_bytes rows_from
rows-stored l ids i x xs row r =
    let e : suc i * 224 ≡ i * 224 + length (words (row_words row)) = omega (arith, length-row row) in
    rw (e, ← r) (sym (sets-append l (i * 224) (words (row_words row)) (rows_bytes (rows_from ids (suc i) xs))))

length-rows : (ids : List ℕ) (i : ℕ) (xs : List Found) → length (rows_bytes (rows_from ids i xs)) ≡ 224 * length xs
unfolding rows_bytes rows_from
length-rows ids i [] = refl
length-rows ids i (x ∷ xs) = rw length-append (omega (arith, length-row (record { payload = x.record_of; ordinal = ordinal_at ids i }), length-rows ids (suc i) xs))

pub rows-after : (l : List ℕ) (xs : List Found) → length xs * 224 ≤ length l → sets l 0 (rows_bytes (rows_of xs)) ≡ rows_bytes (rows_of xs) ++ drop (224 * length xs) l
unfolding rows_of
rows-after l xs h =
    sets-eq (rows_bytes (rows_of xs)) l 0 (omega (arith, length-rows (ids_in xs) 0 xs)) ∙ rw (length-rows (ids_in xs) 0 xs, zero-add)

module _ {table slots exit slots' : List ℕ} {place o : ℕ} {payload : PayloadRecord} where
  pub puts-numbered : (o ≡ suc (last_in table slots place payload.id)) × (slots' ≡ slots_with slots payload.id place)
      → exit ≡ sets table (place * 224) (words (row_words (record { payload = payload; ordinal = o })))
      → payload.id < 2 ^ 64 → o < 2 ^ 64 → PutsNumbered table slots place payload exit slots'
  puts-numbered n e s f = record { stored = rw n.0 at e; taken = n.1; small = s; fits = rw n.0 at f }

-- the payloads from the cursor at on, whose rows from place on complete the table of those with these ids; the rows before, and the slots,
-- say which ids there were
pub record Left (s : List ℕ) (at : BitCursor) (ids : List ℕ) (place count : ℕ) (table slots complete : List ℕ) : Type 0 where
  pub found : List Found
  pub listed : Listed s at found
  pub counted : place + length found ≡ count
  pub ahead : drop place ids ≡ ids_in found
  pub numbers : Numbers (id_column table) (ordinal_column table) ids place
  pub tracks : Tracks slots ids place
  pub rows : sets table (place * 224) (rows_bytes (rows_from ids place found)) ≡ complete

pub left-all : {s table slots : List ℕ} {c : BitCursor} {count : ℕ} (xs : List Found) → slots ≡ replicate (length slots) 0 → Listed s c xs → length xs ≡ count → Left s c (ids_in xs) 0 count table slots (sets table 0 (rows_bytes (rows_of xs)))
unfolding rows_of
left-all {slots = slots} xs z l e =
    record { found = xs; listed = l; counted = omega arith; ahead = refl; numbers = λ j h. absurd (omega arith); tracks = rw z (tracks-none (length slots) (ids_in xs)); rows = refl }

module _ {s table slots complete ids : List ℕ} {at : BitCursor} {place count : ℕ} (l : Left s at ids place count table slots complete) where
  pub left-searchable : place ≤ length ids → Searchable table slots place
  left-searchable h x =
      let w = l.tracks.within x in
      (w, omega (arith, last-most (id_column table) (ordinal_column table) ids x (searched slots x place) (omega arith) (λ j k. l.numbers j (omega arith))))

  pub left-payload : place < count → (row : PayloadRecord) × (next : BitCursor) × (step_at s at ≡ Ok (Some row, next))
  left-payload h = go l.found l.listed l.counted
    where
      go : (xs : List Found) → Listed s at xs → place + length xs ≡ count → (row : PayloadRecord) × (next : BitCursor) × (step_at s at ≡ Ok (Some row, next))
      go [] k e = absurd (omega arith)
      go (x ∷ xs) k e = let d = listed-step s at x xs k in (x.record_of, d.next, d.is)

  pub left-none : count ≤ place → table ≡ complete
  unfolding rows_bytes rows_from
  left-none h = go l.found l.counted l.rows
    where
      go : (xs : List Found) → place + length xs ≡ count → sets table (place * 224) (rows_bytes (rows_from ids place xs)) ≡ complete → table ≡ complete
      go [] e r = r
      go (x ∷ xs) e r = absurd (omega arith)

  module _ {row : PayloadRecord} {next : BitCursor} {exit slots' : List ℕ} (e : step_at s at ≡ Ok (Some row, next)) (p : PutsNumbered table slots place row exit slots') (h : place < length ids) (room : place * 224 + 224 ≤ length table) where
    pub left_step : Left s next ids (place + 1) count exit slots' complete
    unfolding ids_of payloads_of
    left_step = go l.found l.listed l.counted l.ahead l.rows
      where
        go : (xs : List Found) → Listed s at xs → place + length xs ≡ count → drop place ids ≡ ids_in xs → sets table (place * 224) (rows_bytes (rows_from ids place xs)) ≡ complete → Left s next ids (place + 1) count exit slots' complete
        go [] k n a r = absurd (omega (arith, ap length a, length-drop place ids))
        go (x ∷ xs) k n a r =
            let d = listed-step s at x xs k in
            let (f, g) = some-same (sym d.is ∙ e) in
            let b : get_or ids place 0 ∷ drop (suc place) ids ≡ x.record_of.id ∷ ids_in xs = sym (drop-cons ids place 0 h) ∙ a in
            let i : get_or ids place 0 ≡ row.id = cc in
            let m : drop (suc place) ids ≡ ids_in xs = cc in
            let o : suc (last_in table slots place row.id) ≡ ordinal_at ids place = rw (← i) (ordinal-by-rows (id_column table) (ordinal_column table) ids h l.tracks l.numbers) in
            let w : suc place ≡ place + 1 = omega arith in
            let y : PayloadRow = record { payload = row; ordinal = suc (last_in table slots place row.id) } in
            let q : y ≡ record { payload = x.record_of; ordinal = ordinal_at ids place } = rw (f, o) in
            record {
              found = xs;
              listed = rw g at d.listed;
              counted = omega arith;
              ahead = rw (← w) m;
              numbers = rw (← w) (numbers-next table exit ids place y room p.stored l.numbers (sym i) o p.small p.fits);
              tracks = rw (← w, p.taken, ← i) (tracks-next l.tracks h);
              rows = rw (p.stored, ← w) (rows-stored table ids place x xs y q ∙ r);
            }

-- ---- the next payload

-- where a payload stands, what is compact there is that payload
module _ {s : List ℕ} {e p : ℕ} {k : CompactPayload} {r : PayloadRecord} {next : BitCursor} where
  pub compact-payload : CompactAt s e p k → 0 < k.length → step_at s (cursor_at e p) ≡ Ok (Some r, next) → (compact_record k p ≡ r) × (cursor_at e (p + k.length) ≡ next)
  unfolding compact_step
  compact-payload a h f = by-id (eqb (top 5 k.word) 0) refl (sym (a.is h) ∙ f)
    where
      by-id : (t : Bool) → eqb (top 5 k.word) 0 ≡ t → compact_step k e p ≡ Ok (Some r, next) → (compact_record k p ≡ r) × (cursor_at e (p + k.length) ≡ next)
      by-id true z g = absurd (none-is-not-some (rw z at g))
      by-id false z g = some-same (rw z at g)
