-- Laws of ordinals by the rows before. Assumes nothing.
use mathlib.Core.Path.{◌≡◌, refl, sym, ap, ◌∙◌}
use mathlib.Core.Bool.{Bool, true, false}
use mathlib.Core.List.{List}
use Prim.Native.Nat.{ℕ, zero, suc, ◌-◌, ◌<◌, ◌≤◌}
use native.Mathlib.Decide.{dec_lt}
use native.Mathlib.Omega.{arith}
use lib.Dec.{eqb}
use lib.ListN.{length, get_or, take, replicate, length-set}
use lib.Seq.{length-take-le, get_or-set_same, get_or-set_other}
use borrow.Author.Tests.{eqb-true, eqb-false, eq-eqb, ne_eqb, lt-ltb, le-ltb}
use Rattle.std.specs.Prelude.{if◌then◌else◌}
use Rattle.emdf_format.specs.Ordinals.{occurrences, ordinal_at}
use Rattle.emdf_format.proofs.Ordinals.{occurrences-most, same_id, other-id}
use Rattle.emdf_ordinals.specs.Rows.{slot_of, searched, slots_with, last_ordinal}

-- ---- slots

pub searched-slot : (slots : List ℕ) (x k : ℕ) → slot_of x < length slots → searched slots x k ≡ get_or slots (slot_of x) 0
unfolding searched
searched-slot slots x k h = rw (lt-ltb (slot_of x) (length slots) h)

pub searched-all : (slots : List ℕ) (x k : ℕ) → length slots ≤ slot_of x → searched slots x k ≡ k
unfolding searched
searched-all slots x k h = rw (le-ltb (slot_of x) (length slots) h)

-- of the first k ids those that aren't searched are others
pub record Tracks (slots ids : List ℕ) (k : ℕ) : Type 0 where
  pub within : (x : ℕ) → searched slots x k ≤ k
  pub same : (x : ℕ) → occurrences x (take (searched slots x k) ids) ≡ occurrences x (take k ids)

-- all of them are searched
all-searched : (slots ids : List ℕ) (k x : ℕ) → searched slots x k ≡ k → (searched slots x k ≤ k) × (occurrences x (take (searched slots x k) ids) ≡ occurrences x (take k ids))
all-searched slots ids k x e = (omega arith, ap (λ (n : ℕ). occurrences x (take n ids)) e)

zeros : (n i : ℕ) → get_or {A = ℕ} (replicate n 0) i 0 ≡ 0
zeros zero i = refl
zeros (suc n) zero = refl
zeros (suc n) (suc i) = zeros n i

pub tracks-none : (n : ℕ) (ids : List ℕ) → Tracks (replicate n 0) ids 0
tracks-none n ids = record { within = λ x. (all-searched free ids 0 x (none x)).0; same = λ x. (all-searched free ids 0 x (none x)).1 }
  where
    free : List ℕ
    free = replicate n 0

    none : (x : ℕ) → searched (replicate n 0) x 0 ≡ 0
    none x = elim (dec_lt (slot_of x) (length {A = ℕ} (replicate n 0))) [
      | yes h ↦ searched-slot (replicate n 0) x 0 h ∙ zeros n (slot_of x)
      | no h ↦ searched-all (replicate n 0) x 0 (omega arith)
    ]

module _ {slots ids : List ℕ} {k : ℕ} (t : Tracks slots ids k) (h : k < length ids) where
  abbrev own : ℕ
  own = get_or ids k 0

  abbrev after : List ℕ
  after = slots_with slots own k

  next-searched : (x : ℕ) → (searched after x (suc k) ≤ suc k) × (occurrences x (take (searched after x (suc k)) ids) ≡ occurrences x (take (suc k) ids))
  next-searched x = elim (dec_lt (slot_of x) (length slots)) [
    | yes l ↦ by-slot (eqb (slot_of own) (slot_of x)) refl l
    | no l ↦ all-searched after ids (suc k) x (searched-all after x (suc k) (omega (arith, length-set slots (slot_of own) (suc k))))
  ]
    where
      by-slot : (b : Bool) → eqb (slot_of own) (slot_of x) ≡ b → slot_of x < length slots → (searched after x (suc k) ≤ suc k) × (occurrences x (take (searched after x (suc k)) ids) ≡ occurrences x (take (suc k) ids))
      by-slot true e l =
          let same : slot_of own ≡ slot_of x = eqb-true _ _ e in
          let s : searched after x (suc k) ≡ suc k = searched-slot after x (suc k) (omega (arith, length-set slots (slot_of own) (suc k))) ∙ ap (λ (i : ℕ). get_or after i 0) (sym same) ∙ get_or-set_same slots (slot_of own) (suc k) 0 (omega arith) in
          all-searched after ids (suc k) x s
      by-slot false e l =
          let differ : eqb own x ≡ false = not_own (eqb own x) refl in
          let s : searched after x (suc k) ≡ searched slots x k = searched-slot after x (suc k) (omega (arith, length-set slots (slot_of own) (suc k))) ∙ get_or-set_other slots (slot_of own) (slot_of x) (suc k) 0 (λ z. eqb-false _ _ e (sym z)) ∙ sym (searched-slot slots x k l) in
          (omega (arith, s, t.within x), ap (λ (n : ℕ). occurrences x (take n ids)) s ∙ t.same x ∙ sym (other-id ids k h x differ))
        where
          not_own : (b : Bool) → eqb own x ≡ b → b ≡ false
          not_own true z = absurd (eqb-false _ _ e (ap slot_of (eqb-true own x z)))
          not_own false z = refl

  pub tracks-next : Tracks after ids (suc k)
  tracks-next = record { within = λ x. (next-searched x).0; same = λ x. (next-searched x).1 }

-- ---- rows

-- the first n rows have these ids and their ordinals
abbrev pub Numbers : (ℕ → ℕ) → (ℕ → ℕ) → List ℕ → ℕ → Type 0
Numbers id ordinal ids n = (j : ℕ) → j < n → (id j ≡ get_or ids j 0) × (ordinal j ≡ ordinal_at ids j)

module _ (id ordinal : ℕ → ℕ) (ids : List ℕ) where
  last-counts : (x n : ℕ) → n ≤ length ids → Numbers id ordinal ids n → last_ordinal id ordinal x n ≡ occurrences x (take n ids)
  unfolding last_ordinal ordinal_at occurrences
  last-counts x zero h f = refl
  last-counts x (suc n) h f = go (eqb (id n) x) refl (last-counts x n (omega arith) (λ j l. f j (omega arith)))
    where
      go : (b : Bool) → eqb (id n) x ≡ b → last_ordinal id ordinal x n ≡ occurrences x (take n ids) → (if b then ordinal n else last_ordinal id ordinal x n) ≡ occurrences x (take (suc n) ids)
      go true e before =
          let own : get_or ids n 0 ≡ x = sym (f n (omega arith)).0 ∙ eqb-true _ _ e in
          (f n (omega arith)).1 ∙ ap (λ (y : ℕ). occurrences y (take (suc n) ids)) own
      go false e before =
          let other : eqb (get_or ids n 0) x ≡ false = ap (λ (y : ℕ). eqb y x) (sym (f n (omega arith)).0) ∙ e in
          before ∙ sym (other-id ids n (omega arith) x other)

  pub last-most : (x n : ℕ) → n ≤ length ids → Numbers id ordinal ids n → last_ordinal id ordinal x n ≤ n
  last-most x n h f = omega (arith, last-counts x n h f, occurrences-most x (take n ids), length-take-le n ids h)

  -- the ordinal at a place: one more than that of the last row before it with its id
  pub ordinal-by-rows : {slots : List ℕ} {k : ℕ} → k < length ids → Tracks slots ids k → Numbers id ordinal ids k
      → suc (last_ordinal id ordinal (get_or ids k 0) (searched slots (get_or ids k 0) k)) ≡ ordinal_at ids k
  unfolding ordinal_at
  ordinal-by-rows {slots} {k} h t f =
      let x : ℕ = get_or ids k 0 in
      ap suc (last-counts x (searched slots x k) (omega (arith, t.within x)) (λ j l. f j (omega (arith, t.within x))) ∙ t.same x) ∙ sym (same_id ids k h x refl)

-- ---- rows from the last to the first

module _ (id ordinal : ℕ → ℕ) (x : ℕ) where
  pub last-here : (left : ℕ) → 0 < left → id (left - 1) ≡ x → ordinal (left - 1) ≡ last_ordinal id ordinal x left
  unfolding last_ordinal
  last-here zero h e = absurd (omega arith)
  last-here (suc left) h e =
      let n : suc left - 1 ≡ left = omega arith in
      let f : id left ≡ x = rw n at e in
      rw (n, eq-eqb (id left) x f)

  pub last-before : (left : ℕ) → 0 < left → (id (left - 1) ≡ x → ⊥) → last_ordinal id ordinal x (left - 1) ≡ last_ordinal id ordinal x left
  unfolding last_ordinal
  last-before zero h e = absurd (omega arith)
  last-before (suc left) h e =
      let n : suc left - 1 ≡ left = omega arith in
      let f : id left ≡ x → ⊥ = rw n at e in
      rw (n, ne_eqb (id left) x f)

pub none_left : (id ordinal : ℕ → ℕ) (x left : ℕ) → left ≤ 0 → last_ordinal id ordinal x left ≡ 0
unfolding last_ordinal
none_left id ordinal x zero h = refl
none_left id ordinal x (suc left) h = absurd (omega arith)
