-- Laws of one group of a variable field, and of the loop over groups. Assumes nothing.
use mathlib.Core.Path.{◌≡◌, refl, sym, ap, ◌∙◌}
use mathlib.Core.Bool.{Bool, true, false}
use mathlib.Core.List.{List}
use Prim.Native.Nat.{ℕ, zero, suc, ◌+◌, ◌-◌, ◌*◌, ◌/◌, ◌%◌, ◌^◌, ◌≤◌, ◌<◌}
use native.Mathlib.Omega.{arith}
use native.Mathlib.Decide.{dec_le}
use native.Mathlib.Nat.{le-div_iff_mul-le, div-lt_iff_lt-mul, suc-mul}
use lib.Pow.{pow_pos}
use lib.Dec.{eqb, ltb, lit≤, ltb→lt}
use borrow.Author.Tests.{lt-ltb, le-ltb}
use Rattle.std.specs.Prelude.{if◌then◌else◌}
use Rattle.openjoc_bitio.specs.Bits.{window_at}
use Rattle.openjoc_bitio.specs.Cursor.{bits_remaining}
use Rattle.openjoc_bitio.specs.declared.BitCursor.{BitCursor}
use Rattle.emdf_format.specs.Reader.{Reader, and_then, ◌>>=◌, give, ask, choose, bits, groups_from, cursor_at}
use Rattle.emdf_format.specs.declared.EmdfError.TheVariants.{VariableBitsGroupLimit, ValueOverflow}
use Rattle.emdf_format.proofs.Standing.{bit_limit, remaining-limit, T_of, T-not-of, taken, asked, chosen, bind_inv, ask-inv, choose-inv, give-inv, bind-go, bind-no, bind_assoc, bind-same, choose-bind, choose-same, give-bind}
use Rattle.emdf_format.proofs.Loops.{bits-there}
use Rattle.emdf_fields.proofs.Word.{word-window, word_low, word-bits}
use Rattle.emdf_fields.specs.Fields.{one_group, group_of, group_rest, field_answer, start_answer}
use Rattle.emdf_fields.specs.declared.FieldError.{FieldError}
use Rattle.emdf_fields.specs.declared.GroupRead.{GroupRead}
use Rattle.emdf_fields.specs.declared.GroupRead.TheVariants.{Last, More}
use Rattle.emdf_fields.proofs.Answers.{Found, field_found, field-ended, via, yes as granted, no_more}
use Rattle.std.specs.Prelude.{Some, None, Ok, Err}

-- ---- a group whose value is there

-- past the more bit, by what the three questions answer
rest : (w limit sum next : ℕ) (s : List ℕ) (e q : ℕ) (t u v : Bool)
    → (if t then Ok (Last sum, cursor_at e q) else (if u then (if v then Ok (More next, cursor_at e q) else Err (record { why = ValueOverflow; cursor = cursor_at e q })) else Err (record { why = VariableBitsGroupLimit w limit; cursor = cursor_at e q })))
    ≡ field_answer e (choose t (give (Last sum)) (ask u (VariableBitsGroupLimit w limit) >>= λ _. ask v ValueOverflow >>= λ _. give (More next)) s e q)
unfolding field_answer choose ask give ◌>>=◌ and_then
rest w limit sum next s e q true u v = refl
rest w limit sum next s e q false true true = refl
rest w limit sum next s e q false true false = refl
rest w limit sum next s e q false false v = refl

module _ (w limit n start : ℕ) (s : List ℕ) (e p : ℕ) {value : ℕ} {c₁ : BitCursor} (f : Found (bits w s e p) e value c₁) where
  pub value-overflows : 2 ^ 64 ≤ start + value → Err (record { why = ValueOverflow; cursor = c₁ }) ≡ field_answer e (one_group w limit n start s e p)
  unfolding one_group field_answer
  value-overflows h = via field_answer _ _ _ _ _ f (no_more field_answer _ _ _ _ _ _ (T-not-of (le-ltb _ _ h)) refl)

  -- the more bit is there, too
  pub rest-found : {flag : ℕ} {c₂ : BitCursor} → start + value < 2 ^ 64 → Found (bits 1 s c₁.end c₁.position) c₁.end flag c₂
      → group_rest w limit n (start + value) flag c₂.end c₂.position ≡ field_answer e (one_group w limit n start s e p)
  unfolding one_group group_rest
  rest-found {flag} {c₂} l g =
      via field_answer _ _ _ _ _ f
      (granted field_answer _ _ _ _ _ _ (T_of (lt-ltb _ _ l))
      (via field_answer _ _ _ _ _ g (rest w limit _ _ s _ _ (eqb flag 0) (ltb 0 n) (ltb ((start + value) * 2 ^ w + 2 ^ w) (2 ^ 64)))))

-- both are in the word at p
pub group-word : (w limit n start : ℕ) (s : List ℕ) (e p : ℕ) → w ≤ 56 → w < bits_remaining s (cursor_at e p)
    → group_of w limit n start (window_at s p / 2 ^ (64 - w)) (window_at s p / 2 ^ (63 - w) % 2) e (p + w) ≡ field_answer e (one_group w limit n start s e p)
unfolding group_of
group-word w limit n start s e p h l =
    let x = window_at s p in
    let room : p + w + 1 ≤ bit_limit s e = omega (arith, remaining-limit s e p) in
    let value : Found (bits w s e p) e (x / 2 ^ (64 - w)) (cursor_at e (p + w)) = record { is = word-bits (word-window s p) e w (omega arith) (omega arith) (omega arith); end = refl } in
    let i : 63 - w ≡ 64 - (w + 1) = omega arith in
    let bit = ap (λ (k : ℕ). x / 2 ^ k % 2) i ∙ word_low (word-window s p) w 1 (omega arith) in
    let flag : Found (bits 1 s e (p + w)) e (x / 2 ^ (63 - w) % 2) (cursor_at e (p + w + 1)) = record { is = rw bit (bits-there 1 s e (p + w) (lit≤ tt) (omega arith)); end = refl } in
    elim (dec_le (2 ^ 64) (start + x / 2 ^ (64 - w))) [
      | yes k ↦ rw (le-ltb _ _ k) (value-overflows w limit n start s e p value k)
      | no k ↦ let m : start + x / 2 ^ (64 - w) < 2 ^ 64 = omega arith in rw (lt-ltb _ _ m) (rest-found w limit n start s e p value m flag)
    ]

-- ---- where the next sum starts

pub start_fits : (v w : ℕ) → v < (2 ^ 64 - 1) / 2 ^ w → (v + 1) * 2 ^ w < 2 ^ 64
start_fits v w h =
    let k : v + 1 ≤ (2 ^ 64 - 1) / 2 ^ w = omega arith in
    omega (arith, (le-div_iff_mul-le (pow_pos w)).0 k)

pub start-large : (v w : ℕ) → (2 ^ 64 - 1) / 2 ^ w ≤ v → 2 ^ 64 ≤ (v + 1) * 2 ^ w
start-large v w h =
    let k : (2 ^ 64 - 1) / 2 ^ w < v + 1 = omega arith in
    omega (arith, (div-lt_iff_lt-mul (pow_pos w)).0 k)

pub start_is : (v w : ℕ) → (v + 1) * 2 ^ w ≡ v * 2 ^ w + 2 ^ w
start_is v w = let e : v + 1 ≡ suc v = omega arith in rw (e, suc-mul)

-- ---- the loop

-- what follows one group
unfoldable turn : ℕ → ℕ → ℕ → GroupRead → Reader ℕ
turn w limit n (Last v) = give v
turn w limit n (More v) = groups_from w limit n v

groups-turn : (w limit n start : ℕ) (s : List ℕ) (e p : ℕ) → groups_from w limit (suc n) start s e p ≡ (one_group w limit n start >>= turn w limit n) s e p
unfolding groups_from one_group turn
groups-turn w limit n start s e p =
    sym (bind_assoc _ _ (turn w limit n) s e p
    ∙ bind-same _ _ _ s e p (λ value q.
    bind_assoc _ _ (turn w limit n) s e q
    ∙ bind-same _ _ _ s e q (λ _ q.
    bind_assoc _ _ (turn w limit n) s e q
    ∙ bind-same _ _ _ s e q (λ flag q.
    choose-bind _ _ _ (turn w limit n) s e q
    ∙ choose-same _ _ _ _ _ s e q (give-last (start + value) q) (
    bind_assoc _ _ (turn w limit n) s e q
    ∙ bind-same _ _ _ s e q (λ _ q.
    bind_assoc _ _ (turn w limit n) s e q
    ∙ bind-same _ _ _ s e q (λ _ q. give-more _ q)))))))
  where
    give-last : (v q : ℕ) → (give (Last v) >>= turn w limit n) s e q ≡ give v s e q
    give-last v q = give-bind (Last v) (turn w limit n) s e q ∙ refl

    give-more : (v q : ℕ) → (give (More v) >>= turn w limit n) s e q ≡ groups_from w limit n v s e q
    give-more v q = give-bind (More v) (turn w limit n) s e q

module _ (w limit left start : ℕ) (s : List ℕ) (e p : ℕ) (pos : 0 < left) where
  split : groups_from w limit left start s e p ≡ (one_group w limit (left - 1) start >>= turn w limit (left - 1)) s e p
  split = at left pos
    where
      at : (m : ℕ) → 0 < m → groups_from w limit m start s e p ≡ (one_group w limit (m - 1) start >>= turn w limit (m - 1)) s e p
      at zero h = absurd (omega arith)
      at (suc m) h = let z : suc m - 1 ≡ m = omega arith in rw z (groups-turn w limit m start s e p)

  -- the group is the last
  pub at_last : {v : ℕ} {c : BitCursor} → field_answer e (one_group w limit (left - 1) start s e p) ≡ Ok (Last v, c)
      → Ok (v, c) ≡ field_answer e (groups_from w limit left start s e p)
  unfolding turn field_answer give
  at_last h =
      let d = field_found (one_group w limit (left - 1) start s e p) h in
      rw (split, bind-go (one_group w limit (left - 1) start) (turn w limit (left - 1)) d.is refl, ← d.end)

  -- it is refused
  pub at-refused : {f : FieldError} → field_answer e (one_group w limit (left - 1) start s e p) ≡ Err f
      → field_answer e (groups_from w limit left start s e p) ≡ Err f
  unfolding field_answer
  at-refused h =
      let d = field-ended (one_group w limit (left - 1) start s e p) h in
      rw (split, bind-no (one_group w limit (left - 1) start) (turn w limit (left - 1)) d.is, ← d.end)

  -- another one follows
  pub at_more : {v : ℕ} {c : BitCursor} → field_answer e (one_group w limit (left - 1) start s e p) ≡ Ok (More v, c)
      → field_answer c.end (groups_from w limit (left - 1) v s c.end c.position) ≡ field_answer e (groups_from w limit left start s e p)
  unfolding turn
  at_more h =
      let d = field_found (one_group w limit (left - 1) start s e p) h in
      rw (split, bind-go (one_group w limit (left - 1) start) (turn w limit (left - 1)) d.is refl, d.end)

-- ---- what the next start's answer says

pub start-found : (v : ℕ) {x : ℕ} → start_answer v ≡ Some x → (v ≡ x) × (ltb v (2 ^ 64) ≡ true)
unfolding start_answer
start-found v {x} h = go (ltb v (2 ^ 64)) refl h
  where
    go : (t : Bool) → ltb v (2 ^ 64) ≡ t → (if t then Some v else None) ≡ Some x → (v ≡ x) × (ltb v (2 ^ 64) ≡ true)
    go true a f = (cc, a)
    go false a f = absurd (let z : ◌≡◌ {A = ℕ} 0 1 = cc in omega arith)

pub start_none : (v : ℕ) → start_answer v ≡ None → ltb v (2 ^ 64) ≡ false
unfolding start_answer
start_none v h = go (ltb v (2 ^ 64)) refl h
  where
    go : (t : Bool) → ltb v (2 ^ 64) ≡ t → (if t then Some v else None) ≡ None → ltb v (2 ^ 64) ≡ false
    go true a f = absurd (let z : ◌≡◌ {A = ℕ} 0 1 = cc in omega arith)
    go false a f = a

-- another group follows only where one is left
pub more_left : (w limit n start : ℕ) (s : List ℕ) (e p : ℕ) {v : ℕ} {c : BitCursor} → field_answer e (one_group w limit n start s e p) ≡ Ok (More v, c) → 0 < n
unfolding one_group
more_left w limit n start s e p {v} h =
    let d = field_found (one_group w limit n start s e p) h in
    taken (bind_inv d.is) λ value q₁ a t₁.
    asked (ask-inv t₁) λ y t₂.
    taken (bind_inv t₂) λ flag q₂ b t₃.
    chosen (choose-inv t₃)
    (λ z t₄. let g = give-inv t₄ in absurd (let z : ◌≡◌ {A = ℕ} 0 1 = cc g.what in omega arith))
    λ z t₄. asked (ask-inv t₄) λ l t₅. ltb→lt 0 n l
