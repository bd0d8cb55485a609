-- How a reading's definition goes on field by field, and ends, as code that takes answers apart follows it: r is the answer that is
-- returned, and g what the answer is by the definition. Assumes nothing.
use mathlib.Core.Path.{◌≡◌, refl, sym, ap, ◌∙◌}
use mathlib.Core.Bool.{Bool, true, false, not}
use mathlib.Core.List.{List}
use Prim.Native.Nat.{ℕ, ◌+◌, ◌-◌, ◌*◌, ◌/◌, ◌<◌}
use native.Mathlib.Omega.{arith}
use native.Mathlib.Nat.{mul-div_cancel_left}
use lib.ListN.{length}
use lib.Dec.{T}
use Rattle.openjoc_bitio.specs.declared.BitCursor.{BitCursor}
use Rattle.emdf_format.specs.Syntax.{groups}
use Rattle.emdf_format.specs.Reader.{Read, got, refused, Reader, ◌>>=◌, give, ask, choose, position, variable_bits}
use Rattle.emdf_format.specs.declared.EmdfError.{EmdfError}
use Rattle.emdf_format.proofs.Payloads.{at-go}
use Rattle.emdf_format.proofs.Standing.{bind-go, bind-no, ask-go, ask-refuses, choose-this, choose-that, bind_assoc, choose-bind, give-bind}
use Rattle.emdf_format.proofs.Groups.{field-groups}
use Rattle.emdf_fields.specs.Fields.{field_answer, variable_answer, answer, count_answer}
use Rattle.emdf_fields.specs.declared.FieldError.{FieldError}
use Rattle.openjoc_bitio.proofs.Results.{both-same, err-same, ok-is-not-err, err-is-not-ok}
use Rattle.std.specs.Prelude.{Result, Ok, Err}

-- ---- what an answer says of the reading

-- found, with the cursor c past it
pub record Found {A : Type 0} (x : Read A) (e : ℕ) (v : A) (c : BitCursor) : Type 0 where
  pub is : x ≡ got v c.position
  pub end : c.end ≡ e

pub record Ended {A : Type 0} (x : Read A) (e : ℕ) (why : EmdfError) (c : BitCursor) : Type 0 where
  pub is : x ≡ refused why c.position
  pub end : c.end ≡ e

module _ {A : Type 0} {e : ℕ} where
  pub field_found : (x : Read A) {v : A} {c : BitCursor} → field_answer e x ≡ Ok (v, c) → Found x e v c
  unfolding field_answer
  field_found (got w q) {v} {c} h =
      let p = both-same h in
      record { is = rw (← p.1, p.0); end = rw (← p.1) }
  field_found (refused why q) h = absurd (err-is-not-ok h)

  pub field-ended : (x : Read A) {f : FieldError} → field_answer e x ≡ Err f → Ended x e f.why f.cursor
  unfolding field_answer
  field-ended (got w q) h = absurd (ok-is-not-err h)
  field-ended (refused why q) h = let p = err-same h in record { is = rw (← p); end = rw (← p) }

  pub found : (x : Read A) {v : A} {c : BitCursor} → answer e x ≡ Ok (v, c) → Found x e v c
  unfolding answer
  found (got w q) {v} {c} h =
      let p = both-same h in
      record { is = rw (← p.1, p.0); end = rw (← p.1) }
  found (refused why q) h = absurd (err-is-not-ok h)

pub ended : {A : Type 0} (e : ℕ) (x : Read A) {why : EmdfError} → answer e x ≡ Err why → (q : ℕ) × (x ≡ refused why q)
unfolding answer
ended e (got w q) h = absurd (ok-is-not-err h)
ended e (refused why' q) h = (q, rw (err-same h))

-- a variable field that is found takes so many bits, and one that is refused is refused
pub variable-found : (w lim : ℕ) (s : List ℕ) (c : BitCursor) {v : ℕ} {next : BitCursor} → field_answer c.end (variable_bits w lim s c.end c.position) ≡ Ok (v, next)
    → (next.position ≡ c.position + (w + 1) * groups w v) × (Ok (v, groups w v, next) ≡ variable_answer w c.end (variable_bits w lim s c.end c.position))
unfolding variable_answer
variable-found w lim s c {v} {next} h =
    let d = field_found (variable_bits w lim s c.end c.position) h in
    (field-groups w lim s c.end c.position d.is, rw (d.is, ← d.end))

pub variable-ended : (w lim : ℕ) (s : List ℕ) (c : BitCursor) {f : FieldError} → field_answer c.end (variable_bits w lim s c.end c.position) ≡ Err f
    → variable_answer w c.end (variable_bits w lim s c.end c.position) ≡ Err f
unfolding variable_answer
variable-ended w lim s c h = let d = field-ended (variable_bits w lim s c.end c.position) h in rw (d.is, ← d.end)

-- so many groups of k bits are so many
pub groups-over : (p q k g : ℕ) → 0 < k → q ≡ p + k * g → (q - p) / k ≡ g
groups-over p q k g h e = let z : q - p ≡ k * g = omega (arith, e) in rw z (mul-div_cancel_left g h)

pub count-found : {A : Type 0} (e : ℕ) (x : Read (List A)) {n : ℕ} {c : BitCursor} → count_answer e x ≡ Ok (n, c) → (xs : List A) × (length xs ≡ n) × Found x e xs c
unfolding count_answer
count-found e (got xs q) {n} {c} h =
    let p = both-same h in
    (xs, p.0, record { is = rw (← p.1); end = rw (← p.1) })
count-found e (refused why q) h = absurd (err-is-not-ok h)

pub count-ended : {A : Type 0} (e : ℕ) (x : Read (List A)) {why : EmdfError} → count_answer e x ≡ Err why → (q : ℕ) × (x ≡ refused why q)
unfolding count_answer
count-ended e (got xs q) h = absurd (ok-is-not-err h)
count-ended e (refused why' q) h = (q, rw (err-same h))

-- a test that the code asks the other way round
pub not-not : (t : Bool) → not t ≡ false → T t
not-not true h = tt
not-not false h = absurd (let z : ◌≡◌ {A = ℕ} 0 1 = cc in omega arith)

-- ---- the next step of the definition

module _ {B Z : Type 0} {r : Z} (g : ℕ → Read B → Z) where
  -- a field that is found
  pub via : {A : Type 0} (m : Reader A) (k : A → Reader B) (s : List ℕ) (e p : ℕ) {v : A} {c : BitCursor}
      → Found (m s e p) e v c → r ≡ g c.end (k v s c.end c.position) → r ≡ g e ((m >>= k) s e p)
  via m k s e p h z = z ∙ rw h.end (ap (g e) (sym (bind-go m k h.is refl)))

  -- one that is refused
  pub ends : {A : Type 0} (m : Reader A) (k : A → Reader B) (s : List ℕ) (e p : ℕ) {q : ℕ} {why : EmdfError}
      → m s e p ≡ refused why q → r ≡ g e (refused why q) → r ≡ g e ((m >>= k) s e p)
  ends m k s e p h z = z ∙ ap (g e) (sym (bind-no m k h))

  -- a question
  pub yes : (t : Bool) (why : EmdfError) (k : Unit {0} → Reader B) (s : List ℕ) (e p : ℕ) → T t → r ≡ g e (k tt s e p) → r ≡ g e ((ask t why >>= k) s e p)
  yes t why k s e p h z = z ∙ ap (g e) (sym (ask-go t why k h refl))

  pub no_more : (t : Bool) (why : EmdfError) (k : Unit {0} → Reader B) (s : List ℕ) (e p : ℕ) → T (not t) → r ≡ g e (refused why p) → r ≡ g e ((ask t why >>= k) s e p)
  no_more t why k s e p h z = z ∙ ap (g e) (sym (ask-refuses t why k s e p h))

  -- a branch
  pub this : (t : Bool) (x y : Reader B) (s : List ℕ) (e p : ℕ) → T t → r ≡ g e (x s e p) → r ≡ g e (choose t x y s e p)
  this t x y s e p h z = z ∙ ap (g e) (sym (choose-this t x y h refl))

  pub that : (t : Bool) (x y : Reader B) (s : List ℕ) (e p : ℕ) → T (not t) → r ≡ g e (y s e p) → r ≡ g e (choose t x y s e p)
  that t x y s e p h z = z ∙ ap (g e) (sym (choose-that t x y h refl))

  -- a field within a field, and a branch within a field
  pub regroup : {A C : Type 0} (m : Reader A) (k : A → Reader C) (f : C → Reader B) (s : List ℕ) (e p : ℕ)
      → r ≡ g e ((m >>= λ a. k a >>= f) s e p) → r ≡ g e (((m >>= k) >>= f) s e p)
  regroup m k f s e p z = z ∙ ap (g e) (sym (bind_assoc m k f s e p))

  pub spread : {A : Type 0} (t : Bool) (x y : Reader A) (f : A → Reader B) (s : List ℕ) (e p : ℕ)
      → r ≡ g e (choose t (x >>= f) (y >>= f) s e p) → r ≡ g e ((choose t x y >>= f) s e p)
  spread t x y f s e p z = z ∙ ap (g e) (sym (choose-bind t x y f s e p))

  -- the position
  pub here : (k : ℕ → Reader B) (s : List ℕ) (e p : ℕ) → r ≡ g e (k p s e p) → r ≡ g e ((position >>= k) s e p)
  here k s e p z = z ∙ ap (g e) (sym (bind-go position k (at-go s e p) refl))

  pub gave : {A : Type 0} (a : A) (f : A → Reader B) (s : List ℕ) (e p : ℕ) → r ≡ g e (f a s e p) → r ≡ g e ((give a >>= f) s e p)
  gave a f s e p z = z ∙ ap (g e) (sym (give-bind a f s e p))

-- ---- the refusal of a field is the answer

module _ {A B : Type 0} (m : Reader A) (k : A → Reader B) (s : List ℕ) (e p : ℕ) where
  -- as it is
  pub field-ends : {a : Result (A × BitCursor) FieldError} {r : Result (B × BitCursor) FieldError} {f : FieldError}
      → a ≡ field_answer e (m s e p) → a ≡ Err f → r ≡ Err f → r ≡ field_answer e ((m >>= k) s e p)
  unfolding field_answer
  field-ends h t z =
      let d = field-ended (m s e p) (sym h ∙ t) in
      ends field_answer m k s e p d.is (z ∙ rw (← d.end))

-- the answer that g gives a refusal, wherever it stands
module _ {A B Z : Type 0} (g : ℕ → Read B → Result Z EmdfError) (refuses : (e q : ℕ) (why : EmdfError) → Err why ≡ g e (refused why q)) (m : Reader A) (k : A → Reader B) (s : List ℕ) (e p : ℕ) where
  pub by_field : {a : Result (A × BitCursor) FieldError} {r : Result Z EmdfError} {f : FieldError}
      → a ≡ field_answer e (m s e p) → a ≡ Err f → r ≡ Err f.why → r ≡ g e ((m >>= k) s e p)
  by_field {f = f} i t z =
      let d = field-ended (m s e p) (sym i ∙ t) in
      ends g m k s e p d.is (z ∙ refuses e f.cursor.position f.why)

  pub by_answer : {a : Result (A × BitCursor) EmdfError} {r : Result Z EmdfError} {why : EmdfError}
      → a ≡ answer e (m s e p) → a ≡ Err why → r ≡ Err why → r ≡ g e ((m >>= k) s e p)
  by_answer {why = why} i t z =
      let d = ended e (m s e p) (sym i ∙ t) in
      ends g m k s e p d.1 (z ∙ refuses e d.0 why)

module _ {A B Z : Type 0} (g : ℕ → Read B → Result Z EmdfError) (refuses : (e q : ℕ) (why : EmdfError) → Err why ≡ g e (refused why q)) (m : Reader (List A)) (k : List A → Reader B) (s : List ℕ) (e p : ℕ) where
  pub by_count : {a : Result (ℕ × BitCursor) EmdfError} {r : Result Z EmdfError} {why : EmdfError}
      → a ≡ count_answer e (m s e p) → a ≡ Err why → r ≡ Err why → r ≡ g e ((m >>= k) s e p)
  by_count {why = why} i t z =
      let d = count-ended e (m s e p) (sym i ∙ t) in
      ends g m k s e p d.1 (z ∙ refuses e d.0 why)

pub answer-refuses : {A : Type 0} (e q : ℕ) (why : EmdfError) → Err why ≡ answer {A = A} e (refused why q)
unfolding answer
answer-refuses e q why = refl
