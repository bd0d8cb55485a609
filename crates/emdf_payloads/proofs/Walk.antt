-- The payloads of a list that is read, one after another, as a caller of next_payload meets them. Assumes nothing.
use mathlib.Core.Path.{◌≡◌, refl, sym, ap, ◌∙◌}
use mathlib.Core.List.{List, [], ◌∷◌}
use Prim.Native.Nat.{ℕ, zero, suc, ◌<◌}
use native.Mathlib.Omega.{arith}
use Rattle.std.specs.Prelude.{Option, Some, None, Result, Ok, Err}
use Rattle.openjoc_bitio.specs.declared.BitCursor.{BitCursor}
use Rattle.openjoc_bitio.proofs.Results.{some-same, none-same, some-is-not-none, none-is-not-some, err-is-not-ok}
use Rattle.emdf_format.specs.Reader.{got, cursor_at}
use Rattle.emdf_format.specs.declared.EmdfError.{EmdfError}
use Rattle.emdf_format.specs.declared.PayloadRecord.{PayloadRecord}
use Rattle.emdf_format.specs.Reading.{Found, payloads}
use Rattle.emdf_format.proofs.Standing.{taken, bind_inv, ask-inv, asked, give-inv}
use Rattle.emdf_payloads.specs.Payloads.{NextPayload, ended, found, next_payload, next_step, next_answer, skip_of, Listed, step_at}
use Rattle.emdf_payloads.proofs.Turns.{rest, payloads-turn, moves}

-- the payload x, and after it the payloads xs, from the cursor next on
pub record Stepped (s : List ℕ) (c : BitCursor) (x : Found) (xs : List Found) : Type 0 where
  pub next : BitCursor
  pub is : next_answer c.end (next_payload s c.end c.position) ≡ Ok (Some x.record_of, next)
  pub end : next.end ≡ c.end
  pub listed : Listed s next xs
  pub moves : c.position < next.position

module _ (s : List ℕ) (c : BitCursor) where
  abbrev e : ℕ
  e = c.end

  abbrev p : ℕ
  p = c.position

  pub listed-step : (x : Found) (xs : List Found) → Listed s c (x ∷ xs) → Stepped s c x xs
  unfolding payloads rest next_answer next_step
  listed-step x xs l = go l.bound l.is
    where
      go : (n : ℕ) → payloads n s e p ≡ got (x ∷ xs) l.to → Stepped s c x xs
      go zero h = asked (ask-inv h) λ f t. absurd f
      go (suc n) h = taken (bind_inv (sym (payloads-turn n s e p) ∙ h)) by_turn
        where
          by_turn : (t : NextPayload) (q : ℕ) → next_payload s e p ≡ got t q → rest n t s e q ≡ got (x ∷ xs) l.to → Stepped s c x xs
          by_turn ended q h₁ t₁ = absurd (let w : ◌≡◌ {A = ℕ} 0 1 = cc (give-inv t₁).what in omega arith)
          by_turn (found y) q h₁ t₁ =
              taken (bind_inv t₁) λ ys q₂ h₂ t₂.
              let d = give-inv t₂ in
              let a : y ≡ x = cc d.what in
              let b : ys ≡ xs = cc d.what in
              record { next = cursor_at e q; is = rw (h₁, a); end = refl; listed = record { bound = n; to = q₂; is = rw b at h₂ }; moves = (moves s e p q y h₁).0 }

  pub listed-end : Listed s c [] → (next : BitCursor) × (next_answer e (next_payload s e p) ≡ Ok (None, next))
  unfolding payloads rest next_answer next_step
  listed-end l = go l.bound l.is
    where
      go : (n : ℕ) → payloads n s e p ≡ got [] l.to → (next : BitCursor) × (next_answer e (next_payload s e p) ≡ Ok (None, next))
      go zero h = asked (ask-inv h) λ f t. absurd f
      go (suc n) h = taken (bind_inv (sym (payloads-turn n s e p) ∙ h)) by_turn
        where
          by_turn : (t : NextPayload) (q : ℕ) → next_payload s e p ≡ got t q → rest n t s e q ≡ got [] l.to → (next : BitCursor) × (next_answer e (next_payload s e p) ≡ Ok (None, next))
          by_turn ended q h₁ t₁ = (cursor_at e q, rw h₁)
          by_turn (found y) q h₁ t₁ =
              taken (bind_inv t₁) λ ys q₂ h₂ t₂.
              absurd (let w : ◌≡◌ {A = ℕ} 0 1 = cc (give-inv t₂).what in omega arith)

-- ---- what a step says of the payloads

-- a step that finds a payload finds the first of them
pub record First (s : List ℕ) (c next : BitCursor) (r : PayloadRecord) (xs : List Found) : Type 0 where
  pub first : Found
  pub others : List Found
  pub is : xs ≡ first ∷ others
  pub record_is : first.record_of ≡ r
  pub end : next.end ≡ c.end
  pub listed : Listed s next others

module _ (s : List ℕ) (c : BitCursor) where
  pub step-found : {r : PayloadRecord} {next : BitCursor} (xs : List Found) → Listed s c xs → step_at s c ≡ Ok (Some r, next) → First s c next r xs
  step-found [] l h = let (d, e) = listed-end s c l in absurd (none-is-not-some (sym e ∙ h))
  step-found (x ∷ xs) l h =
      let d = listed-step s c x xs l in
      let p = some-same (sym d.is ∙ h) in
      record { first = x; others = xs; is = refl; record_is = p.0; end = rw (← p.1) d.end; listed = rw p.1 at d.listed }

  pub step-ended : {next : BitCursor} (xs : List Found) → Listed s c xs → step_at s c ≡ Ok (None, next) → xs ≡ []
  step-ended [] l h = refl
  step-ended (x ∷ xs) l h = absurd (some-is-not-none (sym (listed-step s c x xs l).is ∙ h))

  -- no payload of a list that is read is refused
  pub step-refused : {why : EmdfError} (xs : List Found) → Listed s c xs → step_at s c ≡ Err why → ⊥
  step-refused [] l h = let (d, e) = listed-end s c l in let w : ◌≡◌ {A = ℕ} 0 1 = cc in omega arith
  step-refused (x ∷ xs) l h = let d = listed-step s c x xs l in let w : ◌≡◌ {A = ℕ} 0 1 = cc d.is in omega arith

-- ---- what skipping says of the step

pub skip-past : {id : ℕ} {next : BitCursor} (x : Result (Option PayloadRecord × BitCursor) EmdfError) → skip_of x ≡ Ok (Some id, next) → (r : PayloadRecord) × (x ≡ Ok (Some r, next)) × (r.id ≡ id)
unfolding skip_of
skip-past (Ok (Some r, c)) h = let p = some-same h in (r, ap {B = Result (Option PayloadRecord × BitCursor) EmdfError} (λ (k : BitCursor). Ok (Some r, k)) p.1, p.0)
skip-past (Ok (None, c)) h = absurd (none-is-not-some h)
skip-past (Err why) h = absurd (err-is-not-ok h)

pub skip-end : {next : BitCursor} (x : Result (Option PayloadRecord × BitCursor) EmdfError) → skip_of x ≡ Ok (None, next) → x ≡ Ok (None, next)
unfolding skip_of
skip-end (Ok (Some r, c)) h = absurd (some-is-not-none h)
skip-end (Ok (None, c)) h = ap {B = Result (Option PayloadRecord × BitCursor) EmdfError} (λ (k : BitCursor). Ok (None, k)) (none-same h)
skip-end (Err why) h = absurd (err-is-not-ok h)

pub skip-refused : {why : EmdfError} (x : Result (Option PayloadRecord × BitCursor) EmdfError) → skip_of x ≡ Err why → x ≡ Err why
unfolding skip_of
skip-refused (Ok (Some r, c)) h = absurd (let w : ◌≡◌ {A = ℕ} 0 1 = cc in omega arith)
skip-refused (Ok (None, c)) h = absurd (let w : ◌≡◌ {A = ℕ} 0 1 = cc in omega arith)
skip-refused (Err why) h = cc
