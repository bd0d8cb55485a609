-- One turn of a loop over the payloads, and what it says of all of them. Assumes nothing.
use mathlib.Core.Path.{◌≡◌, sym, ap, ◌∙◌}
use mathlib.Core.List.{List, [], ◌∷◌}
use Prim.Native.Nat.{ℕ, suc, ◌-◌, ◌≤◌, ◌<◌}
use native.Mathlib.Omega.{arith}
use Rattle.std.specs.Prelude.{Some, None, Ok, Err}
use Rattle.openjoc_bitio.specs.Cursor.{bits_remaining}
use Rattle.openjoc_bitio.specs.declared.BitCursor.{BitCursor}
use Rattle.openjoc_bitio.proofs.Results.{some-same, none-same, some-is-not-none, none-is-not-some, err-is-not-ok}
use Rattle.emdf_format.specs.Reader.{Read, got, refused, Reader, ◌>>=◌, give}
use Rattle.emdf_format.specs.Reading.{Found as Payload, payloads}
use Rattle.emdf_format.specs.declared.EmdfError.{EmdfError}
use Rattle.emdf_format.specs.declared.PayloadRecord.{PayloadRecord}
use Rattle.emdf_format.proofs.Standing.{bit_limit, remaining-limit, taken, chosen, bind_inv, bind_assoc, bind-same, choose-inv, choose-bind, choose-same, give-inv, give-bind, stands-in}
use Rattle.emdf_format.proofs.Payloads.{at-inv, id-law}
use Rattle.emdf_format.proofs.Lengths.{length-extended}
use Rattle.emdf_format.proofs.Loops.{payloads-enough, after-moves, id-moves}
use Rattle.emdf_payloads.specs.Payloads.{NextPayload, ended, found, next_payload, next_step, next_answer}
use Rattle.emdf_fields.proofs.Answers.{Found}

-- ---- what a turn's answer says

pub ended_is : {e : ℕ} (y : Read NextPayload) {c : BitCursor} → next_answer e y ≡ Ok (None, c) → Found y e ended c
unfolding next_answer next_step
ended_is (got ended q) h = let b = none-same h in record { is = rw (← b); end = rw (← b) }
ended_is (got (found x) q) h = absurd (some-is-not-none h)
ended_is (refused why q) h = absurd (err-is-not-ok h)

pub found-is : (e : ℕ) (y : Read NextPayload) {r : PayloadRecord} {c : BitCursor} → next_answer e y ≡ Ok (Some r, c) → (x : Payload) × (x.record_of ≡ r) × Found y e (found x) c
unfolding next_answer next_step
found-is e (got ended q) h = absurd (none-is-not-some h)
found-is e (got (found x) q) h =
    let p = some-same h in
    (x, p.0, record { is = rw (← p.1); end = rw (← p.1) })
found-is e (refused why q) h = absurd (err-is-not-ok h)

pub refused-is : (e : ℕ) (y : Read NextPayload) {why : EmdfError} → next_answer e y ≡ Err why → (q : ℕ) × (y ≡ refused why q)
unfolding next_answer next_step
refused-is e (got ended q) h = absurd (let w : ◌≡◌ {A = ℕ} 0 1 = cc in omega arith)
refused-is e (got (found x) q) h = absurd (let w : ◌≡◌ {A = ℕ} 0 1 = cc in omega arith)
refused-is e (refused why' q) {why} h = let a : why' ≡ why = cc in (q, rw a)

-- a payload takes bits, and they are there
pub moves : (s : List ℕ) (e p q : ℕ) (x : Payload) → next_payload s e p ≡ got (found x) q → (p < q) × (p < bit_limit s e)
unfolding next_payload
moves s e p q x h =
    taken (bind_inv h) λ p₀ q₀ h₀ t₀.
    let z = at-inv h₀ in
    taken (bind_inv t₀) λ id p₁ h₁ t₁.
    chosen (choose-inv t₁)
    (λ y t₂. let d = give-inv t₂ in absurd (let w : ◌≡◌ {A = ℕ} 0 1 = cc d.what in omega arith))
    λ y t₂.
    taken (bind_inv t₂) λ x' p₂ h₂ t₃.
    let d = give-inv t₃ in
    let a : q₀ < p₁ = id-moves s e h₁ in
    let b : p₁ < p₂ = after-moves p₀ id s e h₂ in
    let l : p₁ ≤ bit_limit s e = stands-in (id-law.sound h₁).0 (omega (arith, length-extended 5 id)) in
    (omega (arith, z.to, d.to), omega (arith, z.to))

-- ---- the list is a turn, and then what it says

unfoldable pub rest : ℕ → NextPayload → Reader (List Payload)
rest n ended = give []
rest n (found x) = payloads n >>= λ xs. give (x ∷ xs)

pub payloads-turn : (n : ℕ) (s : List ℕ) (e p : ℕ) → payloads (suc n) s e p ≡ (next_payload >>= rest n) s e p
unfolding payloads next_payload rest
payloads-turn n s e p =
    sym (bind_assoc _ _ (rest n) s e p
    ∙ bind-same _ _ _ s e p (λ p₀ q.
    bind_assoc _ _ (rest n) s e q
    ∙ bind-same _ _ _ s e q (λ id q.
    choose-bind _ _ _ (rest n) s e q
    ∙ choose-same _ _ _ _ _ s e q (give-bind ended (rest n) s e q) (
    bind_assoc _ _ (rest n) s e q
    ∙ bind-same _ _ _ s e q (λ x q. give-bind (found x) (rest n) s e q)))))

module _ (s : List ℕ) (at : BitCursor) where
  abbrev e : ℕ
  e = at.end

  abbrev p : ℕ
  p = at.position

  pub enough : payloads (bits_remaining s at) s e p ≡ (next_payload >>= rest (bits_remaining s at)) s e p
  enough =
      let l : bit_limit s e - p ≤ bits_remaining s at = omega (arith, remaining-limit s e p) in
      payloads-enough (bits_remaining s at) (suc (bits_remaining s at)) s e p l (omega arith) ∙ payloads-turn (bits_remaining s at) s e p

  -- past a payload there are fewer bits
  pub record Onward (c : BitCursor) : Type 0 where
    pub moves : p < c.position
    pub less : bits_remaining s c < bits_remaining s at

  pub at-payload : {r : PayloadRecord} {c : BitCursor} → next_answer e (next_payload s e p) ≡ Ok (Some r, c) → Onward c
  at-payload {r} {c} h =
      let (x, i, d) = found-is e (next_payload s e p) h in
      let m = moves s e p c.position x d.is in
      let a : bits_remaining s at ≡ bit_limit s e - p = remaining-limit s e p in
      let b : bits_remaining s c ≡ bit_limit s c.end - c.position = remaining-limit s c.end c.position in
      let b' : bits_remaining s c ≡ bit_limit s e - c.position = b ∙ ap (λ (x : ℕ). bit_limit s x - c.position) d.end in
      record { moves = m.0; less = omega (arith, m) }
