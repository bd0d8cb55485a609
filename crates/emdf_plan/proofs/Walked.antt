-- The cursor past payloads of a carrier that is read, and what stands there. Assumes nothing.
use mathlib.Core.Path.{◌≡◌, refl, sym, ap, ◌∙◌}
use mathlib.Core.List.{List, [], ◌∷◌}
use Prim.Native.Nat.{ℕ, zero, suc, ◌+◌, ◌-◌, ◌≤◌}
use native.Mathlib.Omega.{arith}
use lib.ListN.{length, drop, get_elem?}
use Rattle.std.specs.Prelude.{Some, Ok}
use Rattle.openjoc_bitio.specs.declared.BitCursor.{BitCursor}
use Rattle.openjoc_bitio.proofs.Results.{some-same, none-is-not-some, err-is-not-ok}
use Rattle.emdf_format.specs.declared.PayloadRecord.{PayloadRecord}
use Rattle.emdf_format.specs.Contents.{needed_payload, needed_payloads}
use Rattle.emdf_format.specs.Reader.{Read, got, refused}
use Rattle.emdf_format.specs.Reading.{Found, payload_after, payload_of, payloads_of}
use Rattle.emdf_format.proofs.Standing.{taken, chosen, bind_inv, choose-inv, give-inv, stands-to}
use Rattle.emdf_format.proofs.Payloads.{Traced, more, spans-stand, at-inv, payloads-sound}
use Rattle.emdf_format.proofs.Lengths.{length-payload}
use Rattle.emdf_format.proofs.Spans.{body_end}
use Rattle.emdf_payloads.specs.Payloads.{NextPayload, ended, found, next_payload, next_step, next_answer, skip_of, Listed, step_at}
use Rattle.emdf_payloads.proofs.Walk.{listed-step, listed-end}
use Rattle.emdf_plan.specs.Plan.{trace_at}
use Rattle.emdf_plan.specs.Walking.{past_step, past_payloads, placed_at}

-- ---- a step over a payload

after-end : (p₀ id : ℕ) (s : List ℕ) (e p : ℕ) {q : ℕ} {x : Found} → payload_after p₀ id s e p ≡ got x q → body_end x ≡ q
unfolding payload_after
after-end p₀ id s e p h =
    taken (bind_inv h) λ a p₁ h₁ t₁.
    taken (bind_inv t₁) λ config p₂ h₂ t₂.
    taken (bind_inv t₂) λ b p₃ h₃ t₃.
    taken (bind_inv t₃) λ size p₄ h₄ t₄.
    taken (bind_inv t₄) λ c p₅ h₅ t₅.
    taken (bind_inv t₅) λ body p₆ h₆ t₆.
    taken (bind_inv t₆) λ d p₇ h₇ t₇.
    let g = give-inv t₇ in
    let z = at-inv h₇ in
    ap body_end (sym g.what) ∙ sym z.is ∙ z.to ∙ g.to

-- the cursor past a payload is where its body ends
step_end : (s : List ℕ) (c : BitCursor) {r : PayloadRecord} {next : BitCursor} → step_at s c ≡ Ok (Some r, next) → r.trace.payload_body_end_bit.0 ≡ next.position
unfolding next_payload next_answer next_step
step_end s c {r} {next} h = go (next_payload s c.end c.position) refl h
  where
    go : (y : Read NextPayload) → next_payload s c.end c.position ≡ y → next_answer c.end y ≡ Ok (Some r, next) → r.trace.payload_body_end_bit.0 ≡ next.position
    go (got ended q) i h = absurd (none-is-not-some h)
    go (refused why q) i h = absurd (err-is-not-ok h)
    go (got (found x) q) i h =
        let (a, b) = some-same h in
        taken (bind_inv i) λ p₀ q₀ h₀ t₀.
        taken (bind_inv t₀) λ id p₁ h₁ t₁.
        chosen (choose-inv t₁)
        (λ y t₂. absurd (let w : ◌≡◌ {A = ℕ} 0 1 = cc (give-inv t₂).what in omega arith))
        λ y t₂.
        taken (bind_inv t₂) λ x' p₂ h₂ t₃.
        let g = give-inv t₃ in
        let f : x' ≡ x = cc g.what in
        rw (← a, ← b, ← f, ← g.to) (after-end p₀ id s c.end p₁ h₂)

traced-end : {s : List ℕ} {e p q : ℕ} {x : Found} {xs : List Found} → Traced s e p q (x ∷ xs) → p + needed_payload (payload_of x) ≡ body_end x
traced-end {x = x} (more {q = q} a t) =
    let z : body_end x ≡ q = ap (λ u. u.payload_body_end_bit.0) a.trace in
    omega (arith, z, stands-to (spans-stand a), length-payload (payload_of x))

-- ---- past payloads

-- from the cursor c on there are the payloads xs, and then the end mark at the bit mark
pub record Ahead (s : List ℕ) (mark : ℕ) (c : BitCursor) (xs : List Found) : Type 0 where
  pub listed : Listed s c xs
  pub marked : c.position + needed_payloads (payloads_of xs) ≡ mark

module _ (s : List ℕ) (mark : ℕ) where
  past_one : (c : BitCursor) (x : Found) (xs : List Found) → Ahead s mark c (x ∷ xs) → Ahead s mark (past_step (skip_of (step_at s c)) c) xs
  unfolding skip_of payloads_of needed_payloads
  past_one c x xs a =
      let l = a.listed in
      let d = listed-step s c x xs l in
      rw d.is (record { listed = d.listed; marked = omega (arith, a.marked, step_end s c d.is, traced-end (payloads-sound l.bound l.is).traced) })

  pub past-many : (n : ℕ) (c : BitCursor) (xs : List Found) → n ≤ length xs → Ahead s mark c xs → Ahead s mark (past_payloads s c n) (drop n xs)
  unfolding past_payloads
  past-many zero c xs h a = a
  past-many (suc n) c [] h a = absurd (omega arith)
  past-many (suc n) c (x ∷ xs) h a = past-many n _ xs (omega arith) (past_one c x xs a)

  -- past all of them is the end mark
  past_all : (c : BitCursor) (xs : List Found) → Ahead s mark c xs → (past_payloads s c (length xs)).position ≡ mark
  unfolding past_payloads payloads_of needed_payloads
  past_all c [] a = omega (arith, a.marked)
  past_all c (x ∷ xs) a = past_all (past_step (skip_of (step_at s c)) c) xs (past_one c x xs a)

  -- past the first, where there is one, and then past the others
  pub past-rest : (c : BitCursor) (xs : List Found) → Ahead s mark c xs → (past_payloads s (placed_at (step_at s c) c).next (length xs - 1)).position ≡ mark
  unfolding past_payloads skip_of payloads_of needed_payloads
  past-rest c [] a =
      let (n, e) = listed-end s c a.listed in
      rw e (omega (arith, a.marked))
  past-rest c (x ∷ xs) a =
      let e = (listed-step s c x xs a.listed).is in
      let z : suc (length xs) - 1 ≡ length xs = omega arith in
      rw (e, z) (rw e at (past_all _ xs (past_one c x xs a)))

  -- the spans of the payload at place k; at the end of the list, of nothing
  pub trace-past : (k : ℕ) (c : BitCursor) (xs : List Found) → k ≤ length xs → Ahead s mark c xs
      → (placed_at (step_at s (past_payloads s c k)) (past_payloads s c k)).trace ≡ trace_at (get_elem? xs k) mark
  unfolding past_payloads trace_at payloads_of needed_payloads
  trace-past zero c [] h a =
      let (n, e) = listed-end s c a.listed in
      let z : c.position ≡ mark = omega (arith, a.marked) in
      rw (e, z)
  trace-past zero c (x ∷ xs) h a = rw (listed-step s c x xs a.listed).is
  trace-past (suc k) c [] h a = absurd (omega arith)
  trace-past (suc k) c (x ∷ xs) h a = trace-past k _ xs (omega arith) (past_one c x xs a)
