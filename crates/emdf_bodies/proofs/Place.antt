-- The payload at a place, as a loop over next_payload comes to it. Assumes nothing.
use mathlib.Core.Path.{◌≡◌, sym, ap, ◌∙◌}
use mathlib.Core.List.{List, ◌∷◌}
use Prim.Native.Nat.{ℕ, suc, ◌+◌, ◌-◌, ◌*◌, ◌/◌, ◌≤◌, ◌<◌}
use native.Mathlib.Omega.{arith}
use lib.ListN.{length, get_elem?}
use Rattle.std.specs.Prelude.{Option, Some, None, Result, Ok, Err}
use Rattle.openjoc_bitio.specs.declared.ByteCount.{ByteCount}
use Rattle.openjoc_bitio.specs.declared.BitOffset.{BitOffset}
use Rattle.openjoc_bitio.specs.declared.BitCursor.{BitCursor}
use Rattle.emdf_format.specs.declared.BodyError.{BodyError}
use Rattle.emdf_format.specs.declared.EmdfError.{EmdfError}
use Rattle.emdf_format.specs.declared.PayloadRecord.{PayloadRecord}
use Rattle.emdf_format.specs.declared.BodyError.TheVariants.{Emdf, NoSuchPayload}
use Rattle.emdf_format.specs.Reader.{got}
use Rattle.emdf_format.specs.Reading.{Found, reading, payloads}
use Rattle.emdf_format.specs.Calls.{body_start}
use Rattle.emdf_format.proofs.Standing.{stands-to}
use Rattle.emdf_format.proofs.Payloads.{Traced, more, payloads-sound, length-octets}
use Rattle.emdf_format.proofs.Spans.{body_end}
use Rattle.openjoc_emdf.specs.declared.ParsedEmdf.{ParsedEmdf}
use Rattle.emdf_payloads.specs.Payloads.{Listed, step_at, skip_of}
use Rattle.emdf_payloads.proofs.Walk.{First, step-found, step-ended, step-refused, skip-past, skip-refused}
use Rattle.openjoc_emdf.specs.Answers.{open_answer, Opened}
use Rattle.openjoc_emdf.proofs.Opening.{unopened}
use Rattle.emdf_bodies.specs.Bodies.{body_of, find_body}

-- the body's span by its record
abbrev pub span_of : PayloadRecord → Result (BitOffset × ByteCount) BodyError
span_of r = Ok (r.trace.payload_body_start_bit, record { 0 = (r.trace.payload_body_end_bit.0 - r.trace.payload_body_start_bit.0) / 8 })

traced-body : {s : List ℕ} {e p q : ℕ} {x : Found} {xs : List Found} → Traced s e p q (x ∷ xs) → body_start x + 8 * length x.body ≡ body_end x
traced-body {x = x} (more {q = q} a t) =
    let z : body_start x ≡ a.body_at = ap (λ u. u.payload_body_start_bit.0) a.trace in
    let y : body_end x ≡ q = ap (λ u. u.payload_body_end_bit.0) a.trace in
    omega (arith, stands-to a.body, length-octets x.body)

-- ---- one turn of the loop

module _ (s : List ℕ) (c : BitCursor) {r : PayloadRecord} {next : BitCursor} {xs : List Found} (l : Listed s c xs) (f : First s c next r xs) where
  first-span : body_start f.first + 8 * length f.first.body ≡ body_end f.first
  first-span =
      let e : payloads l.bound s c.end c.position ≡ got (f.first ∷ f.others) l.to = rw f.is at l.is in
      traced-body (payloads-sound l.bound e).traced

  first_body : span_of r ≡ body_of (get_elem? xs 0)
  unfolding body_of
  first_body =
      let e : (body_end f.first - body_start f.first) / 8 ≡ length f.first.body = omega (arith, first-span) in
      rw (f.is, ← f.record_is, e)

-- from the cursor c on there are payloads of which the one at left is the one at k of xs
pub record Ahead (s : List ℕ) (xs : List Found) (k : ℕ) (c : BitCursor) (left : ℕ) : Type 0 where
  pub payloads : List Found
  pub listed : Listed s c payloads
  pub same : get_elem? payloads left ≡ get_elem? xs k

module _ (s : List ℕ) {xs : List Found} {k : ℕ} (c : BitCursor) (left : ℕ) (a : Ahead s xs k c left) where
  pub span-runs : {r : PayloadRecord} {next : BitCursor} → step_at s c ≡ Ok (Some r, next) → r.trace.payload_body_start_bit.0 ≤ r.trace.payload_body_end_bit.0
  span-runs h = let f = step-found s c a.payloads a.listed h in rw (← f.record_is) (omega (arith, first-span s c a.listed f))

  pub body-here : {r : PayloadRecord} {next : BitCursor} → step_at s c ≡ Ok (Some r, next) → left ≡ 0 → span_of r ≡ body_of (get_elem? xs k)
  body-here h z = first_body s c a.listed (step-found s c a.payloads a.listed h) ∙ ap (λ (i : ℕ). body_of (get_elem? a.payloads i)) (sym z) ∙ ap body_of a.same

  -- past a payload that is skipped
  pub body-later : {b : Result (Option ℕ × BitCursor) EmdfError} {id : ℕ} {next : BitCursor} → b ≡ skip_of (step_at s c) → b ≡ Ok (Some id, next) → 0 < left → Ahead s xs k next (left - 1)
  body-later i h l =
      let (r, was, _) = skip-past (step_at s c) (sym i ∙ h) in
      let f = step-found s c a.payloads a.listed was in
      let e : left ≡ suc (left - 1) = omega arith in
      record { payloads = f.others; listed = f.listed; same = rw (f.is, e) at a.same }

  pub no_body : {next : BitCursor} → step_at s c ≡ Ok (None, next) → Err NoSuchPayload ≡ body_of (get_elem? xs k)
  unfolding body_of
  no_body h = rw (← a.same, step-ended s c a.payloads a.listed h)

  -- no payload of a list that is read is refused
  pub not-refused : {b : Result (Option PayloadRecord × BitCursor) EmdfError} → b ≡ step_at s c → (why : EmdfError) × (b ≡ Err why) → ⊥
  not-refused i (why, h) = step-refused s c a.payloads a.listed (sym i ∙ h)

  pub not-skipped : {b : Result (Option ℕ × BitCursor) EmdfError} → b ≡ skip_of (step_at s c) → (why : EmdfError) × (b ≡ Err why) → ⊥
  not-skipped i (why, h) = step-refused s c a.payloads a.listed (skip-refused (step_at s c) (sym i ∙ h))

-- ---- by what opening the carrier says

pub opened-body : {s : List ℕ} {p : ParsedEmdf} {first : BitCursor} (k : ℕ) (o : Opened s p first) → body_of (get_elem? o.container.found k) ≡ find_body (reading s) k
unfolding find_body
opened-body k o = rw o.is

pub unopened-body : (s : List ℕ) (k : ℕ) {a : Result (ParsedEmdf × BitCursor) EmdfError} {r : Result (BitOffset × ByteCount) BodyError} → a ≡ open_answer s (reading s)
    → (why : EmdfError) × (a ≡ Err why) × (r ≡ Err (Emdf why)) → r ≡ find_body (reading s) k
unfolding find_body
unopened-body s k i (why, h, e) = e ∙ rw (unopened s (sym i ∙ h))
