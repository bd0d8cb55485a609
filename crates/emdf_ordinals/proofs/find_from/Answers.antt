use Rattle.std.proofs.Common.{◌≡◌, ◌+◌, Some, None, Ok, Err, sym, ◌∙◌, arith, rules}
use lib.Dec.{eqb}
use Rattle.std.specs.Prelude.{if◌then◌else◌}
use Rattle.emdf_format.specs.declared.PayloadRecord.{PayloadRecord}
use Rattle.emdf_format.specs.declared.FindError.TheVariants.{NoSuchOrdinal}
use Rattle.emdf_payloads.specs.Payloads.{step_at}
use Rattle.emdf_payloads.proofs.Turns.{at-payload}
use Rattle.emdf_payloads.proofs.Walk.{skip-past, skip-end}
use Rattle.emdf_ordinals.proofs.Find.{looking-all, looked-found, looked-past, looked-ended, never-refused, one_more, no_more, seen-within}
use Rattle.emdf_ordinals.proofs.find_from.Goals as goal
use Rattle.emdf_ordinals.proofs.find_from.Goals.{In_ok-found, then-found-id, else-found-id}

pub loop-step-init : goal.loop-step-init
loop-step-init c = (omega arith, omega arith, λ xs l. looking-all _ _ xs l)

pub returns-in_err-step : goal.returns-in_err-step
returns-in_err-step c xs l = absurd (never-refused (c.loop-step.invariant.2 xs l) c.skip_payload.ensures (search rules))

pub returns-in_err-found : goal.returns-in_err-found
returns-in_err-found c xs l =
    let was : c.skip_payload.result ≡ Ok (None, c.in_ok-step.next) = search rules in
    let e : c.from_residual-in_err-found.result ≡ Err NoSuchOrdinal = search rules in
    e ∙ looked-ended (c.loop-step.invariant.2 xs l) (skip-end _ (sym c.skip_payload.ensures ∙ was))

-- the payload that is passed
passed : (c : In_ok-found) → (p : PayloadRecord) × (step_at c.args.s.now c.loop-step.at ≡ Ok (Some p, c.in_ok-step.next)) × (p.id ≡ c.in_ok-found.found)
passed c =
    let was : c.skip_payload.result ≡ Ok (Some c.in_ok-found.found, c.in_ok-step.next) = search rules in
    skip-past _ (sym c.skip_payload.ensures ∙ was)

pub is_wanted-requires : goal.is_wanted-requires
is_wanted-requires c =
    let (p, h, e) = passed c in
    let i = c.loop-step.invariant in
    omega (arith, i.0, i.1, (at-payload _ _ h).moves)

pub returns-then-is_wanted : goal.returns-then-is_wanted
returns-then-is_wanted c xs l =
    let (p, h, e) = passed (goal.at.returns-then-is_wanted c).In_ok-found in
    looked-found (c.loop-step.invariant.2 xs l) h (rw e (sym c.is_wanted.ensures ∙ c.if-is_wanted.true))

pub overflow_add-seen : goal.overflow_add-seen
overflow_add-seen c =
    let (p, h, e) = passed (goal.at.overflow_add-seen c).In_ok-found in
    let i = c.loop-step.invariant in
    omega (arith, i.0, i.1, (at-payload _ _ h).moves)

pub overflow_add-place : goal.overflow_add-place
overflow_add-place c =
    let (p, h, e) = passed (goal.at.overflow_add-place c).In_ok-found in
    omega (arith, c.loop-step.invariant.0, (at-payload _ _ h).moves)

pub loop-step-smaller : goal.loop-step-smaller
loop-step-smaller c =
    let (p, h, e) = passed (goal.at.loop-step-smaller c).In_ok-found in
    (at-payload _ _ h).less

pub loop-step-preserved : goal.loop-step-preserved
loop-step-preserved c =
    let l = c.loop-step in
    let x = c.args.id in
    let (p, h, e) = passed (goal.at.loop-step-preserved c).In_ok-found in
    let more : c.if-found-id.seen ≡ (if eqb p.id x then l.seen + 1 else l.seen) = elim c.if-found-id.branch [ then-found-id w ↦ one_more l.seen p.id x (e ∙ w.if-found-id.true) w.seen-is | else-found-id w ↦ no_more l.seen p.id x (λ z. w.if-found-id.false (sym e ∙ z)) w.seen-is ] in
    (omega (arith, l.invariant.0, (at-payload _ _ h).moves), seen-within l.seen p.id x l.invariant.1 more, λ xs m. looked-past (l.invariant.2 xs m) h (rw e (sym c.is_wanted.ensures ∙ c.if-is_wanted.false)) more)
