use Rattle.std.proofs.Common.{◌≡◌, Ok, Some, None, sym, ◌∙◌, arith, rules}
use Rattle.emdf_format.specs.declared.PayloadRecord.{PayloadRecord}
use Rattle.emdf_payloads.specs.Payloads.{step_at}
use Rattle.emdf_payloads.proofs.Turns.{at-payload}
use Rattle.emdf_payloads.proofs.Walk.{step-refused, skip-past, skip-end, skip-refused}
use Rattle.joc_profile.proofs.Pair.{none_seen, count_next, same_start, same_next, same_end}
use Rattle.joc_profile.proofs.find_pair.Goals as goal
use Rattle.joc_profile.proofs.find_pair.Goals.{In-Some}

pub loop-step-init : goal.loop-step-init
loop-step-init c = (omega arith, none_seen, none_seen, λ xs l. same_start _ _ xs l)

pub returns-in_err-step : goal.returns-in_err-step
returns-in_err-step c xs l =
    let m = c.loop-step.invariant.3 xs l in
    absurd (step-refused _ _ m.left m.listed (skip-refused _ (sym c.skip_payload.ensures ∙ c.in_err-step.was)))

pub returns-in_default : goal.returns-in_default
returns-in_default c xs l =
    let was : c.skip_payload.result ≡ Ok (None, c.in_ok-step.next) = search rules in
    same_end (c.loop-step.invariant.3 xs l) (skip-end _ (sym c.skip_payload.ensures ∙ was))

-- the payload that is passed
passed : (c : In-Some) → (p : PayloadRecord) × (step_at c.args.s.now c.loop-step.at ≡ Ok (Some p, c.in_ok-step.next)) × (p.id ≡ c.in-Some.id)
passed c =
    let was : c.skip_payload.result ≡ Ok (Some c.in-Some.id, c.in_ok-step.next) = search rules in
    skip-past _ (sym c.skip_payload.ensures ∙ was)

pub seen_next-oamd-requires : goal.seen_next-oamd-requires
seen_next-oamd-requires c =
    let (p, h, e) = passed (goal.at.seen_next-oamd-requires c).In-Some in
    let i = c.loop-step.invariant in
    (i.1, omega (arith, i.0, (at-payload _ _ h).moves))

pub seen_next-joc-requires : goal.seen_next-joc-requires
seen_next-joc-requires c =
    let (p, h, e) = passed (goal.at.seen_next-joc-requires c).In-Some in
    let i = c.loop-step.invariant in
    (i.2, omega (arith, i.0, (at-payload _ _ h).moves))

pub overflow_add-place : goal.overflow_add-place
overflow_add-place c =
    let (p, h, e) = passed (goal.at.overflow_add-place c).In-Some in
    omega (arith, c.loop-step.invariant.0, (at-payload _ _ h).moves)

pub loop-step-smaller : goal.loop-step-smaller
loop-step-smaller c =
    let (p, h, e) = passed (goal.at.loop-step-smaller c).In-Some in
    (at-payload _ _ h).less

pub loop-step-preserved : goal.loop-step-preserved
loop-step-preserved c =
    let i = c.loop-step.invariant in
    let (p, h, e) = passed (goal.at.loop-step-preserved c).In-Some in
    let o = c.seen_next-oamd.ensures p _ h e in
    let j = c.seen_next-joc.ensures p _ h e in
    (omega (arith, i.0, (at-payload _ _ h).moves), rw o (count_next _ 11 _ p i.1), rw j (count_next _ 14 _ p i.2), λ xs l. same_next (i.3 xs l) h o j)
