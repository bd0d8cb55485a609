use mathlib.Core.Path.{refl, sym, ◌∙◌}
use native.Mathlib.Omega.{arith}
use Rattle.openjoc_bitio.proofs.Results.{ok-same, ok-is-not-err}
use Rattle.std.proofs.Common.{rules}
use Rattle.emdf_payloads.proofs.Turns.{at-payload}
use Rattle.emdf_text.proofs.Put.{leaves-less}
use Rattle.emdfcheck.proofs.Records.{all_listed, all-records, more, done}
use Rattle.emdfcheck.proofs.put_records.Goals as goal

pub loop-payload-init : goal.loop-payload-init
loop-payload-init c =
    let o = c.requires in
    (o.container.found, all_listed o, refl, omega (arith, o.fit), λ after end p. rw (all-records o) p)

pub put_record-end-requires : goal.put_record-end-requires
put_record-end-requires c =
    let l = c.loop-payload in
    let m = more _ l.at c.next_payload.ensures l.invariant.0 l.invariant.1 (rw c.in-Ok-Some-default.field-0-0-is at c.in-Ok-Some-default.is) in
    omega (arith, m.size, l.invariant.3)

pub loop-payload-smaller : goal.loop-payload-smaller
loop-payload-smaller c = (at-payload _ c.loop-payload.at (sym c.next_payload.ensures ∙ (rw c.in-Ok-Some-default.field-0-0-is at c.in-Ok-Some-default.is))).less

pub loop-payload-preserved : goal.loop-payload-preserved
loop-payload-preserved c =
    let l = c.loop-payload in
    let m = more _ l.at c.next_payload.ensures l.invariant.0 l.invariant.1 (rw c.in-Ok-Some-default.field-0-0-is at c.in-Ok-Some-default.is) in
    let p = c.put_record-end in
    (m.rest, m.listed, p.auto.out ∙ l.invariant.2, omega (arith, m.size, l.invariant.3, p.ensures.upper_bound, p.auto.out), leaves-less (rw m.lines at l.invariant.4) p.ensures.printed)

pub returns-in_default : goal.returns-in_default
returns-in_default c =
    let l = c.loop-payload in
    done _ l.at c.next_payload.ensures l.invariant.0 l.invariant.1 (λ r next h. let e = ok-same (sym h ∙ c.in_default.is) in search rules) l.invariant.3 l.invariant.4

pub returns-in_default-2 : goal.returns-in_default-2
returns-in_default-2 c =
    let l = c.loop-payload in
    done _ l.at c.next_payload.ensures l.invariant.0 l.invariant.1 (λ r next h. ok-is-not-err (sym h ∙ c.in_default.is)) l.invariant.3 l.invariant.4
