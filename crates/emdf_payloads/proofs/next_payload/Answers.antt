use borrow.Author.Tests.{eq-eqb, ne_eqb}
use mathlib.Core.Path.{sym, ◌∙◌}
use native.Mathlib.Omega.{arith}
use Rattle.emdf_payloads.specs.Compact.{compact_step}
use Rattle.emdf_payloads.proofs.next_payload.Goals as goal

pub overflow_add-next : goal.overflow_add-next
overflow_add-next c = omega (arith, c.compact_at-found.ensures.fits)

pub returns-then-found-eq0-2 : goal.returns-then-found-eq0-2
unfolding compact_step
returns-then-found-eq0-2 c = sym (c.compact_at-found.ensures.is (omega arith) ∙ rw (eq-eqb _ 0 c.if-found-eq0-2.true))

pub compact_record-requires : goal.compact_record-requires
compact_record-requires c =
    let n = c.compact_at-found.ensures in
    (n.head, n.size, n.near (omega arith), n.fits)

pub returns : goal.returns
unfolding compact_step
returns c =
    rw c.compact_record.ensures (sym (c.compact_at-found.ensures.is (omega arith) ∙ rw (ne_eqb _ 0 c.if-found-eq0-2.false)))
