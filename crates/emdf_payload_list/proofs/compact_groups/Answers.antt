use borrow.Author.Tests.{eq-eqb, ne_eqb}
use Rattle.emdf_payloads.specs.Compact.{compact_groups}
use Rattle.emdf_payload_list.proofs.compact_groups.Goals as goal

pub returns-then-size-eq18 : goal.returns-then-size-eq18
unfolding compact_groups
returns-then-size-eq18 c = rw (eq-eqb _ 18 c.if-size-eq18.true)

pub returns : goal.returns
unfolding compact_groups
returns c = rw (ne_eqb _ 18 c.if-size-eq18.false)
