use borrow.Author.Tests.{eq-eqb, ne_eqb}
use Rattle.emdf_compact.specs.Words.{grouped_head}
use Rattle.emdf_compact.proofs.head_length.Goals as goal

pub returns-then-id-eq0 : goal.returns-then-id-eq0
unfolding grouped_head
returns-then-id-eq0 c = rw (eq-eqb _ 0 c.if-id-eq0.true)

pub returns-then-id-eq31 : goal.returns-then-id-eq31
unfolding grouped_head
returns-then-id-eq31 c = rw (ne_eqb _ 0 c.if-id-eq0.false, eq-eqb _ 31 c.if-id-eq31.true)

pub returns-then-config-eq64 : goal.returns-then-config-eq64
unfolding grouped_head
returns-then-config-eq64 c = rw (ne_eqb _ 0 c.if-id-eq0.false, ne_eqb _ 31 c.if-id-eq31.false, ← c.grouped_length-config.ensures.0, eq-eqb _ 64 c.if-config-eq64.true)

pub returns : goal.returns
unfolding grouped_head
returns c = rw (ne_eqb _ 0 c.if-id-eq0.false, ne_eqb _ 31 c.if-id-eq31.false, ← c.grouped_length-config.ensures.0, ne_eqb _ 64 c.if-config-eq64.false)
