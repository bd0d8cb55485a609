use borrow.Author.Tests.{eq-eqb, ne_eqb}
use Rattle.emdf_format.specs.Contents.{◌&◌, has_priority}
use Rattle.emdf_settings.proofs.has_priority.Goals as goal

pub returns-then-is_present : goal.returns-then-is_present
unfolding has_priority ◌&◌
returns-then-is_present c = rw (eq-eqb _ 0 c.if-discard-eq0.true, ← c.is_present.ensures, c.if-is_present.true)

pub returns-else-is_present : goal.returns-else-is_present
unfolding has_priority ◌&◌
returns-else-is_present c = rw (eq-eqb _ 0 c.if-discard-eq0.true, ← c.is_present.ensures, c.if-is_present.false, c.is_one.ensures)

pub returns-else-discard-eq0 : goal.returns-else-discard-eq0
unfolding has_priority ◌&◌
returns-else-discard-eq0 c = rw (ne_eqb _ 0 c.if-discard-eq0.false)
