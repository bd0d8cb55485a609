use borrow.Author.Tests.{eq-eqb, ne_eqb}
use Rattle.emdf_format.specs.Contents.{◌&◌, has_aligned}
use Rattle.emdf_settings.proofs.has_aligned.Goals as goal

pub returns-then-discard-eq0 : goal.returns-then-discard-eq0
unfolding has_aligned ◌&◌
returns-then-discard-eq0 c = rw (eq-eqb _ 0 c.if-discard-eq0.true, c.is_present.ensures)

pub returns-else-discard-eq0 : goal.returns-else-discard-eq0
unfolding has_aligned ◌&◌
returns-else-discard-eq0 c = rw (ne_eqb _ 0 c.if-discard-eq0.false)
