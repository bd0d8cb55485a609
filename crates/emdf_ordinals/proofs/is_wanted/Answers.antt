use borrow.Author.Tests.{ne_eqb, eq-eqb}
use Rattle.emdf_format.specs.Contents.{◌&◌}
use Rattle.emdf_ordinals.proofs.is_wanted.Goals as goal

pub returns-then-found-id : goal.returns-then-found-id
unfolding ◌&◌
returns-then-found-id c = rw (eq-eqb _ _ c.if-found-id.true)

pub returns-else-found-id : goal.returns-else-found-id
unfolding ◌&◌
returns-else-found-id c = rw (ne_eqb _ _ c.if-found-id.false)
