use borrow.Author.Tests.{lt-ltb, le-ltb}
use Rattle.emdf_format.specs.Syntax.{extended_groups}
use Rattle.emdf_measure.proofs.extended_groups.Goals as goal

pub returns-then-v-escape : goal.returns-then-v-escape
unfolding extended_groups
returns-then-v-escape c = rw (← c.requires.2, lt-ltb _ _ c.if-v-escape.true)

pub returns : goal.returns
unfolding extended_groups
returns c = rw (← c.requires.2, le-ltb _ _ c.if-v-escape.false, ← c.group_count.ensures.0)
