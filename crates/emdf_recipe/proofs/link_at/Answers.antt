use borrow.Author.Tests.{le-leb, lt-leb}
use Rattle.emdf_recipe.specs.File.{link_of}
use Rattle.emdf_recipe.proofs.File.{record-small}
use Rattle.emdf_recipe.proofs.link_at.Goals as goal

pub returns-then-s-i : goal.returns-then-s-i
unfolding link_of
returns-then-s-i c = simp (lt-leb _ _ c.if-s-i.true)

pub returns-then-not-next_allowed : goal.returns-then-not-next_allowed
unfolding link_of
returns-then-not-next_allowed c = simp (le-leb _ _ c.if-s-i.false, ← c.record_at-e.ensures, ← c.next_allowed.ensures, c.if-not-next_allowed.true)

pub record_allowed-requires : goal.record_allowed-requires
record_allowed-requires c = rw c.record_at-e.ensures (let small = record-small _ _ in (small.offset, small.size))

pub returns-then-not-record_allowed : goal.returns-then-not-record_allowed
unfolding link_of
returns-then-not-record_allowed c = simp (le-leb _ _ c.if-s-i.false, ← c.record_at-e.ensures, ← c.next_allowed.ensures, c.if-not-next_allowed.false, ← c.record_allowed.ensures, c.if-not-record_allowed.true)

pub returns : goal.returns
unfolding link_of
returns c = simp (le-leb _ _ c.if-s-i.false, ← c.record_at-e.ensures, ← c.next_allowed.ensures, c.if-not-next_allowed.false, ← c.record_allowed.ensures, c.if-not-record_allowed.false)
