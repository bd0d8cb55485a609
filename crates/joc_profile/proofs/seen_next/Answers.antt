use native.Mathlib.Omega.{arith}
use borrow.Author.Tests.{eq-eqb, ne_eqb}
use Rattle.joc_profile.specs.Pair.{seen_more, seen_next}
use Rattle.joc_profile.proofs.seen_next.Goals as goal

pub returns-then-id-wanted : goal.returns-then-id-wanted
unfolding seen_next
returns-then-id-wanted c = λ p next h e. rw (e, ne_eqb _ _ c.if-id-wanted.true)

pub overflow_add-result : goal.overflow_add-result
overflow_add-result c =
    let h = rw c.in-Several.is at c.requires.0 in
    omega (arith, h)

pub returns-in-Nothing : goal.returns-in-Nothing
unfolding seen_next seen_more
returns-in-Nothing c = λ p next h e. rw (e, eq-eqb _ _ c.if-id-wanted.false, c.in-Nothing.is) (c.first_seen.ensures p next h)

pub returns-in-One : goal.returns-in-One
unfolding seen_next seen_more
returns-in-One c = λ p next h e. rw (e, eq-eqb _ _ c.if-id-wanted.false, c.in-One.is)

pub returns-in-Several : goal.returns-in-Several
unfolding seen_next seen_more
returns-in-Several c = λ p next h e. rw (e, eq-eqb _ _ c.if-id-wanted.false, c.in-Several.is)
