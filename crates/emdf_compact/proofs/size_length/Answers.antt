use borrow.Author.Tests.{eq-eqb, ne_eqb}
use Prim.Native.Nat.{◌%◌}
use Rattle.emdf_fields.specs.Word.{top}
use Rattle.emdf_compact.specs.Words.{size_length}
use Rattle.emdf_compact.proofs.size_length.Goals as goal

pub returns-then-x-eq0 : goal.returns-then-x-eq0
unfolding size_length
returns-then-x-eq0 c = rw (eq-eqb (top 9 c.args.x % 2) 0 c.if-x-eq0.true)

pub returns-then-x-eq0-2 : goal.returns-then-x-eq0-2
unfolding size_length
returns-then-x-eq0-2 c = let x = c.args.x in rw (ne_eqb (top 9 x % 2) 0 c.if-x-eq0.false, eq-eqb (top 18 x % 2) 0 c.if-x-eq0-2.true)

pub returns : goal.returns
unfolding size_length
returns c = let x = c.args.x in rw (ne_eqb (top 9 x % 2) 0 c.if-x-eq0.false, ne_eqb (top 18 x % 2) 0 c.if-x-eq0-2.false)
