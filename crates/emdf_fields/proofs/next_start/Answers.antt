use lib.Pow.{shr_le}
use borrow.Author.Tests.{lt-ltb, le-ltb}
use native.Mathlib.Omega.{arith}
use native.Mathlib.Nat.{mod-eq_of_lt}
use Rattle.emdf_fields.specs.Fields.{start_answer}
use Rattle.emdf_fields.proofs.Variable.{start_fits, start-large, start_is}
use Rattle.emdf_fields.proofs.next_start.Goals as goal

pub returns-then-most-value : goal.returns-then-most-value
unfolding start_answer
returns-then-most-value c = let a = c.args in rw (← start_is a.value a.width) (simp (le-ltb _ _ (start-large a.value a.width c.if-most-value.true)))

pub overflow_add-result : goal.overflow_add-result
overflow_add-result c = omega (arith, shr_le 18446744073709551615 c.args.width)

pub returns : goal.returns
unfolding start_answer
returns c = let a = c.args in rw (← start_is a.value a.width) (simp (lt-ltb _ _ (start_fits a.value a.width c.if-most-value.false), mod-eq_of_lt (start_fits a.value a.width c.if-most-value.false)))
