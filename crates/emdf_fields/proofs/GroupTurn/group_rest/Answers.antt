use borrow.Author.Tests.{lt-ltb, le-ltb, eq-eqb, ne_eqb}
use mathlib.Core.Path.{sym, ◌∙◌}
use Prim.Native.Nat.{◌-◌, ◌≤◌, ◌<◌}
use native.Mathlib.Omega.{arith}
use Rattle.emdf_fields.specs.Fields.{group_rest}
use Rattle.emdf_fields.proofs.Variable.{start-found, start_none}
use Rattle.emdf_fields.proofs.GroupTurn.group_rest.Goals as goal

pub returns-then-more-eq0 : goal.returns-then-more-eq0
unfolding group_rest
returns-then-more-eq0 c = rw (eq-eqb _ 0 c.if-more-eq0.true)

pub returns-then-left-eq1 : goal.returns-then-left-eq1
unfolding group_rest
returns-then-left-eq1 c =
    let none : c.args.self.left - 1 ≤ 0 = omega arith in
    rw (ne_eqb _ 0 c.if-more-eq0.false, le-ltb _ _ none)

pub returns-in_default : goal.returns-in_default
unfolding group_rest
returns-in_default c =
    let some : 0 < c.args.self.left - 1 = omega arith in
    rw (ne_eqb _ 0 c.if-more-eq0.false, lt-ltb _ _ some, start_none _ (sym c.next_start.ensures ∙ c.in_default.is))

pub returns : goal.returns
unfolding group_rest
returns c =
    let some : 0 < c.args.self.left - 1 = omega arith in
    let d = start-found _ (sym c.next_start.ensures ∙ c.in-Some.is) in
    rw (ne_eqb _ 0 c.if-more-eq0.false, lt-ltb _ _ some, d.1, d.0)
