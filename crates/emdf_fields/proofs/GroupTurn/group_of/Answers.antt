use borrow.Author.Tests.{lt-ltb, le-ltb}
use Prim.Native.Nat.{◌+◌, ◌^◌, ◌≤◌, ◌<◌}
use native.Mathlib.Omega.{arith}
use Rattle.emdf_fields.specs.Fields.{group_of}
use Rattle.emdf_fields.proofs.GroupTurn.group_of.Goals as goal

pub returns-then-start-value : goal.returns-then-start-value
unfolding group_of
returns-then-start-value c =
    let a = c.args in
    let large : 2 ^ 64 ≤ a.self.start + a.value = omega arith in
    rw (le-ltb _ _ large)

pub returns : goal.returns
unfolding group_of
returns c =
    let a = c.args in
    let fits : a.self.start + a.value < 2 ^ 64 = omega arith in
    rw (lt-ltb _ _ fits) c.group_rest.ensures
