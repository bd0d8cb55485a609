use mathlib.Core.Path.{◌∙◌}
use Prim.Native.Nat.{◌<◌}
use native.Mathlib.Omega.{arith}
use Rattle.openjoc_bitio.specs.Cursor.{bits_remaining}
use Rattle.openjoc_bitio.proofs.Cursor.{remaining-end}
use Rattle.emdf_fields.proofs.Variable.{group-word}
use Rattle.emdf_fields.proofs.GroupTurn.group.Goals as goal

pub overflow_add-position : goal.overflow_add-position
overflow_add-position c =
    let a = c.args in
    omega (arith, c.bits_remaining.ensures, remaining-end a.s.now a.c)

pub group_of-requires : goal.group_of-requires
group_of-requires c =
    let a = c.args in
    omega (arith, c.bits_remaining.ensures, remaining-end a.s.now a.c)

pub returns-then-w-bits_remaining : goal.returns-then-w-bits_remaining
returns-then-w-bits_remaining c =
    let a = c.args in
    let l : a.self.width < bits_remaining a.s.now a.c = omega (arith, c.bits_remaining.ensures) in
    c.group_of.ensures ∙ rw c.window_at-x.ensures (group-word _ _ _ _ a.s.now a.c.end a.c.position (omega arith) l)
