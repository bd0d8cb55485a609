use mathlib.Core.Path.{ap, ◌∙◌}
use native.Mathlib.Omega.{arith}
use lib.ListN.{length}
use lib.Pow.{pow_pos}
use Rattle.std.proofs.lemmas.Nat.{one_shl}
use Rattle.emdf_format.proofs.Standing.{length-then}
use Rattle.emdf_field_writer.proofs.Putting.{then-put, extended-short, extended-long}
use Rattle.emdf_field_writer.proofs.put_extended.Goals as goal

pub overflow_sub-escape : goal.overflow_sub-escape
overflow_sub-escape c = rw (one_shl c.args.width 64 c.requires.1) (omega (arith, pow_pos c.args.width))

pub put_field-requires : goal.put_field-requires
put_field-requires c =
    let a = c.args in
    omega (arith, ap length (extended-short a.width a.v _ (one_shl a.width 64 c.requires.1) c.if-v-escape.true))

pub returns-then-v-escape : goal.returns-then-v-escape
returns-then-v-escape c =
    let a = c.args in
    rw (extended-short a.width a.v _ (one_shl a.width 64 c.requires.1) c.if-v-escape.true) c.put_field.ensures

pub put_field-next-requires : goal.put_field-next-requires
put_field-next-requires c =
    let a = c.args in
    omega (arith, ap length (extended-long a.width a.v _ (one_shl a.width 64 c.requires.1) c.if-v-escape.false) ∙ length-then _ _)

pub put_variable-requires : goal.put_variable-requires
put_variable-requires c =
    let a = c.args in
    let d = c.put_field-next in
    omega (arith, d.ensures.0, d.auto.out, ap length (extended-long a.width a.v _ (one_shl a.width 64 c.requires.1) c.if-v-escape.false) ∙ length-then _ _)

pub returns : goal.returns
returns c =
    let a = c.args in
    rw (extended-long a.width a.v _ (one_shl a.width 64 c.requires.1) c.if-v-escape.false) (then-put _ _ _ _ _ _ c.put_field-next.ensures c.put_variable.ensures)
