use mathlib.Core.Path.{refl, sym, ◌∙◌}
use native.Mathlib.Nat.{mod-lt}
use native.Mathlib.Omega.{arith}
use lib.Pow.{pow_pos}
use Rattle.std.proofs.lemmas.Nat.{one_shl}
use Rattle.emdf_format.specs.Syntax.{octet_bits}
use Rattle.emdf_writer.proofs.Stored.{number_more, number-none}
use Rattle.emdf_writer.proofs.put_parts.Goals as goal

pub loop-n-init : goal.loop-n-init
loop-n-init c = (omega arith, refl, refl)

pub nonzero_rem-v : goal.nonzero_rem-v
nonzero_rem-v c = rw (one_shl c.min-t.result 64 (omega arith)) (omega (arith, pow_pos c.min-t.result))

pub put_part-requires : goal.put_part-requires
put_part-requires c =
    (omega arith, rw (one_shl c.min-t.result 64 (omega arith)) (mod-lt _ (pow_pos c.min-t.result)), omega arith)

pub loop-n-preserved : goal.loop-n-preserved
loop-n-preserved c =
    let o = c.loop-n in
    let t = c.min-t.result in
    let a = c.args in
    (omega arith, omega arith, rw (c.put_part.ensures, one_shl t 64 (omega arith)) (number_more (octet_bits o.out) o.p o.n t a.v (omega arith) ∙ o.invariant.2))

pub returns : goal.returns
returns c = sym (number-none _ _ _ _ (omega arith)) ∙ c.loop-n.invariant.2
