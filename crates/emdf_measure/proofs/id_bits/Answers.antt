use borrow.Author.Rules.{rules}
use Prim.Native.Nat.{◌≤◌}
use native.Mathlib.Omega.{arith}
use lib.Dec.{lit<}
use Rattle.emdf_format.specs.Syntax.{escape}
use Rattle.emdf_format.specs.Contents.{extension_bits}
use Rattle.emdf_measure.proofs.Asked.{extended-few}
use Rattle.emdf_measure.proofs.id_bits.Goals as goal

pub extended_groups-requires : goal.extended_groups-requires
unfolding escape
extended_groups-requires c = search rules

pub overflow_mul-result : goal.overflow_mul-result
overflow_mul-result c =
    let few : c.extended_groups.result ≤ 64 = rw c.extended_groups.ensures (extended-few 5 c.args.id (lit< tt) (omega arith)) in
    omega (arith, few)

pub overflow_add-result : goal.overflow_add-result
overflow_add-result c =
    let few : c.extended_groups.result ≤ 64 = rw c.extended_groups.ensures (extended-few 5 c.args.id (lit< tt) (omega arith)) in
    omega (arith, few)

pub returns : goal.returns
unfolding extension_bits
returns c = rw c.extended_groups.ensures
