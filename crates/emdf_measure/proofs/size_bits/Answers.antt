use lib.Dec.{lit<}
use native.Mathlib.Omega.{arith}
use Rattle.emdf_measure.proofs.size_bits.Goals as goal

pub group_count-requires : goal.group_count-requires
group_count-requires c = (lit< tt, lit< tt)

pub overflow_mul-result : goal.overflow_mul-result
overflow_mul-result c = omega (arith, c.group_count.ensures.1)

pub returns : goal.returns
returns c = rw (← c.group_count.ensures.0)
