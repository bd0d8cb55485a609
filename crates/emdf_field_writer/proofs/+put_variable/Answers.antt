use native.Mathlib.Omega.{arith}
use lib.Pow.{shr_le}
use Rattle.emdf_field_writer.proofs.Putting.{then-put, length-group, groups-one, groups-more, length-one, length_more}
use Rattle.emdf_field_writer.proofs.+put_variable.Goals as goal

pub put_group-requires : goal.put_group-requires
put_group-requires t c =
    let a = c.args in
    omega (arith, length-one a.width a.v a.more c.if-above-eq0.true, length-group a.width a.v a.more)

pub returns-then-above-eq0 : goal.returns-then-above-eq0
returns-then-above-eq0 t c = rw (groups-one _ _ _ c.if-above-eq0.true) c.put_group.ensures

pub put_variable-next-requires : goal.put_variable-next-requires
put_variable-next-requires t c =
    let a = c.args in
    omega (arith, c.if-above-eq0.false, shr_le a.v a.width, length_more a.width a.v a.more c.if-above-eq0.false)

pub put_group-requires-2 : goal.put_group-requires-2
put_group-requires-2 t c =
    let a = c.args in
    omega (arith, c.put_variable-next.ensures.0, c.put_variable-next.auto.out, length_more a.width a.v a.more c.if-above-eq0.false, length-group a.width a.v a.more)

pub returns : goal.returns
returns t c = rw (groups-more _ _ _ c.if-above-eq0.false) (then-put _ _ _ _ _ _ c.put_variable-next.ensures c.put_group-2.ensures)
