use native.Mathlib.Omega.{arith}
use Rattle.emdf_format.proofs.Ordinals.{length-ids-in}
use Rattle.emdf_rows.proofs.Rows.{left-all, left-searchable, left-payload, left_step, left-none}
use Rattle.emdf_rows.proofs.put_rows_with.Goals as goal

pub loop-place-init : goal.loop-place-init
loop-place-init c xs d n = left-all xs c.requires.2 d n

pub put_next-at-requires : goal.put_next-at-requires
put_next-at-requires c =
    let (xs, d, n) = c.requires.1 in
    (omega (arith, c.requires.0, c.loop-place-test.true), left-searchable (c.loop-place.invariant xs d n) (omega (arith, length-ids-in xs, n)))

pub loop-place-preserved : goal.loop-place-preserved
loop-place-preserved c xs d n =
    let k = c.loop-place.invariant xs d n in
    let (row, next, e) = left-payload k c.loop-place-test.true in
    let (f, g) = c.put_next-at.ensures row next e in
    rw g (left_step k e f (omega (arith, length-ids-in xs, n)) (omega (arith, c.requires.0)))

pub returns : goal.returns
returns c xs d n = left-none (c.loop-place.invariant xs d n) c.loop-place-test.false
