use native.Mathlib.Omega.{arith}
use Rattle.emdf_text.proofs.Put.{both}
use Rattle.emdf_text.proofs.lines.put_number.Goals as goal

pub returns : goal.returns
returns c =
    let p = c.put_byte-end.ensures in
    let q = c.put_decimal.ensures.put (omega (arith, p.size)) in
    record { printed = both p q.0; upper_bound = omega (arith, p.size, q.1) }
