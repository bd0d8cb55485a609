use native.Mathlib.Omega.{arith}
use Rattle.emdf_text.specs.Lines.{line}
use Rattle.emdfcheck.specs.Output.{record_line}
use Rattle.emdf_text.proofs.Put.{both}
use Rattle.emdfcheck.proofs.put_record.Goals as goal

pub returns : goal.returns
unfolding record_line line
returns c =
    let p = c.put_decimal-end.ensures.put (omega arith) in
    let q = c.put_line.ensures.put (omega (arith, p.1)) in
    record { printed = both p.0 q.0; upper_bound = omega (arith, p.1, q.1) }
