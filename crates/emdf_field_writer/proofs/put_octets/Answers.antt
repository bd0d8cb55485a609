use native.Mathlib.Omega.{arith}
use Rattle.emdf_format.proofs.Payloads.{length-octets}
use Rattle.emdf_field_writer.proofs.Putting.{run-all}
use Rattle.emdf_field_writer.proofs.put_octets.Goals as goal

pub put_run-requires : goal.put_run-requires
put_run-requires c =
    let s = c.args.s.now in
    (rw (run-all s) c.requires, omega arith, omega (arith, length-octets s))

pub returns : goal.returns
returns c = rw (run-all c.args.s.now) at c.put_run.ensures

pub overflow_mul-s : goal.overflow_mul-s
overflow_mul-s c = omega (arith, length-octets c.args.s.now)
