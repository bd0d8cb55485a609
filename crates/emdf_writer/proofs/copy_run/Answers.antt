use mathlib.Core.Path.{◌∙◌}
use Prim.Native.Nat.{◌+◌, ◌-◌, ◌/◌}
use native.Mathlib.Omega.{arith}
use Rattle.emdf_format.specs.Syntax.{octet_bits}
use Rattle.emdf_writer.proofs.Run.{run-parts}
use Rattle.emdf_writer.proofs.copy_run.Goals as goal

pub returns : goal.returns
returns c =
    let a = c.args in
    let h = c.min-head.result in
    c.copy_part-2.ensures
    ∙ rw (c.copy_octets.ensures, c.copy_part.ensures) (run-parts (octet_bits a.out.now) a.s.now a.at a.from a.n h ((a.n - h) / 8) ((a.at + h) / 8) (omega arith) (omega arith) (λ g. omega arith))
