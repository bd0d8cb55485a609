use mathlib.Core.Path.{◌≡◌, ap, ◌∙◌}
use native.Mathlib.Omega.{arith}
use lib.ListN.{length}
use Rattle.emdf_format.specs.Syntax.{octet_bits}
use Rattle.emdf_writer.specs.Writing.{bit_run}
use Rattle.emdf_writer.proofs.Run.{length_run}
use Rattle.emdf_field_writer.proofs.Putting.{run_fits}
use Rattle.emdf_field_writer.proofs.put_run.Goals as goal

pub overflow_add-result : goal.overflow_add-result
overflow_add-result c =
    let count : let a = c.args in length (bit_run a.s.now a.from.0 a.n) ≡ a.n = length_run _ _ _ c.requires.1 in
    omega (arith, count)

pub returns : goal.returns
returns c =
    let count : let a = c.args in length (bit_run a.s.now a.from.0 a.n) ≡ a.n = length_run _ _ _ c.requires.1 in
    (omega (arith, count), ap octet_bits c.copy_bits.ensures.1 ∙ run_fits _ _ _ _ _ c.requires.0 c.requires.1 c.requires.2)
