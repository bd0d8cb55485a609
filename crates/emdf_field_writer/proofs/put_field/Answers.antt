use mathlib.Core.Path.{◌∙◌}
use native.Mathlib.Omega.{arith}
use Rattle.openjoc_bitio.proofs.Bits.{length-number}
use Rattle.emdf_field_writer.proofs.Putting.{number_fits}
use Rattle.emdf_field_writer.proofs.put_field.Goals as goal

pub overflow_add-result : goal.overflow_add-result
overflow_add-result c = let a = c.args in omega (arith, length-number a.width a.v)

pub returns : goal.returns
returns c =
    let a = c.args in
    (omega (arith, length-number a.width a.v), c.put_number.ensures.1 ∙ number_fits _ _ _ _ c.requires.0 c.requires.1)
