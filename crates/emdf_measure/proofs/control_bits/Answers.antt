use native.Mathlib.Omega.{arith}
use Rattle.emdf_measure.specs.Parts.{control_bits}
use Rattle.emdf_measure.proofs.control_bits.Goals as goal

pub returns : goal.returns
unfolding control_bits
returns c = omega (arith, c.present_bits.ensures, c.present_bits-2.ensures, c.present_bits-3.ensures, c.present_bits-4.ensures, c.present_bits-5.ensures)
