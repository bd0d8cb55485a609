use native.Mathlib.Omega.{arith}
use mathlib.Core.Path.{◌≡◌}
use borrow.Author.Tests.{eq-eqb, ne_eqb}
use Rattle.std.specs.Prelude.{if◌then◌else◌, eqb}
use Rattle.emdf_format.specs.Contents.{needed_config}
use Rattle.emdf_measure.specs.Parts.{control_bits}
use Rattle.emdf_measure.proofs.Asked.{flagged-width}
use Rattle.emdf_measure.proofs.config_bits.Goals as goal
use Rattle.emdf_measure.proofs.config_bits.Goals.{then-t-eq0, else-t-eq0}

pub returns : goal.returns
unfolding needed_config control_bits
returns c =
    let t = c.args.t in
    let codec : c.if-t-eq0.codec ≡ (if eqb t.codec_data_present 0 then 1 else 9) =
    elim c.if-t-eq0.branch [ then-t-eq0 w ↦ rw (w.codec-is, eq-eqb _ 0 w.if-t-eq0.true) | else-t-eq0 w ↦ rw (w.codec-is, ne_eqb _ 0 w.if-t-eq0.false) ] in
    omega (arith, codec, flagged-width 12 t.sample_offset, c.present_bits.ensures, c.variable_bits.ensures, c.variable_bits-2.ensures, c.control_bits.ensures)
