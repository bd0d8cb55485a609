use mathlib.Core.Path.{sym, ◌∙◌}
use Rattle.emdf_writer.proofs.Fitting.{inside, number-wide, number-out, number_in}
use Rattle.emdf_writer.proofs.put_number.Goals as goal
use Rattle.emdf_writer.proofs.put_number.Goals.{then-width-gt64-via-then-width-gt64, then-width-gt64-via-else-width-gt64+then-not-has_bits}

pub returns-then-width-gt64 : goal.returns-then-width-gt64
returns-then-width-gt64 c =
    elim c.then-width-gt64.branch [
      | then-width-gt64-via-then-width-gt64 w ↦ number-wide _ _ _ _ w.if-width-gt64.true
      | then-width-gt64-via-else-width-gt64+then-not-has_bits w ↦ number-out _ _ _ _ w.if-width-gt64.false (sym w.has_bits.ensures ∙ w.if-not-has_bits.true)
    ]

pub put_parts-requires : goal.put_parts-requires
put_parts-requires c =
    let i = inside _ _ _ (sym c.has_bits.ensures ∙ c.if-not-has_bits.false) in
    (c.if-width-gt64.false, i.within, i.small)

pub returns : goal.returns
returns c =
    let h = number_in _ _ _ _ c.if-width-gt64.false (sym c.has_bits.ensures ∙ c.if-not-has_bits.false) in
    (h.0, c.put_parts.ensures ∙ h.1)
