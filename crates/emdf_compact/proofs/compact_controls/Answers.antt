use Rattle.emdf_compact.specs.Words.{compact_controls}
use Rattle.emdf_compact.proofs.compact_controls.Goals as goal

pub returns : goal.returns
unfolding compact_controls
returns c = simp (c.present_value-processing.ensures, c.present_value-priority.ensures, c.has_priority-ranked.ensures, c.present_span-2.ensures.0, c.present_value-remove.ensures, c.present_value-create.ensures, c.is_one-kept.ensures, c.present_span.ensures.0, c.present_value-aligned.ensures, c.has_aligned-there.ensures)
