use Rattle.emdf_compact.specs.Words.{codec_span, compact_config}
use Rattle.emdf_compact.proofs.compact_config.Goals as goal

pub returns : goal.returns
unfolding codec_span compact_config
returns c = simp (c.compact_controls.ensures, c.variable_value-group.ensures, c.flagged_value-duration.ensures, c.flagged_value-offset.ensures, c.variable_span.ensures.0, c.flagged_span-2.ensures.0, c.flagged_span.ensures.0)
