use mathlib.Core.Path.{◌∙◌}
use Rattle.joc_configs.proofs.Profile.{is-absent, is-present, equal-meets}
use Rattle.joc_configs.proofs.meets_wanted.Goals as goal

pub returns-in-Absent : goal.returns-in-Absent
returns-in-Absent c = rw c.in-Absent.is (is-absent _ c.is_none.ensures)

pub returns-in-Present : goal.returns-in-Present
returns-in-Present c = rw c.in-Present.is (is-present _ c.is_some.ensures)

pub returns-in-Unsigned : goal.returns-in-Unsigned
returns-in-Unsigned c = rw c.in-Unsigned.is (c.eq.ensures ∙ equal-meets _ _)
