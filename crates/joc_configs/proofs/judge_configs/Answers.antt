use Rattle.joc_configs.proofs.Profile.{ones-word, judge-refused, judge-accepted}
use mathlib.Core.Path.{ap}
use mathlib.Core.Bool.{not}
use Rattle.joc_configs.proofs.judge_configs.Goals as goal

pub meets_profile-requires : goal.meets_profile-requires
meets_profile-requires c = rw c.deviation_marks-marks.ensures (ones-word _)

pub returns-then-not-meets_profile : goal.returns-then-not-meets_profile
returns-then-not-meets_profile c = judge-refused _ _ _ _ c.deviation_marks-marks.ensures c.meets_profile.ensures (ap not c.if-not-meets_profile.true)

pub returns : goal.returns
returns c = judge-accepted _ _ _ _ c.deviation_marks-marks.ensures c.meets_profile.ensures (ap not c.if-not-meets_profile.false) c.status_of.ensures
