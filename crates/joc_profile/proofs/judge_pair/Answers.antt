use Rattle.joc_profile.proofs.Pair.{not-both, both-there}
use Rattle.joc_profile.proofs.judge_pair.Goals as goal
use Rattle.joc_profile.proofs.judge_pair.Goals.{in_default-via-in-One+in_default, in_default-via-in_default}

pub returns-in_default : goal.returns-in_default
returns-in_default c =
    elim c.in_default.branch [
      | in_default-via-in-One+in_default w ↦ not-both _ _ _ _ (λ p q e f. w.in_default.not-One-1 q f) c.seen_count.ensures c.seen_count-in_default.ensures
      | in_default-via-in_default w ↦ not-both _ _ _ _ (λ p q e f. w.in_default.not-One-0 p e) c.seen_count.ensures c.seen_count-in_default.ensures
    ]

pub returns : goal.returns
returns c = both-there _ _ _ _ c.in-One-One.is-0 c.in-One-One.is-1 c.judge_configs.ensures
