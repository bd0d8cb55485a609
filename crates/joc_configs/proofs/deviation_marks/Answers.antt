use Rattle.std.proofs.Common.{◌≡◌, arith, rules}
use Rattle.std.specs.Prelude.{if◌then◌else◌}
use Rattle.emdf_format.specs.Profile.{deviations, table56, marks, deviates, differ, word}
use Rattle.joc_configs.proofs.Profile.{bit-small}
use Rattle.joc_configs.proofs.deviation_marks.Goals as goal

pub returns : goal.returns
unfolding deviations table56 marks deviates word
returns c =
    let unequal = differ c.args.oamd.group_id c.args.joc.group_id in
    let u : c.from-unequal.result ≡ (if unequal then 1 else 0) = search rules in
    omega (arith, u, bit-small unequal, c.config_marks-first.ensures, c.config_marks-second.ensures)
