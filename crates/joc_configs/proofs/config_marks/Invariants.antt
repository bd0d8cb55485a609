use Rattle.std.proofs.Common.{◌≡◌, map, take}
use Rattle.emdf_format.specs.Profile.{word}
use Rattle.joc_configs.proofs.Profile.{setting_deviates}
use Rattle.joc_configs.proofs.config_marks.Given as goal

abbrev pub invariant-loop-k : goal.invariant-loop-k
invariant-loop-k l = l.word ≡ word (map setting_deviates (take l.k l.s-items))
