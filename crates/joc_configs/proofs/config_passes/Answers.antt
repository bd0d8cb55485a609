use Rattle.std.proofs.Common.{ap, ◌∙◌, rules}
use borrow.Author.Tests.{tests}
use Rattle.std.specs.List.{list_all}
use Rattle.std.proofs.lemmas.Iterator.{YieldsList-from_slice}
use Rattle.std.proofs.lemmas.Iterator.Search.{all_from_yields_List}
use Rattle.emdf_format.specs.Profile.{table56}
use Rattle.joc_configs.proofs.Profile.{setting_passes, all-settings}
use Rattle.joc_configs.proofs.config_passes.Goals as goal

pub returns : goal.returns
returns c =
    all_from_yields_List setting_passes _ _ c.all.result c.all.ensures.ran (YieldsList-from_slice c.table56.result (search rules)) (λ x b q k. search (rules, tests))
    ∙ ap (list_all setting_passes) c.table56.ensures
    ∙ all-settings (table56 c.args.role c.args.t)
