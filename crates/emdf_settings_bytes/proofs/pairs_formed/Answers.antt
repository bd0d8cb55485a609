use Rattle.std.proofs.Common.{◌≡◌, ◌+◌, ◌*◌, ◌∙◌, rules, tests, arith}
use Rattle.std.proofs.lemmas.Iterator.{YieldsList-from_range}
use Rattle.std.proofs.lemmas.Iterator.Search.{all_from_yields_List}
use Rattle.emdf_settings_bytes.specs.Settings.{pair_formed}
use Rattle.emdf_settings_bytes.proofs.Settings.{pairs-asked}
use Rattle.emdf_settings_bytes.proofs.pairs_formed.Goals as goal

pub returns : goal.returns
returns c =
    let a = c.args in
    let e : a.first + 2 * 0 ≡ a.first = omega arith in
    all_from_yields_List (λ k. pair_formed a.s.now (a.first + 2 * k)) _ _ _ c.all.ensures.ran (YieldsList-from_range 0 a.count a.count (cc) (omega arith)) (λ x b q k. search (rules, tests)) ∙ rw e at (pairs-asked a.s.now a.first 0 a.count)
