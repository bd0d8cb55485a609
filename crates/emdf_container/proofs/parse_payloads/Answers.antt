use Rattle.std.proofs.Common.{rules}
use mathlib.Core.Path.{refl, sym, ◌∙◌}
use native.Mathlib.Omega.{arith}
use Rattle.emdf_container.specs.Container.{container_after, container_answer}
use Rattle.emdf_format.specs.Syntax.{escape}
use Rattle.emdf_fields.proofs.Answers.{via}
use Rattle.emdf_payload_list.proofs.Answers.{list-found, by-list}
use Rattle.emdf_container.proofs.Ends.{left, container-refuses}
use Rattle.emdf_container.proofs.parse_payloads.Goals as goal

pub returns-in_err-count : goal.returns-in_err-count
unfolding container_after container_answer
returns-in_err-count c = left container_answer _ _ _ _ (by-list container_answer container-refuses _ _ _ _ _ c.count_payloads.ensures c.in_err-count.was (search rules))

pub extended_groups-groups-requires : goal.extended_groups-groups-requires
unfolding escape
extended_groups-groups-requires c = (omega arith, omega arith, refl)

pub returns : goal.returns
unfolding container_after container_answer
returns c =
    let d = list-found _ _ (sym c.count_payloads.ensures ∙ c.in_ok-count.was) in
    left container_answer _ _ _ _ (via container_answer _ _ _ _ _ d.3 (c.container_end.ensures d.0 d.1 (rw (c.larger.ensures, c.extended_groups-groups.ensures, d.2))))
