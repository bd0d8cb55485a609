use mathlib.Core.Path.{refl}
use native.Mathlib.Omega.{arith}
use Rattle.emdf_format.specs.Syntax.{escape}
use Rattle.emdf_payloads.specs.Payloads.{record_groups}
use Rattle.emdf_payload_list.proofs.record_groups.Goals as goal

pub extended_groups-id-requires : goal.extended_groups-id-requires
unfolding escape
extended_groups-id-requires c = (omega arith, omega arith, refl)

pub returns : goal.returns
unfolding record_groups
returns c =
    rw (c.larger-2.ensures, c.saturating_sub.ensures, c.larger.ensures, c.extended_groups-id.ensures, c.larger-settings.ensures, c.optional_groups-2.ensures, c.optional_groups.ensures)
