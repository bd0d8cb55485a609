use mathlib.Core.Path.{◌∙◌}
use native.Mathlib.Omega.{arith}
use Rattle.emdf_compact.proofs.Compact.{compact-unless}
use Rattle.emdf_payloads.proofs.payload_after.Goals as goal

pub after_compact-requires : goal.after_compact-requires
after_compact-requires c =
    let k = c.config_length-config.ensures.0 in
    (omega arith, c.window_at-x.ensures, compact-unless _ (λ z. c.if-config-ne64.true (k ∙ z)), k)
