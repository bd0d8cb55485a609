use mathlib.Core.Path.{ap, ◌∙◌}
use native.Mathlib.Omega.{arith}
use Prim.Native.Nat.{ℕ, ◌%◌}
use Rattle.emdf_compact.proofs.Groups.{length-of, length-few}
use Rattle.emdf_compact.proofs.config_length.Goals as goal

pub returns : goal.returns
returns c =
    let h = ap (λ (n : ℕ). n % 128) c.grouped_length.ensures.0 ∙ length-of c.args.x in
    (h, omega (arith, h, length-few c.args.x))
