-- What a cut has to be, so that the edited carrier can be put. Assumes nothing.
use Rattle.std.specs.Prelude.{List, ℕ, ◌+◌, ◌-◌, ◌*◌, ◌^◌, ◌<◌, ◌≤◌, length}
use Rattle.emdf_plan.specs.declared.Cut.{Cut}

-- the bits of a container after new ones came in at a cut, without the zeros after them
unfoldable pub kept_bits : Cut → List ℕ → ℕ
kept_bits cut new = (cut.from.0 - 32) + length new + (cut.kept.0 - cut.to.0)

-- a cut that lies in the container of s, and the length that the container declares after it, in 16 bits
pub record Within (s : List ℕ) (cut : Cut) (new : List ℕ) : Type 0 where
  pub starts : 32 ≤ cut.from.0
  pub ordered : cut.from.0 ≤ cut.to.0
  pub ends : cut.to.0 ≤ cut.kept.0
  pub there : cut.kept.0 ≤ length s * 8
  pub short : length s < 2 ^ 61
  pub small : cut.size.0 < 65536
  pub covers : kept_bits cut new ≤ 8 * cut.size.0
