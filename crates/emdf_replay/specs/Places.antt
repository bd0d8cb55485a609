-- What was read at a place of a list ends past that place, so that a list is gone through in the end. Assumes nothing.
use Rattle.std.specs.Prelude.{Bool, ℕ, ◌<◌, ◌≤◌, List, length, Option, Some, None}

abbrev pub TokenPast : ℕ → Option (ℕ × ℕ × Bool) → Type 0
TokenPast at (Some (v, next, last)) = at < next
TokenPast at None = Unit {0}

-- with no more numbers than there is room for
abbrev pub LinePast : ℕ → List ℕ → Option (ℕ × ℕ) → Type 0
LinePast at numbers (Some (count, next)) = (count ≤ length numbers) × (at < next)
LinePast at numbers None = Unit {0}

abbrev pub CasePast : ℕ → Option (ℕ × Bool) → Type 0
CasePast at (Some (next, same)) = at < next
CasePast at None = Unit {0}
