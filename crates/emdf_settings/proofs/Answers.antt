-- Settings whose presence is computed. Assumes nothing.
use mathlib.Core.Path.{◌≡◌}
use mathlib.Core.Bool.{Bool}
use mathlib.Core.List.{List}
use Prim.Native.Nat.{ℕ}
use Rattle.std.specs.Prelude.{Option, Result}
use Rattle.openjoc_bitio.specs.declared.BitCursor.{BitCursor}
use Rattle.emdf_format.specs.Reader.{Reader, present}
use Rattle.emdf_format.specs.declared.EmdfError.{EmdfError}
use Rattle.emdf_fields.specs.Fields.{answer}

-- a setting whose presence was computed
pub present-as : {a : Result (Option ℕ × BitCursor) EmdfError} {t t' : Bool} (r : Reader ℕ) (s : List ℕ) (e p : ℕ) → a ≡ answer e (present t r s e p) → t ≡ t' → a ≡ answer e (present t' r s e p)
present-as r s e p h k = rw k at h
