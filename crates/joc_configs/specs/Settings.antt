-- A setting of a payload as the code has it, and whether it passes. Assumes nothing.
use Rattle.std.specs.Prelude.{Bool, ◌||◌, ℕ, Option}
use Rattle.emdf_format.specs.Profile.{Entry, meets, allows}
use Rattle.emdf_format.specs.declared.JocProfileValue.{JocProfileValue}
use Rattle.joc_configs.specs.declared.Setting.{Setting}

-- an entry of table 56 without its field
abbrev pub setting_of : Entry → Setting
setting_of x = record { wanted = x.wanted; allowed = x.allowed; found = x.found }

unfoldable pub passes_as : JocProfileValue → Option (Option ℕ) → Option ℕ → Bool
passes_as wanted allowed found = meets wanted found || allows allowed found
