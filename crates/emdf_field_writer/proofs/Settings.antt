-- The bits of settings, as they are put. Assumes nothing.
use mathlib.Core.Path.{◌≡◌, refl}
use mathlib.Core.List.{List, []}
use Prim.Native.Nat.{ℕ, zero, suc}
use Rattle.std.specs.Prelude.{Option, Some, None}
use Rattle.openjoc_bitio.specs.Bits.{number_bits}
use Rattle.emdf_format.specs.declared.EmdfPayloadConfig.{EmdfPayloadConfig}
use Rattle.emdf_format.specs.Syntax.{◌⨟◌, variable_field, flagged_field, present_field}
use Rattle.emdf_format.specs.Contents.{sample_offset_bits, codec_data_bits, config_bits}
use Rattle.emdf_format.proofs.Splice.{⨟-assoc}
use Rattle.emdf_field_writer.specs.Fields.{variable_groups, timing_bits, controls_bits}
use Rattle.emdf_field_writer.proofs.Putting.{groups-field}

-- ---- fields that may be absent

module _ {o : Option ℕ} (field : ℕ → List ℕ) where
  pub flag-clear : o ≡ None → flagged_field field o ≡ number_bits 1 0
  unfolding flagged_field number_bits
  flag-clear h = rw h

  flag-set : {v : ℕ} → o ≡ Some v → flagged_field field o ≡ number_bits 1 1 ⨟ field v
  unfolding flagged_field number_bits ◌⨟◌
  flag-set h = rw h

  pub field-absent : o ≡ None → present_field field o ≡ []
  unfolding present_field
  field-absent h = rw h

  pub field-present : {v : ℕ} → o ≡ Some v → present_field field o ≡ field v
  unfolding present_field
  field-present h = rw h

-- the reserved bit is put as a number
pub offset-set : {o : Option ℕ} {v : ℕ} → o ≡ Some v → flagged_field sample_offset_bits o ≡ number_bits 1 1 ⨟ number_bits 11 v ⨟ number_bits 1 0
unfolding sample_offset_bits number_bits
offset-set h = flag-set sample_offset_bits h

pub variable-set : (w : ℕ) {o : Option ℕ} {v : ℕ} → o ≡ Some v → flagged_field (variable_field w) o ≡ number_bits 1 1 ⨟ variable_groups w v 0
variable-set w h = rw (flag-set (variable_field w) h, groups-field)

-- ---- the codec flag

pub codec-clear : {flag : ℕ} → flag ≡ 0 → codec_data_bits flag ≡ number_bits 1 0
unfolding codec_data_bits number_bits
codec-clear h = rw h

pub codec-set : (flag : ℕ) → (flag ≡ 0 → ⊥) → codec_data_bits flag ≡ number_bits 1 1 ⨟ number_bits 8 0
unfolding codec_data_bits number_bits ◌⨟◌
codec-set zero h = absurd (h refl)
codec-set (suc n) h = refl

-- ---- all of them

pub config-parts : (t : EmdfPayloadConfig) → config_bits t ≡ timing_bits t ⨟ codec_data_bits t.codec_data_present ⨟ controls_bits t
unfolding config_bits timing_bits controls_bits
config-parts t = simp ⨟-assoc
