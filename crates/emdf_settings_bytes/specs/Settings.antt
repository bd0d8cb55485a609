-- The byte form of settings, as in a row of a reading's table: docs/HOST.md, 'Settings'. Assumes nothing.
use Rattle.std.specs.Prelude.{ℕ, zero, suc, ◌+◌, Bool, true, List, length, eqb, if◌then◌else◌, Option, Some, None}
use Rattle.emdf_format.specs.Contents.{◌&◌}
use Rattle.emdf_answers.specs.Form.{settings_bytes, number_at}
use Rattle.emdf_format.specs.declared.EmdfPayloadConfig.{EmdfPayloadConfig}

-- a setting that may be absent: its presence, and its value
unfoldable pub optional_at : List ℕ → ℕ → Option ℕ
optional_at s k = if eqb (number_at s k) 0 then None else Some (number_at s (k + 1))

-- a presence is 0 or 1, and 0 stands behind 0
unfoldable pub pair_formed : List ℕ → ℕ → Bool
pair_formed s k = if eqb (number_at s k) 0 then eqb (number_at s (k + 1)) 0 else eqb (number_at s k) 1

-- n pairs, from number k on
unfoldable pub pairs_formed : List ℕ → ℕ → ℕ → Bool
pairs_formed s k zero = true
pairs_formed s k (suc n) = pair_formed s k & pairs_formed s (k + 2) n

-- of the 18 numbers, 6 and 7 have no presence
unfoldable pub settings_formed : List ℕ → Bool
settings_formed s = pairs_formed s 0 3 & pairs_formed s 8 5

unfoldable pub config_of : List ℕ → EmdfPayloadConfig
config_of s =
    record {
      sample_offset = optional_at s 0;
      duration = optional_at s 2;
      group_id = optional_at s 4;
      codec_data_present = number_at s 6;
      discard_unknown_payload = number_at s 7;
      payload_frame_aligned = optional_at s 8;
      create_duplicate = optional_at s 10;
      remove_duplicate = optional_at s 12;
      priority = optional_at s 14;
      processing_allowed = optional_at s 16;
    }

-- what stands for bytes outside the form: settings that are not writable, since no bit is 2
abbrev pub unformed : EmdfPayloadConfig
unformed =
    record {
      sample_offset = None;
      duration = None;
      group_id = None;
      codec_data_present = 2;
      discard_unknown_payload = 1;
      payload_frame_aligned = None;
      create_duplicate = None;
      remove_duplicate = None;
      priority = None;
      processing_allowed = None;
    }

unfoldable pub settings_of : List ℕ → EmdfPayloadConfig
settings_of s = if eqb (length s) settings_bytes & settings_formed s then config_of s else unformed
