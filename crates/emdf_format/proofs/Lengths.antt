-- How long what is written is: the bits formula. Assumes nothing.
use mathlib.Core.Path.{◌≡◌, refl}
use mathlib.Core.Bool.{Bool, true, false}
use mathlib.Core.List.{List, [], ◌∷◌}
use Prim.Native.Nat.{ℕ, zero, suc, ◌+◌, ◌-◌, ◌*◌}
use native.Mathlib.Omega.{arith}
use lib.ListN.{length}
use lib.Dec.{ltb, eqb, eqb-suc-zero}
use Rattle.std.specs.Prelude.{if◌then◌else◌, Option, Some, None}
use Rattle.openjoc_bitio.specs.Bits.{number_bits}
use Rattle.openjoc_bitio.proofs.Bits.{length-number}
use Rattle.emdf_format.specs.declared.EmdfPayloadConfig.{EmdfPayloadConfig}
use Rattle.emdf_format.specs.Syntax.{◌⨟◌, variable_field, groups, escape, extended_field, extended_groups, flagged_field, present_field}
use Rattle.emdf_format.specs.Contents.{Payload, Contents, codec_data_bits, sample_offset_bits, config_bits, payload_bits, payloads_bits, protection_bits, container_bits, extension_bits, flagged_bits, present_bits, needed_config, needed_payload, needed_payloads, needed_bits}
use Rattle.emdf_format.proofs.Standing.{length-then}
use Rattle.emdf_format.proofs.Variable.{length-field}
use Rattle.emdf_format.proofs.Payloads.{length-octets}

-- ---- the bits formula

pub length-extended : (w v : ℕ) → length (extended_field w v) ≡ w + extension_bits w v
unfolding extended_field extension_bits extended_groups
length-extended w v = by (ltb v (escape w))
  where
    by : (t : Bool) → length (if t then number_bits w v else number_bits w (escape w) ⨟ variable_field w (v - escape w)) ≡ w + (w + 1) * (if t then 0 else groups w (v - escape w))
    by true = rw length-number (omega arith)
    by false = simp (length-then, length-number, length-field)

length-flagged : (wr : ℕ → List ℕ) (f : ℕ → ℕ) (o : Option ℕ) → ((v : ℕ) → length (wr v) ≡ f v) → length (flagged_field wr o) ≡ flagged_bits f o
unfolding flagged_field flagged_bits
length-flagged wr f None h = refl
length-flagged wr f (Some v) h = omega (arith, h v)

length-present : (w : ℕ) (o : Option ℕ) → length (present_field (number_bits w) o) ≡ present_bits w o
unfolding present_field present_bits
length-present w None = refl
length-present w (Some v) = length-number w v

length-codec : (c : ℕ) → length (codec_data_bits c) ≡ (if eqb c 0 then 1 else 9)
unfolding codec_data_bits
length-codec zero = refl
length-codec (suc c) = rw (eqb-suc-zero c) (omega (arith, length-number 8 0))

length-sample : (v : ℕ) → length (sample_offset_bits v) ≡ 12
unfolding sample_offset_bits
length-sample v = rw (length-then, length-number)

pub length-config : (t : EmdfPayloadConfig) → length (config_bits t) ≡ needed_config t
unfolding config_bits needed_config
length-config t =
    simp length-then (omega (
      arith,
      length-flagged sample_offset_bits (λ v. 12) t.sample_offset length-sample,
      length-flagged (variable_field 11) (λ v. 12 * groups 11 v) t.duration (length-field 11),
      length-flagged (variable_field 2) (λ v. 3 * groups 2 v) t.group_id (length-field 2),
      length-codec t.codec_data_present,
      length-number 1 t.discard_unknown_payload,
      length-present 1 t.payload_frame_aligned,
      length-present 1 t.create_duplicate,
      length-present 1 t.remove_duplicate,
      length-present 5 t.priority,
      length-present 2 t.processing_allowed,
    ))

pub length-payload : (x : Payload) → length (payload_bits x) ≡ needed_payload x
unfolding payload_bits needed_payload
length-payload x =
    simp length-then (omega (arith, length-extended 5 x.id, length-config x.config, length-field 8 (length x.body), length-octets x.body))

pub length-payloads : (xs : List Payload) → length (payloads_bits xs) ≡ needed_payloads xs + 5
unfolding payloads_bits needed_payloads
length-payloads [] = length-number 5 0
length-payloads (x ∷ xs) = simp length-then (omega (arith, length-payload x, length-payloads xs))

-- the bits of contents are as many as the formula says
pub length-container : (c : Contents) → length (container_bits c) ≡ needed_bits c
unfolding container_bits needed_bits protection_bits
length-container c =
    simp (length-then, length-number) (omega (arith, length-extended 3 c.key-id, length-payloads c.payloads, length-octets c.primary, length-octets c.secondary))
