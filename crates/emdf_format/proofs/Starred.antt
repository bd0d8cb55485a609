-- The starred carriers of the scope, on the definitions, as one statement. Assumes nothing.
use mathlib.Core.Path.{◌≡◌, refl}
use mathlib.Core.Bool.{true, false}
use mathlib.Core.List.{List, [], ◌∷◌, ◌++◌}
use Prim.Native.Nat.{ℕ, ◌-◌, ◌*◌, ◌^◌}
use lib.ListN.{length}
use Rattle.std.specs.Prelude.{Option, Some, None, Ok, Err}
use Rattle.openjoc_bitio.specs.Bits.{bit_at, bits_value, number_bits}
use Rattle.openjoc_bitio.specs.Cursor.{bit_length, bits_remaining, read_bits}
use Rattle.openjoc_bitio.specs.declared.BitError.TheVariants.{EndOfInput}
use Rattle.emdf_format.specs.declared.TruncatedPart.TheVariants as TruncatedPart
use Rattle.emdf_format.specs.declared.EmdfError.TheVariants.{TruncatedContainer, Bit, ExcessPadding}
use Rattle.emdf_format.specs.declared.EmdfPayloadConfig.{EmdfPayloadConfig}
use Rattle.emdf_format.specs.declared.Refusal.TheVariants.{One, Two}
use Rattle.emdf_format.specs.declared.JocValidationProfile.TheVariants.{EtsiStrict, ObservedVendorCompat}
use Rattle.emdf_format.specs.declared.EditError.TheVariants.{DestinationTooShort}
use Rattle.emdf_format.specs.Syntax.{◌⨟◌, groups_before, variable_field, count_before, groups, escape, extended_field, extended_groups, octet_bits, flagged_field, present_field}
use Rattle.emdf_format.specs.Contents.{◌&◌, iff, is_present, is_one, when_present, up_to, has_aligned, has_priority, present_as_ruled, writable_config, writable_payload, writable_payloads, protection_length, protection_code, codable, writable, extension_bits, flagged_bits, present_bits, needed_config, needed_payload, needed_payloads, needed_bits, declared, sample_offset_bits, codec_data_bits, config_bits, payload_bits, payloads_bits, protection_bits, container_bits, carrier_bits, bits_number, bytes_of, carrier}
use Rattle.emdf_format.specs.Reader.{and_then, ◌>>=◌, give, ask, choose, position, remaining, from_bits, bits, groups_from, variable_bits, extended_value, octets, present, flagged}
use Rattle.emdf_format.specs.Reading.{reserved, sample_offset_of, codec_data, config_controls, payload_config, Found, trace_of, payload_after, payloads, Container, padding, container_end, container, accepted, refusal, consumed, reading, payloads_of, contents_of}
use Rattle.emdf_format.specs.Refusals.{refusal_of}
use Rattle.emdf_format.specs.Calls.{non_emdf, trailing_data, class_of, classify}
use Rattle.emdf_format.specs.Profile.{meets, table56, deviates, differ, marks, deviations, word, ones, passes, allows, all_pass, meets_profile}
use Rattle.emdf_format.specs.Edits.{body_edit, drop_edit, with_at, with_payloads, cleared, change, place_exists, in_room, step_to, step, step_answer, written, step_from, edited}

abbrev A : List ℕ
A = 0x58 ∷ 0x38 ∷ 0x00 ∷ 0x03 ∷ 0x00 ∷ 0x12 ∷ 0x94 ∷ []

abbrev B : List ℕ
B = 0x58 ∷ 0x38 ∷ 0x00 ∷ 0x07 ∷ 0x00 ∷ 0x42 ∷ 0x02 ∷ 0xc3 ∷ 0x02 ∷ 0x52 ∷ 0x80 ∷ []

-- B without its payload, and with an empty body: its protection is cleared
abbrev dropped : List ℕ
dropped = 0x58 ∷ 0x38 ∷ 0x00 ∷ 0x03 ∷ 0x00 ∷ 0x10 ∷ 0x00 ∷ []

abbrev emptied : List ℕ
emptied = 0x58 ∷ 0x38 ∷ 0x00 ∷ 0x06 ∷ 0x00 ∷ 0x42 ∷ 0x00 ∷ 0x02 ∷ 0x00 ∷ 0x00 ∷ []

abbrev discarded : EmdfPayloadConfig
discarded = record {
  sample_offset = None;
  duration = None;
  group_id = None;
  codec_data_present = 0;
  discard_unknown_payload = 1;
  payload_frame_aligned = None;
  create_duplicate = None;
  remove_duplicate = None;
  priority = None;
  processing_allowed = None;
}

abbrev in_a : Container
in_a = record { key-id = 0; found = []; primary = 0xa5 ∷ []; secondary = [] }

abbrev found_b : Found
found_b = record { record_of = record { id = 1; config = discarded; trace = trace_of 37 42 47 56 64 }; body = 0xc3 ∷ [] }

abbrev in_b : Container
in_b = record { key-id = 0; found = found_b ∷ []; primary = 0xa5 ∷ []; secondary = [] }

-- destinations with a byte to spare
abbrev eight : List ℕ
eight = 9 ∷ 9 ∷ 9 ∷ 9 ∷ 9 ∷ 9 ∷ 9 ∷ 9 ∷ []

abbrev eleven : List ℕ
eleven = 9 ∷ 9 ∷ 9 ∷ eight

pub record Starred : Type 0 where
  pub A-reads : reading A ≡ accepted 7 in_a
  pub A-written : carrier (contents_of in_a) ≡ A
  pub A-padding : 8 * declared (contents_of in_a) - length (container_bits (contents_of in_a)) ≡ 2
  pub B-reads : reading B ≡ accepted 11 in_b
  pub B-written : carrier (contents_of in_b) ≡ B
  pub B-padding : 8 * declared (contents_of in_b) - length (container_bits (contents_of in_b)) ≡ 7
  pub drop-answers : (edited (drop_edit 0) B eight).answer ≡ Ok (record { 0 = 7 })
  pub drop-writes : (edited (drop_edit 0) B eight).destination ≡ dropped ++ 9 ∷ []
  pub drop-wants-room : (edited (drop_edit 0) B (9 ∷ [])).answer ≡ Err (DestinationTooShort (record { 0 = 7 }))
  pub body-answers : (edited (body_edit 0 []) B eleven).answer ≡ Ok (record { 0 = 10 })
  pub body-writes : (edited (body_edit 0 []) B eleven).destination ≡ emptied ++ 9 ∷ []
  pub ten-left : reading (0x58 ∷ 0x38 ∷ 0x00 ∷ 0x04 ∷ 0x00 ∷ 0x12 ∷ 0x94 ∷ 0x00 ∷ []) ≡ refusal (ExcessPadding 10)
  pub ten-left-refusal : refusal_of (ExcessPadding 10) ≡ One 11 10
  pub two_bytes : reading (0x58 ∷ 0x38 ∷ []) ≡ refusal (TruncatedContainer TruncatedPart.Header 4 2)
  pub two-bytes-refusal : refusal_of (TruncatedContainer TruncatedPart.Header 4 2) ≡ Two 21 4 2
  pub two-bytes-missing : reading (0x58 ∷ 0x38 ∷ 0x00 ∷ 0x04 ∷ 0x00 ∷ 0x00 ∷ []) ≡ refusal (TruncatedContainer TruncatedPart.Body 4 2)
  pub two-bytes-missing-refusal : refusal_of (TruncatedContainer TruncatedPart.Body 4 2) ≡ Two 1 4 2
  pub one_byte : classify (0x58 ∷ []) ≡ non_emdf
  pub A-trailed : classify (A ++ 0x00 ∷ []) ≡ trailing_data 7 8
  pub three : variable_field 2 3 ≡ 1 ∷ 1 ∷ 0 ∷ []
  pub four : variable_field 2 4 ≡ 0 ∷ 0 ∷ 1 ∷ 0 ∷ 0 ∷ 0 ∷ []
  pub nineteen : variable_field 2 19 ≡ 1 ∷ 1 ∷ 1 ∷ 1 ∷ 1 ∷ 0 ∷ []
  pub id-30 : length (extended_field 5 30) ≡ 5
  pub id-31 : extended_field 5 31 ≡ 1 ∷ 1 ∷ 1 ∷ 1 ∷ 1 ∷ 0 ∷ 0 ∷ 0 ∷ 0 ∷ 0 ∷ 0 ∷ []
  pub size-255 : length (variable_field 8 255) ≡ 9
  pub size-256 : length (variable_field 8 256) ≡ 18

pub starred : Starred
unfolding bit_at bits_value number_bits bit_length bits_remaining read_bits ◌⨟◌ groups_before variable_field count_before groups escape extended_field extended_groups octet_bits flagged_field present_field ◌&◌ iff is_present is_one when_present up_to has_aligned has_priority present_as_ruled writable_config writable_payload writable_payloads protection_length protection_code codable writable extension_bits flagged_bits present_bits needed_config needed_payload needed_payloads needed_bits declared sample_offset_bits codec_data_bits config_bits payload_bits payloads_bits protection_bits container_bits carrier_bits bits_number bytes_of carrier and_then ◌>>=◌ give ask choose position remaining from_bits bits groups_from variable_bits extended_value octets present flagged reserved sample_offset_of codec_data config_controls payload_config payload_after payloads padding container_end container consumed reading payloads_of class_of classify with_at with_payloads cleared change place_exists in_room step_to step step_answer written step_from edited
starred = record {
  A-reads = refl;
  A-written = refl;
  A-padding = refl;
  B-reads = refl;
  B-written = refl;
  B-padding = refl;
  drop-answers = refl;
  drop-writes = refl;
  drop-wants-room = refl;
  body-answers = refl;
  body-writes = refl;
  ten-left = refl;
  ten-left-refusal = refl;
  two_bytes = refl;
  two-bytes-refusal = refl;
  two-bytes-missing = refl;
  two-bytes-missing-refusal = refl;
  one_byte = refl;
  A-trailed = refl;
  three = refl;
  four = refl;
  nineteen = refl;
  id-30 = refl;
  id-31 = refl;
  size-255 = refl;
  size-256 = refl;
}

-- ---- mistakes at hand, as examples that tell them from what is right

-- settings that meet table 56, but for the group id
abbrev joined : Option ℕ → EmdfPayloadConfig
joined group = record {
  sample_offset = None;
  duration = None;
  group_id = group;
  codec_data_present = 1;
  discard_unknown_payload = 0;
  payload_frame_aligned = Some 1;
  create_duplicate = Some 0;
  remove_duplicate = Some 0;
  priority = Some 0;
  processing_allowed = Some 0;
}

-- settings that compat lets pass on OAMD alone
abbrev unaligned : EmdfPayloadConfig
unaligned = record {
  sample_offset = None;
  duration = None;
  group_id = Some 5;
  codec_data_present = 0;
  discard_unknown_payload = 0;
  payload_frame_aligned = Some 0;
  create_duplicate = None;
  remove_duplicate = None;
  priority = None;
  processing_allowed = None;
}

pub record Mistakes : Type 0 where
  -- padding is counted before it is looked at: ten bits, not all zero
  pub padding-length-first : reading (0x58 ∷ 0x38 ∷ 0x00 ∷ 0x04 ∷ 0x00 ∷ 0x12 ∷ 0x94 ∷ 0xff ∷ []) ≡ refusal (ExcessPadding 10)
  -- both codes are read before a primary code of 0 is refused: here the second is missing
  pub both-codes-first : reading (0x58 ∷ 0x38 ∷ 0x00 ∷ 0x02 ∷ 0x38 ∷ 0x00 ∷ []) ≡ refusal (Bit (EndOfInput 2 0))
  -- an escape adds to its base: key id 7 is 111 000 0
  pub escape-with-base : reading (0x58 ∷ 0x38 ∷ 0x00 ∷ 0x04 ∷ 0x38 ∷ 0x01 ∷ 0x29 ∷ 0x40 ∷ []) ≡ accepted 8 (record { key-id = 7; found = []; primary = 0xa5 ∷ []; secondary = [] })
  -- two absent group ids don't differ; one beside a present one is missed, and differs
  pub both-absent : ones (deviations (joined None) (joined None)) ≡ 2
  pub joc-absent : ones (deviations (joined (Some 5)) (joined None)) ≡ 2
  pub unequal : word (deviations (joined (Some 5)) (joined (Some 6))) ≡ 2 ^ 20
  pub equal : ones (deviations (joined (Some 5)) (joined (Some 5))) ≡ 0
  -- compat goes by values, and by the payload
  pub oamd-unaligned : meets_profile ObservedVendorCompat unaligned (joined (Some 5)) ≡ true
  pub joc-unaligned : meets_profile ObservedVendorCompat (joined (Some 5)) unaligned ≡ false
  pub not-strict : meets_profile EtsiStrict unaligned (joined (Some 5)) ≡ false

pub mistakes : Mistakes
unfolding bit_at bits_value number_bits bit_length bits_remaining read_bits ◌⨟◌ groups_before variable_field count_before groups escape extended_field extended_groups octet_bits flagged_field present_field ◌&◌ iff is_present is_one when_present up_to has_aligned has_priority present_as_ruled writable_config writable_payload writable_payloads protection_length protection_code codable writable extension_bits flagged_bits present_bits needed_config needed_payload needed_payloads needed_bits declared sample_offset_bits codec_data_bits config_bits payload_bits payloads_bits protection_bits container_bits carrier_bits bits_number bytes_of carrier and_then ◌>>=◌ give ask choose position remaining from_bits bits groups_from variable_bits extended_value octets present flagged reserved sample_offset_of codec_data config_controls payload_config payload_after payloads padding container_end container consumed reading payloads_of differ meets marks deviates table56 deviations word ones passes allows all_pass meets_profile
mistakes = record {
  padding-length-first = refl;
  both-codes-first = refl;
  escape-with-base = refl;
  both-absent = refl;
  joc-absent = refl;
  unequal = refl;
  equal = refl;
  oamd-unaligned = refl;
  joc-unaligned = refl;
  not-strict = refl;
}
