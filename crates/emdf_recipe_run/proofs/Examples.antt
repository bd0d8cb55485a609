-- A run over two buffers, by computation on the definitions: an edit that is accepted, one that is refused, one that is accepted. Assumes nothing.
use mathlib.Core.Path.{◌≡◌, refl}
use mathlib.Core.List.{List, [], ◌∷◌, ◌++◌}
use Prim.Native.Nat.{ℕ}
use Rattle.openjoc_bitio.specs.Bits.{bit_at, bits_value, number_bits}
use Rattle.openjoc_bitio.specs.Cursor.{bit_length, bits_remaining, read_bits}
use Rattle.emdf_format.specs.Syntax.{◌⨟◌, groups_before, variable_field, count_before, groups, escape, extended_field, extended_groups, octet_bits, flagged_field, present_field}
use Rattle.emdf_format.specs.Contents.{◌&◌, iff, is_present, is_one, when_present, up_to, has_aligned, has_priority, present_as_ruled, writable_config, writable_payload, writable_payloads, protection_length, protection_code, codable, writable, extension_bits, flagged_bits, present_bits, needed_config, needed_payload, needed_payloads, needed_bits, declared, sample_offset_bits, codec_data_bits, config_bits, payload_bits, payloads_bits, protection_bits, container_bits, carrier_bits, bits_number, bytes_of, carrier}
use Rattle.emdf_format.specs.Reader.{and_then, ◌>>=◌, give, ask, choose, position, remaining, from_bits, bits, groups_from, variable_bits, extended_value, octets, present, flagged}
use Rattle.emdf_format.specs.Reading.{reserved, sample_offset_of, codec_data, config_controls, payload_config, payload_after, payloads, padding, container_end, container, consumed, reading, payloads_of}
use Rattle.emdf_format.specs.Edits.{body_edit, drop_edit, with_at, with_payloads, cleared, change, place_exists, in_room, step_to, step, step_answer, written, step_from, edited}
use Rattle.emdf_recipe.specs.File.{edits}
use Rattle.emdf_recipe_run.specs.declared.Holder.TheVariants.{Second}
use Rattle.emdf_recipe_run.specs.Runs.{source, target, first_after, second_after, counted, ran_edit, ran_edits, begun_answer, begun, run_of}

-- the scope's carrier B, and what edits leave of it: an empty body, and no payload
abbrev B : List ℕ
B = 0x58 ∷ 0x38 ∷ 0x00 ∷ 0x07 ∷ 0x00 ∷ 0x42 ∷ 0x02 ∷ 0xc3 ∷ 0x02 ∷ 0x52 ∷ 0x80 ∷ []

abbrev emptied : List ℕ
emptied = 0x58 ∷ 0x38 ∷ 0x00 ∷ 0x06 ∷ 0x00 ∷ 0x42 ∷ 0x00 ∷ 0x02 ∷ 0x00 ∷ 0x00 ∷ []

abbrev dropped : List ℕ
dropped = 0x58 ∷ 0x38 ∷ 0x00 ∷ 0x03 ∷ 0x00 ∷ 0x10 ∷ 0x00 ∷ []

-- buffers with a byte to spare
abbrev eight : List ℕ
eight = 9 ∷ 9 ∷ 9 ∷ 9 ∷ 9 ∷ 9 ∷ 9 ∷ 9 ∷ []

abbrev eleven : List ℕ
eleven = 9 ∷ 9 ∷ 9 ∷ eight

pub three-edits : run_of (edits (body_edit 0 [] ∷ drop_edit 1 ∷ drop_edit 0 ∷ [])) B eleven eight
    ≡ record { answer = record { holder = Second; length = record { 0 = 7 }; refused = 1 }; first = emptied ++ 9 ∷ []; second = dropped ++ 9 ∷ [] }
unfolding bit_at bits_value number_bits bit_length bits_remaining read_bits ◌⨟◌ groups_before variable_field count_before groups escape extended_field extended_groups octet_bits flagged_field present_field ◌&◌ iff is_present is_one when_present up_to has_aligned has_priority present_as_ruled writable_config writable_payload writable_payloads protection_length protection_code codable writable extension_bits flagged_bits present_bits needed_config needed_payload needed_payloads needed_bits declared sample_offset_bits codec_data_bits config_bits payload_bits payloads_bits protection_bits container_bits carrier_bits bits_number bytes_of carrier and_then ◌>>=◌ give ask choose position remaining from_bits bits groups_from variable_bits extended_value octets present flagged reserved sample_offset_of codec_data config_controls payload_config payload_after payloads padding container_end container consumed reading payloads_of with_at with_payloads cleared change place_exists in_room step_to step step_answer written step_from edited source target first_after second_after counted ran_edit ran_edits begun_answer begun run_of
three-edits = refl
