-- The scope's carriers, and what is printed for them. Assumes nothing.
use mathlib.Core.Path.{◌≡◌, refl}
use mathlib.Core.List.{List, [], ◌∷◌, ◌++◌}
use Prim.Native.Nat.{ℕ}
use Rattle.openjoc_bitio.specs.Bits.{bit_at, bits_value}
use Rattle.openjoc_bitio.specs.Cursor.{bit_length, bits_remaining, read_bits}
use Rattle.emdf_format.specs.Syntax.{escape}
use Rattle.emdf_format.specs.Contents.{◌&◌, is_present, is_one, has_aligned, has_priority, protection_length}
use Rattle.emdf_format.specs.Reader.{and_then, ◌>>=◌, give, ask, choose, position, remaining, from_bits, bits, groups_from, variable_bits, extended_value, octets, present, flagged}
use Rattle.emdf_format.specs.Reading.{reserved, sample_offset_of, codec_data, config_controls, payload_config, payload_after, payloads, padding, container_end, container, consumed, reading}
use Rattle.emdf_format.specs.Calls.{records_of, class_of, classify}
use Rattle.emdf_text.specs.Lines.{ascii, digits, decimal, spaced, line}
use Rattle.emdfcheck.specs.Output.{record_line, record_lines, parsed_lines, class_lines, output}

abbrev A : List ℕ
A = 0x58 ∷ 0x38 ∷ 0x00 ∷ 0x03 ∷ 0x00 ∷ 0x12 ∷ 0x94 ∷ []

abbrev B : List ℕ
B = 0x58 ∷ 0x38 ∷ 0x00 ∷ 0x07 ∷ 0x00 ∷ 0x42 ∷ 0x02 ∷ 0xc3 ∷ 0x02 ∷ 0x52 ∷ 0x80 ∷ []

record Printed : Type 0 where
  pub for-A : output A ≡ ascii "parsed 7 0 0\n"
  pub for-B : output B ≡ ascii "parsed 11 0 1\n1 37 42 47 56 64\n"
  pub excess : output (0x58 ∷ 0x38 ∷ 0x00 ∷ 0x04 ∷ 0x00 ∷ 0x12 ∷ 0x94 ∷ 0x00 ∷ []) ≡ ascii "malformed 11\n"
  pub two_bytes : output (0x58 ∷ 0x38 ∷ []) ≡ ascii "malformed 21\n"
  pub two-bytes-missing : output (0x58 ∷ 0x38 ∷ 0x00 ∷ 0x04 ∷ 0x00 ∷ 0x00 ∷ []) ≡ ascii "malformed 1\n"
  pub one_byte : output (0x58 ∷ []) ≡ ascii "nonemdf\n"
  pub trailed : output (A ++ 0x00 ∷ []) ≡ ascii "trailing 7 8\n"

printed : Printed
unfolding bit_at bits_value bit_length bits_remaining read_bits escape ◌&◌ is_present is_one has_aligned has_priority protection_length and_then ◌>>=◌ give ask choose position remaining from_bits bits groups_from variable_bits extended_value octets present flagged reserved sample_offset_of codec_data config_controls payload_config payload_after payloads padding container_end container consumed reading records_of class_of classify digits decimal spaced line record_line record_lines parsed_lines class_lines output
printed = record { for-A = refl; for-B = refl; excess = refl; two_bytes = refl; two-bytes-missing = refl; one_byte = refl; trailed = refl }
