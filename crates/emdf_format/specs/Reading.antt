-- The reading of a carrier: its fields in order, with the scope's questions 1 to 12 each in its place. Assumes nothing.
use Rattle.std.specs.Prelude.{false, not, List, [], ◌∷◌, ℕ, zero, suc, ◌+◌, ◌-◌, ◌*◌, length, take, leb, ltb, eqb, if◌then◌else◌, Option}
use Rattle.openjoc_bitio.specs.Bits.{bits_value}
use Rattle.openjoc_bitio.specs.declared.BitError.TheVariants.{EndOfInput}
use Rattle.emdf_format.specs.Types.{EmdfError, EmdfPayloadConfig, EmdfPayloadBitTrace, PayloadRecord}
use Rattle.emdf_format.specs.declared.TruncatedPart.TheVariants as TruncatedPart
use Rattle.emdf_format.specs.declared.EmdfError.TheVariants.{TruncatedContainer, InvalidSyncword, Bit, UnsupportedVersion, NonzeroReservedData, ReservedPrimaryProtectionLength, ExcessPadding, NonzeroPadding}
use Rattle.emdf_format.specs.Syntax.{syncword}
use Rattle.emdf_format.specs.Contents.{Payload, Contents, has_aligned, is_one, has_priority, protection_length}
use Rattle.emdf_format.specs.Reader.{Read, got, refused, Reader, ◌>>=◌, give, ask, choose, position, remaining, bits, variable_bits, extended_value, octets, present, flagged}

-- ---- settings

-- w reserved bits
unfoldable pub reserved : ℕ → Reader (Unit {0})
reserved w = do
  z ← bits w
  ask (eqb z 0) NonzeroReservedData

unfoldable pub sample_offset_of : Reader ℕ
sample_offset_of = do
  v ← bits 11
  _ ← reserved 1
  give v

unfoldable pub codec_data : Reader ℕ
codec_data = do
  flag ← bits 1
  _ ← choose (eqb flag 0) (give tt) (reserved 8)
  give flag

-- the settings whose presence depends on discard, on the sample offset and on aligned
unfoldable pub config_controls : Option ℕ → Option ℕ → Option ℕ → ℕ → ℕ → Reader EmdfPayloadConfig
config_controls sample-offset duration group-id codec discard = do
  aligned ← present (has_aligned discard sample-offset) (bits 1)
  create ← present (is_one aligned) (bits 1)
  remove ← present (is_one aligned) (bits 1)
  priority ← present (has_priority discard sample-offset aligned) (bits 5)
  processing ← present (has_priority discard sample-offset aligned) (bits 2)
  give (record {
    sample_offset = sample-offset;
    duration = duration;
    group_id = group-id;
    codec_data_present = codec;
    discard_unknown_payload = discard;
    payload_frame_aligned = aligned;
    create_duplicate = create;
    remove_duplicate = remove;
    priority = priority;
    processing_allowed = processing;
  })

unfoldable pub payload_config : Reader EmdfPayloadConfig
payload_config = do
  sample-offset ← flagged sample_offset_of
  duration ← flagged (variable_bits 11 2)
  group-id ← flagged (variable_bits 2 31)
  codec ← codec_data
  discard ← bits 1
  config_controls sample-offset duration group-id codec discard

-- ---- payloads, to the id 0 that ends them

-- a payload as it is found: what is recorded of it, and its octets
pub record Found : Type 0 where
  pub record_of : PayloadRecord
  pub body : List ℕ

-- the parts adjoin: each ends where the next one starts
abbrev pub trace_of : ℕ → ℕ → ℕ → ℕ → ℕ → EmdfPayloadBitTrace
trace_of id config size body end = record {
  payload_id_start_bit = record { 0 = id };
  payload_id_end_bit = record { 0 = config };
  config_start_bit = record { 0 = config };
  config_end_bit = record { 0 = size };
  payload_size_start_bit = record { 0 = size };
  payload_size_end_bit = record { 0 = body };
  payload_body_start_bit = record { 0 = body };
  payload_body_end_bit = record { 0 = end };
}

-- what follows the id that starts at p₀
unfoldable pub payload_after : ℕ → ℕ → Reader Found
payload_after p₀ id = do
  p₁ ← position
  config ← payload_config
  p₂ ← position
  size ← variable_bits 8 2
  p₃ ← position
  body ← octets size
  p₄ ← position
  give (record { record_of = record { id = id; config = config; trace = trace_of p₀ p₁ p₂ p₃ p₄ }; body = body })

-- n bounds how many there are; where it is 0 there are no bits left for another id
unfoldable pub payloads : ℕ → Reader (List Found)
payloads zero = do
  _ ← ask false (Bit (EndOfInput 5 0))
  give []
payloads (suc n) = do
  p₀ ← position
  id ← extended_value 5
  choose (eqb id 0) (give []) do
    x ← payload_after p₀ id
    xs ← payloads n
    give (x ∷ xs)

-- ---- protection, padding, container

pub record Container : Type 0 where
  pub key-id : ℕ
  pub found : List Found
  pub primary : List ℕ
  pub secondary : List ℕ

unfoldable pub padding : Reader (Unit {0})
padding = do
  n ← remaining
  _ ← ask (leb n 7) (ExcessPadding n)
  z ← bits n
  ask (eqb z 0) NonzeroPadding

-- what follows the payloads
unfoldable pub container_end : ℕ → List Found → Reader Container
container_end key-id found = do
  primary-code ← bits 2
  secondary-code ← bits 2
  _ ← ask (not (eqb primary-code 0)) ReservedPrimaryProtectionLength
  primary ← octets (protection_length primary-code)
  secondary ← octets (protection_length secondary-code)
  _ ← padding
  give (record { key-id = key-id; found = found; primary = primary; secondary = secondary })

unfoldable pub container : Reader Container
container = do
  version ← extended_value 2
  _ ← ask (eqb version 0) (UnsupportedVersion version)
  key-id ← extended_value 3
  n ← remaining
  found ← payloads n
  container_end key-id found

-- ---- the carrier

-- bytes consumed, and what they hold; or why not
pub data Reading : Type 0 where
  accepted : ℕ → Container → Reading
  refusal : EmdfError → Reading

unfoldable pub consumed : ℕ → Read Container → Reading
consumed n (got c q) = accepted n c
consumed n (refused why q) = refusal why

-- the container is looked for in the declared bytes alone, so that no byte after them matters
unfoldable pub reading : List ℕ → Reading
reading s =
    let sync : ℕ = bits_value s 0 16 in
    let d : ℕ = bits_value s 16 16 in
    if ltb (length s) 4
    then refusal (TruncatedContainer TruncatedPart.Header 4 (length s))
    else (if not (eqb sync syncword)
    then refusal (InvalidSyncword sync)
    else (if ltb (length s - 4) d
    then refusal (TruncatedContainer TruncatedPart.Body d (length s - 4))
    else consumed (4 + d) (container (take (4 + d) s) (8 * (4 + d)) 32)))

-- ---- the contents that a reading finds

abbrev pub payload_of : Found → Payload
payload_of x = record { id = x.record_of.id; config = x.record_of.config; body = x.body }

unfoldable pub payloads_of : List Found → List Payload
payloads_of [] = []
payloads_of (x ∷ xs) = payload_of x ∷ payloads_of xs

abbrev pub contents_of : Container → Contents
contents_of c = record { key-id = c.key-id; payloads = payloads_of c.found; primary = c.primary; secondary = c.secondary }
