-- Contents of a container: which are writable, how many bits they need, and the carrier that they are written as. Assumes nothing.
use Rattle.std.specs.Prelude.{Bool, true, false, not, ◌||◌, List, [], ◌∷◌, ℕ, zero, suc, ◌+◌, ◌-◌, ◌*◌, ◌/◌, ◌^◌, length, take, drop, leb, ltb, eqb, if◌then◌else◌, Option, Some, None}
use Rattle.openjoc_bitio.specs.Bits.{number_bits}
use Rattle.emdf_format.specs.Types.{EmdfPayloadConfig}
use Rattle.emdf_format.specs.Syntax.{syncword, ◌⨟◌, variable_field, groups, extended_field, extended_groups, octet_bits, flagged_field, present_field}

-- ---- contents: the scope, 'Contents and edits'

pub record Payload : Type 0 where
  pub id : ℕ
  pub config : EmdfPayloadConfig
  pub body : List ℕ

pub record Contents : Type 0 where
  pub key-id : ℕ
  pub payloads : List Payload
  pub primary : List ℕ
  pub secondary : List ℕ

-- ---- tests

infixr 35 ◌&◌
-- and: unlike the library's _&&_ it stays shut until a proof opens it
unfoldable pub ◌&◌ : Bool → Bool → Bool
true & b = b
false & b = false

-- both hold, or neither
unfoldable pub iff : Bool → Bool → Bool
iff true b = b
iff false b = not b

unfoldable pub is_present : Option ℕ → Bool
is_present None = false
is_present (Some v) = true

unfoldable pub is_one : Option ℕ → Bool
is_one None = false
is_one (Some v) = eqb v 1

-- what is asked of a value, where there is one
unfoldable pub when_present : (ℕ → Bool) → Option ℕ → Bool
when_present test None = true
when_present test (Some v) = test v

unfoldable pub up_to : ℕ → ℕ → Bool
up_to n v = leb v n

-- ---- which settings are present, as the original has it

-- payload_frame_aligned: discard is 0, and there is no sample offset
unfoldable pub has_aligned : ℕ → Option ℕ → Bool
has_aligned discard sample-offset = eqb discard 0 & not (is_present sample-offset)

-- priority and processing: discard is 0, and there is a sample offset, or the payload is frame aligned
unfoldable pub has_priority : ℕ → Option ℕ → Option ℕ → Bool
has_priority discard sample-offset aligned = eqb discard 0 & (is_present sample-offset || is_one aligned)

-- present exactly where the rule says so, and then at most n
unfoldable pub present_as_ruled : Bool → ℕ → Option ℕ → Bool
present_as_ruled there n o = when_present (up_to n) o & iff (is_present o) there

-- ---- writable

unfoldable pub writable_config : EmdfPayloadConfig → Bool
writable_config t =
    when_present (up_to 2047) t.sample_offset
    & when_present (up_to 4_196_351) t.duration
    & when_present (up_to 6_148_914_691_236_517_203) t.group_id
    & up_to 1 t.codec_data_present
    & up_to 1 t.discard_unknown_payload
    & present_as_ruled (has_aligned t.discard_unknown_payload t.sample_offset) 1 t.payload_frame_aligned
    & present_as_ruled (is_one t.payload_frame_aligned) 1 t.create_duplicate
    & present_as_ruled (is_one t.payload_frame_aligned) 1 t.remove_duplicate
    & present_as_ruled (has_priority t.discard_unknown_payload t.sample_offset t.payload_frame_aligned) 31 t.priority
    & present_as_ruled (has_priority t.discard_unknown_payload t.sample_offset t.payload_frame_aligned) 3 t.processing_allowed

unfoldable pub writable_payload : Payload → Bool
writable_payload x = leb 1 x.id & ltb x.id (2 ^ 64) & writable_config x.config

unfoldable pub writable_payloads : List Payload → Bool
writable_payloads [] = true
writable_payloads (x ∷ xs) = writable_payload x & writable_payloads xs

-- the length of a protection by its code, as the original has it; a code by its length
unfoldable pub protection_length : ℕ → ℕ
protection_length zero = 0
protection_length (suc zero) = 1
protection_length (suc (suc zero)) = 4
protection_length (suc (suc (suc c))) = 16

unfoldable pub protection_code : ℕ → ℕ
protection_code n = if eqb n 0 then 0 else (if eqb n 1 then 1 else (if eqb n 4 then 2 else 3))

unfoldable pub codable : ℕ → Bool
codable n = eqb n (protection_length (protection_code n))

unfoldable pub writable : Contents → Bool
writable c =
    ltb c.key-id (2 ^ 64)
    & writable_payloads c.payloads
    & not (eqb (length c.primary) 0)
    & codable (length c.primary)
    & codable (length c.secondary)

-- ---- the bits that they need

-- the variable field after an escape
unfoldable pub extension_bits : ℕ → ℕ → ℕ
extension_bits w v = (w + 1) * extended_groups w v

unfoldable pub flagged_bits : (ℕ → ℕ) → Option ℕ → ℕ
flagged_bits field None = 1
flagged_bits field (Some v) = 1 + field v

unfoldable pub present_bits : ℕ → Option ℕ → ℕ
present_bits w None = 0
present_bits w (Some v) = w

unfoldable pub needed_config : EmdfPayloadConfig → ℕ
needed_config t =
    flagged_bits (λ v. 12) t.sample_offset
    + flagged_bits (λ v. 12 * groups 11 v) t.duration
    + flagged_bits (λ v. 3 * groups 2 v) t.group_id
    + (if eqb t.codec_data_present 0 then 1 else 9)
    + 1
    + present_bits 1 t.payload_frame_aligned
    + present_bits 1 t.create_duplicate
    + present_bits 1 t.remove_duplicate
    + present_bits 5 t.priority
    + present_bits 2 t.processing_allowed

unfoldable pub needed_payload : Payload → ℕ
needed_payload x = 5 + extension_bits 5 x.id + needed_config x.config + 9 * groups 8 (length x.body) + 8 * length x.body

unfoldable pub needed_payloads : List Payload → ℕ
needed_payloads [] = 0
needed_payloads (x ∷ xs) = needed_payload x + needed_payloads xs

unfoldable pub needed_bits : Contents → ℕ
needed_bits c =
    5 + extension_bits 3 c.key-id + needed_payloads c.payloads + 5 + 4 + 8 * (length c.primary + length c.secondary)

unfoldable pub declared : Contents → ℕ
declared c = (needed_bits c + 7) / 8

-- ---- the bits that they are written as

-- a sample offset and its reserved bit
unfoldable pub sample_offset_bits : ℕ → List ℕ
sample_offset_bits v = number_bits 11 v ⨟ (0 ∷ [])

-- the codec flag and, where it is set, the reserved octet
unfoldable pub codec_data_bits : ℕ → List ℕ
codec_data_bits zero = 0 ∷ []
codec_data_bits (suc c) = 1 ∷ number_bits 8 0

-- the settings of a payload
unfoldable pub config_bits : EmdfPayloadConfig → List ℕ
config_bits t =
    flagged_field sample_offset_bits t.sample_offset
    ⨟ flagged_field (variable_field 11) t.duration
    ⨟ flagged_field (variable_field 2) t.group_id
    ⨟ codec_data_bits t.codec_data_present
    ⨟ number_bits 1 t.discard_unknown_payload
    ⨟ present_field (number_bits 1) t.payload_frame_aligned
    ⨟ present_field (number_bits 1) t.create_duplicate
    ⨟ present_field (number_bits 1) t.remove_duplicate
    ⨟ present_field (number_bits 5) t.priority
    ⨟ present_field (number_bits 2) t.processing_allowed

-- a payload: its id, its settings, its size and its octets
unfoldable pub payload_bits : Payload → List ℕ
payload_bits x =
    extended_field 5 x.id ⨟ config_bits x.config ⨟ variable_field 8 (length x.body) ⨟ octet_bits x.body

-- the payloads, and the id 0 that ends them
unfoldable pub payloads_bits : List Payload → List ℕ
payloads_bits [] = number_bits 5 0
payloads_bits (x ∷ xs) = payload_bits x ⨟ payloads_bits xs

-- the two codes and the two protections
unfoldable pub protection_bits : List ℕ → List ℕ → List ℕ
protection_bits primary secondary =
    number_bits 2 (protection_code (length primary))
    ⨟ number_bits 2 (protection_code (length secondary))
    ⨟ octet_bits primary
    ⨟ octet_bits secondary

-- the container: version 0, the key id, the payloads, the protection
unfoldable pub container_bits : Contents → List ℕ
container_bits c =
    number_bits 2 0
    ⨟ extended_field 3 c.key-id
    ⨟ payloads_bits c.payloads
    ⨟ protection_bits c.primary c.secondary

-- the carrier: the sync word, the declared length, the container, zero bits to the byte
unfoldable pub carrier_bits : Contents → List ℕ
carrier_bits c =
    number_bits 16 syncword
    ⨟ number_bits 16 (declared c)
    ⨟ container_bits c
    ⨟ number_bits (8 * declared c - length (container_bits c)) 0

-- the number that bits make, the first the most significant; n bytes of bits
unfoldable pub bits_number : List ℕ → ℕ
bits_number [] = 0
bits_number (b ∷ bs) = b * 2 ^ length bs + bits_number bs

unfoldable pub bytes_of : ℕ → List ℕ → List ℕ
bytes_of zero bs = []
bytes_of (suc n) bs = bits_number (take 8 bs) ∷ bytes_of n (drop 8 bs)

unfoldable pub carrier : Contents → List ℕ
carrier c = bytes_of (4 + declared c) (carrier_bits c)

-- ---- bytes: what every slice holds, and so nothing that a call has to ask

unfoldable pub all_bytes : List ℕ → Bool
all_bytes [] = true
all_bytes (b ∷ bs) = ltb b 256 & all_bytes bs

unfoldable pub bodies_are_bytes : List Payload → Bool
bodies_are_bytes [] = true
bodies_are_bytes (x ∷ xs) = all_bytes x.body & bodies_are_bytes xs

unfoldable pub contents_are_bytes : Contents → Bool
contents_are_bytes c = bodies_are_bytes c.payloads & all_bytes c.primary & all_bytes c.secondary
