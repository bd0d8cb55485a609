-- What a request asks for: the edit, the bits that it replaces, and what it brings. Assumes nothing.
use Rattle.std.specs.Prelude.{true, List, [], ℕ, ◌+◌, ◌*◌, ◌^◌, length, ltb}
use Rattle.emdf_format.specs.Syntax.{◌⨟◌, variable_field, groups, extended_field, octet_bits}
use Rattle.emdf_format.specs.Contents.{Payload, config_bits, payload_bits, protection_bits, extension_bits, needed_config, writable_config, writable_payload}
use Rattle.emdf_format.specs.Edits.{Edit, body_edit, settings_edit, drop_edit, insert_edit, key_edit, protection_edit}
use Rattle.emdf_measure.specs.Parts.{writable_protection}
use Rattle.emdf_request.specs.declared.Request.{Request}
use Rattle.emdf_request.specs.declared.Edge.TheVariants.{Key, First, Id, Config, Size, Next, Codes, Protection, End}
use Rattle.emdf_request.specs.declared.Stretch.{Stretch}
use Rattle.emdf_request.specs.declared.Brought.{Brought}

-- ---- the edit that a request asks for: octets are the new body, or the new primary protection

unfoldable pub edit_of : Request → List ℕ → List ℕ → Edit
edit_of (Request.Body place) octets secondary = body_edit place octets
edit_of (Request.Settings place config) octets secondary = settings_edit place config
edit_of (Request.Drop place) octets secondary = drop_edit place
edit_of (Request.Insert place id config) octets secondary = insert_edit place id config octets
edit_of (Request.Key id) octets secondary = key_edit id
edit_of Request.Protection octets secondary = protection_edit octets secondary

-- ---- how it is written: the bits of a stretch are replaced by new ones, and what follows those that are kept is cleared

abbrev pub stretch_of : Request → Stretch
stretch_of (Request.Body place) = record { place = place; from = Size; to = Next; kept = Protection }
stretch_of (Request.Settings place config) = record { place = place; from = Config; to = Size; kept = Protection }
stretch_of (Request.Drop place) = record { place = place; from = Id; to = Next; kept = Protection }
stretch_of (Request.Insert place id config) = record { place = place; from = Id; to = Id; kept = Protection }
stretch_of (Request.Key id) = record { place = 0; from = Key; to = First; kept = Protection }
stretch_of Request.Protection = record { place = 0; from = Codes; to = End; kept = End }

-- the new bits, how many they are, and what 17 asks of them
pub record Bringing : Type 0 where
  pub brought : Brought
  pub bits : List ℕ

unfoldable pub bringing : Request → List ℕ → List ℕ → Bringing
bringing (Request.Body place) octets secondary =
    record {
      brought = record { writable = true; fields = 9 * groups 8 (length octets); octets = length octets };
      bits = variable_field 8 (length octets) ⨟ octet_bits octets;
    }
bringing (Request.Settings place config) octets secondary =
    record {
      brought = record { writable = writable_config config; fields = needed_config config; octets = 0 };
      bits = config_bits config;
    }
bringing (Request.Drop place) octets secondary =
    record { brought = record { writable = true; fields = 0; octets = 0 }; bits = [] }
bringing (Request.Insert place id config) octets secondary =
    let x : Payload = record { id = id; config = config; body = octets } in
    let fields : ℕ = 5 + extension_bits 5 id + needed_config config + 9 * groups 8 (length octets) in
    record {
      brought = record { writable = writable_payload x; fields = fields; octets = length octets };
      bits = payload_bits x;
    }
bringing (Request.Key id) octets secondary =
    record {
      brought = record { writable = ltb id (2 ^ 64); fields = 3 + extension_bits 3 id; octets = 0 };
      bits = extended_field 3 id;
    }
bringing Request.Protection octets secondary =
    record {
      brought = record { writable = writable_protection octets secondary; fields = 4; octets = length octets + length secondary };
      bits = protection_bits octets secondary;
    }

abbrev pub new_bits : Request → List ℕ → List ℕ → List ℕ
new_bits q octets secondary = (bringing q octets secondary).bits
