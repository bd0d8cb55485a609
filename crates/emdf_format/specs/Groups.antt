-- How many groups the variable fields of contents have, and the largest number of them. Assumes nothing.
use Rattle.std.specs.Prelude.{List, [], ◌∷◌, ◌↔◌, ◌≡◌, ℕ, ◌+◌, ◌*◌, ◌≤◌, ◌<◌, length, ltb, if◌then◌else◌, Option, Some, None}
use Rattle.emdf_format.specs.Types.{EmdfPayloadConfig}
use Rattle.emdf_format.specs.Syntax.{groups, capacity, extended_groups}
use Rattle.emdf_format.specs.Contents.{Payload, Contents}
use Rattle.emdf_format.specs.Reader.{got, variable_bits}
use Rattle.emdf_format.specs.Reading.{Container, accepted, reading, contents_of}

abbrev pub larger : ℕ → ℕ → ℕ
larger a b = if ltb a b then b else a

unfoldable pub optional_groups : ℕ → Option ℕ → ℕ
optional_groups w None = 0
optional_groups w (Some v) = groups w v

-- of settings: the duration and the group id
abbrev pub config_groups : EmdfPayloadConfig → ℕ
config_groups t = larger (optional_groups 11 t.duration) (optional_groups 2 t.group_id)

-- of a payload: its id, its settings, its size
unfoldable pub payload_groups : Payload → ℕ
payload_groups x = larger (larger (extended_groups 5 x.id) (config_groups x.config)) (groups 8 (length x.body))

unfoldable pub payloads_groups : List Payload → ℕ
payloads_groups [] = 0
payloads_groups (x ∷ xs) = larger (payload_groups x) (payloads_groups xs)

-- of a container: its key id, its payloads; 0 where it has no variable field
unfoldable pub largest_groups_of : Contents → ℕ
largest_groups_of c = larger (extended_groups 3 c.key-id) (payloads_groups c.payloads)

pub record Grouping : Type 0 where
  -- groups(w, v) is the smallest number of groups that hold v
  pub least : (w v : ℕ) → (v < capacity w (groups w v)) × ((g : ℕ) → v < capacity w g → groups w v ≤ g)
  -- a field that is read has so many: it ends as many groups after its start
  pub read : (w limit : ℕ) (s : List ℕ) (e p v q : ℕ) → variable_bits w limit s e p ≡ got v q → q ≡ p + (w + 1) * groups w v
  -- the largest number is 0 exactly where there is no variable field
  pub none : (c : Contents) → (largest_groups_of c ≡ 0) ↔ ((c.key-id < 7) × (c.payloads ≡ []))
  -- and at most the limit of the fields that have the highest
  pub most : (s : List ℕ) (n : ℕ) (c : Container) → reading s ≡ accepted n c → largest_groups_of (contents_of c) ≤ 31
