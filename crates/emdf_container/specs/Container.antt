-- The answers of a container and its parts, by what the definitions of emdf_format find: e is the end of the cursor that was handed in.
-- Assumes nothing.
use Rattle.std.specs.Prelude.{List, [], ◌∷◌, ◌≡◌, ℕ, ◌+◌, ◌-◌, ◌*◌, ◌≤◌, ◌<◌, length, take, drop, leb, if◌then◌else◌, Result, Ok, Err}
use Rattle.openjoc_bitio.specs.Bits.{bits_value}
use Rattle.openjoc_bitio.specs.Cursor.{bits_remaining}
use Rattle.openjoc_bitio.specs.declared.BitCursor.{BitCursor}
use Rattle.emdf_format.specs.Reader.{Read, got, refused, Reader, ◌>>=◌, cursor_at, remaining}
use Rattle.emdf_format.specs.Reading.{Found, payloads, Container, container_end, payloads_of, contents_of}
use Rattle.emdf_format.specs.Syntax.{extended_groups}
use Rattle.emdf_format.specs.Groups.{larger, payloads_groups, largest_groups_of}
use Rattle.emdf_format.specs.declared.EmdfError.{EmdfError}
use Rattle.emdf_container.specs.declared.ProtectionBytes.{ProtectionBytes}
use Rattle.emdf_container.specs.declared.EmdfContainer.{EmdfContainer}

-- ---- protection and padding

-- the number that bytes make, the first the most significant
unfoldable pub bytes_number : ℕ → List ℕ → ℕ
bytes_number v [] = v
bytes_number v (b ∷ bs) = bytes_number (v * 256 + b) bs

-- at most 16 bytes: the last 8, and those before them
unfoldable pub protection_bytes : List ℕ → ProtectionBytes
protection_bytes bs = record {
  length = record { 0 = length bs };
  high = bytes_number 0 (take (length bs - 8) bs);
  low = bytes_number 0 (drop (length bs - 8) bs);
}

unfoldable pub bytes_answer : ℕ → Read (List ℕ) → Result (ProtectionBytes × BitCursor) EmdfError
bytes_answer e (got bs q) = Ok (protection_bytes bs, cursor_at e q)
bytes_answer e (refused why q) = Err why

-- the value of n bits, where they are there
unfoldable pub value_there : List ℕ → BitCursor → ℕ → ℕ
value_there s c n = if leb n (bits_remaining s c) then bits_value s c.position n else 0

unfoldable pub padding_answer : Read (Unit {0}) → Result (Unit {0}) EmdfError
padding_answer (got u q) = Ok u
padding_answer (refused why q) = Err why

-- ---- the container

-- protections of these lengths after their codes at position p, and at most 7 zero bits, are all of the bits left
pub record IsEnd (s : List ℕ) (p left first second : ℕ) : Type 0 where
  pub some : 0 < first
  pub room : 4 + (first + second) * 8 ≤ left
  pub few : left ≤ 4 + (first + second) * 8 + 7
  pub zeros : bits_value s (p + (4 + (first + second) * 8)) (left - (4 + (first + second) * 8)) ≡ 0

unfoldable pub container_of : Container → EmdfContainer
container_of c = record {
  key_id = c.key-id;
  payloads = length c.found;
  protection = record { primary = protection_bytes c.primary; secondary = protection_bytes c.secondary };
  largest_groups = largest_groups_of (contents_of c);
}

-- the largest number of groups of a key id and payloads
abbrev pub groups_with : ℕ → List Found → ℕ
groups_with key xs = larger (extended_groups 3 key) (payloads_groups (payloads_of xs))

-- what follows the key id: the end of emdf_format's container
unfoldable pub container_after : ℕ → Reader Container
container_after key = do
  n ← remaining
  xs ← payloads n
  container_end key xs

unfoldable pub container_answer : ℕ → Read Container → Result EmdfContainer EmdfError
container_answer e (got c q) = Ok (container_of c)
container_answer e (refused why q) = Err why
