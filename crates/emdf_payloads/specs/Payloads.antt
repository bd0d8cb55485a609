-- The answers of payloads, by what emdf_format's readers find: e is the end of the cursor that was handed in. Assumes nothing.
use Rattle.std.specs.Prelude.{List, ◌≡◌, ℕ, ◌-◌, ◌/◌, eqb, Option, Some, None, Result, Ok, Err}
use Rattle.openjoc_bitio.specs.declared.BitCursor.{BitCursor}
use Rattle.emdf_format.specs.declared.EmdfError.{EmdfError}
use Rattle.emdf_format.specs.Reader.{Read, got, refused, Reader, ◌>>=◌, give, choose, cursor_at, position, extended_value}
use Rattle.emdf_format.specs.Reading.{Found, payload_after, payloads}
use Rattle.emdf_format.specs.Syntax.{extended_groups}
use Rattle.emdf_format.specs.Groups.{larger, config_groups}
use Rattle.emdf_format.specs.declared.PayloadRecord.{PayloadRecord}

unfoldable pub payload_answer : ℕ → Read Found → Result (Option PayloadRecord × BitCursor) EmdfError
payload_answer e (got x q) = Ok (Some x.record_of, cursor_at e q)
payload_answer e (refused why q) = Err why

-- what stands next in the list of payloads: one turn of emdf_format's payloads
pub data NextPayload : Type 0 where
  ended : NextPayload
  found : Found → NextPayload

unfoldable pub next_payload : Reader NextPayload
next_payload = do
  p₀ ← position
  id ← extended_value 5
  choose (eqb id 0) (give ended) (do x ← payload_after p₀ id; give (found x))

unfoldable pub next_step : NextPayload → ℕ → ℕ → Result (Option PayloadRecord × BitCursor) EmdfError
next_step ended e q = Ok (None, cursor_at e q)
next_step (found x) e q = Ok (Some x.record_of, cursor_at e q)

unfoldable pub next_answer : ℕ → Read NextPayload → Result (Option PayloadRecord × BitCursor) EmdfError
next_answer e (got t q) = next_step t e q
next_answer e (refused why q) = Err why

-- what stands at a cursor
abbrev pub step_at : List ℕ → BitCursor → Result (Option PayloadRecord × BitCursor) EmdfError
step_at s c = next_answer c.end (next_payload s c.end c.position)

-- the same, of a payload only its id
unfoldable pub skip_of : Result (Option PayloadRecord × BitCursor) EmdfError → Result (Option ℕ × BitCursor) EmdfError
skip_of (Ok (Some r, c)) = Ok (Some r.id, c)
skip_of (Ok (None, c)) = Ok (None, c)
skip_of (Err why) = Err why

-- the largest number of groups in a payload, by its record: a group of its size takes 9 bits
unfoldable pub record_groups : PayloadRecord → ℕ
record_groups r =
    larger (larger (extended_groups 5 r.id) (config_groups r.config)) ((r.trace.payload_size_end_bit.0 - r.trace.payload_size_start_bit.0) / 9)

-- from the cursor c on, the payloads xs and then the end of the list
pub record Listed (s : List ℕ) (c : BitCursor) (xs : List Found) : Type 0 where
  pub bound : ℕ
  pub to : ℕ
  pub is : payloads bound s c.end c.position ≡ got xs to
