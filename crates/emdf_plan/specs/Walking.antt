-- Going past payloads. Assumes nothing.
use Rattle.std.specs.Prelude.{List, ℕ, zero, suc, Option, Some, None, Result, Ok, Err}
use Rattle.openjoc_bitio.specs.declared.BitCursor.{BitCursor}
use Rattle.emdf_format.specs.declared.PayloadRecord.{PayloadRecord}
use Rattle.emdf_format.specs.declared.EmdfError.{EmdfError}
use Rattle.emdf_format.specs.Reading.{trace_of}
use Rattle.emdf_payloads.specs.Payloads.{skip_of, step_at}
use Rattle.emdf_plan.specs.Types.{Placed}

-- past a payload; elsewhere the cursor stays
abbrev pub past_step : Result (Option ℕ × BitCursor) EmdfError → BitCursor → BitCursor
past_step (Ok (Some id, next)) c = next
past_step (Ok (None, next)) c = c
past_step (Err why) c = c

-- past n payloads
unfoldable pub past_payloads : List ℕ → BitCursor → ℕ → BitCursor
past_payloads s c zero = c
past_payloads s c (suc n) = past_payloads s (past_step (skip_of (step_at s c)) c) n

-- the spans of the payload that stands next, and the cursor past it; else all spans are empty and where the cursor is
abbrev pub nothing_at : BitCursor → Placed
nothing_at c = record { trace = trace_of c.position c.position c.position c.position c.position; next = c }

abbrev pub placed_at : Result (Option PayloadRecord × BitCursor) EmdfError → BitCursor → Placed
placed_at (Ok (Some r, next)) c = record { trace = r.trace; next = next }
placed_at (Ok (None, next)) c = nothing_at c
placed_at (Err why) c = nothing_at c
