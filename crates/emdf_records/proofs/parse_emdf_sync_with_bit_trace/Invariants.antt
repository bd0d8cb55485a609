use Rattle.emdf_records.proofs.Fill.{State}
use Rattle.emdf_records.proofs.parse_emdf_sync_with_bit_trace.Given as goal

abbrev pub invariant-loop-place : goal.invariant-loop-place
invariant-loop-place l = State l.bytes l.fn.table l.carrier l.place l.at l.table l.slots
