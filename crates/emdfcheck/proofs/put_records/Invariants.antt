use Prim.Native.Nat.{◌+◌, ◌*◌, ◌≤◌}
use mathlib.Core.Path.{◌≡◌}
use mathlib.Core.List.{List}
use lib.ListN.{length}
use Rattle.openjoc_bitio.specs.Cursor.{bits_remaining}
use Rattle.emdf_format.specs.Reading.{Found, reading}
use Rattle.emdf_format.specs.Calls.{records_of}
use Rattle.emdf_payloads.specs.Payloads.{Listed}
use Rattle.emdfcheck.specs.Output.{record_lines}
use Rattle.emdfcheck.specs.Parts.{records_in}
use Rattle.emdf_text.proofs.Put.{Leaves}
use Rattle.emdfcheck.proofs.put_records.Given as goal

abbrev pub invariant-loop-payload : goal.invariant-loop-payload
invariant-loop-payload l = (xs : List Found)
    × Listed l.bytes l.at xs
    × (length l.out ≡ length l.initial.out)
    × (l.end + 126 * length xs ≤ length l.out)
    × Leaves l.initial.out l.start (record_lines (records_in (reading l.bytes))) l.out l.end (record_lines (records_of xs))

abbrev pub decreases-loop-payload : goal.decreases-loop-payload
decreases-loop-payload l = bits_remaining l.bytes l.at
