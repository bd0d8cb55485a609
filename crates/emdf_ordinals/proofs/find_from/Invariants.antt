use Prim.Native.Nat.{◌≤◌}
use mathlib.Core.List.{List}
use Rattle.openjoc_bitio.specs.Cursor.{bits_remaining}
use Rattle.emdf_format.specs.Reading.{Found}
use Rattle.emdf_format.specs.Ordinals.{rows_of, find_in}
use Rattle.emdf_payloads.specs.Payloads.{Listed}
use Rattle.emdf_ordinals.proofs.Find.{Looking}
use Rattle.emdf_ordinals.proofs.find_from.Given as goal

abbrev pub invariant-loop-step : goal.invariant-loop-step
invariant-loop-step l = (l.place ≤ l.at.position) × (l.seen ≤ l.place) × ((xs : List Found) → Listed l.s l.initial.at xs → Looking l.s l.at l.id l.ordinal l.place l.seen (find_in l.id l.ordinal 0 (rows_of xs)))

abbrev pub decreases-loop-step : goal.decreases-loop-step
decreases-loop-step l = bits_remaining l.s l.at
