use Prim.Native.Nat.{◌≤◌}
use mathlib.Core.List.{List}
use Rattle.openjoc_bitio.specs.Cursor.{bits_remaining}
use Rattle.emdf_format.specs.Reading.{Found}
use Rattle.emdf_payloads.specs.Payloads.{Listed}
use Rattle.joc_profile.specs.Pair.{count_of}
use Rattle.joc_profile.proofs.Pair.{Same}
use Rattle.joc_profile.proofs.find_pair.Given as goal

abbrev pub invariant-loop-step : goal.invariant-loop-step
invariant-loop-step l = (l.place ≤ l.at.position)
    × (count_of l.oamd ≤ l.place)
    × (count_of l.joc ≤ l.place)
    × ((xs : List Found) → Listed l.s l.initial.at xs → Same l.s l.at l.oamd l.joc l.place xs)

abbrev pub decreases-loop-step : goal.decreases-loop-step
decreases-loop-step l = bits_remaining l.s l.at
