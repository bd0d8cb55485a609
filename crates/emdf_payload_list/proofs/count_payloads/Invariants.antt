use Prim.Native.Nat.{◌≤◌}
use mathlib.Core.Path.{◌≡◌}
use Rattle.openjoc_bitio.specs.Cursor.{bits_remaining}
use Rattle.emdf_format.specs.Reading.{payloads}
use Rattle.emdf_payload_list.proofs.Counting.{count_from}
use Rattle.emdf_payload_list.proofs.count_payloads.Given as goal

abbrev pub invariant-loop-passed : goal.invariant-loop-passed
invariant-loop-passed l = (l.count ≤ l.at.position) × (count_from l.count l.groups l.at.end (payloads (bits_remaining l.s l.at) l.s l.at.end l.at.position) ≡ count_from 0 0 l.initial.at.end (payloads (bits_remaining l.s l.initial.at) l.s l.initial.at.end l.initial.at.position))

abbrev pub decreases-loop-passed : goal.decreases-loop-passed
decreases-loop-passed l = bits_remaining l.s l.at
