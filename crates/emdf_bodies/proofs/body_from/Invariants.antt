use Prim.Native.Nat.{◌-◌}
use mathlib.Core.List.{List}
use Rattle.emdf_format.specs.Reading.{Found}
use Rattle.emdf_payloads.specs.Payloads.{Listed}
use Rattle.emdf_bodies.proofs.Place.{Ahead}
use Rattle.emdf_bodies.proofs.body_from.Given as goal

abbrev pub invariant-loop : goal.invariant-loop
invariant-loop l = (xs : List Found) → Listed l.s l.initial.at xs → Ahead l.s xs l.place l.at (l.place - l.counter)
