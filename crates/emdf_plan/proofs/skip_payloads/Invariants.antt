use mathlib.Core.Path.{◌≡◌}
use Prim.Native.Nat.{◌-◌}
use Rattle.emdf_plan.specs.Walking.{past_payloads}
use Rattle.emdf_plan.proofs.skip_payloads.Given as goal

abbrev pub invariant-loop : goal.invariant-loop
invariant-loop l = past_payloads l.source l.at (l.n - l.counter) ≡ past_payloads l.source l.initial.at l.n
