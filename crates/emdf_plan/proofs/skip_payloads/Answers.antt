use mathlib.Core.Path.{◌≡◌}
use Prim.Native.Nat.{suc, ◌+◌, ◌-◌}
use native.Mathlib.Omega.{arith}
use Rattle.std.proofs.Common.{rules}
use Rattle.emdf_plan.specs.Walking.{past_step, past_payloads}
use Rattle.emdf_plan.proofs.skip_payloads.Goals as goal

pub loop-preserved : goal.loop-preserved
unfolding past_payloads
loop-preserved c =
    let l = c.loop in
    let z : c.args.n - l.counter ≡ suc (c.args.n - (l.counter + 1)) = omega arith in
    let h = rw z at l.invariant in
    let p : past_step c.skip_payload.result l.at ≡ c.match-skip_payload.at = search rules in
    rw (← p, c.skip_payload.ensures) h

pub returns : goal.returns
unfolding past_payloads
returns c =
    let z : c.args.n - c.loop.counter ≡ 0 = omega arith in
    rw z at c.loop.invariant
