use mathlib.Core.Path.{sym, ◌∙◌}
use native.Mathlib.Nat.{add-sub_cancel_left}
use native.Mathlib.Omega.{arith}
use Rattle.std.proofs.Common.{rules}
use Rattle.emdf_bodies.proofs.Calls.{Standing, standing, not_there, on-byte, from_scratch}
use Rattle.emdf_bodies.proofs.choose_body.Goals as goal
use Rattle.emdf_bodies.proofs.choose_body.Goals.{In-Ok}

pub returns-in_default : goal.returns-in_default
returns-in_default c = (not_there _ _ _ (sym c.find_body.ensures ∙ c.in_default.is)).chosen

there : (c : In-Ok) → Standing c.args.bytes.now c.args.place c.in-Ok.start.0 c.in-Ok.length.0
there c = standing _ _ (sym c.find_body.ensures ∙ c.in-Ok.is)

pub overflow_add-to : goal.overflow_add-to
overflow_add-to c = omega (arith, (there (goal.at.overflow_add-to c).In-Ok).inside)

pub slice_bounds-result-end-then-bit-eq0 : goal.slice_bounds-result-end-then-bit-eq0
slice_bounds-result-end-then-bit-eq0 c = omega (arith, (there (goal.at.slice_bounds-result-end-then-bit-eq0 c).In-Ok).inside)

pub returns-then-bit-eq0 : goal.returns-then-bit-eq0
returns-then-bit-eq0 c = rw add-sub_cancel_left (on-byte _ _ _ (there (goal.at.returns-then-bit-eq0 c).In-Ok) c.if-bit-eq0.true).chosen

pub returns : goal.returns
returns c = from_scratch _ _ _ (there (goal.at.returns c).In-Ok) c.if-bit-eq0.false (λ h. search rules) (λ h. search rules)
