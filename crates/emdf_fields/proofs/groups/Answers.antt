use mathlib.Core.Path.{◌≡◌, refl, sym, ◌∙◌}
use native.Mathlib.Omega.{arith}
use Rattle.std.proofs.Common.{rules}
use Rattle.std.specs.Prelude.{Result, Ok, Err}
use Rattle.openjoc_bitio.specs.declared.BitCursor.{BitCursor}
use Rattle.emdf_fields.specs.declared.FieldError.{FieldError}
use Rattle.emdf_fields.specs.declared.GroupRead.{GroupRead}
use Rattle.emdf_fields.proofs.Variable.{at_last, at-refused, at_more, more_left}
use Rattle.emdf_fields.proofs.groups.Goals as goal

pub loop-found-init : goal.loop-found-init
loop-found-init c = (omega arith, refl)

pub returns-in_err-found : goal.returns-in_err-found
returns-in_err-found c =
    let refused : c.from_residual.result ≡ Err c.in_err-found.field-0.0 = search rules in
    refused ∙ sym (at-refused _ _ _ _ _ _ _ c.loop-found.invariant.0 (sym c.group.ensures ∙ c.in_err-found.was)) ∙ c.loop-found.invariant.1

-- a group that is found, as this one
there : {n : BitCursor} {g h : GroupRead} {r : Result (GroupRead × BitCursor) FieldError} → r ≡ Ok (g, n) → g ≡ h → r ≡ Ok (h, n)
there {n} h e = rw e at h

pub returns-in-Last : goal.returns-in-Last
returns-in-Last c = at_last _ _ _ _ _ _ _ c.loop-found.invariant.0 (there (sym c.group.ensures ∙ c.in_ok-found.was) c.in-Last.is) ∙ c.loop-found.invariant.1

pub loop-found-preserved : goal.loop-found-preserved
loop-found-preserved c =
    let more = there (sym c.group.ensures ∙ c.in_ok-found.was) c.in-More.is in
    (more_left _ _ _ _ _ _ _ more, at_more _ _ _ _ _ _ _ c.loop-found.invariant.0 more ∙ c.loop-found.invariant.1)
