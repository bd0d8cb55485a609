use mathlib.Core.Path.{◌≡◌, sym, ◌∙◌}
use mathlib.Core.List.{List}
use Prim.Native.Nat.{ℕ}
use Rattle.std.proofs.Common.{rules}
use Rattle.std.specs.Prelude.{Result, Ok, Err, MatchResult}
use Rattle.openjoc_bitio.specs.declared.BitCursor.{BitCursor}
use Rattle.emdf_format.specs.declared.EmdfError.{EmdfError}
use Rattle.emdf_format.specs.declared.EditError.{EditError}
use Rattle.emdf_format.specs.declared.EditError.TheVariants.{Emdf}
use Rattle.emdf_format.specs.Reading.{reading}
use Rattle.openjoc_emdf.specs.declared.ParsedEmdf.{ParsedEmdf}
use Rattle.openjoc_emdf.specs.Answers.{open_answer}
use Rattle.openjoc_emdf.proofs.Opening.{opened, unopened}
use Rattle.emdf_request.specs.declared.Request.{Request}
use Rattle.emdf_plan.specs.declared.Cut.{Cut}
use Rattle.emdf_plan.specs.Plan.{plan_of}
use Rattle.emdf_plan.proofs.Asking.{unread}
use Rattle.emdf_plan.proofs.plan_edit.Goals as goal

-- a source that isn't opened
closed : (q : Request) (a b s : List ℕ) (room : ℕ) (x : Result (ParsedEmdf × BitCursor) EmdfError) {r : Result Cut EditError}
    → x ≡ open_answer s (reading s) → MatchResult x (λ opened. ⊥) (λ why. r ≡ Err (Emdf why)) → r ≡ plan_of q a b s room
closed q a b s room (Ok opened) e h = absurd h
closed q a b s room (Err why) e h = h ∙ unread q a b s room (unopened s (sym e))

pub plan_opened-requires : goal.plan_opened-requires
plan_opened-requires c =
    let h : c.open_carrier.result ≡ Ok (c.in_ok-parsed.parsed, c.in_ok-parsed.first) = search rules in
    opened _ (sym c.open_carrier.ensures ∙ h)

pub returns-in_err-parsed : goal.returns-in_err-parsed
returns-in_err-parsed c =
    let h : MatchResult c.open_carrier.result (λ opened. ⊥) (λ why. c.from_residual.result ≡ Err (Emdf why)) = search rules in
    closed _ _ _ _ _ _ c.open_carrier.ensures h
