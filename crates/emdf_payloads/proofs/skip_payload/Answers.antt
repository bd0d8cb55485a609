use borrow.Author.Tests.{eq-eqb, ne_eqb}
use mathlib.Core.Path.{◌≡◌, refl, sym, ◌∙◌}
use Rattle.std.proofs.Common.{rules}
use Prim.Native.Nat.{ℕ}
use Rattle.std.specs.Prelude.{Option, Some, None, Result, Ok, Err}
use Rattle.std.specs.Option.{option_map}
use Rattle.openjoc_bitio.specs.declared.BitCursor.{BitCursor}
use Rattle.emdf_format.specs.declared.EmdfError.{EmdfError}
use Rattle.emdf_format.specs.declared.PayloadRecord.{PayloadRecord}
use Rattle.emdf_payloads.proofs.Answers.{mapped}
use native.Mathlib.Omega.{arith}
use Rattle.emdf_fields.specs.Word.{top}
use Rattle.emdf_payloads.specs.Compact.{compact_step}
use Rattle.emdf_payloads.specs.Payloads.{skip_of}
use Rattle.emdf_payloads.proofs.skip_payload.Goals as goal

skipped : (o : Option PayloadRecord) (c : BitCursor) → ◌≡◌ {A = Result (Option ℕ × BitCursor) EmdfError} (Ok (option_map (λ r. r.id) o, c)) (skip_of (Ok (o, c)))
unfolding skip_of
skipped None c = refl
skipped (Some r) c = refl

pub returns-in_err-payload : goal.returns-in_err-payload
unfolding skip_of
returns-in_err-payload c =
    let z : c.from_residual.result ≡ Err c.in_err-payload.field-0.0 = search rules in
    z ∙ rw (sym c.in_err-payload.ensures)

pub returns-then-found-eq0 : goal.returns-then-found-eq0
unfolding skip_of
returns-then-found-eq0 c =
    let i = mapped (λ (r : PayloadRecord). r.id) c.in_ok-payload.payload c.map.result c.map.ensures.cases (λ x y k. search rules) in
    rw (sym c.in_ok-payload.ensures, i) (skipped c.in_ok-payload.payload c.in_ok-payload.next)

pub overflow_add-next : goal.overflow_add-next
overflow_add-next c = omega (arith, c.compact_at-found.ensures.fits)

pub returns-then-id-eq0 : goal.returns-then-id-eq0
unfolding compact_step skip_of
returns-then-id-eq0 c =
    let d = c.compact_at-found in
    rw (d.ensures.is (omega arith), eq-eqb (top 5 d.result.word) 0 c.if-id-eq0.true)

pub returns : goal.returns
unfolding compact_step skip_of
returns c =
    let d = c.compact_at-found in
    rw (d.ensures.is (omega arith), ne_eqb (top 5 d.result.word) 0 c.if-id-eq0.false)
