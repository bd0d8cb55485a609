use mathlib.Core.Path.{◌≡◌, sym, ◌∙◌}
use mathlib.Core.Bool.{Bool}
use native.Mathlib.Omega.{arith}
use borrow.Author.Tests.{le-leb, lt-leb}
use Rattle.std.proofs.Common.{rules}
use Rattle.std.specs.Prelude.{Result, Err}
use Rattle.openjoc_bitio.specs.Bits.{bit_at}
use Rattle.openjoc_bitio.specs.Cursor.{read_bit}
use Rattle.openjoc_bitio.specs.declared.BitCursor.{BitCursor}
use Rattle.openjoc_bitio.specs.declared.BitError.{BitError}
use Rattle.openjoc_bitio.proofs.Cursor.{remaining-slice, past-found, past-ended}
use Rattle.openjoc_bitio.proofs.BitCursor.read_bit.Goals as goal

pub returns-in_err-next : goal.returns-in_err-next
unfolding read_bit
returns-in_err-next c =
    let a = c.args in
    let r : ◌≡◌ {A = Result (Bool × BitCursor) BitError} c.from_residual.result (Err c.in_err-next.field-0.0) = search rules in
    let p = past-ended a.s.now a.self 1 (sym c.past.ensures ∙ c.in_err-next.was) in
    r ∙ rw (lt-leb _ _ p.0, p.1)

pub bounds-s-self : goal.bounds-s-self
bounds-s-self c =
    let a = c.args in
    let p = past-found a.s.now a.self 1 (sym c.past.ensures ∙ c.in_ok-next.was) in
    omega (arith, p.0, remaining-slice a.s.now a.self)

pub returns : goal.returns
unfolding read_bit bit_at
returns c =
    let a = c.args in
    let p = past-found a.s.now a.self 1 (sym c.past.ensures ∙ c.in_ok-next.was) in
    rw (le-leb _ _ p.0, ← p.1)
