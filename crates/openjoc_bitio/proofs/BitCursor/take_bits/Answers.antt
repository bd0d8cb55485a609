use mathlib.Core.Path.{◌≡◌, sym, ◌∙◌}
use borrow.Author.Tests.{le-leb, lt-leb}
use Rattle.std.proofs.Common.{rules}
use Rattle.std.specs.Prelude.{Result, Err}
use Rattle.openjoc_bitio.specs.Cursor.{take_bits}
use Rattle.openjoc_bitio.specs.declared.BitCursor.{BitCursor}
use Rattle.openjoc_bitio.specs.declared.BitError.{BitError}
use Rattle.openjoc_bitio.proofs.Cursor.{past-found, past-ended}
use Rattle.openjoc_bitio.proofs.BitCursor.take_bits.Goals as goal

pub returns-in_err-next : goal.returns-in_err-next
unfolding take_bits
returns-in_err-next c =
    let a = c.args in
    let r : ◌≡◌ {A = Result (BitCursor × BitCursor) BitError} c.from_residual.result (Err c.in_err-next.field-0.0) = search rules in
    let p = past-ended a.s.now a.self a.count (sym c.past.ensures ∙ c.in_err-next.was) in
    r ∙ rw (lt-leb _ _ p.0, p.1)

pub returns : goal.returns
unfolding take_bits
returns c =
    let a = c.args in
    let p = past-found a.s.now a.self a.count (sym c.past.ensures ∙ c.in_ok-next.was) in
    rw (le-leb _ _ p.0, ← p.1)
