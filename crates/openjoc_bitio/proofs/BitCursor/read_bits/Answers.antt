use mathlib.Core.Path.{◌≡◌, sym, ◌∙◌}
use Prim.Native.Nat.{ℕ}
use native.Mathlib.Omega.{arith}
use Rattle.std.proofs.Common.{rules}
use Rattle.std.specs.Prelude.{Result, Err}
use Rattle.openjoc_bitio.specs.declared.BitCursor.{BitCursor}
use Rattle.openjoc_bitio.specs.declared.BitError.{BitError}
use Rattle.openjoc_bitio.proofs.Cursor.{remaining-end, remaining-slice, past-found, past-ended, read-accepted, read-ended, read-too-wide}
use Rattle.openjoc_bitio.proofs.BitCursor.read_bits.Goals as goal

pub returns-then-n-gt64 : goal.returns-then-n-gt64
returns-then-n-gt64 c = let a = c.args in sym (read-too-wide a.s.now a.self a.n c.if-n-gt64.true)

pub returns-in_err-next : goal.returns-in_err-next
returns-in_err-next c =
    let a = c.args in
    let r : ◌≡◌ {A = Result (ℕ × BitCursor) BitError} c.from_residual.result (Err c.in_err-next.field-0.0) = search rules in
    let p = past-ended a.s.now a.self a.n (rw c.from-width.ensures at (sym c.past.ensures ∙ c.in_err-next.was)) in
    r ∙ rw p.1 (sym (read-ended a.s.now a.self a.n c.if-n-gt64.false p.0))

pub value_at-requires : goal.value_at-requires
value_at-requires c =
    let a = c.args in
    let p = past-found a.s.now a.self a.n (rw c.from-width.ensures at (sym c.past.ensures ∙ c.in_ok-next.was)) in
    omega (arith, c.from-width.ensures, p.0, remaining-slice a.s.now a.self, remaining-end a.s.now a.self)

pub returns : goal.returns
returns c =
    let a = c.args in
    let p = past-found a.s.now a.self a.n (rw c.from-width.ensures at (sym c.past.ensures ∙ c.in_ok-next.was)) in
    rw (c.value_at.ensures, c.from-width.ensures, ← p.1) (sym (read-accepted a.s.now a.self a.n c.if-n-gt64.false p.0))
