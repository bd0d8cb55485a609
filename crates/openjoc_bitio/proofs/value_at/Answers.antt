use mathlib.Core.Path.{sym}
use native.Mathlib.Omega.{arith}
use Rattle.openjoc_bitio.proofs.Bits.{value_none, value-within, window-top, windows-joined}
use Rattle.openjoc_bitio.proofs.value_at.Goals as goal

pub returns-then-w-eq0 : goal.returns-then-w-eq0
returns-then-w-eq0 c = let a = c.args in rw c.if-w-eq0.true (sym (value_none a.s.now a.p))

pub returns-then-w-le57 : goal.returns-then-w-le57
returns-then-w-le57 c = let a = c.args in rw c.window_at.ensures (window-top a.s.now a.p a.w (omega arith))

pub overflow_add-result : goal.overflow_add-result
overflow_add-result c =
    let a = c.args in
    rw (c.window_at-2.ensures, c.window_at-3.ensures, windows-joined a.s.now a.p a.w (omega arith) (omega arith)) (record { fits = value-within a.s.now a.p a.w 64 c.requires.0 })

pub returns : goal.returns
returns c = let a = c.args in rw (c.window_at-2.ensures, c.window_at-3.ensures) (windows-joined a.s.now a.p a.w (omega arith) (omega arith))
