use mathlib.Core.Path.{◌≡◌, sym, ap, ◌∙◌}
use Prim.Native.Nat.{◌+◌}
use native.Mathlib.Omega.{arith}
use lib.Dec.{leb}
use borrow.Author.Tests.{lt-leb}
use Rattle.openjoc_bitio.specs.Cursor.{bit_length, whole_slice}
use Rattle.openjoc_bitio.specs.declared.BitCursor.{BitCursor}
use Rattle.emdf_writer.proofs.Fitting.{room-test}
use Rattle.emdf_writer.proofs.has_bits.Goals as goal

pub returns-then-at-limit : goal.returns-then-at-limit
unfolding whole_slice
returns-then-at-limit c =
    let a = c.args in
    let e : c.new-limit.result.end ≡ bit_length a.s.now = ap (λ (x : BitCursor). x.end) c.new-limit.ensures in
    room-test _ a.at a.n c.if-at-limit.true ∙ ap (leb (a.at + a.n)) e

pub returns-else-at-limit : goal.returns-else-at-limit
unfolding whole_slice
returns-else-at-limit c =
    let a = c.args in
    let e : c.new-limit.result.end ≡ bit_length a.s.now = ap (λ (x : BitCursor). x.end) c.new-limit.ensures in
    lt-leb a.at _ c.if-at-limit.false ∙ sym (lt-leb (a.at + a.n) (bit_length a.s.now) (omega (arith, e, c.if-at-limit.false)))
