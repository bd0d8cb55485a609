use Prim.Native.Nat.{◌-◌, ◌*◌, ◌≤◌}
use native.Mathlib.Omega.{arith}
use Rattle.emdf_container.proofs.Octets.{long-is, short-is}
use Rattle.emdf_container.proofs.Words.{shifted}
use Rattle.emdf_container.proofs.protection_at.Goals as goal

pub returns-then-n-eq16 : goal.returns-then-n-eq16
returns-then-n-eq16 c = long-is _ _ _ c.if-n-eq16.true c.word_at.ensures c.word_at-then-n-eq16.ensures

pub overflow_sub-result : goal.overflow_sub-result
overflow_sub-result c =
    let h : c.args.n ≤ 7 = c.requires.0 c.if-n-eq16.false in
    omega (arith, h)

pub returns : goal.returns
returns c =
    let a = c.args in
    let h : a.n ≤ 7 = c.requires.0 c.if-n-eq16.false in
    short-is _ _ _ (omega (arith, h)) (shifted a.s.now a.p 8 (56 - a.n * 8) (8 * a.n) c.window_at.ensures (omega (arith, h)) (omega (arith, h)))
