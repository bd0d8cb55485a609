use native.Mathlib.Omega.{arith}
use borrow.Author.Tests.{eq-eqb, ne_eqb}
use Prim.Native.Nat.{ℕ, ◌+◌, ◌^◌, ◌≤◌, ◌<◌}
use native.Mathlib.Nat.{mod-lt}
use lib.Pow.{pow_pos, pow_mono}
use Rattle.emdf_fields.specs.Word.{top, after}
use Rattle.emdf_compact.specs.Words.{variable_value}
use Rattle.emdf_compact.proofs.Words.{last_bit, top-few, second-start}
use Rattle.emdf_compact.proofs.variable_value.Goals as goal

-- a group is below 2^w, and so at most 2^11
group-few : (w n x : ℕ) → w ≤ 11 → (top w (after n x) < 2 ^ w) × (2 ^ w ≤ 2 ^ 11)
group-few w n x h = (top-few w (after n x) (omega arith) (mod-lt _ (pow_pos 64)), pow_mono h)

pub returns-then-x-eq0 : goal.returns-then-x-eq0
unfolding variable_value
returns-then-x-eq0 c = rw (eq-eqb _ 0 c.if-x-eq0.true)

pub returns-then-x-w-eq0 : goal.returns-then-x-w-eq0
unfolding variable_value
returns-then-x-w-eq0 c = rw (ne_eqb _ 0 c.if-x-eq0.false, last_bit, eq-eqb _ 0 c.if-x-w-eq0.true)

pub overflow_add-result : goal.overflow_add-result
overflow_add-result c = let a = c.args in omega (arith, group-few a.w 1 a.x (omega arith))

pub overflow_add-result-2 : goal.overflow_add-result-2
overflow_add-result-2 c =
    let a = c.args in
    let f = group-few a.w 1 a.x (omega arith) in
    omega (arith, second-start a.w (top a.w (after 1 a.x)) (omega arith) f.0, group-few a.w (a.w + 2) a.x (omega arith))

pub returns : goal.returns
unfolding variable_value
returns c =
    let a = c.args in
    let s = second-start a.w (top a.w (after 1 a.x)) (omega arith) (group-few a.w 1 a.x (omega arith)).0 in
    rw (ne_eqb _ 0 c.if-x-eq0.false, last_bit, ne_eqb _ 0 c.if-x-w-eq0.false, s.0)
