use mathlib.Core.Path.{◌≡◌, refl, ap}
use Prim.Native.Nat.{ℕ, ◌+◌, ◌-◌, ◌*◌}
use native.Mathlib.Omega.{arith}
use Rattle.std.specs.Int.{div_ceil}
use Rattle.openjoc_bitio.specs.declared.BitOffset.{BitOffset}
use Rattle.emdf_request.specs.declared.Stretch.{Stretch}
use Rattle.emdf_request.specs.declared.Brought.{Brought}
use Rattle.emdf_plan.specs.declared.Layout.{Layout}
use Rattle.emdf_plan.specs.Plan.{edge_at, cut_at, size_after}
use Rattle.emdf_plan.proofs.Asking.{too_long, no_room, in-room}
use Rattle.emdf_plan.proofs.measured.Goals as goal

bit : {a b : BitOffset} → a ≡ b → a.0 ≡ b.0
bit e = ap (λ (o : BitOffset). o.0) e

-- the declared size, as it is worked out from the two edges
sized : (x : Stretch) (l : Layout) (b : Brought) {from to : BitOffset} (n : ℕ) → from ≡ edge_at x.from l → to ≡ edge_at x.to l
    → n ≡ div_ceil (l.end.0 - 32 - (to.0 - from.0) + b.fields + 8 * b.octets) 8 → n ≡ size_after x l b
unfolding size_after
sized x l b n f t e = omega (arith, bit f, bit t)

pub returns-then-octets-gt-MAX_DECLARED : goal.returns-then-octets-gt-MAX_DECLARED
unfolding size_after
returns-then-octets-gt-MAX_DECLARED c = too_long _ _ _ _ _ refl (omega (arith, c.if-octets-gt-MAX_DECLARED.true))

pub overflow_sub-others-2 : goal.overflow_sub-others-2
overflow_sub-others-2 c = omega (arith, bit c.edge_at-from.ensures, bit c.edge_at-to.ensures, c.requires.0)

pub overflow_sub-others-3 : goal.overflow_sub-others-3
overflow_sub-others-3 c = omega (arith, bit c.edge_at-from.ensures, bit c.edge_at-to.ensures, c.requires.0)

pub returns-then-size-gt-MAX_DECLARED : goal.returns-then-size-gt-MAX_DECLARED
returns-then-size-gt-MAX_DECLARED c =
    let a = c.args in
    too_long _ _ _ _ _ (sized a.stretch a.layout a.brought _ c.edge_at-from.ensures c.edge_at-to.ensures c.div_ceil-size.ensures) c.if-size-gt-MAX_DECLARED.true

pub returns-then-room-n : goal.returns-then-room-n
returns-then-room-n c =
    let a = c.args in
    no_room _ _ _ _ _ (sized a.stretch a.layout a.brought _ c.edge_at-from.ensures c.edge_at-to.ensures c.div_ceil-size.ensures) c.if-size-gt-MAX_DECLARED.false c.if-room-n.true

pub returns : goal.returns
unfolding cut_at
returns c =
    let a = c.args in
    rw (← c.edge_at-from.ensures, ← c.edge_at-to.ensures, ← c.edge_at-kept.ensures) at
    (in-room a.stretch a.layout a.brought a.room _ (sized a.stretch a.layout a.brought _ c.edge_at-from.ensures c.edge_at-to.ensures c.div_ceil-size.ensures) c.if-size-gt-MAX_DECLARED.false c.if-room-n.false)
