use native.Mathlib.Omega.{arith}
use Prim.Native.Nat.{◌+◌, ◌≤◌}
use lib.ListN.{length}
use mathlib.Core.Path.{ap, ◌∙◌}
use mathlib.Core.Bool.{not}
use Rattle.emdf_text.proofs.Decimal.{decimal-is, few-digits}
use Rattle.emdf_text.proofs.Put.{has-put, left_out, room, no_room}
use Rattle.emdf_text.proofs.lines.put_decimal.Goals as goal

pub returns-then-not-has_room : goal.returns-then-not-has_room
returns-then-not-has_room c = left_out (no_room _ _ c.has_room.ensures (ap not c.if-not-has_room.true))

pub returns : goal.returns
returns c =
    let a = c.args in
    let few = few-digits a.number c.ranges.number.fits in
    let h : a.at + 20 ≤ length a.out.now = room _ _ c.has_room.ensures (ap not c.if-not-has_room.false) in
    let e = c.as_bytes.ensures.value ∙ c.format.ensures.text ∙ decimal-is a.number c.ranges.number.fits in
    let p = (rw e at c.put_bytes.ensures).put (omega (arith, few, h)) in
    has-put h p.0 (omega (arith, p.1, few))
