use Prim.Native.Nat.{◌+◌, ◌*◌, ◌≤◌}
use lib.ListN.{length}
use native.Mathlib.Omega.{arith}
use Rattle.emdf_text.specs.Lines.{line}
use Rattle.emdf_text.proofs.Put.{both, has-put, left_out, room, no_room}
use mathlib.Core.Path.{ap}
use mathlib.Core.Bool.{not}
use Rattle.emdf_text.proofs.lines.put_line.Goals as goal

pub returns-then-not-has_room : goal.returns-then-not-has_room
returns-then-not-has_room c = left_out (no_room _ _ c.has_room.ensures (ap not c.if-not-has_room.true))

pub put_numbers-requires : goal.put_numbers-requires
put_numbers-requires c =
    let a = c.args in
    let h : a.at + (length a.word.now + 21 * length a.numbers.now + 1) ≤ length a.out.now = room _ _ c.has_room.ensures (ap not c.if-not-has_room.false) in
    let p = c.put_bytes-end.ensures.put (omega (arith, h)) in
    omega (arith, h, p.0.size)

pub returns : goal.returns
unfolding line
returns c =
    let a = c.args in
    let h : a.at + (length a.word.now + 21 * length a.numbers.now + 1) ≤ length a.out.now = room _ _ c.has_room.ensures (ap not c.if-not-has_room.false) in
    let p = c.put_bytes-end.ensures.put (omega (arith, h)) in
    let q = c.put_numbers.ensures in
    has-put h (both p.0 q.printed) (omega (arith, p.0.size, q.upper_bound))
