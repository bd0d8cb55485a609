use mathlib.Core.Path.{◌≡◌, sym, ap}
use mathlib.Core.Bool.{true, not}
use Prim.Native.Nat.{◌+◌}
use native.Mathlib.Omega.{arith}
use lib.Seq.{length-take-le}
use Rattle.emdf_format.specs.Edits.{carrier_length, blank_contents}
use Rattle.emdf_format.proofs.Standing.{fails, holds}
use Rattle.emdf_measure.specs.Parts.{writable_protection}
use Rattle.emdf_blank.proofs.Blank.{writable-short, not-writable, no_room, in-room}
use Rattle.emdf_field_writer.proofs.Written.{front-written}
use Rattle.emdf_blank.proofs.blank_carrier.Goals as goal

pub returns-then-not-writable_protection : goal.returns-then-not-writable_protection
returns-then-not-writable_protection c =
    let a = c.args in
    not-writable a.key _ _ _ (omega arith) (fails (ap not c.if-not-writable_protection.true) c.writable_protection.ensures)

pub blank_declared-size-requires : goal.blank_declared-size-requires
blank_declared-size-requires c =
    let ok : let a = c.args in writable_protection a.primary.now a.secondary.now ≡ true = holds (ap not c.if-not-writable_protection.false) c.writable_protection.ensures in
    writable-short _ _ ok

pub returns-then-destination-n : goal.returns-then-destination-n
returns-then-destination-n c =
    let ok : let a = c.args in writable_protection a.primary.now a.secondary.now ≡ true = holds (ap not c.if-not-writable_protection.false) c.writable_protection.ensures in
    let size : let a = c.args in 4 + c.blank_declared-size.result.0 ≡ carrier_length (blank_contents a.key a.primary.now a.secondary.now) = omega (arith, c.blank_declared-size.ensures.0) in
    let a = c.args in
    no_room a.key _ _ _ (omega arith) ok _ size c.if-destination-n.true

pub slice_bounds-put_blank-end-2 : goal.slice_bounds-put_blank-end-2
slice_bounds-put_blank-end-2 c = sym (length-take-le _ _ c.if-destination-n.false)

pub put_blank-requires : goal.put_blank-requires
put_blank-requires c =
    let d = c.blank_declared-size.ensures in
    (d.0, length-take-le _ _ c.if-destination-n.false, d.1)

pub returns : goal.returns
returns c =
    let ok : let a = c.args in writable_protection a.primary.now a.secondary.now ≡ true = holds (ap not c.if-not-writable_protection.false) c.writable_protection.ensures in
    let size : let a = c.args in 4 + c.blank_declared-size.result.0 ≡ carrier_length (blank_contents a.key a.primary.now a.secondary.now) = omega (arith, c.blank_declared-size.ensures.0) in
    let a = c.args in
    let room = c.if-destination-n.false in
    in-room a.key _ _ _ (omega arith) ok _ size room
    (front-written _ _ _ _ size room (λ k. (c.slice_known-1.given k).fits) (λ k. (c.slice_known-2-1.given k).fits) c.put_blank.ensures.1)
