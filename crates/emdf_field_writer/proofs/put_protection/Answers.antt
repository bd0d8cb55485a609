use native.Mathlib.Omega.{arith}
use Rattle.openjoc_bitio.proofs.Bits.{length-number}
use Rattle.emdf_format.specs.Syntax.{◌⨟◌, octet_bits}
use Rattle.emdf_format.specs.Contents.{protection_bits}
use Rattle.emdf_format.proofs.Standing.{length-then}
use Rattle.emdf_field_writer.specs.Fields.{Room}
use Rattle.emdf_field_writer.proofs.Putting.{room-first, room_next, then-put, length-protection}
use Rattle.emdf_field_writer.proofs.put_protection.Goals as goal

pub put_field-first-requires : goal.put_field-first-requires
put_field-first-requires c =
    let a = c.args in
    omega (arith, length-number 2 c.protection_code.result, length-protection a.primary.now a.secondary.now)

pub put_field-codes-requires : goal.put_field-codes-requires
put_field-codes-requires c =
    let a = c.args in
    omega (arith, length-number 2 c.protection_code-2.result, length-number 2 c.protection_code.result, c.put_field-first.ensures.0, c.put_field-first.auto.out, length-protection a.primary.now a.secondary.now)

pub put_octets-next-requires : goal.put_octets-next-requires
put_octets-next-requires c =
    let after-codes : let a = c.args in
    Room c.put_field-codes.new.out c.put_field-codes.result.0 (octet_bits a.primary.now ⨟ octet_bits a.secondary.now) = let a = c.args in
    omega (arith, length-number 2 c.protection_code-2.result, length-number 2 c.protection_code.result, c.put_field-codes.ensures.0, c.put_field-codes.auto.out, c.put_field-first.ensures.0, c.put_field-first.auto.out, length-protection a.primary.now a.secondary.now, length-then (octet_bits a.primary.now) (octet_bits a.secondary.now)) in
    room-first _ _ _ after-codes

pub put_octets-requires : goal.put_octets-requires
put_octets-requires c =
    let after-codes : let a = c.args in
    Room c.put_field-codes.new.out c.put_field-codes.result.0 (octet_bits a.primary.now ⨟ octet_bits a.secondary.now) = let a = c.args in
    omega (arith, length-number 2 c.protection_code-2.result, length-number 2 c.protection_code.result, c.put_field-codes.ensures.0, c.put_field-codes.auto.out, c.put_field-first.ensures.0, c.put_field-first.auto.out, length-protection a.primary.now a.secondary.now, length-then (octet_bits a.primary.now) (octet_bits a.secondary.now)) in
    room_next _ _ _ _ _ after-codes c.put_octets-next.ensures c.put_octets-next.auto.out

pub returns : goal.returns
unfolding protection_bits
returns c =
    rw (← c.protection_code.ensures, ← c.protection_code-2.ensures)
    (then-put _ _ _ _ _ _ c.put_field-first.ensures (then-put _ _ _ _ _ _ c.put_field-codes.ensures (then-put _ _ _ _ _ _ c.put_octets-next.ensures c.put_octets.ensures)))
