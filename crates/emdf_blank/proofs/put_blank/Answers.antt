use Prim.Native.Nat.{◌+◌, ◌-◌, ◌*◌, ◌<◌, ◌≤◌}
use native.Mathlib.Omega.{arith}
use lib.ListN.{length}
use Rattle.openjoc_bitio.proofs.Bits.{length-number}
use Rattle.emdf_format.specs.Contents.{protection_bits}
use Rattle.emdf_field_writer.specs.Fields.{header_bits}
use Rattle.emdf_field_writer.proofs.Putting.{then-put}
use Rattle.emdf_blank.proofs.Blank.{blank-size, blank-bits}
use Rattle.emdf_blank.proofs.put_blank.Goals as goal

pub put_header-header-requires : goal.put_header-header-requires
put_header-header-requires c =
    let sizes : let a = c.args in let n = length (header_bits a.size.0 a.key) + 5 + length (protection_bits a.primary.now a.secondary.now) in
    (n ≤ (4 + a.size.0) * 8) × ((4 + a.size.0) * 8 < n + 8) = blank-size c.args.key _ _ c.args.size.0 c.requires.0 in
    omega (arith, sizes)

pub put_field-mark-requires : goal.put_field-mark-requires
put_field-mark-requires c =
    let sizes : let a = c.args in let n = length (header_bits a.size.0 a.key) + 5 + length (protection_bits a.primary.now a.secondary.now) in
    (n ≤ (4 + a.size.0) * 8) × ((4 + a.size.0) * 8 < n + 8) = blank-size c.args.key _ _ c.args.size.0 c.requires.0 in
    omega (arith, sizes, length-number 5 0, c.put_header-header.ensures.0, c.put_header-header.auto.out)

pub put_protection-end-requires : goal.put_protection-end-requires
put_protection-end-requires c =
    let sizes : let a = c.args in let n = length (header_bits a.size.0 a.key) + 5 + length (protection_bits a.primary.now a.secondary.now) in
    (n ≤ (4 + a.size.0) * 8) × ((4 + a.size.0) * 8 < n + 8) = blank-size c.args.key _ _ c.args.size.0 c.requires.0 in
    omega (arith, sizes, length-number 5 0, c.put_header-header.ensures.0, c.put_header-header.auto.out, c.put_field-mark.ensures.0, c.put_field-mark.auto.out)

pub overflow_sub-size : goal.overflow_sub-size
overflow_sub-size c =
    let sizes : let a = c.args in let n = length (header_bits a.size.0 a.key) + 5 + length (protection_bits a.primary.now a.secondary.now) in
    (n ≤ (4 + a.size.0) * 8) × ((4 + a.size.0) * 8 < n + 8) = blank-size c.args.key _ _ c.args.size.0 c.requires.0 in
    omega (arith, sizes, length-number 5 0, c.put_header-header.ensures.0, c.put_field-mark.ensures.0, c.put_protection-end.ensures.0)

pub put_field-requires : goal.put_field-requires
put_field-requires c =
    let sizes : let a = c.args in let n = length (header_bits a.size.0 a.key) + 5 + length (protection_bits a.primary.now a.secondary.now) in
    (n ≤ (4 + a.size.0) * 8) × ((4 + a.size.0) * 8 < n + 8) = blank-size c.args.key _ _ c.args.size.0 c.requires.0 in
    omega (arith, sizes, length-number 5 0, length-number ((4 + c.args.size.0) * 8 - c.put_protection-end.result.0) 0, c.put_header-header.ensures.0, c.put_header-header.auto.out, c.put_field-mark.ensures.0, c.put_field-mark.auto.out, c.put_protection-end.ensures.0, c.put_protection-end.auto.out)

pub returns : goal.returns
returns c =
    rw (← blank-bits c.args.key c.args.primary.now c.args.secondary.now c.args.size.0 c.requires.0 c.put_protection-end.result.0 (omega (arith, length-number 5 0, c.put_header-header.ensures.0, c.put_field-mark.ensures.0, c.put_protection-end.ensures.0)))
    (then-put _ _ _ _ _ _ c.put_header-header.ensures (then-put _ _ _ _ _ _ c.put_field-mark.ensures (then-put _ _ _ _ _ _ c.put_protection-end.ensures c.put_field.ensures)))
