use Prim.Native.Nat.{◌+◌, ◌*◌, ◌^◌}
use mathlib.Core.Path.{◌≡◌, sym}
use native.Mathlib.Nat.{zero-add}
use native.Mathlib.Omega.{arith}
use lib.ListN.{get_or}
use Rattle.openjoc_bitio.specs.Bits.{bits_value}
use Rattle.openjoc_bitio.proofs.Bits.{value_none, value-within, value-bytes}
use Rattle.openjoc_bitio.proofs.few_octets.Goals as goal

pub loop-octet-init : goal.loop-octet-init
loop-octet-init c = sym (value_none _ _)

pub loop-octet-preserved : goal.loop-octet-preserved
loop-octet-preserved c =
    let s = c.args.s.now in
    let l = c.loop-octet in
    let k = l.octet-index in
    let e : (k + 1) * 8 ≡ k * 8 + 8 = omega arith in
    let one : c.from.result ≡ get_or s k 0 = c.from.ensures in
    let more : bits_value s 0 (k * 8 + 8) ≡ bits_value s 0 (k * 8) * 2 ^ 8 + get_or s k 0 = rw zero-add at (value-bytes s 0 k (c.type_inv.s (0 + k)).fits) in
    rw e (omega (arith, l.invariant, one, more, value-within s 0 (k * 8) 56 (omega arith)))
