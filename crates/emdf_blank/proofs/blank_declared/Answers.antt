use Prim.Native.Nat.{ℕ, ◌+◌, ◌^◌, ◌<◌, ◌≤◌}
use mathlib.Core.Path.{◌≡◌}
use native.Mathlib.Omega.{arith}
use lib.Dec.{lit<}
use Rattle.emdf_format.specs.Contents.{declared, needed_bits, needed_payloads, extension_bits}
use Rattle.emdf_measure.proofs.Asked.{extension-few}
use Rattle.emdf_blank.proofs.blank_declared.Goals as goal

key-few : (key n : ℕ) → n ≡ 5 + extension_bits 3 key → key < 2 ^ 64 → n ≤ 773
key-few key n e h = omega (arith, e, extension-few 3 key (lit< tt) (lit< tt) h)

pub overflow_add-bits : goal.overflow_add-bits
overflow_add-bits c = omega (arith, key-few _ _ c.key_bits.ensures (omega arith))

pub overflow_add-bits-2 : goal.overflow_add-bits-2
overflow_add-bits-2 c = omega (arith, key-few _ _ c.key_bits.ensures (omega arith))

pub overflow_add-bits-4 : goal.overflow_add-bits-4
overflow_add-bits-4 c = omega (arith, key-few _ _ c.key_bits.ensures (omega arith))

pub returns : goal.returns
unfolding declared needed_bits needed_payloads
returns c = omega (arith, c.key_bits.ensures, key-few _ _ c.key_bits.ensures (omega arith))
