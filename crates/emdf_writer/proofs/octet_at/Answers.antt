use mathlib.Core.Path.{◌≡◌, ap, ◌∙◌}
use Prim.Native.Nat.{ℕ, ◌+◌, ◌*◌, ◌-◌, ◌/◌, ◌%◌, ◌^◌}
use native.Mathlib.Omega.{arith}
use lib.ListN.{get_or}
use Rattle.openjoc_bitio.specs.Bits.{bits_value}
use Rattle.openjoc_bitio.proofs.Bits.{octet-value}
use Rattle.emdf_writer.proofs.octet_at.Goals as goal

pub returns : goal.returns
returns c =
    let a = c.args in
    let s = a.s.now in
    let x = c.byte_at.ensures in
    let y = c.byte_at-2.ensures in
    let o : c.octet_in.result ≡ (get_or s (a.p / 8) 0 * 256 + get_or s (a.p / 8 + 1) 0) / 2 ^ (8 - a.p % 8) % 256 = c.octet_in.ensures ∙ rw (x, y) in
    let e : a.p / 8 * 8 + a.p % 8 ≡ a.p = omega arith in
    o ∙ octet-value s (a.p / 8) (a.p % 8) (omega arith) (omega (arith, x)) (omega (arith, y)) ∙ ap (λ (q : ℕ). bits_value s q 8) e
