use mathlib.Core.Path.{◌≡◌, sym, ap, ◌∙◌}
use Prim.Native.Nat.{ℕ, ◌+◌, ◌*◌}
use native.Mathlib.Omega.{arith}
use lib.ListN.{get_or}
use Rattle.openjoc_bitio.specs.Bits.{bits_value}
use Rattle.emdf_format.proofs.Bytes.{byte-value}
use Rattle.emdf_writer.proofs.Run.{octets-start, octets-more, run_none}
use Rattle.emdf_writer.proofs.copy_bytes.Goals as goal

pub loop-moved-init : goal.loop-moved-init
loop-moved-init c = octets-start _ _ _ _ _

pub loop-moved-preserved : goal.loop-moved-preserved
loop-moved-preserved c =
    let a = c.args in
    let o = c.loop-moved in
    let s = a.s.now in
    let e : 8 * (a.j + o.moved) ≡ a.j * 8 + o.moved * 8 = omega arith in
    let b : get_or s (a.j + o.moved) 0 ≡ bits_value s (a.j * 8 + o.moved * 8) 8 = sym (byte-value s (a.j + o.moved) (c.type_inv.s (a.j + o.moved)).fits) ∙ ap (λ (p : ℕ). bits_value s p 8) e in
    octets-more o.out s a.i (a.j * 8) a.n o.moved _ (omega arith) (omega arith) (omega arith) b ∙ o.invariant

pub returns : goal.returns
returns c = sym (run_none _ _ _ _ _ (omega arith)) ∙ c.loop-moved.invariant
