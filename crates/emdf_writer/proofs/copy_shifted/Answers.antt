use mathlib.Core.Path.{◌≡◌, sym, ap, ◌∙◌}
use Prim.Native.Nat.{ℕ, ◌+◌, ◌*◌}
use native.Mathlib.Omega.{arith}
use Rattle.openjoc_bitio.specs.Bits.{bits_value}
use Rattle.openjoc_bitio.proofs.Bits.{octet-value}
use Rattle.emdf_writer.proofs.Run.{octets-start, octets-more, run_none}
use Rattle.emdf_writer.proofs.copy_shifted.Goals as goal

pub loop-k-init : goal.loop-k-init
loop-k-init c = octets-start _ _ _ _ _

pub loop-k-preserved : goal.loop-k-preserved
loop-k-preserved c =
    let a = c.args in
    let o = c.loop-k in
    let s = a.s.now in
    let e : (a.j + o.k) * 8 + a.phase ≡ a.j * 8 + a.phase + o.k * 8 = omega arith in
    let b : c.octet_in.result ≡ bits_value s (a.j * 8 + a.phase + o.k * 8) 8 = c.octet_in.ensures ∙ octet-value s (a.j + o.k) a.phase (omega arith) (c.type_inv.s (a.j + o.k)).fits (c.type_inv.s (a.j + o.k + 1)).fits ∙ ap (λ (p : ℕ). bits_value s p 8) e in
    octets-more o.out s a.i (a.j * 8 + a.phase) a.n o.k _ (omega arith) (omega arith) (omega arith) b ∙ o.invariant

pub returns : goal.returns
returns c = sym (run_none _ _ _ _ _ (omega arith)) ∙ c.loop-k.invariant
