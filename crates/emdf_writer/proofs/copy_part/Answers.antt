use mathlib.Core.Path.{◌≡◌, sym, ◌∙◌}
use Prim.Native.Nat.{◌-◌, ◌/◌, ◌^◌}
use native.Mathlib.Omega.{arith}
use Rattle.openjoc_bitio.specs.Bits.{bits_value}
use Rattle.openjoc_bitio.proofs.Bits.{value-range}
use Rattle.emdf_writer.proofs.Run.{run_value, run_none, octet-part}
use Rattle.emdf_writer.proofs.copy_part.Goals as goal

pub returns-then-t-eq0 : goal.returns-then-t-eq0
returns-then-t-eq0 c = sym (run_none _ _ _ _ _ c.if-t-eq0.true)

pub put_part-requires : goal.put_part-requires
put_part-requires c =
    let value : let a = c.args in c.from.result / 2 ^ (8 - a.t) ≡ bits_value a.s.now a.from a.t = let a = c.args in
    rw (c.from.ensures, c.octet_at.ensures) (octet-part a.s.now a.from a.t (omega arith)) in
    (omega arith, rw value (value-range _ _ _), omega arith)

pub returns : goal.returns
returns c =
    let value : let a = c.args in c.from.result / 2 ^ (8 - a.t) ≡ bits_value a.s.now a.from a.t = let a = c.args in
    rw (c.from.ensures, c.octet_at.ensures) (octet-part a.s.now a.from a.t (omega arith)) in
    let a = c.args in
    c.put_part.ensures ∙ rw (value, ← run_value a.s.now a.from a.t (omega arith))
