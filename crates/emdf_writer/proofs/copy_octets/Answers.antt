use mathlib.Core.Path.{◌≡◌, ◌∙◌}
use Prim.Native.Nat.{◌+◌, ◌*◌, ◌/◌, ◌%◌}
use native.Mathlib.Omega.{arith}
use Rattle.emdf_writer.proofs.copy_octets.Goals as goal

pub returns-then-phase-eq0 : goal.returns-then-phase-eq0
returns-then-phase-eq0 c =
    let a = c.args in
    let e : a.from / 8 * 8 ≡ a.from = omega arith in
    c.copy_bytes.ensures ∙ rw e

pub returns : goal.returns
returns c =
    let a = c.args in
    let e : a.from / 8 * 8 + a.from % 8 ≡ a.from = omega arith in
    c.copy_shifted.ensures ∙ rw e
