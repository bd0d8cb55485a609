use mathlib.Core.Path.{◌≡◌, ◌∙◌}
use Prim.Native.Nat.{◌+◌, ◌-◌, ◌*◌, ◌/◌, ◌%◌}
use native.Mathlib.Omega.{arith}
use Rattle.emdf_writer.proofs.Stored.{part-stored}
use Rattle.emdf_writer.proofs.put_part.Goals as goal

pub returns : goal.returns
returns c =
    let a = c.args in
    let e : a.at / 8 * 8 + a.at % 8 ≡ a.at = omega arith in
    rw c.byte_with.ensures (part-stored a.out.now (a.at / 8) (a.at % 8) a.t (8 - a.at % 8 - a.t) a.v (omega arith) (omega arith) c.requires.1 ∙ rw e)
