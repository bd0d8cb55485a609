use native.Mathlib.Omega.{arith}
use Rattle.emdf_writer.proofs.Stored.{WithCode, with_code}
use Rattle.emdf_writer.proofs.byte_with.Goals as goal

pub returns : goal.returns
returns c =
    let a = c.args in
    let code : WithCode a.b a.t a.below a.v = with_code _ _ _ _ (omega arith) (omega arith) (omega arith) in
    rw c.from-x.ensures code.is

pub overflow_cast-result : goal.overflow_cast-result
overflow_cast-result c =
    let a = c.args in
    let code : WithCode a.b a.t a.below a.v = with_code _ _ _ _ (omega arith) (omega arith) (omega arith) in
    rw (c.from-x.ensures, code.is) (record { fits = code.all })
