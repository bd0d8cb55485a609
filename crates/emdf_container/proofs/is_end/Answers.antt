use native.Mathlib.Omega.{arith}
use Rattle.emdf_container.proofs.Words.{end_is}
use Rattle.emdf_container.proofs.is_end.Goals as goal

pub returns : goal.returns
returns c = end_is _ _ _ _ _ (omega arith) (omega arith) (omega arith) c.window_at.ensures
