use mathlib.Core.Path.{◌∙◌}
use native.Mathlib.Omega.{arith}
use Rattle.emdf_rows.proofs.Stored.{octets-stored}
use Rattle.emdf_rows.proofs.put_word.Goals as goal

pub returns : goal.returns
returns c = octets-stored _ _ _ (c.copy_from_slice.ensures.after ∙ c.to_be_bytes.ensures) (omega arith) (omega arith)
