use Rattle.emdf_text.proofs.Put.{one_byte}
use Rattle.emdf_text.proofs.lines.put_byte.Goals as goal

pub returns : goal.returns
returns c = one_byte _ _ _ c.requires
