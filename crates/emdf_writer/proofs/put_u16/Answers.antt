use Rattle.emdf_writer.proofs.Stored.{u16-stored}
use Rattle.emdf_writer.proofs.put_u16.Goals as goal

pub returns : goal.returns
returns c = u16-stored _ _ _ c.requires
