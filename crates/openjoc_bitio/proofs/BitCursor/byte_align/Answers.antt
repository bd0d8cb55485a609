use Rattle.openjoc_bitio.specs.Cursor.{byte_align}
use Rattle.openjoc_bitio.proofs.BitCursor.byte_align.Goals as goal

pub returns : goal.returns
unfolding byte_align
returns c = c.past.ensures
