use Rattle.openjoc_bitio.specs.Cursor.{whole_slice}
use Rattle.openjoc_bitio.proofs.BitCursor.new.Goals as goal

pub returns : goal.returns
unfolding whole_slice
returns c = simp c.bit_length.ensures
