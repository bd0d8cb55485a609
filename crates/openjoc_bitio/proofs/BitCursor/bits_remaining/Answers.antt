use borrow.Author.Tests.{le-leb, lt-leb}
use Rattle.openjoc_bitio.specs.Cursor.{bits_remaining}
use Rattle.openjoc_bitio.proofs.BitCursor.bits_remaining.Goals as goal

pub returns-then-bit_length-self : goal.returns-then-bit_length-self
unfolding bits_remaining
returns-then-bit_length-self c = simp (← c.bit_length.ensures, lt-leb _ _ c.if-bit_length-self.true)

pub returns : goal.returns
unfolding bits_remaining
returns c = simp (← c.bit_length.ensures, le-leb _ _ c.if-bit_length-self.false) c.saturating_sub.ensures
