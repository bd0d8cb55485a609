use Rattle.openjoc_bitio.proofs.Bits.{window-word}
use Rattle.openjoc_bitio.proofs.window_at.Goals as goal

pub returns : goal.returns
returns c = let a = c.args in rw c.octets_at.ensures (window-word a.s.now a.p)
