use Rattle.std.proofs.Common.{rules}
use Rattle.emdf_container.proofs.Octets.{value_read}
use Rattle.emdf_container.proofs.value_at.Goals as goal

pub returns : goal.returns
returns c = value_read _ _ _ c.read_bits.result c.requires c.read_bits.ensures c.map_or.ensures (λ x k. search rules)
