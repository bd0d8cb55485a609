use Rattle.std.proofs.Common.{replicate, arith}
use lib.ListN.{length-replicate}
use Rattle.emdf_format.specs.declared.PayloadRow.{PayloadRow}
use Rattle.emdf_table.proofs.Rest.{whole_gives}
use Rattle.emdf_table.proofs.read_table.Goals as goal

pub returns : goal.returns
returns c = whole_gives c.args.bytes.now (replicate 512 c.args.blank) c.args.rows (omega (arith, length-replicate {A = PayloadRow} 512 c.args.blank)) c.parse_emdf_sync_with_bit_trace-answer.ensures
