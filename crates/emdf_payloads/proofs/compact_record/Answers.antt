use Rattle.emdf_payloads.proofs.compact_record.Goals as goal

pub returns : goal.returns
returns c = rw (c.bit_trace.ensures, c.compact_config.ensures)
