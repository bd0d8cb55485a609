use Rattle.emdf_rows.proofs.Rows.{row-stored}
use Rattle.emdf_rows.proofs.put_row.Goals as goal

pub returns : goal.returns
returns c = let e = row-stored c.args.table.now c.args.at (record { payload = c.args.payload; ordinal = c.args.ordinal }) in cc
