use mathlib.Core.Path.{sym, ◌∙◌}
use native.Mathlib.Omega.{arith}
use lib.Seq.{length-take-le}
use Rattle.openjoc_emdf.proofs.Opening.{opened}
use Rattle.emdf_host.proofs.Carriers.{all_listed, refused-table, refused-carrier, read-carrier}
use Rattle.emdf_host.proofs.emdf_read.Goals as goal

pub returns-then-table-count : goal.returns-then-table-count
returns-then-table-count c =
    refused-table _ _ (sym c.open_carrier.ensures ∙ c.in-Ok.is) c.if-table-count.true c.put_refusal-then-table-count.ensures

pub slice_bounds-put_rows-end : goal.slice_bounds-put_rows-end
slice_bounds-put_rows-end c =
    sym (length-take-le _ _ (opened _ (sym c.open_carrier.ensures ∙ c.in-Ok.is)).there)

pub put_rows-requires : goal.put_rows-requires
put_rows-requires c =
    (omega arith, all_listed _ (sym c.open_carrier.ensures ∙ c.in-Ok.is))

pub returns : goal.returns
returns c =
    read-carrier _ _ (sym c.open_carrier.ensures ∙ c.in-Ok.is) c.if-table-count.false c.put_reading.ensures c.parsed_words.ensures c.put_rows.ensures

pub returns-in-Err : goal.returns-in-Err
returns-in-Err c =
    refused-carrier _ _ (sym c.open_carrier.ensures ∙ c.in-Err.is) c.put_refusal.ensures
