use mathlib.Core.Path.{ap, ◌∙◌}
use Rattle.emdf_trials.specs.Trials.{told_reading, read_rows}
use Rattle.emdf_trials.proofs.Answers.{records_told}
use Rattle.emdf_trials.proofs.trial_trace.Goals as goal

pub returns : goal.returns
unfolding read_rows
returns c =
    let rows = c.table_rows-rows.ensures.0 in
    let read = c.read_table-read.ensures in
    let t = rw rows at (ap told_reading read.0 ∙ records_told _) in
    (rw t at c.put_read.ensures, c.put_table.ensures ∙ rw (read.1, rows, c.blank_row.ensures))
