use Rattle.emdf_field_writer.proofs.+put_variable.Given as goal

abbrev pub decreases-put_variable : goal.decreases-put_variable
decreases-put_variable l = l.v
