use lib.Seq.{length-take-le}
use mathlib.Core.Path.{sym}
use Rattle.emdf_recipe_run.specs.declared.Holder.TheVariants.{Start, First, Second}
use Rattle.emdf_recipe_run.specs.Runs.{source, target, first_after, second_after, Lies}
use Rattle.emdf_recipe_run.proofs.Runs.{landed}
use Rattle.emdf_recipe_run.proofs.run_edit.Goals as goal

pub slice_bounds-apply-end : goal.slice_bounds-apply-end
unfolding Lies
slice_bounds-apply-end c = rw c.in-First.is at c.requires.0

pub slice_bounds-apply-end-in-First : goal.slice_bounds-apply-end-in-First
unfolding Lies
slice_bounds-apply-end-in-First c = sym (length-take-le _ _ (rw c.in-First.is at c.requires.0))

pub slice_bounds-apply-end-in-Second : goal.slice_bounds-apply-end-in-Second
unfolding Lies
slice_bounds-apply-end-in-Second c = rw c.in-Second.is at c.requires.0

pub slice_bounds-apply-end-in-Second-2 : goal.slice_bounds-apply-end-in-Second-2
unfolding Lies
slice_bounds-apply-end-in-Second-2 c = sym (length-take-le _ _ (rw c.in-Second.is at c.requires.0))

pub returns-in-Start : goal.returns-in-Start
unfolding source target first_after second_after
returns-in-Start c = rw c.count_in.ensures (landed _ _ _ Start c.in-Start.is c.apply.ensures)

pub returns-in-First : goal.returns-in-First
unfolding source target first_after second_after
returns-in-First c = rw c.count_in-in-First.ensures (landed _ _ _ First c.in-First.is c.apply-in-First.ensures)

pub returns-in-Second : goal.returns-in-Second
unfolding source target first_after second_after
returns-in-Second c = rw c.count_in-in-Second.ensures (landed _ _ _ Second c.in-Second.is c.apply-in-Second.ensures)
