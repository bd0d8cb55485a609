use mathlib.Core.Path.{◌≡◌, refl, ap}
use mathlib.Core.Bool.{true, false, not}
use Rattle.emdf_format.proofs.Standing.{fails, holds}
use Rattle.emdf_compact.specs.Words.{present_value}
use Rattle.emdf_compact.proofs.present_value.Goals as goal

pub returns-then-not-there : goal.returns-then-not-there
unfolding present_value
returns-then-not-there c = let e : c.args.there ≡ false = fails (ap not c.if-not-there.true) refl in rw e

pub returns : goal.returns
unfolding present_value
returns c = let e : c.args.there ≡ true = holds (ap not c.if-not-there.false) refl in rw e
