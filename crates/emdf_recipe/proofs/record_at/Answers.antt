use Rattle.emdf_recipe.specs.File.{record_at}
use Rattle.emdf_recipe.proofs.record_at.Goals as goal

pub returns : goal.returns
unfolding record_at
returns c = rw (c.octets_number.ensures, c.kind_of.ensures, c.octets_number-2.ensures, c.octets_number-3.ensures, c.octets_number-4.ensures, c.octets_number-5.ensures, c.octets_number-6.ensures)
