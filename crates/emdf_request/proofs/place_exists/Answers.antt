use Rattle.std.proofs.Common.{rules}
use Rattle.emdf_format.specs.Edits.{place_exists}
use Rattle.emdf_request.specs.Requests.{edit_of}
use Rattle.emdf_request.proofs.place_exists.Goals as goal

pub returns-in-Body : goal.returns-in-Body
unfolding place_exists edit_of
returns-in-Body c = search rules

pub returns-in-Insert : goal.returns-in-Insert
unfolding place_exists edit_of
returns-in-Insert c = search rules

pub returns-in-Key : goal.returns-in-Key
unfolding place_exists edit_of
returns-in-Key c = search rules
