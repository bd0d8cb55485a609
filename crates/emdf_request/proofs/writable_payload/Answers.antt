use Rattle.std.proofs.Common.{arith}
use Rattle.std.proofs.lemmas.Bool.Decides.{nat_tests}
use Rattle.emdf_format.specs.Contents.{◌&◌, writable_payload}
use Rattle.emdf_request.proofs.writable_payload.Goals as goal

pub returns-then-id-ne0 : goal.returns-then-id-ne0
unfolding writable_payload ◌&◌
returns-then-id-ne0 c = grind (arith, nat_tests)

pub returns-else-id-ne0 : goal.returns-else-id-ne0
unfolding writable_payload ◌&◌
returns-else-id-ne0 c = grind (arith, nat_tests)
