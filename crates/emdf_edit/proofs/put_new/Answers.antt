use native.Mathlib.Omega.{arith}
use Rattle.emdf_request.specs.Requests.{bringing}
use Rattle.emdf_field_writer.proofs.Putting.{none-put}
use Rattle.emdf_edit.proofs.put_new.Goals as goal

pub put_body-requires : goal.put_body-requires
unfolding bringing
put_body-requires c = rw c.in-Body.is at c.requires

pub put_config-requires : goal.put_config-requires
unfolding bringing
put_config-requires c = rw c.in-Settings.is at c.requires

pub put_payload-requires : goal.put_payload-requires
unfolding bringing
put_payload-requires c = rw c.in-Insert.is at c.requires

pub put_extended-requires : goal.put_extended-requires
unfolding bringing
put_extended-requires c = (omega arith, omega arith, rw c.in-Key.is at c.requires)

pub put_protection-requires : goal.put_protection-requires
unfolding bringing
put_protection-requires c = rw c.in-Protection.is at c.requires

pub returns-in-Body : goal.returns-in-Body
unfolding bringing
returns-in-Body c = rw c.in-Body.is c.put_body.ensures

pub returns-in-Settings : goal.returns-in-Settings
unfolding bringing
returns-in-Settings c = rw c.in-Settings.is c.put_config.ensures

pub returns-in-Drop : goal.returns-in-Drop
unfolding bringing
returns-in-Drop c = rw c.in-Drop.is (none-put _ _)

pub returns-in-Insert : goal.returns-in-Insert
unfolding bringing
returns-in-Insert c = rw c.in-Insert.is c.put_payload.ensures

pub returns-in-Key : goal.returns-in-Key
unfolding bringing
returns-in-Key c = rw c.in-Key.is c.put_extended.ensures

pub returns-in-Protection : goal.returns-in-Protection
unfolding bringing
returns-in-Protection c = rw c.in-Protection.is c.put_protection.ensures
