use mathlib.Core.Path.{◌≡◌}
use Prim.Native.Nat.{◌+◌, ◌-◌, ◌^◌}
use native.Mathlib.Omega.{arith}
use borrow.Author.Tests.{lt-ltb}
use lib.ListN.{length}
use lib.Dec.{lit<}
use Rattle.emdf_format.specs.Contents.{extension_bits}
use Rattle.emdf_measure.proofs.Asked.{groups-few, extension-few}
use Rattle.emdf_request.specs.Requests.{bringing}
use Rattle.emdf_request.proofs.brought_by.Goals as goal

pub returns-in-Body : goal.returns-in-Body
unfolding bringing
returns-in-Body c = (rw (c.in-Body.is, c.size_bits.ensures), omega (arith, c.size_bits.ensures, groups-few 8 (length c.args.octets.now) (lit< tt) (omega arith)))

pub returns-in-Settings : goal.returns-in-Settings
unfolding bringing
returns-in-Settings c = (rw (c.in-Settings.is, c.writable_config.ensures, c.config_bits.ensures.0), omega (arith, c.config_bits.ensures.1))

pub returns-in-Drop : goal.returns-in-Drop
unfolding bringing
returns-in-Drop c = (rw c.in-Drop.is, omega arith)

pub returns-in-Insert : goal.returns-in-Insert
unfolding bringing
returns-in-Insert c = (rw c.in-Insert.is c.payload_brought.ensures.0, c.payload_brought.ensures.1)

pub returns-in-Key : goal.returns-in-Key
unfolding bringing
returns-in-Key c =
    let f : c.key_bits.result - 2 ≡ 3 + extension_bits 3 c.in-Key.id = omega (arith, c.key_bits.ensures) in
    (rw (c.in-Key.is, lt-ltb c.in-Key.id (2 ^ 64) (omega arith), f), omega (arith, c.key_bits.ensures, extension-few 3 c.in-Key.id (lit< tt) (lit< tt) (omega arith)))

pub returns-in-Protection : goal.returns-in-Protection
unfolding bringing
returns-in-Protection c = (rw (c.in-Protection.is, c.writable_protection.ensures), omega arith)
