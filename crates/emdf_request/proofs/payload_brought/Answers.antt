use Prim.Native.Nat.{◌+◌, ◌*◌, ◌≤◌}
use native.Mathlib.Omega.{arith}
use lib.ListN.{length}
use lib.Dec.{lit<}
use mathlib.Core.Path.{◌≡◌}
use Rattle.emdf_format.specs.Syntax.{groups}
use Rattle.emdf_format.specs.Contents.{writable_payload, extension_bits, needed_config}
use Rattle.emdf_measure.proofs.Asked.{groups-few, extension-few}
use Rattle.emdf_request.specs.Requests.{bringing}
use Rattle.emdf_request.proofs.payload_brought.Goals as goal

pub overflow_add-result : goal.overflow_add-result
overflow_add-result c =
    let few : c.id_bits.result + c.config_bits.result ≤ 2821 = omega (arith, c.id_bits.ensures, c.config_bits.ensures.1, extension-few 5 c.args.id (lit< tt) (lit< tt) (omega arith)) in
    omega (arith, few)

pub overflow_add-result-2 : goal.overflow_add-result-2
overflow_add-result-2 c =
    let few : c.id_bits.result + c.config_bits.result ≤ 2821 = omega (arith, c.id_bits.ensures, c.config_bits.ensures.1, extension-few 5 c.args.id (lit< tt) (lit< tt) (omega arith)) in
    let all-few : c.id_bits.result + c.config_bits.result + c.size_bits.result ≤ 4096 = omega (arith, few, c.size_bits.ensures, groups-few 8 (length c.args.body.now) (lit< tt) (omega arith)) in
    omega (arith, all-few)

pub returns : goal.returns
unfolding bringing writable_payload
returns c =
    let few : c.id_bits.result + c.config_bits.result ≤ 2821 = omega (arith, c.id_bits.ensures, c.config_bits.ensures.1, extension-few 5 c.args.id (lit< tt) (lit< tt) (omega arith)) in
    let all-few : c.id_bits.result + c.config_bits.result + c.size_bits.result ≤ 4096 = omega (arith, few, c.size_bits.ensures, groups-few 8 (length c.args.body.now) (lit< tt) (omega arith)) in
    let a = c.args in
    let f : c.id_bits.result + c.config_bits.result + c.size_bits.result ≡ 5 + extension_bits 5 a.id + needed_config a.config + 9 * groups 8 (length a.body.now) =
    omega (arith, c.id_bits.ensures, c.config_bits.ensures.0, c.size_bits.ensures) in
    (rw (c.writable_payload.ensures, f), all-few)
