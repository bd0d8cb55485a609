-- Where a body is: the move's answer before it asks the scratch for room. Assumes nothing.
use Rattle.std.proofs.Math.Option.{Option, none, some}
use Rattle.std.specs.Prelude.{ℕ, length, Result, Ok, Err}
use Rattle.std.proofs.Math.ListN.{get_elem?}
use Rattle.openjoc_bitio.specs.declared.ByteCount.{ByteCount}
use Rattle.openjoc_bitio.specs.declared.BitOffset.{BitOffset}
use Rattle.emdf_format.specs.declared.BodyError.{BodyError}
use Rattle.emdf_format.specs.Reading.{Found, Reading, accepted, refusal}
use Rattle.emdf_format.specs.Calls.{body_start}

unfoldable pub body_of : Option Found → Result (BitOffset × ByteCount) BodyError
body_of none = Err BodyError.NoSuchPayload
body_of (some x) = Ok (record { 0 = body_start x }, record { 0 = length x.body })

unfoldable pub find_body : Reading → ℕ → Result (BitOffset × ByteCount) BodyError
find_body (accepted n c) k = body_of (get_elem? c.found k)
find_body (refusal why) k = Err (BodyError.Emdf why)
