use mathlib.Core.Path.{◌≡◌}
use Prim.Native.Nat.{ℕ, ◌*◌, ◌^◌, ◌<◌}
use native.Mathlib.Omega.{arith}
use lib.Dec.{ltb}
use lib.ListN.{length}
use borrow.Author.Tests.{le-ltb, lt-ltb}
use Rattle.std.specs.Prelude.{Option, Some, None, SomeIff, unwrap_or, if◌then◌else◌}
use Rattle.openjoc_bitio.specs.Cursor.{bit_length}
use Rattle.openjoc_bitio.proofs.bit_length.Goals as goal

counted : (n : ℕ) (o : Option ℕ) → SomeIff o (n * 8 < 2 ^ 64) (n * 8) → unwrap_or o 0 ≡ (if ltb n (2 ^ 61) then n * 8 else 0)
counted n None h = rw (le-ltb n (2 ^ 61) (omega (arith, h)))
counted n (Some x) h = rw (lt-ltb n (2 ^ 61) (omega (arith, h.0))) h.1

pub returns : goal.returns
unfolding bit_length
returns c = rw c.unwrap_or.ensures (counted (length c.args.s.now) c.checked_mul.result c.checked_mul.ensures)
