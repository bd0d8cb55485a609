use mathlib.Core.Path.{◌≡◌}
use Prim.Native.Nat.{◌+◌, ◌≤◌}
use lib.Seq.{sets}
use Rattle.openjoc_bitio.specs.Bits.{number_bits}
use Rattle.emdf_format.specs.Syntax.{octet_bits}
use Rattle.emdf_writer.proofs.put_parts.Given as goal

abbrev pub invariant-loop-n : goal.invariant-loop-n
invariant-loop-n l = (l.n ≤ l.width) × (l.p + l.n ≡ l.at + l.width) × (sets (octet_bits l.out) l.p (number_bits l.n l.v) ≡ sets (octet_bits l.initial.out) l.at (number_bits l.width l.v))

abbrev pub decreases-loop-n : goal.decreases-loop-n
decreases-loop-n l = l.n
