use mathlib.Core.Path.{◌≡◌}
use Prim.Native.Nat.{◌+◌, ◌-◌, ◌*◌}
use lib.Seq.{sets}
use Rattle.emdf_format.specs.Syntax.{octet_bits}
use Rattle.emdf_writer.specs.Writing.{bit_run}
use Rattle.emdf_writer.proofs.copy_bytes.Given as goal

abbrev pub invariant-loop-moved : goal.invariant-loop-moved
invariant-loop-moved l = sets (octet_bits l.out) (l.i * 8 + l.moved * 8) (bit_run l.s (l.j * 8 + l.moved * 8) ((l.n - l.moved) * 8)) ≡ sets (octet_bits l.initial.out) (l.i * 8) (bit_run l.s (l.j * 8) (l.n * 8))
