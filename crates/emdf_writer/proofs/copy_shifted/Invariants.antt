use mathlib.Core.Path.{◌≡◌}
use Prim.Native.Nat.{◌+◌, ◌-◌, ◌*◌}
use lib.Seq.{sets}
use Rattle.emdf_format.specs.Syntax.{octet_bits}
use Rattle.emdf_writer.specs.Writing.{bit_run}
use Rattle.emdf_writer.proofs.copy_shifted.Given as goal

abbrev pub invariant-loop-k : goal.invariant-loop-k
invariant-loop-k l = sets (octet_bits l.out) (l.i * 8 + l.k * 8) (bit_run l.s (l.j * 8 + l.phase + l.k * 8) ((l.n - l.k) * 8)) ≡ sets (octet_bits l.initial.out) (l.i * 8) (bit_run l.s (l.j * 8 + l.phase) (l.n * 8))
