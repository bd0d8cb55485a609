use Prim.Native.Nat.{◌*◌}
use Rattle.openjoc_bitio.specs.Bits.{number_bits}
use Rattle.emdf_field_writer.specs.Fields.{Put}
use Rattle.emdf_field_writer.proofs.put_zeros.Given as goal

abbrev pub invariant-loop : goal.invariant-loop
invariant-loop l = Put l.initial.out l.initial.next.0 (number_bits (64 * l.counter) 0) l.out l.next.0
