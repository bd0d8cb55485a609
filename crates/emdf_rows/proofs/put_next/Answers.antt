use Prim.Native.Nat.{◌<◌, ◌^◌}
use mathlib.Core.Path.{◌∙◌}
use native.Mathlib.Omega.{arith}
use Rattle.emdf_rows.proofs.Rows.{puts-numbered, compact-payload}
use Rattle.emdf_rows.proofs.put_next.Goals as goal

pub returns : goal.returns
returns c found next e =
    let small : c.compact_record-record.result.id < 2 ^ 64 = omega arith in
    let fits : c.next_ordinal-ordinal.result < 2 ^ 64 = omega arith in
    let (f, g) = compact-payload c.compact_at-found.ensures (omega arith) e in
    (rw (c.compact_record-record.ensures ∙ f) at (puts-numbered c.next_ordinal-ordinal.ensures c.put_row.ensures small fits), g)
