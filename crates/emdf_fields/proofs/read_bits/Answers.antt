use mathlib.Core.Path.{sym, ◌∙◌}
use Rattle.emdf_format.specs.Reader.{bits, from_bits}
use Rattle.openjoc_bitio.proofs.Cursor.{read_past}
use Rattle.emdf_fields.specs.Fields.{field_answer}
use Rattle.emdf_fields.proofs.read_bits.Goals as goal

pub returns-in-Ok : goal.returns-in-Ok
unfolding field_answer bits from_bits
returns-in-Ok c =
    let h = sym c.read_bits.ensures ∙ c.in-Ok.is in
    rw (h, ← read_past _ _ _ h)

pub returns-in-Err : goal.returns-in-Err
unfolding field_answer bits from_bits
returns-in-Err c = rw (sym c.read_bits.ensures ∙ c.in-Err.is)
