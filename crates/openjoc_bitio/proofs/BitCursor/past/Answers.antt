use native.Mathlib.Omega.{arith}
use Rattle.openjoc_bitio.proofs.Cursor.{remaining-end}
use Rattle.openjoc_bitio.proofs.BitCursor.past.Goals as goal

pub overflow_add-result : goal.overflow_add-result
overflow_add-result c = let a = c.args in omega (arith, remaining-end a.s.now a.self)
