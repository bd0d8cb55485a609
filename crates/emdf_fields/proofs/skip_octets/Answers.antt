use Prim.Native.Nat.{ℕ, ◌+◌, ◌-◌, ◌*◌, ◌≤◌, ◌<◌}
use mathlib.Core.Path.{◌≡◌, ap, ◌∙◌}
use native.Mathlib.Omega.{arith}
use Rattle.openjoc_bitio.proofs.Cursor.{remaining-end}
use Rattle.emdf_format.specs.Reader.{cursor_at}
use Rattle.emdf_format.proofs.Standing.{bit_limit, remaining-limit}
use Rattle.emdf_format.proofs.Loops.{octets-there, octets-short}
use Rattle.emdf_fields.specs.Fields.{count_answer}
use Rattle.emdf_format.specs.declared.EmdfError.{EmdfError}
use Rattle.openjoc_bitio.specs.declared.BitCursor.{BitCursor}
use Rattle.std.specs.Prelude.{Result, Ok}
use Rattle.emdf_fields.proofs.Octets.{length-octets-at}
use Rattle.emdf_fields.proofs.skip_octets.Goals as goal

pub returns-then-there-n : goal.returns-then-there-n
unfolding count_answer
returns-then-there-n c =
    let a = c.args in
    let s = a.s.now in
    let e = a.c.end in
    let p = a.c.position in
    let h : c.bits_remaining-remaining.result ≡ bit_limit s e - p = c.bits_remaining-remaining.ensures ∙ remaining-limit s e p in
    let k : bit_limit s e - p < 8 * a.n = omega arith in
    rw (octets-short a.n s e p k, ← h)

pub overflow_add-position : goal.overflow_add-position
overflow_add-position c = let a = c.args in omega (arith, remaining-end a.s.now a.c)

pub returns : goal.returns
unfolding count_answer
returns c =
    let a = c.args in
    let s = a.s.now in
    let e = a.c.end in
    let p = a.c.position in
    let h : c.bits_remaining-remaining.result ≡ bit_limit s e - p = c.bits_remaining-remaining.ensures ∙ remaining-limit s e p in
    let k : 8 * a.n ≤ bit_limit s e - p = omega arith in
    let m : p + a.n * 8 ≡ p + 8 * a.n = omega arith in
    rw (octets-there a.n s e p k, length-octets-at) (ap {B = Result (ℕ × BitCursor) EmdfError} (λ (q : ℕ). Ok (a.n, cursor_at e q)) m)
