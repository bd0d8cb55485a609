use mathlib.Core.Path.{sym, ap, ◌∙◌}
use Prim.Native.Nat.{ℕ, ◌/◌, ◌^◌, ◌≤◌}
use native.Mathlib.Omega.{arith}
use Rattle.openjoc_bitio.specs.Cursor.{bits_remaining}
use Rattle.openjoc_bitio.proofs.Cursor.{remaining-end}
use Rattle.emdf_container.specs.Container.{container_answer}
use Rattle.emdf_container.proofs.Words.{header-found}
use Rattle.emdf_container.proofs.parse_container.Goals as goal

pub overflow_add-c1 : goal.overflow_add-c1
overflow_add-c1 c =
    let a = c.args in
    omega (arith, c.bits_remaining.ensures, remaining-end a.s.now a.c)

pub returns-then-bits_remaining-ge5 : goal.returns-then-bits_remaining-ge5
returns-then-bits_remaining-ge5 c =
    let a = c.args in
    let s = a.s.now in
    let r : 5 ≤ bits_remaining s a.c = omega (arith, c.bits_remaining.ensures) in
    c.parse_payloads.ensures ∙ ap (container_answer a.c.end) (sym (header-found s a.c.end a.c.position (ap (λ (x : ℕ). x / 2 ^ 59) c.window_at-key.ensures) c.if-key-lt7.true r))
