use Rattle.std.specs.Prelude.{Err}
use Rattle.std.proofs.Common.{rules}
use Prim.Native.Nat.{◌-◌}
use mathlib.Core.Path.{◌≡◌, sym, ◌∙◌}
use native.Mathlib.Omega.{arith}
use Rattle.openjoc_bitio.specs.Cursor.{bits_remaining}
use Rattle.openjoc_bitio.proofs.Cursor.{remaining-end}
use Rattle.emdf_format.proofs.Standing.{bit_limit, remaining-limit}
use Rattle.emdf_container.specs.Container.{bytes_answer}
use Rattle.emdf_fields.proofs.Answers.{count-ended}
use Rattle.emdf_fields.proofs.Octets.{passed}
use Rattle.emdf_container.proofs.Octets.{bytes-are}
use Rattle.emdf_container.proofs.protection_bytes.Goals as goal

pub returns-in_err-past : goal.returns-in_err-past
unfolding bytes_answer
returns-in_err-past c =
    let d = count-ended _ _ (sym c.skip_octets.ensures ∙ c.in_err-past.was) in
    let z : c.from_residual.result ≡ Err c.in_err-past.field-0.0 = search rules in
    rw d.1 z

pub overflow_add-last : goal.overflow_add-last
overflow_add-last c =
    let a = c.args in
    let s = a.s.now in
    let e = a.c.end in
    let p = a.c.position in
    let d = passed s e p a.n (sym c.skip_octets.ensures ∙ c.in_ok-past.was) in
    let l : bits_remaining s a.c ≡ bit_limit s e - p = remaining-limit s e p in
    omega (arith, d.room, c.saturating_sub-more.ensures, remaining-end s a.c)

pub returns : goal.returns
returns c =
    let a = c.args in
    let s = a.s.now in
    let e = a.c.end in
    let p = a.c.position in
    let d = passed s e p a.n (sym c.skip_octets.ensures ∙ c.in_ok-past.was) in
    bytes-are s a.c a.n d c.saturating_sub-more.ensures c.value_at.ensures c.value_at-2.ensures
