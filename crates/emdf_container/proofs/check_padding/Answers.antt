use Prim.Native.Nat.{◌≤◌, ◌<◌}
use mathlib.Core.Path.{◌≡◌, sym, ◌∙◌}
use native.Mathlib.Omega.{arith}
use Rattle.openjoc_bitio.specs.Cursor.{bits_remaining}
use Rattle.emdf_container.specs.Container.{padding_answer}
use Rattle.emdf_container.proofs.Octets.{pad-excess, pad-nonzero, padding-there, rest-value}
use Rattle.emdf_container.proofs.check_padding.Goals as goal

pub returns-then-remaining-gt7 : goal.returns-then-remaining-gt7
unfolding padding_answer
returns-then-remaining-gt7 c =
    let a = c.args in
    let h : c.bits_remaining-remaining.result ≡ bits_remaining a.s.now a.c = c.bits_remaining-remaining.ensures in
    let l : 7 < bits_remaining a.s.now a.c = omega arith in
    rw (h, pad-excess a.s.now a.c.end a.c.position l)

pub returns-then-value_at-ne0 : goal.returns-then-value_at-ne0
unfolding padding_answer
returns-then-value_at-ne0 c =
    let a = c.args in
    let h = c.bits_remaining-remaining.ensures in
    let l : bits_remaining a.s.now a.c ≤ 7 = omega (arith, h) in
    rw (pad-nonzero a.s.now a.c.end a.c.position l (λ z. c.if-value_at-ne0.true (c.value_at.ensures ∙ rest-value a.s.now a.c h ∙ z)))

pub returns : goal.returns
unfolding padding_answer
returns c =
    let a = c.args in
    let h = c.bits_remaining-remaining.ensures in
    let l : bits_remaining a.s.now a.c ≤ 7 = omega (arith, h) in
    rw (padding-there a.s.now a.c.end a.c.position l (sym (rest-value a.s.now a.c h) ∙ sym c.value_at.ensures ∙ c.if-value_at-ne0.false))
