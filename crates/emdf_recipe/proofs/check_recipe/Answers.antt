use mathlib.Core.Path.{◌≡◌, sym, ◌∙◌}
use native.Mathlib.Omega.{arith}
use borrow.Author.Tests.{lt-leb, le-leb}
use Rattle.std.specs.Prelude.{Err}
use Rattle.std.proofs.Common.{rules}
use Rattle.openjoc_bitio.proofs.Bits.{value-range}
use Rattle.emdf_recipe.specs.File.{recipe_of, edits_after}
use Rattle.emdf_recipe.proofs.File.{link-next, rises-above, going_start, going_on, going-broken, going_end}
use Rattle.emdf_recipe.proofs.check_recipe.Goals as goal

pub returns-then-file-lt-HEAD : goal.returns-then-file-lt-HEAD
unfolding recipe_of edits_after
returns-then-file-lt-HEAD c = simp (lt-leb 4 _ c.if-file-lt-HEAD.true)

pub returns-then-count-i : goal.returns-then-count-i
unfolding recipe_of edits_after
returns-then-count-i c = simp (le-leb 4 _ c.if-file-lt-HEAD.false, lt-leb _ _ (rw (c.octets_number-count.ensures, c.octets_number-i.ensures) at c.if-count-i.true))

pub loop-i-init : goal.loop-i-init
loop-i-init c = rw (c.octets_number-count.ensures, c.octets_number-i.ensures) (going_start _ c.if-file-lt-HEAD.false (rw (c.octets_number-count.ensures, c.octets_number-i.ensures) at c.if-count-i.false), value-range _ _ 16)

pub link_at-requires : goal.link_at-requires
link_at-requires c = (omega arith, omega (arith, c.loop-i.invariant.0.low))

pub overflow_add-edits : goal.overflow_add-edits
overflow_add-edits c = let l = c.loop-i in omega (arith, l.invariant.0.few c.loop-i-test.true, l.invariant.0.low)

pub loop-i-smaller : goal.loop-i-smaller
loop-i-smaller c = (rises-above _ _ _ c.loop-i-test.true c.loop-i.invariant.0.low (link-next _ _ _ _ (sym c.link_at.ensures ∙ c.in_ok-i.was)).rising).falls

pub loop-i-preserved : goal.loop-i-preserved
loop-i-preserved c = (going_on _ _ _ _ c.loop-i.invariant.0 c.loop-i-test.true _ (sym c.link_at.ensures ∙ c.in_ok-i.was), c.loop-i.invariant.1)

pub returns-in_err-i : goal.returns-in_err-i
returns-in_err-i c =
    let h : c.from_residual.result ≡ Err c.in_err-i.field-0.0 = search rules in
    h ∙ sym (going-broken _ _ _ _ c.loop-i.invariant.0 c.loop-i-test.true _ (sym c.link_at.ensures ∙ c.in_err-i.was))

pub returns : goal.returns
returns c = sym (going_end _ _ _ _ c.loop-i.invariant.0 c.loop-i-test.false)
