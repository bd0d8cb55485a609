use Rattle.std.proofs.Common.{◌+◌, arith}
use Rattle.std.proofs.lemmas.Bool.Decides.{nat_tests}
use Rattle.emdf_text.proofs.Text.{past, decimal-is, scan-step, scan-end}
use Rattle.emdf_text.proofs.number_at.Goals as goal

pub returns-in_err-rest : goal.returns-in_err-rest
returns-in_err-rest c = let h = past c.args.text.now c.args.at (omega (arith, c.in_err-rest.ensures.lookup)) in cc

pub returns-in_err-first : goal.returns-in_err-first
returns-in_err-first c = grind (arith, nat_tests, decimal-is c.args.text.now c.args.at c.in_ok-rest.ensures.lookup.0.2, c.in_err-first.ensures)

pub returns-then-not-is_ascii_digit : goal.returns-then-not-is_ascii_digit
returns-then-not-is_ascii_digit c = grind (arith, nat_tests, decimal-is c.args.text.now c.args.at c.in_ok-rest.ensures.lookup.0.2, c.in_ok-first.ensures, c.if-not-is_ascii_digit.ensures)

pub loop-i-init : goal.loop-i-init
loop-i-init c = grind (arith, nat_tests, decimal-is c.args.text.now c.args.at c.in_ok-rest.ensures.lookup.0.2, c.in_ok-first.ensures)

pub returns-then-not-is_ascii_digit-2 : goal.returns-then-not-is_ascii_digit-2
returns-then-not-is_ascii_digit-2 c = grind (arith, nat_tests, scan-step _ c.loop-i.number c.args.at _ c.loop-i-test.true)

pub returns-in_err-checked_mul : goal.returns-in_err-checked_mul
returns-in_err-checked_mul c = grind (arith, nat_tests, scan-step _ c.loop-i.number c.args.at _ c.loop-i-test.true, c.in_err-checked_mul.ensures)

pub returns-in_err-number : goal.returns-in_err-number
returns-in_err-number c = grind (arith, nat_tests, scan-step _ c.loop-i.number c.args.at _ c.loop-i-test.true, c.in_err-number.ensures)

pub loop-i-preserved : goal.loop-i-preserved
loop-i-preserved c = grind (arith, nat_tests, scan-step _ c.loop-i.number c.args.at _ c.loop-i-test.true, c.in_ok-number.ensures, c.in_ok-checked_mul.ensures)

pub returns : goal.returns
returns c = grind (arith, nat_tests, scan-end _ c.loop-i.number (c.args.at + c.loop-i.i) _ c.loop-i-test.false, c.in_ok-rest.ensures)
