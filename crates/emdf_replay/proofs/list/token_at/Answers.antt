use Rattle.std.proofs.Common.{sym, arith}
use Rattle.emdf_text.proofs.Text.{number-inside}
use Rattle.emdf_replay.proofs.list.token_at.Goals as goal

pub returns-in-32 : goal.returns-in-32
returns-in-32 c = omega (arith, number-inside c.args.text.now c.args.at _ _ (sym c.in_ok-value.ensures))

pub returns-in-10 : goal.returns-in-10
returns-in-10 c = omega (arith, number-inside c.args.text.now c.args.at _ _ (sym c.in_ok-value.ensures))
