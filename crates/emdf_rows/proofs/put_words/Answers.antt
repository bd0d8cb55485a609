use mathlib.Core.Path.{◌≡◌, sym, ◌∙◌}
use native.Mathlib.Omega.{arith}
use lib.ListN.{length}
use Rattle.emdf_rows.proofs.Stored.{word-stored, words-done}
use Rattle.emdf_rows.proofs.put_words.Goals as goal

pub loop-i-preserved : goal.loop-i-preserved
loop-i-preserved c = rw c.put_word.ensures (word-stored _ _ _ _ c.loop-i-test.true) ∙ c.loop-i.invariant

pub returns : goal.returns
returns c =
    let e : c.loop-i.i ≡ length c.args.values.now = omega arith in
    sym (words-done _ _ _ _ e) ∙ c.loop-i.invariant
