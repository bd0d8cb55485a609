use Rattle.std.proofs.Common.{rules}
use mathlib.Core.Path.{refl, sym, ap, ◌∙◌}
use mathlib.Core.List.{List, [], ◌∷◌}
use Prim.Native.Nat.{ℕ}
use lib.Seq.{sets}
use Rattle.emdf_answers.specs.Bits.{reply_words}
use Rattle.emdf_answers.specs.Form.{words}
use Rattle.emdf_rows.proofs.Stored.{words-one, words-then, words-whole}
use Rattle.emdf_rows.proofs.put_field.Goals as goal

pub returns : goal.returns
returns c =
    let f = c.args.field in
    let six : List ℕ = sets c.args.answer.now 0 (words (reply_words f.reply)) in
    (refl, c.put_word.ensures ∙ rw (c.put_words.ensures, c.reply_words.ensures) (ap (λ (w : List ℕ). sets six 48 w) (sym (words-one f.groups)) ∙ words-then _ 0 (reply_words f.reply) (f.groups ∷ []) refl ∙ words-whole _ _ (search rules)))
