use mathlib.Core.Path.{refl}
use native.Mathlib.Omega.{arith}
use lib.Dec.{lit≤}
use Rattle.emdf_fields.proofs.Word.{word-window, word_after}
use Rattle.emdf_compact.proofs.Compact.{same_size}
use Rattle.emdf_payloads.proofs.size_word.Goals as goal

pub returns-then-head-lt40 : goal.returns-then-head-lt40
returns-then-head-lt40 c =
    let w = word_after c.args.head (lit≤ tt) (omega (arith, c.if-head-lt40.true)) (word-window c.args.s.now c.args.position) in
    let (l, v) = same_size w (word-window c.args.s.now _) (omega (arith, c.if-head-lt40.true)) (lit≤ tt) in
    rw c.requires.2 (record { length = l; value = v })

pub returns : goal.returns
returns c = rw c.window_at.ensures (record { length = refl; value = refl })
