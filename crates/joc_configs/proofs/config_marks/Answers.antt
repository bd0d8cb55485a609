use Rattle.std.proofs.Common.{◌≡◌, ◌≤◌, ◌<◌, ◌+◌, ◌^◌, length, ap, ◌∙◌, refl, arith}
use Rattle.std.specs.Prelude.{if◌then◌else◌}
use mathlib.Core.Bool.{not}
use Rattle.emdf_format.specs.Profile.{table56, marks, word}
use Rattle.joc_configs.proofs.Profile.{marks_before, word_within, before-within, next-mark, all-marks, weight}
use Rattle.joc_configs.proofs.config_marks.Goals as goal
use Rattle.joc_configs.proofs.config_marks.Goals.{After-table56-settings, then-not-meets_wanted, else-not-meets_wanted}

ten : (c : After-table56-settings) → length c.table56-settings.result ≡ 10
unfolding table56
ten c = ap length c.table56-settings.ensures

pub overflow_add-word : goal.overflow_add-word
overflow_add-word c =
    let l = c.loop-k in
    let small : l.k ≤ length c.table56-settings.result = omega (arith, ten (goal.at.overflow_add-word c).After-table56-settings) in
    omega (arith, l.invariant, before-within c.table56-settings.result l.k small, weight l.k (omega arith))

pub loop-k-init : goal.loop-k-init
unfolding word
loop-k-init c = refl

pub loop-k-preserved : goal.loop-k-preserved
loop-k-preserved c =
    let l = c.loop-k in
    let within : l.k < length c.table56-settings.result = omega (arith, ten (goal.at.loop-k-preserved c).After-table56-settings) in
    let more : c.if-not-meets_wanted.word ≡ word (marks_before c.table56-settings.result l.k) + (if not c.meets_wanted.result then 2 ^ l.k else 0) =
    elim c.if-not-meets_wanted.branch [
      | then-not-meets_wanted w ↦ rw w.if-not-meets_wanted.true (omega (arith, w.word-is, l.invariant, weight l.k (omega arith)))
      | else-not-meets_wanted w ↦ rw w.if-not-meets_wanted.false (omega (arith, w.word-is, l.invariant))
    ]
    in
    next-mark _ l.k _ within c.meets_wanted.ensures more

pub returns : goal.returns
unfolding table56 marks
returns c =
    let l = c.loop-k in
    let e = l.invariant ∙ ap word (all-marks (table56 c.args.role c.args.t) c.table56-settings.result l.k c.table56-settings.ensures (omega arith)) in
    (e, rw e (word_within (marks (table56 c.args.role c.args.t))))
