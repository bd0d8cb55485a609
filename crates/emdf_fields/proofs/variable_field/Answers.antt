use mathlib.Core.Path.{◌≡◌, refl}
use mathlib.Core.Bool.{true, false}
use borrow.Author.Tests.{le-leb, lt-leb}
use native.Mathlib.Omega.{arith}
use Prim.Native.Nat.{◌≤◌, ◌<◌}
use lib.Dec.{leb}
use Rattle.emdf_format.specs.Contents.{◌&◌}
use Rattle.emdf_format.specs.Reader.{variable_bits}
use Rattle.emdf_format.proofs.Standing.{T_of, T-not-of}
use Rattle.emdf_fields.specs.Fields.{field_answer}
use Rattle.emdf_fields.proofs.Answers.{yes, no_more}
use Rattle.emdf_fields.proofs.variable_field.Goals as goal
use Rattle.emdf_fields.proofs.variable_field.Goals.{then-width-eq0-via-then-width-eq0, then-width-eq0-via-else-width-eq0+then-width-gt63, then-width-eq0-via-else-width-eq0+else-width-gt63+then-limit-eq0}

pub returns-then-width-eq0 : goal.returns-then-width-eq0
unfolding variable_bits field_answer ◌&◌
returns-then-width-eq0 c =
    let t : leb 1 c.args.width & leb c.args.width 63 & leb 1 c.args.limit ≡ false = elim c.then-width-eq0.branch [
      | then-width-eq0-via-then-width-eq0 w ↦
          let h : c.args.width < 1 = omega arith in
          simp (lt-leb _ _ h)
      | then-width-eq0-via-else-width-eq0+then-width-gt63 w ↦
          let h : 1 ≤ c.args.width = omega arith in
          simp (le-leb _ _ h, lt-leb _ _ w.if-width-gt63.true)
      | then-width-eq0-via-else-width-eq0+else-width-gt63+then-limit-eq0 w ↦
          let h : 1 ≤ c.args.width = omega arith in
          let k : c.args.limit < 1 = omega arith in
          simp (le-leb _ _ h, le-leb _ _ w.if-width-gt63.false, lt-leb _ _ k)
    ] in
    no_more field_answer _ _ _ _ _ _ (T-not-of t) refl

pub returns : goal.returns
unfolding variable_bits field_answer ◌&◌
returns c =
    let h : 1 ≤ c.args.width = omega arith in
    let k : 1 ≤ c.args.limit = omega arith in
    let t : leb 1 c.args.width & leb c.args.width 63 & leb 1 c.args.limit ≡ true = simp (le-leb _ _ h, le-leb _ _ c.if-width-gt63.false, le-leb _ _ k) in
    yes field_answer _ _ _ _ _ _ (T_of t) c.groups.ensures
