use native.Mathlib.Omega.{arith}
use Rattle.std.proofs.Common.{rules}
use Rattle.emdf_text.proofs.Put.{leaves-less, more_numbers, no-numbers}
use Rattle.emdf_text.proofs.lines.put_numbers.Goals as goal

pub loop-number-preserved : goal.loop-number-preserved
loop-number-preserved c =
    let l = c.loop-number in
    record {
      within = search rules;
      size = search rules;
      leaves = leaves-less (rw (more_numbers c.args.numbers.now l.number-index (omega arith)) at l.invariant.leaves) c.put_number-end.ensures.printed;
    }

pub returns : goal.returns
returns c =
    let l = c.loop-number in
    let p = c.put_byte.ensures in
    record { printed = l.invariant.leaves _ _ (rw (no-numbers c.args.numbers.now l.number-index (omega arith)) p); upper_bound = omega (arith, p.size) }
