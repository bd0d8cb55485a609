use native.Mathlib.Omega.{arith}
use Rattle.emdf_text.proofs.Put.{both, put_as}
use Rattle.emdfcheck.proofs.Class.{trailing, over-table, parsed-all, opened}
use Rattle.emdfcheck.proofs.put_opened.Goals as goal

pub returns-then-n-length : goal.returns-then-n-length
returns-then-n-length c = put_as (c.put_line.ensures.put (omega arith)).0 (trailing _ _ _ c.requires.0 c.if-n-length.true)

pub returns-then-count-gt-MOST_PAYLOADS : goal.returns-then-count-gt-MOST_PAYLOADS
returns-then-count-gt-MOST_PAYLOADS c = put_as (c.put_line-then-count-gt-MOST_PAYLOADS.ensures.put (omega arith)).0 (over-table _ _ _ c.requires.0 c.if-n-length.false (omega (arith, c.if-count-gt-MOST_PAYLOADS.true)))

pub put_records-requires : goal.put_records-requires
put_records-requires c =
    let p = c.put_line-end in
    opened _ _ _ c.requires.0 c.if-n-length.false (omega (arith, (p.ensures.put (omega arith)).1, p.auto.out, c.if-count-gt-MOST_PAYLOADS.false, c.requires.1))

pub returns : goal.returns
returns c =
    put_as (both (c.put_line-end.ensures.put (omega arith)).0 c.put_records.ensures) (parsed-all _ _ _ c.requires.0 c.if-n-length.false (omega (arith, c.if-count-gt-MOST_PAYLOADS.false)))
