use mathlib.Core.Path.{sym, ◌∙◌}
use native.Mathlib.Omega.{arith}
use Rattle.emdf_text.proofs.Put.{put_as, whole}
use Rattle.emdfcheck.proofs.Class.{too_long, in-limit, read-refused}
use Rattle.emdfcheck.proofs.put_output.Goals as goal

pub returns-then-bytes-gt-MOST_BYTES : goal.returns-then-bytes-gt-MOST_BYTES
returns-then-bytes-gt-MOST_BYTES c =
    let w = whole (put_as (c.put_line.ensures.put (omega arith)).0 (too_long c.args.bytes.now (omega (arith, c.if-bytes-gt-MOST_BYTES.true)))) in
    record { out_after = w.0; prefix_len = w.1 }

pub put_opened-requires : goal.put_opened-requires
put_opened-requires c = (sym c.open_carrier.ensures ∙ c.in-Ok.is, omega (arith, c.requires))

pub put_refused-requires : goal.put_refused-requires
put_refused-requires c = (read-refused _ c.open_carrier.ensures c.in-Err.is, omega (arith, c.requires))

pub returns-in-Ok : goal.returns-in-Ok
returns-in-Ok c =
    let w = whole (put_as c.put_opened.ensures (in-limit c.args.bytes.now (omega (arith, c.if-bytes-gt-MOST_BYTES.false)))) in
    record { out_after = w.0; prefix_len = w.1 }

pub returns-in-Err : goal.returns-in-Err
returns-in-Err c =
    let w = whole (put_as c.put_refused.ensures (in-limit c.args.bytes.now (omega (arith, c.if-bytes-gt-MOST_BYTES.false)))) in
    record { out_after = w.0; prefix_len = w.1 }
