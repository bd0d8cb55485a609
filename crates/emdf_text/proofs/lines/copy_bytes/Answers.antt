use Rattle.std.proofs.Common.{refl, arith, length-append, length-take}
use Rattle.std.proofs.lemmas.Slice.{take-put_mid, drop-put_mid}
use Rattle.emdf_text.proofs.lines.copy_bytes.Goals as goal

pub returns : goal.returns
returns c =
    let a = c.args in
    rw c.copy_from_slice.ensures.after (record {
      is = take-put_mid a.at _ a.out.now a.bytes.now _ refl (omega arith);
      rest = drop-put_mid a.at _ a.out.now a.bytes.now _ (omega arith) (omega arith) (omega arith);
      size = refl;
      inside = simp (length-append, length-take) (omega arith);
    })
