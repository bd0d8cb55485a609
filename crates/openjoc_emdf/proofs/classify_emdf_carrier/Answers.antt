use mathlib.Core.Path.{◌≡◌, sym}
use Rattle.openjoc_bitio.specs.Bits.{bits_value}
use Rattle.openjoc_emdf.proofs.Header.{word-is, one_byte, other, exact, trailing, bad}
use Rattle.openjoc_emdf.proofs.classify_emdf_carrier.Goals as goal
use Rattle.openjoc_emdf.proofs.classify_emdf_carrier.Goals.{After-from_be_bytes, then-length-lt2-via-then-length-lt2, then-length-lt2-via-else-length-lt2+then-from_be_bytes-ne-SYNCWORD}

sync-is : (c : After-from_be_bytes) → c.from_be_bytes.result ≡ bits_value c.args.bytes.now 0 16
sync-is c = word-is c.args.bytes.now 0 (c.type_inv.bytes 0).fits (c.type_inv.bytes 1).fits c.from_be_bytes.ensures

pub returns-then-length-lt2 : goal.returns-then-length-lt2
returns-then-length-lt2 c = elim c.then-length-lt2.branch [
  | then-length-lt2-via-then-length-lt2 w ↦ one_byte _ w.if-length-lt2.true
  | then-length-lt2-via-else-length-lt2+then-from_be_bytes-ne-SYNCWORD w ↦
      other _ w.if-length-lt2.false (word-is c.args.bytes.now 0 (c.type_inv.bytes 0).fits (c.type_inv.bytes 1).fits w.from_be_bytes.ensures) w.if-from_be_bytes-ne-SYNCWORD.true
]

pub returns-in-Ok : goal.returns-in-Ok
returns-in-Ok c = exact _ c.if-length-lt2.false (sync-is (goal.at.returns-in-Ok c).After-from_be_bytes) c.if-from_be_bytes-ne-SYNCWORD.false (sym c.in-Ok.ensures) c.if-parsed-length.true

pub returns-in-Ok-2 : goal.returns-in-Ok-2
returns-in-Ok-2 c = trailing _ c.if-length-lt2.false (sync-is (goal.at.returns-in-Ok-2 c).After-from_be_bytes) c.if-from_be_bytes-ne-SYNCWORD.false (sym c.in-Ok.ensures) c.if-parsed-length.false

pub returns-in-Err : goal.returns-in-Err
returns-in-Err c = bad _ c.if-length-lt2.false (sync-is (goal.at.returns-in-Err c).After-from_be_bytes) c.if-from_be_bytes-ne-SYNCWORD.false (sym c.in-Err.ensures)
