use mathlib.Core.Path.{◌≡◌, sym, ◌∙◌}
use Rattle.std.proofs.Common.{rules}
use Rattle.std.specs.Prelude.{Err}
use Rattle.openjoc_bitio.specs.Bits.{bits_value}
use Rattle.openjoc_emdf.proofs.Header.{word-is, too_short, no-sync, cut, whole, unread}
use Rattle.openjoc_emdf.proofs.parse_emdf_sync.Goals as goal
use Rattle.openjoc_emdf.proofs.parse_emdf_sync.Goals.{After-from_be_bytes-sync, After-from-declared}

sync-is : (c : After-from_be_bytes-sync) → c.from_be_bytes-sync.result ≡ bits_value c.args.bytes.now 0 16
sync-is c = word-is c.args.bytes.now 0 (c.type_inv.bytes 0).fits (c.type_inv.bytes 1).fits c.from_be_bytes-sync.ensures

declared-is : (c : After-from-declared) → c.from-declared.result ≡ bits_value c.args.bytes.now 16 16
declared-is c = c.from-declared.ensures ∙ word-is c.args.bytes.now 2 (c.type_inv.bytes 2).fits (c.type_inv.bytes 3).fits c.from_be_bytes.ensures

pub returns-then-length-lt4 : goal.returns-then-length-lt4
returns-then-length-lt4 c = too_short _ c.if-length-lt4.true

pub returns-then-sync-ne-SYNCWORD : goal.returns-then-sync-ne-SYNCWORD
returns-then-sync-ne-SYNCWORD c = no-sync _ c.if-length-lt4.false (sync-is (goal.at.returns-then-sync-ne-SYNCWORD c).After-from_be_bytes-sync) c.if-sync-ne-SYNCWORD.true

pub returns-then-available-declared : goal.returns-then-available-declared
returns-then-available-declared c =
    let a = goal.at.returns-then-available-declared c in
    cut _ c.if-length-lt4.false (sync-is a.After-from_be_bytes-sync) c.if-sync-ne-SYNCWORD.false (declared-is a.After-from-declared) c.if-available-declared.true

pub returns-in_err-container : goal.returns-in_err-container
returns-in_err-container c =
    let a = goal.at.returns-in_err-container c in
    let z : c.from_residual.result ≡ Err c.in_err-container.field-0.0 = search rules in
    z ∙ sym (unread _ c.if-length-lt4.false (sync-is a.After-from_be_bytes-sync) c.if-sync-ne-SYNCWORD.false (declared-is a.After-from-declared) c.if-available-declared.false c.parse_container.ensures c.in_err-container.was)

pub returns : goal.returns
returns c =
    let a = goal.at.returns c in
    whole _ c.if-length-lt4.false (sync-is a.After-from_be_bytes-sync) c.if-sync-ne-SYNCWORD.false (declared-is a.After-from-declared) c.if-available-declared.false c.parse_container.ensures c.in_ok-container.was
