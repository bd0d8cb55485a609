use Prim.Native.Nat.{ℕ, ◌-◌, ◌*◌, ◌/◌, ◌^◌}
use mathlib.Core.Path.{◌≡◌, refl, ap}
use lib.Dec.{lit<}
use lib.ListN.{length, take}
use lib.Seq.{length-take-le}
use native.Mathlib.Omega.{arith}
use Rattle.openjoc_bitio.specs.Cursor.{bits_remaining}
use Rattle.openjoc_bitio.proofs.Cursor.{remaining-inside}
use Rattle.emdf_format.specs.Reader.{got, cursor_at, extended_value}
use Rattle.emdf_format.specs.Syntax.{escape}
use Rattle.emdf_fields.specs.Fields.{field_answer}
use Rattle.openjoc_emdf.specs.Answers.{reached_by, first_payload}
use Rattle.emdf_container.proofs.Words.{key-found}
use Rattle.openjoc_emdf.proofs.first_payload.Goals as goal

pub returns-then-window_at-lt7 : goal.returns-then-window_at-lt7
unfolding first_payload field_answer
returns-then-window_at-lt7 c =
    let a = c.args in
    let n = a.n in
    let s = take n a.bytes.now in
    let len : length s ≡ n = length-take-le _ a.bytes.now (omega arith) in
    let r : bits_remaining s (cursor_at (n * 8) 32) ≡ n * 8 - 32 = remaining-inside s (cursor_at (n * 8) 32) (omega (arith, len)) (omega (arith, len)) in
    let k : extended_value 3 s (n * 8) 34 ≡ got (c.window_at.result / 2 ^ 59) 37 = key-found s (n * 8) 32 (ap (λ (x : ℕ). x / 2 ^ 59) c.window_at.ensures) c.if-window_at-lt7.true (omega (arith, r)) in
    rw k

pub extended_value-requires : goal.extended_value-requires
unfolding escape
extended_value-requires c = (lit< tt, refl)

pub returns-in-Ok : goal.returns-in-Ok
unfolding first_payload
returns-in-Ok c = ap reached_by c.in-Ok.ensures

pub returns-in-Err : goal.returns-in-Err
unfolding first_payload
returns-in-Err c = ap reached_by c.in-Err.ensures
