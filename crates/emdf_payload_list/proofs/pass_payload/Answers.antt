use borrow.Author.Tests.{eq-eqb, ne_eqb}
use Prim.Native.Nat.{ℕ}
use mathlib.Core.Path.{◌≡◌, refl, sym, ◌∙◌}
use native.Mathlib.Omega.{arith}
use Rattle.std.specs.Prelude.{Option, Some, None, Result, Ok, Err}
use Rattle.std.specs.Option.{option_map}
use Rattle.std.proofs.Common.{rules}
use Rattle.openjoc_bitio.specs.declared.BitCursor.{BitCursor}
use Rattle.emdf_format.specs.Groups.{larger}
use Rattle.emdf_format.specs.declared.EmdfError.{EmdfError}
use Rattle.emdf_format.specs.declared.PayloadRecord.{PayloadRecord}
use Rattle.emdf_payloads.specs.Payloads.{record_groups}
use Rattle.emdf_payloads.specs.Compact.{compact_step}
use Rattle.emdf_payloads.proofs.Answers.{mapped}
use Rattle.emdf_payload_list.specs.List.{list_step}
use Rattle.emdf_payload_list.proofs.pass_payload.Goals as goal

passed : (most : ℕ) (o : Option PayloadRecord) (c : BitCursor) → ◌≡◌ {A = Result (Option ℕ × BitCursor) EmdfError} (Ok (option_map (λ r. larger most (record_groups r)) o, c)) (list_step most (Ok (o, c)))
unfolding list_step
passed most None c = refl
passed most (Some r) c = refl

pub returns-in_err-payload : goal.returns-in_err-payload
unfolding list_step
returns-in_err-payload c =
    let z : c.from_residual.result ≡ Err c.in_err-payload.field-0.0 = search rules in
    z ∙ rw (sym c.in_err-payload.ensures)

pub returns-then-found-eq0 : goal.returns-then-found-eq0
returns-then-found-eq0 c =
    let o = c.in_ok-payload in
    let most = c.args.most in
    let i = mapped (λ (r : PayloadRecord). larger most (record_groups r)) o.payload c.map-passed.result c.map-passed.ensures.cases (λ x y k. search rules) in
    rw (sym o.ensures, i) (passed most o.payload o.next)

pub overflow_add-next : goal.overflow_add-next
overflow_add-next c = omega (arith, c.compact_at-found.ensures.fits)

pub returns-then-found-eq0-2 : goal.returns-then-found-eq0-2
unfolding compact_step list_step
returns-then-found-eq0-2 c = rw (c.compact_at-found.ensures.is (omega arith), eq-eqb _ 0 c.if-found-eq0-2.true)

pub compact_groups-groups-requires : goal.compact_groups-groups-requires
compact_groups-groups-requires c = c.compact_at-found.ensures.head

pub returns : goal.returns
unfolding compact_step list_step
returns c =
    let a = c.compact_at-found.ensures in
    let z = ne_eqb _ 0 c.if-found-eq0-2.false in
    rw (a.is (omega arith), z, a.groups (omega arith) z, c.larger.ensures, c.compact_groups-groups.ensures)
