use Prim.Native.Nat.{ℕ, ◌+◌, ◌-◌, ◌*◌, ◌≤◌}
use mathlib.Core.Path.{◌≡◌}
use mathlib.Core.List.{List}
use native.Mathlib.Omega.{arith}
use lib.ListN.{length}
use Rattle.openjoc_bitio.specs.declared.BitCursor.{BitCursor}
use Rattle.emdf_payloads.specs.Payloads.{step_at}
use Rattle.openjoc_emdf.specs.declared.ParsedEmdf.{ParsedEmdf}
use Rattle.openjoc_emdf.specs.Answers.{Opened}
use Rattle.emdf_plan.specs.Walking.{past_payloads, placed_at}
use Rattle.emdf_plan.specs.declared.Placed.{Placed}
use Rattle.emdf_plan.proofs.Opening.{octets, count, end_fits, laid}
use Rattle.emdf_plan.proofs.lay_out.Goals as goal

-- the end mark stands past the payload at the place, and those after it
marked : (s : List ℕ) (first : BitCursor) (k : ℕ) {at mark : BitCursor} {later n : ℕ} {x : Placed}
    → at ≡ past_payloads s first k → x ≡ placed_at (step_at s at) at → later ≡ n → mark ≡ past_payloads s x.next later
    → mark ≡ past_payloads s (placed_at (step_at s (past_payloads s first k)) (past_payloads s first k)).next n
marked s first k a p l m = cc

-- where the container ends
fits : {s : List ℕ} {p : ParsedEmdf} {first at mark : BitCursor} {k later : ℕ} {x : Placed}
    → ((o : Opened s p first) × (k ≤ length o.container.found)) × (p.bytes_consumed.0 ≡ length s)
    → at ≡ past_payloads s first k → x ≡ placed_at (step_at s at) at → later ≡ p.container.payloads - 1 - k → mark ≡ past_payloads s x.next later
    → mark.position + 5 + 4 + 8 * octets p ≤ 8 * 65539
fits {s} {first = first} {k = k} r a p l m = let ((o, h), w) = r in rw (marked s first k a p l m) (end_fits o w _ h)

pub overflow_sub-parsed : goal.overflow_sub-parsed
overflow_sub-parsed c = let ((o, h), w) = c.requires in omega (arith, count o)

pub overflow_add-codes : goal.overflow_add-codes
overflow_add-codes c = omega (arith, fits c.requires c.skip_payloads-at.ensures c.place_at-placed.ensures (omega arith) c.skip_payloads-mark.ensures)

pub overflow_add-octets : goal.overflow_add-octets
overflow_add-octets c = omega (arith, fits c.requires c.skip_payloads-at.ensures c.place_at-placed.ensures (omega arith) c.skip_payloads-mark.ensures)

pub overflow_add-result : goal.overflow_add-result
overflow_add-result c = omega (arith, fits c.requires c.skip_payloads-at.ensures c.place_at-placed.ensures (omega arith) c.skip_payloads-mark.ensures)

pub overflow_mul-result : goal.overflow_mul-result
overflow_mul-result c = omega (arith, fits c.requires c.skip_payloads-at.ensures c.place_at-placed.ensures (omega arith) c.skip_payloads-mark.ensures)

pub overflow_add-result-2 : goal.overflow_add-result-2
overflow_add-result-2 c = omega (arith, fits c.requires c.skip_payloads-at.ensures c.place_at-placed.ensures (omega arith) c.skip_payloads-mark.ensures)

pub returns : goal.returns
returns c o =
    let ((p, h), w) = c.requires in
    let later : c.saturating_sub-later.result ≡ c.args.parsed.container.payloads - 1 - c.args.place = omega arith in
    rw (marked c.args.source.now c.args.first c.args.place c.skip_payloads-at.ensures c.place_at-placed.ensures later c.skip_payloads-mark.ensures, c.place_at-placed.ensures, c.skip_payloads-at.ensures)
    (laid o w _ (omega (arith, h, count p, count o)))
