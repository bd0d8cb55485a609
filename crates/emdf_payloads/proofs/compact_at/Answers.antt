use mathlib.Core.Path.{◌≡◌}
use Prim.Native.Nat.{ℕ, ◌^◌, ◌<◌}
use mathlib.Core.List.{List}
use native.Mathlib.Omega.{arith}
use Rattle.emdf_format.specs.Reader.{cursor_at}
use Rattle.emdf_payloads.specs.Compact.{CompactAt, not_compact}
use Rattle.emdf_payloads.specs.declared.CompactPayload.{CompactPayload}
use Rattle.emdf_payloads.proofs.Compact.{compact-there, compact-groups, parts-most}
use Rattle.emdf_payloads.proofs.compact_at.Goals as goal

-- nothing is said of what has no bits
nothing : (s : List ℕ) (e p : ℕ) {r : CompactPayload} → p < 2 ^ 64 → r ≡ not_compact → CompactAt s e p r
nothing s e p l i =
    rw i (record {
      is = λ h. absurd (omega (arith, h));
      near = λ h. absurd (omega (arith, h));
      head = omega arith;
      size = omega arith;
      fits = omega arith;
      groups = λ h. absurd (omega (arith, h));
    })

pub returns-then-position-ge2305843009213693952 : goal.returns-then-position-ge2305843009213693952
returns-then-position-ge2305843009213693952 c = nothing _ _ _ (omega arith) c.not_compact.ensures

pub returns-then-bits_remaining-found : goal.returns-then-bits_remaining-found
returns-then-bits_remaining-found c = nothing _ _ _ (omega arith) c.not_compact-then-bits_remaining-found.ensures

pub returns : goal.returns
returns c =
    let a = c.args in
    let at = cursor_at a.end a.position in
    let i = c.compact_parts-found.ensures in
    let (head, size, length) = parts-most a.s.now at in
    record {
      is = λ h. compact-there a.s.now at i h (omega (arith, c.bits_remaining.ensures));
      near = λ h. omega arith;
      head = rw i head;
      size = rw i size;
      fits = omega (arith, rw (← i) at length);
      groups = λ h z. compact-groups a.s.now at i h z;
    }
