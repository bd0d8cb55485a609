use mathlib.Core.Path.{◌≡◌, sym, ◌∙◌}
use mathlib.Core.List.{List}
use Prim.Native.Nat.{ℕ, ◌*◌}
use Rattle.std.proofs.Common.{add-zero, arith}
use Rattle.openjoc_bitio.specs.Bits.{bits_value}
use Rattle.emdf_ordinals.specs.Rows.{column_at}
use Rattle.emdf_ordinals.proofs.Rows.{none_left, last-here, last-before}
use Rattle.emdf_ordinals.proofs.last_ordinal.Goals as goal

-- an id is at its row's start
at-start : (table : List ℕ) (width k : ℕ) → column_at table width 0 k ≡ bits_value table (k * width * 8) 64
at-start table width k = rw add-zero

pub returns-then-octets_at-id : goal.returns-then-octets_at-id
returns-then-octets_at-id c =
    let l = c.loop-row in
    c.octets_at-then-octets_at-id.ensures ∙ last-here _ _ _ l.row (omega arith) (at-start _ _ _ ∙ sym c.octets_at.ensures ∙ c.if-octets_at-id.true) ∙ l.invariant

pub loop-row-preserved : goal.loop-row-preserved
loop-row-preserved c =
    let l = c.loop-row in
    last-before _ _ _ l.row (omega arith) (λ z. c.if-octets_at-id.false (c.octets_at.ensures ∙ sym (at-start _ _ _) ∙ z)) ∙ l.invariant

pub returns : goal.returns
returns c = sym (none_left _ _ _ _ (omega arith)) ∙ c.loop-row.invariant
