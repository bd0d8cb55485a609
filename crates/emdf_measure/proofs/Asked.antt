-- Laws of the questions: tests one after another, and groups counted. Assumes nothing.
use mathlib.Core.Path.{◌≡◌, refl, sym, ap, ◌∙◌}
use mathlib.Core.Bool.{Bool, true, false}
use Prim.Native.Nat.{ℕ, zero, suc, ◌+◌, ◌-◌, ◌*◌, ◌/◌, ◌^◌, ◌≤◌, ◌<◌}
use native.Mathlib.Omega.{arith}
use native.Mathlib.Nat.{le_trans, mul-le-mul_right}
use lib.Pow.{pow_mono}
use lib.Pow.{shr_le}
use lib.Dec.{ltb}
use Rattle.std.specs.Prelude.{if◌then◌else◌, Option, Some, None}
use Rattle.emdf_format.specs.Syntax.{capacity, count_before, groups, escape, extended_groups}
use Rattle.emdf_format.specs.Contents.{◌&◌, present_bits, flagged_bits, extension_bits}
use Rattle.emdf_format.proofs.Variable.{groups-least}

-- ---- tests one after another

pub stop : {x : Bool} (y : Bool) → x ≡ false → false ≡ x & y
unfolding ◌&◌
stop y h = rw h

pub go : {x : Bool} {r : Bool} (y : Bool) → x ≡ true → r ≡ y → r ≡ x & y
unfolding ◌&◌
go y h k = k ∙ rw h

pub flagged-width : (w : ℕ) (o : Option ℕ) → flagged_bits (λ v. w) o ≡ 1 + present_bits w o
unfolding flagged_bits present_bits
flagged-width w None = refl
flagged-width w (Some v) = refl

-- ---- groups

-- the groups before the last, by what is left of the value
pub count-enough : (f g w k : ℕ) → k ≤ f → k ≤ g → count_before f w k ≡ count_before g w k
unfolding count_before
count-enough zero g w zero h l = sym (none g)
  where
    none : (g : ℕ) → count_before g w 0 ≡ 0
    none zero = refl
    none (suc g) = refl
count-enough zero g w (suc u) h l = absurd (omega arith)
count-enough (suc f) zero w zero h l = refl
count-enough (suc f) zero w (suc u) h l = absurd (omega arith)
count-enough (suc f) (suc g) w zero h l = refl
count-enough (suc f) (suc g) w (suc u) h l = ap suc (count-enough f g w (u / 2 ^ w) (omega (arith, shr_le u w)) (omega (arith, shr_le u w)))

-- one more group
pub count-more : (w k : ℕ) → (k ≡ 0 → ⊥) → count_before k w k ≡ suc (count_before ((k - 1) / 2 ^ w) w ((k - 1) / 2 ^ w))
unfolding count_before
count-more w zero h = absurd (h refl)
count-more w (suc u) h =
    let e : suc u - 1 ≡ u = omega arith in
    rw e (ap suc (count-enough u (u / 2 ^ w) w (u / 2 ^ w) (shr_le u w) (omega arith)))

-- a power below the capacity
capacity-power : (w g : ℕ) → 2 ^ (suc g * w) ≤ capacity w (suc g)
unfolding capacity
capacity-power w g = omega arith

pub groups-few : (w v : ℕ) → 0 < w → v < 2 ^ 64 → groups w v ≤ 64
groups-few w v h l =
    let a : 64 ≤ 64 * w = omega (arith, h) in
    let b : 2 ^ 64 ≤ 2 ^ (64 * w) = pow_mono a in
    groups-least w v 64 (le_trans l (le_trans b (capacity-power w 63)))

-- so a variable field takes few bits
pub bits-few : (w g : ℕ) → w < 12 → g ≤ 64 → (w + 1) * g ≤ 768
bits-few w g h l =
    let a : w + 1 ≤ 12 = omega arith in
    omega (arith, mul-le-mul_right g a)

pub extended-few : (w v : ℕ) → 0 < w → v < 2 ^ 64 → extended_groups w v ≤ 64
unfolding extended_groups
extended-few w v h l = go (ltb v (escape w))
  where
    go : (t : Bool) → (if t then 0 else groups w (v - escape w)) ≤ 64
    go true = omega arith
    go false = groups-few w (v - escape w) h (omega arith)

pub extension-few : (w v : ℕ) → 0 < w → w < 12 → v < 2 ^ 64 → extension_bits w v ≤ 768
unfolding extension_bits
extension-few w v h k l = bits-few w _ k (extended-few w v h l)
