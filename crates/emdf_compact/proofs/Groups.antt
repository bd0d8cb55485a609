-- How many groups the variable fields of compact settings have. Assumes nothing.
use mathlib.Core.Path.{◌≡◌, refl, ◌∙◌}
use mathlib.Core.Bool.{Bool, true, false}
use Prim.Native.Nat.{ℕ, zero, suc, ◌+◌, ◌*◌, ◌/◌, ◌%◌, ◌^◌, ◌≤◌, ◌<◌}
use native.Mathlib.Omega.{arith}
use lib.Dec.{eqb}
use borrow.Author.Tests.{ne_eqb, eqb-true, eqb-false}
use Rattle.std.specs.Prelude.{if◌then◌else◌, Option, Some, None}
use Rattle.emdf_format.specs.Syntax.{groups, count_before}
use Rattle.emdf_format.specs.Groups.{optional_groups, config_groups}
use Rattle.emdf_format.proofs.Groups.{larger-right, larger-most}
use Rattle.emdf_fields.specs.Word.{top, after}
use Rattle.emdf_compact.specs.Words.{flagged_value, variable_span, variable_value, flagged_after, after_timing, compact_controls, compact_settings, compact_config, config_length, two_groups, grouped_length, head_length, grouped_head}
use Rattle.emdf_compact.proofs.Words.{top-few}
use Rattle.emdf_compact.proofs.Compact.{config-most, head_of, head-most}

-- a value of w bits is one group, and one above it of two is two
one-group : (w v : ℕ) → v / 2 ^ w ≡ 0 → groups w v ≡ 1
unfolding groups count_before
one-group w v h = rw h

pair-group : (a b : ℕ) → a < 4 → b < 4 → groups 2 (a * 4 + 4 + b) ≡ 2
unfolding groups count_before
pair-group a b h k =
    let e : (a * 4 + 4 + b) / 4 ≡ suc a = omega arith in
    let f : a / 4 ≡ 0 = omega arith in
    rw (e, f) (none a)
  where
    none : (f : ℕ) → suc (suc (count_before f 2 0)) ≡ 2
    none zero = refl
    none (suc f) = refl

duration-groups : (x : ℕ) → optional_groups 11 (flagged_value 11 x) ≤ 1
unfolding optional_groups flagged_value
duration-groups x = by (eqb (top 1 x) 0)
  where
    by : (t : Bool) → optional_groups 11 (if t then None else Some (top 11 (after 1 x))) ≤ 1
    by true = omega arith
    by false = omega (arith, one-group 11 (top 11 (after 1 x)) (omega (arith, top-few 11 (after 1 x) (omega arith) (omega arith))))

-- a group id's groups, by how many bits it takes
module _ (x : ℕ) where
  abbrev first : ℕ
  first = top 2 (after 1 x)

  abbrev second : ℕ
  second = top 2 (after 4 x)

  few : (first < 4) × (second < 4)
  few = (top-few 2 (after 1 x) (omega arith) (omega arith), top-few 2 (after 4 x) (omega arith) (omega arith))

  group-groups : (eqb (variable_span 2 x) 7 ≡ true → optional_groups 2 (variable_value 2 x) ≡ 2) × (eqb (variable_span 2 x) 7 ≡ false → optional_groups 2 (variable_value 2 x) ≤ 1)
  unfolding optional_groups variable_value variable_span
  group-groups = by (eqb (top 1 x) 0) (eqb (top 4 x % 2) 0)
    where
      by : (t u : Bool)
          → let span : ℕ = if t then 1 else (if u then 4 else 7) in
          let value : Option ℕ = if t then None else Some (if u then first else first * 4 + 4 + second) in
          (eqb span 7 ≡ true → optional_groups 2 value ≡ 2) × (eqb span 7 ≡ false → optional_groups 2 value ≤ 1)
      by true u = ((λ h. absurd (let z : ◌≡◌ {A = ℕ} 0 1 = cc in omega arith)), λ h. omega arith)
      by false true = ((λ h. absurd (let z : ◌≡◌ {A = ℕ} 0 1 = cc in omega arith)), λ h. omega (arith, one-group 2 first (omega (arith, few))))
      by false false = ((λ h. pair-group first second few.0 few.1), λ h. absurd (let z : ◌≡◌ {A = ℕ} 0 1 = cc in omega arith))

module _ (x : ℕ) where
  pub two-are-two : two_groups x ≡ true → config_groups (compact_config x) ≡ 2
  unfolding two_groups compact_config compact_controls
  two-are-two h =
      let g : optional_groups 2 (variable_value 2 (after_timing x)) ≡ 2 = (group-groups (after_timing x)).0 h in
      larger-right _ _ (omega (arith, g, duration-groups (flagged_after x))) ∙ g

  pub others-one : two_groups x ≡ false → config_groups (compact_config x) ≤ 1
  unfolding two_groups compact_config compact_controls
  others-one h = larger-most (duration-groups (flagged_after x)) ((group-groups (after_timing x)).1 h)

  -- ---- the length with its mark

  pub length-few : config_length x ≤ 64
  unfolding config_length
  length-few = by (compact_settings x) refl
    where
      by : (t : Bool) → compact_settings x ≡ t → config_length x ≤ 64
      by true h = omega (arith, config-most x h)
      by false h = rw h (omega arith)

  pub length-of : grouped_length x % 128 ≡ config_length x
  unfolding grouped_length config_length
  length-of = by (compact_settings x) refl (two_groups x)
    where
      by : (t : Bool) → compact_settings x ≡ t → (u : Bool) → (if t then config_length x + (if u then 128 else 0) else 64) % 128 ≡ config_length x
      by true h true = omega (arith, config-most x h)
      by true h false = omega (arith, config-most x h)
      by false h u = rw h

  pub marked : compact_settings x ≡ true → grouped_length x / 128 ≡ (if two_groups x then 1 else 0)
  unfolding grouped_length
  marked h = rw h (by (two_groups x))
    where
      by : (u : Bool) → (config_length x + (if u then 128 else 0)) / 128 ≡ (if u then 1 else 0)
      by true = omega (arith, config-most x h)
      by false = omega (arith, config-most x h)

  -- it is 64 where the settings are not compact alone
  pub not-64 : compact_settings x ≡ true → grouped_length x ≡ 64 → ⊥
  unfolding grouped_length
  not-64 h k = by (two_groups x) (rw h at k)
    where
      by : (u : Bool) → config_length x + (if u then 128 else 0) ≡ 64 → ⊥
      by true e = omega (arith, e)
      by false e = omega (arith, e, config-most x h)

-- ---- and the head's

module _ (x : ℕ) where
  abbrev settings : ℕ
  settings = after 5 x

  compact-64 : compact_settings settings ≡ true → (eqb (grouped_length settings) 64 ≡ false) × (eqb (config_length settings) 64 ≡ false)
  compact-64 h = (ne_eqb _ 64 (not-64 settings h), ne_eqb (config_length settings) 64 (λ e. omega (arith, e, config-most settings h)))

  other-64 : compact_settings settings ≡ false → (grouped_length settings ≡ 64) × (config_length settings ≡ 64)
  unfolding grouped_length config_length
  other-64 h = (rw h, rw h)

  pub grouped-head : grouped_head x % 128 ≡ head_length x
  unfolding grouped_head head_length
  grouped-head = by (eqb (top 5 x) 0) (eqb (top 5 x) 31) (compact_settings settings) refl
    where
      by : (t u v : Bool) → compact_settings settings ≡ v
          → (if t then 5 else (if u then 0 else (if eqb (grouped_length settings) 64 then 0 else 5 + grouped_length settings))) % 128
          ≡ (if t then 5 else (if u then 0 else (if eqb (config_length settings) 64 then 0 else 5 + config_length settings)))
      by true u v h = refl
      by false true v h = refl
      by false false true h = let (a, b) = compact-64 h in rw (a, b) (omega (arith, length-of settings, config-most settings h))
      by false false false h = let (a, b) = other-64 h in rw (a, b)

  pub head-mark : eqb (top 5 x) 0 ≡ false → 0 < head_length x → grouped_head x / 128 ≡ (if two_groups settings then 1 else 0)
  unfolding grouped_head
  head-mark z h =
      let d = head_of x z h in
      let (a, b) = compact-64 d.compact in
      rw (z, d.low, a, ← marked settings d.compact) (omega (arith, length-of settings, config-most settings d.compact))

  -- the end mark alone
  pub grouped-end : eqb (top 5 x) 0 ≡ true → grouped_head x ≡ head_length x
  unfolding grouped_head head_length
  grouped-end h = rw h

  pub grouped-none : head_length x ≡ 0 → grouped_head x ≡ 0
  unfolding grouped_head head_length
  grouped-none = by (eqb (top 5 x) 0) (eqb (top 5 x) 31) (compact_settings settings) refl
    where
      by : (t u v : Bool) → compact_settings settings ≡ v
          → (if t then 5 else (if u then 0 else (if eqb (config_length settings) 64 then 0 else 5 + config_length settings))) ≡ 0
          → (if t then 5 else (if u then 0 else (if eqb (grouped_length settings) 64 then 0 else 5 + grouped_length settings))) ≡ 0
      by true u v k e = absurd (omega (arith, e))
      by false true v k e = refl
      by false false true k e = absurd (let (a, b) = compact-64 k in let f = rw b at e in omega (arith, f))
      by false false false k e = let (a, b) = other-64 k in rw a

  pub grouped-few : grouped_head x < 256
  grouped-few = by (eqb (head_length x) 0) refl (eqb (top 5 x) 0) refl
    where
      by : (t : Bool) → eqb (head_length x) 0 ≡ t → (u : Bool) → eqb (top 5 x) 0 ≡ u → grouped_head x < 256
      by true h u k = omega (arith, grouped-none (eqb-true (head_length x) 0 h))
      by false h true k = omega (arith, grouped-end k, head-most x)
      by false h false k = by-mark (two_groups settings) (head-mark k (omega (arith, eqb-false (head_length x) 0 h)))
        where
          by-mark : (u : Bool) → grouped_head x / 128 ≡ (if u then 1 else 0) → grouped_head x < 256
          by-mark true e = omega (arith, e)
          by-mark false e = omega (arith, e)
