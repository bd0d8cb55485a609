-- Laws of the fields in a word. Assumes nothing.
use mathlib.Core.Path.{◌≡◌, refl, ◌∙◌}
use mathlib.Core.Bool.{Bool, true, false}
use Prim.Native.Nat.{ℕ, suc, ◌+◌, ◌-◌, ◌*◌, ◌/◌, ◌%◌, ◌^◌, ◌≤◌, ◌<◌}
use native.Mathlib.Omega.{arith}
use native.Mathlib.Nat.{suc-mul, mod-eq_of_lt}
use lib.Dec.{eqb}
use lib.Pow.{shr_lt, shl_lt, pow_mono, pow-add}
use borrow.Author.Tests.{eq-eqb}
use Rattle.std.specs.Prelude.{if◌then◌else◌, Some, None}
use Rattle.emdf_format.specs.Contents.{◌&◌, is_present}
use Rattle.emdf_fields.specs.Word.{top, after}
use Rattle.emdf_compact.specs.Words.{flagged_span, flagged_value, flagged_ends, variable_span, variable_ends, codec_span, codec_ends, controls_span, compact_settings, config_length, two_groups, grouped_length}

-- ---- spans

-- the place of the bit after a flag and w bits
pub last_bit : (w : ℕ) → 64 - (w + 2) ≡ 62 - w
last_bit w = omega arith

pub span-few : (w x : ℕ) → w ≤ 11 → flagged_span w x ≤ 13
unfolding flagged_span
span-few w x l = by (eqb (top 1 x) 0)
  where
    by : (b : Bool) → (if b then 1 else w + 2) ≤ 13
    by true = omega arith
    by false = omega arith

pub variable-few : (w x : ℕ) → w ≤ 11 → variable_span w x ≤ 25
unfolding variable_span
variable-few w x l = by (eqb (top 1 x) 0) (eqb (top (w + 2) x % 2) 0)
  where
    by : (b c : Bool) → (if b then 1 else (if c then w + 2 else 2 * w + 3)) ≤ 25
    by true c = omega arith
    by false true = omega arith
    by false false = omega arith

pub codec-few : (x : ℕ) → x < 2 ^ 64 → codec_span x ≤ 13
unfolding codec_span
codec-few x l = omega arith

-- a sample offset is there where its span says so
pub offset-there : (x : ℕ) → eqb (flagged_span 11 x) 13 ≡ is_present (flagged_value 11 x)
unfolding flagged_span flagged_value is_present
offset-there x = by (eqb (top 1 x) 0)
  where
    by : (b : Bool) → eqb (if b then 1 else 13) 13 ≡ is_present (if b then None else Some (top 11 (after 1 x)))
    by true = refl
    by false = refl

-- ---- a length that is 64 where the field does not end

pub ends : {r n : ℕ} (b : Bool) → r ≡ (if b then n else 64) → (r ≡ 64 → ⊥) → (b ≡ true) × (r ≡ n)
ends true h k = (refl, h)
ends false h k = absurd (k h)

pub ends-not : {r n : ℕ} (b : Bool) → r ≡ (if b then n else 64) → r ≡ 64 → n ≤ 25 → b ≡ false
ends-not true h e l = absurd (omega arith)
ends-not false h e l = refl

-- ---- the shortest settings: four flags that are 0, then discard

flag-clear : (w x : ℕ) → x < 2 ^ 63 → (flagged_span w x ≡ 1) × (flagged_ends w x ≡ true)
unfolding flagged_span flagged_ends
flag-clear w x l = let z = eq-eqb (top 1 x) 0 (omega arith) in (rw z, rw z)

variable-clear : (w x : ℕ) → x < 2 ^ 63 → (variable_span w x ≡ 1) × (variable_ends w x ≡ true)
unfolding variable_span variable_ends
variable-clear w x l = let z = eq-eqb (top 1 x) 0 (omega arith) in (rw z, rw z)

codec-clear : (x : ℕ) → x < 2 ^ 63 → (codec_span x ≡ 1) × (codec_ends x ≡ true)
unfolding codec_span codec_ends
codec-clear x l = let z = eq-eqb (top 1 x) 0 (omega arith) in (omega arith, rw z)

-- a word that begins with a 0 loses nothing by a shift
shifted : (x : ℕ) → x < 2 ^ 63 → x * 2 % 2 ^ 64 ≡ x * 2
shifted x l = omega arith

pub shortest : (x : ℕ) → x / 2 ^ 59 ≡ 1 → config_length x ≡ 5
unfolding config_length compact_settings controls_span ◌&◌
shortest x h =
    let l1 : x < 2 ^ 63 = omega arith in
    let l2 : x * 2 < 2 ^ 63 = omega arith in
    let l3 : x * 2 * 2 < 2 ^ 63 = omega arith in
    let l4 : x * 2 * 2 * 2 < 2 ^ 63 = omega arith in
    let f1 = flag-clear 11 x l1 in
    let f2 = flag-clear 11 (x * 2) l2 in
    let f3 = variable-clear 2 (x * 2 * 2) l3 in
    let f4 = codec-clear (x * 2 * 2 * 2) l4 in
    let d = eq-eqb (top 1 (x * 2 * 2 * 2 * 2)) 1 (omega arith) in
    simp (shifted, f1.0, f1.1, f2.0, f2.1, f3.0, f3.1, f4.0, f4.1, d)

shortest-once : (x : ℕ) → x / 2 ^ 59 ≡ 1 → (two_groups x ≡ false) × (compact_settings x ≡ true)
unfolding two_groups compact_settings ◌&◌
shortest-once x h =
    let l1 : x < 2 ^ 63 = omega arith in
    let l2 : x * 2 < 2 ^ 63 = omega arith in
    let l3 : x * 2 * 2 < 2 ^ 63 = omega arith in
    let l4 : x * 2 * 2 * 2 < 2 ^ 63 = omega arith in
    let f1 = flag-clear 11 x l1 in
    let f2 = flag-clear 11 (x * 2) l2 in
    let f3 = variable-clear 2 (x * 2 * 2) l3 in
    let f4 = codec-clear (x * 2 * 2 * 2) l4 in
    (simp (shifted, f1.0, f2.0, f3.0), simp (shifted, f1.0, f1.1, f2.0, f2.1, f3.0, f3.1, f4.0, f4.1))

pub shortest-grouped : (x : ℕ) → x / 2 ^ 59 ≡ 1 → grouped_length x ≡ 5
unfolding grouped_length
shortest-grouped x h = let (t, c) = shortest-once x h in rw (c, t, shortest x h)

-- ---- a group id of two groups takes 7 bits, and no other as many

pub span-seven : (y : ℕ) → variable_span 2 y ≤ 7
unfolding variable_span
span-seven y = by (eqb (top 1 y) 0) (eqb (top 4 y % 2) 0)
  where
    by : (t u : Bool) → ◌≤◌ (if t then 1 else (if u then 4 else 7)) 7
    by true u = omega arith
    by false true = omega arith
    by false false = omega arith

pub span-mark : (y : ℕ) → 128 * ((variable_span 2 y + 1) / 8) ≡ (if eqb (variable_span 2 y) 7 then 128 else 0)
unfolding variable_span
span-mark y = by (eqb (top 1 y) 0) (eqb (top 4 y % 2) 0)
  where
    by : (t u : Bool) → let n : ℕ = if t then 1 else (if u then 4 else 7) in 128 * ((n + 1) / 8) ≡ (if eqb n 7 then 128 else 0)
    by true u = refl
    by false true = refl
    by false false = refl

-- ---- a value of two groups

-- w bits are a number below 2^w
pub top-few : (w x : ℕ) → w ≤ 64 → x < 2 ^ 64 → top w x < 2 ^ w
top-few w x h l = let e : w + (64 - w) ≡ 64 = omega arith in shr_lt w (64 - w) (rw e l)

-- where the second group's sum starts, for a first group of at most 11 bits
pub second-start : (w v : ℕ) → w ≤ 11 → v < 2 ^ w → ((v + 1) * 2 ^ w % 2 ^ 64 ≡ v * 2 ^ w + 2 ^ w) × (v * 2 ^ w + 2 ^ w < 2 ^ 23)
second-start w v h l =
    let a : 2 ^ w ≤ 2 ^ 11 = pow_mono h in
    let e : v + 1 ≡ suc v = omega arith in
    let f : (v + 1) * 2 ^ w ≡ v * 2 ^ w + 2 ^ w = rw (e, suc-mul) in
    let few : w + 1 + w ≤ 23 = omega arith in
    let g : (v + 1) * 2 ^ w < 2 ^ (w + 1 + w) = shl_lt (w + 1) w (let d : 2 ^ (w + 1) ≡ 2 ^ w * 2 = pow-add 2 w 1 in omega (arith, d, l)) in
    let k : 2 ^ (w + 1 + w) ≤ 2 ^ 23 = pow_mono few in
    (mod-eq_of_lt (omega (arith, g, k)) ∙ f, omega (arith, f, g, k))

pub last_more : (w : ℕ) → 64 - (2 * w + 3) ≡ 61 - 2 * w
last_more w = omega arith
