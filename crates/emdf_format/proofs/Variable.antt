-- The variable field: what is read is what is written, and the number of groups is the least that holds the value. Assumes nothing.
use mathlib.Core.Path.{◌≡◌, refl, sym, ap, ◌∙◌}
use mathlib.Core.List.{List, [], ◌∷◌}
use Prim.Native.Nat.{ℕ, zero, suc, ◌+◌, ◌-◌, ◌*◌, ◌/◌, ◌%◌, ◌^◌, ◌≤◌, ◌<◌}
use native.Mathlib.Omega.{arith}
use native.Mathlib.Nat.{add-zero, add-suc, suc-add, zero-add, zero-mul, one-mul, le_refl, suc-mul, mod-lt, mul-le-mul_left, mul-le-mul_right, div-lt_iff_lt-mul}
use lib.ListN.{length}
use lib.Dec.{T, leb, leb→le, ltb→lt, lt→ltb, lit≤}
use lib.Pow.{high, low, pow_pos, pow-add, shr_le}
use lib.Pow.{split as pow-split}
use Rattle.openjoc_bitio.specs.Bits.{number_bits}
use Rattle.openjoc_bitio.proofs.Bits.{length-number}
use Rattle.emdf_format.specs.Syntax.{◌⨟◌, groups_before, variable_field, capacity, count_before, groups}
use Rattle.emdf_format.specs.Contents.{◌&◌}
use Rattle.emdf_format.specs.Reader.{got, give, groups_from, variable_bits}
use Rattle.emdf_format.proofs.Standing.{Stands, nil, join, parted, bits-law, bind_inv, bind-go, ask-inv, ask-go, choose-inv, choose-this, choose-that, step, asked, chosen, give-inv, bit-zero, bit-one, neqb→ne, both, length-then}

before-zero : (f w : ℕ) → groups_before f w zero ≡ []
unfolding groups_before
before-zero zero w = refl
before-zero (suc f) w = refl

-- any fuel that is large enough gives the same
pub before-fuel : (w f g k : ℕ) → k ≤ f → k ≤ g → groups_before f w k ≡ groups_before g w k
unfolding groups_before
before-fuel w zero g zero h i = sym (before-zero g w)
before-fuel w zero g (suc u) h i = absurd (omega arith)
before-fuel w (suc f) g zero h i = sym (before-zero g w)
before-fuel w (suc f) zero (suc u) h i = absurd (omega arith)
before-fuel w (suc f) (suc g) (suc u) h i =
    ap (λ (x : List ℕ). x ⨟ (number_bits w (u % 2 ^ w) ⨟ (1 ∷ []))) (before-fuel w f g (u / 2 ^ w) (omega (arith, shr_le u w)) (omega (arith, shr_le u w)))

-- one group more
before_more : (w k g : ℕ) → g < 2 ^ w
    → groups_before (suc (k * 2 ^ w + g)) w (suc (k * 2 ^ w + g)) ≡ groups_before k w k ⨟ number_bits w g ⨟ (1 ∷ [])
unfolding groups_before
before_more w k g h =
    let le : k ≤ k * 2 ^ w + g = omega (arith, mul-le-mul_left k (pow_pos w)) in
    rw (high k w h, low k w h, before-fuel w (k * 2 ^ w + g) k k le (le_refl k))

field-last : (w k g : ℕ) → g < 2 ^ w → variable_field w (k * 2 ^ w + g) ≡ groups_before k w k ⨟ number_bits w g ⨟ (0 ∷ [])
unfolding variable_field
field-last w k g h = rw (high k w h, low k w h)

-- one group more
pub capacity-step : (w g : ℕ) → capacity w (suc g) ≡ capacity w g * 2 ^ w + 2 ^ w
unfolding capacity
capacity-step w zero = rw (one-mul, zero-mul)
capacity-step w (suc g) =
    let h : capacity w g + 2 ^ (suc g * w) ≡ capacity w g * 2 ^ w + 2 ^ w = capacity-step w g in
    let k : 2 ^ (suc (suc g) * w) ≡ 2 ^ (suc g * w) * 2 ^ w = ap (λ (n : ℕ). 2 ^ n) (suc-mul (suc g) w) ∙ pow-add 2 (suc g * w) w in
    rw k (omega (arith, h))

capacity-mono : (w i j : ℕ) → capacity w i ≤ capacity w (i + j)
capacity-mono w i zero = rw add-zero (le_refl (capacity w i))
capacity-mono w i (suc j) = rw (add-suc, capacity-step) (omega (arith, capacity-mono w i j, mul-le-mul_left (capacity w (i + j)) (pow_pos w)))

-- one group more stays below the next capacity
next_small : (w j k g : ℕ) → k ≤ capacity w j → g < 2 ^ w → k * 2 ^ w + g < capacity w (suc j)
next_small w j k g h l = rw capacity-step (omega (arith, mul-le-mul_right (2 ^ w) h))

-- ---- reading finds what is written

pub record Field (w lim : ℕ) (s : List ℕ) (e p q v : ℕ) : Type 0 where
  pub stands : Stands s e p q (variable_field w v)
  pub small : v < capacity w lim
  pub fits : v < 2 ^ 64

module _ (w lim : ℕ) (wide : w ≤ 64) where
  -- after j groups the start is k * 2^w, and they stand before it
  groups-sound : (n j k : ℕ) {s : List ℕ} {e p₀ p q v : ℕ} → j + n ≡ lim → k ≤ capacity w j
      → Stands s e p₀ p (groups_before k w k) → groups_from w lim n (k * 2 ^ w) s e p ≡ got v q → Field w lim s e p₀ q v
  unfolding groups_from
  groups-sound zero j k jn kt b h = asked (ask-inv h) λ no₁ t. absurd no₁
  groups-sound (suc n) j k {s} {e} {p₀} {p} {q} {v} jn kt b h =
      step (bits-law w wide) (bind_inv h) λ g p₁ sg lg t₁.
      asked (ask-inv t₁) λ l₁ t₂.
      step (bits-law 1 (lit≤ tt)) (bind_inv t₂) λ m p₂ sm lm t₃.
      let gl : g < 2 ^ w = ltb→lt g (2 ^ w) lg in
      let small = next_small w j k g kt gl in
      chosen (choose-inv t₃)
      (λ z t₄.
      let d = give-inv t₄ in
      rw (← d.what, ← d.to)
      (record {
        stands = rw (field-last w k g gl) (join b (join sg (bit-zero m sm z)));
        small = rw (← jn, add-suc j n, ← suc-add j n) (omega (arith, small, capacity-mono w (suc j) n));
        fits = ltb→lt (k * 2 ^ w + g) (2 ^ 64) l₁;
      }))
      λ z t₄.
      asked (ask-inv t₄) λ l₂ t₅.
      asked (ask-inv t₅) λ l₃ t₆.
      groups-sound n (suc j) (suc (k * 2 ^ w + g)) {p = p₂} (omega arith) small
      (rw (before_more w k g gl) (join b (join sg (bit-one m sm (omega (arith, ltb→lt m 2 lm, neqb→ne m 0 z)))))) (rw suc-mul t₆)

-- ---- reading finds all that is written

pub div-le : (u w t : ℕ) → u < t * 2 ^ w + 2 ^ w → u / 2 ^ w ≤ t
div-le u w t h = let l : u < suc t * 2 ^ w = rw suc-mul h in omega (arith, (div-lt_iff_lt-mul (pow_pos w)).1 l)

pub before-least : (f w g k : ℕ) → k ≤ capacity w g → count_before f w k ≤ g
unfolding count_before capacity
before-least zero w g k h = omega arith
before-least (suc f) w g zero h = omega arith
before-least (suc f) w zero (suc u) h = absurd (omega arith)
before-least (suc f) w (suc g) (suc u) h = omega (arith, before-least f w g (u / 2 ^ w) (div-le u w (capacity w g) (rw capacity-step at h)))

module _ (w lim : ℕ) (wide : w ≤ 64) where
  -- one group with more set
  one_more : (n a g : ℕ) {s : List ℕ} {e p q : ℕ} → g < 2 ^ w → (a + g) * 2 ^ w + 2 ^ w < 2 ^ 64 → Stands s e p q (number_bits w g ⨟ (1 ∷ []))
      → groups_from w lim (suc (suc n)) a s e p ≡ groups_from w lim (suc n) ((a + g) * 2 ^ w + 2 ^ w) s e q
  unfolding groups_from number_bits
  one_more n a g {s} {e} {p} {q} gl nl h =
      let (p₁, sg, s1) = parted (number_bits w g) (1 ∷ []) h in
      let sum : a + g < 2 ^ 64 = omega (arith, mul-le-mul_left (a + g) (pow_pos w)) in
      bind-go _ _ ((bits-law w wide).exact (lt→ltb g (2 ^ w) gl) sg)
      (ask-go _ _ _ (lt→ltb (a + g) (2 ^ 64) sum)
      (bind-go _ _ ((bits-law 1 (lit≤ tt)).exact {a = 1} tt s1)
      (choose-that _ _ _ tt
      (ask-go _ _ _ (lt→ltb 0 (suc n) (omega arith))
      (ask-go _ _ _ (lt→ltb ((a + g) * 2 ^ w + 2 ^ w) (2 ^ 64) nl) refl)))))

  the_last : (n a g : ℕ) {s : List ℕ} {e p q : ℕ} → g < 2 ^ w → a + g < 2 ^ 64 → Stands s e p q (number_bits w g ⨟ (0 ∷ []))
      → groups_from w lim (suc n) a s e p ≡ got (a + g) q
  unfolding groups_from number_bits give
  the_last n a g {s} {e} {p} {q} gl sum h =
      let (p₁, sg, s0) = parted (number_bits w g) (0 ∷ []) h in
      bind-go _ _ ((bits-law w wide).exact (lt→ltb g (2 ^ w) gl) sg)
      (ask-go _ _ _ (lt→ltb (a + g) (2 ^ 64) sum)
      (bind-go _ _ ((bits-law 1 (lit≤ tt)).exact {a = 0} tt s0)
      (choose-this _ _ _ tt refl)))

  -- the groups_from groups_before the last: f is the writer's fuel, n what is remaining of the bit_limit
  all_more : (f k n : ℕ) {s : List ℕ} {e p q : ℕ} → k ≤ f → k * 2 ^ w < 2 ^ 64 → Stands s e p q (groups_before f w k)
      → groups_from w lim (count_before f w k + suc n) 0 s e p ≡ groups_from w lim (suc n) (k * 2 ^ w) s e q
  unfolding groups_before count_before
  all_more zero zero n kf kl nil = rw (zero-add, zero-mul)
  all_more zero (suc k) n kf kl h = absurd (omega arith)
  all_more (suc f) zero n kf kl nil = rw (zero-add, zero-mul)
  all_more (suc f) (suc u) n {s} {e} {p} {q} kf kl h =
      let (p₁, sb, sg) = parted (groups_before f w (u / 2 ^ w)) (number_bits w (u % 2 ^ w) ⨟ (1 ∷ [])) h in
      let kl' : u * 2 ^ w + 2 ^ w < 2 ^ 64 = rw suc-mul at kl in
      let e₁ : u / 2 ^ w * 2 ^ w + u % 2 ^ w ≡ u = pow-split u w in
      let ul : u / 2 ^ w * 2 ^ w < 2 ^ 64 = omega (arith, mul-le-mul_left u (pow_pos w)) in
      let nl : (u / 2 ^ w * 2 ^ w + u % 2 ^ w) * 2 ^ w + 2 ^ w < 2 ^ 64 = rw e₁ kl' in
      rw (suc-add, ← add-suc (count_before f w (u / 2 ^ w)) (suc n))
      (all_more f (u / 2 ^ w) (suc n) (omega (arith, shr_le u w)) ul sb
      ∙ one_more n (u / 2 ^ w * 2 ^ w) (u % 2 ^ w) (mod-lt u (pow_pos w)) nl sg
      ∙ rw (e₁, suc-mul))

width-ok : (w lim : ℕ) → T (leb 1 w & leb w 63 & leb 1 lim) → w ≤ 64
width-ok w lim l = omega (arith, leb→le w 63 (both (both l).right).left)

pub field-sound : (w lim : ℕ) {s : List ℕ} {e p q v : ℕ} → variable_bits w lim s e p ≡ got v q → Field w lim s e p q v
unfolding variable_bits groups_before
field-sound w lim {s} {e} {p} h =
    asked (ask-inv h) λ l t. groups-sound w lim (width-ok w lim l) lim 0 0 {p = p} (zero-add lim) (omega arith) nil (rw zero-mul t)

pub field-exact : (w lim : ℕ) {s : List ℕ} {e p q v : ℕ} → T (leb 1 w & leb w 63 & leb 1 lim) → v < capacity w lim → v < 2 ^ 64
    → Stands s e p q (variable_field w v) → variable_bits w lim s e p ≡ got v q
unfolding variable_bits variable_field capacity
field-exact w zero l small word h = absurd (omega arith)
field-exact w (suc g) {s} {e} {p} {q} {v} l small word h =
    let k : ℕ = v / 2 ^ w in
    let (p₁, sb, sg) = parted (groups_before k w k) (number_bits w (v % 2 ^ w) ⨟ (0 ∷ [])) h in
    let c : ℕ = count_before k w k in
    let cl : c ≤ g = before-least k w g k (div-le v w (capacity w g) (rw capacity-step at small)) in
    let e₀ : suc g ≡ c + suc (g - c) = omega arith in
    let e₁ : k * 2 ^ w + v % 2 ^ w ≡ v = pow-split v w in
    let kl : k * 2 ^ w < 2 ^ 64 = omega arith in
    let kv : k * 2 ^ w + v % 2 ^ w < 2 ^ 64 = omega arith in
    ask-go _ _ _ l
    (ap (λ (n : ℕ). groups_from w (suc g) n 0 s e p) e₀
    ∙ all_more w (suc g) (width-ok w (suc g) l) k k (g - c) (le_refl k) kl sb
    ∙ the_last w (suc g) (width-ok w (suc g) l) (g - c) (k * 2 ^ w) (v % 2 ^ w) (mod-lt v (pow_pos w)) kv sg
    ∙ ap (λ (n : ℕ). got n q) e₁)

-- ---- how many groups

length_before : (f w k : ℕ) → length (groups_before f w k) ≡ (w + 1) * count_before f w k
unfolding groups_before count_before
length_before zero w k = omega arith
length_before (suc f) w zero = omega arith
length_before (suc f) w (suc u) = simp (length-then, length-number) (omega (arith, length_before f w (u / 2 ^ w)))

-- the field takes (w + 1) × groups bits
pub length-field : (w v : ℕ) → length (variable_field w v) ≡ (w + 1) * groups w v
unfolding variable_field groups
length-field w v = simp (length-then, length-number) (omega (arith, length_before (v / 2 ^ w) w (v / 2 ^ w)))

before-holds : (f w k : ℕ) → k ≤ f → k ≤ capacity w (count_before f w k)
unfolding count_before
before-holds zero w k h = omega arith
before-holds (suc f) w zero h = omega arith
before-holds (suc f) w (suc u) h =
    let ih = before-holds f w (u / 2 ^ w) (omega (arith, shr_le u w)) in
    let m = mul-le-mul_right (2 ^ w) ih in
    rw capacity-step (omega (arith, m, pow-split u w, mod-lt u (pow_pos w)))

-- and groups is the least number that holds the value: v ≤ 2^w + .. + 2^(gw) − 1
pub groups-hold : (w v : ℕ) → v < capacity w (groups w v)
unfolding groups
groups-hold w v =
    let ih = before-holds (v / 2 ^ w) w (v / 2 ^ w) (omega arith) in
    let m = mul-le-mul_right (2 ^ w) ih in
    rw capacity-step (omega (arith, m, pow-split v w, mod-lt v (pow_pos w)))

pub groups-least : (w v g : ℕ) → v < capacity w g → groups w v ≤ g
unfolding groups capacity
groups-least w v zero h = absurd (omega arith)
groups-least w v (suc g) h = omega (arith, before-least (v / 2 ^ w) w g (v / 2 ^ w) (div-le v w (capacity w g) (rw capacity-step at h)))
