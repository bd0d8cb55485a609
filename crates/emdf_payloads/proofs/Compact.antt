-- A compact payload, read from the words that hold its head and its size, is what stands next. Assumes nothing.
use mathlib.Core.Path.{◌≡◌, refl, ap, ◌∙◌}
use mathlib.Core.Bool.{Bool, true, false}
use mathlib.Core.List.{List}
use Prim.Native.Nat.{ℕ, ◌+◌, ◌-◌, ◌*◌, ◌/◌, ◌%◌, ◌^◌, ◌≤◌, ◌<◌}
use native.Mathlib.Omega.{arith}
use native.Mathlib.Decide.{dec_le}
use borrow.Author.Tests.{lt-ltb}
use lib.Dec.{eqb, lit≤, eqb→eq}
use Rattle.std.specs.Prelude.{if◌then◌else◌, Some, None, Ok}
use Rattle.openjoc_bitio.specs.Bits.{window_at}
use Rattle.openjoc_bitio.proofs.Bits.{window-range}
use Rattle.openjoc_bitio.specs.Cursor.{bits_remaining}
use Rattle.openjoc_bitio.specs.declared.BitCursor.{BitCursor}
use Rattle.emdf_format.specs.Reader.{got, cursor_at, position, variable_bits, extended_value, octets}
use Rattle.emdf_format.specs.Reading.{payload_config, payload_after, trace_of}
use Rattle.emdf_format.specs.Calls.{octets_at}
use Rattle.emdf_format.specs.Syntax.{extended_groups, escape}
use Rattle.emdf_format.specs.Groups.{larger, config_groups}
use Rattle.emdf_format.proofs.Groups.{larger-right, larger-zero}
use Rattle.emdf_format.proofs.Standing.{bit_limit, remaining-limit, bind-go, choose-this, choose-that, give-go, T_of, T-not-of, neqb→ne}
use Rattle.emdf_format.proofs.Payloads.{at-go}
use Rattle.emdf_format.proofs.Loops.{octets-there}
use Rattle.emdf_fields.specs.Word.{top, after}
use Rattle.emdf_compact.specs.Words.{compact_settings, compact_config, config_length, two_groups, head_length, grouped_head, size_length, size_value}
use Rattle.emdf_fields.proofs.Word.{Word, word-window, word_after}
use Rattle.emdf_compact.proofs.Words.{top-few}
use Rattle.emdf_compact.proofs.Groups.{two-are-two, others-one, grouped-head, head-mark, grouped-few}
use Rattle.emdf_compact.proofs.Compact.{config-found, id-found, size-found, head-end, head_of, head-most, size-most, value-most}
use Rattle.emdf_payloads.specs.Payloads.{next_payload, next_step, next_answer, step_at, record_groups}
use Rattle.emdf_payloads.specs.Compact.{not_compact, compact_parts, compact_record, compact_groups, compact_step}
use Rattle.emdf_payloads.specs.declared.CompactPayload.{CompactPayload}

more : (k : ℕ) → eqb k 0 ≡ false → 0 < k
more k h = let f = neqb→ne k 0 (T-not-of h) in elim (dec_le 1 k) [
  | yes l ↦ l
  | no l ↦ absurd (f (omega arith))
]

-- what follows an id at q: compact settings in a word, a size at z, and a body from b to t
pub after-found : {s : List ℕ} {q m x : ℕ} → Word s q m x → m ≤ 64 → 52 ≤ m → (e p₀ id : ℕ) {z b t : ℕ} → compact_settings x ≡ true → 0 < size_length (window_at s z)
    → q + config_length x ≡ z → z + size_length (window_at s z) ≡ b → b + size_value (window_at s z) * 8 ≡ t → t ≤ bit_limit s e
    → payload_after p₀ id s e q ≡ got (record { record_of = record { id = id; config = compact_config x; trace = trace_of p₀ q z b t }; body = octets_at s b (size_value (window_at s z)) }) t
unfolding payload_after
after-found {s} {q} {m} {x} w h₆₄ h₅₂ e p₀ id {z} {b} {t} settings some i j k l =
    let n = size_value (window_at s z) in
    let r : b + 8 * n ≡ t = omega arith in
    bind-go position _ (at-go s e q)
    (bind-go payload_config _ (config-found w h₆₄ h₅₂ settings e (omega arith) ∙ ap (λ (o : ℕ). got (compact_config x) o) i)
    (bind-go position _ (at-go s e z)
    (bind-go (variable_bits 8 2) _ (size-found (word-window s z) (lit≤ tt) e (lit≤ tt) some (omega arith) ∙ ap (λ (o : ℕ). got n o) j)
    (bind-go position _ (at-go s e b)
    (bind-go (octets n) _ (octets-there n s e b (omega arith) ∙ ap (λ (o : ℕ). got (octets_at s b n) o) r)
    (bind-go position _ (at-go s e t)
    (give-go s e refl refl)))))))

module _ (s : List ℕ) (c : BitCursor) where
  abbrev e : ℕ
  e = c.end

  abbrev p : ℕ
  p = c.position

  abbrev x : ℕ
  x = window_at s p

  abbrev y : ℕ
  y = window_at s (p + head_length x)

  -- all of the payload's bits
  abbrev n : ℕ
  n = head_length x + size_length y + size_value y * 8

  there : (k : ℕ) → 0 < k → k ≤ bits_remaining s c → p + k ≤ bit_limit s e
  there k h l = omega (arith, remaining-limit s e p)

  compact-end : eqb (top 5 x) 0 ≡ true → 5 ≤ bits_remaining s c → step_at s c ≡ Ok (None, cursor_at e (p + 5))
  unfolding next_payload next_answer next_step
  compact-end z l =
      ap (next_answer e)
      (bind-go position _ (at-go s e p)
      (bind-go (extended_value 5) _ (id-found (word-window s p) (lit≤ tt) e (lit≤ tt) (rw (eqb→eq (top 5 x) 0 (T_of z))) (there 5 (omega arith) l))
      (choose-this _ _ _ (T_of z) (give-go s e refl refl))))

  -- all of the payload
  abbrev payload : CompactPayload
  payload = record { word = x; head = grouped_head x; size = size_length y; length = n }

  compact-found : eqb (top 5 x) 0 ≡ false → 0 < head_length x → 0 < size_length y → n ≤ bits_remaining s c → step_at s c ≡ Ok (Some (compact_record payload p), cursor_at e (p + n))
  unfolding next_payload next_answer next_step
  compact-found z h k l =
      let d = head_of x z h in
      let m : p + n ≤ bit_limit s e = there n (omega (arith, h)) l in
      let w = word_after 5 (lit≤ tt) (lit≤ tt) (word-window s p) in
      rw (grouped-head x)
      (ap (next_answer e)
      (bind-go position _ (at-go s e p)
      (bind-go (extended_value 5) _ (id-found (word-window s p) (lit≤ tt) e (lit≤ tt) d.low (omega (arith, m, d.length)))
      (choose-that _ _ _ (T-not-of z)
      (bind-go (payload_after p (top 5 x)) _ (after-found w (lit≤ tt) (lit≤ tt) e p (top 5 x) d.compact k (omega (arith, d.length)) refl (omega arith) m) (give-go s e refl refl))))))

  pub compact-there : {k : CompactPayload} → k ≡ compact_parts s p → 0 < k.length → k.length ≤ bits_remaining s c → step_at s c ≡ compact_step k e p
  unfolding compact_parts compact_step
  compact-there {k} i h l = by-head (eqb (head_length x) 0) refl (eqb (top 5 x) 0) refl (eqb (size_length y) 0) refl
    where
      by-head : (t : Bool) → eqb (head_length x) 0 ≡ t → (u : Bool) → eqb (top 5 x) 0 ≡ u → (v : Bool) → eqb (size_length y) 0 ≡ v → step_at s c ≡ compact_step k e p
      by-head true z₁ u z₂ v z₃ = absurd (let f : compact_parts s p ≡ not_compact = rw z₁ in omega (arith, rw (i, f) at h))
      by-head false z₁ true z₂ v z₃ =
          let g : compact_parts s p ≡ record { word = x; head = grouped_head x; size = 0; length = head_length x } = rw (z₁, z₂) in
          let f : head_length x ≡ 5 = head-end x z₂ in
          rw (i, g, z₂, f) (compact-end z₂ (omega (arith, rw (i, g) at l, f)))
      by-head false z₁ false z₂ true z₃ = absurd (let f : compact_parts s p ≡ not_compact = rw (z₁, z₂, z₃) in omega (arith, rw (i, f) at h))
      by-head false z₁ false z₂ false z₃ =
          let g : compact_parts s p ≡ payload = rw (z₁, z₂, z₃) in
          rw (i, g, z₂) (compact-found z₂ (more (head_length x) z₁) (more (size_length y) z₃) (rw (i, g) at l))

  abbrev chosen : Bool → Bool → Bool → CompactPayload
  chosen t u v = if t then not_compact else (if u then record { word = x; head = grouped_head x; size = 0; length = head_length x } else (if v then not_compact else payload))

  pub parts-most : ((compact_parts s p).head < 2 ^ 8) × ((compact_parts s p).size < 2 ^ 7) × ((compact_parts s p).length < 2 ^ 32)
  unfolding compact_parts
  parts-most = go (eqb (head_length x) 0) (eqb (top 5 x) 0) (eqb (size_length y) 0)
    where
      go : (t u v : Bool) → ((chosen t u v).head < 2 ^ 8) × ((chosen t u v).size < 2 ^ 7) × ((chosen t u v).length < 2 ^ 32)
      go true u v = (omega arith, omega arith, omega arith)
      go false true v = (omega (arith, grouped-few x), omega arith, omega (arith, head-most x))
      go false false true = (omega arith, omega arith, omega arith)
      go false false false = (omega (arith, grouped-few x), omega (arith, size-most y), omega (arith, head-most x, size-most y, value-most y (window-range s (p + head_length x))))

  -- ---- its groups

  size-cases : 0 < size_length y → (eqb (size_length y) 18 ≡ true → size_length y / 9 ≡ 2) × (eqb (size_length y) 18 ≡ false → size_length y / 9 ≡ 1)
  unfolding size_length
  size-cases = by (eqb (top 9 y % 2) 0) (eqb (top 18 y % 2) 0)
    where
      by : (t u : Bool) → let n : ℕ = if t then 9 else (if u then 18 else 0) in 0 < n → (eqb n 18 ≡ true → n / 9 ≡ 2) × (eqb n 18 ≡ false → n / 9 ≡ 1)
      by true u h = ((λ k. absurd (let w : ◌≡◌ {A = ℕ} 0 1 = cc in omega arith)), λ k. refl)
      by false true h = ((λ k. refl), λ k. absurd (let w : ◌≡◌ {A = ℕ} 0 1 = cc in omega arith))
      by false false h = absurd (omega (arith, h))

  payload-groups : eqb (top 5 x) 0 ≡ false → 0 < head_length x → 0 < size_length y → record_groups (compact_record payload p) ≡ compact_groups (grouped_head x) (size_length y)
  unfolding record_groups compact_groups extended_groups escape
  payload-groups z h k =
      let d = head_of x z h in
      let f : top 5 x < 31 = omega (arith, top-few 5 x (lit≤ tt) (window-range s p), neqb→ne (top 5 x) 31 (T-not-of d.low)) in
      let i : p + grouped_head x % 128 + size_length y - (p + grouped_head x % 128) ≡ size_length y = omega arith in
      let (two, one) = size-cases k in
      rw (lt-ltb (top 5 x) 31 f, i, larger-zero, head-mark x z h) (by (eqb (size_length y) 18) refl (two_groups (after 5 x)) refl two one)
    where
      by : (t : Bool) → eqb (size_length y) 18 ≡ t → (v : Bool) → two_groups (after 5 x) ≡ v
          → (eqb (size_length y) 18 ≡ true → size_length y / 9 ≡ 2) → (eqb (size_length y) 18 ≡ false → size_length y / 9 ≡ 1)
          → larger (config_groups (compact_config (after 5 x))) (size_length y / 9) ≡ (if eqb (size_length y) 18 then 2 else 1 + (if two_groups (after 5 x) then 1 else 0))
      by true a true b two one = rw (two a, two-are-two (after 5 x) b, a)
      by true a false b two one = rw (two a, a) (larger-right (config_groups (compact_config (after 5 x))) 2 (omega (arith, others-one (after 5 x) b)))
      by false a true b two one = rw (one a, two-are-two (after 5 x) b, a, b)
      by false a false b two one = rw (one a, a, b) (larger-right (config_groups (compact_config (after 5 x))) 1 (others-one (after 5 x) b))

  pub compact-groups : {k : CompactPayload} → k ≡ compact_parts s p → 0 < k.length → eqb (top 5 k.word) 0 ≡ false → record_groups (compact_record k p) ≡ compact_groups k.head k.size
  unfolding compact_parts
  compact-groups {k} i h f = by-head (eqb (head_length x) 0) refl (eqb (top 5 x) 0) refl (eqb (size_length y) 0) refl
    where
      by-head : (t : Bool) → eqb (head_length x) 0 ≡ t → (u : Bool) → eqb (top 5 x) 0 ≡ u → (v : Bool) → eqb (size_length y) 0 ≡ v → record_groups (compact_record k p) ≡ compact_groups k.head k.size
      by-head true z₁ u z₂ v z₃ = absurd (let g : compact_parts s p ≡ not_compact = rw z₁ in omega (arith, rw (i, g) at h))
      by-head false z₁ true z₂ v z₃ =
          let g : compact_parts s p ≡ record { word = x; head = grouped_head x; size = 0; length = head_length x } = rw (z₁, z₂) in
          absurd (let w : eqb (top 5 x) 0 ≡ false = rw (i, g) at f in let z : ◌≡◌ {A = ℕ} 0 1 = cc (z₂, w) in omega arith)
      by-head false z₁ false z₂ true z₃ = absurd (let g : compact_parts s p ≡ not_compact = rw (z₁, z₂, z₃) in omega (arith, rw (i, g) at h))
      by-head false z₁ false z₂ false z₃ =
          let g : compact_parts s p ≡ payload = rw (z₁, z₂, z₃) in
          rw (i, g) (payload-groups z₂ (more (head_length x) z₁) (more (size_length y) z₃))
