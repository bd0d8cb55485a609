-- Compact fields, read from a word, are what the readers of emdf_format find. Assumes nothing.
use mathlib.Core.Path.{◌≡◌, refl, sym, ap, ◌∙◌}
use mathlib.Core.Bool.{Bool, true, false, ◌||◌}
use mathlib.Core.List.{List}
use Prim.Native.Nat.{ℕ, suc, zero, ◌+◌, ◌-◌, ◌*◌, ◌%◌, ◌^◌, ◌≤◌, ◌<◌}
use native.Mathlib.Omega.{arith}
use native.Mathlib.Decide.{dec_le}
use lib.Dec.{leb→le, eqb, lit≤, lit<, eqb→eq}
use lib.Pow.{pow_mono}
use borrow.Author.Tests.{ne_eqb, lt-ltb, le-leb}
use Rattle.std.specs.Prelude.{if◌then◌else◌, Option, Some, None}
use Rattle.openjoc_bitio.specs.Bits.{bits_value}
use Rattle.openjoc_bitio.proofs.Bits.{value-split, value-range}
use Rattle.emdf_format.specs.Syntax.{escape}
use Rattle.emdf_format.specs.Contents.{◌&◌, is_present, is_one, has_aligned, has_priority}
use Rattle.emdf_format.specs.Reader.{got, Reader, ◌>>=◌, give, ask, choose, bits, groups_from, variable_bits, extended_value, present, flagged}
use Rattle.emdf_format.specs.Reading.{reserved, sample_offset_of, codec_data, config_controls, payload_config}
use Rattle.emdf_format.proofs.Standing.{bit_limit, bind-go, ask-go, choose-this, choose-that, give-go, ask-fine, T_of, T-not-of, and, both, fits, is_true}
use Rattle.emdf_format.proofs.Loops.{bits-there}
use Rattle.emdf_fields.specs.Word.{top, after}
use Rattle.emdf_compact.specs.Words.{head_length, size_length, size_value, codec_span, codec_ends, controls_span, compact_controls, flagged_after, after_timing, head_span, variable_span, variable_value, variable_ends, after_group, after_codec, compact_settings, compact_config, config_length, flagged_span, flagged_value, flagged_ends, present_span, present_value}
use Rattle.emdf_fields.proofs.Word.{Word, word_after, word_low, word-bits, flag-set, flag-range}

-- ---- bits that are there, from a word

module _ {s : List ℕ} {p m x : ℕ} (w : Word s p m x) (e : ℕ) where
  -- n bits, where they are there
  pub word-present : (there : Bool) (n : ℕ) → n ≤ 64 → n ≤ m → p + present_span there n ≤ bit_limit s e → present there (bits n) s e p ≡ got (present_value there n x) (p + present_span there n)
  unfolding present present_span present_value
  word-present true n h k l = choose-this true _ _ tt (bind-go (bits n) _ (word-bits w e n h k l) (give-go s e refl refl))
  word-present false n h k l = choose-that false _ _ tt (give-go s e refl (omega arith))

  -- a flag and, where it is set, a field of n bits and a bit that is zero
  pub word-flagged : (f : Reader ℕ) (n : ℕ) → flagged_span n x ≤ m → m ≤ 64 → flagged_ends n x ≡ true → p + flagged_span n x ≤ bit_limit s e
      → (bits_value s (p + 1 + n) 1 ≡ 0 → p + (n + 2) ≤ bit_limit s e → f s e (p + 1) ≡ got (bits_value s (p + 1) n) (p + (n + 2)))
      → flagged f s e p ≡ got (flagged_value n x) (p + flagged_span n x)
  unfolding flagged present flagged_ends flagged_span flagged_value
  word-flagged f n h k t l g = by_flag (eqb (top 1 x) 0) refl h t l
    where
      by_flag : (z : Bool) → eqb (top 1 x) 0 ≡ z → (if z then 1 else n + 2) ≤ m → (z || eqb (top (n + 2) x % 2) 0) ≡ true → p + (if z then 1 else n + 2) ≤ bit_limit s e
          → flagged f s e p ≡ got (if z then None else Some (top n (after 1 x))) (p + (if z then 1 else n + 2))
      by_flag true i h t l =
          let o : top 1 x ≡ 0 = eqb→eq (top 1 x) 0 (T_of i) in
          bind-go (bits 1) _ (word-bits w e 1 (lit≤ tt) (omega arith) l) (choose-that _ _ _ (rw o tt) (give-go s e refl refl))
      by_flag false i h t l =
          let o : top 1 x ≡ 1 = flag-set (top 1 x) (flag-range w (omega arith)) i in
          let y : p + (n + 1) ≡ p + 1 + n = omega arith in
          let z : n + 1 + 1 ≡ n + 2 = omega arith in
          let a : bits_value s (p + 1 + n) 1 ≡ 0 = ap (λ (q : ℕ). bits_value s q 1) (sym y) ∙ sym (word_low w (n + 1) 1 (omega arith)) ∙ ap (λ (q : ℕ). top q x % 2) z ∙ eqb→eq (top (n + 2) x % 2) 0 (T_of t) in
          let b : bits_value s (p + 1) n ≡ top n (after 1 x) = sym ((word_after 1 k (omega arith) w).is n (omega arith)) in
          bind-go (bits 1) _ (word-bits w e 1 (lit≤ tt) (omega arith) (omega arith)) (choose-this _ _ _ (rw o tt) (bind-go f _ (g a l) (give-go s e (ap Some b) refl)))

-- ---- the three fields that are flagged

-- a sample offset
offset_read : (s : List ℕ) (e p : ℕ) {q : ℕ} → bits_value s (p + 11) 1 ≡ 0 → p + 12 ≡ q → q ≤ bit_limit s e → sample_offset_of s e p ≡ got (bits_value s p 11) q
unfolding sample_offset_of reserved
offset_read s e p h k l =
    bind-go (bits 11) _ (bits-there 11 s e p (lit≤ tt) (omega arith))
    (bind-go (bits 1 >>= λ z. ask (eqb z 0) _) _ (bind-go (bits 1) _ (bits-there 1 s e (p + 11) (lit≤ tt) (omega arith)) (ask-fine _ _ s e (rw h tt) (omega arith)))
    (give-go s e refl k))

-- a variable field of one group
pub one-group : (w n : ℕ) (s : List ℕ) (e p : ℕ) {q : ℕ} → 0 < w → w ≤ 63 → bits_value s (p + w) 1 ≡ 0 → p + (w + 1) ≡ q → q ≤ bit_limit s e → variable_bits w (suc n) s e p ≡ got (bits_value s p w) q
unfolding variable_bits groups_from
one-group w n s e p h k z t l =
    let f : w ≤ 64 = omega arith in
    let g : 2 ^ w ≤ 2 ^ 64 = pow_mono f in
    let fits : 0 + bits_value s p w < 2 ^ 64 = omega (arith, value-range s p w, g) in
    ask-go _ _ _ (and _ _ (T_of (le-leb 1 w h)) (and _ _ (T_of (le-leb w 63 k)) (T_of (le-leb 1 (suc n) (omega arith)))))
    (bind-go (bits w) _ (bits-there w s e p f (omega arith))
    (ask-go _ _ _ (T_of (lt-ltb _ _ fits))
    (bind-go (bits 1) _ (bits-there 1 s e (p + w) (lit≤ tt) (omega arith))
    (choose-this _ _ _ (rw z tt) (give-go s e (omega arith) (omega arith))))))

-- sums of two groups of w bits lie in a word
abbrev Sums : ℕ → Type 0
Sums w = (v u : ℕ) → v < 2 ^ w → u < 2 ^ w → (0 + v) * 2 ^ w + 2 ^ w + u < 2 ^ 64

-- a variable field of two groups
two-groups : (w n : ℕ) (s : List ℕ) (e p : ℕ) {q : ℕ} → 0 < w → w ≤ 63 → Sums w → bits_value s (p + w) 1 ≡ 1 → bits_value s (p + w + 1 + w) 1 ≡ 0 → p + (2 * w + 2) ≡ q → q ≤ bit_limit s e
    → variable_bits w (suc (suc n)) s e p ≡ got (bits_value s p w * 2 ^ w + 2 ^ w + bits_value s (p + w + 1) w) q
unfolding variable_bits groups_from
two-groups w n s e p h k sums more z t l =
    let f : w ≤ 64 = omega arith in
    let g : 2 ^ w ≤ 2 ^ 64 = pow_mono f in
    let a = value-range s p w in
    let b = value-range s (p + w + 1) w in
    let first : 0 + bits_value s p w < 2 ^ 64 = omega (arith, a, g) in
    let second : (0 + bits_value s p w) * 2 ^ w + 2 ^ w + bits_value s (p + w + 1) w < 2 ^ 64 = sums (bits_value s p w) (bits_value s (p + w + 1) w) a b in
    let start : (0 + bits_value s p w) * 2 ^ w + 2 ^ w < 2 ^ 64 = omega (arith, second) in
    let v : 0 + bits_value s p w ≡ bits_value s p w = omega arith in
    ask-go _ _ _ (and _ _ (T_of (le-leb 1 w h)) (and _ _ (T_of (le-leb w 63 k)) (T_of (le-leb 1 (suc (suc n)) (omega arith)))))
    (bind-go (bits w) _ (bits-there w s e p f (omega arith))
    (ask-go _ _ _ (T_of (lt-ltb _ _ first))
    (bind-go (bits 1) _ (bits-there 1 s e (p + w) (lit≤ tt) (omega arith))
    (choose-that _ _ _ (rw more tt)
    (ask-go _ _ _ (T_of (lt-ltb 0 (suc n) (omega arith)))
    (ask-go _ _ _ (T_of (lt-ltb _ _ start))
    (bind-go (bits w) _ (bits-there w s e (p + w + 1) f (omega arith))
    (ask-go _ _ _ (T_of (lt-ltb _ _ second))
    (bind-go (bits 1) _ (bits-there 1 s e (p + w + 1 + w) (lit≤ tt) (omega arith))
    (choose-this _ _ _ (rw z tt) (give-go s e (rw v) (omega arith))))))))))))

module _ {s : List ℕ} {p m x : ℕ} (w : Word s p m x) (l : m ≤ 64) (e : ℕ) where
  offset-found : flagged_span 11 x ≤ m → flagged_ends 11 x ≡ true → p + flagged_span 11 x ≤ bit_limit s e → flagged sample_offset_of s e p ≡ got (flagged_value 11 x) (p + flagged_span 11 x)
  offset-found h t k = word-flagged w e sample_offset_of 11 h l t k (λ z j. offset_read s e (p + 1) z (omega arith) j)

  -- the more bit of a flagged field's first group, and its value
  more-bit : (n : ℕ) → n + 2 ≤ m → bits_value s (p + 1 + n) 1 ≡ top (n + 2) x % 2
  more-bit n h =
      let y : p + (n + 1) ≡ p + 1 + n = omega arith in
      let z : n + 1 + 1 ≡ n + 2 = omega arith in
      ap (λ (q : ℕ). bits_value s q 1) (sym y) ∙ sym (word_low w (n + 1) 1 (omega arith)) ∙ ap (λ (q : ℕ). top q x % 2) z

  first-value : (n : ℕ) → n + 1 ≤ m → bits_value s (p + 1) n ≡ top n (after 1 x)
  first-value n h = sym ((word_after 1 l (omega arith) w).is n (omega arith))

  -- those of its second group
  last_bit : (n : ℕ) → 2 * n + 3 ≤ m → bits_value s (p + 1 + n + 1 + n) 1 ≡ top (2 * n + 3) x % 2
  last_bit n h =
      let y : p + (2 * n + 2) ≡ p + 1 + n + 1 + n = omega arith in
      let z : 2 * n + 2 + 1 ≡ 2 * n + 3 = omega arith in
      ap (λ (q : ℕ). bits_value s q 1) (sym y) ∙ sym (word_low w (2 * n + 2) 1 (omega arith)) ∙ ap (λ (q : ℕ). top q x % 2) z

  second-value : (n : ℕ) → 2 * n + 2 ≤ m → bits_value s (p + 1 + n + 1) n ≡ top n (after (n + 2) x)
  second-value n h =
      let y : p + (n + 2) ≡ p + 1 + n + 1 = omega arith in
      ap (λ (q : ℕ). bits_value s q n) (sym y) ∙ sym ((word_after (n + 2) l (omega arith) w).is n (omega arith))

  duration-found : flagged_span 11 x ≤ m → flagged_ends 11 x ≡ true → p + flagged_span 11 x ≤ bit_limit s e → flagged (variable_bits 11 2) s e p ≡ got (flagged_value 11 x) (p + flagged_span 11 x)
  duration-found h t k = word-flagged w e (variable_bits 11 2) 11 h l t k (λ z j. one-group 11 1 s e (p + 1) (lit< tt) (lit≤ tt) z (omega arith) j)

  variable-found : (n limit : ℕ) → 0 < n → n ≤ 63 → Sums n → variable_span n x ≤ m → variable_ends n x ≡ true → p + variable_span n x ≤ bit_limit s e
      → flagged (variable_bits n (suc (suc limit))) s e p ≡ got (variable_value n x) (p + variable_span n x)
  unfolding flagged present variable_ends variable_span variable_value
  variable-found n limit a b sums h t k = by_flags (eqb (top 1 x) 0) refl (eqb (top (n + 2) x % 2) 0) refl h t k
    where
      by_flags : (z : Bool) → eqb (top 1 x) 0 ≡ z → (y : Bool) → eqb (top (n + 2) x % 2) 0 ≡ y → (if z then 1 else (if y then n + 2 else 2 * n + 3)) ≤ m
          → (z || (y || eqb (top (2 * n + 3) x % 2) 0)) ≡ true → p + (if z then 1 else (if y then n + 2 else 2 * n + 3)) ≤ bit_limit s e
          → flagged (variable_bits n (suc (suc limit))) s e p
          ≡ got (if z then None else Some (if y then top n (after 1 x) else top n (after 1 x) * 2 ^ n + 2 ^ n + top n (after (n + 2) x))) (p + (if z then 1 else (if y then n + 2 else 2 * n + 3)))
      by_flags true i y j h t k =
          let o : top 1 x ≡ 0 = eqb→eq (top 1 x) 0 (T_of i) in
          bind-go (bits 1) _ (word-bits w e 1 (lit≤ tt) (omega arith) k) (choose-that _ _ _ (rw o tt) (give-go s e refl refl))
      by_flags false i true j h t k =
          let o : top 1 x ≡ 1 = flag-set (top 1 x) (flag-range w (omega arith)) i in
          let more : bits_value s (p + 1 + n) 1 ≡ 0 = more-bit n (omega arith) ∙ eqb→eq (top (n + 2) x % 2) 0 (T_of j) in
          let v : bits_value s (p + 1) n ≡ top n (after 1 x) = first-value n (omega arith) in
          bind-go (bits 1) _ (word-bits w e 1 (lit≤ tt) (omega arith) (omega arith)) (choose-this _ _ _ (rw o tt) (bind-go (variable_bits n (suc (suc limit))) _ (one-group n (suc limit) s e (p + 1) a b more (omega arith) k) (give-go s e (ap Some v) refl)))
      by_flags false i false j h t k =
          let o : top 1 x ≡ 1 = flag-set (top 1 x) (flag-range w (omega arith)) i in
          let g = rw (← more-bit n (omega arith)) at j in
          let more : bits_value s (p + 1 + n) 1 ≡ 1 = flag-set (bits_value s (p + 1 + n) 1) (value-range s (p + 1 + n) 1) g in
          let v : bits_value s (p + 1) n ≡ top n (after 1 x) = first-value n (omega arith) in
          let u : bits_value s (p + 1 + n + 1) n ≡ top n (after (n + 2) x) = second-value n (omega arith) in
          let z : bits_value s (p + 1 + n + 1 + n) 1 ≡ 0 = last_bit n (omega arith) ∙ eqb→eq (top (2 * n + 3) x % 2) 0 (T_of t) in
          bind-go (bits 1) _ (word-bits w e 1 (lit≤ tt) (omega arith) (omega arith)) (choose-this _ _ _ (rw o tt) (bind-go (variable_bits n (suc (suc limit))) _ (two-groups n limit s e (p + 1) a b sums more z (omega arith) k) (give-go s e (rw (v, u)) refl)))

  -- the codec data
  codec-found : 9 ≤ m → codec_ends x ≡ true → p + codec_span x ≤ bit_limit s e → codec_data s e p ≡ got (top 1 x) (p + codec_span x)
  unfolding codec_data reserved codec_ends codec_span
  codec-found h t k = by_flag (eqb (top 1 x) 0) refl t
    where
      by_flag : (z : Bool) → eqb (top 1 x) 0 ≡ z → (z || eqb (top 9 x % 2 ^ 8) 0) ≡ true → codec_data s e p ≡ got (top 1 x) (p + (1 + 8 * top 1 x))
      by_flag true i t =
          let o : top 1 x ≡ 0 = eqb→eq (top 1 x) 0 (T_of i) in
          bind-go (bits 1) _ (word-bits w e 1 (lit≤ tt) (omega arith) (omega arith))
          (bind-go (choose _ (give tt) _) _ (choose-this _ _ _ (T_of i) (give-go s e refl refl)) (give-go s e refl (omega arith)))
      by_flag false i t =
          let o : top 1 x ≡ 1 = flag-set (top 1 x) (flag-range w (omega arith)) i in
          let a : bits_value s (p + 1) 8 ≡ 0 = sym (word_low w 1 8 h) ∙ eqb→eq (top 9 x % 2 ^ 8) 0 (T_of t) in
          bind-go (bits 1) _ (word-bits w e 1 (lit≤ tt) (omega arith) (omega arith))
          (bind-go (choose _ (give tt) _) _ (choose-that _ _ _ (T-not-of i) (bind-go (bits 8) _ (bits-there 8 s e (p + 1) (lit≤ tt) (omega arith)) (ask-fine _ _ s e (rw a tt) (omega arith)))) (give-go s e refl refl))

-- ---- the settings from discard on

-- where a field is not there, no word matters
value-span : (there : Bool) (n k x : ℕ) → present_value there k (after (present_span there n) x) ≡ present_value there k (after n x)
unfolding present_span present_value
value-span true n k x = refl
value-span false n k x = refl

span-twice : (there : Bool) → present_span there 1 + present_span there 1 ≡ present_span there 2
unfolding present_span
span-twice true = refl
span-twice false = refl

-- the spans by the two bits that decide them, which t has both of
spans-of : (d b t : ℕ) (o : Option ℕ) → d < 2 → b < 2 → t ≡ d * 2 + b
    → (let aligned : Option ℕ = if has_aligned d o then Some b else None in
    1 + present_span (has_aligned d o) 1 + present_span (is_one aligned) 2 + present_span (has_priority d o aligned) 5 + present_span (has_priority d o aligned) 2)
    ≡ (if eqb d 1 then 1 else (if is_present o then 8 else (if eqb t 0 then 2 else 11)))
unfolding present_span has_aligned has_priority is_one is_present ◌&◌
spans-of zero zero t None h k e = rw e
spans-of zero (suc zero) t None h k e = rw e
spans-of zero b t (Some v) h k e = refl
spans-of (suc zero) b t o h k e = refl
spans-of zero (suc (suc b)) t None h k e = absurd (omega arith)
spans-of (suc (suc d)) b t o h k e = absurd (omega arith)

span-most : (t : Bool) (n : ℕ) → present_span t n ≤ n
unfolding present_span
span-most true n = omega arith
span-most false n = omega arith

module _ {s : List ℕ} {p m x : ℕ} (w : Word s p m x) (l : m ≤ 64) (h : 11 ≤ m) (o : Option ℕ) where
  abbrev there : Bool
  there = has_aligned (top 1 x) o

  abbrev aligned : Option ℕ
  aligned = present_value there 1 (after 1 x)

  abbrev kept : Bool
  kept = is_one aligned

  abbrev ranked : Bool
  ranked = has_priority (top 1 x) o aligned

  -- the word where aligned is set, and its second bit
  second : top 2 x ≡ top 1 x * 2 + top 1 (after 1 x)
  second =
      w.is 2 (omega arith) ∙ value-split s p 1 1
      ∙ let a : bits_value s p 1 ≡ top 1 x = sym (w.is 1 (omega arith)) in
      let b : bits_value s (p + 1) 1 ≡ top 1 (after 1 x) = sym ((word_after 1 l (omega arith) w).is 1 (omega arith)) in
      rw (a, b)

  after-discard : Word s (p + 1) (m - 1) (after 1 x)
  after-discard = word_after 1 l (omega arith) w

  spans : 1 + present_span there 1 + present_span kept 2 + present_span ranked 5 + present_span ranked 2 ≡ controls_span (is_present o) x
  unfolding controls_span present_value
  spans = spans-of (top 1 x) (top 1 (after 1 x)) (top 2 x) o (flag-range w (omega arith)) (flag-range after-discard (omega arith)) second

  -- past aligned, past create, past remove, past priority
  abbrev y : ℕ
  y = after (present_span there 1) (after 1 x)

  abbrev z : ℕ
  z = after (present_span kept 2) y

  abbrev q : ℕ
  q = p + 1 + present_span there 1

  past-aligned : Word s q (m - 1 - present_span there 1) y
  past-aligned = word_after (present_span there 1) (omega arith) (omega (arith, span-most there 1)) after-discard

  past-create : Word s (q + present_span kept 1) (m - 1 - present_span there 1 - present_span kept 1) (after (present_span kept 1) y)
  past-create = word_after (present_span kept 1) (omega arith) (omega (arith, span-most there 1, span-most kept 1)) past-aligned

  past-remove : Word s (q + present_span kept 1 + present_span kept 1) (m - 1 - present_span there 1 - present_span kept 2) z
  past-remove =
      let i : q + present_span kept 1 + present_span kept 1 ≡ q + present_span kept 2 = omega (arith, span-twice kept) in
      rw i (word_after (present_span kept 2) (omega arith) (omega (arith, span-most there 1, span-most kept 2)) past-aligned)

  past-priority : Word s (q + present_span kept 1 + present_span kept 1 + present_span ranked 5) (m - 1 - present_span there 1 - present_span kept 2 - present_span ranked 5) (after (present_span ranked 5) z)
  past-priority = word_after (present_span ranked 5) (omega arith) (omega (arith, span-most there 1, span-most kept 2, span-most ranked 5)) past-remove

  pub controls-found : (e : ℕ) (duration group : Option ℕ) (codec : ℕ) → p + controls_span (is_present o) x ≤ bit_limit s e
      → config_controls o duration group codec (top 1 x) s e (p + 1) ≡ got (compact_controls o duration group codec x) (p + controls_span (is_present o) x)
  unfolding config_controls compact_controls
  controls-found e duration group codec k =
      let a = span-most there 1 in
      let b = span-most kept 2 in
      let c = span-most ranked 5 in
      let t = span-twice kept in
      bind-go (present there (bits 1)) _ (word-present after-discard e there 1 (lit≤ tt) (omega arith) (omega (arith, spans)))
      (bind-go (present kept (bits 1)) _ (word-present past-aligned e kept 1 (lit≤ tt) (omega (arith, a)) (omega (arith, spans, t)))
      (bind-go (present kept (bits 1)) _ (word-present past-create e kept 1 (lit≤ tt) (omega (arith, a, span-most kept 1)) (omega (arith, spans, t)))
      (bind-go (present ranked (bits 5)) _ (word-present past-remove e ranked 5 (lit≤ tt) (omega (arith, a, b)) (omega (arith, spans, t)))
      (bind-go (present ranked (bits 2)) _ (word-present past-priority e ranked 2 (lit≤ tt) (omega (arith, a, b, c)) (omega (arith, spans, t)))
      (give-go s e (rw (value-span kept 1 1 y, value-span ranked 5 2 z)) (omega (arith, spans, t)))))))

pub controls-range : (t : Bool) (x : ℕ) → (1 ≤ controls_span t x) × (controls_span t x ≤ 11)
unfolding controls_span
controls-range t x = go (eqb (top 1 x) 1) t (eqb (top 2 x) 0)
  where
    go : (i j k : Bool) → (1 ≤ (if i then 1 else (if j then 8 else (if k then 2 else 11)))) × ((if i then 1 else (if j then 8 else (if k then 2 else 11))) ≤ 11)
    go true j k = (omega arith, omega arith)
    go false true k = (omega arith, omega arith)
    go false false true = (omega arith, omega arith)
    go false false false = (omega arith, omega arith)

-- ---- all of the settings

-- settings other than 64 bits long are compact
pub compact-unless : (x : ℕ) → (config_length x ≡ 64 → ⊥) → compact_settings x ≡ true
unfolding config_length
compact-unless x h = go (compact_settings x) refl
  where
    go : (t : Bool) → compact_settings x ≡ t → compact_settings x ≡ true
    go true i = i
    go false i = absurd (h (rw i))

compact-span : (x : ℕ) → compact_settings x ≡ true → head_span x ≤ 41
unfolding compact_settings
compact-span x t = fits (both (T_of t)) λ t₁ r₁. fits (both r₁) λ t₂ r₂. fits (both r₂) λ t₃ r₃. fits (both r₃) λ t₄ t₅. leb→le (head_span x) 41 t₅

pub config-most : (x : ℕ) → compact_settings x ≡ true → config_length x ≤ 52
unfolding config_length
config-most x t =
    let i : config_length x ≡ head_span x + controls_span (is_present (flagged_value 11 x)) (after_codec x) = rw t in
    omega (arith, i, compact-span x t, (controls-range (is_present (flagged_value 11 x)) (after_codec x)).1)

module _ {s : List ℕ} {p m x : ℕ} (w : Word s p m x) (l : m ≤ 64) (h : 52 ≤ m) (t : compact_settings x ≡ true) where
  abbrev a : ℕ
  a = flagged_span 11 x

  abbrev b : ℕ
  b = flagged_span 11 (flagged_after x)

  abbrev c : ℕ
  c = variable_span 2 (after_timing x)

  abbrev d : ℕ
  d = codec_span (after_group x)

  few : a + b + c + d ≤ 41
  few = compact-span x t

  after-offset : Word s (p + a) (m - a) (flagged_after x)
  after-offset = word_after a l (omega (arith, few)) w

  after-duration : Word s (p + a + b) (m - a - b) (after_timing x)
  after-duration = word_after b (omega arith) (omega (arith, few)) after-offset

  after-group : Word s (p + a + b + c) (m - a - b - c) (after_group x)
  after-group = word_after c (omega arith) (omega (arith, few)) after-duration

  after-codec : Word s (p + a + b + c + d) (m - a - b - c - d) (after_codec x)
  after-codec = word_after d (omega arith) (omega (arith, few)) after-group

  pub config-found : (e : ℕ) → p + config_length x ≤ bit_limit s e → payload_config s e p ≡ got (compact_config x) (p + config_length x)
  unfolding payload_config compact_config compact_settings config_length
  config-found e k =
      let r = controls-range (is_present (flagged_value 11 x)) (after_codec x) in
      let i : config_length x ≡ a + b + c + d + controls_span (is_present (flagged_value 11 x)) (after_codec x) = rw t in
      let j : p + config_length x ≡ p + a + b + c + d + controls_span (is_present (flagged_value 11 x)) (after_codec x) = omega (arith, i) in
      fits (both (T_of t)) λ t₁ r₁.
      fits (both r₁) λ t₂ r₂.
      fits (both r₂) λ t₃ r₃.
      fits (both r₃) λ t₄ t₅.
      rw j
      (bind-go (flagged sample_offset_of) _ (offset-found w l e (omega (arith, few)) (is_true _ t₁) (omega (arith, i)))
      (bind-go (flagged (variable_bits 11 2)) _ (duration-found after-offset (omega arith) e (omega (arith, few)) (is_true _ t₂) (omega (arith, i)))
      (bind-go (flagged (variable_bits 2 31)) _ (variable-found after-duration (omega arith) e 2 29 (lit< tt) (lit≤ tt) (λ v u f g. omega (arith, f, g)) (omega (arith, few)) (is_true _ t₃) (omega (arith, i)))
      (bind-go codec_data _ (codec-found after-group (omega arith) e (omega (arith, few)) (is_true _ t₄) (omega (arith, i)))
      (bind-go (bits 1) _ (word-bits after-codec e 1 (lit≤ tt) (omega (arith, few)) (omega (arith, j, r)))
      (controls-found after-codec (omega arith) (omega (arith, few)) (flagged_value 11 x) e _ _ _ (omega (arith, j))))))))

-- ---- an id and a size

module _ {s : List ℕ} {p m x : ℕ} (w : Word s p m x) (l : m ≤ 64) (e : ℕ) where
  -- an id below the escape
  pub id-found : 5 ≤ m → eqb (top 5 x) 31 ≡ false → p + 5 ≤ bit_limit s e → extended_value 5 s e p ≡ got (top 5 x) (p + 5)
  unfolding extended_value escape
  id-found h t k = bind-go (bits 5) _ (word-bits w e 5 (lit≤ tt) h k) (choose-that _ _ _ (T-not-of t) (give-go s e refl refl))

  pub size-found : 18 ≤ m → 0 < size_length x → p + size_length x ≤ bit_limit s e → variable_bits 8 2 s e p ≡ got (size_value x) (p + size_length x)
  unfolding size_length size_value
  size-found h k j = by_first (eqb (top 9 x % 2) 0) refl (eqb (top 18 x % 2) 0) refl k j
    where
      by_first : (t : Bool) → eqb (top 9 x % 2) 0 ≡ t → (u : Bool) → eqb (top 18 x % 2) 0 ≡ u → 0 < (if t then 9 else (if u then 18 else 0)) → p + (if t then 9 else (if u then 18 else 0)) ≤ bit_limit s e
          → variable_bits 8 2 s e p ≡ got (if t then top 8 x else top 8 x * 2 ^ 8 + 2 ^ 8 + top 17 x % 2 ^ 8) (p + (if t then 9 else (if u then 18 else 0)))
      by_first true i u f k j =
          let a : bits_value s (p + 8) 1 ≡ 0 = sym (word_low w 8 1 (omega arith)) ∙ eqb→eq (top 9 x % 2) 0 (T_of i) in
          one-group 8 1 s e p (lit< tt) (lit≤ tt) a refl j ∙ ap (λ (v : ℕ). got v (p + 9)) (sym (w.is 8 (omega arith)))
      by_first false i true f k j =
          let a : bits_value s (p + 8) 1 ≡ 1 = flag-set (bits_value s (p + 8) 1) (value-range s (p + 8) 1) (rw (word_low w 8 1 (omega arith)) at i) in
          let b : bits_value s (p + 17) 1 ≡ 0 = sym (word_low w 17 1 (omega arith)) ∙ eqb→eq (top 18 x % 2) 0 (T_of f) in
          let c : p + 17 ≡ p + 8 + 1 + 8 = omega arith in
          let d : p + 9 ≡ p + 8 + 1 = omega arith in
          let f₁ : bits_value s p 8 ≡ top 8 x = sym (w.is 8 (omega arith)) in
          let f₂ : bits_value s (p + 8 + 1) 8 ≡ top 17 x % 2 ^ 8 = ap (λ (q : ℕ). bits_value s q 8) (sym d) ∙ sym (word_low w 9 8 (omega arith)) in
          two-groups 8 0 s e p (lit< tt) (lit≤ tt) (λ v u f g. omega (arith, f, g)) a (ap (λ (q : ℕ). bits_value s q 1) (sym c) ∙ b) refl j ∙ rw (f₁, f₂)
      by_first false i false f k j = absurd (omega arith)

-- two words that start there say the same of a size
pub same_size : {s : List ℕ} {p m n x y : ℕ} → Word s p m x → Word s p n y → 18 ≤ m → 18 ≤ n → (size_length x ≡ size_length y) × (size_value x ≡ size_value y)
unfolding size_length size_value
same_size {s} {p} {m} {n} {x} {y} w v h k =
    let t : (i : ℕ) → i ≤ 18 → top i x ≡ top i y = λ i l. w.is i (omega arith) ∙ sym (v.is i (omega arith)) in
    (rw (t 9 (lit≤ tt), t 18 (lit≤ tt)), rw (t 9 (lit≤ tt), t 8 (lit≤ tt), t 17 (lit≤ tt)))

-- ---- what a head's length says

pub record Head (x : ℕ) : Type 0 where
  pub low : eqb (top 5 x) 31 ≡ false
  pub compact : compact_settings (after 5 x) ≡ true
  pub length : head_length x ≡ 5 + config_length (after 5 x)

pub head-end : (x : ℕ) → eqb (top 5 x) 0 ≡ true → head_length x ≡ 5
unfolding head_length
head-end x z = rw z

pub head_of : (x : ℕ) → eqb (top 5 x) 0 ≡ false → 0 < head_length x → Head x
unfolding head_length config_length
head_of x z h = go (eqb (top 5 x) 31) refl (compact_settings (after 5 x)) refl
  where
    go : (i : Bool) → eqb (top 5 x) 31 ≡ i → (j : Bool) → compact_settings (after 5 x) ≡ j → Head x
    go true i j t = absurd (let f = rw (z, i) at h in omega (arith, f))
    go false i false t = absurd (let f = rw (z, i, t) at h in omega (arith, f))
    go false i true t =
        let n = config-most (after 5 x) t in
        let f : eqb (config_length (after 5 x)) 64 ≡ false = ne_eqb (config_length (after 5 x)) 64 (λ (q : config_length (after 5 x) ≡ 64). omega (arith, n, q)) in
        record { low = i; compact = t; length = rw (z, i, f) }

-- ---- how much there can be

pub head-most : (x : ℕ) → head_length x ≤ 57
head-most x = by-id (eqb (top 5 x) 0) refl
  where
    by-id : (t : Bool) → eqb (top 5 x) 0 ≡ t → head_length x ≤ 57
    by-id true z = omega (arith, head-end x z)
    by-id false z = elim (dec_le 1 (head_length x)) [
      | yes k ↦ let d = head_of x z k in omega (arith, d.length, config-most (after 5 x) d.compact)
      | no k ↦ omega arith
    ]

pub size-most : (x : ℕ) → size_length x ≤ 18
unfolding size_length
size-most x = go (eqb (top 9 x % 2) 0) (eqb (top 18 x % 2) 0)
  where
    go : (t u : Bool) → (if t then 9 else (if u then 18 else 0)) ≤ 18
    go true u = omega arith
    go false true = omega arith
    go false false = omega arith

pub value-most : (x : ℕ) → x < 2 ^ 64 → size_value x < 2 ^ 17
unfolding size_value
value-most x l = go (eqb (top 9 x % 2) 0)
  where
    go : (t : Bool) → (if t then top 8 x else top 8 x * 2 ^ 8 + 2 ^ 8 + top 17 x % 2 ^ 8) < 2 ^ 17
    go true = omega arith
    go false = omega arith
