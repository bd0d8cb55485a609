-- A container's header and its end, read through words. Assumes nothing.
use mathlib.Core.Path.{◌≡◌, refl, sym, ap, ◌∙◌}
use mathlib.Core.Bool.{true}
use mathlib.Core.List.{List}
use Prim.Native.Nat.{ℕ, zero, suc, ◌+◌, ◌-◌, ◌*◌, ◌/◌, ◌%◌, ◌^◌, ◌≤◌, ◌<◌}
use native.Mathlib.Omega.{arith}
use lib.Dec.{eqb, lit≤, eqb→eq}
use lib.Pow.{shr-shr}
use borrow.Author.Tests.{ne_eqb}
use Rattle.openjoc_bitio.specs.Bits.{bits_value, window_at}
use Rattle.openjoc_bitio.specs.Cursor.{bits_remaining}
use Rattle.openjoc_bitio.specs.declared.BitCursor.{BitCursor}
use Rattle.openjoc_bitio.proofs.Bits.{value-split, window-top}
use Rattle.openjoc_bitio.proofs.Cursor.{remaining-end}
use Rattle.emdf_format.specs.Syntax.{escape}
use Rattle.emdf_format.specs.Contents.{protection_length}
use Rattle.emdf_format.specs.Calls.{octets_at}
use Rattle.emdf_format.specs.Reader.{got, cursor_at, bits, octets, extended_value}
use Rattle.emdf_format.specs.Reading.{Found, padding, container_end, container}
use Rattle.emdf_format.proofs.Standing.{bit_limit, remaining-limit, bind-go, ask-go, choose-that, give-go, T_of, T-not-of}
use Rattle.emdf_format.proofs.Loops.{bits-there, octets-there}
use Rattle.emdf_fields.proofs.Word.{Word, word-window, word-bits, word_low}
use Rattle.emdf_container.specs.Container.{IsEnd, container_after}
use Rattle.emdf_container.proofs.Octets.{padding-there}

-- a window, shifted twice
pub shifted : (s : List ℕ) (p j k n : ℕ) {x : ℕ} → x ≡ window_at s p → j + k ≡ 64 - n → n ≤ 57 → x / 2 ^ j / 2 ^ k ≡ bits_value s p n
shifted s p j k n {x} h i l = shr-shr x j k ∙ ap (λ (z : ℕ). x / 2 ^ z) i ∙ rw h (window-top s p n l)

pub word_value : (s : List ℕ) (p : ℕ) {x y : ℕ} → x ≡ window_at s p → y ≡ window_at s (p + 32) → x / 2 ^ 32 * 2 ^ 32 + y / 2 ^ 32 ≡ bits_value s p 64
word_value s p h k = rw (h, k, window-top s p 32 (lit≤ tt), window-top s (p + 32) 32 (lit≤ tt)) (sym (value-split s p 32 32))

-- ---- the header

module _ (s : List ℕ) (e p : ℕ) {key : ℕ} (k : key ≡ window_at s p / 2 ^ 59) (l : key < 7) (r : 5 ≤ bits_remaining s (cursor_at e p)) where
  room : p + 5 ≤ bit_limit s e
  room = omega (arith, remaining-limit s e p)

  version-found : extended_value 2 s e p ≡ got 0 (p + 2)
  unfolding extended_value escape
  version-found =
      let z : window_at s p / 2 ^ 62 ≡ 0 = omega arith in
      let y : bits_value s p 2 ≡ 0 = sym (window-top s p 2 (lit≤ tt)) ∙ z in
      bind-go (bits 2) _ (bits-there 2 s e p (lit≤ tt) (omega (arith, room))) (choose-that _ _ _ (rw y tt) (give-go s e y refl))

  pub key-found : extended_value 3 s e (p + 2) ≡ got key (p + 5)
  unfolding extended_value escape
  key-found =
      let z : window_at s p / 2 ^ 59 % 2 ^ 3 ≡ key = omega arith in
      let y : bits_value s (p + 2) 3 ≡ key = sym (word_low (word-window s p) 2 3 (lit≤ tt)) ∙ z in
      bind-go (bits 3) _ (bits-there 3 s e (p + 2) (lit≤ tt) (omega (arith, room)))
      (choose-that _ _ _ (T-not-of (ne_eqb _ 7 (λ (h : bits_value s (p + 2) 3 ≡ 7). omega (arith, h, y)))) (give-go s e y (omega arith)))

  pub header-found : container s e p ≡ container_after key s e (p + 5)
  unfolding container container_after
  header-found = bind-go (extended_value 2) _ version-found (ask-go _ _ _ tt (bind-go (extended_value 3) _ key-found refl))

-- ---- the end

pub end_is : (s : List ℕ) (p left first second : ℕ) {x : ℕ} → 0 < first → 4 + (first + second) * 8 ≤ left → left ≤ 4 + (first + second) * 8 + 7
    → x ≡ window_at s (p + (4 + (first + second) * 8)) → eqb (x / 2 ^ 57 / 2 ^ (7 - (left - (4 + (first + second) * 8)))) 0 ≡ true → IsEnd s p left first second
end_is s p left first second f r k h t =
    let n = 4 + (first + second) * 8 in
    record { some = f; room = r; few = k; zeros = sym (shifted s (p + n) 57 (7 - (left - n)) (left - n) h (omega arith) (omega arith)) ∙ eqb→eq _ 0 (T_of t) }

pub end_fits : (s : List ℕ) (c : BitCursor) {left first second : ℕ} → left ≡ bits_remaining s c → IsEnd s c.position left first second → c.position + (4 + (first + second) * 8) ≤ c.end
end_fits s c l d = omega (arith, d.room, remaining-end s c)

pub fits_word : {n : ℕ} (c : ℕ) → n ≡ protection_length c → (n ≡ 16 → ⊥) → n ≤ 7
unfolding protection_length
fits_word zero h f = omega arith
fits_word (suc zero) h f = omega arith
fits_word (suc (suc zero)) h f = omega arith
fits_word (suc (suc (suc c))) h f = absurd (f h)

none : (c : ℕ) → c ≡ 0 → protection_length c ≡ 0
unfolding protection_length
none c h = rw h

pub end-found : (s : List ℕ) (e p key : ℕ) (xs : List Found) {x first second left : ℕ} → x ≡ window_at s p → first ≡ protection_length (x / 2 ^ 62) → second ≡ protection_length (x / 2 ^ 60 % 4)
    → left ≡ bits_remaining s (cursor_at e p) → IsEnd s p left first second
    → container_end key xs s e p ≡ got (record { key-id = key; found = xs; primary = octets_at s (p + 4) first; secondary = octets_at s (p + 4 + first * 8) second }) (p + left)
unfolding container_end
end-found s e p key xs {x} {first} {second} {left} h f g r d =
    let w : Word s p 57 x = rw h (word-window s p) in
    let q = p + 4 + first * 8 in
    let t = q + second * 8 in
    let lim : left ≡ bit_limit s e - p = r ∙ remaining-limit s e p in
    let room = d.room in
    let few = d.few in
    let four : p + 2 + 2 ≡ p + 4 = omega arith in
    let to-q : p + 4 + 8 * first ≡ q = omega arith in
    let to-t : q + 8 * second ≡ t = omega arith in
    let first_code : bits 2 s e p ≡ got (x / 2 ^ 62) (p + 2) = word-bits w e 2 (lit≤ tt) (lit≤ tt) (omega arith) in
    let second-code : bits 2 s e (p + 2) ≡ got (x / 2 ^ 60 % 4) (p + 4) =
    bits-there 2 s e (p + 2) (lit≤ tt) (omega arith) ∙ rw (four, ← word_low w 2 2 (lit≤ tt)) in
    let some : x / 2 ^ 62 ≡ 0 → ⊥ = λ z. let n = none (x / 2 ^ 62) z in omega (arith, n, d.some) in
    let primary : octets (protection_length (x / 2 ^ 62)) s e (p + 4) ≡ got (octets_at s (p + 4) first) q = rw (← f, ← to-q) (octets-there first s e (p + 4) (omega arith)) in
    let secondary : octets (protection_length (x / 2 ^ 60 % 4)) s e q ≡ got (octets_at s q second) t = rw (← g, ← to-t) (octets-there second s e q (omega arith)) in
    let n = 4 + (first + second) * 8 in
    let at-t : p + n ≡ t = omega arith in
    let rest : left - n ≡ bits_remaining s (cursor_at e t) = omega (arith, remaining-limit s e t) in
    let zeros : bits_value s t (bits_remaining s (cursor_at e t)) ≡ 0 = rw (at-t, rest) at d.zeros in
    bind-go (bits 2) _ first_code
    (bind-go (bits 2) _ second-code
    (ask-go _ _ _ (T-not-of (ne_eqb (x / 2 ^ 62) 0 some))
    (bind-go (octets _) _ primary
    (bind-go (octets _) _ secondary
    (bind-go padding _ (padding-there s e t (omega arith) zeros) (give-go s e refl (omega arith)))))))
