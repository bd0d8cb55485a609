use borrow.Author.Tests.{eq-eqb, ne_eqb}
use mathlib.Core.Path.{◌≡◌, sym, ap, ◌∙◌}
use mathlib.Core.List.{List}
use Prim.Native.Nat.{ℕ, ◌+◌, ◌/◌, ◌%◌, ◌^◌}
use native.Mathlib.Omega.{arith}
use Rattle.openjoc_bitio.specs.Bits.{window_at}
use Rattle.emdf_compact.specs.Words.{head_length, grouped_head, size_length, size_value}
use Rattle.emdf_compact.proofs.Groups.{grouped-head, grouped-end, grouped-none}
use Rattle.emdf_compact.proofs.Compact.{size-most, value-most}
use Rattle.emdf_payloads.specs.Compact.{compact_parts, head_at, size_at}
use Rattle.emdf_payloads.proofs.compact_parts.Goals as goal

-- the bits of the head are those of the length without its mark
module _ (s : List ℕ) (p r w : ℕ) (e : w ≡ head_at s p) (h : r ≡ grouped_head w) where
  grouped-is : r ≡ grouped_head (head_at s p)
  grouped-is = h ∙ ap grouped_head e

  head-is : r % 128 ≡ head_length (head_at s p)
  head-is = ap (λ (n : ℕ). n % 128) grouped-is ∙ grouped-head (head_at s p)

  none_is : r ≡ 0 → head_length (head_at s p) ≡ 0
  none_is z = sym head-is ∙ ap (λ (n : ℕ). n % 128) z

  some_is : (r ≡ 0 → ⊥) → head_length (head_at s p) ≡ 0 → ⊥
  some_is f z = f (grouped-is ∙ grouped-none (head_at s p) z)

pub returns-then-head-eq0 : goal.returns-then-head-eq0
unfolding compact_parts
returns-then-head-eq0 c =
    let a = c.args in
    let h : head_length (head_at a.s.now a.position) ≡ 0 = none_is a.s.now a.position _ _ c.window_at-word.ensures c.head_length-head.ensures c.if-head-eq0.true in
    c.not_compact.ensures ∙ rw (eq-eqb _ 0 h)

pub returns-then-word-eq0 : goal.returns-then-word-eq0
unfolding compact_parts
returns-then-word-eq0 c =
    let a = c.args in
    let w = c.window_at-word.ensures in
    let g = c.head_length-head.ensures in
    let t : head_at a.s.now a.position / 2 ^ 59 ≡ 0 = ap (λ (x : ℕ). x / 2 ^ 59) (sym w) ∙ c.if-word-eq0.true in
    let z = eq-eqb _ 0 t in
    rw (grouped-is a.s.now a.position _ _ w g, w, ne_eqb _ 0 (some_is a.s.now a.position _ _ w g c.if-head-eq0.false), z, grouped-end (head_at a.s.now a.position) z)

pub size_word-y-requires : goal.size_word-y-requires
size_word-y-requires c = (c.requires, omega arith, c.window_at-word.ensures)

pub returns-then-size-eq0 : goal.returns-then-size-eq0
unfolding compact_parts
returns-then-size-eq0 c =
    let a = c.args in
    let w = c.window_at-word.ensures in
    let h = head-is a.s.now a.position _ _ w c.head_length-head.ensures in
    let t : head_at a.s.now a.position / 2 ^ 59 ≡ 0 → ⊥ = λ z. c.if-word-eq0.false (ap (λ (x : ℕ). x / 2 ^ 59) w ∙ z) in
    let v = c.size_word-y.ensures in
    let k : size_length (size_at a.s.now a.position) ≡ 0 = sym (c.size_length-size.ensures ∙ v.length ∙ ap (λ (n : ℕ). size_length (window_at a.s.now (a.position + n))) h) ∙ c.if-size-eq0.true in
    c.not_compact-then-size-eq0.ensures ∙ rw (ne_eqb _ 0 (some_is a.s.now a.position _ _ w c.head_length-head.ensures c.if-head-eq0.false), ne_eqb _ 0 t, eq-eqb _ 0 k)

pub overflow_add-result : goal.overflow_add-result
overflow_add-result c = omega (arith, c.size_length-size.ensures, size-most c.size_word-y.result)

pub overflow_mul-result : goal.overflow_mul-result
overflow_mul-result c = omega (arith, c.size_value.ensures, value-most c.size_word-y.result (omega arith))

pub overflow_add-result-2 : goal.overflow_add-result-2
overflow_add-result-2 c = omega (arith, c.size_length-size.ensures, size-most c.size_word-y.result, c.size_value.ensures, value-most c.size_word-y.result (omega arith))

pub returns : goal.returns
unfolding compact_parts
returns c =
    let a = c.args in
    let w = c.window_at-word.ensures in
    let g = c.head_length-head.ensures in
    let h = head-is a.s.now a.position _ _ w g in
    let t : head_at a.s.now a.position / 2 ^ 59 ≡ 0 → ⊥ = λ z. c.if-word-eq0.false (ap (λ (x : ℕ). x / 2 ^ 59) w ∙ z) in
    let z = some_is a.s.now a.position _ _ w g c.if-head-eq0.false in
    let v = c.size_word-y.ensures in
    let k = c.size_length-size.ensures ∙ v.length ∙ ap (λ (n : ℕ). size_length (window_at a.s.now (a.position + n))) h in
    let m = c.size_value.ensures ∙ v.value ∙ ap (λ (n : ℕ). size_value (window_at a.s.now (a.position + n))) h in
    rw (h, grouped-is a.s.now a.position _ _ w g, ne_eqb _ 0 z, ne_eqb _ 0 t, ne_eqb _ 0 (λ (y : size_length (size_at a.s.now a.position) ≡ 0). c.if-size-eq0.false (k ∙ y)), k, m, w)
