-- What two equal results have in common. Assumes nothing.
use mathlib.Core.Path.{◌≡◌, sym, ap}
use Prim.Native.Nat.{ℕ}
use native.Mathlib.Omega.{arith}
use Rattle.std.specs.Prelude.{Option, Some, None, Result, Ok, Err}

module _ {A E : Type 0} where
  pub ok-same : {x y : A} → ◌≡◌ {A = Result A E} (Ok x) (Ok y) → x ≡ y
  ok-same h = cc

  pub err-same : {x y : E} → ◌≡◌ {A = Result A E} (Err x) (Err y) → x ≡ y
  err-same h = cc

  pub ok-is-not-err : {x : A} {y : E} → ◌≡◌ {A = Result A E} (Ok x) (Err y) → ⊥
  ok-is-not-err h = absurd (let z : ◌≡◌ {A = ℕ} 0 1 = cc in omega arith)

  pub err-is-not-ok : {x : A} {y : E} → ◌≡◌ {A = Result A E} (Err y) (Ok x) → ⊥
  err-is-not-ok h = ok-is-not-err (sym h)

-- of a pair, and of three
pub both-same : {A B E : Type 0} {a a' : A} {b b' : B} → ◌≡◌ {A = Result (A × B) E} (Ok (a, b)) (Ok (a', b')) → (a ≡ a') × (b ≡ b')
both-same {A} {B} h = let p = ok-same h in (ap (λ (z : A × B). z.0) p, ap (λ (z : A × B). z.1) p)

pub all-same : {A B C E : Type 0} {a a' : A} {b b' : B} {c c' : C} → ◌≡◌ {A = Result (A × B × C) E} (Ok (a, b, c)) (Ok (a', b', c')) → (a ≡ a') × (b ≡ b') × (c ≡ c')
all-same {A} {B} {C} h =
    let p = ok-same h in
    (ap (λ (z : A × B × C). z.0) p, ap (λ (z : A × B × C). z.1) p, ap (λ (z : A × B × C). z.2) p)

-- of a pair whose first part may be absent
module _ {A B E : Type 0} {c d : B} where
  pub some-same : {x y : A} → ◌≡◌ {A = Result (Option A × B) E} (Ok (Some x, c)) (Ok (Some y, d)) → (x ≡ y) × (c ≡ d)
  some-same {x} {y} h = let p = both-same h in let q : ◌≡◌ {A = Option A} (Some x) (Some y) = p.0 in let r : x ≡ y = cc in (r, p.1)

  pub none-same : ◌≡◌ {A = Result (Option A × B) E} (Ok (None, c)) (Ok (None, d)) → c ≡ d
  none-same h = (both-same h).1

  pub some-is-not-none : {x : A} → ◌≡◌ {A = Result (Option A × B) E} (Ok (Some x, c)) (Ok (None, d)) → ⊥
  some-is-not-none {x} h = let q : ◌≡◌ {A = Option A} (Some x) None = (both-same h).0 in absurd (let z : ◌≡◌ {A = ℕ} 0 1 = cc in omega arith)

  pub none-is-not-some : {x : A} → ◌≡◌ {A = Result (Option A × B) E} (Ok (None, d)) (Ok (Some x, c)) → ⊥
  none-is-not-some h = some-is-not-none (sym h)
