-- The fields that settings and payloads are made of: when_present reader against its writer. Assumes nothing.
use mathlib.Core.Path.{◌≡◌, refl, sym, ap, ◌∙◌}
use mathlib.Core.Bool.{Bool, true, false, not}
use mathlib.Core.List.{List, [], ◌∷◌}
use Prim.Native.Nat.{ℕ, zero, suc, ◌+◌, ◌-◌, ◌^◌, ◌≤◌, ◌<◌}
use native.Mathlib.Omega.{arith}
use lib.ListN.{length}
use lib.Dec.{T, leb, ltb, eqb, leb→le, ltb→lt, lt→ltb, nltb→le, eqb→eq, eqb_refl, eqb-suc-suc, lit≤}
use lib.Arith.{le→nltb}
use lib.Pow.{pow_pos}
use Rattle.std.specs.Prelude.{if◌then◌else◌, Option, Some, None}
use Rattle.openjoc_bitio.specs.Bits.{number_bits}
use Rattle.emdf_format.specs.Syntax.{◌⨟◌, variable_field, capacity, escape, extended_field, octet_bits, flagged_field, present_field}
use Rattle.emdf_format.specs.Contents.{◌&◌, iff, is_present, when_present, all_bytes}
use Rattle.emdf_format.specs.Reader.{got, Reader, variable_bits, extended_value, octets, present, flagged}
use Rattle.emdf_format.proofs.Standing.{Stands, nil, cons, join, part, Codec, bits-law, bind_inv, bind-go, ask-inv, ask-go, choose-inv, choose-this, choose-that, step, asked, chosen, give-inv, give-go, bit-zero, bit-one, if_yes, if_no, T_of, T-not-of, neqb→ne, ne→neqb, both, and}
use Rattle.emdf_format.proofs.Variable.{field-sound, field-exact}

-- ---- bounds

-- a value that a variable field of at most g groups can hold, in 64 bits
unfoldable pub fits_variable : ℕ → ℕ → ℕ → Bool
fits_variable w g v = ltb v (capacity w g) & ltb v (2 ^ 64)

-- a value that a field with an escape can hold
unfoldable pub fits_extended : ℕ → ℕ → Bool
fits_extended w v = if ltb v (escape w) then true else fits_variable w 31 (v - escape w) & ltb v (2 ^ 64)

-- the same reader, what is fit said otherwise
pub refit : {A : Type 0} {r : Reader A} {wr : A → List ℕ} {fit fit' : A → Bool}
    → Codec r wr fit → ((a : A) → T (fit a) → T (fit' a)) → ((a : A) → T (fit' a) → T (fit a)) → Codec r wr fit'
refit c f g = record { sound = λ h. let d = c.sound h in (d.0, f _ d.1); exact = λ t h. c.exact (g _ t) h }

pub variable : (w lim : ℕ) → T (leb 1 w & leb w 63 & leb 1 lim) → Codec (variable_bits w lim) (variable_field w) (fits_variable w lim)
unfolding fits_variable
variable w lim l = record {
  sound = λ {s} {e} {p} {q} {a = v} h.
      let d = field-sound w lim h in
      (d.stands, and _ _ (lt→ltb v (capacity w lim) d.small) (lt→ltb v (2 ^ 64) d.fits));
  exact = λ {s} {e} {p} {q} {a = v} t h.
      let b = both t in
      field-exact w lim l (ltb→lt v (capacity w lim) b.left) (ltb→lt v (2 ^ 64) b.right) h;
}

-- ---- a field with an escape

top : (w : ℕ) → 2 ^ w ≤ suc (escape w)
unfolding escape
top w = omega arith

module _ (w : ℕ) (l : T (leb 1 w & leb w 63)) where
  wide : w ≤ 64
  wide = omega (arith, leb→le w 63 (both l).right)

  bounds : T (leb 1 w & leb w 63 & leb 1 31)
  bounds = and _ _ (both l).left (and _ _ (both l).right tt)

  escape-lt : escape w < 2 ^ w
  unfolding escape
  escape-lt = omega (arith, pow_pos w)

  base-stands : (b : ℕ) {s : List ℕ} {e p q : ℕ} → b < escape w → Stands s e p q (number_bits w b) → Stands s e p q (extended_field w b) × T (fits_extended w b)
  unfolding extended_field fits_extended
  base-stands b h k = (
    rw (if_yes (ltb b (escape w)) (number_bits w b) (number_bits w (escape w) ⨟ variable_field w (b - escape w)) (lt→ltb _ _ h)) k,
    rw (if_yes (ltb b (escape w)) true (fits_variable w 31 (b - escape w) & ltb b (2 ^ 64)) (lt→ltb _ _ h)) tt,
  )

  escape-stands : (v : ℕ) {s : List ℕ} {e p r q : ℕ} → Stands s e p r (number_bits w (escape w)) → Stands s e r q (variable_field w v)
      → T (fits_variable w 31 v) → T (ltb (escape w + v) (2 ^ 64)) → Stands s e p q (extended_field w (escape w + v)) × T (fits_extended w (escape w + v))
  unfolding extended_field fits_extended
  escape-stands v {s} {e} {p} {r} {q} sb sv f o =
      let m : ℕ = escape w in
      let e₁ : (m + v) - m ≡ v = omega arith in
      let k : T (not (ltb (m + v) m)) = le→nltb (m + v) m (omega arith) in
      let sv' : Stands s e r q (variable_field w ((m + v) - m)) = rw e₁ sv in
      let f' : T (fits_variable w 31 ((m + v) - m)) = rw e₁ f in (
        rw (if_no (ltb (m + v) m) (number_bits w (m + v)) (number_bits w m ⨟ variable_field w ((m + v) - m)) k) (join sb sv'),
        rw (if_no (ltb (m + v) m) true (fits_variable w 31 ((m + v) - m) & ltb (m + v) (2 ^ 64)) k) (and _ _ f' o),
      )

  extended-sound : {s : List ℕ} {e p q v : ℕ} → extended_value w s e p ≡ got v q → Stands s e p q (extended_field w v) × T (fits_extended w v)
  unfolding extended_value
  extended-sound h =
      step (bits-law w wide) (bind_inv h) λ b p₁ sb lb t₁.
      chosen (choose-inv t₁)
      (λ z t₂.
      let e₁ : b ≡ escape w = eqb→eq b (escape w) z in
      step (variable w 31 bounds) (bind_inv t₂) λ v p₂ sv lv t₃.
      asked (ask-inv t₃) λ o t₄.
      let d = give-inv t₄ in
      let r = ap (λ (m : ℕ). m + v) (sym e₁) ∙ d.what in
      rw (← r, ← d.to) (escape-stands v (rw e₁ at sb) sv lv (rw e₁ at o)))
      λ z t₂.
      let k : b < escape w = omega (arith, ltb→lt b (2 ^ w) lb, top w, neqb→ne b (escape w) z) in
      let d = give-inv t₂ in
      rw (← d.what, ← d.to) (base-stands b k sb)

  extended_exact : {s : List ℕ} {e p q v : ℕ} → T (fits_extended w v) → Stands s e p q (extended_field w v) → extended_value w s e p ≡ got v q
  unfolding extended_value extended_field fits_extended
  extended_exact {s} {e} {p} {q} {v} f h = go (ltb v (escape w)) refl f h
    where
      go : (t : Bool) → ltb v (escape w) ≡ t → T (if t then true else (fits_variable w 31 (v - escape w) & ltb v (2 ^ 64)))
          → Stands s e p q (if t then number_bits w v else number_bits w (escape w) ⨟ variable_field w (v - escape w)) → extended_value w s e p ≡ got v q
      go true t f k =
          let vl : v < escape w = ltb→lt v (escape w) (T_of t) in
          let vw : v < 2 ^ w = omega (arith, escape-lt) in
          bind-go _ _ ((bits-law w wide).exact (lt→ltb v (2 ^ w) vw) k)
          (choose-that _ _ _ (ne→neqb v (escape w) (λ (x : v ≡ escape w). omega arith)) (give-go s e refl refl))
      go false t f k =
          let m : ℕ = escape w in
          let e₁ : m + (v - m) ≡ v = omega (arith, nltb→le v (escape w) (T-not-of t)) in
          let o : T (ltb (m + (v - m)) (2 ^ 64)) = rw e₁ (both f).right in
          part (number_bits w m) (variable_field w (v - m)) k λ p₁ sb sv.
          bind-go _ _ ((bits-law w wide).exact (lt→ltb m (2 ^ w) escape-lt) sb)
          (choose-this _ _ _ (eqb_refl m)
          (bind-go _ _ ((variable w 31 bounds).exact (both f).left sv)
          (ask-go _ _ _ o (give-go s e e₁ refl))))

  pub extended : Codec (extended_value w) (extended_field w) (fits_extended w)
  extended = record { sound = extended-sound; exact = extended_exact }

-- ---- octets

unfoldable pub sized : ℕ → List ℕ → Bool
sized n bs = eqb (length bs) n & all_bytes bs

octets-one : (n : ℕ) → Codec (octets n) octet_bits (sized n) → Codec (octets (suc n)) octet_bits (sized (suc n))
unfolding octets octet_bits sized all_bytes
octets-one n c = record { sound = sound; exact = λ {a = bs} t h. exact bs t h }
  where
    sound : {s : List ℕ} {e p q : ℕ} {bs : List ℕ} → octets (suc n) s e p ≡ got bs q → Stands s e p q (octet_bits bs) × T (sized (suc n) bs)
    sound h =
        step (bits-law 8 (lit≤ tt)) (bind_inv h) λ b p₁ sb lb t₁.
        step c (bind_inv t₁) λ bs p₂ ss ls t₂.
        let d = give-inv t₂ in
        rw (← d.what, ← d.to, eqb-suc-suc) (join sb ss, and _ _ (both ls).left (and _ _ lb (both ls).right))

    exact : {s : List ℕ} {e p q : ℕ} (bs : List ℕ) → T (sized (suc n) bs) → Stands s e p q (octet_bits bs) → octets (suc n) s e p ≡ got bs q
    exact [] t h = absurd (let z : ◌≡◌ {A = ℕ} 0 (suc n) = eqb→eq 0 (suc n) (both t).left in omega arith)
    exact {s} {e} (b ∷ bs) t h =
        let l : T (eqb (length bs) n) = rw eqb-suc-suc at (both t).left in
        let f = both (both t).right in
        part (number_bits 8 b) (octet_bits bs) h λ p₁ sb ss.
        bind-go _ _ ((bits-law 8 (lit≤ tt)).exact f.left sb) (bind-go _ _ (c.exact (and _ _ l f.right) ss) (give-go s e refl refl))

pub octets-law : (n : ℕ) → Codec (octets n) octet_bits (sized n)
unfolding octets octet_bits sized all_bytes
octets-law zero = record { sound = λ h. (let d = give-inv h in rw (← d.what, ← d.to) (nil, and _ _ tt tt)); exact = λ {a = bs} t h. exact bs t h }
  where
    exact : {s : List ℕ} {e p q : ℕ} (bs : List ℕ) → T (sized zero bs) → Stands s e p q (octet_bits bs) → octets zero s e p ≡ got bs q
    exact {s} {e} [] t nil = give-go s e refl refl
    exact (b ∷ bs) t h = absurd (let z : suc (length bs) ≡ 0 = eqb→eq (suc (length bs)) 0 (both t).left in omega arith)
octets-law (suc n) = octets-one n (octets-law n)

-- ---- a field that may be absent

pub agree-eq : (a b : Bool) → T (iff a b) → a ≡ b
unfolding iff
agree-eq true true h = refl
agree-eq true false h = absurd h
agree-eq false true h = absurd h
agree-eq false false h = refl

module _ {r : Reader ℕ} {wr : ℕ → List ℕ} {fit : ℕ → Bool} (c : Codec r wr fit) where
  present-sound : (t : Bool) {s : List ℕ} {e p q : ℕ} {o : Option ℕ} → present t r s e p ≡ got o q
      → Stands s e p q (present_field wr o) × T (when_present fit o & iff (is_present o) t)
  unfolding present present_field when_present iff is_present
  present-sound t h =
      chosen (choose-inv h)
      (λ z t₁. step c (bind_inv t₁) λ v p₁ sv fv t₂. let d = give-inv t₂ in rw (← d.what, ← d.to) (sv, and _ _ fv z))
      λ z t₁. let d = give-inv t₁ in rw (← d.what, ← d.to) (nil, and _ _ tt z)

  present-exact : (t : Bool) {s : List ℕ} {e p q : ℕ} (o : Option ℕ) → T (when_present fit o & iff (is_present o) t) → Stands s e p q (present_field wr o)
      → present t r s e p ≡ got o q
  unfolding present present_field when_present iff is_present
  present-exact t {s} {e} None f nil = choose-that _ _ _ (both f).right (give-go s e refl refl)
  present-exact t {s} {e} (Some v) f h = choose-this _ _ _ (both f).right (bind-go _ _ (c.exact (both f).left h) (give-go s e refl refl))

  pub present-law : (t : Bool) → Codec (present t r) (present_field wr) (λ o. when_present fit o & iff (is_present o) t)
  present-law t = record { sound = present-sound t; exact = λ {a = o} f h. present-exact t o f h }

  flagged-sound : {s : List ℕ} {e p q : ℕ} {o : Option ℕ} → flagged r s e p ≡ got o q → Stands s e p q (flagged_field wr o) × T (when_present fit o)
  unfolding flagged present flagged_field when_present ◌⨟◌
  flagged-sound h =
      step (bits-law 1 (lit≤ tt)) (bind_inv h) λ f p₁ sf lf t₁.
      chosen (choose-inv t₁)
      (λ z t₂. step c (bind_inv t₂) λ v p₂ sv fv t₃. let d = give-inv t₃ in rw (← d.what, ← d.to) (join (bit-one f sf (eqb→eq f 1 z)) sv, fv))
      λ z t₂. let d = give-inv t₂ in rw (← d.what, ← d.to) (bit-zero f sf (rw (let z₀ : f ≡ 0 = omega (arith, ltb→lt f 2 lf, neqb→ne f 1 z) in z₀) tt), tt)

  flagged-exact : {s : List ℕ} {e p q : ℕ} (o : Option ℕ) → T (when_present fit o) → Stands s e p q (flagged_field wr o) → flagged r s e p ≡ got o q
  unfolding flagged present flagged_field when_present number_bits
  flagged-exact {s} {e} None f h = bind-go _ _ ((bits-law 1 (lit≤ tt)).exact {a = 0} tt h) (choose-that _ _ _ tt (give-go s e refl refl))
  flagged-exact {s} {e} (Some v) f (cons l b h) =
      bind-go _ _ ((bits-law 1 (lit≤ tt)).exact {a = 1} tt (cons l b nil))
      (choose-this _ _ _ tt (bind-go _ _ (c.exact f h) (give-go s e refl refl)))

  pub flagged-law : Codec (flagged r) (flagged_field wr) (when_present fit)
  flagged-law = record { sound = flagged-sound; exact = λ {a = o} f h. flagged-exact o f h }
