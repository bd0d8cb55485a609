-- What loops need: reads by the bits that are left, and payloads one at a time. Assumes nothing.
use mathlib.Core.Path.{◌≡◌, refl, sym, ap, ◌∙◌}
use mathlib.Core.Bool.{Bool, true, false}
use mathlib.Core.List.{List, [], ◌∷◌}
use Prim.Native.Nat.{ℕ, zero, suc, ◌+◌, ◌-◌, ◌*◌, ◌/◌, ◌%◌, ◌≤◌, ◌<◌}
use native.Mathlib.Omega.{arith}
use native.Mathlib.Decide.{dec_le}
use lib.Dec.{lit≤}
use borrow.Author.Tests.{le-leb, lt-leb}
use Rattle.openjoc_bitio.specs.Bits.{bits_value}
use Rattle.openjoc_bitio.specs.Cursor.{bits_remaining, read_bits}
use Rattle.openjoc_bitio.specs.declared.BitError.TheVariants.{EndOfInput}
use Rattle.emdf_format.specs.declared.EmdfError.{EmdfError}
use Rattle.emdf_format.specs.declared.EmdfError.TheVariants.{Bit}
use Rattle.emdf_format.specs.Reader.{Read, got, refused, Reader, and_then, ◌>>=◌, give, ask, choose, cursor_at, position, from_bits, bits, extended_value, octets}
use Rattle.emdf_format.specs.Reading.{Found, payload_after, payloads}
use Rattle.emdf_format.specs.Calls.{octets_at}
use Rattle.emdf_format.proofs.Standing.{bit_limit, remaining-limit, stands-to, Bound, bind_inv, bind-go, bind-no, choose-this, choose-that, step, give-inv, give-go, ne→neqb}
use Rattle.emdf_format.proofs.Fields.{octets-law}
use Rattle.emdf_format.proofs.Config.{config-law}
use Rattle.emdf_format.proofs.Payloads.{id-law, size-law, at-inv, at-go, field-long}
use Rattle.emdf_format.proofs.Lengths.{length-extended}

-- ---- w bits, by the bits left

pub bits-there : (w : ℕ) (s : List ℕ) (e p : ℕ) → w ≤ 64 → w ≤ bit_limit s e - p → bits w s e p ≡ got (bits_value s p w) (p + w)
unfolding bits from_bits read_bits
bits-there w s e p h k =
    let r : w ≤ bits_remaining s (cursor_at e p) = rw remaining-limit k in
    simp (le-leb w 64 h, le-leb w (bits_remaining s (cursor_at e p)) r)

pub bits-short : (w : ℕ) (s : List ℕ) (e p : ℕ) → w ≤ 64 → bit_limit s e - p < w → bits w s e p ≡ refused (Bit (EndOfInput w (bit_limit s e - p))) p
unfolding bits from_bits read_bits
bits-short w s e p h k = simp (le-leb w 64 h, remaining-limit, lt-leb w (bit_limit s e - p) k)

-- ---- n octets, by the bits left

pub octets-there : (n : ℕ) (s : List ℕ) (e p : ℕ) → 8 * n ≤ bit_limit s e - p → octets n s e p ≡ got (octets_at s p n) (p + 8 * n)
unfolding octets octets_at
octets-there zero s e p h = give-go s e refl (omega arith)
octets-there (suc n) s e p h =
    bind-go _ _ (bits-there 8 s e p (lit≤ tt) (omega arith))
    (bind-go _ _ (octets-there n s e (p + 8) (omega arith)) (give-go s e refl (omega arith)))

-- a missing octet is refused as the first missing octet's own read would be
pub octets-short : (n : ℕ) (s : List ℕ) (e p : ℕ) → bit_limit s e - p < 8 * n
    → octets n s e p ≡ refused (Bit (EndOfInput 8 ((bit_limit s e - p) % 8))) (p + 8 * ((bit_limit s e - p) / 8))
unfolding octets
octets-short zero s e p h = absurd (omega arith)
octets-short (suc n) s e p h =
    elim (dec_le 8 (bit_limit s e - p)) [
      | yes l ↦
          let m : (bit_limit s e - p) % 8 ≡ (bit_limit s e - (p + 8)) % 8 = omega arith in
          let k : p + 8 * ((bit_limit s e - p) / 8) ≡ p + 8 + 8 * ((bit_limit s e - (p + 8)) / 8) = omega arith in
          rw (m, k) (bind-go _ _ (bits-there 8 s e p (lit≤ tt) l) (bind-no _ _ (octets-short n s e (p + 8) (omega arith))))
      | no l ↦
          let m : (bit_limit s e - p) % 8 ≡ bit_limit s e - p = omega arith in
          let k : p + 8 * ((bit_limit s e - p) / 8) ≡ p = omega arith in
          rw (m, k) (bind-no _ _ (bits-short 8 s e p (lit≤ tt) (omega arith)))
    ]

-- ---- a payload takes at least a bit, so a loop over payloads ends

pub id-moves : (s : List ℕ) (e : ℕ) {p q id : ℕ} → extended_value 5 s e p ≡ got id q → p < q
id-moves s e {id = id} h = omega (arith, length-extended 5 id, stands-to (id-law.sound h).0)

-- past a question for the position, which moves nothing
here : {B : Type 0} {k : ℕ → Reader B} {s : List ℕ} {e p q : ℕ} {x : B} → Bound position k s e p x q → k p s e p ≡ got x q
here f = let z = at-inv f.first in rw (← z.is, ← z.to) at f.rest

pub after-moves : (p₀ id : ℕ) (s : List ℕ) (e : ℕ) {p q : ℕ} {x : Found} → payload_after p₀ id s e p ≡ got x q → p < q
unfolding payload_after
after-moves p₀ id s e h =
    step config-law (bind_inv (here (bind_inv h))) λ config p₁ s₁ f₁ t₁.
    step size-law (bind_inv (here (bind_inv t₁))) λ size p₂ s₂ f₂ t₂.
    step (octets-law size) (bind_inv (here (bind_inv t₂))) λ body p₃ s₃ f₃ t₃.
    omega (arith, stands-to s₁, stands-to s₂, field-long 8 size, stands-to s₃, (give-inv (here (bind_inv t₃))).to)

-- ---- a turn of the loop over payloads

pub end-turn : (n : ℕ) (s : List ℕ) (e p : ℕ) {q : ℕ} → extended_value 5 s e p ≡ got 0 q → payloads (suc n) s e p ≡ got [] q
unfolding payloads
end-turn n s e p h = bind-go _ _ (at-go s e p) (bind-go _ _ h (choose-this _ _ _ tt (give-go s e refl refl)))

pub refused-turn : (n : ℕ) (s : List ℕ) (e p : ℕ) {why : EmdfError} {q : ℕ} → extended_value 5 s e p ≡ refused why q → payloads (suc n) s e p ≡ refused why q
unfolding payloads
refused-turn n s e p h = bind-go _ _ (at-go s e p) (bind-no _ _ h)

then-give : {A B : Type 0} (m : Reader A) (f : A → B) (s : List ℕ) (e p : ℕ) → (m >>= λ a. give (f a)) s e p ≡ and_then (m s e p) (λ a q. got (f a) q)
unfolding ◌>>=◌ give
then-give m f s e p = refl

pub payload-turn : (n : ℕ) (s : List ℕ) (e p : ℕ) {id p₁ p₂ : ℕ} {x : Found} → extended_value 5 s e p ≡ got id p₁ → (id ≡ 0 → ⊥)
    → payload_after p id s e p₁ ≡ got x p₂ → payloads (suc n) s e p ≡ and_then (payloads n s e p₂) (λ xs q. got (x ∷ xs) q)
unfolding payloads
payload-turn n s e p {id} h z k =
    bind-go _ _ (at-go s e p) (bind-go _ _ h (choose-that _ _ _ (ne→neqb id 0 z) (bind-go _ _ k (then-give (payloads n) _ s e _))))

pub payload-refused : (n : ℕ) (s : List ℕ) (e p : ℕ) {id p₁ q : ℕ} {why : EmdfError} → extended_value 5 s e p ≡ got id p₁ → (id ≡ 0 → ⊥)
    → payload_after p id s e p₁ ≡ refused why q → payloads (suc n) s e p ≡ refused why q
unfolding payloads
payload-refused n s e p {id} h z k = bind-go _ _ (at-go s e p) (bind-go _ _ h (choose-that _ _ _ (ne→neqb id 0 z) (bind-no _ _ k)))

-- ---- the bound on the payloads never shows

bind-cong : {A B : Type 0} (m : Reader A) (k k' : A → Reader B) (s : List ℕ) (e p : ℕ)
    → ((a : A) (q : ℕ) → m s e p ≡ got a q → k a s e q ≡ k' a s e q) → (m >>= k) s e p ≡ (m >>= k') s e p
unfolding ◌>>=◌ and_then
bind-cong m k k' s e p f = go (m s e p) f
  where
    go : (x : Read _) → ((a : _) (q : ℕ) → x ≡ got a q → k a s e q ≡ k' a s e q) → and_then x (λ a q. k a s e q) ≡ and_then x (λ a q. k' a s e q)
    go (got a q) g = g a q refl
    go (refused why q) g = refl

bind-eq : {A B : Type 0} (m m' : Reader A) (k : A → Reader B) (s : List ℕ) (e p : ℕ) → m s e p ≡ m' s e p → (m >>= k) s e p ≡ (m' >>= k) s e p
unfolding ◌>>=◌
bind-eq m m' k s e p h = ap (λ y. and_then y (λ a q. k a s e q)) h

choose-cong : {B : Type 0} (t : Bool) (x y y' : Reader B) (s : List ℕ) (e p : ℕ) → y s e p ≡ y' s e p → choose t x y s e p ≡ choose t x y' s e p
unfolding choose
choose-cong true x y y' s e p h = refl
choose-cong false x y y' s e p h = h

-- where no bits are left, the missing id is refused under every bound
none_left : (n : ℕ) (s : List ℕ) (e p : ℕ) → bit_limit s e - p ≡ 0 → payloads n s e p ≡ refused (Bit (EndOfInput 5 0)) p
unfolding payloads ask extended_value
none_left zero s e p z = bind-no _ _ refl
none_left (suc n) s e p z = refused-turn n s e p (bind-no _ _ (bits-short 5 s e p (lit≤ tt) (omega arith) ∙ rw z))

-- any two bounds that are at least the bits left give the same
pub payloads-enough : (n m : ℕ) (s : List ℕ) (e p : ℕ) → bit_limit s e - p ≤ n → bit_limit s e - p ≤ m → payloads n s e p ≡ payloads m s e p
unfolding payloads
payloads-enough zero m s e p h k = none_left zero s e p (omega arith) ∙ sym (none_left m s e p (omega arith))
payloads-enough (suc n) zero s e p h k = none_left (suc n) s e p (omega arith) ∙ sym (none_left zero s e p (omega arith))
payloads-enough (suc n) (suc m) s e p h k =
    bind-cong _ _ _ s e p λ p₀ p₁ h₁.
    bind-cong _ _ _ s e p₁ λ id p₂ h₂.
    choose-cong _ _ _ _ s e p₂
    (bind-cong _ _ _ s e p₂ λ x p₃ h₃.
    let l : p < p₃ = omega (arith, (at-inv h₁).to, id-moves s e h₂, after-moves p₀ id s e h₃) in
    bind-eq _ _ _ s e p₃ (payloads-enough n m s e p₃ (omega arith) (omega arith)))
