-- Bits that stand in bytes, and what each reader is proved by: it finds exactly what a writer writes. Assumes nothing.
use mathlib.Core.Path.{◌≡◌, refl, sym, ap, ◌∙◌, subst}
use mathlib.Core.Bool.{Bool, true, false, not}
use mathlib.Core.List.{List, [], ◌∷◌}
use Prim.Native.Nat.{ℕ, zero, suc, ◌+◌, ◌-◌, ◌*◌, ◌/◌, ◌%◌, ◌^◌, ◌≤◌, ◌<◌}
use native.Mathlib.Omega.{arith}
use native.Mathlib.Nat.{mod-lt, div-lt_iff_lt-mul, add-zero, add-suc, suc-add}
use lib.ListN.{length, length-append}
use lib.Dec.{T, leb, ltb, eqb, leb→le, ltb→lt, lt→ltb, T_not, not_T, eqb_refl, eqb→eq}
use lib.Pow.{high, pow_pos}
use lib.Pow.{split as pow-split}
use borrow.Author.Tests.{le-leb}
use Rattle.std.specs.Prelude.{if◌then◌else◌, Result, Ok, Err}
use Rattle.openjoc_bitio.specs.Bits.{bit_at, bits_value, number_bits}
use Rattle.openjoc_bitio.specs.Cursor.{bit_length, bits_remaining, read_bits}
use Rattle.openjoc_bitio.specs.declared.BitCursor.{BitCursor}
use Rattle.openjoc_bitio.specs.declared.BitError.{BitError}
use Rattle.openjoc_bitio.specs.declared.BitError.TheVariants.{InvalidWidth, EndOfInput}
use Rattle.openjoc_bitio.proofs.Bits.{bit-range, value_none, value-first, value-range, number-high, number-low}
use Rattle.emdf_format.specs.declared.EmdfError.{EmdfError}
use Rattle.emdf_format.specs.Syntax.{◌⨟◌}
use Rattle.emdf_format.specs.Contents.{◌&◌}
use Rattle.emdf_format.specs.Reader.{Read, got, refused, Reader, and_then, ◌>>=◌, give, ask, choose, cursor_at, from_bits, bits}

-- ---- tests as facts

pub T_of : {t : Bool} → t ≡ true → T t
T_of h = rw h tt

pub T-not-of : {t : Bool} → t ≡ false → T (not t)
T-not-of h = rw h tt

pub is_true : (t : Bool) → T t → t ≡ true
is_true true h = refl
is_true false h = absurd h

pub is_false : (t : Bool) → T (not t) → t ≡ false
is_false true h = absurd h
is_false false h = refl

-- an answer r to a test p, asked the other way round
pub fails : {r p : Bool} → not r ≡ true → r ≡ p → p ≡ false
fails {r = true} h k = absurd (let w : ◌≡◌ {A = ℕ} 0 1 = cc in omega arith)
fails {r = false} h k = sym k

pub holds : {r p : Bool} → not r ≡ false → r ≡ p → p ≡ true
holds {r = true} h k = sym k
holds {r = false} h k = absurd (let w : ◌≡◌ {A = ℕ} 0 1 = cc in omega arith)

pub if_yes : {A : Type 0} (t : Bool) (x y : A) → T t → (if t then x else y) ≡ x
if_yes true x y h = refl
if_yes false x y h = absurd h

pub if_no : {A : Type 0} (t : Bool) (x y : A) → T (not t) → (if t then x else y) ≡ y
if_no true x y h = absurd h
if_no false x y h = refl

pub neqb→ne : (a b : ℕ) → T (not (eqb a b)) → a ≡ b → ⊥
neqb→ne a b t e = T_not (eqb a b) t (subst (λ (x : ℕ). T (eqb a x)) e (eqb_refl a))

pub ne→neqb : (a b : ℕ) → (a ≡ b → ⊥) → T (not (eqb a b))
ne→neqb a b f = not_T (eqb a b) (λ t. f (eqb→eq a b t))

pub record Both (a b : Bool) : Type 0 where
  pub left : T a
  pub right : T b

pub both : {a b : Bool} → T (a & b) → Both a b
unfolding ◌&◌
both {a = true} h = record { left = tt; right = h }
both {a = false} h = absurd h

-- the same, for a goal X
pub fits : {a b : Bool} {X : Type 0} → Both a b → (T a → T b → X) → X
fits d g = g d.left d.right

pub and : (a b : Bool) → T a → T b → T (a & b)
unfolding ◌&◌
and true b h k = k
and false b h k = absurd h

-- ---- bits that stand

-- the end, where it lies in the bytes
unfoldable pub bit_limit : List ℕ → ℕ → ℕ
bit_limit s e = if leb e (bit_length s) then e else 0

pub remaining-limit : (s : List ℕ) (e p : ℕ) → bits_remaining s (cursor_at e p) ≡ bit_limit s e - p
unfolding bits_remaining bit_limit
remaining-limit s e p = go (leb e (bit_length s))
  where
    go : (t : Bool) → (if t then e - p else 0) ≡ (if t then e else 0) - p
    go true = refl
    go false = omega arith

-- from position p to position q, below the end, stand the bits bs
pub data Stands (s : List ℕ) (e : ℕ) : ℕ → ℕ → List ℕ → Type 0 where
  nil : {p : ℕ} → Stands s e p p []
  cons : {p q b : ℕ} {bs : List ℕ} → p < bit_limit s e → bit_at s p ≡ b → Stands s e (suc p) q bs → Stands s e p q (b ∷ bs)

pub join : {s : List ℕ} {e p q r : ℕ} {xs ys : List ℕ} → Stands s e p q xs → Stands s e q r ys → Stands s e p r (xs ⨟ ys)
unfolding ◌⨟◌
join nil k = k
join (cons l b h) k = cons l b (join h k)

pub parted : {s : List ℕ} {e p r : ℕ} (xs ys : List ℕ) → Stands s e p r (xs ⨟ ys) → (q : ℕ) × Stands s e p q xs × Stands s e q r ys
unfolding ◌⨟◌
parted {p} [] ys h = (p, nil, h)
parted (x ∷ xs) ys (cons l b h) = let (q, a, c) = parted xs ys h in (q, cons l b a, c)

-- the same, for a goal X
pub part : {s : List ℕ} {e p r : ℕ} (xs ys : List ℕ) {X : Type 0} → Stands s e p r (xs ⨟ ys)
    → ((q : ℕ) → Stands s e p q xs → Stands s e q r ys → X) → X
part xs ys h g = let d = parted xs ys h in g d.0 d.1 d.2

pub length-then : (xs ys : List ℕ) → length (xs ⨟ ys) ≡ length xs + length ys
unfolding ◌⨟◌
length-then xs ys = length-append xs ys

pub stands-to : {s : List ℕ} {e p q : ℕ} {bs : List ℕ} → Stands s e p q bs → p + length bs ≡ q
stands-to nil = omega arith
stands-to (cons l b h) = omega (arith, stands-to h)

pub stands-in : {s : List ℕ} {e p q : ℕ} {bs : List ℕ} → Stands s e p q bs → 0 < length bs → q ≤ bit_limit s e
stands-in nil h = absurd (omega arith)
stands-in (cons {bs = []} l b nil) h = omega arith
stands-in (cons {bs = x ∷ xs} l b t) h = stands-in t (omega arith)

pub stands-within : {s : List ℕ} {e p q : ℕ} {bs : List ℕ} → Stands s e p q bs → p ≤ bit_limit s e → q ≤ bit_limit s e
stands-within nil h = h
stands-within (cons l b t) h = stands-within t l

-- ---- numbers of w bits

pub number-stands : (s : List ℕ) (e p w : ℕ) → w ≤ bit_limit s e - p → Stands s e p (p + w) (number_bits w (bits_value s p w))
unfolding number_bits
number-stands s e p zero h = rw add-zero nil
number-stands s e p (suc w) h =
    let v = value-first s p w in
    let t : Stands s e (suc p) (p + suc w) (number_bits w (bit_at s p * 2 ^ w + bits_value s (suc p) w)) =
    rw (let z : number_bits w (bit_at s p * 2 ^ w + bits_value s (suc p) w) ≡ number_bits w (bits_value s (suc p) w) = rw add-zero at (number-high w 0 (bit_at s p) (bits_value s (suc p) w)) in z, add-suc p w, ← suc-add p w) (number-stands s e (suc p) w (omega arith)) in
    let l : p < bit_limit s e = omega arith in
    let b : bit_at s p ≡ (bit_at s p * 2 ^ w + bits_value s (suc p) w) / 2 ^ w % 2 =
    rw (high (bit_at s p) w (value-range s (suc p) w)) (omega (arith, bit-range s p)) in
    rw v (cons l b t)

pub record Numbered (s : List ℕ) (e p q w v : ℕ) : Type 0 where
  pub room : w ≤ bit_limit s e - p
  pub is : bits_value s p w ≡ v
  pub to : p + w ≡ q

pub number_read : {s : List ℕ} {e p q : ℕ} (w v : ℕ) → v < 2 ^ w → Stands s e p q (number_bits w v) → Numbered s e p q w v
unfolding number_bits
number_read zero v l nil = record { room = omega arith; is = rw value_none (omega arith); to = omega arith }
number_read {s} {e} {p} (suc w) v l (cons k b h) =
    let r = number_read w (v % 2 ^ w) (mod-lt v (pow_pos w)) (rw (← number-low w v) at h) in
    let d : v / 2 ^ w < 2 = (div-lt_iff_lt-mul (pow_pos w)).1 (omega arith) in
    let b' : bit_at s p ≡ v / 2 ^ w = omega arith in
    record { room = omega (arith, r.room); is = rw (value-first, b', r.is) (pow-split v w); to = omega (arith, r.to) }

-- ---- readers, taken apart

pub record Bound {A B : Type 0} (m : Reader A) (k : A → Reader B) (s : List ℕ) (e p : ℕ) (b : B) (r : ℕ) : Type 0 where
  pub what : A
  pub to : ℕ
  pub first : m s e p ≡ got what to
  pub rest : k what s e to ≡ got b r

pub bind_inv : {A B : Type 0} {m : Reader A} {k : A → Reader B} {s : List ℕ} {e p : ℕ} {b : B} {r : ℕ} → (m >>= k) s e p ≡ got b r → Bound m k s e p b r
unfolding ◌>>=◌ and_then
bind_inv {m = m} {k = k} {s = s} {e = e} {p = p} {b = b} {r = r} h = go (m s e p) refl h
  where
    go : (x : Read _) → m s e p ≡ x → and_then x (λ a q. k a s e q) ≡ got b r → Bound m k s e p b r
    go (got a q) f t = record { what = a; to = q; first = f; rest = t }
    go (refused why q) f t = absurd (let z : ◌≡◌ {A = ℕ} 0 1 = cc in omega arith)

pub bind-go : {A B : Type 0} (m : Reader A) (k : A → Reader B) {s : List ℕ} {e p q : ℕ} {a : A} {x : Read B} → m s e p ≡ got a q → k a s e q ≡ x → (m >>= k) s e p ≡ x
unfolding ◌>>=◌ and_then
bind-go m k {s} {e} {p} {q} {a} f t = ap (λ y. and_then y (λ a q. k a s e q)) f ∙ t

pub bind-no : {A B : Type 0} (m : Reader A) (k : A → Reader B) {s : List ℕ} {e p q : ℕ} {why : EmdfError} → m s e p ≡ refused why q → (m >>= k) s e p ≡ refused why q
unfolding ◌>>=◌ and_then
bind-no m k {s} {e} f = ap (λ y. and_then y (λ a q. k a s e q)) f

pub never : {X : Type 0} {A : Type 0} {why : EmdfError} {q r : ℕ} {a : A} → refused why q ≡ got a r → X
never h = absurd (let z : ◌≡◌ {A = ℕ} 0 1 = cc in omega arith)

pub same-what : {A : Type 0} {a b : A} {p q : ℕ} → got a p ≡ got b q → a ≡ b
same-what h = cc

pub same-to : {A : Type 0} {a b : A} {p q : ℕ} → got a p ≡ got b q → p ≡ q
same-to h = cc

-- ---- readers that are equal

pub bind_assoc : {A B C : Type 0} (m : Reader A) (k : A → Reader B) (f : B → Reader C) (s : List ℕ) (e p : ℕ)
    → ((m >>= k) >>= f) s e p ≡ (m >>= λ a. k a >>= f) s e p
unfolding ◌>>=◌ and_then
bind_assoc m k f s e p = go (m s e p)
  where
    go : (x : Read _) → and_then (and_then x (λ a q. k a s e q)) (λ b q. f b s e q) ≡ and_then x (λ a q. and_then (k a s e q) (λ b q. f b s e q))
    go (got a q) = refl
    go (refused why q) = refl

pub bind-same : {A B : Type 0} (m : Reader A) (k k' : A → Reader B) (s : List ℕ) (e p : ℕ)
    → ((a : A) (q : ℕ) → k a s e q ≡ k' a s e q) → (m >>= k) s e p ≡ (m >>= k') s e p
unfolding ◌>>=◌ and_then
bind-same m k k' s e p h = go (m s e p)
  where
    go : (x : Read _) → and_then x (λ a q. k a s e q) ≡ and_then x (λ a q. k' a s e q)
    go (got a q) = h a q
    go (refused why q) = refl

pub choose-bind : {A B : Type 0} (t : Bool) (x y : Reader A) (f : A → Reader B) (s : List ℕ) (e p : ℕ)
    → (choose t x y >>= f) s e p ≡ choose t (x >>= f) (y >>= f) s e p
unfolding choose
choose-bind true x y f s e p = refl
choose-bind false x y f s e p = refl

pub choose-same : {A : Type 0} (t : Bool) (x x' y y' : Reader A) (s : List ℕ) (e p : ℕ)
    → x s e p ≡ x' s e p → y s e p ≡ y' s e p → choose t x y s e p ≡ choose t x' y' s e p
unfolding choose
choose-same true x x' y y' s e p h k = h
choose-same false x x' y y' s e p h k = k

pub give-bind : {A B : Type 0} (a : A) (f : A → Reader B) (s : List ℕ) (e p : ℕ) → (give a >>= f) s e p ≡ f a s e p
unfolding ◌>>=◌ and_then give
give-bind a f s e p = refl

-- What a reader finds is what the writer writes, and fits; and it finds whatever fits and is written there.
pub record Codec {A : Type 0} (r : Reader A) (wr : A → List ℕ) (fit : A → Bool) : Type 0 where
  pub sound : {s : List ℕ} {e p q : ℕ} {a : A} → r s e p ≡ got a q → Stands s e p q (wr a) × T (fit a)
  pub exact : {s : List ℕ} {e p q : ℕ} {a : A} → T (fit a) → Stands s e p q (wr a) → r s e p ≡ got a q

-- the next field, for a goal X: by its codec, or as it is
pub step : {A B : Type 0} {m : Reader A} {k : A → Reader B} {s : List ℕ} {e p : ℕ} {b : B} {r : ℕ} {X : Type 0} {wr : A → List ℕ} {fit : A → Bool}
    → Codec m wr fit → Bound m k s e p b r → ((a : A) (q : ℕ) → Stands s e p q (wr a) → T (fit a) → k a s e q ≡ got b r → X) → X
step c f g = let d = c.sound f.first in g f.what f.to d.0 d.1 f.rest

pub taken : {A B : Type 0} {m : Reader A} {k : A → Reader B} {s : List ℕ} {e p : ℕ} {b : B} {r : ℕ} {X : Type 0}
    → Bound m k s e p b r → ((a : A) (q : ℕ) → m s e p ≡ got a q → k a s e q ≡ got b r → X) → X
taken f g = g f.what f.to f.first f.rest

-- a question
pub record Answered {B : Type 0} (t : Bool) (why : EmdfError) (k : Unit {0} → Reader B) (s : List ℕ) (e p : ℕ) (b : B) (r : ℕ) : Type 0 where
  pub yes : T t
  pub rest : k tt s e p ≡ got b r

pub ask-inv : {B : Type 0} {t : Bool} {why : EmdfError} {k : Unit {0} → Reader B} {s : List ℕ} {e p r : ℕ} {b : B}
    → (ask t why >>= k) s e p ≡ got b r → Answered t why k s e p b r
unfolding ◌>>=◌ and_then ask
ask-inv {t = true} h = record { yes = tt; rest = h }
ask-inv {t = false} h = never h

pub asked : {B : Type 0} {t : Bool} {why : EmdfError} {k : Unit {0} → Reader B} {s : List ℕ} {e p : ℕ} {b : B} {r : ℕ} {X : Type 0}
    → Answered t why k s e p b r → (T t → k tt s e p ≡ got b r → X) → X
asked f g = g f.yes f.rest

pub ask-go : {B : Type 0} (t : Bool) (why : EmdfError) (k : Unit {0} → Reader B) {s : List ℕ} {e p : ℕ} {x : Read B} → T t → k tt s e p ≡ x → (ask t why >>= k) s e p ≡ x
unfolding ◌>>=◌ and_then ask
ask-go true why k h f = f
ask-go false why k h f = absurd h

pub ask-refuses : {B : Type 0} (t : Bool) (why : EmdfError) (k : Unit {0} → Reader B) (s : List ℕ) (e p : ℕ) → T (not t) → (ask t why >>= k) s e p ≡ refused why p
unfolding ◌>>=◌ and_then ask
ask-refuses true why k s e p h = absurd h
ask-refuses false why k s e p h = refl

-- a question at the end
pub record Asked (t : Bool) (why : EmdfError) (s : List ℕ) (e p q : ℕ) : Type 0 where
  pub yes : T t
  pub to : p ≡ q

pub ask-end : {t : Bool} {why : EmdfError} {s : List ℕ} {e p q : ℕ} {u : Unit {0}} → ask t why s e p ≡ got u q → Asked t why s e p q
unfolding ask
ask-end {t = true} h = record { yes = tt; to = same-to h }
ask-end {t = false} h = never h

pub ask-fine : (t : Bool) (why : EmdfError) (s : List ℕ) (e : ℕ) {p q : ℕ} → T t → p ≡ q → ask t why s e p ≡ got tt q
unfolding ask
ask-fine true why s e h k = rw k
ask-fine false why s e h k = absurd h

-- a branch
pub data Chosen {B : Type 0} (t : Bool) (x y : Reader B) (s : List ℕ) (e p : ℕ) (b : B) (r : ℕ) : Type 0 where
  this : T t → x s e p ≡ got b r → Chosen t x y s e p b r
  that : T (not t) → y s e p ≡ got b r → Chosen t x y s e p b r

pub choose-inv : {B : Type 0} {t : Bool} {x y : Reader B} {s : List ℕ} {e p r : ℕ} {b : B} → choose t x y s e p ≡ got b r → Chosen t x y s e p b r
unfolding choose
choose-inv {t = true} h = this tt h
choose-inv {t = false} h = that tt h

pub chosen : {B : Type 0} {t : Bool} {x y : Reader B} {s : List ℕ} {e p r : ℕ} {b : B} {X : Type 0}
    → Chosen t x y s e p b r → (T t → x s e p ≡ got b r → X) → (T (not t) → y s e p ≡ got b r → X) → X
chosen (this t h) f g = f t h
chosen (that t h) f g = g t h

pub choose-this : {B : Type 0} (t : Bool) (x y : Reader B) {s : List ℕ} {e p : ℕ} {z : Read B} → T t → x s e p ≡ z → choose t x y s e p ≡ z
unfolding choose
choose-this true x y h f = f
choose-this false x y h f = absurd h

pub choose-that : {B : Type 0} (t : Bool) (x y : Reader B) {s : List ℕ} {e p : ℕ} {z : Read B} → T (not t) → y s e p ≡ z → choose t x y s e p ≡ z
unfolding choose
choose-that true x y h f = absurd h
choose-that false x y h f = f

-- what is given
pub record Given {A : Type 0} (a : A) (s : List ℕ) (e p : ℕ) (b : A) (q : ℕ) : Type 0 where
  pub what : a ≡ b
  pub to : p ≡ q

pub give-inv : {A : Type 0} {a b : A} {s : List ℕ} {e p q : ℕ} → give a s e p ≡ got b q → Given a s e p b q
unfolding give
give-inv h = record { what = same-what h; to = same-to h }

pub give-go : {A : Type 0} {a b : A} (s : List ℕ) (e : ℕ) {p q : ℕ} → a ≡ b → p ≡ q → give a s e p ≡ got b q
unfolding give
give-go s e h k = rw (h, k)

-- ---- the read of w bits

bits-sound : (w : ℕ) {s : List ℕ} {e p q a : ℕ} → bits w s e p ≡ got a q → Stands s e p q (number_bits w a) × T (ltb a (2 ^ w))
unfolding bits from_bits read_bits
bits-sound w {s} {e} {p} {q} {a} h = go (leb w 64) (leb w (bits_remaining s (cursor_at e p))) refl h
  where
    go : (t u : Bool) → leb w (bits_remaining s (cursor_at e p)) ≡ u
        → from_bits p (if◌then◌else◌ {A = Result (ℕ × BitCursor) BitError} t (if u then Ok (bits_value s p w, cursor_at e (p + w)) else Err (EndOfInput w (bits_remaining s (cursor_at e p)))) (Err (InvalidWidth w))) ≡ got a q
        → Stands s e p q (number_bits w a) × T (ltb a (2 ^ w))
    go true true l f =
        let k : w ≤ bit_limit s e - p = rw remaining-limit at (leb→le w (bits_remaining s (cursor_at e p)) (T_of l)) in
        rw (← same-what f, ← same-to f) (number-stands s e p w k, lt→ltb (bits_value s p w) (2 ^ w) (value-range s p w))
    go true false l f = never f
    go false u l f = never f

bits-exact : (w : ℕ) {s : List ℕ} {e p q a : ℕ} → w ≤ 64 → T (ltb a (2 ^ w)) → Stands s e p q (number_bits w a) → bits w s e p ≡ got a q
unfolding bits from_bits read_bits
bits-exact w {s} {e} {p} {q} {a} h l k =
    let n = number_read w a (ltb→lt a (2 ^ w) l) k in
    let r : w ≤ bits_remaining s (cursor_at e p) = rw remaining-limit n.room in
    simp (le-leb w 64 h, le-leb w (bits_remaining s (cursor_at e p)) r, n.is, n.to)

pub bits-law : (w : ℕ) → w ≤ 64 → Codec (bits w) (number_bits w) (λ v. ltb v (2 ^ w))
bits-law w h = record { sound = bits-sound w; exact = λ t k. bits-exact w h t k }

-- ---- one bit

pub bit-zero : (m : ℕ) {s : List ℕ} {e p q : ℕ} → Stands s e p q (number_bits 1 m) → T (eqb m 0) → Stands s e p q (0 ∷ [])
unfolding number_bits
bit-zero m {s} {e} {p} {q} h t = subst (λ (n : ℕ). Stands s e p q (number_bits 1 n)) (eqb→eq m 0 t) h

pub bit-one : (m : ℕ) {s : List ℕ} {e p q : ℕ} → Stands s e p q (number_bits 1 m) → m ≡ 1 → Stands s e p q (1 ∷ [])
unfolding number_bits
bit-one m {s} {e} {p} {q} h t = subst (λ (n : ℕ). Stands s e p q (number_bits 1 n)) t h
