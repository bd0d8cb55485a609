-- Text put at an index, part by part. Assumes nothing.
use mathlib.Core.Path.{◌≡◌, refl, sym, ap, ◌∙◌}
use mathlib.Core.List.{List, [], ◌∷◌, ◌++◌, append-nil, append_assoc}
use Prim.Native.Nat.{ℕ, zero, suc, ◌+◌, ◌-◌, ◌≤◌, ◌<◌}
use mathlib.Core.Bool.{Bool, true, false, not}
use borrow.Author.Tests.{leb-true, leb-false}
use lib.Dec.{leb}
use native.Mathlib.Nat.{add-zero, zero-add, suc-add}
use native.Mathlib.Numerals.{add-one}
use native.Mathlib.Omega.{arith}
use lib.ListN.{length, get_or, set, take, drop, length-set, length-append}
use lib.Seq.{length-take-le, drop-length, drop-cons, take-suc-set, drop-nil, drop-set-lt}
use Rattle.emdf_text.specs.Counts.{IsPrefixLen}
use Rattle.emdf_text.specs.Lines.{decimal, spaced, Printed, PrintedWithin}

-- ---- what stands after the text

drop_more : (n m : ℕ) (l : List ℕ) → drop (n + m) l ≡ drop m (drop n l)
drop_more zero m l = rw zero-add
drop_more (suc n) m [] = drop-nil (suc n + m) ∙ sym (drop-nil m)
drop_more (suc n) m (x ∷ xs) = rw suc-add (drop_more n m xs)

later : (n k : ℕ) (a b : List ℕ) → drop n a ≡ drop n b → n ≤ k → drop k a ≡ drop k b
later n k a b h l =
    let z : k ≡ n + (k - n) = omega arith in
    rw z (drop_more n (k - n) a ∙ ap (drop (k - n)) h ∙ sym (drop_more n (k - n) b))

-- ---- a byte

pub one_byte : (before : List ℕ) (at b : ℕ) → at < length before → Printed before at (b ∷ []) (set before at b) (at + 1)
one_byte before at b h = record { is = rw add-one (take-suc-set before at b h); rest = drop-set-lt (at + 1) before at b (omega arith); size = refl; inside = rw length-set (omega arith) }

-- ---- parts

pub nothing : (before : List ℕ) (at : ℕ) → at ≤ length before → Printed before at [] before at
nothing before at h = record { is = sym (append-nil _); rest = refl; size = rw add-zero; inside = h }

-- a text, and another one after it
pub both : {before middle after first second : List ℕ} {at mid end : ℕ} → Printed before at first middle mid → Printed middle mid second after end → Printed before at (first ++ second) after end
both {before} {middle} {after} {first} {second} {at} {mid} {end} p q =
    record {
      is = q.is ∙ ap (λ (x : List ℕ). x ++ second) p.is ∙ append_assoc (take at before) first second;
      rest = q.rest ∙ later mid end middle before p.rest (omega (arith, q.size));
      size = rw length-append (omega (arith, p.size, q.size));
      inside = q.inside;
    }

pub put_as : {before text text' after : List ℕ} {at end : ℕ} → Printed before at text after end → text ≡ text' → Printed before at text' after end
put_as p e = rw e at p

-- at the start
pub whole : {before text after : List ℕ} {end : ℕ} → Printed before 0 text after end → (take end after ≡ text) × IsPrefixLen end after
whole {before} {text} {after} {end} p = (p.is, (p.inside, sym (length-take-le end after p.inside)))

-- ---- room

pub has-put : {before text after : List ℕ} {at end most : ℕ} → at + most ≤ length before → Printed before at text after end → end ≤ at + most → PrintedWithin most before at text after end
has-put h p l = record { put = λ r. (p, l); left = λ r. absurd (omega arith) }

pub left_out : {before text : List ℕ} {at most : ℕ} → length before < at + most → PrintedWithin most before at text before at
left_out h = record { put = λ r. absurd (omega arith); left = λ r. (refl, refl) }

module _ {t : Bool} (need size : ℕ) (e : t ≡ leb need size) where
  pub room : not t ≡ false → need ≤ size
  room h = go t h e
    where
      go : (t : Bool) → not t ≡ false → t ≡ leb need size → need ≤ size
      go true h e = leb-true need size (sym e)
      go false h e = absurd (let z : ◌≡◌ {A = ℕ} 0 1 = cc in omega arith)

  pub no_room : not t ≡ true → size < need
  no_room h = go t h e
    where
      go : (t : Bool) → not t ≡ true → t ≡ leb need size → size < need
      go true h e = absurd (let z : ◌≡◌ {A = ℕ} 0 1 = cc in omega arith)
      go false h e = leb-false need size (sym e)

-- where the rest is put at index mid, the whole text stands at index at
abbrev pub Leaves : List ℕ → ℕ → List ℕ → List ℕ → ℕ → List ℕ → Type 0
Leaves before at text middle mid rest = (after : List ℕ) (end : ℕ) → Printed middle mid rest after end → Printed before at text after end

pub leaves-less : {before text middle next first rest : List ℕ} {at mid end : ℕ} → Leaves before at text middle mid (first ++ rest) → Printed middle mid first next end → Leaves before at text next end rest
leaves-less f p after end q = f after end (both p q)

-- ---- numbers after a word

pub more_numbers : (ns : List ℕ) (i : ℕ) → i < length ns → spaced (drop i ns) ≡ (32 ∷ decimal (get_or ns i 0)) ++ spaced (drop (i + 1) ns)
unfolding spaced
more_numbers ns i h = rw (add-one, drop-cons ns i 0 h)

pub no-numbers : (ns : List ℕ) (i : ℕ) → i ≡ length ns → spaced (drop i ns) ≡ 10 ∷ []
unfolding spaced
no-numbers ns i e = rw (e, drop-length)
