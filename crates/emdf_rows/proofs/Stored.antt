-- Laws of numbers stored in their byte form. Assumes nothing.
use mathlib.Core.Path.{◌≡◌, refl, sym, ap, ◌∙◌}
use mathlib.Core.List.{List, [], ◌∷◌, ◌++◌, append-nil, append_assoc}
use Prim.Native.Nat.{ℕ, suc, ◌+◌, ◌*◌, ◌<◌, ◌≤◌}
use native.Mathlib.Nat.{zero-add, div-one, le_refl}
use native.Mathlib.Numerals.{add-one}
use native.Mathlib.Omega.{arith}
use lib.ListN.{length, drop, get_or}
use lib.Seq.{sets, sets-eq, drop-cons, drop-drop, drop-length}
use mir.Syntax.{w64}
use borrow.Rule.Slice.PartMut.{put_mid}
use Rattle.std.specs.Int.{to_be_bytes}
use Rattle.emdf_format.proofs.Bytes.{sets-append}
use Rattle.emdf_answers.specs.Form.{big_endian, words}
use Rattle.emdf_answers.proofs.Form.{length-big-endian, length-words}

-- std's octets of a word
octets-of : (v : ℕ) → to_be_bytes w64 v ≡ big_endian 8 v
unfolding big_endian
octets-of v = rw div-one

-- a word's octets written over as many
pub octets-stored : {xs : List ℕ} {k : ℕ} (l : List ℕ) (at v : ℕ) → xs ≡ to_be_bytes w64 v → k ≡ 8 → at + 8 ≤ length l → put_mid at k l xs ≡ sets l at (big_endian 8 v)
octets-stored l at v e f h =
    let n : at + length (big_endian 8 v) ≤ length l = omega (arith, length-big-endian 8 v) in
    rw (e ∙ octets-of v, f, drop-drop, sets-eq (big_endian 8 v) l at n, length-big-endian, append_assoc)

-- a word stored, and the words after it
pub words-stored : (l : List ℕ) (i v : ℕ) (vs : List ℕ) → sets (sets l i (big_endian 8 v)) (i + 8) (words vs) ≡ sets l i (words (v ∷ vs))
unfolding words
words-stored l i v vs =
    ap (λ (n : ℕ). sets (sets l i (big_endian 8 v)) (i + n) (words vs)) (sym (length-big-endian 8 v)) ∙ sym (sets-append l i (big_endian 8 v) (words vs))

pub words-one : (v : ℕ) → words (v ∷ []) ≡ big_endian 8 v
unfolding words
words-one v = append-nil (big_endian 8 v)

words_append : (xs ys : List ℕ) → words (xs ++ ys) ≡ words xs ++ words ys
unfolding words
words_append [] ys = refl
words_append (x ∷ xs) ys = rw (words_append xs ys) (sym (append_assoc (big_endian 8 x) (words xs) (words ys)))

-- some words stored, and others after them
pub words-then : (l : List ℕ) (i : ℕ) (xs ys : List ℕ) {k : ℕ} → k ≡ i + 8 * length xs → sets (sets l i (words xs)) k (words ys) ≡ sets l i (words (xs ++ ys))
words-then l i xs ys e = rw (e, words_append, ← length-words xs) (sym (sets-append l i (words xs) (words ys)))

-- a list stored over one of its own length
stored-whole : (l xs : List ℕ) → length xs ≡ length l → sets l 0 xs ≡ xs
stored-whole l xs e = sets-eq xs l 0 (rw (zero-add, e) (le_refl _)) ∙ rw (zero-add, e, drop-length) (append-nil xs)

-- the i-th of some words stored, and none left
pub word-stored : (l : List ℕ) (at i : ℕ) (vs : List ℕ) → i < length vs
    → sets (sets l (at + 8 * i) (big_endian 8 (get_or vs i 0))) (at + 8 * (i + 1)) (words (drop (i + 1) vs)) ≡ sets l (at + 8 * i) (words (drop i vs))
word-stored l at i vs h =
    let a : at + 8 * (i + 1) ≡ at + 8 * i + 8 = omega arith in
    rw (a, add-one, drop-cons vs i 0) (words-stored l (at + 8 * i) (get_or vs i 0) (drop (suc i) vs))

pub words-done : (l : List ℕ) (at i : ℕ) (vs : List ℕ) → i ≡ length vs → sets l at (words (drop i vs)) ≡ l
unfolding words
words-done l at i vs e = rw (e, drop-length)

-- over the whole of a list
pub words-whole : (l vs : List ℕ) → 8 * length vs ≡ length l → sets l 0 (words vs) ≡ words vs
words-whole l vs e = stored-whole l (words vs) (length-words vs ∙ e)
