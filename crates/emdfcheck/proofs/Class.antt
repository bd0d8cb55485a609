-- The class of bytes, by whether a carrier opens at their start. Assumes nothing.
use mathlib.Core.Path.{◌≡◌, refl, sym, ap, ◌∙◌}
use mathlib.Core.Bool.{Bool, true, false}
use mathlib.Core.List.{List, [], ◌∷◌, ◌++◌}
use Prim.Native.Nat.{ℕ, ◌+◌, ◌*◌, ◌≤◌, ◌<◌}
use native.Mathlib.Decide.{dec_lt}
use native.Mathlib.Omega.{arith}
use lib.ListN.{length}
use lib.Dec.{leb, eqb}
use borrow.Author.Tests.{le-leb, lt-leb, eq-eqb, ne_eqb, eqb-false}
use Rattle.std.specs.Prelude.{if◌then◌else◌, Result, Ok, Err}
use Rattle.openjoc_bitio.specs.declared.BitCursor.{BitCursor}
use Rattle.openjoc_bitio.specs.Bits.{bits_value}
use Rattle.openjoc_bitio.proofs.Results.{both-same}
use Rattle.emdf_format.specs.Contents.{◌&◌}
use Rattle.emdf_format.specs.Reading.{Container, Reading, accepted, refusal, reading}
use Rattle.emdf_format.specs.Refusals.{refusal_of, figures_of}
use Rattle.emdf_format.specs.Calls.{Class, non_emdf, malformed, class_of, classify}
use Rattle.emdf_format.specs.declared.EmdfError.{EmdfError}
use Rattle.openjoc_emdf.specs.Answers.{parsed_emdf, parse_answer, first_payload, open_answer, class_answer}
use Rattle.emdf_container.specs.Container.{container_of}
use Rattle.openjoc_emdf.specs.declared.ParsedEmdf.{ParsedEmdf}
use Rattle.openjoc_emdf.proofs.Header.{too_short, no-sync}
use Rattle.emdf_text.specs.Lines.{ascii, line}
use Rattle.emdfcheck.specs.Output.{record_lines, parsed_lines, class_lines, output}
use Rattle.emdfcheck.specs.Parts.{is_non_emdf, records_in, Printable}

-- ---- refused: no carrier, or a malformed one

module _ (s : List ℕ) {why : EmdfError} (h : reading s ≡ refusal why) where
  refused-class : (P : Class → Type 0) → P non_emdf → P (malformed why) → P (classify s)
  unfolding classify class_of
  refused-class P a b = rw h (go (leb 2 (length s) & eqb (bits_value s 0 16) 0x5838))
    where
      go : (t : Bool) → P (if t then malformed why else non_emdf)
      go true = b
      go false = a

  pub non-emdf : true ≡ is_non_emdf (class_answer (classify s)) → line (ascii "nonemdf") [] ≡ class_lines (classify s)
  unfolding class_answer class_lines
  non-emdf = refused-class (λ c. true ≡ is_non_emdf (class_answer c) → line (ascii "nonemdf") [] ≡ class_lines c) (λ e. refl) (λ e. absurd (let z : ◌≡◌ {A = ℕ} 0 1 = cc in omega arith))

  pub is-malformed : false ≡ is_non_emdf (class_answer (classify s)) → line (ascii "malformed") ((figures_of (refusal_of why)).number ∷ []) ≡ class_lines (classify s)
  unfolding class_answer class_lines
  is-malformed = refused-class (λ c. false ≡ is_non_emdf (class_answer c) → line (ascii "malformed") ((figures_of (refusal_of why)).number ∷ []) ≡ class_lines c) (λ e. absurd (let z : ◌≡◌ {A = ℕ} 0 1 = cc in omega arith)) (λ e. refl)

-- ---- accepted: a carrier, and what follows it

module _ (s : List ℕ) (n : ℕ) (c : Container) (h : reading s ≡ accepted n c) where
  never : {why : EmdfError} → Err why ≡ parse_answer (reading s) → ⊥
  unfolding parse_answer
  never e = let z : ◌≡◌ {A = ℕ} 0 1 = cc (rw h at e) in omega arith

  four : 4 ≤ length s
  four = elim (dec_lt (length s) 4) [ yes l ↦ absurd (never (too_short s l)) | no l ↦ omega arith ]

  sync : eqb (bits_value s 0 16) 0x5838 ≡ true
  sync = go (eqb (bits_value s 0 16) 0x5838) refl
    where
      go : (t : Bool) → eqb (bits_value s 0 16) 0x5838 ≡ t → t ≡ true
      go true e = refl
      go false e = absurd (never (no-sync s four refl (eqb-false _ _ e)))

  accepted-class : classify s ≡ class_of (accepted n c) (length s)
  unfolding classify ◌&◌
  accepted-class = simp (le-leb 2 (length s) (omega (arith, four)), sync, h)

record Opens (s : List ℕ) (x : Reading) (p : ParsedEmdf) (first : BitCursor) : Type 0 where
  pub container : Container
  pub is : x ≡ accepted p.bytes_consumed.0 container
  pub parsed : parsed_emdf p.bytes_consumed.0 container ≡ p
  pub start : first ≡ first_payload p.bytes_consumed.0 s

opens : (s : List ℕ) (x : Reading) {p : ParsedEmdf} {first : BitCursor} → open_answer s x ≡ Ok (p, first) → Opens s x p first
unfolding open_answer
opens s (accepted n c) {p} {first} h =
    let e = both-same h in
    record { container = c; is = rw (← e.0); parsed = rw (← e.0); start = rw (← e.0) (sym e.1) }
opens s (refusal why) h = absurd (let z : ◌≡◌ {A = ℕ} 0 1 = cc in omega arith)

module _ (s : List ℕ) (p : ParsedEmdf) (first : BitCursor) (h : open_answer s (reading s) ≡ Ok (p, first)) where
  abbrev n : ℕ
  n = p.bytes_consumed.0

  abbrev count : ℕ
  count = p.container.payloads

  o : Opens s (reading s) p first
  o = opens s (reading s) h

  class-is : classify s ≡ class_of (accepted n o.container) (length s)
  class-is = accepted-class s n o.container o.is

  counted : length o.container.found ≡ count
  unfolding container_of
  counted = ap (λ (q : ParsedEmdf). q.container.payloads) o.parsed

  pub trailing : (n ≡ length s → ⊥) → line (ascii "trailing") (n ∷ length s ∷ []) ≡ class_lines (classify s)
  unfolding class_of class_lines
  trailing f = rw class-is (simp (ne_eqb n (length s) f))

  pub over-table : n ≡ length s → 512 < count → line (ascii "table") (13 ∷ count ∷ []) ≡ class_lines (classify s)
  unfolding class_of class_lines parsed_lines
  over-table e f = rw class-is (simp (eq-eqb n (length s) e, counted, lt-leb count 512 f))

  pub parsed-all : n ≡ length s → count ≤ 512
      → line (ascii "parsed") (n ∷ p.container.key_id ∷ count ∷ []) ++ record_lines (records_in (reading s)) ≡ class_lines (classify s)
  unfolding class_of class_lines parsed_lines records_in container_of
  parsed-all e f =
      let k : o.container.key-id ≡ p.container.key_id = ap (λ (q : ParsedEmdf). q.container.key_id) o.parsed in
      rw (class-is, o.is) (simp (eq-eqb n (length s) e, counted, le-leb count 512 f, k))

  pub opened : n ≡ length s → {at size : ℕ} → at + 126 * count ≤ size → Printable s first at size
  opened e f = record { container = o.container; is = rw (← e) o.is; start = rw (← e) o.start; fit = rw counted f }

-- ---- all that is printed

module _ (s : List ℕ) where
  pub too_long : 65536 < length s → line (ascii "toolong") [] ≡ output s
  unfolding output
  too_long h = simp (lt-leb (length s) 65536 h)

  pub in-limit : length s ≤ 65536 → class_lines (classify s) ≡ output s
  unfolding output
  in-limit h = simp (le-leb (length s) 65536 h)

  pub read-refused : {a : Result (ParsedEmdf × BitCursor) EmdfError} {why : EmdfError} → a ≡ open_answer s (reading s) → a ≡ Err why → reading s ≡ refusal why
  unfolding open_answer
  read-refused {a} {why} h e = go (reading s) (sym h ∙ e)
    where
      go : (x : Reading) → open_answer s x ≡ Err why → x ≡ refusal why
      go (accepted n c) h = absurd (let z : ◌≡◌ {A = ℕ} 0 1 = cc in omega arith)
      go (refusal w) h = let z : w ≡ why = cc in rw z
