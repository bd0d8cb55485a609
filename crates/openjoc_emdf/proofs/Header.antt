-- The header of a carrier, question by question, and the class of a carrier. Assumes nothing.
use mathlib.Core.Path.{◌≡◌, sym, ap, ◌∙◌}
use mathlib.Core.List.{List}
use Prim.Native.Nat.{ℕ, ◌+◌, ◌-◌, ◌*◌, ◌^◌, ◌≤◌, ◌<◌}
use native.Mathlib.Omega.{arith}
use lib.ListN.{length, get_or, take}
use borrow.Author.Tests.{lt-ltb, le-ltb, le-leb, lt-leb, eq-eqb, ne_eqb}
use Rattle.std.specs.Prelude.{Result, Ok, Err}
use Rattle.openjoc_bitio.specs.Bits.{bits_value}
use Rattle.openjoc_bitio.proofs.Bits.{value-split}
use Rattle.openjoc_bitio.proofs.Results.{ok-same, err-same, ok-is-not-err, err-is-not-ok}
use Rattle.emdf_format.specs.declared.EmdfError.{EmdfError}
use Rattle.emdf_format.specs.Contents.{◌&◌}
use Rattle.emdf_format.specs.Reader.{Read, got, refused}
use Rattle.emdf_format.specs.Reading.{Container, Reading, accepted, refusal, container, consumed, reading}
use Rattle.emdf_format.specs.Calls.{class_of, classify}
use Rattle.emdf_format.specs.declared.TruncatedPart.TheVariants as TruncatedPart
use Rattle.emdf_format.specs.declared.EmdfError.TheVariants.{TruncatedContainer, InvalidSyncword}
use Rattle.emdf_format.proofs.Bytes.{byte-value}
use Rattle.openjoc_emdf.specs.declared.ParsedEmdf.{ParsedEmdf}
use Rattle.openjoc_emdf.specs.Answers.{parsed_emdf, parse_answer, class_answer}
use Rattle.emdf_container.specs.Container.{container_answer}
use Rattle.emdf_container.specs.declared.EmdfContainer.{EmdfContainer}
use Rattle.openjoc_emdf.specs.declared.CarrierClassification.{CarrierClassification}

-- two bytes are a number of 16 bits
pub word-is : (s : List ℕ) (i : ℕ) {w : ℕ} → get_or s i 0 < 256 → get_or s (i + 1) 0 < 256 → w ≡ get_or s i 0 * 256 + get_or s (i + 1) 0 → w ≡ bits_value s (8 * i) 16
word-is s i h k e =
    let z : 8 * i + 8 ≡ 8 * (i + 1) = omega arith in
    let y : bits_value s (8 * i) 16 ≡ bits_value s (8 * i) 8 * 2 ^ 8 + bits_value s (8 * i + 8) 8 = value-split s (8 * i) 8 8 in
    e ∙ sym (rw (z, byte-value s i h, byte-value s (i + 1) k) at y)

-- ---- what the answer says of a reading

pub accepted-is : (x : Reading) {p : ParsedEmdf} → parse_answer x ≡ Ok p → (c : Container) × (x ≡ accepted p.bytes_consumed.0 c) × (parsed_emdf p.bytes_consumed.0 c ≡ p)
unfolding parse_answer
accepted-is (accepted n c) h = let a = ok-same h in (c, rw (← a), rw (← a))
accepted-is (refusal why) h = absurd (err-is-not-ok h)

pub refusal-is : (x : Reading) {why : EmdfError} → parse_answer x ≡ Err why → x ≡ refusal why
unfolding parse_answer
refusal-is (accepted n c) h = absurd (ok-is-not-err h)
refusal-is (refusal why) h = rw (err-same h)

module _ (s : List ℕ) where
  pub too_short : length s < 4 → Err (TruncatedContainer TruncatedPart.Header 4 (length s)) ≡ parse_answer (reading s)
  unfolding reading parse_answer
  too_short h = simp (lt-ltb (length s) 4 h)

  pub no-sync : {w : ℕ} → 4 ≤ length s → w ≡ bits_value s 0 16 → (w ≡ 0x5838 → ⊥) → Err (InvalidSyncword w) ≡ parse_answer (reading s)
  unfolding reading parse_answer
  no-sync {w} h e n = simp (le-ltb (length s) 4 h, ← e, ne_eqb w 0x5838 n)

  pub cut : {w d : ℕ} → 4 ≤ length s → w ≡ bits_value s 0 16 → w ≡ 0x5838 → d ≡ bits_value s 16 16 → length s - 4 < d
      → Err (TruncatedContainer TruncatedPart.Body d (length s - 4)) ≡ parse_answer (reading s)
  unfolding reading parse_answer
  cut {w} {d} h e y f l = simp (le-ltb (length s) 4 h, ← e, eq-eqb w 0x5838 y, ← f, lt-ltb (length s - 4) d l)

  consumed-is : (e n : ℕ) (x : Read Container) {k : EmdfContainer} → container_answer e x ≡ Ok k → Ok (record { container = k; bytes_consumed = record { 0 = n } }) ≡ parse_answer (consumed n x)
  unfolding container_answer parse_answer consumed
  consumed-is e n (got c q) h = rw (← ok-same h)
  consumed-is e n (refused why q) h = absurd (err-is-not-ok h)

  unread-is : (e n : ℕ) (x : Read Container) {why : EmdfError} → container_answer e x ≡ Err why → parse_answer (consumed n x) ≡ Err why
  unfolding container_answer parse_answer consumed
  unread-is e n (got c q) h = absurd (ok-is-not-err h)
  unread-is e n (refused why q) h = rw (err-same h)

  module _ {w d : ℕ} {a : Result EmdfContainer EmdfError} (h : 4 ≤ length s) (e : w ≡ bits_value s 0 16) (y : w ≡ 0x5838) (f : d ≡ bits_value s 16 16) (l : d ≤ length s - 4)
      (z : a ≡ container_answer ((4 + d) * 8) (container (take (4 + d) s) ((4 + d) * 8) 32)) where
    read : a ≡ container_answer (8 * (4 + d)) (container (take (4 + d) s) (8 * (4 + d)) 32)
    read = let k : (4 + d) * 8 ≡ 8 * (4 + d) = omega arith in rw k at z

    pub whole : {k : EmdfContainer} → a ≡ Ok k → Ok (record { container = k; bytes_consumed = record { 0 = 4 + d } }) ≡ parse_answer (reading s)
    unfolding reading
    whole t = simp (le-ltb (length s) 4 h, ← e, eq-eqb w 0x5838 y, ← f, le-ltb (length s - 4) d l) (consumed-is _ _ _ (sym read ∙ t))

    pub unread : {why : EmdfError} → a ≡ Err why → parse_answer (reading s) ≡ Err why
    unfolding reading
    unread t = simp (le-ltb (length s) 4 h, ← e, eq-eqb w 0x5838 y, ← f, le-ltb (length s - 4) d l) (unread-is _ _ _ (sym read ∙ t))

  -- ---- class

  pub one_byte : length s < 2 → CarrierClassification.NonEmdf ≡ class_answer (classify s)
  unfolding classify class_answer ◌&◌
  one_byte h = simp (lt-leb 2 (length s) h)

  pub other : {w : ℕ} → 2 ≤ length s → w ≡ bits_value s 0 16 → (w ≡ 0x5838 → ⊥) → CarrierClassification.NonEmdf ≡ class_answer (classify s)
  unfolding classify class_answer ◌&◌
  other {w} h e n = simp (le-leb 2 (length s) h, ← e, ne_eqb w 0x5838 n)

  -- a carrier of len bytes that starts with the sync word, by its reading
  module _ {w : ℕ} (h : 2 ≤ length s) (e : w ≡ bits_value s 0 16) (y : w ≡ 0x5838) where
    classed : {r : CarrierClassification} → r ≡ class_answer (class_of (reading s) (length s)) → r ≡ class_answer (classify s)
    unfolding classify ◌&◌
    classed z = simp (le-leb 2 (length s) h, ← e, eq-eqb w 0x5838 y) z

    pub exact : {p : ParsedEmdf} → parse_answer (reading s) ≡ Ok p → p.bytes_consumed.0 ≡ length s → CarrierClassification.Parsed p ≡ class_answer (classify s)
    unfolding class_of class_answer
    exact {p} t k = let (c, r, i) = accepted-is (reading s) t in classed (rw (r, eq-eqb p.bytes_consumed.0 (length s) k) (ap CarrierClassification.Parsed (sym i)))

    pub trailing : {p : ParsedEmdf} → parse_answer (reading s) ≡ Ok p → (p.bytes_consumed.0 ≡ length s → ⊥)
        → CarrierClassification.TrailingData p.bytes_consumed (record { 0 = length s }) ≡ class_answer (classify s)
    unfolding class_of class_answer
    trailing {p} t k = let (c, r, i) = accepted-is (reading s) t in classed (rw (r, ne_eqb p.bytes_consumed.0 (length s) k))

    pub bad : {why : EmdfError} → parse_answer (reading s) ≡ Err why → CarrierClassification.Malformed why ≡ class_answer (classify s)
    unfolding class_of class_answer
    bad t = classed (rw (refusal-is (reading s) t))
