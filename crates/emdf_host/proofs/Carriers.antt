-- Laws of a reading's answer. Assumes nothing.
use mathlib.Core.Path.{◌≡◌, refl, sym, ap, ◌∙◌}
use mathlib.Core.List.{List}
use Prim.Native.Nat.{ℕ, ◌/◌, ◌<◌, ◌≤◌}
use native.Mathlib.Omega.{arith}
use borrow.Author.Tests.{le-leb, lt-leb}
use lib.ListN.{length, take}
use lib.Seq.{sets}
use Rattle.std.specs.Prelude.{Ok, Err}
use Rattle.openjoc_bitio.specs.declared.BitCursor.{BitCursor}
use Rattle.emdf_format.specs.Reading.{Found, reading}
use Rattle.emdf_format.specs.Ordinals.{rows_of}
use Rattle.emdf_format.specs.Calls.{in_table, unrecorded}
use Rattle.emdf_format.specs.declared.EmdfError.{EmdfError}
use Rattle.emdf_format.specs.declared.RecordsError.TheVariants.{Emdf, TableTooShort}
use Rattle.openjoc_emdf.specs.Answers.{open_answer}
use Rattle.emdf_container.specs.Container.{container_of}
use Rattle.openjoc_emdf.specs.declared.ParsedEmdf.{ParsedEmdf}
use Rattle.emdf_payloads.specs.Payloads.{Listed}
use Rattle.openjoc_emdf.specs.Answers.{Opened}
use Rattle.openjoc_emdf.proofs.Opening.{opened, unopened}
use Rattle.emdf_answers.specs.Form.{words}
use Rattle.emdf_answers.specs.Replies.{Replies}
use Rattle.emdf_answers.specs.Carriers.{parsed_words, read_into, read_reply, rows_bytes, rows_after, ReadReplies}
use Rattle.emdf_rows.proofs.Rows.{rows-after}

module _ (s : List ℕ) {p : ParsedEmdf} {c : BitCursor} (h : open_answer s (reading s) ≡ Ok (p, c)) where
  counted : length (opened s h).container.found ≡ p.container.payloads
  unfolding container_of
  counted = ap (λ (q : ParsedEmdf). q.container.payloads) (opened s h).parsed

  pub all_listed : (xs : List Found) × Listed (take p.bytes_consumed.0 s) c xs × (length xs ≡ p.container.payloads)
  all_listed = ((opened s h).container.found, (opened s h).listed, counted)

module _ (s table : List ℕ) where
  -- a refusal leaves the table
  pub refused-carrier : {why : EmdfError} {r : ℕ} {answer : List ℕ} → open_answer s (reading s) ≡ Err why
      → Replies (read_reply (unrecorded (Emdf why))) r answer → ReadReplies (read_into s table) r answer table table
  unfolding read_into in_table rows_after
  refused-carrier h w = rw (unopened s h) (w, refl)

  module _ {p : ParsedEmdf} {c : BitCursor} (h : open_answer s (reading s) ≡ Ok (p, c)) where
    abbrev n : ℕ
    n = p.bytes_consumed.0

    abbrev count : ℕ
    count = p.container.payloads

    abbrev o : Opened s p c
    o = opened s h

    pub refused-table : {r : ℕ} {answer : List ℕ} → length table / 224 < count
        → Replies (read_reply (unrecorded (TableTooShort count))) r answer → ReadReplies (read_into s table) r answer table table
    unfolding read_into in_table rows_after
    refused-table l w = rw (o.is, counted s h, lt-leb _ _ l) (w, refl)

    pub read-carrier : {r : ℕ} {w answer table' : List ℕ} → count ≤ length table / 224 → (r ≡ 0) × (answer ≡ words w) → w ≡ parsed_words p
        → ((xs : List Found) → Listed (take n s) c xs → length xs ≡ count → table' ≡ sets table 0 (rows_bytes (rows_of xs)))
        → ReadReplies (read_into s table) r answer table table'
    unfolding read_into in_table read_reply rows_after
    read-carrier l e g f =
        rw (o.is, counted s h, le-leb _ _ l)
        ((e.0, e.1 ∙ ap words (g ∙ ap parsed_words (sym o.parsed))), f o.container.found o.listed (counted s h) ∙ rows-after table o.container.found (omega (arith, counted s h)))
