-- Laws of the byte form of settings. Assumes nothing.
use mathlib.Core.Path.{◌≡◌, refl, sym, ap, ◌∙◌}
use mathlib.Core.Bool.{Bool, true, false}
use mathlib.Core.List.{List, [], ◌∷◌, ◌++◌}
use Prim.Native.Nat.{ℕ, zero, suc, ◌+◌, ◌*◌, ◌^◌, ◌<◌, ◌≤◌}
use native.Mathlib.Omega.{arith}
use borrow.Author.Tests.{le-leb, lt-ltb}
use lib.ListN.{length, get_or, take, drop}
use lib.Dec.{eqb}
use Rattle.std.specs.Prelude.{if◌then◌else◌, ◌&&◌, Option, Some, None}
use Rattle.std.specs.List.{list_all, range_with_len}
use Rattle.emdf_format.specs.Contents.{◌&◌, when_present, up_to, writable_config, Payload, writable_payload, writable_payloads, Contents, writable}
use Rattle.emdf_format.specs.Edits.{settings_edit, insert_edit, with_at, with_config, with_payloads, cleared, change, place_exists, unchanged, step_to, step}
use Rattle.emdf_format.specs.declared.EditError.TheVariants.{NotWritable}
use Rattle.emdf_format.specs.declared.EmdfPayloadConfig.{EmdfPayloadConfig}
use Rattle.emdf_measure.proofs.Asked.{stop}
use Rattle.emdf_answers.specs.Form.{words, number_at}
use Rattle.emdf_answers.specs.Carriers.{optional_words, config_words}
use Rattle.emdf_settings_bytes.specs.Settings.{optional_at, pair_formed, pairs_formed, settings_formed, config_of, unformed, settings_of}
use Rattle.emdf_answers.proofs.Form.{length-words, number_read}
use Rattle.emdf_answers.proofs.Carriers.{presence_of, value_of, listed, config-listed}

-- ---- settings from their numbers

optional-read : (o : Option ℕ) {p v : ℕ} → p ≡ presence_of o → v ≡ value_of o → (if eqb p 0 then None else Some v) ≡ o
unfolding optional_words
optional-read None e f = rw e
optional-read (Some x) e f = rw (e, f)

pair_read : (o : Option ℕ) {p v : ℕ} → p ≡ presence_of o → v ≡ value_of o → (if eqb p 0 then eqb v 0 else eqb p 1) ≡ true
unfolding optional_words
pair_read None e f = rw (e, f)
pair_read (Some x) e f = rw e

module _ (t : EmdfPayloadConfig) (below : (k : ℕ) → get_or (config_words t) k 0 < 2 ^ 64) where
  abbrev row : List ℕ
  row = words (config_words t)

  number : (k : ℕ) → k < 18 → number_at row k ≡ get_or (listed t) k 0
  number k h =
      number_read (config_words t) k (rw (← config-listed t) h) (below k) ∙ ap (λ (l : List ℕ). get_or l k 0) (sym (config-listed t))

  optional : (o : Option ℕ) (k : ℕ) → k < 17 → get_or (listed t) k 0 ≡ presence_of o → get_or (listed t) (k + 1) 0 ≡ value_of o → optional_at row k ≡ o
  unfolding optional_at
  optional o k h e f = optional-read o (number k (omega arith) ∙ e) (number (k + 1) (omega arith) ∙ f)

  pair : (o : Option ℕ) (k : ℕ) → k < 17 → get_or (listed t) k 0 ≡ presence_of o → get_or (listed t) (k + 1) 0 ≡ value_of o → pair_formed row k ≡ true
  unfolding pair_formed
  pair o k h e f = pair_read o (number k (omega arith) ∙ e) (number (k + 1) (omega arith) ∙ f)

  formed : settings_formed row ≡ true
  unfolding settings_formed pairs_formed ◌&◌
  formed =
      rw (
        pair t.sample_offset 0 (omega arith) refl refl,
        pair t.duration 2 (omega arith) refl refl,
        pair t.group_id 4 (omega arith) refl refl,
        pair t.payload_frame_aligned 8 (omega arith) refl refl,
        pair t.create_duplicate 10 (omega arith) refl refl,
        pair t.remove_duplicate 12 (omega arith) refl refl,
        pair t.priority 14 (omega arith) refl refl,
        pair t.processing_allowed 16 (omega arith) refl refl,
      )

  config : config_of row ≡ t
  unfolding config_of
  config =
      rw (
        optional t.sample_offset 0 (omega arith) refl refl,
        optional t.duration 2 (omega arith) refl refl,
        optional t.group_id 4 (omega arith) refl refl,
        number 6 (omega arith),
        number 7 (omega arith),
        optional t.payload_frame_aligned 8 (omega arith) refl refl,
        optional t.create_duplicate 10 (omega arith) refl refl,
        optional t.remove_duplicate 12 (omega arith) refl refl,
        optional t.priority 14 (omega arith) refl refl,
        optional t.processing_allowed 16 (omega arith) refl refl,
      )

  -- the settings' numbers in a row of a table are settings' bytes
  pub settings-of-row : settings_of (words (config_words t)) ≡ t
  unfolding settings_of ◌&◌
  settings-of-row =
      let e : length row ≡ 144 = length-words (config_words t) ∙ ap (λ (l : List ℕ). 8 * length l) (sym (config-listed t)) in
      rw (e, formed, config)

-- ---- bytes outside the form

pub unformed-unwritable : writable_config unformed ≡ false
unfolding writable_config when_present up_to ◌&◌
unformed-unwritable = refl

and-not : (a : Bool) {b : Bool} → b ≡ false → (a & b) ≡ false
unfolding ◌&◌
and-not true h = h
and-not false h = refl

module _ (x : Payload) (h : writable_config x.config ≡ false) where
  payload-unwritable : writable_payload x ≡ false
  unfolding writable_payload
  payload-unwritable = and-not _ (and-not _ h)

  -- a payload that isn't writable, among others
  payloads-unwritable : (xs ys : List Payload) → writable_payloads (xs ++ x ∷ ys) ≡ false
  unfolding writable_payloads
  payloads-unwritable [] ys = sym (stop _ payload-unwritable)
  payloads-unwritable (z ∷ xs) ys = and-not _ (payloads-unwritable xs ys)

with-unwritable : (t : EmdfPayloadConfig) → writable_config t ≡ false → (k : ℕ) (xs : List Payload) → k < length xs → writable_payloads (with_at k (with_config t) xs) ≡ false
unfolding with_at writable_payloads
with-unwritable t h k [] l = absurd (omega arith)
with-unwritable t h zero (x ∷ xs) l = sym (stop _ (payload-unwritable _ h))
with-unwritable t h (suc k) (x ∷ xs) l = and-not _ (with-unwritable t h k xs (omega arith))

module _ (c : Contents) (xs : List Payload) (h : writable_payloads xs ≡ false) where
  contents-unwritable : writable (with_payloads c xs) ≡ false
  unfolding writable with_payloads
  contents-unwritable = and-not _ (sym (stop _ h))

  unwritable-refused : (room : ℕ) → step_to room (with_payloads c xs) ≡ unchanged NotWritable
  unfolding step_to
  unwritable-refused room = rw contents-unwritable

module _ (s : List ℕ) (outside : (eqb (length s) 144 & settings_formed s) ≡ false) where
  pub outside-unwritable : writable_config (settings_of s) ≡ false
  unfolding settings_of
  outside-unwritable = rw (outside, unformed-unwritable)

  -- 17, where the place exists
  pub settings-refused : (k room : ℕ) (c : Contents) → k < length c.payloads → step (settings_edit k (settings_of s)) room c ≡ unchanged NotWritable
  unfolding step place_exists change
  settings-refused k room c h =
      rw (lt-ltb k (length c.payloads) h) (unwritable-refused (cleared c) _ (with-unwritable (settings_of s) outside-unwritable k c.payloads h) room)

  pub insert-refused : (k room id : ℕ) (bs : List ℕ) (c : Contents) → k ≤ length c.payloads → step (insert_edit k id (settings_of s) bs) room c ≡ unchanged NotWritable
  unfolding step place_exists change
  insert-refused k room id bs c h =
      rw (le-leb k (length c.payloads) h) (unwritable-refused (cleared c) _ (payloads-unwritable _ outside-unwritable (take k c.payloads) (drop k c.payloads)) room)

-- ---- settings as the code reads them

and-same : (a b : Bool) → (a && b) ≡ (a & b)
unfolding ◌&◌
and-same true b = refl
and-same false b = refl

-- n pairs from the i-th on, asked one after another
pub pairs-asked : (s : List ℕ) (first i n : ℕ) → list_all (λ k. pair_formed s (first + 2 * k)) (range_with_len i n) ≡ pairs_formed s (first + 2 * i) n
unfolding pairs_formed
pairs-asked s first i zero = refl
pairs-asked s first i (suc n) =
    let e : first + 2 * (i + 1) ≡ first + 2 * i + 2 = omega arith in
    rw (pairs-asked s first (i + 1) n, e) (and-same (pair_formed s (first + 2 * i)) (pairs_formed s (first + 2 * i + 2) n))
