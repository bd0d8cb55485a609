-- The answers of the trials, from those of the calls that they make. Assumes nothing.
use mathlib.Core.Path.{◌≡◌, refl, ◌∙◌}
use Rattle.std.specs.Prelude.{Result, Ok, Err, MatchResult, ⊤}
use Rattle.openjoc_bitio.specs.declared.BitError.{BitError}
use Rattle.openjoc_bitio.specs.declared.BitCursor.{BitCursor}
use Rattle.openjoc_bit_reader.specs.Reader.{result_of, cursor_after, moved}
use Rattle.emdf_format.specs.Calls.{Records, recorded, unrecorded}
use Rattle.emdf_format.specs.declared.EmdfError.{EmdfError}
use Rattle.emdf_format.specs.declared.RecordsError.{RecordsError}
use Rattle.emdf_format.specs.declared.RecordsError.TheVariants.{Emdf}
use Rattle.openjoc_emdf.specs.declared.ParsedEmdf.{ParsedEmdf}
use Rattle.emdf_records_plan.specs.Records.{records_answer}
use Rattle.emdf_answers.specs.Bits.{align_reply}
use Rattle.emdf_answers.specs.Carriers.{read_reply}
use Rattle.emdf_answers.specs.declared.BitReply.{BitReply}
use Rattle.emdf_trials.specs.Trials.{parse_reply, told_reading}

-- ---- a reader's result v, and the cursor that it is left at: joined, they are the answer at its cursor c

module _ (c : BitCursor) {left : BitCursor} {r : BitReply} where
  -- by a reply g that takes its cursor where nothing is refused from the answer
  pub reply-told : {A : Type 0} (g : BitCursor → Result (A × BitCursor) BitError → BitReply) → ((d next : BitCursor) (a : A) → g d (Ok (a, next)) ≡ g c (Ok (a, next)))
      → (x : Result (A × BitCursor) BitError) {v : Result A BitError} {y : Result (A × BitCursor) BitError} → (v ≡ result_of x) × (left ≡ cursor_after c x)
      → MatchResult v (λ a. y ≡ Ok (a, left)) (λ why. y ≡ Err why) → r ≡ g left y → r ≡ g c x
  reply-told g same (Ok (a, next)) (e, f) h k = let m = rw e at h in k ∙ rw (m, f) (same next next a)
  reply-told g same (Err why) (e, f) h k = let m = rw e at h in k ∙ rw (m, f)

  pub align-told : (x : Result BitCursor BitError) (y : Result BitCursor BitError) {v : Result ⊤ BitError} → (v ≡ result_of (moved x)) × (left ≡ cursor_after c (moved x))
      → MatchResult v (λ _. y ≡ Ok left) (λ why. y ≡ Err why) → r ≡ align_reply left y → r ≡ align_reply c x
  unfolding align_reply
  align-told (Ok next) y (e, f) h k = let m = rw e at h in k ∙ rw (m, f)
  align-told (Err why) y (e, f) h k = let m = rw e at h in k ∙ rw (m, f)

-- ---- readings

pub read_told : (x : Result ParsedEmdf EmdfError) (y : Result ParsedEmdf RecordsError) → MatchResult x (λ p. y ≡ Ok p) (λ why. y ≡ Err (Emdf why)) → told_reading y ≡ parse_reply x
unfolding told_reading parse_reply
read_told (Ok p) y h = rw h
read_told (Err why) y h = rw h

pub records_told : (t : Records) → told_reading (records_answer t) ≡ read_reply t
unfolding told_reading records_answer read_reply
records_told (recorded n c) = refl
records_told (unrecorded why) = refl
