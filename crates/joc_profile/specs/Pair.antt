-- The two payloads of table 55 as they are met one after another. Assumes nothing.
use Rattle.std.specs.Prelude.{List, [], ◌∷◌, ℕ, ◌+◌, eqb, if◌then◌else◌, Result, Ok, Err, Option, Some, None}
use Rattle.emdf_format.specs.declared.ValidatedJocProfile.{ValidatedJocProfile}
use Rattle.emdf_format.specs.declared.JocProfileError.{JocProfileError}
use Rattle.emdf_format.specs.Reading.{Found}
use Rattle.emdf_format.specs.Profile.{judged}
use Rattle.emdf_format.specs.declared.EmdfError.{EmdfError}
use Rattle.emdf_format.specs.declared.PayloadRecord.{PayloadRecord}
use Rattle.emdf_format.specs.declared.PlacedConfig.{PlacedConfig}
use Rattle.emdf_format.specs.declared.JocValidationProfile.{JocValidationProfile}
use Rattle.emdf_format.specs.declared.JocProfileError.TheVariants.{PayloadCount}
use Rattle.joc_profile.specs.declared.Seen.{Seen}
use Rattle.joc_profile.specs.declared.Seen.TheVariants.{Nothing, One, Several}

-- ---- the payloads with an id, one after another

abbrev pub count_of : Seen → ℕ
count_of Nothing = 0
count_of (One x) = 1
count_of (Several n) = n

-- one more with the id, at a place
unfoldable pub seen_more : Seen → PlacedConfig → Seen
seen_more Nothing x = One x
seen_more (One y) x = Several 2
seen_more (Several n) x = Several (n + 1)

unfoldable pub seen_next : Seen → ℕ → ℕ → PayloadRecord → Seen
seen_next before id place r = if eqb r.id id then seen_more before (record { place = place; config = r.config }) else before

-- all of them, the list's first at place k
unfoldable pub seen_from : Seen → ℕ → ℕ → List Found → Seen
seen_from before id k [] = before
seen_from before id k (x ∷ xs) = seen_from (seen_next before id k x.record_of) id (k + 1) xs

unfoldable pub pair_of : List Found → Result (Seen × Seen) EmdfError
pair_of xs = Ok (seen_from Nothing 11 0 xs, seen_from Nothing 14 0 xs)

-- ---- the verdict on them

unfoldable pub placed_of : Seen → Option PlacedConfig
placed_of Nothing = None
placed_of (One x) = Some x
placed_of (Several n) = None

unfoldable pub judged_pair : JocValidationProfile → ℕ → Seen → Seen → Result ValidatedJocProfile JocProfileError
judged_pair profile most o j = judged profile most (placed_of o) (placed_of j) (Err (PayloadCount (count_of o) (count_of j)))
