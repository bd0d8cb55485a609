-- The verdict of TS 103 420, as the original has it: table 55 (which payloads there are), table 56 (their settings), and the two
-- policies. Assumes nothing.
use Rattle.std.specs.Prelude.{Bool, true, false, not, ◌||◌, List, [], ◌∷◌, ◌++◌, ℕ, suc, ◌+◌, ◌*◌, eqb, if◌then◌else◌, Option, Some, None, Result, Ok, Err}
use Rattle.emdf_format.specs.declared.ValidatedJocProfile.{ValidatedJocProfile}
use Rattle.emdf_format.specs.declared.JocProfileError.{JocProfileError}
use Rattle.emdf_format.specs.Types.{EmdfPayloadConfig, JocProfileField, PlacedConfig, JocRole, JocProfileValue, JocValidationProfile, JocValidationStatus}
use Rattle.emdf_format.specs.declared.JocProfileField.TheVariants.{SampleOffset, Duration, GroupId, CodecDataPresent, DiscardUnknownPayload, PayloadFrameAligned, CreateDuplicate, RemoveDuplicate, Priority, ProcessingAllowed}
use Rattle.emdf_format.specs.declared.JocRole.TheVariants.{Oamd, Joc}
use Rattle.emdf_format.specs.declared.JocValidationProfile.TheVariants.{EtsiStrict, ObservedVendorCompat}
use Rattle.emdf_format.specs.declared.JocValidationStatus.TheVariants.{NormativeCompliant, AcceptedWithDeviation}
use Rattle.emdf_format.specs.declared.JocProfileError.TheVariants.{Emdf, PayloadCount, Configuration}
use Rattle.emdf_format.specs.Contents.{◌&◌, is_present}
use Rattle.emdf_format.specs.Reading.{Found, Reading, accepted, refusal, reading, contents_of}
use Rattle.emdf_format.specs.Groups.{largest_groups_of}

-- ---- table 56, and the sample offset and frame alignment that the original takes it to imply

unfoldable pub meets : JocProfileValue → Option ℕ → Bool
meets JocProfileValue.Absent o = not (is_present o)
meets JocProfileValue.Present o = is_present o
meets (JocProfileValue.Unsigned n) None = false
meets (JocProfileValue.Unsigned n) (Some v) = eqb v n

-- let pass on OAMD alone
abbrev pub on_oamd : JocRole → Option (Option ℕ) → Option (Option ℕ)
on_oamd Oamd x = x
on_oamd Joc x = None

pub record Entry : Type 0 where
  pub field : JocProfileField
  pub wanted : JocProfileValue
  pub allowed : Option (Option ℕ)
  pub found : Option ℕ

abbrev pub entry : JocProfileField → JocProfileValue → Option (Option ℕ) → Option ℕ → Entry
entry f w x o = record { field = f; wanted = w; allowed = x; found = o }

-- the ten fields of a payload, in the order of the settings: wanted, let pass by compat, found
unfoldable pub table56 : JocRole → EmdfPayloadConfig → List Entry
table56 r t =
    entry SampleOffset JocProfileValue.Absent None t.sample_offset
    ∷ entry Duration JocProfileValue.Absent None t.duration
    ∷ entry GroupId JocProfileValue.Present None t.group_id
    ∷ entry CodecDataPresent (JocProfileValue.Unsigned 1) (Some (Some 0)) (Some t.codec_data_present)
    ∷ entry DiscardUnknownPayload (JocProfileValue.Unsigned 0) None (Some t.discard_unknown_payload)
    ∷ entry PayloadFrameAligned (JocProfileValue.Unsigned 1) (on_oamd r (Some (Some 0))) t.payload_frame_aligned
    ∷ entry CreateDuplicate (JocProfileValue.Unsigned 0) (on_oamd r (Some None)) t.create_duplicate
    ∷ entry RemoveDuplicate (JocProfileValue.Unsigned 0) (on_oamd r (Some None)) t.remove_duplicate
    ∷ entry Priority (JocProfileValue.Unsigned 0) (on_oamd r (Some None)) t.priority
    ∷ entry ProcessingAllowed (JocProfileValue.Unsigned 0) (on_oamd r (Some None)) t.processing_allowed
    ∷ []

unfoldable pub deviates : Entry → Bool
deviates x = not (meets x.wanted x.found)

-- group ids that differ; two absent ones don't
unfoldable pub differ : Option ℕ → Option ℕ → Bool
differ None None = false
differ None (Some w) = true
differ (Some v) None = true
differ (Some v) (Some w) = not (eqb v w)

-- ---- the twenty-one marks: OAMD's ten, JOC's ten, unequal group ids

unfoldable pub marks : List Entry → List Bool
marks [] = []
marks (x ∷ xs) = deviates x ∷ marks xs

unfoldable pub deviations : EmdfPayloadConfig → EmdfPayloadConfig → List Bool
deviations o j = marks (table56 Oamd o) ++ marks (table56 Joc j) ++ differ o.group_id j.group_id ∷ []

-- as a word, the first its lowest bit; and how many
unfoldable pub word : List Bool → ℕ
word [] = 0
word (b ∷ bs) = (if b then 1 else 0) + 2 * word bs

unfoldable pub ones : List Bool → ℕ
ones [] = 0
ones (b ∷ bs) = (if b then 1 else 0) + ones bs

-- ---- the policies

unfoldable pub allows : Option (Option ℕ) → Option ℕ → Bool
allows None o = false
allows (Some x) o = not (differ x o)

unfoldable pub passes : Entry → Bool
passes x = meets x.wanted x.found || allows x.allowed x.found

unfoldable pub all_pass : List Entry → Bool
all_pass [] = true
all_pass (x ∷ xs) = passes x & all_pass xs

-- strict lets no deviation pass; compat goes by the values, and never lets unequal group ids pass
unfoldable pub meets_profile : JocValidationProfile → EmdfPayloadConfig → EmdfPayloadConfig → Bool
meets_profile EtsiStrict o j = eqb (ones (deviations o j)) 0
meets_profile ObservedVendorCompat o j =
    all_pass (table56 Oamd o) & all_pass (table56 Joc j) & not (differ o.group_id j.group_id)

-- ---- table 55: one OAMD payload, id 11, and one JOC payload, id 14

unfoldable pub count_id : ℕ → List Found → ℕ
count_id id [] = 0
count_id id (x ∷ xs) = (if eqb x.record_of.id id then 1 else 0) + count_id id xs

-- the first payload with an id, the list's first at place k
unfoldable pub first_id : ℕ → ℕ → List Found → Option PlacedConfig
first_id id k [] = None
first_id id k (x ∷ xs) =
    if eqb x.record_of.id id then Some (record { place = k; config = x.record_of.config }) else first_id id (suc k) xs

-- the payload with an id, where there is just one
unfoldable pub only_id : ℕ → List Found → Option PlacedConfig
only_id id xs = if eqb (count_id id xs) 1 then first_id id 0 xs else None

-- ---- the verdict

unfoldable pub status : ℕ → JocValidationStatus
status n = if eqb n 0 then NormativeCompliant else AcceptedWithDeviation

-- most is the largest number of groups in the container
unfoldable pub judge : JocValidationProfile → ℕ → PlacedConfig → PlacedConfig → Result ValidatedJocProfile JocProfileError
judge profile most o j =
    let ds : List Bool = deviations o.config j.config in
    if meets_profile profile o.config j.config
    then Ok (record { oamd = o.place; joc = j.place; deviations = word ds; status = status (ones ds); largest_groups = most })
    else Err (Configuration (word ds) (ones ds))

-- 14 where one of them is missing or repeated
unfoldable pub judged : JocValidationProfile → ℕ → Option PlacedConfig → Option PlacedConfig → Result ValidatedJocProfile JocProfileError → Result ValidatedJocProfile JocProfileError
judged profile most (Some o) (Some j) otherwise = judge profile most o j
judged profile most None j otherwise = otherwise
judged profile most (Some o) None otherwise = otherwise

unfoldable pub verdict_on : JocValidationProfile → Reading → Result ValidatedJocProfile JocProfileError
verdict_on profile (accepted n c) =
    judged profile (largest_groups_of (contents_of c)) (only_id 11 c.found) (only_id 14 c.found)
    (Err (PayloadCount (count_id 11 c.found) (count_id 14 c.found)))
verdict_on profile (refusal why) = Err (Emdf why)

unfoldable pub verdict : JocValidationProfile → List ℕ → Result ValidatedJocProfile JocProfileError
verdict profile s = verdict_on profile (reading s)
