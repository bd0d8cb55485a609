-- What the exported verdict returns and writes: docs/HOST.md, 'emdf_verdict'. Assumes nothing.
use Rattle.std.specs.Prelude.{ℕ, zero, suc, [], ◌∷◌, Result, Ok, Err}
use Rattle.emdf_format.specs.declared.ValidatedJocProfile.{ValidatedJocProfile}
use Rattle.emdf_format.specs.declared.JocProfileError.{JocProfileError}
use Rattle.emdf_format.specs.Refusals.{profile_refusal, figures_of}
use Rattle.emdf_format.specs.declared.JocValidationProfile.{JocValidationProfile}
use Rattle.emdf_format.specs.declared.JocValidationProfile.TheVariants.{EtsiStrict, ObservedVendorCompat}
use Rattle.emdf_format.specs.declared.JocValidationStatus.{JocValidationStatus}
use Rattle.emdf_format.specs.declared.JocValidationStatus.TheVariants.{NormativeCompliant, AcceptedWithDeviation}
use Rattle.emdf_answers.specs.Replies.{Reply, accepted_reply, refused_reply}

-- the policy of a host's number
unfoldable pub profile_of : ℕ → JocValidationProfile
profile_of zero = EtsiStrict
profile_of (suc n) = ObservedVendorCompat

abbrev pub status_word : JocValidationStatus → ℕ
status_word NormativeCompliant = 0
status_word AcceptedWithDeviation = 1

-- accepted: the places of the OAMD and the JOC payload, the marks, whether any is set, the largest number of groups
unfoldable pub verdict_reply : Result ValidatedJocProfile JocProfileError → Reply
verdict_reply (Ok v) = accepted_reply (v.oamd ∷ v.joc ∷ v.deviations ∷ status_word v.status ∷ v.largest_groups ∷ [])
verdict_reply (Err why) = refused_reply 5 (figures_of (profile_refusal why))
