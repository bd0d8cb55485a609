-- Each refusal's number and figures: the scope's list of questions. Assumes nothing.
use Rattle.openjoc_bitio.specs.declared.BitError.TheVariants.{EndOfInput, InvalidWidth}
use Rattle.emdf_format.specs.Types.{EmdfError, RecordsError, JocProfileError, BodyError, FindError, EditError, RecipeError, Refusal, Figures}
use Rattle.emdf_format.specs.declared.TruncatedPart.TheVariants as TruncatedPart
use Rattle.emdf_format.specs.declared.EmdfError.TheVariants.{TruncatedContainer, InvalidSyncword, Bit, InvalidVariableBits, VariableBitsGroupLimit, ValueOverflow, UnsupportedVersion, NonzeroReservedData, ReservedPrimaryProtectionLength, ExcessPadding, NonzeroPadding}
use Rattle.emdf_format.specs.declared.Refusal.TheVariants.{Bare, One, Two}

abbrev pub refusal_of : EmdfError → Refusal
refusal_of (TruncatedContainer TruncatedPart.Header declared available) = Two 21 declared available
refusal_of (TruncatedContainer TruncatedPart.Body declared available) = Two 1 declared available
refusal_of (InvalidSyncword actual) = One 2 actual
refusal_of (Bit (EndOfInput requested remaining)) = Two 3 requested remaining
refusal_of (Bit (InvalidWidth width)) = One 4 width
refusal_of (InvalidVariableBits width limit) = Two 5 width limit
refusal_of (VariableBitsGroupLimit width limit) = Two 6 width limit
refusal_of ValueOverflow = Bare 7
refusal_of (UnsupportedVersion version) = One 8 version
refusal_of NonzeroReservedData = Bare 9
refusal_of ReservedPrimaryProtectionLength = Bare 10
refusal_of (ExcessPadding bits) = One 11 bits
refusal_of NonzeroPadding = Bare 12

abbrev pub records_refusal : RecordsError → Refusal
records_refusal (RecordsError.Emdf why) = refusal_of why
records_refusal (RecordsError.TableTooShort payloads) = One 13 payloads

abbrev pub profile_refusal : JocProfileError → Refusal
profile_refusal (JocProfileError.Emdf why) = refusal_of why
profile_refusal (JocProfileError.PayloadCount oamd joc) = Two 14 oamd joc
profile_refusal (JocProfileError.Configuration deviations count) = Two 15 deviations count

abbrev pub body_refusal : BodyError → Refusal
body_refusal (BodyError.Emdf why) = refusal_of why
body_refusal BodyError.NoSuchPayload = Bare 16
body_refusal (BodyError.ScratchTooShort needed) = One 19 needed.0

abbrev pub find_refusal : FindError → Refusal
find_refusal (FindError.Emdf why) = refusal_of why
find_refusal FindError.NoSuchOrdinal = Bare 24

abbrev pub edit_refusal : EditError → Refusal
edit_refusal (EditError.Emdf why) = refusal_of why
edit_refusal EditError.NoSuchPlace = Bare 16
edit_refusal EditError.NotWritable = Bare 17
edit_refusal EditError.TooLong = Bare 18
edit_refusal (EditError.DestinationTooShort needed) = One 19 needed.0
edit_refusal EditError.TrailingData = Bare 20

abbrev pub recipe_refusal : RecipeError → Refusal
recipe_refusal RecipeError.BrokenChain = Bare 22
recipe_refusal RecipeError.InvalidRecord = Bare 23

-- the number, and two figures, zeros where it has none
abbrev pub figures_of : Refusal → Figures
figures_of (Bare n) = record { number = n; first = 0; second = 0 }
figures_of (One n a) = record { number = n; first = a; second = 0 }
figures_of (Two n a b) = record { number = n; first = a; second = b }
