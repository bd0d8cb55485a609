-- Where an edit cuts its source. Assumes nothing.
use Rattle.std.specs.Prelude.{List, ℕ, ◌+◌, ◌-◌, ◌*◌, ◌/◌, ◌^◌, ◌<◌, ◌≤◌, length, leb, if◌then◌else◌, Result, Ok, Err}
use Rattle.std.proofs.Math.Option.{Option, none, some}
use Rattle.std.proofs.Math.ListN.{get_elem?}
use Rattle.openjoc_bitio.specs.Bits.{number_bits}
use Rattle.openjoc_bitio.specs.declared.BitOffset.{BitOffset}
use Rattle.emdf_format.specs.declared.EditError.{EditError}
use Rattle.emdf_format.specs.declared.EmdfPayloadBitTrace.{EmdfPayloadBitTrace}
use Rattle.emdf_format.specs.declared.EditError.TheVariants.{Emdf, TooLong, DestinationTooShort}
use Rattle.emdf_format.specs.Syntax.{syncword, most_declared, ◌⨟◌}
use Rattle.emdf_format.specs.Contents.{extension_bits, needed_payloads, needed_bits, declared}
use Rattle.emdf_format.specs.Reading.{Found, trace_of, Container, Reading, accepted, refusal, reading, payloads_of, contents_of}
use Rattle.emdf_format.specs.Edits.{Stepped, changed, unchanged, step_from}
use Rattle.emdf_writer.specs.Writing.{bit_run}
use Rattle.emdf_request.specs.declared.Request.{Request}
use Rattle.emdf_request.specs.declared.Edge.{Edge}
use Rattle.emdf_request.specs.declared.Stretch.{Stretch}
use Rattle.emdf_request.specs.declared.Brought.{Brought}
use Rattle.emdf_request.specs.Requests.{edit_of, stretch_of}
use Rattle.emdf_plan.specs.Types.{Layout, Cut}
use Rattle.emdf_request.specs.declared.Edge.TheVariants.{Key, First, Id, Config, Size, Next, Codes, Protection, End}

-- ---- where the parts of a container stand, and the payload at place k; past the last one, the end mark

unfoldable pub trace_at : Option Found → ℕ → EmdfPayloadBitTrace
trace_at none mark = trace_of mark mark mark mark mark
trace_at (some x) mark = x.record_of.trace

unfoldable pub layout_of : ℕ → Container → Layout
layout_of k c =
    let first : ℕ = 37 + extension_bits 3 c.key-id in
    let mark : ℕ = first + needed_payloads (payloads_of c.found) in
    record {
      first = record { 0 = first };
      place = trace_at (get_elem? c.found k) mark;
      codes = record { 0 = mark + 5 };
      end = record { 0 = 32 + needed_bits (contents_of c) };
    }

-- where an edge stands; the key id follows the sync word, the declared length and the version
abbrev pub edge_at : Edge → Layout → BitOffset
edge_at Key l = record { 0 = 34 }
edge_at First l = l.first
edge_at Id l = l.place.payload_id_start_bit
edge_at Config l = l.place.config_start_bit
edge_at Size l = l.place.payload_size_start_bit
edge_at Next l = l.place.payload_body_end_bit
edge_at Codes l = l.codes
edge_at Protection l = record { 0 = l.codes.0 + 4 }
edge_at End l = l.end

-- a stretch in the container of a carrier
abbrev pub CutIn : Stretch → Layout → Type 0
CutIn x l =
    (32 ≤ (edge_at x.from l).0)
    × ((edge_at x.from l).0 ≤ (edge_at x.to l).0)
    × ((edge_at x.to l).0 ≤ (edge_at x.kept l).0)
    × ((edge_at x.kept l).0 ≤ l.end.0)
    × (l.codes.0 + 4 ≤ l.end.0)
    × (l.end.0 < 2 ^ 20)

-- ---- the plan: the first question that is answered no, or where to cut

unfoldable pub cut_at : Stretch → Layout → ℕ → Cut
cut_at x l size = record { from = edge_at x.from l; to = edge_at x.to l; kept = edge_at x.kept l; size = record { 0 = size } }

unfoldable pub planned : Stepped → Stretch → Layout → Result Cut EditError
planned (changed d) x l = Ok (cut_at x l (declared d))
planned (unchanged why) x l = Err why

abbrev pub laid : Request → Container → Layout
laid q c = layout_of (stretch_of q).place c

unfoldable pub plan_from : Reading → ℕ → Request → List ℕ → List ℕ → ℕ → Result Cut EditError
plan_from (accepted n c) len q octets secondary room =
    planned (step_from (accepted n c) len (edit_of q octets secondary) room) (stretch_of q) (laid q c)
plan_from (refusal why) len q octets secondary room = Err (Emdf why)

unfoldable pub plan_of : Request → List ℕ → List ℕ → List ℕ → ℕ → Result Cut EditError
plan_of q octets secondary src room = plan_from (reading src) (length src) q octets secondary room

-- the bytes that a container declares, where so many bits come in for those of a cut
unfoldable pub size_after : Stretch → Layout → Brought → ℕ
size_after x l b = (l.end.0 - 32 - ((edge_at x.to l).0 - (edge_at x.from l).0) + (b.fields + 8 * b.octets) + 7) / 8

-- 18 and 19
unfoldable pub measure : Stretch → Layout → Brought → ℕ → Result Cut EditError
measure x l b room =
    let size : ℕ = size_after x l b in
    if leb size most_declared
    then (if leb (4 + size) room then Ok (cut_at x l size) else Err (DestinationTooShort (record { 0 = 4 + size })))
    else Err TooLong

-- ---- the bits of the edited carrier: the header, the source's bits around the cut, zero bits to the end

unfoldable pub spliced : List ℕ → Cut → List ℕ → List ℕ
spliced s cut new =
    let sofar : ℕ = (cut.from.0 - 32) + length new + (cut.kept.0 - cut.to.0) in
    number_bits 16 syncword
    ⨟ number_bits 16 cut.size.0
    ⨟ bit_run s 32 (cut.from.0 - 32)
    ⨟ new
    ⨟ bit_run s cut.to.0 (cut.kept.0 - cut.to.0)
    ⨟ number_bits (8 * cut.size.0 - sofar) 0
