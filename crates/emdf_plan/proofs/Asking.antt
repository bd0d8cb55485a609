-- The questions of an edit, asked of the request and the layout alone, and how long the edited container is. Assumes nothing.
use mathlib.Core.Path.{◌≡◌, refl, sym, ap, ◌∙◌}
use mathlib.Core.Bool.{Bool, true, false}
use mathlib.Core.List.{List}
use Prim.Native.Nat.{ℕ, ◌+◌, ◌<◌, ◌≤◌}
use native.Mathlib.Omega.{arith}
use lib.ListN.{length}
use lib.Dec.{leb}
use borrow.Author.Tests.{eq-eqb, ne_eqb, le-leb, lt-leb}
use Rattle.std.specs.Prelude.{if◌then◌else◌, Ok, Err}
use Rattle.emdf_format.specs.declared.EmdfError.{EmdfError}
use Rattle.emdf_format.specs.declared.EditError.TheVariants.{Emdf, TrailingData, NoSuchPlace, NotWritable, TooLong, DestinationTooShort}
use Rattle.emdf_format.specs.Syntax.{most_declared}
use Rattle.emdf_format.specs.Contents.{Contents, declared}
use Rattle.emdf_format.specs.Reading.{Container, accepted, refusal, reading, payloads_of, contents_of}
use Rattle.emdf_format.specs.Edits.{change, place_exists, Stepped, unchanged, in_room, step_to, step, step_from}
use Rattle.emdf_format.proofs.Lengths.{length-container}
use Rattle.emdf_format.proofs.Carrier.{read-contained}
use Rattle.emdf_request.specs.declared.Request.{Request}
use Rattle.emdf_request.specs.declared.Stretch.{Stretch}
use Rattle.emdf_request.specs.declared.Brought.{Brought}
use Rattle.emdf_request.specs.Requests.{edit_of, stretch_of, bringing}
use Rattle.emdf_request.proofs.Requests.{change-writable, length-new}
use Rattle.emdf_plan.specs.declared.Layout.{Layout}
use Rattle.emdf_plan.specs.Plan.{layout_of, CutIn, cut_at, planned, laid, plan_from, plan_of, size_after, measure}
use Rattle.emdf_plan.proofs.Cutting.{Cutting, splice-lengths, protected-end, as_many, cutting}
use Rattle.emdf_plan.proofs.Opening.{end-limit}

-- ---- 18 and 19

module _ (x : Stretch) (l : Layout) (b : Brought) (room : ℕ) where
  pub too_long : (n : ℕ) → n ≡ size_after x l b → most_declared < n → Err TooLong ≡ measure x l b room
  unfolding measure
  too_long n e h = rw (← e, lt-leb n most_declared h)

  pub no_room : (n : ℕ) → n ≡ size_after x l b → n ≤ most_declared → room < 4 + n → Err (DestinationTooShort (record { 0 = 4 + n })) ≡ measure x l b room
  unfolding measure
  no_room n e h k = rw (← e, le-leb n most_declared h, lt-leb (4 + n) room k)

  pub in-room : (n : ℕ) → n ≡ size_after x l b → n ≤ most_declared → 4 + n ≤ room → Ok (cut_at x l n) ≡ measure x l b room
  unfolding measure
  in-room n e h k = rw (← e, le-leb n most_declared h, le-leb (4 + n) room k)

-- ---- how long the edited container is

module _ (q : Request) (a b : List ℕ) (s : List ℕ) {n : ℕ} {k : Container} (h : reading s ≡ accepted n k) where
  abbrev edited : Contents
  edited = change (edit_of q a b) (contents_of k)

  module _ (there : place_exists (edit_of q a b) (length k.found) ≡ true) where
    cut : Cutting q a b k
    cut = cutting s n k q a b h there

    pub cut_in : CutIn (stretch_of q) (laid q k)
    unfolding layout_of
    cut_in = (
      omega (arith, cut.from),
      omega (arith, cut.to),
      omega (arith, cut.kept),
      omega (arith, cut.end),
      omega (arith, protected-end k (stretch_of q).place),
      omega (arith, end-limit s n k h),
    )

    -- the edited container's bits are those that are kept, and the new ones
    declared-is : declared edited ≡ size_after (stretch_of q) (laid q k) (bringing q a b).brought
    unfolding declared size_after
    declared-is =
        let x = cut.splice in
        omega (
          arith,
          splice-lengths x,
          ap length cut.new,
          length-new q a b,
          length-container edited,
          cut.from,
          cut.to,
          cut.kept,
          cut.end,
        )

-- ---- the plan, by what is asked

planned-if : (t : Bool) (o o' : Stepped) (x : Stretch) (l : Layout) → planned (if t then o else o') x l ≡ (if t then planned o x l else planned o' x l)
planned-if true o o' x l = refl
planned-if false o o' x l = refl

module _ (q : Request) (a b : List ℕ) (s : List ℕ) (room : ℕ) where
  pub unread : {why : EmdfError} → reading s ≡ refusal why → Err (Emdf why) ≡ plan_of q a b s room
  unfolding plan_of plan_from
  unread h = rw h

  module _ {n : ℕ} {k : Container} (h : reading s ≡ accepted n k) where
    pub trailing : (n ≡ length s → ⊥) → Err TrailingData ≡ plan_of q a b s room
    unfolding plan_of plan_from step_from planned
    trailing z = rw (h, ne_eqb n (length s) z)

    module _ (whole : n ≡ length s) where
      pub no_place : place_exists (edit_of q a b) (length k.found) ≡ false → Err NoSuchPlace ≡ plan_of q a b s room
      unfolding plan_of plan_from step_from step planned
      no_place p = rw (h, eq-eqb n (length s) whole, as_many, p)

      module _ (there : place_exists (edit_of q a b) (length k.found) ≡ true) where
        abbrev brought : Brought
        brought = (bringing q a b).brought

        abbrev new : Contents
        new = change (edit_of q a b) (contents_of k)

        asked : plan_of q a b s room ≡ planned (if brought.writable then (if leb (declared new) most_declared then in_room room new else unchanged TooLong) else unchanged NotWritable) (stretch_of q) (laid q k)
        unfolding plan_of plan_from step_from step step_to
        asked =
            let p : place_exists (edit_of q a b) (length (payloads_of k.found)) ≡ true = rw as_many there in
            rw (h, eq-eqb n (length s) whole, p, change-writable (contents_of k) (read-contained s n k h).1.fit q a b p)

        pub not-writable : brought.writable ≡ false → Err NotWritable ≡ plan_of q a b s room
        unfolding planned
        not-writable w = sym (asked ∙ rw w)

        pub measures : brought.writable ≡ true → measure (stretch_of q) (laid q k) brought room ≡ plan_of q a b s room
        unfolding planned in_room measure
        measures w = sym (asked ∙ simp (w, planned-if, declared-is q a b s h there))
