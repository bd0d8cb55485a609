use mathlib.Core.Path.{◌≡◌, ap, ◌∙◌}
use mathlib.Core.Bool.{Bool, true, not}
use mathlib.Core.List.{List, []}
use Prim.Native.Nat.{ℕ}
use lib.ListN.{length}
use Rattle.openjoc_bitio.specs.declared.BitCursor.{BitCursor}
use Rattle.emdf_format.specs.Edits.{place_exists}
use Rattle.emdf_format.proofs.Standing.{fails, holds}
use Rattle.openjoc_emdf.specs.declared.ParsedEmdf.{ParsedEmdf}
use Rattle.openjoc_emdf.specs.Answers.{Opened}
use Rattle.emdf_request.specs.declared.Request.{Request}
use Rattle.emdf_request.specs.declared.Brought.{Brought}
use Rattle.emdf_request.specs.declared.Stretch.{Stretch}
use Rattle.emdf_request.specs.Requests.{edit_of, stretch_of, bringing}
use Rattle.emdf_request.proofs.Requests.{same_place, place_in}
use Rattle.emdf_plan.specs.declared.Layout.{Layout}
use Rattle.emdf_plan.specs.Plan.{layout_of, laid}
use Rattle.emdf_plan.proofs.Asking.{trailing, no_place, not-writable, cut_in, measures}
use Rattle.emdf_plan.proofs.Opening.{count}
use Rattle.emdf_plan.proofs.plan_opened.Goals as goal

module _ {s : List ℕ} {p : ParsedEmdf} {first : BitCursor} (o : Opened s p first) (q : Request) where
  -- the place that is asked for, by the payloads that are found
  exists : (a b : List ℕ) {r : Bool} → r ≡ place_exists (edit_of q [] []) p.container.payloads → r ≡ place_exists (edit_of q a b) (length o.container.found)
  exists a b e = e ∙ same_place q a b _ ∙ ap (place_exists (edit_of q a b)) (count o)

  layout_is : {x : Stretch} {l : Layout} → x ≡ stretch_of q → ((o : Opened s p first) → l ≡ layout_of x.place o.container) → l ≡ laid q o.container
  layout_is e h = rw (← e) (h o)

pub returns-then-parsed-source : goal.returns-then-parsed-source
returns-then-parsed-source c = trailing _ _ _ _ _ c.requires.is c.if-parsed-source.true

pub returns-then-not-place_exists : goal.returns-then-not-place_exists
returns-then-not-place_exists c =
    no_place _ _ _ _ _ c.requires.is c.if-parsed-source.false (fails (ap not c.if-not-place_exists.true) (exists c.requires c.args.change.request c.args.change.octets.now c.args.change.secondary.now c.place_exists.ensures))

pub returns-then-not-brought : goal.returns-then-not-brought
returns-then-not-brought c =
    let there = holds (ap not c.if-not-place_exists.false) (exists c.requires c.args.change.request c.args.change.octets.now c.args.change.secondary.now c.place_exists.ensures) in
    not-writable _ _ _ _ _ c.requires.is c.if-parsed-source.false there (fails c.if-not-brought.true (ap (λ (x : Brought). x.writable) c.brought_by-brought.ensures.0))

pub lay_out-layout-requires : goal.lay_out-layout-requires
lay_out-layout-requires c =
    let there = holds (ap not c.if-not-place_exists.false) (exists c.requires c.args.change.request c.args.change.octets.now c.args.change.secondary.now c.place_exists.ensures) in
    ((c.requires, rw c.stretch_of-stretch.ensures (place_in _ _ _ _ there)), c.if-parsed-source.false)

pub measured-requires : goal.measured-requires
measured-requires c =
    let there = holds (ap not c.if-not-place_exists.false) (exists c.requires c.args.change.request c.args.change.octets.now c.args.change.secondary.now c.place_exists.ensures) in
    rw (layout_is c.requires c.args.change.request c.stretch_of-stretch.ensures c.lay_out-layout.ensures, c.stretch_of-stretch.ensures) (cut_in _ _ _ _ c.requires.is there, c.brought_by-brought.ensures.1)

pub returns : goal.returns
returns c =
    let there = holds (ap not c.if-not-place_exists.false) (exists c.requires c.args.change.request c.args.change.octets.now c.args.change.secondary.now c.place_exists.ensures) in
    let fit : (bringing c.args.change.request c.args.change.octets.now c.args.change.secondary.now).brought.writable ≡ true = holds c.if-not-brought.false (ap (λ (x : Brought). x.writable) c.brought_by-brought.ensures.0) in
    let m = rw (layout_is c.requires c.args.change.request c.stretch_of-stretch.ensures c.lay_out-layout.ensures, c.stretch_of-stretch.ensures, c.brought_by-brought.ensures.0) at c.measured.ensures in
    m ∙ measures _ _ _ _ _ c.requires.is c.if-parsed-source.false there fit
