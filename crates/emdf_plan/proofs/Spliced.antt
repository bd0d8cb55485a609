-- What a plan says of its edit: a splice makes the carrier of what the step leaves, and a refusal is the step's. Assumes nothing.
use mathlib.Core.Path.{◌≡◌, refl, ap, ◌∙◌}
use mathlib.Core.Bool.{Bool, true, false}
use mathlib.Core.List.{List}
use Prim.Native.Nat.{ℕ, ◌+◌, ◌-◌, ◌*◌, ◌^◌, ◌≤◌, ◌<◌}
use native.Mathlib.Omega.{arith}
use lib.ListN.{length}
use lib.Seq.{take_at, drop_at}
use lib.Dec.{eqb, eqb→eq}
use Rattle.std.specs.Prelude.{if◌then◌else◌, Ok, Err}
use Rattle.openjoc_bitio.specs.Bits.{number_bits}
use Rattle.openjoc_bitio.proofs.Bits.{length-number}
use Rattle.emdf_format.specs.declared.EditError.{EditError}
use Rattle.emdf_format.specs.declared.EditError.TheVariants.{TrailingData}
use Rattle.emdf_format.specs.Syntax.{syncword, ◌⨟◌, octet_bits}
use Rattle.emdf_format.specs.Contents.{Contents, declared, container_bits, carrier_bits, carrier}
use Rattle.emdf_format.specs.Reading.{Reading, accepted, refusal, reading, contents_of}
use Rattle.emdf_format.specs.Edits.{change, Stepped, changed, unchanged, carrier_length, step_from, Bytes}
use Rattle.emdf_format.proofs.Standing.{T_of, length-then}
use Rattle.emdf_format.proofs.Bytes.{declared-is, octets-carrier, length-carrier}
use Rattle.emdf_format.proofs.Carrier.{read-size}
use Rattle.emdf_format.proofs.Lists.{carried, changes}
use Rattle.emdf_format.proofs.Splice.{Splice as SpliceOf, ⨟-assoc, zeros-append}
use Rattle.emdf_writer.specs.Writing.{bit_run}
use Rattle.emdf_plan.specs.declared.Cut.{Cut}
use Rattle.emdf_request.specs.declared.Stretch.{Stretch}
use Rattle.emdf_plan.specs.declared.Layout.{Layout}
use Rattle.emdf_request.specs.declared.Request.{Request}
use Rattle.emdf_request.specs.Requests.{edit_of, stretch_of, new_bits}
use Rattle.emdf_plan.specs.Plan.{laid, cut_at, planned, plan_from, plan_of, spliced}
use Rattle.emdf_plan.proofs.Cutting.{splice-lengths, as_many, cutting}

-- ---- the bits of a carrier around a cut

-- bits that stand after others
run-after : (s xs ys zs : List ℕ) (p n : ℕ) → length xs ≡ p → length ys ≡ n → octet_bits s ≡ xs ⨟ ys ⨟ zs → bit_run s p n ≡ ys
unfolding bit_run ◌⨟◌
run-after s xs ys zs p n k l h = rw (h, drop_at xs (ys ⨟ zs) p k) (take_at ys zs n l)

-- the bits of the container after a cut, without what is cleared
kept-bits : {c d : Contents} (x : SpliceOf c d) (cut : Cut) → cut.from.0 ≡ 32 + length x.before
    → cut.to.0 ≡ cut.from.0 + length x.old → cut.kept.0 ≡ cut.to.0 + length x.after
    → (cut.from.0 - 32) + length x.new + (cut.kept.0 - cut.to.0) + length x.rest ≡ length (container_bits d)
kept-bits x cut from to kept = omega (arith, from, to, kept, splice-lengths x)

-- cut where a splice of its container replaces bits, a carrier becomes that of the other contents
spliced-carrier : {c d : Contents} (x : SpliceOf c d) (cut : Cut) → cut.size.0 ≡ declared d → cut.from.0 ≡ 32 + length x.before
    → cut.to.0 ≡ cut.from.0 + length x.old → cut.kept.0 ≡ cut.to.0 + length x.after → spliced (carrier c) cut x.new ≡ carrier_bits d
unfolding spliced carrier_bits
spliced-carrier {c} {d} x cut size from to kept =
    let sync = number_bits 16 syncword ⨟ number_bits 16 (declared c) in
    let pad = number_bits (8 * declared c - length (container_bits c)) 0 in
    let all : octet_bits (carrier c) ≡ sync ⨟ x.before ⨟ x.old ⨟ x.after ⨟ x.rest ⨟ pad = octets-carrier c ∙ rw x.was (simp ⨟-assoc) in
    let before : bit_run (carrier c) 32 (cut.from.0 - 32) ≡ x.before =
    run-after _ sync _ _ _ _ (simp (length-then, length-number)) (omega (arith, from)) all in
    let after : bit_run (carrier c) cut.to.0 (cut.kept.0 - cut.to.0) ≡ x.after =
    run-after _ (sync ⨟ x.before ⨟ x.old) _ (x.rest ⨟ pad) _ _ (simp (length-then, length-number) (omega (arith, from, to))) (omega (arith, kept)) (all ∙ simp ⨟-assoc) in
    let zeros : 8 * declared d - ((cut.from.0 - 32) + length x.new + (cut.kept.0 - cut.to.0)) ≡ length x.rest + (8 * declared d - length (container_bits d)) =
    omega (arith, kept-bits x cut from to kept, declared-is d) in
    rw (before, after, size, zeros, ← zeros-append (length x.rest) (8 * declared d - length (container_bits d)), x.is) (simp ⨟-assoc)

-- ---- a source that is all of its container

whole : (t : Bool) (o : Stepped) {d : Contents} → (if t then o else unchanged TrailingData) ≡ changed d → (t ≡ true) × (o ≡ changed d)
whole true o h = (refl, h)
whole false o h = absurd (let z : ◌≡◌ {A = ℕ} 0 1 = cc in omega arith)

-- ---- what a plan says

-- the step is made, and its carrier is the source with other bits between from and to
pub record Spliceable (q : Request) (a b : List ℕ) (src : List ℕ) (room : ℕ) (cut : Cut) : Type 0 where
  pub contents : Contents
  pub is : step_from (reading src) (length src) (edit_of q a b) room ≡ changed contents
  pub size : cut.size.0 ≡ declared contents
  pub small : cut.size.0 < 65536
  pub fits : carrier_length contents ≤ room
  pub starts : 32 ≤ cut.from.0
  pub ordered : cut.from.0 ≤ cut.to.0
  pub ends : cut.to.0 ≤ cut.kept.0
  pub there : cut.kept.0 ≤ length src * 8
  pub short : length src < 2 ^ 61
  pub covers : (cut.from.0 - 32) + length (new_bits q a b) + (cut.kept.0 - cut.to.0) ≤ 8 * declared contents
  pub bits : spliced src cut (new_bits q a b) ≡ carrier_bits contents

planned-splice : (o : Stepped) (x : Stretch) (l : Layout) {cut : Cut} → planned o x l ≡ Ok cut
    → (d : Contents) × (o ≡ changed d) × (cut_at x l (declared d) ≡ cut)
unfolding planned
planned-splice (changed d) x l h = (d, refl, cc)
planned-splice (unchanged why) x l h = absurd (let z : ◌≡◌ {A = ℕ} 0 1 = cc in omega arith)

planned-refused : (o : Stepped) (x : Stretch) (l : Layout) {why : EditError} → planned o x l ≡ Err why → o ≡ unchanged why
unfolding planned
planned-refused (changed d) x l h = absurd (let z : ◌≡◌ {A = ℕ} 0 1 = cc in omega arith)
planned-refused (unchanged why) x l h = cc

module _ (q : Request) (a b : List ℕ) (src : List ℕ) (room : ℕ) where
  pub plan-splice : (cut : Cut) → Bytes src → plan_of q a b src room ≡ Ok cut → Spliceable q a b src room cut
  unfolding plan_of plan_from step_from cut_at
  plan-splice cut f h = from (reading src) refl h
    where
      from : (r : Reading) → reading src ≡ r → plan_from r (length src) q a b room ≡ Ok cut → Spliceable q a b src room cut
      from (refusal why) r h = absurd (let z : ◌≡◌ {A = ℕ} 0 1 = cc in omega arith)
      from (accepted n k) r h =
          let c : Contents = contents_of k in
          let (d, i, z) = planned-splice _ _ _ h in
          let (m, j) = whole (eqb n (length src)) _ i in
          let w = changes (edit_of q a b) room c d j in
          let t : n ≡ length src = eqb→eq n (length src) (T_of m) in
          let s : src ≡ carrier c = (carried src k f (r ∙ rw t)).is in
          let g = cutting src n k q a b r (rw as_many at w.place) in
          rw (← z, ← w.is) (record {
            contents = change (edit_of q a b) c;
            is = rw r (i ∙ rw w.is);
            size = refl;
            small = omega (arith, w.small, ap declared w.is);
            fits = omega (arith, w.fits, ap declared w.is);
            starts = omega (arith, g.from);
            ordered = omega (arith, g.to);
            ends = omega (arith, g.kept);
            there = omega (arith, g.from, g.to, g.kept, splice-lengths g.splice, declared-is c, ap length s, length-carrier c);
            short = omega (arith, read-size src n k r);
            covers =
                rw (← g.new)
                (omega (arith, kept-bits g.splice (cut_at (stretch_of q) (laid q k) (declared (change (edit_of q a b) c))) g.from g.to g.kept, declared-is (change (edit_of q a b) c)));
            bits = rw (s, ← g.new) (spliced-carrier g.splice _ refl g.from g.to g.kept);
          })

  pub plan-refused : (why : EditError) → plan_of q a b src room ≡ Err why → step_from (reading src) (length src) (edit_of q a b) room ≡ unchanged why
  unfolding plan_of plan_from step_from
  plan-refused why h = from (reading src) h
    where
      from : (r : Reading) → plan_from r (length src) q a b room ≡ Err why → step_from r (length src) (edit_of q a b) room ≡ unchanged why
      from (refusal y) h = cc
      from (accepted n k) h = planned-refused _ _ _ h
