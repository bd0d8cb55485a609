-- The edited carrier: its bits in the order of writing, and what the calls answer. Assumes nothing.
use mathlib.Core.Path.{◌≡◌, refl, ◌∙◌}
use mathlib.Core.List.{List, ◌++◌}
use Prim.Native.Nat.{ℕ, ◌+◌, ◌-◌, ◌*◌, ◌^◌, ◌<◌, ◌≤◌}
use native.Mathlib.Omega.{arith}
use lib.ListN.{length, take, drop}
use lib.Seq.{sets}
use Rattle.std.specs.Prelude.{Result, Ok, Err}
use Rattle.openjoc_bitio.specs.declared.ByteCount.{ByteCount}
use Rattle.openjoc_bitio.specs.Bits.{number_bits}
use Rattle.emdf_format.specs.declared.EditError.{EditError}
use Rattle.emdf_format.specs.Syntax.{◌⨟◌, octet_bits}
use Rattle.emdf_format.specs.Contents.{carrier}
use Rattle.emdf_format.specs.Edits.{Bytes, carrier_length, step_answer, written, edited, Called}
use Rattle.emdf_format.proofs.Splice.{⨟-assoc}
use Rattle.emdf_writer.specs.Writing.{bit_run}
use Rattle.emdf_writer.proofs.Run.{length_run}
use Rattle.emdf_plan.specs.declared.Cut.{Cut}
use Rattle.emdf_request.specs.Requests.{edit_of, new_bits}
use Rattle.emdf_plan.specs.Plan.{plan_of, spliced}
use Rattle.emdf_field_writer.specs.Fields.{sync_bits}
use Rattle.emdf_request.specs.declared.Request.{Request}
use Rattle.emdf_edit.specs.Cuts.{kept_bits, Within}
use Rattle.emdf_field_writer.proofs.Putting.{length-sync}
use Rattle.emdf_field_writer.proofs.Written.{front-written}
use Rattle.emdf_plan.proofs.Spliced.{Spliceable, plan-refused}

module _ {s : List ℕ} {cut : Cut} {new : List ℕ} (w : Within s cut new) where
  abbrev from : ℕ
  from = cut.from.0

  abbrev to : ℕ
  to = cut.to.0

  abbrev kept : ℕ
  kept = cut.kept.0

  abbrev size : ℕ
  size = cut.size.0

  -- all that is asked of numbers
  pub splice-sizes : (32 ≤ from) × (from ≤ to) × (to ≤ kept) × (kept ≤ length s * 8) × (length s < 2 ^ 61) × (size < 65536)
      × (length (sync_bits size) ≡ 32) × (length (bit_run s 32 (from - 32)) ≡ from - 32) × (length (bit_run s to (kept - to)) ≡ kept - to)
      × (kept_bits cut new ≡ (from - 32) + length new + (kept - to)) × (kept_bits cut new ≤ 8 * size)
  unfolding kept_bits
  splice-sizes = (
    w.starts,
    w.ordered,
    w.ends,
    w.there,
    w.short,
    w.small,
    length-sync size,
    length_run s 32 (from - 32) (omega (arith, w.starts, w.ordered, w.ends, w.there)),
    length_run s to (kept - to) (omega (arith, w.ends, w.there)),
    refl,
    w.covers,
  )

  pub splice-bits : (end : ℕ) → end ≡ 32 + kept_bits cut new
      → sync_bits cut.size.0 ⨟ bit_run s 32 (cut.from.0 - 32) ⨟ new ⨟ bit_run s cut.to.0 (cut.kept.0 - cut.to.0) ⨟ number_bits ((4 + cut.size.0) * 8 - end) 0 ≡ spliced s cut new
  unfolding sync_bits spliced kept_bits
  splice-bits end e =
      let z : (4 + cut.size.0) * 8 - end ≡ 8 * cut.size.0 - ((cut.from.0 - 32) + length new + (cut.kept.0 - cut.to.0)) = omega (arith, e) in
      rw z (simp ⨟-assoc)

-- ---- the calls

module _ (q : Request) (a b src dst : List ℕ) where
  abbrev Answers : Result ByteCount EditError → List ℕ → Type 0
  Answers = Called (edit_of q a b) src dst

  pub refused : {why : EditError} → plan_of q a b src (length dst) ≡ Err why → Answers (Err why) dst
  unfolding edited step_answer written
  refused {why} h = rw (plan-refused q a b src (length dst) why h) (refl, refl)

  module _ {cut : Cut} (p : Spliceable q a b src (length dst) cut) where
    pub within : Within src cut (new_bits q a b)
    unfolding kept_bits
    within =
        record {
          starts = p.starts;
          ordered = p.ordered;
          ends = p.ends;
          there = p.there;
          short = p.short;
          small = p.small;
          covers = omega (arith, p.covers, p.size);
        }

    pub room : 4 + cut.size.0 ≤ length dst
    room = omega (arith, p.size, p.fits)

    -- front is what stands in the first bytes after their bits are put
    pub spliced-answer : {n : ℕ} (front : List ℕ) → n ≡ 4 + cut.size.0 → Bytes dst → Bytes (front ++ drop n dst)
        → octet_bits front ≡ sets (octet_bits (take n dst)) 0 (spliced src cut (new_bits q a b)) → Answers (Ok (record { 0 = n })) (front ++ drop n dst)
    unfolding edited step_answer written
    spliced-answer {n} front z f g h =
        let l : n ≡ carrier_length p.contents = omega (arith, z, p.size) in
        let b : front ++ drop n dst ≡ carrier p.contents ++ drop n dst = front-written p.contents n dst front l (omega (arith, l, p.fits)) f g (h ∙ rw p.bits) in
        rw (p.is, ← l) (refl, b)
