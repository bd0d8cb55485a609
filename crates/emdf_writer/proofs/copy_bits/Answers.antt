use mathlib.Core.Bool.{true}
use mathlib.Core.Path.{◌≡◌, sym, ◌∙◌}
use Prim.Native.Nat.{◌+◌}
use lib.Dec.{leb}
use Rattle.openjoc_bitio.specs.Cursor.{bit_length}
use Rattle.emdf_writer.proofs.Fitting.{inside, run-away, run_out, run_in}
use Rattle.emdf_writer.proofs.Plain.{as-bit-by-bit}
use Rattle.emdf_writer.proofs.copy_bits.Goals as goal
use Rattle.emdf_writer.proofs.copy_bits.Goals.{then-not-has_bits-via-then-not-has_bits, then-not-has_bits-via-else-not-has_bits+then-not-has_bits-2}

pub returns-then-not-has_bits : goal.returns-then-not-has_bits
returns-then-not-has_bits c =
    elim c.then-not-has_bits.branch [
      | then-not-has_bits-via-then-not-has_bits w ↦ run-away _ _ _ _ _ (sym c.has_bits.ensures ∙ w.if-not-has_bits.true)
      | then-not-has_bits-via-else-not-has_bits+then-not-has_bits-2 w ↦
          run_out _ _ _ _ _ (sym c.has_bits.ensures ∙ w.if-not-has_bits.false) (sym w.has_bits-else-not-has_bits.ensures ∙ w.if-not-has_bits-2.true)
    ]

pub copy_run-requires : goal.copy_run-requires
copy_run-requires c =
    let there : let a = c.args in leb (a.from + a.n) (bit_length a.s.now) ≡ true = sym c.has_bits.ensures ∙ c.if-not-has_bits.false in
    let room : let a = c.args in leb (a.at + a.n) (bit_length a.out.now) ≡ true = sym c.has_bits-else-not-has_bits.ensures ∙ c.if-not-has_bits-2.false in
    let i = inside _ _ _ room in
    let j = inside _ _ _ there in
    (i.within, j.within, i.small, j.small)

pub returns : goal.returns
returns c =
    let there : let a = c.args in leb (a.from + a.n) (bit_length a.s.now) ≡ true = sym c.has_bits.ensures ∙ c.if-not-has_bits.false in
    let room : let a = c.args in leb (a.at + a.n) (bit_length a.out.now) ≡ true = sym c.has_bits-else-not-has_bits.ensures ∙ c.if-not-has_bits-2.false in
    let t = there in
    let h = run_in _ _ _ _ _ t room in
    let i = inside _ _ _ room in
    let j = inside _ _ _ t in
    (h.0, as-bit-by-bit _ _ _ _ _ _ (λ k. (c.slice_known-1.given k).fits) (λ k. (c.slice_known-2-1.given k).fits) i.within j.within c.copy_run.ensures ∙ h.1)
