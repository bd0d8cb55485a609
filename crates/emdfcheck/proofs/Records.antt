-- The payloads that are still to print, as the program meets them. Assumes nothing.
use mathlib.Core.Path.{◌≡◌, refl, sym, ap, ◌∙◌}
use mathlib.Core.List.{List, [], ◌∷◌, ◌++◌}
use Prim.Native.Nat.{ℕ, suc, ◌+◌, ◌*◌, ◌≤◌}
use native.Mathlib.Omega.{arith}
use lib.ListN.{length}
use lib.Seq.{take-length}
use Rattle.std.specs.Prelude.{Option, Some, Result, Ok}
use Rattle.openjoc_bitio.specs.declared.BitCursor.{BitCursor}
use Rattle.emdf_format.specs.declared.EmdfError.{EmdfError}
use Rattle.emdf_format.specs.Reading.{Found, reading}
use Rattle.emdf_format.specs.declared.PayloadRecord.{PayloadRecord}
use Rattle.emdf_format.specs.Calls.{records_of}
use Rattle.emdf_payloads.specs.Payloads.{Listed, step_at}
use Rattle.emdf_payloads.proofs.Walk.{listed-step, step-found}
use Rattle.openjoc_emdf.proofs.Opening.{read_first}
use Rattle.emdfcheck.specs.Parts.{records_in, Printable}
use Rattle.emdf_text.specs.Lines.{Printed}
use Rattle.emdfcheck.specs.Output.{record_line, record_lines}
use Rattle.emdf_text.proofs.Put.{Leaves, nothing}

-- where a carrier opens, all its payloads follow
pub all_listed : {s : List ℕ} {first : BitCursor} {at size : ℕ} (o : Printable s first at size) → Listed s first o.container.found
all_listed {s} o = let l = (read_first s (length s) o.container o.is).0 in rw o.start (rw take-length at l)

pub all-records : {s : List ℕ} {first : BitCursor} {at size : ℕ} (o : Printable s first at size) → records_in (reading s) ≡ records_of o.container.found
unfolding records_in
all-records o = rw o.is

lines_of : (x : Found) (ys xs : List Found) {r : PayloadRecord} → xs ≡ x ∷ ys → x.record_of ≡ r → record_lines (records_of xs) ≡ record_line r ++ record_lines (records_of ys)
unfolding record_lines records_of
lines_of x ys xs e f = rw (e, f)

module _ (s : List ℕ) (at : BitCursor) {step : Result (Option PayloadRecord × BitCursor) EmdfError} (i : step ≡ step_at s at) where
  -- a payload, and those after it
  pub record More (xs : List Found) (r : PayloadRecord) (next : BitCursor) : Type 0 where
    pub rest : List Found
    pub listed : Listed s next rest
    pub size : length xs ≡ suc (length rest)
    pub lines : record_lines (records_of xs) ≡ record_line r ++ record_lines (records_of rest)

  pub more : (xs : List Found) {r : PayloadRecord} {next : BitCursor} → Listed s at xs → step ≡ Ok (Some r, next) → More xs r next
  more xs l e =
      let f = step-found s at xs l (sym i ∙ e) in
      record { rest = f.others; listed = f.listed; size = ap length f.is; lines = lines_of f.first f.others xs f.is f.record_is }

  none : (xs : List Found) → Listed s at xs → ((r : PayloadRecord) (next : BitCursor) → step ≡ Ok (Some r, next) → ⊥) → xs ≡ []
  none [] l f = refl
  none (x ∷ xs) l f = let d = listed-step s at x xs l in absurd (f _ _ (i ∙ d.is))

  -- no payload: all is printed
  pub done : (xs : List Found) {before text out : List ℕ} {start end : ℕ} → Listed s at xs → ((r : PayloadRecord) (next : BitCursor) → step ≡ Ok (Some r, next) → ⊥)
      → end + 126 * length xs ≤ length out → Leaves before start text out end (record_lines (records_of xs)) → Printed before start text out end
  unfolding record_lines records_of
  done xs {before} {text} {out} {start} {end} l f h p = p _ _ (rw (none xs l f) (nothing out end (omega arith)))
