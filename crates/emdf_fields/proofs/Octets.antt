-- Octets that stand at a position, and that they are passed over. Assumes nothing.
use mathlib.Core.Path.{◌≡◌, refl, ap}
use mathlib.Core.List.{List}
use Prim.Native.Nat.{ℕ, zero, suc, ◌+◌, ◌-◌, ◌*◌, ◌%◌, ◌≤◌, ◌<◌}
use native.Mathlib.Omega.{arith}
use native.Mathlib.Decide.{dec_le}
use lib.ListN.{length}
use Rattle.openjoc_bitio.specs.declared.BitError.TheVariants.{EndOfInput}
use Rattle.openjoc_bitio.specs.declared.BitCursor.{BitCursor}
use Rattle.emdf_format.specs.Calls.{octets_at}
use Rattle.emdf_format.specs.Reader.{got, cursor_at, octets}
use Rattle.emdf_format.specs.declared.EmdfError.TheVariants.{Bit}
use Rattle.emdf_format.proofs.Standing.{bit_limit}
use Rattle.emdf_format.proofs.Loops.{octets-there, octets-short}
use Rattle.emdf_fields.specs.Fields.{count_answer}
use Rattle.emdf_format.specs.declared.EmdfError.{EmdfError}
use Rattle.openjoc_bitio.proofs.Results.{both-same, err-is-not-ok}
use Rattle.std.specs.Prelude.{Result, Ok, Err}

pub length-octets-at : (s : List ℕ) (p n : ℕ) → length (octets_at s p n) ≡ n
unfolding octets_at
length-octets-at s p zero = refl
length-octets-at s p (suc n) = ap suc (length-octets-at s (p + 8) n)

-- octets that are passed over are there
pub record Passed (s : List ℕ) (e p n : ℕ) (c : BitCursor) : Type 0 where
  pub room : 8 * n ≤ bit_limit s e - p
  pub is : octets n s e p ≡ got (octets_at s p n) c.position
  pub end : c.end ≡ e

pub passed : (s : List ℕ) (e p n : ℕ) {k : ℕ} {c : BitCursor} → count_answer e (octets n s e p) ≡ Ok (k, c) → Passed s e p n c
unfolding count_answer
passed s e p n {k} {c} h = elim (dec_le (8 * n) (bit_limit s e - p)) [ yes l ↦ fine l | no l ↦ short (omega arith) ]
  where
    fine : 8 * n ≤ bit_limit s e - p → Passed s e p n c
    fine l =
        let o = octets-there n s e p l in
        let f : ◌≡◌ {A = Result (ℕ × BitCursor) EmdfError} (Ok (length (octets_at s p n), cursor_at e (p + 8 * n))) (Ok (k, c)) = rw o at h in
        let b = (both-same f).1 in
        record { room = l; is = rw (← b) o; end = rw (← b) }

    short : bit_limit s e - p < 8 * n → Passed s e p n c
    short l =
        let o = octets-short n s e p l in
        let f : ◌≡◌ {A = Result (ℕ × BitCursor) EmdfError} (Err (Bit (EndOfInput 8 ((bit_limit s e - p) % 8)))) (Ok (k, c)) = rw o at h in
        absurd (err-is-not-ok f)
