-- Octets at any bit, put over a buffer's first. Assumes nothing.
use mathlib.Core.Path.{◌≡◌, sym, ap, ◌∙◌}
use mathlib.Core.List.{List, ◌++◌}
use Prim.Native.Nat.{ℕ, zero, suc, ◌+◌, ◌*◌, ◌≤◌}
use native.Mathlib.Omega.{arith}
use lib.ListN.{length, drop}
use lib.Seq.{sets}
use lib.Dec.{lit<}
use Rattle.openjoc_bitio.specs.Bits.{bits_value, number_bits}
use Rattle.openjoc_bitio.proofs.Bits.{value-range}
use Rattle.emdf_format.specs.Syntax.{◌⨟◌, octet_bits}
use Rattle.emdf_format.specs.Calls.{octets_at}
use Rattle.emdf_format.specs.Edits.{Bytes}
use Rattle.emdf_format.proofs.Splice.{front_bytes}
use Rattle.emdf_writer.specs.Writing.{bit_run}
use Rattle.emdf_writer.proofs.Run.{run-nil, run-add, run_value}
use Rattle.emdf_fields.proofs.Octets.{length-octets-at}

octets-bytes : (s : List ℕ) (p n : ℕ) → Bytes (octets_at s p n)
unfolding octets_at
octets-bytes s p zero k = lit< tt
octets-bytes s p (suc n) zero = value-range s p 8
octets-bytes s p (suc n) (suc k) = octets-bytes s (p + 8) n k

-- their bits are a run of the slice's
octets-run : (s : List ℕ) (p n : ℕ) → p + n * 8 ≤ length s * 8 → octet_bits (octets_at s p n) ≡ bit_run s p (n * 8)
unfolding octets_at octet_bits ◌⨟◌
octets-run s p zero h = sym (run-nil s p)
octets-run s p (suc n) h =
    let e : suc n * 8 ≡ 8 + n * 8 = omega arith in
    ap (λ (l : List ℕ). number_bits 8 (bits_value s p 8) ++ l) (octets-run s (p + 8) n (omega arith))
    ∙ sym (ap (bit_run s p) e ∙ run-add s p 8 (n * 8) ∙ ap (λ (l : List ℕ). l ++ bit_run s (p + 8) (n * 8)) (run_value s p 8 (omega arith)))

-- what a buffer holds once they are copied to its start
pub octets-copied : (out out' s : List ℕ) (p n : ℕ) → Bytes out → Bytes out' → n ≤ length out → p + n * 8 ≤ length s * 8
    → octet_bits out' ≡ sets (octet_bits out) 0 (bit_run s p (n * 8)) → out' ≡ octets_at s p n ++ drop n out
octets-copied out out' s p n f g l h e =
    let k : length (octets_at s p n) ≡ n = length-octets-at s p n in
    rw k at (front_bytes (octets_at s p n) out out' (octets-bytes s p n) f g (rw k l) (e ∙ ap (sets (octet_bits out) 0) (sym (octets-run s p n h))))
