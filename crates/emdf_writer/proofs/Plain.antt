-- A run taken bit by bit, and one put in other ways: their bytes are the same. Assumes nothing.
use mathlib.Core.Path.{◌≡◌, refl, sym, ◌∙◌}
use mathlib.Core.List.{List, [], ◌∷◌}
use Prim.Native.Nat.{ℕ, zero, suc, ◌+◌, ◌-◌, ◌*◌, ◌/◌, ◌%◌, ◌<◌, ◌≤◌}
use native.Mathlib.Omega.{arith}
use lib.ListN.{length, get_or, set, length-set}
use lib.Seq.{sets}
use Rattle.openjoc_bitio.specs.Bits.{bit_at, number_bits}
use Rattle.openjoc_bitio.proofs.Bits.{bit-range}
use Rattle.emdf_format.specs.Syntax.{octet_bits}
use Rattle.emdf_format.specs.Edits.{Bytes}
use Rattle.emdf_format.proofs.Splice.{same-octets}
use Rattle.emdf_writer.specs.Writing.{bit_run, bit_put, bits_put}
use Rattle.emdf_writer.proofs.Stored.{part-stored, with_code}
use Rattle.emdf_writer.proofs.Run.{run-first, run_none}

-- ---- one bit

length-put : (out : List ℕ) (at b : ℕ) → length (bit_put out at b) ≡ length out
unfolding bit_put
length-put out at b = length-set out (at / 8) _

bit-stored : (out : List ℕ) (at b : ℕ) → at < length out * 8 → b < 2 → octet_bits (bit_put out at b) ≡ set (octet_bits out) at b
unfolding bit_put number_bits
bit-stored out at b h k =
    let e : at / 8 * 8 + at % 8 ≡ at = omega arith in
    let v : b / 1 % 2 ≡ b = omega arith in
    part-stored out (at / 8) (at % 8) 1 (7 - at % 8) b (omega arith) (omega arith) k ∙ rw (e, v)

set-bytes : (l : List ℕ) (i y : ℕ) → y < 256 → Bytes l → Bytes (set l i y)
set-bytes [] i y h f k = f k
set-bytes (x ∷ l) zero y h f zero = h
set-bytes (x ∷ l) zero y h f (suc k) = f (suc k)
set-bytes (x ∷ l) (suc i) y h f zero = f 0
set-bytes (x ∷ l) (suc i) y h f (suc k) = set-bytes l i y h (λ j. f (suc j)) k

put-bytes : (out : List ℕ) (at b : ℕ) → b < 2 → Bytes out → Bytes (bit_put out at b)
unfolding bit_put
put-bytes out at b k f = set-bytes out (at / 8) _ (with_code (get_or out (at / 8) 0) 1 (7 - at % 8) b (f (at / 8)) (omega arith) k).all f

-- ---- all of them

pub octets-put : (out : List ℕ) (at : ℕ) (s : List ℕ) (p n : ℕ) → at + n ≤ length out * 8 → p + n ≤ length s * 8
    → octet_bits (bits_put out at s p n) ≡ sets (octet_bits out) at (bit_run s p n)
unfolding bits_put
octets-put out at s p zero h k = sym (run_none (octet_bits out) s at p 0 refl)
octets-put out at s p (suc n) h k =
    octets-put (bit_put out at (bit_at s p)) (suc at) s (suc p) n (rw (length-put out at (bit_at s p)) (omega arith)) (omega arith)
    ∙ rw (bit-stored out at (bit_at s p) (omega arith) (bit-range s p), run-first s p n (omega arith))

bits-bytes : (out : List ℕ) (at : ℕ) (s : List ℕ) (p n : ℕ) → Bytes out → Bytes (bits_put out at s p n)
unfolding bits_put
bits-bytes out at s p zero f = f
bits-bytes out at s p (suc n) f = bits-bytes (bit_put out at (bit_at s p)) (suc at) s (suc p) n (put-bytes out at (bit_at s p) (bit-range s p) f)

-- bytes that have these bits are those that the bits one by one give
pub as-bit-by-bit : (out : List ℕ) (at : ℕ) (s : List ℕ) (p n : ℕ) (exit : List ℕ) → Bytes out → Bytes exit → at + n ≤ length out * 8 → p + n ≤ length s * 8
    → octet_bits exit ≡ sets (octet_bits out) at (bit_run s p n) → exit ≡ bits_put out at s p n
as-bit-by-bit out at s p n exit f g h k e = same-octets exit (bits_put out at s p n) g (bits-bytes out at s p n f) (e ∙ sym (octets-put out at s p n h k))
