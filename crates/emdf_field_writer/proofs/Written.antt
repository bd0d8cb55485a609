-- The bytes of a carrier whose bits are put. Assumes nothing.
use mathlib.Core.Path.{◌≡◌, sym, ap, ◌∙◌, subst}
use mathlib.Core.List.{List, [], ◌∷◌, ◌++◌, append-nil}
use Prim.Native.Nat.{ℕ, zero, suc, ◌≤◌}
use native.Mathlib.Omega.{arith}
use lib.ListN.{length, take, drop, take-append-drop}
use lib.Seq.{sets, length-take-le, drop-length}
use lib.Dec.{lit<}
use Rattle.emdf_format.specs.Syntax.{octet_bits}
use Rattle.emdf_format.specs.Contents.{Contents, carrier_bits, carrier}
use Rattle.emdf_format.specs.Edits.{Bytes, carrier_length}
use Rattle.emdf_format.proofs.Splice.{written-bytes}

bytes-front : (xs ys : List ℕ) → Bytes (xs ++ ys) → Bytes xs
bytes-front [] ys f k = lit< tt
bytes-front (x ∷ xs) ys f zero = f 0
bytes-front (x ∷ xs) ys f (suc k) = bytes-front xs ys (λ i. f (suc i)) k

-- p is what stands in the first n bytes of dst after their bits are put
pub front-written : (c : Contents) (n : ℕ) (dst p : List ℕ) → n ≡ carrier_length c → n ≤ length dst → Bytes dst → Bytes (p ++ drop n dst)
    → octet_bits p ≡ sets (octet_bits (take n dst)) 0 (carrier_bits c) → p ++ drop n dst ≡ carrier c ++ drop n dst
front-written c n dst p e h f g k =
    let l : length (take n dst) ≡ n = length-take-le n dst h in
    let t : Bytes (take n dst) = bytes-front (take n dst) (drop n dst) (subst Bytes (sym (take-append-drop n dst)) f) in
    let w : p ≡ carrier c ++ drop (carrier_length c) (take n dst) = written-bytes c (take n dst) p t (bytes-front p (drop n dst) g) (omega (arith, l, e)) k in
    let z : carrier_length c ≡ length (take n dst) = omega (arith, l, e) in
    let q : carrier c ++ drop (carrier_length c) (take n dst) ≡ carrier c = rw (z, drop-length) (append-nil (carrier c)) in
    ap (λ (x : List ℕ). x ++ drop n dst) (w ∙ q)
