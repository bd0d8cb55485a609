use mathlib.Core.Path.{◌≡◌, sym, ◌∙◌}
use Prim.Native.Nat.{◌+◌, ◌-◌, ◌*◌, ◌/◌}
use native.Mathlib.Nat.{add-zero}
use native.Mathlib.Omega.{arith}
use lib.ListN.{length, take, drop}
use Rattle.std.proofs.lemmas.List.{length-drop, length-take-le}
use Rattle.openjoc_bitio.specs.Bits.{bits_value}
use Rattle.openjoc_bitio.proofs.Bits.{value-take, value-drop, value-word, value-shift, window-past, window-word, window-end}
use Rattle.openjoc_bitio.proofs.last_window.Goals as goal

pub returns-then-n-i : goal.returns-then-n-i
returns-then-n-i c = let a = c.args in sym (window-past a.s.now a.p (omega arith))

pub returns-then-n-lt8 : goal.returns-then-n-lt8
returns-then-n-lt8 c =
    let a = c.args in
    let n = length a.s.now in
    let i = a.p / 8 in
    let l : length (take (n - i) (drop i a.s.now)) ≡ n - i = length-take-le (n - i) (drop i a.s.now) (simp length-drop (omega arith)) in
    let e : c.few_octets.result ≡ bits_value a.s.now (i * 8) ((n - i) * 8) = c.few_octets.ensures ∙ rw l (value-take (drop i a.s.now) (n - i) 0 ((n - i) * 8) (omega arith) ∙ rw add-zero at (value-drop a.s.now i 0 ((n - i) * 8))) in
    rw (e, value-word a.s.now (i * 8) ((n - i) * 8) ((8 + i - n) * 8) (omega arith) (omega arith)) (window-word a.s.now a.p)

pub returns : goal.returns
returns c =
    let a = c.args in
    let n = length a.s.now in
    let j = a.p - (n - 8) * 8 in
    let t = n * 8 - a.p in
    let e : (n - 8) * 8 + j ≡ a.p = omega arith in
    rw (c.octets_at.ensures, value-shift a.s.now ((n - 8) * 8) j t (omega arith)) (rw e (window-end a.s.now a.p t j (omega arith) (omega arith) (omega arith)))
