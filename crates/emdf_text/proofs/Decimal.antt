-- The digits that itoa writes are the number in decimal. Assumes nothing.
use mathlib.Core.Path.{◌≡◌, sym}
use Prim.Native.Nat.{ℕ, suc, ◌^◌, ◌≤◌, ◌<◌}
use native.Mathlib.Omega.{arith}
use lib.ListN.{length}
use borrow.Author.Tests.{lt-ltb, le-ltb}
use Rattle.std.specs.Fmt.{decimal as written}
use Rattle.std.proofs.lemmas.Fmt.{AppendsLastDigit, decimal_from_appends, length-decimal-le, length-decimal-le_succ}
use Rattle.emdf_text.specs.Lines.{digits, decimal}

last_digit : AppendsLastDigit digits
unfolding digits
last_digit = record { one = λ k n h. simp (lt-ltb n 10 h); more = λ k n h. simp (le-ltb n 10 h) }

pub decimal-is : (n : ℕ) → n < 2 ^ 64 → written n ≡ decimal n
unfolding decimal
decimal-is n h = sym (decimal_from_appends digits last_digit (suc n) n h (omega (arith, length-decimal-le_succ n h)))

-- a number of 64 bits has at most 20 digits
pub few-digits : (n : ℕ) → n < 2 ^ 64 → length (decimal n) ≤ 20
few-digits n h = rw (← decimal-is n h) (length-decimal-le 20 n (omega arith) (omega arith) h)
