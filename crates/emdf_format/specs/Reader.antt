-- Readers: what is found from position p of bytes s, up to the end e, or why it is refused; and the fields of Annex H as readers,
-- each question in its place. Assumes nothing.
use Rattle.std.specs.Prelude.{Bool, true, false, List, [], ◌∷◌, ℕ, zero, suc, ◌+◌, ◌*◌, ◌^◌, leb, ltb, eqb, Option, Some, None, Result, Ok, Err}
use Rattle.openjoc_bitio.specs.declared.BitError.{BitError}
use Rattle.openjoc_bitio.specs.Cursor.{bits_remaining, read_bits}
use Rattle.openjoc_bitio.specs.declared.BitCursor.{BitCursor}
use Rattle.emdf_format.specs.Types.{EmdfError}
use Rattle.emdf_format.specs.declared.EmdfError.TheVariants.{Bit, InvalidVariableBits, VariableBitsGroupLimit, ValueOverflow}
use Rattle.emdf_format.specs.Syntax.{escape}
use Rattle.emdf_format.specs.Contents.{◌&◌}

infixl 20 ◌>>=◌
-- what was found and the position past it; or a refusal, and the position after the last bit that was read
pub data Read (A : Type 0) : Type 0 where
  got : A → ℕ → Read A
  refused : EmdfError → ℕ → Read A

abbrev pub Reader : Type 0 → Type 0
Reader A = List ℕ → ℕ → ℕ → Read A

unfoldable pub and_then : {A B : Type 0} → Read A → (A → ℕ → Read B) → Read B
and_then (got a q) k = k a q
and_then (refused why q) k = refused why q

unfoldable pub ◌>>=◌ : {A B : Type 0} → Reader A → (A → Reader B) → Reader B
◌>>=◌ m k s e p = and_then (m s e p) (λ a q. k a s e q)

unfoldable pub give : {A : Type 0} → A → Reader A
give a s e p = got a p

-- a question, and the refusal at "no"
unfoldable pub ask : Bool → EmdfError → Reader (Unit {0})
ask true why s e p = got tt p
ask false why s e p = refused why p

unfoldable pub choose : {A : Type 0} → Bool → Reader A → Reader A → Reader A
choose true x y = x
choose false x y = y

abbrev pub cursor_at : ℕ → ℕ → BitCursor
cursor_at e p = record { position = p; end = e }

unfoldable pub position : Reader ℕ
position s e p = got p p

unfoldable pub remaining : Reader ℕ
remaining s e p = got (bits_remaining s (cursor_at e p)) p

-- w bits as a number: questions 3 and 4
unfoldable pub from_bits : ℕ → Result (ℕ × BitCursor) BitError → Read ℕ
from_bits p (Ok (v, c)) = got v c.position
from_bits p (Err why) = refused (Bit why) p

unfoldable pub bits : ℕ → Reader ℕ
bits w s e p = from_bits p (read_bits s (cursor_at e p) w)

-- ---- variable_bits, clause H.2.1.2.1

-- at most n groups more, from a start: 7 where the sum passes 64 bits, 6 where the last one allowed is not the last, 7 where the
-- next start passes 64 bits
unfoldable pub groups_from : ℕ → ℕ → ℕ → ℕ → Reader ℕ
groups_from w limit zero start = do
  _ ← ask false (VariableBitsGroupLimit w limit)
  give start
groups_from w limit (suc n) start = do
  value ← bits w
  _ ← ask (ltb (start + value) (2 ^ 64)) ValueOverflow
  more ← bits 1
  choose (eqb more 0) (give (start + value)) do
    _ ← ask (ltb 0 n) (VariableBitsGroupLimit w limit)
    _ ← ask (ltb ((start + value) * 2 ^ w + 2 ^ w) (2 ^ 64)) ValueOverflow
    groups_from w limit n ((start + value) * 2 ^ w + 2 ^ w)

unfoldable pub variable_bits : ℕ → ℕ → Reader ℕ
variable_bits w limit = do
  _ ← ask (leb 1 w & leb w 63 & leb 1 limit) (InvalidVariableBits w limit)
  groups_from w limit limit 0

-- w bits; all ones are an escape, to which a variable field of at most 31 groups is added
unfoldable pub extended_value : ℕ → Reader ℕ
extended_value w = do
  base ← bits w
  choose (eqb base (escape w)) (do
    value ← variable_bits w 31
    _ ← ask (ltb (base + value) (2 ^ 64)) ValueOverflow
    give (base + value)) (give base)

-- ---- octets, and fields that may be absent

unfoldable pub octets : ℕ → Reader (List ℕ)
octets zero = give []
octets (suc n) = do
  b ← bits 8
  bs ← octets n
  give (b ∷ bs)

-- the field, where the test says that it is there
unfoldable pub present : Bool → Reader ℕ → Reader (Option ℕ)
present there field = choose there (do v ← field; give (Some v)) (give None)

-- a flag and, where it is set, the field
unfoldable pub flagged : Reader ℕ → Reader (Option ℕ)
flagged field = do
  flag ← bits 1
  present (eqb flag 1) field
