-- The answers of fields, by what emdf_format's readers find: e is the end of the cursor that was handed in. Assumes nothing.
use Rattle.std.specs.Prelude.{List, ℕ, ◌+◌, ◌*◌, ◌^◌, length, ltb, eqb, if◌then◌else◌, Option, Some, None, Result, Ok, Err}
use Rattle.openjoc_bitio.specs.declared.BitCursor.{BitCursor}
use Rattle.emdf_format.specs.Syntax.{groups}
use Rattle.emdf_format.specs.Reader.{Read, got, refused, Reader, ◌>>=◌, give, ask, choose, cursor_at, bits}
use Rattle.emdf_format.specs.declared.EmdfError.{EmdfError}
use Rattle.emdf_format.specs.declared.EmdfError.TheVariants.{VariableBitsGroupLimit, ValueOverflow}
use Rattle.emdf_fields.specs.declared.FieldError.{FieldError}
use Rattle.emdf_fields.specs.declared.GroupRead.{GroupRead}
use Rattle.emdf_fields.specs.declared.GroupRead.TheVariants.{Last, More}

-- what a reader finds and the cursor past it; or why it is refused, and the cursor after the last bit that was read
unfoldable pub field_answer : {A : Type 0} → ℕ → Read A → Result (A × BitCursor) FieldError
field_answer e (got v q) = Ok (v, cursor_at e q)
field_answer e (refused why q) = Err (record { why = why; cursor = cursor_at e q })

-- a variable field of groups of w bits, with how many groups its value takes
unfoldable pub variable_answer : ℕ → ℕ → Read ℕ → Result (ℕ × ℕ × BitCursor) FieldError
variable_answer w e (got v q) = Ok (v, groups w v, cursor_at e q)
variable_answer w e (refused why q) = Err (record { why = why; cursor = cursor_at e q })

-- what a reader finds and the cursor past it; or why it is refused
unfoldable pub answer : {A : Type 0} → ℕ → Read A → Result (A × BitCursor) EmdfError
answer e (got a q) = Ok (a, cursor_at e q)
answer e (refused why q) = Err why

-- how many there are of what a reader lists
unfoldable pub count_answer : {A : Type 0} → ℕ → Read (List A) → Result (ℕ × BitCursor) EmdfError
count_answer e (got xs q) = Ok (length xs, cursor_at e q)
count_answer e (refused why q) = Err why

-- ---- one group of a variable field

-- the body of emdf_format's groups_from, where n groups may follow
unfoldable pub one_group : ℕ → ℕ → ℕ → ℕ → Reader GroupRead
one_group w limit n start = do
  value ← bits w
  _ ← ask (ltb (start + value) (2 ^ 64)) ValueOverflow
  flag ← bits 1
  choose (eqb flag 0) (give (Last (start + value))) do
    _ ← ask (ltb 0 n) (VariableBitsGroupLimit w limit)
    _ ← ask (ltb ((start + value) * 2 ^ w + 2 ^ w) (2 ^ 64)) ValueOverflow
    give (More ((start + value) * 2 ^ w + 2 ^ w))

-- the same of a group past its more bit, by the sum that it makes and by that bit
unfoldable pub group_rest : ℕ → ℕ → ℕ → ℕ → ℕ → ℕ → ℕ → Result (GroupRead × BitCursor) FieldError
group_rest w limit n sum flag e q =
    if eqb flag 0
    then Ok (Last sum, cursor_at e q)
    else (if ltb 0 n
    then (if ltb (sum * 2 ^ w + 2 ^ w) (2 ^ 64) then Ok (More (sum * 2 ^ w + 2 ^ w), cursor_at e q) else Err (record { why = ValueOverflow; cursor = cursor_at e q }))
    else Err (record { why = VariableBitsGroupLimit w limit; cursor = cursor_at e q }))

-- by its value, which ends at q, and by its more bit
unfoldable pub group_of : ℕ → ℕ → ℕ → ℕ → ℕ → ℕ → ℕ → ℕ → Result (GroupRead × BitCursor) FieldError
group_of w limit n start value flag e q =
    if ltb (start + value) (2 ^ 64)
    then group_rest w limit n (start + value) flag e (q + 1)
    else Err (record { why = ValueOverflow; cursor = cursor_at e q })

unfoldable pub start_answer : ℕ → Option ℕ
start_answer v = if ltb v (2 ^ 64) then Some v else None
