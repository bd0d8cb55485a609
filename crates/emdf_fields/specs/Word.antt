-- The first bits of a word of 64 bits, from its top on. Assumes nothing.
use Rattle.std.specs.Prelude.{ℕ, ◌-◌, ◌*◌, ◌/◌, ◌%◌, ◌^◌}

-- the first w bits of a word, and the word after them
abbrev pub top : ℕ → ℕ → ℕ
top w x = x / 2 ^ (64 - w)

abbrev pub after : ℕ → ℕ → ℕ
after w x = x * 2 ^ w % 2 ^ 64
