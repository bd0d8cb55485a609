-- What the exported field calls return and write: the form of the bit calls, and the groups after it. Assumes nothing.
use Rattle.std.specs.Prelude.{ℕ, List, [], ◌∷◌, ◌++◌, ◌≡◌, Result, Ok, Err}
use Rattle.openjoc_bitio.specs.declared.BitCursor.{BitCursor}
use Rattle.emdf_format.specs.Reader.{variable_bits}
use Rattle.emdf_fields.specs.declared.FieldError.{FieldError}
use Rattle.emdf_fields.specs.Fields.{variable_answer}
use Rattle.emdf_answers.specs.declared.FieldReply.{FieldReply}
use Rattle.emdf_answers.specs.Form.{words}
use Rattle.emdf_answers.specs.Bits.{reply_words, accepted, refused_at}

-- what is returned and written: the groups stand after the six numbers
abbrev pub FieldReplies : FieldReply → ℕ → List ℕ → Type 0
FieldReplies a r answer = (r ≡ a.reply.number) × (answer ≡ words (reply_words a.reply ++ a.groups ∷ []))

-- a refused field has a cursor of its own
unfoldable pub field_reply : Result (ℕ × ℕ × BitCursor) FieldError → FieldReply
field_reply (Ok (v, groups, next)) = record { reply = accepted next v; groups = groups }
field_reply (Err f) = record { reply = refused_at f.cursor f.why; groups = 0 }

unfoldable pub variable_bits_reply : List ℕ → ℕ → ℕ → ℕ → ℕ → FieldReply
variable_bits_reply s p e w limit = field_reply (variable_answer w e (variable_bits w limit s e p))
