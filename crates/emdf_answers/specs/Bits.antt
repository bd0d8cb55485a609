-- What each exported bit call returns and writes: docs/HOST.md, 'Bit calls'. Assumes nothing.
use Rattle.std.specs.Prelude.{Bool, ◌≡◌, ℕ, List, [], ◌∷◌, if◌then◌else◌, Result, Ok, Err}
use Rattle.openjoc_bitio.specs.declared.BitError.{BitError}
use Rattle.openjoc_bitio.specs.Cursor.{whole_slice, bits_remaining, read_bits, read_bit, take_bits, byte_align}
use Rattle.openjoc_bitio.specs.declared.BitCursor.{BitCursor}
use Rattle.emdf_format.specs.Reader.{cursor_at}
use Rattle.emdf_format.specs.Refusals.{refusal_of, figures_of}
use Rattle.emdf_format.specs.declared.EmdfError.{EmdfError}
use Rattle.emdf_format.specs.declared.EmdfError.TheVariants.{Bit}
use Rattle.emdf_format.specs.declared.Figures.{Figures}
use Rattle.emdf_answers.specs.Form.{words}
use Rattle.emdf_answers.specs.declared.BitReply.{BitReply}

-- the six numbers of an answer
abbrev pub reply_words : BitReply → List ℕ
reply_words r =
    r.first
    ∷ r.second
    ∷ r.cursor.position
    ∷ r.cursor.end
    ∷ r.window.position
    ∷ r.window.end
    ∷ []

-- what is returned and written is the reply
abbrev pub BitReplies : BitReply → ℕ → List ℕ → Type 0
BitReplies a r answer = (r ≡ a.number) × (answer ≡ words (reply_words a))

-- a number, two figures, and a cursor
abbrev pub figures_at : BitCursor → Figures → BitReply
figures_at c f = record { number = f.number; first = f.first; second = f.second; cursor = c; window = cursor_at 0 0 }

-- accepted: the value, and the cursor after it
abbrev pub accepted : BitCursor → ℕ → BitReply
accepted c v = figures_at c (record { number = 0; first = v; second = 0 })

-- refused: the scope's number and figures
unfoldable pub refused_at : BitCursor → EmdfError → BitReply
refused_at c why = figures_at c (figures_of (refusal_of why))

unfoldable pub bits_reply : BitCursor → Result (ℕ × BitCursor) BitError → BitReply
bits_reply c (Ok (v, next)) = accepted next v
bits_reply c (Err why) = refused_at c (Bit why)

unfoldable pub bit_reply : BitCursor → Result (Bool × BitCursor) BitError → BitReply
bit_reply c (Ok (b, next)) = accepted next (if b then 1 else 0)
bit_reply c (Err why) = refused_at c (Bit why)

unfoldable pub window_reply : BitCursor → Result (BitCursor × BitCursor) BitError → BitReply
window_reply c (Ok (w, next)) = record { number = 0; first = 0; second = 0; cursor = next; window = w }
window_reply c (Err why) = refused_at c (Bit why)

unfoldable pub align_reply : BitCursor → Result BitCursor BitError → BitReply
align_reply c (Ok next) = accepted next 0
align_reply c (Err why) = refused_at c (Bit why)

-- ---- the exported calls: the library's answer at the host's cursor, in that form

unfoldable pub new_reply : List ℕ → BitReply
new_reply s = accepted (whole_slice s) 0

unfoldable pub remaining_reply : List ℕ → ℕ → ℕ → BitReply
remaining_reply s p e = accepted (cursor_at e p) (bits_remaining s (cursor_at e p))

unfoldable pub read_bits_reply : List ℕ → ℕ → ℕ → ℕ → BitReply
read_bits_reply s p e w = bits_reply (cursor_at e p) (read_bits s (cursor_at e p) w)

unfoldable pub read_bit_reply : List ℕ → ℕ → ℕ → BitReply
read_bit_reply s p e = bit_reply (cursor_at e p) (read_bit s (cursor_at e p))

unfoldable pub take_bits_reply : List ℕ → ℕ → ℕ → ℕ → BitReply
take_bits_reply s p e n = window_reply (cursor_at e p) (take_bits s (cursor_at e p) n)

unfoldable pub byte_align_reply : List ℕ → ℕ → ℕ → BitReply
byte_align_reply s p e = align_reply (cursor_at e p) (byte_align s (cursor_at e p))
