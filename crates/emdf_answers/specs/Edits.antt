-- What the exported edits and the blank call return and write: docs/HOST.md, 'Edit calls'. Assumes nothing.
use Rattle.std.specs.Prelude.{◌≡◌, List, ℕ, Result, Ok, Err}
use Rattle.openjoc_bitio.specs.declared.ByteCount.{ByteCount}
use Rattle.emdf_format.specs.declared.EditError.{EditError}
use Rattle.emdf_format.specs.Refusals.{edit_refusal, figures_of}
use Rattle.emdf_format.specs.Edits.{Edited}
use Rattle.emdf_format.specs.declared.Figures.{Figures}
use Rattle.emdf_answers.specs.Replies.{two_reply, Replies}

-- accepted: the new carrier's length
unfoldable pub edited_figures : Result ByteCount EditError → Figures
edited_figures (Ok n) = record { number = 0; first = n.0; second = 0 }
edited_figures (Err why) = figures_of (edit_refusal why)

-- the number, the answer's bytes, and the destination at exit
abbrev pub EditReplies : Edited → ℕ → List ℕ → List ℕ → Type 0
EditReplies e r answer exit = Replies (two_reply (edited_figures e.answer)) r answer × (exit ≡ e.destination)
