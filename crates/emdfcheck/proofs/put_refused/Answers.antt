use Prim.Native.Nat.{ℕ}
use mathlib.Core.Path.{sym, ap, ◌∙◌}
use mathlib.Core.List.{[], ◌∷◌}
use native.Mathlib.Omega.{arith}
use Rattle.emdf_text.specs.Lines.{ascii, line}
use Rattle.emdfcheck.specs.Parts.{is_non_emdf}
use Rattle.emdf_text.proofs.Put.{put_as}
use Rattle.emdfcheck.proofs.Class.{non-emdf, is-malformed}
use Rattle.emdfcheck.proofs.put_refused.Goals as goal

pub returns-then-is_non_emdf : goal.returns-then-is_non_emdf
returns-then-is_non_emdf c =
    let s = c.args.bytes.now in
    let e = sym c.if-is_non_emdf.true ∙ c.is_non_emdf.ensures ∙ ap is_non_emdf c.classify_emdf_carrier.ensures in
    put_as (c.put_line.ensures.put (omega arith)).0 (non-emdf s c.requires.0 e)

pub returns : goal.returns
returns c =
    let s = c.args.bytes.now in
    let e = sym c.if-is_non_emdf.false ∙ c.is_non_emdf.ensures ∙ ap is_non_emdf c.classify_emdf_carrier.ensures in
    put_as (c.put_line-2.ensures.put (omega arith)).0 (ap (λ (n : ℕ). line (ascii "malformed") (n ∷ [])) c.error_number.ensures ∙ is-malformed s c.requires.0 e)
