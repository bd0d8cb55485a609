use borrow.Author.Tests.{eq-eqb, ne_eqb}
use mathlib.Core.Path.{◌≡◌, sym, ◌∙◌}
use mathlib.Core.List.{List}
use Prim.Native.Nat.{ℕ}
use lib.ListN.{length}
use Rattle.std.proofs.Common.{rules}
use Rattle.emdf_format.specs.Contents.{◌&◌}
use Rattle.emdf_settings_bytes.specs.Settings.{settings_of}
use Rattle.emdf_settings_bytes.proofs.settings_of.Goals as goal

pub returns-in_default : goal.returns-in_default
unfolding settings_of ◌&◌
returns-in_default c =
    let other : length c.args.s.now ≡ 144 → ⊥ = search rules in
    c.unformed_settings.ensures ∙ rw (ne_eqb _ 144 other)

pub returns-then-settings_formed : goal.returns-then-settings_formed
unfolding settings_of ◌&◌
returns-then-settings_formed c =
    let long : length c.args.s.now ≡ 144 = search rules in
    let same : c.in-Ok.bytes.now ≡ c.args.s.now = search rules in
    rw (eq-eqb _ 144 long, ← same, sym c.settings_formed.ensures ∙ c.if-settings_formed.true) c.config_of.ensures

pub returns-else-settings_formed : goal.returns-else-settings_formed
unfolding settings_of ◌&◌
returns-else-settings_formed c =
    let long : length c.args.s.now ≡ 144 = search rules in
    let same : c.in-Ok.bytes.now ≡ c.args.s.now = search rules in
    rw (eq-eqb _ 144 long, ← same, sym c.settings_formed.ensures ∙ c.if-settings_formed.false) c.unformed_settings-else-settings_formed.ensures
