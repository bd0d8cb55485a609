use mathlib.Core.Path.{◌≡◌}
use Prim.Native.Nat.{ℕ, ◌+◌, ◌*◌, ◌/◌, ◌≤◌}
use lib.Dec.{eqb}
use Rattle.std.specs.Prelude.{if◌then◌else◌}
use native.Mathlib.Omega.{arith}
use borrow.Author.Tests.{lt-leb, le-leb}
use Rattle.emdf_format.specs.Contents.{◌&◌}
use Rattle.emdf_compact.specs.Words.{flagged_ends, variable_ends, codec_ends, compact_settings, config_length, two_groups, grouped_length}
use Rattle.emdf_compact.proofs.Words.{ends, ends-not, span-few, variable-few, codec-few, offset-there, span-seven, span-mark}
use Rattle.emdf_compact.proofs.parts_length.Goals as goal

at_most : {n : ℕ} → n ≤ 13 → n ≤ 25
at_most h = omega arith

pub returns-then-offset-eq64 : goal.returns-then-offset-eq64
unfolding grouped_length compact_settings ◌&◌
returns-then-offset-eq64 c =
    let n = ends-not (flagged_ends 11 _) c.flagged_length-offset.ensures.0 c.if-offset-eq64.true (at_most (span-few 11 _ (omega arith))) in
    (simp n, omega arith)

pub returns-then-duration-eq64 : goal.returns-then-duration-eq64
unfolding grouped_length compact_settings ◌&◌
returns-then-duration-eq64 c =
    let e1 = ends (flagged_ends 11 _) c.flagged_length-offset.ensures.0 c.if-offset-eq64.false in
    let n = ends-not (flagged_ends 11 _) c.flagged_length-duration.ensures.0 c.if-duration-eq64.true (at_most (span-few 11 _ (omega arith))) in
    (simp (e1.0, ← e1.1, n), omega arith)

pub returns-then-group-eq64 : goal.returns-then-group-eq64
unfolding grouped_length compact_settings ◌&◌
returns-then-group-eq64 c =
    let e1 = ends (flagged_ends 11 _) c.flagged_length-offset.ensures.0 c.if-offset-eq64.false in
    let e2 = ends (flagged_ends 11 _) c.flagged_length-duration.ensures.0 c.if-duration-eq64.false in
    let n = ends-not (variable_ends 2 _) c.variable_length-group.ensures.0 c.if-group-eq64.true (variable-few 2 _ (omega arith)) in
    (simp (e1.0, ← e1.1, e2.0, ← e2.1, n), omega arith)

pub returns-then-codec-eq64 : goal.returns-then-codec-eq64
unfolding grouped_length compact_settings ◌&◌
returns-then-codec-eq64 c =
    let e1 = ends (flagged_ends 11 _) c.flagged_length-offset.ensures.0 c.if-offset-eq64.false in
    let e2 = ends (flagged_ends 11 _) c.flagged_length-duration.ensures.0 c.if-duration-eq64.false in
    let e3 = ends (variable_ends 2 _) c.variable_length-group.ensures.0 c.if-group-eq64.false in
    let n = ends-not (codec_ends _) c.codec_length-codec.ensures.0 c.if-codec-eq64.true (at_most (codec-few _ (omega arith))) in
    (simp (e1.0, ← e1.1, e2.0, ← e2.1, e3.0, ← e3.1, n), omega arith)

pub returns-then-head-gt41 : goal.returns-then-head-gt41
unfolding grouped_length compact_settings ◌&◌
returns-then-head-gt41 c =
    let e1 = ends (flagged_ends 11 _) c.flagged_length-offset.ensures.0 c.if-offset-eq64.false in
    let e2 = ends (flagged_ends 11 _) c.flagged_length-duration.ensures.0 c.if-duration-eq64.false in
    let e3 = ends (variable_ends 2 _) c.variable_length-group.ensures.0 c.if-group-eq64.false in
    let e4 = ends (codec_ends _) c.codec_length-codec.ensures.0 c.if-codec-eq64.false in
    (simp (e1.0, ← e1.1, e2.0, ← e2.1, e3.0, ← e3.1, e4.0, ← e4.1, lt-leb _ _ c.if-head-gt41.true), omega arith)

pub returns : goal.returns
unfolding grouped_length two_groups config_length compact_settings ◌&◌
returns c =
    let e1 = ends (flagged_ends 11 _) c.flagged_length-offset.ensures.0 c.if-offset-eq64.false in
    let e2 = ends (flagged_ends 11 _) c.flagged_length-duration.ensures.0 c.if-duration-eq64.false in
    let e3 = ends (variable_ends 2 _) c.variable_length-group.ensures.0 c.if-group-eq64.false in
    let e4 = ends (codec_ends _) c.codec_length-codec.ensures.0 c.if-codec-eq64.false in
    let g = c.variable_length-group.result in
    let m : 128 * ((g + 1) / 8) ≡ (if eqb g 7 then 128 else 0) = rw e3.1 (span-mark _) in
    let few : g ≤ 7 = rw e3.1 (span-seven _) in
    (simp (e1.0, ← e1.1, e2.0, ← e2.1, e3.0, ← e3.1, e4.0, ← e4.1, le-leb _ _ c.if-head-gt41.false, ← offset-there, c.controls_length.ensures.0, m), omega (arith, few))
