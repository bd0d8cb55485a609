use native.Mathlib.Omega.{arith}
use borrow.Author.Tests.{eq-eqb, ne_eqb}
use Rattle.emdf_compact.specs.Words.{codec_span, codec_ends}
use Rattle.emdf_compact.proofs.codec_length.Goals as goal

pub returns-then-x-eq0 : goal.returns-then-x-eq0
unfolding codec_span codec_ends
returns-then-x-eq0 c = (rw (eq-eqb _ 0 c.if-x-eq0.true) (omega arith), omega arith)

pub returns-then-x-eq0-2 : goal.returns-then-x-eq0-2
unfolding codec_span codec_ends
returns-then-x-eq0-2 c = (rw (ne_eqb _ 0 c.if-x-eq0.false, eq-eqb _ 0 c.if-x-eq0-2.true) (omega arith), omega arith)

pub returns : goal.returns
unfolding codec_span codec_ends
returns c = (rw (ne_eqb _ 0 c.if-x-eq0.false, ne_eqb _ 0 c.if-x-eq0-2.false), omega arith)
