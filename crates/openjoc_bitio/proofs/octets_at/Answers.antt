use mathlib.Core.Path.{ap, refl, ◌∙◌}
use Prim.Native.Nat.{ℕ, ◌^◌, ◌<◌}
use lib.ListN.{get_or}
use Rattle.std.proofs.Common.{w64}
use Rattle.std.specs.Int.{from_be_bytes}
use Rattle.std.proofs.lemmas.Nat.{le_bytes_8}
use Rattle.openjoc_bitio.proofs.Bits.{eight, eight-bytes, value-eight}
use Rattle.openjoc_bitio.proofs.octets_at.Goals as goal

pub returns : goal.returns
returns c =
    let a = c.args in
    let s = a.s.now in
    let bytes : (k : ℕ) → get_or s k 0 < 2 ^ 8 = λ k. (c.type_inv.s k).fits in
    c.swap_bytes.ensures ∙ ap (from_be_bytes w64) (le_bytes_8 (eight s a.i) _ refl (eight-bytes s a.i bytes) c.from_le_bytes.ensures) ∙ value-eight s a.i bytes
