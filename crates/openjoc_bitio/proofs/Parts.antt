-- A part of a list, written at once. Assumes nothing.
use mathlib.Core.Path.{◌≡◌, refl, sym, ◌∙◌}
use mathlib.Core.List.{List, append_assoc}
use Prim.Native.Nat.{ℕ, ◌+◌, ◌≤◌}
use native.Mathlib.Omega.{arith}
use lib.ListN.{length}
use lib.Seq.{sets, sets-eq}
use borrow.Rule.Slice.PartMut.{put_mid}
use Rattle.std.proofs.lemmas.Slice.{put_mid-paste}
use Rattle.std.proofs.lemmas.List.Edits.{paste_all}

pub part-set : (i k : ℕ) (l ys : List ℕ) → length ys ≡ k → i + k ≤ length l → put_mid i k l ys ≡ sets l i ys
part-set i k l ys e h =
    put_mid-paste i k l ys ys k refl refl (sym e)
    ∙ paste_all l i ys k (sym e)
    ∙ sym (sets-eq ys l i (omega arith) ∙ rw (e, append_assoc))
