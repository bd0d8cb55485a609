use Prim.Native.Nat.{suc, ◌%◌}
use mathlib.Core.Path.{sym, ap}
use native.Mathlib.Numerals.{add-one}
use native.Mathlib.Omega.{arith}
use lib.ListN.{set}
use lib.Seq.{set_out}
use Rattle.emdf_ordinals.proofs.Rows.{searched-slot, searched-all}
use Rattle.emdf_ordinals.proofs.take_slot.Goals as goal

pub returns-then-slots-slot : goal.returns-then-slots-slot
returns-then-slots-slot c =
    let a = c.args in
    (sym (searched-all a.slots.now a.id a.place (omega (arith, c.if-slots-slot.true))), sym (set_out a.slots.now (a.id % 512) (suc a.place) (omega (arith, c.if-slots-slot.true))))

pub returns : goal.returns
returns c =
    let a = c.args in
    (sym (searched-slot a.slots.now a.id a.place (omega (arith, c.if-slots-slot.false))), ap (set a.slots.now (a.id % 512)) (add-one a.place))
