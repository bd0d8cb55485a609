-- What edits do to the protections: zeros, as many, unless the edit brings them. Assumes nothing.
use mathlib.Core.Path.{◌≡◌, refl}
use mathlib.Core.Bool.{true}
use Prim.Native.Nat.{ℕ}
use lib.ListN.{length, replicate}
use native.Mathlib.Omega.{arith}
use Rattle.emdf_format.specs.Contents.{Contents}
use Rattle.emdf_format.specs.Edits.{Edit, body_edit, settings_edit, drop_edit, insert_edit, key_edit, protection_edit, with_payloads, cleared, change, clears, Clearing}

pub clearing : Clearing
unfolding change with_payloads cleared
clearing = record { zeros = by; given = λ a b c. (refl, refl) }
  where
    by : (e : Edit) (c : Contents) → clears e ≡ true
        → ((change e c).primary ≡ replicate (length c.primary) 0) × ((change e c).secondary ≡ replicate (length c.secondary) 0)
    by (body_edit k bs) c h = (refl, refl)
    by (settings_edit k t) c h = (refl, refl)
    by (drop_edit k) c h = (refl, refl)
    by (insert_edit k i t bs) c h = (refl, refl)
    by (key_edit i) c h = (refl, refl)
    by (protection_edit a b) c h = absurd (let z : ◌≡◌ {A = ℕ} 0 1 = cc in omega arith)
