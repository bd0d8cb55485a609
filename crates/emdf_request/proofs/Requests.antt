-- Laws of requests: their place, what is writable of them, and how many bits they bring. Assumes nothing.
use mathlib.Core.Path.{◌≡◌, refl, ◌∙◌}
use mathlib.Core.Bool.{Bool, true, false}
use mathlib.Core.List.{List, [], ◌∷◌, ◌++◌}
use Prim.Native.Nat.{ℕ, zero, suc, ◌+◌, ◌*◌, ◌<◌, ◌≤◌}
use native.Mathlib.Omega.{arith}
use lib.ListN.{length, take, drop, length-replicate}
use lib.Dec.{T}
use borrow.Author.Tests.{ltb-true, leb-true}
use Rattle.openjoc_bitio.proofs.Bits.{length-number}
use Rattle.emdf_format.specs.declared.EmdfPayloadConfig.{EmdfPayloadConfig}
use Rattle.emdf_format.specs.Contents.{Payload, Contents, ◌&◌, writable_config, writable_payload, writable_payloads, writable, needed_payload, protection_bits}
use Rattle.emdf_format.specs.Edits.{with_at, with_body, with_config, with_payloads, cleared, change, place_exists}
use Rattle.emdf_format.proofs.Standing.{is_true, and, both, length-then}
use Rattle.emdf_format.proofs.Variable.{length-field}
use Rattle.emdf_format.proofs.Payloads.{length-octets}
use Rattle.emdf_format.proofs.Lengths.{length-extended, length-config, length-payload}
use Rattle.emdf_measure.specs.Parts.{writable_protection}
use Rattle.emdf_request.specs.declared.Request.{Request}
use Rattle.emdf_request.specs.Requests.{edit_of, stretch_of, bringing, new_bits}

-- ---- the place

-- the octets that a request brings have no part in it
pub same_place : (q : Request) (a b : List ℕ) (n : ℕ) → place_exists (edit_of q [] []) n ≡ place_exists (edit_of q a b) n
unfolding edit_of place_exists
same_place (Request.Body k) a b n = refl
same_place (Request.Settings k t) a b n = refl
same_place (Request.Drop k) a b n = refl
same_place (Request.Insert k i t) a b n = refl
same_place (Request.Key i) a b n = refl
same_place Request.Protection a b n = refl

pub place_in : (q : Request) (a b : List ℕ) (n : ℕ) → place_exists (edit_of q a b) n ≡ true → (stretch_of q).place ≤ n
unfolding edit_of place_exists
place_in (Request.Body k) a b n h = omega (arith, ltb-true k n h)
place_in (Request.Settings k t) a b n h = omega (arith, ltb-true k n h)
place_in (Request.Drop k) a b n h = omega (arith, ltb-true k n h)
place_in (Request.Insert k i t) a b n h = leb-true k n h
place_in (Request.Key i) a b n h = omega arith
place_in Request.Protection a b n h = omega arith

-- ---- what is writable stays so, but for what the edit brings

yes_and : (a b : Bool) → T a → a & b ≡ b
unfolding ◌&◌
yes_and true b h = refl
yes_and false b h = absurd h

and_yes : (a b : Bool) → T b → a & b ≡ a
unfolding ◌&◌
and_yes true b h = is_true b h
and_yes false b h = refl

-- where the payload at place k becomes f of it
at-writable : (k : ℕ) (f : Payload → Payload) (w : Bool) (xs : List Payload) → ((x : Payload) → T (writable_payload x) → writable_payload (f x) ≡ w)
    → T (writable_payloads xs) → k < length xs → writable_payloads (with_at k f xs) ≡ w
unfolding writable_payloads with_at
at-writable k f w [] g h l = absurd (omega arith)
at-writable zero f w (x ∷ xs) g h l = and_yes _ _ (both h).right ∙ g x (both h).left
at-writable (suc k) f w (x ∷ xs) g h l = yes_and _ _ (both h).left ∙ at-writable k f w xs g (both h).right (omega arith)

-- question 17 of a payload is one of its id and settings
body-writable : (bs : List ℕ) (x : Payload) → T (writable_payload x) → writable_payload (with_body bs x) ≡ true
unfolding writable_payload
body-writable bs x h = is_true _ h

settings-writable : (t : EmdfPayloadConfig) (x : Payload) → T (writable_payload x) → writable_payload (with_config t x) ≡ writable_config t
unfolding writable_payload
settings-writable t x h = yes_and _ _ (both h).left ∙ yes_and _ _ (both (both h).right).left

drop-writable : (k : ℕ) (xs : List Payload) → T (writable_payloads xs) → writable_payloads (take k xs ++ drop (suc k) xs) ≡ true
unfolding writable_payloads
drop-writable zero [] h = refl
drop-writable zero (x ∷ xs) h = is_true _ (both h).right
drop-writable (suc k) [] h = refl
drop-writable (suc k) (x ∷ xs) h = yes_and _ _ (both h).left ∙ drop-writable k xs (both h).right

insert-writable : (k : ℕ) (x : Payload) (xs : List Payload) → T (writable_payloads xs) → writable_payloads (take k xs ++ x ∷ drop k xs) ≡ writable_payload x
unfolding writable_payloads
insert-writable zero x xs h = and_yes _ _ h
insert-writable (suc k) x [] h = and_yes _ _ tt
insert-writable (suc k) x (y ∷ xs) h = yes_and _ _ (both h).left ∙ insert-writable k x xs (both h).right

module _ (c : Contents) (w : T (writable c)) where
  payloads-writable : T (writable_payloads c.payloads)
  unfolding writable
  payloads-writable = (both (both w).right).left

  -- a protection's length has a code, whatever its bytes are
  clear-writable : T (writable_protection (cleared c).primary (cleared c).secondary)
  unfolding writable writable_protection cleared
  clear-writable = rw (length-replicate, length-replicate) (both (both w).right).right

  with-writable : (xs : List Payload) → writable (with_payloads (cleared c) xs) ≡ writable_payloads xs
  unfolding writable with_payloads writable_protection cleared
  with-writable xs = yes_and _ _ (both w).left ∙ and_yes _ _ clear-writable

  pub change-writable : (q : Request) (a b : List ℕ) → place_exists (edit_of q a b) (length c.payloads) ≡ true
      → writable (change (edit_of q a b) c) ≡ (bringing q a b).brought.writable
  unfolding edit_of bringing change place_exists writable_protection writable
  change-writable (Request.Body k) a b h = with-writable _ ∙ at-writable k (with_body a) true c.payloads (body-writable a) payloads-writable (ltb-true k _ h)
  change-writable (Request.Settings k t) a b h = with-writable _ ∙ at-writable k (with_config t) (writable_config t) c.payloads (settings-writable t) payloads-writable (ltb-true k _ h)
  change-writable (Request.Drop k) a b h = with-writable _ ∙ drop-writable k c.payloads payloads-writable
  change-writable (Request.Insert k i t) a b h = with-writable _ ∙ insert-writable k _ c.payloads payloads-writable
  change-writable (Request.Key i) a b h = and_yes _ _ (and _ _ payloads-writable clear-writable)
  change-writable Request.Protection a b h = yes_and _ _ (both w).left ∙ yes_and _ _ payloads-writable

-- ---- how many bits a request brings

pub length-new : (q : Request) (a b : List ℕ) → length (new_bits q a b) ≡ (bringing q a b).brought.fields + 8 * (bringing q a b).brought.octets
unfolding bringing needed_payload protection_bits
length-new (Request.Body k) a b = simp length-then (omega (arith, length-field 8 (length a), length-octets a))
length-new (Request.Settings k t) a b = omega (arith, length-config t)
length-new (Request.Drop k) a b = refl
length-new (Request.Insert k i t) a b = omega (arith, length-payload (record { id = i; config = t; body = a }))
length-new (Request.Key i) a b = omega (arith, length-extended 3 i)
length-new Request.Protection a b = simp (length-then, length-number) (omega (arith, length-octets a, length-octets b))
