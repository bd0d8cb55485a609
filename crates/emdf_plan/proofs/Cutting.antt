-- Where the bits that a request replaces stand in a carrier that is read. Assumes nothing.
use mathlib.Core.Path.{◌≡◌, refl, sym, ap, subst}
use mathlib.Core.Bool.{true}
use mathlib.Core.List.{List, [], ◌∷◌}
use mathlib.Core.Option.{Option, none, some}
use Prim.Native.Nat.{ℕ, zero, suc, ◌+◌, ◌≤◌, ◌<◌}
use native.Mathlib.Omega.{arith}
use lib.ListN.{length, take, get_elem?}
use lib.Seq.{take_all}
use lib.Dec.{ltb, ltb→lt}
use Rattle.openjoc_bitio.proofs.Bits.{length-number}
use Rattle.emdf_format.specs.Contents.{Payload, Contents, payload_bits, container_bits, extension_bits, needed_payloads, needed_bits}
use Rattle.emdf_format.specs.Reading.{Found, Container, accepted, reading, payload_of, payloads_of, contents_of}
use Rattle.emdf_format.specs.Edits.{change, place_exists}
use Rattle.emdf_format.proofs.Standing.{T_of, length-then, stands-to}
use Rattle.emdf_format.proofs.Payloads.{length-octets}
use Rattle.emdf_format.proofs.Lengths.{length-extended, length-payload, length-payloads, length-container}
use Rattle.emdf_format.proofs.Carrier.{read-contained}
use Rattle.emdf_format.proofs.Splice.{Splice, protected, list_bits, bits_before, splice-body, splice-settings, splice-drop, splice-insert, splice-key, splice-protection, Parts, located, payload-at}
use Rattle.emdf_request.specs.declared.Request.{Request}
use Rattle.emdf_request.specs.Requests.{edit_of, stretch_of, bringing, new_bits}
use Rattle.emdf_plan.specs.Plan.{trace_at, layout_of, edge_at}

-- the edit that a request asks for is the splice of its stretch
pub record Cutting (q : Request) (a b : List ℕ) (k : Container) : Type 0 where
  pub splice : Splice (contents_of k) (change (edit_of q a b) (contents_of k))
  pub new : splice.new ≡ new_bits q a b
  pub from : (edge_at (stretch_of q).from (layout_of (stretch_of q).place k)).0 ≡ 32 + length splice.before
  pub to : (edge_at (stretch_of q).to (layout_of (stretch_of q).place k)).0 ≡ (edge_at (stretch_of q).from (layout_of (stretch_of q).place k)).0 + length splice.old
  pub kept : (edge_at (stretch_of q).kept (layout_of (stretch_of q).place k)).0 ≡ (edge_at (stretch_of q).to (layout_of (stretch_of q).place k)).0 + length splice.after
  pub end : (layout_of (stretch_of q).place k).end.0 ≡ (edge_at (stretch_of q).kept (layout_of (stretch_of q).place k)).0 + length splice.rest

-- ---- a splice takes all of a container and makes all of another

pub splice-lengths : {c d : Contents} (x : Splice c d)
    → (length (container_bits c) ≡ length x.before + (length x.old + (length x.after + length x.rest)))
    × (length (container_bits d) ≡ length x.before + (length x.new + (length x.after + length x.rest)))
splice-lengths x = (rw (length-then, length-then, length-then) at (ap length x.was), rw (length-then, length-then, length-then, length-number) at (ap length x.is))

-- so that the edge to which bits are kept follows from the rest
cut_as : (k : Container) (q : Request) (a b : List ℕ) (x : Splice (contents_of k) (change (edit_of q a b) (contents_of k))) → x.new ≡ new_bits q a b
    → (edge_at (stretch_of q).from (layout_of (stretch_of q).place k)).0 ≡ 32 + length x.before
    → (edge_at (stretch_of q).to (layout_of (stretch_of q).place k)).0 ≡ (edge_at (stretch_of q).from (layout_of (stretch_of q).place k)).0 + length x.old
    → (layout_of (stretch_of q).place k).end.0 ≡ (edge_at (stretch_of q).kept (layout_of (stretch_of q).place k)).0 + length x.rest
    → Cutting q a b k
unfolding layout_of
cut_as k q a b x new from to end =
    record { splice = x; new = new; from = from; to = to; kept = omega (arith, length-container (contents_of k), splice-lengths x, from, to, end); end = end }

-- the protections follow their codes
pub protected-end : (k : Container) (j : ℕ) → (layout_of j k).end.0 ≡ (layout_of j k).codes.0 + 4 + length (protected (contents_of k))
unfolding layout_of needed_bits protected
protected-end k j = simp length-then (omega (arith, length-octets k.primary, length-octets k.secondary))

-- ---- payloads by their place

element : (xs : List Found) (j : ℕ) → j < length xs → (x : Found) × (get_elem? xs j ≡ some x)
element [] j h = absurd (omega arith)
element (x ∷ xs) zero h = (x, refl)
element (x ∷ xs) (suc j) h = element xs j (omega arith)

pub as_many : (xs : List Found) → length (payloads_of xs) ≡ length xs
unfolding payloads_of
as_many [] = refl
as_many (x ∷ xs) = ap suc (as_many xs)

past_all : (xs : List Found) (j : ℕ) → get_elem? xs j ≡ none → length (payloads_of xs) ≤ j
unfolding payloads_of
past_all [] j h = omega arith
past_all (x ∷ xs) zero h = absurd (let w : ◌≡◌ {A = ℕ} 0 1 = cc in omega arith)
past_all (x ∷ xs) (suc j) h = omega (arith, past_all xs j h)

length-list : (xs : List Payload) → length (list_bits xs) ≡ needed_payloads xs
unfolding list_bits needed_payloads
length-list [] = refl
length-list (x ∷ xs) = simp length-then (omega (arith, length-payload x, length-list xs))

length_before : (c : Contents) (j : ℕ) → length (bits_before c j) ≡ 5 + extension_bits 3 c.key-id + length (list_bits (take j c.payloads))
unfolding bits_before
length_before c j = simp (length-then, length-number) (omega (arith, length-extended 3 c.key-id))

module _ (s : List ℕ) (n : ℕ) (k : Container) (r : reading s ≡ accepted n k) where
  abbrev c : Contents
  c = contents_of k

  -- each stands after those before it
  parts_at : (j : ℕ) {x : Found} → get_elem? k.found j ≡ some x → Parts x (32 + length (bits_before c j))
  parts_at j {x} h =
      let d = (read-contained s n k r).1 in
      let first = rw (length-then, length-number) at (stands-to d.key) in
      subst (Parts x) (omega (arith, first, length-extended 3 k.key-id, length_before c j)) (located j d.listed.traced h)

  there : (j : ℕ) → ltb j (length k.found) ≡ true
      → (x : Found) × (get_elem? k.found j ≡ some x) × (get_elem? c.payloads j ≡ some (payload_of x)) × Parts x (32 + length (bits_before c j))
  there j p = let (x, h) = element k.found j (ltb→lt j (length k.found) (T_of p)) in (x, h, payload-at k.found j h, parts_at j h)

  -- and the end mark after all of them
  place_at : (j : ℕ) → (layout_of j k).place.payload_id_start_bit.0 ≡ 32 + length (bits_before c j)
  unfolding layout_of trace_at
  place_at j = go (get_elem? k.found j) refl
    where
      go : (o : Option Found) → get_elem? k.found j ≡ o
          → (trace_at o (37 + extension_bits 3 k.key-id + needed_payloads c.payloads)).payload_id_start_bit.0 ≡ 32 + length (bits_before c j)
      go (some x) h = (parts_at j h).id
      go none h =
          let all = rw (take_all j c.payloads (past_all k.found j h)) at (length_before c j) in
          omega (arith, all, length-list c.payloads)

-- ---- the six requests

pub cutting : (s : List ℕ) (n : ℕ) (k : Container) (q : Request) (a b : List ℕ) → reading s ≡ accepted n k
    → place_exists (edit_of q a b) (length k.found) ≡ true → Cutting q a b k
unfolding place_exists edit_of bringing layout_of trace_at payload_bits splice-body splice-settings splice-drop splice-insert splice-key splice-protection
cutting s n k (Request.Body j) a b r p =
    let (x, h, at, parts) = there s n k r j p in
    cut_as k (Request.Body j) a b (splice-body (contents_of k) j at a) refl
    (rw h (simp length-then (omega (arith, parts.config, parts.size))))
    (rw h (simp length-then (omega (arith, parts.body, parts.end))))
    (protected-end k j)
cutting s n k (Request.Settings j t) a b r p =
    let (x, h, at, parts) = there s n k r j p in
    cut_as k (Request.Settings j t) a b (splice-settings (contents_of k) j at t) refl (rw h (simp length-then (omega (arith, parts.config)))) (rw h parts.size)
    (protected-end k j)
cutting s n k (Request.Drop j) a b r p =
    let (x, h, at, parts) = there s n k r j p in
    cut_as k (Request.Drop j) a b (splice-drop (contents_of k) j at) refl (rw h parts.id)
    (rw h (simp length-then (omega (arith, parts.id, parts.config, parts.size, parts.body, parts.end))))
    (protected-end k j)
cutting s n k (Request.Insert j i t) a b r p =
    cut_as k (Request.Insert j i t) a b (splice-insert (contents_of k) j i t a) refl (place_at s n k r j) (omega arith) (protected-end k j)
cutting s n k (Request.Key i) a b r p =
    cut_as k (Request.Key i) a b (splice-key (contents_of k) i) refl (ap (λ (n : ℕ). 32 + n) (sym (length-number 2 0))) (omega (arith, length-extended 3 k.key-id)) (protected-end k 0)
cutting s n k Request.Protection a b r p =
    let c = contents_of k in
    let x = splice-protection c a b in
    let from : 37 + extension_bits 3 c.key-id + needed_payloads c.payloads + 5 ≡ 32 + length x.before =
    simp (length-then, length-number) (omega (arith, length-extended 3 c.key-id, length-payloads c.payloads)) in
    cut_as k Request.Protection a b x refl from (omega (arith, from, length-container c, splice-lengths x)) (omega arith)
