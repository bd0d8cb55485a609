-- The body that a reading finds at a place, and what the two calls say of it. Assumes nothing.
use mathlib.Core.Path.{◌≡◌, refl, sym, ◌∙◌}
use mathlib.Core.Bool.{true, false}
use mathlib.Core.List.{List, [], ◌∷◌, ◌++◌}
use mathlib.Core.Option.{Option, none, some}
use Prim.Native.Nat.{ℕ, zero, suc, ◌+◌, ◌*◌, ◌/◌, ◌%◌, ◌≤◌, ◌<◌}
use native.Mathlib.Decide.{dec_lt}
use native.Mathlib.Omega.{arith}
use lib.ListN.{length, take, drop, get_elem?}
use lib.Dec.{leb, eqb}
use borrow.Author.Tests.{le-leb, lt-leb, eq-eqb, ne_eqb}
use Rattle.std.specs.Prelude.{Result, Ok, Err}
use Rattle.openjoc_bitio.proofs.Results.{both-same}
use Rattle.openjoc_bitio.specs.declared.BitOffset.{BitOffset}
use Rattle.openjoc_bitio.specs.declared.ByteCount.{ByteCount}
use Rattle.emdf_format.specs.declared.BodyError.{BodyError}
use Rattle.emdf_format.specs.declared.BodyError.TheVariants.{ScratchTooShort}
use Rattle.emdf_format.specs.Reading.{Found, Reading, accepted, refusal, reading}
use Rattle.emdf_format.specs.Calls.{body_start, starts_on_byte, octets_at, BodiesAtSpans, found_moved, move_body, found_at, scratch_after, choose_body}
use Rattle.emdf_format.proofs.Carrier.{read-limit}
use Rattle.emdf_format.proofs.Spans.{body_end, Follow, laid}
use Rattle.emdf_bodies.specs.Bodies.{body_of, find_body}

follow-to : (a b : ℕ) (xs : List Found) → Follow a b xs → a ≤ b
unfolding Follow
follow-to a b [] h = h
follow-to a b (x ∷ xs) (i, j, h) = let k = follow-to (body_end x) b xs h in omega arith

-- one of the bodies at their spans, which end at b or before
bodies-at : (s : List ℕ) (a b : ℕ) (xs : List Found) (k : ℕ) {x : Found} → Follow a b xs → BodiesAtSpans s xs → get_elem? xs k ≡ some x
    → (x.body ≡ octets_at s (body_start x) (length x.body)) × (body_start x + 8 * length x.body ≤ b)
unfolding Follow BodiesAtSpans
bodies-at s a b [] k f h e = absurd (let w : ◌≡◌ {A = ℕ} 0 1 = cc in omega arith)
bodies-at s a b (y ∷ xs) zero {x} (i, j, f) (g, t, h) e =
    let z : y ≡ x = cc in
    rw (← z) (g, omega (arith, follow-to (body_end y) b xs f, t))
bodies-at s a b (y ∷ xs) (suc k) (i, j, f) (g, t, h) e = bodies-at s (body_end y) b xs k f h e

-- the body of n bytes from bit p on that is at place k of the carrier s
pub record Standing (s : List ℕ) (k p n : ℕ) : Type 0 where
  pub payload : Found
  pub found : found_at (reading s) k ≡ some payload
  pub move : (room : ℕ) → move_body (reading s) k room ≡ found_moved (some payload) room
  pub start : body_start payload ≡ p
  pub size : length payload.body ≡ n
  pub octets : payload.body ≡ octets_at s p n
  pub inside : p + 8 * n ≤ 8 * length s

pub standing : (s : List ℕ) (k : ℕ) {p : BitOffset} {n : ByteCount} → find_body (reading s) k ≡ Ok (p, n) → Standing s k p.0 n.0
unfolding find_body found_at move_body body_of
standing s k {p} {n} h = go (reading s) refl h
  where
    go : (r : Reading) → reading s ≡ r → find_body r k ≡ Ok (p, n) → Standing s k p.0 n.0
    go (refusal why) i h = absurd (let w : ◌≡◌ {A = ℕ} 0 1 = cc in omega arith)
    go (accepted m c) i h = by_place (get_elem? c.found k) refl h
      where
        by_place : (o : Option Found) → get_elem? c.found k ≡ o → body_of o ≡ Ok (p, n) → Standing s k p.0 n.0
        by_place none e h = absurd (let w : ◌≡◌ {A = ℕ} 0 1 = cc in omega arith)
        by_place (some x) e h =
            let (a, b) = both-same h in
            let d = laid s m c i in
            let (o, l) = bodies-at s d.first (8 * m) c.found k d.follow d.bodies e in
            rw (← a, ← b) (record {
              payload = x;
              found = rw (i, e);
              move = λ room. rw (i, e);
              start = refl;
              size = refl;
              octets = o;
              inside = omega (arith, (read-limit s m c i).0);
            })

-- ---- what the definitions say of the place k, with this scratch

pub record Says (s : List ℕ) (k : ℕ) (scratch : List ℕ) (a : Result (BitOffset × ByteCount) BodyError) (after' body : List ℕ) : Type 0 where
  pub answer : a ≡ move_body (reading s) k (length scratch)
  pub after : after' ≡ scratch_after (found_at (reading s) k) scratch
  pub chosen : body ≡ choose_body (found_at (reading s) k) s scratch

missing : (o : Option Found) (room : ℕ) {why : BodyError} → body_of o ≡ Err why → (o ≡ none) × (Err why ≡ found_moved o room)
unfolding body_of found_moved
missing none room h = (refl, sym h)
missing (some x) room h = absurd (let w : ◌≡◌ {A = ℕ} 0 1 = cc in omega arith)

unfound : (r : Reading) (k room : ℕ) {why : BodyError} → find_body r k ≡ Err why → (found_at r k ≡ none) × (Err why ≡ move_body r k room)
unfolding find_body found_at move_body
unfound (accepted m c) k room h = missing (get_elem? c.found k) room h
unfound (refusal _) k room h = (refl, sym h)

module _ (s : List ℕ) (k : ℕ) (scratch : List ℕ) where
  pub not_there : {why : BodyError} → find_body (reading s) k ≡ Err why → Says s k scratch (Err why) scratch []
  unfolding scratch_after choose_body
  not_there h = let (a, b) = unfound (reading s) k (length scratch) h in record { answer = b; after = rw a; chosen = rw a }

  module _ {p : BitOffset} {n : ByteCount} (b : Standing s k p.0 n.0) where
    abbrev x : Found
    x = b.payload

    pub on-byte : p.0 % 8 ≡ 0 → Says s k scratch (Ok (p, n)) scratch (take n.0 (drop (p.0 / 8) s))
    unfolding found_moved scratch_after choose_body starts_on_byte
    on-byte z =
        let e : eqb (body_start x % 8) 0 ≡ true = rw b.start (eq-eqb _ 0 z) in
        record { answer = rw (b.move, e, b.start, b.size); after = rw (b.found, e); chosen = rw (b.found, e, b.start, b.size) }

    module _ (z : p.0 % 8 ≡ 0 → ⊥) where
      off_byte : eqb (body_start x % 8) 0 ≡ false
      off_byte = rw b.start (ne_eqb _ 0 z)

      pub no_room : length scratch < n.0 → Says s k scratch (Err (ScratchTooShort n)) scratch []
      unfolding found_moved scratch_after choose_body starts_on_byte
      no_room l =
          let r : leb (length x.body) (length scratch) ≡ false = rw b.size (lt-leb _ _ l) in
          record { answer = rw (b.move, off_byte, r, b.size); after = rw (b.found, off_byte, r); chosen = rw (b.found, off_byte, r) }

      pub in-scratch : n.0 ≤ length scratch → Says s k scratch (Ok (p, n)) (octets_at s p.0 n.0 ++ drop n.0 scratch) (take n.0 scratch)
      unfolding found_moved scratch_after choose_body starts_on_byte
      in-scratch l =
          let r : leb (length x.body) (length scratch) ≡ true = rw b.size (le-leb _ _ l) in
          record { answer = rw (b.move, off_byte, r, b.start, b.size); after = rw (b.found, off_byte, r, b.size, b.octets); chosen = rw (b.found, off_byte, r, b.size) }

      -- the first bytes of the scratch, where it has so many
      pub from_scratch : {r : List ℕ} → (n.0 ≤ length scratch → r ≡ take n.0 scratch) → (length scratch < n.0 → r ≡ []) → r ≡ choose_body (found_at (reading s) k) s scratch
      from_scratch f g = elim (dec_lt (length scratch) n.0) [
        | yes h ↦ g h ∙ (no_room h).chosen
        | no h ↦ let l : n.0 ≤ length scratch = omega arith in f l ∙ (in-scratch l).chosen
      ]
