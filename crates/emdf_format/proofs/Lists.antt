-- The equality of carriers over whole lists of edits, as a law of the definitions. Assumes nothing.
use mathlib.Core.Path.{◌≡◌, refl, sym, ap, subst, ◌∙◌}
use mathlib.Core.Bool.{Bool, true, false}
use mathlib.Core.List.{List, [], ◌∷◌, ◌++◌, append-nil}
use mathlib.Core.Logic.{◌↔◌}
use Prim.Native.Nat.{ℕ, zero, suc, ◌+◌, ◌≤◌}
use native.Mathlib.Omega.{arith}
use lib.ListN.{length, take, drop, replicate, length-append, length-drop}
use lib.Seq.{take_at, take-length}
use lib.Dec.{T, leb, eqb, leb→le, le→leb, lt→ltb, eqb_refl}
use Rattle.std.specs.Prelude.{if◌then◌else◌, Ok}
use Rattle.openjoc_bitio.specs.declared.ByteCount.{ByteCount}
use Rattle.emdf_format.specs.declared.EditError.{EditError}
use Rattle.emdf_format.specs.Syntax.{most_declared}
use Rattle.emdf_format.specs.Contents.{Payload, Contents, ◌&◌, writable, declared, carrier, all_bytes, bodies_are_bytes, contents_are_bytes}
use Rattle.emdf_format.specs.Reading.{Container, Reading, accepted, refusal, reading, contents_of}
use Rattle.emdf_format.specs.Calls.{in_table}
use Rattle.emdf_format.specs.Ordinals.{ordinal_at, ids_of}
use Rattle.emdf_format.specs.Edits.{Edit, body_edit, settings_edit, drop_edit, insert_edit, key_edit, protection_edit, with_at, with_body, with_config, with_payloads, cleared, change, place_exists, Stepped, changed, unchanged, carrier_length, in_room, step_to, step, step_answer, step_contents, written, step_from, edited, Call, next_source, done, leaves, answers, event_of, events, outcome, plain_contents, plain_answers, Bytes, EditBytes, CallsBytes, ReadsAs, EqualityOfCarriers}
use Rattle.emdf_format.proofs.Standing.{T_of, if_yes, both, and}
use Rattle.emdf_format.proofs.Payloads.{body_end, all_found_from}
use Rattle.emdf_format.proofs.Container.{container_from}
use Rattle.emdf_format.proofs.Bytes.{length-carrier}
use Rattle.emdf_format.proofs.Carrier.{read-sound, read-exact, contents-back, carrier-injective}
use Rattle.emdf_format.proofs.Ordinals.{row-numbered}
use Rattle.emdf_format.proofs.Spans.{laid}

-- ---- a carrier and its contents

-- these bytes are the carrier of these contents
pub record Carries (s : List ℕ) (c : Contents) : Type 0 where
  pub is : s ≡ carrier c
  pub fit : T (writable c)
  pub bytes : T (contents_are_bytes c)
  pub small : declared c ≤ 65535

-- bytes that are exactly one container
pub carried : (s : List ℕ) (k : Container) → Bytes s → reading s ≡ accepted (length s) k → Carries s (contents_of k)
carried s k bs h =
    let r = read-sound s (length s) k bs h in
    record { is = sym (take-length s) ∙ r.is; fit = r.fit; bytes = r.bytes; small = r.small }

carries-read : {s : List ℕ} {c : Contents} → Carries s c → reading s ≡ accepted (length s) (container_from 32 c)
carries-read {s} {c} k =
    let r : reading (carrier c ++ []) ≡ accepted (4 + declared c) (container_from 32 c) = read-exact c [] k.fit k.bytes k.small in
    rw (k.is, length-carrier c) (rw append-nil at r)

length_found : (p : ℕ) (xs : List Payload) → length (all_found_from p xs) ≡ length xs
unfolding all_found_from
length_found p [] = refl
length_found p (x ∷ xs) = ap suc (length_found (body_end p x) xs)

-- equal contents, equal bytes; and the other way
pub carries_same : {s s' : List ℕ} {c c' : Contents} → Carries s c → Carries s' c' → (s ≡ s') ↔ (c ≡ c')
carries_same {s} {s'} {c} {c'} k k' = (
  (λ e. carrier-injective c c' k.fit k'.fit k.bytes k'.bytes k.small k'.small (sym k.is ∙ e ∙ k'.is)),
  λ e. rw (k.is, k'.is, e),
)

pub reads_as : {s : List ℕ} {c : Contents} → Carries s c → ReadsAs s c
unfolding in_table
reads_as {s} {c} k =
    let r = carries-read k in
    record {
      container = container_from 32 c;
      whole = r;
      contents = contents-back 32 c;
      records = λ rows h. rw r (if_yes (leb (length (container_from 32 c).found) rows) _ _ (le→leb _ rows (rw length_found h)));
      ordinals = λ i row h. row-numbered (container_from 32 c).found i row h ∙ ap (λ (x : Contents). ordinal_at (ids_of x.payloads) i) (contents-back 32 c);
      bodies = (laid s (length s) (container_from 32 c) r).bodies;
    }

-- ---- an edit keeps bytes bytes

pub all-bytes : (bs : List ℕ) → Bytes bs → T (all_bytes bs)
unfolding all_bytes
all-bytes [] h = tt
all-bytes (b ∷ bs) h = and _ _ (lt→ltb b 256 (h 0)) (all-bytes bs (λ i. h (suc i)))

bytes-append : (xs ys : List Payload) → T (bodies_are_bytes xs) → T (bodies_are_bytes ys) → T (bodies_are_bytes (xs ++ ys))
unfolding bodies_are_bytes
bytes-append [] ys h k = k
bytes-append (x ∷ xs) ys h k = and _ _ (both h).left (bytes-append xs ys (both h).right k)

bytes_take : (n : ℕ) (xs : List Payload) → T (bodies_are_bytes xs) → T (bodies_are_bytes (take n xs))
unfolding bodies_are_bytes
bytes_take zero xs h = tt
bytes_take (suc n) [] h = tt
bytes_take (suc n) (x ∷ xs) h = and _ _ (both h).left (bytes_take n xs (both h).right)

bytes_drop : (n : ℕ) (xs : List Payload) → T (bodies_are_bytes xs) → T (bodies_are_bytes (drop n xs))
unfolding bodies_are_bytes
bytes_drop zero xs h = h
bytes_drop (suc n) [] h = tt
bytes_drop (suc n) (x ∷ xs) h = bytes_drop n xs (both h).right

bytes-at : (k : ℕ) (f : Payload → Payload) (xs : List Payload) → ((x : Payload) → T (all_bytes x.body) → T (all_bytes (f x).body))
    → T (bodies_are_bytes xs) → T (bodies_are_bytes (with_at k f xs))
unfolding bodies_are_bytes with_at
bytes-at k f [] g h = tt
bytes-at zero f (x ∷ xs) g h = and _ _ (g x (both h).left) (both h).right
bytes-at (suc k) f (x ∷ xs) g h = and _ _ (both h).left (bytes-at k f xs g (both h).right)

zero-bytes : (n : ℕ) → T (all_bytes (replicate n 0))
unfolding all_bytes
zero-bytes zero = tt
zero-bytes (suc n) = and _ _ tt (zero-bytes n)

clear-bytes : (c : Contents) → T (all_bytes (cleared c).primary & all_bytes (cleared c).secondary)
unfolding cleared
clear-bytes c = and _ _ (zero-bytes (length c.primary)) (zero-bytes (length c.secondary))

change-bytes : (e : Edit) (c : Contents) → EditBytes e → T (contents_are_bytes c) → T (contents_are_bytes (change e c))
unfolding EditBytes contents_are_bytes change with_payloads cleared bodies_are_bytes
change-bytes (body_edit k bs) c h f = and _ _ (bytes-at k (with_body bs) c.payloads (λ x i. all-bytes bs h) (both f).left) (clear-bytes c)
change-bytes (settings_edit k t) c h f = and _ _ (bytes-at k (with_config t) c.payloads (λ x i. i) (both f).left) (clear-bytes c)
change-bytes (drop_edit k) c h f =
    let xs = c.payloads in
    and _ _ (bytes-append (take k xs) (drop (suc k) xs) (bytes_take k xs (both f).left) (bytes_drop (suc k) xs (both f).left)) (clear-bytes c)
change-bytes (insert_edit k i t bs) c h f =
    let xs = c.payloads in
    let x : Payload = record { id = i; config = t; body = bs } in
    let g : T (bodies_are_bytes (x ∷ drop k xs)) = and _ _ (all-bytes bs h) (bytes_drop k xs (both f).left) in
    and _ _ (bytes-append (take k xs) (x ∷ drop k xs) (bytes_take k xs (both f).left) g) (clear-bytes c)
change-bytes (key_edit i) c h f = and _ _ (both f).left (clear-bytes c)
change-bytes (protection_edit a b) c h f = and _ _ (both f).left (and _ _ (all-bytes a h.0) (all-bytes b h.1))

-- ---- one edit

-- a question that is answered yes, and what it leads to
asked : (t : Bool) (o : Stepped) (why : EditError) {d : Contents} → (if t then o else unchanged why) ≡ changed d → (t ≡ true) × (o ≡ changed d)
asked true o why h = (refl, h)
asked false o why h = absurd (let z : ◌≡◌ {A = ℕ} 0 1 = cc in omega arith)

-- what a step that changes c to d says of d
pub record Changes (e : Edit) (room : ℕ) (c d : Contents) : Type 0 where
  pub is : change e c ≡ d
  pub place : place_exists e (length c.payloads) ≡ true
  pub fit : T (writable d)
  pub small : declared d ≤ most_declared
  pub fits : carrier_length d ≤ room

pub changes : (e : Edit) (room : ℕ) (c d : Contents) → step e room c ≡ changed d → Changes e room c d
unfolding step step_to in_room
changes e room c d h =
    let (place, h₁) = asked (place_exists e (length c.payloads)) _ _ h in
    let (fit, h₂) = asked (writable (change e c)) _ _ h₁ in
    let (small, h₃) = asked (leb (declared (change e c)) most_declared) _ _ h₂ in
    let (fits, h₄) = asked (leb (carrier_length (change e c)) room) _ _ h₃ in
    let is : change e c ≡ d = cc in
    rw (← is) (record {
      is = refl;
      place = place;
      fit = T_of fit;
      small = leb→le (declared (change e c)) most_declared (T_of small);
      fits = leb→le (carrier_length (change e c)) room (T_of fits);
    })

-- ---- a destination keeps its length, and what is written lies in it

from-fits : (r : Reading) (len room : ℕ) (e : Edit) (d : Contents) → step_from r len e room ≡ changed d → carrier_length d ≤ room
unfolding step_from
from-fits (accepted n k) len room e d h = (changes e room (contents_of k) d (asked (eqb n len) _ _ h).1).fits
from-fits (refusal why) len room e d h = absurd (let z : ◌≡◌ {A = ℕ} 0 1 = cc in omega arith)

pub keeps-length : (e : Edit) (src dst : List ℕ) → length (edited e src dst).destination ≡ length dst
unfolding edited written
keeps-length e src dst = by (step_from (reading src) (length src) e (length dst)) refl
  where
    by : (o : Stepped) → step_from (reading src) (length src) e (length dst) ≡ o → length (written o dst) ≡ length dst
    by (changed d) h = rw (length-append, length-carrier d, length-drop) (omega (arith, from-fits (reading src) (length src) (length dst) e d h))
    by (unchanged why) h = refl

pub in-room : (e : Edit) (src dst : List ℕ) (n : ByteCount) → (edited e src dst).answer ≡ Ok n → n.0 ≤ length dst
unfolding edited step_answer
in-room e src dst n = by (step_from (reading src) (length src) e (length dst)) refl
  where
    by : (o : Stepped) → step_from (reading src) (length src) e (length dst) ≡ o → step_answer o ≡ Ok n → n.0 ≤ length dst
    by (changed d) h k = let z : record { 0 = carrier_length d } ≡ n = cc in rw (← z) (from-fits (reading src) (length src) (length dst) e d h)
    by (unchanged why) h k = absurd (let z : ◌≡◌ {A = ℕ} 0 1 = cc in omega arith)

-- an edit of a carrier is the step of its contents
stepped-is : (e : Edit) {s : List ℕ} {c : Contents} (room : ℕ) → Carries s c → step_from (reading s) (length s) e room ≡ step e room c
unfolding step_from
stepped-is e {s} {c} room k =
    rw (carries-read k) (if_yes (eqb (length s) (length s)) _ _ (eqb_refl (length s)) ∙ rw contents-back)

-- what the next edit starts from
next-carries : (o : Stepped) {s : List ℕ} {c : Contents} (dst : List ℕ) → Carries s c → ((c' : Contents) → o ≡ changed c' → Carries (carrier c') c')
    → Carries (next_source s (step_answer o) (written o dst)) (step_contents o c)
unfolding next_source step_answer written step_contents
next-carries (changed c') dst k f =
    subst (λ (x : List ℕ). Carries x c') (sym (take_at (carrier c') (drop (carrier_length c') dst) (carrier_length c') (length-carrier c'))) (f c' refl)
next-carries (unchanged why) dst k f = k

changed-carries : (e : Edit) (room : ℕ) {s : List ℕ} (c : Contents) → EditBytes e → Carries s c → (c' : Contents) → step e room c ≡ changed c' → Carries (carrier c') c'
changed-carries e room c b k c' h =
    let d = changes e room c c' h in
    record { is = refl; fit = d.fit; bytes = rw d.is at (change-bytes e c b k.bytes); small = d.small }

-- one call follows its event
pub record Followed (s : List ℕ) (c : Contents) (t : Call) : Type 0 where
  pub left : Carries (done s t).left (outcome c (event_of t)).contents
  pub answered : (done s t).answer ≡ (outcome c (event_of t)).answer

pub followed : (s : List ℕ) (c : Contents) (t : Call) → EditBytes t.edit → Carries s c → Followed s c t
unfolding done outcome edited
followed s c t b k =
    let room = length t.destination in
    let o = stepped-is t.edit room k in
    let n = next-carries (step t.edit room c) t.destination k (changed-carries t.edit room c b k) in
    record { left = rw o n; answered = rw o }

-- ---- a list of calls

pub record FollowedAll (s : List ℕ) (c : Contents) (ts : List Call) : Type 0 where
  pub left : Carries (leaves s ts) (plain_contents c (events ts))
  pub answered : answers s ts ≡ plain_answers c (events ts)

follow : (s : List ℕ) (c : Contents) (ts : List Call) → CallsBytes ts → Carries s c → FollowedAll s c ts
unfolding leaves answers events plain_contents plain_answers CallsBytes
follow s c [] b k = record { left = k; answered = refl }
follow s c (t ∷ ts) b k =
    let f = followed s c t b.0 k in
    let r = follow (done s t).left (outcome c (event_of t)).contents ts b.1 f.left in
    record { left = r.left; answered = rw (f.answered, r.answered) }

pub equality-of-carriers : EqualityOfCarriers
equality-of-carriers = record {
  claim = λ s₁ s₂ k₁ k₂ ts₁ ts₂ b₁ b₂ e₁ e₂ h₁ h₂.
      let f₁ = follow s₁ (contents_of k₁) ts₁ e₁ (carried s₁ k₁ b₁ h₁) in
      let f₂ = follow s₂ (contents_of k₂) ts₂ e₂ (carried s₂ k₂ b₂ h₂) in (
        carries_same f₁.left f₂.left,
        record { answered = f₁.answered; reads = reads_as f₁.left },
        record { answered = f₂.answered; reads = reads_as f₂.left },
      );
}
