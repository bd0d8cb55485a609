-- The six edits: on plain contents, on carriers, and lists of calls; and what is claimed of whole lists. Assumes nothing.
use Rattle.std.specs.Prelude.{◌≡◌, Bool, true, false, List, [], ◌∷◌, ◌++◌, ◌↔◌, ℕ, zero, suc, ◌+◌, ◌<◌, ◌≤◌, length, get_or, take, drop, replicate, leb, ltb, eqb, if◌then◌else◌, Result, Ok, Err}
use Rattle.std.proofs.Math.Option.{some}
use Rattle.std.proofs.Math.ListN.{get_elem?}
use Rattle.openjoc_bitio.specs.declared.ByteCount.{ByteCount}
use Rattle.emdf_format.specs.Types.{EmdfPayloadConfig, PayloadRow, EditError}
use Rattle.emdf_format.specs.declared.EditError.TheVariants.{Emdf, TrailingData, NoSuchPlace, NotWritable, TooLong, DestinationTooShort}
use Rattle.emdf_format.specs.Syntax.{most_declared}
use Rattle.emdf_format.specs.Contents.{Payload, Contents, writable, declared, carrier}
use Rattle.emdf_format.specs.Reading.{Container, Reading, accepted, refusal, reading, contents_of}
use Rattle.emdf_format.specs.Ordinals.{occurrences, ordinal_at, ids_of, rows_of}
use Rattle.emdf_format.specs.Calls.{recorded, in_table, BodiesAtSpans}

-- the steps of the scope, with their arguments; places count from 0
pub data Edit : Type 0 where
  body_edit : ℕ → List ℕ → Edit
  settings_edit : ℕ → EmdfPayloadConfig → Edit
  drop_edit : ℕ → Edit
  insert_edit : ℕ → ℕ → EmdfPayloadConfig → List ℕ → Edit
  key_edit : ℕ → Edit
  protection_edit : List ℕ → List ℕ → Edit

-- ---- on contents

-- another payload at place k
unfoldable pub with_at : ℕ → (Payload → Payload) → List Payload → List Payload
with_at k f [] = []
with_at zero f (x ∷ xs) = f x ∷ xs
with_at (suc k) f (x ∷ xs) = x ∷ with_at k f xs

abbrev pub with_body : List ℕ → Payload → Payload
with_body bs x = record { id = x.id; config = x.config; body = bs }

abbrev pub with_config : EmdfPayloadConfig → Payload → Payload
with_config t x = record { id = x.id; config = t; body = x.body }

unfoldable pub with_payloads : Contents → List Payload → Contents
with_payloads c xs = record { key-id = c.key-id; payloads = xs; primary = c.primary; secondary = c.secondary }

-- the protections were made for what an edit changes: zeros, as many, stand in their place
unfoldable pub cleared : Contents → Contents
cleared c = record {
  key-id = c.key-id;
  payloads = c.payloads;
  primary = replicate (length c.primary) 0;
  secondary = replicate (length c.secondary) 0;
}

-- each replaces what it names, and clears the protections unless it brings them; an insert stands before place k
unfoldable pub change : Edit → Contents → Contents
change (body_edit k bs) c = with_payloads (cleared c) (with_at k (with_body bs) c.payloads)
change (settings_edit k t) c = with_payloads (cleared c) (with_at k (with_config t) c.payloads)
change (drop_edit k) c = with_payloads (cleared c) (take k c.payloads ++ drop (suc k) c.payloads)
change (insert_edit k i t bs) c =
    with_payloads (cleared c) (take k c.payloads ++ record { id = i; config = t; body = bs } ∷ drop k c.payloads)
change (key_edit i) c = record { key-id = i; payloads = c.payloads; primary = (cleared c).primary; secondary = (cleared c).secondary }
change (protection_edit a b) c = record { key-id = c.key-id; payloads = c.payloads; primary = a; secondary = b }

-- all but the edit of the protections
abbrev pub clears : Edit → Bool
clears (body_edit k bs) = true
clears (settings_edit k t) = true
clears (drop_edit k) = true
clears (insert_edit k i t bs) = true
clears (key_edit i) = true
clears (protection_edit a b) = false

-- an edit leaves zeros for the protections, as many, or those that it brings
pub record Clearing : Type 0 where
  pub zeros : (e : Edit) (c : Contents) → clears e ≡ true
      → ((change e c).primary ≡ replicate (length c.primary) 0) × ((change e c).secondary ≡ replicate (length c.secondary) 0)
  pub given : (a b : List ℕ) (c : Contents) → ((change (protection_edit a b) c).primary ≡ a) × ((change (protection_edit a b) c).secondary ≡ b)

-- 16: does the place exist, in so many payloads?
unfoldable pub place_exists : Edit → ℕ → Bool
place_exists (body_edit k bs) count = ltb k count
place_exists (settings_edit k t) count = ltb k count
place_exists (drop_edit k) count = ltb k count
place_exists (insert_edit k i t bs) count = leb k count
place_exists (key_edit i) count = true
place_exists (protection_edit a b) count = true

pub data Stepped : Type 0 where
  changed : Contents → Stepped
  unchanged : EditError → Stepped

abbrev pub carrier_length : Contents → ℕ
carrier_length c = 4 + declared c

-- 19, of the copy; room is the destination's length
unfoldable pub in_room : ℕ → Contents → Stepped
in_room room c =
    if leb (carrier_length c) room then changed c else unchanged (DestinationTooShort (record { 0 = carrier_length c }))

-- 17 and 18 before it
unfoldable pub step_to : ℕ → Contents → Stepped
step_to room c =
    if writable c then (if leb (declared c) most_declared then in_room room c else unchanged TooLong) else unchanged NotWritable

-- the plain step: an edit's arguments and its destination's length, and nothing from a program
unfoldable pub step : Edit → ℕ → Contents → Stepped
step e room c = if place_exists e (length c.payloads) then step_to room (change e c) else unchanged NoSuchPlace

unfoldable pub step_answer : Stepped → Result ByteCount EditError
step_answer (changed c) = Ok (record { 0 = carrier_length c })
step_answer (unchanged why) = Err why

unfoldable pub step_contents : Stepped → Contents → Contents
step_contents (changed c) before = c
step_contents (unchanged why) before = before

-- ---- on carriers: what each of the six calls answers, and what it leaves in its destination

pub record Edited : Type 0 where
  pub answer : Result ByteCount EditError
  pub destination : List ℕ

unfoldable pub written : Stepped → List ℕ → List ℕ
written (changed c) dst = carrier c ++ drop (carrier_length c) dst
written (unchanged why) dst = dst

-- the source is read first, and has nothing after its container
unfoldable pub step_from : Reading → ℕ → Edit → ℕ → Stepped
step_from (accepted n c) len e room = if eqb n len then step e room (contents_of c) else unchanged TrailingData
step_from (refusal why) len e room = unchanged (Emdf why)

unfoldable pub edited : Edit → List ℕ → List ℕ → Edited
edited e src dst =
    let o : Stepped = step_from (reading src) (length src) e (length dst) in
    record { answer = step_answer o; destination = written o dst }

-- what a call gives: its answer, and its destination at exit
abbrev pub Gives : Edited → Result ByteCount EditError → List ℕ → Type 0
Gives e answer exit = (answer ≡ e.answer) × (exit ≡ e.destination)

-- what each of the six calls promises
abbrev pub Called : Edit → List ℕ → List ℕ → Result ByteCount EditError → List ℕ → Type 0
Called e src dst = Gives (edited e src dst)

-- the blank carrier: 17 and 19
abbrev pub blank_contents : ℕ → List ℕ → List ℕ → Contents
blank_contents i a b = record { key-id = i; payloads = []; primary = a; secondary = b }

unfoldable pub blank : ℕ → List ℕ → List ℕ → List ℕ → Edited
blank i a b dst =
    let c : Contents = blank_contents i a b in
    let o : Stepped = if writable c then in_room (length dst) c else unchanged NotWritable in
    record { answer = step_answer o; destination = written o dst }

-- ---- lists of calls, each with a destination of its own

pub record Call : Type 0 where
  pub edit : Edit
  pub destination : List ℕ

-- the next call's source: the carrier in the destination, or the same one
unfoldable pub next_source : List ℕ → Result ByteCount EditError → List ℕ → List ℕ
next_source src (Ok n) dst = take n.0 dst
next_source src (Err why) dst = src

-- what a call answers, and the carrier that it leaves
pub record Done : Type 0 where
  pub answer : Result ByteCount EditError
  pub left : List ℕ

unfoldable pub done : List ℕ → Call → Done
done src t =
    let r : Edited = edited t.edit src t.destination in
    record { answer = r.answer; left = next_source src r.answer r.destination }

unfoldable pub leaves : List ℕ → List Call → List ℕ
leaves src [] = src
leaves src (t ∷ ts) = leaves (done src t).left ts

unfoldable pub answers : List ℕ → List Call → List (Result ByteCount EditError)
answers src [] = []
answers src (t ∷ ts) = (done src t).answer ∷ answers (done src t).left ts

-- ---- the plain side: all that it is told of a call is the edit, and how long the destination is

pub record Event : Type 0 where
  pub edit : Edit
  pub room : ℕ

abbrev pub event_of : Call → Event
event_of t = record { edit = t.edit; room = length t.destination }

unfoldable pub events : List Call → List Event
events [] = []
events (t ∷ ts) = event_of t ∷ events ts

-- what an event answers, and the contents that it leaves
pub record Outcome : Type 0 where
  pub answer : Result ByteCount EditError
  pub contents : Contents

unfoldable pub outcome : Contents → Event → Outcome
outcome c e =
    let o : Stepped = step e.edit e.room c in
    record { answer = step_answer o; contents = step_contents o c }

unfoldable pub plain_contents : Contents → List Event → Contents
plain_contents c [] = c
plain_contents c (e ∷ es) = plain_contents (outcome c e).contents es

unfoldable pub plain_answers : Contents → List Event → List (Result ByteCount EditError)
plain_answers c [] = []
plain_answers c (e ∷ es) = (outcome c e).answer ∷ plain_answers (outcome c e).contents es

-- ---- what the scope claims of ordinals

abbrev ordinal_of : Contents → ℕ → ℕ
ordinal_of c k = ordinal_at (ids_of c.payloads) k

abbrev id_at : Contents → ℕ → ℕ
id_at c k = get_or (ids_of c.payloads) k 0

-- a drop lowers by 1 those of later payloads of its id; an insert, which is one more of its id, raises by 1 those of later ones; no
-- other ordinal changes
pub record OrdinalsOfEdits : Type 0 where
  pub before-drop : (c : Contents) (k i : ℕ) → k < length c.payloads → i < k → ordinal_of (change (drop_edit k) c) i ≡ ordinal_of c i
  pub after-drop : (c : Contents) (k i : ℕ) → k ≤ i → suc i < length c.payloads
      → ordinal_of c (suc i)
      ≡ (if eqb (id_at c k) (id_at c (suc i)) then suc (ordinal_of (change (drop_edit k) c) i) else ordinal_of (change (drop_edit k) c) i)
  pub before-insert : (c : Contents) (k i x : ℕ) (t : EmdfPayloadConfig) (bs : List ℕ) → k ≤ length c.payloads → i < k
      → ordinal_of (change (insert_edit k x t bs) c) i ≡ ordinal_of c i
  pub inserted : (c : Contents) (k x : ℕ) (t : EmdfPayloadConfig) (bs : List ℕ) → k ≤ length c.payloads
      → ordinal_of (change (insert_edit k x t bs) c) k ≡ suc (occurrences x (take k (ids_of c.payloads)))
  pub after-insert : (c : Contents) (k i x : ℕ) (t : EmdfPayloadConfig) (bs : List ℕ) → k ≤ i → i < length c.payloads
      → ordinal_of (change (insert_edit k x t bs) c) (suc i) ≡ (if eqb x (id_at c i) then suc (ordinal_of c i) else ordinal_of c i)
  pub other-body : (c : Contents) (k i : ℕ) (bs : List ℕ) → ordinal_of (change (body_edit k bs) c) i ≡ ordinal_of c i
  pub other-settings : (c : Contents) (k i : ℕ) (t : EmdfPayloadConfig) → ordinal_of (change (settings_edit k t) c) i ≡ ordinal_of c i
  pub other_key : (c : Contents) (i x : ℕ) → ordinal_of (change (key_edit x) c) i ≡ ordinal_of c i
  pub other-protection : (c : Contents) (i : ℕ) (a b : List ℕ) → ordinal_of (change (protection_edit a b) c) i ≡ ordinal_of c i

-- ---- what the scope claims of whole lists

-- bytes are bytes: so is what every slice holds
abbrev pub Bytes : List ℕ → Type 0
Bytes s = (i : ℕ) → get_or s i 0 < 256

unfoldable pub EditBytes : Edit → Type 0
EditBytes (body_edit k bs) = Bytes bs
EditBytes (settings_edit k t) = Unit {0}
EditBytes (drop_edit k) = Unit {0}
EditBytes (insert_edit k i t bs) = Bytes bs
EditBytes (key_edit i) = Unit {0}
EditBytes (protection_edit a b) = Bytes a × Bytes b

unfoldable pub CallsBytes : List Call → Type 0
CallsBytes [] = Unit {0}
CallsBytes (t ∷ ts) = EditBytes t.edit × CallsBytes ts

-- reading s answers its length and the contents c: key id, count, protections; in a table long enough each id, settings and ordinal;
-- and each body's bytes stand at its span
pub record ReadsAs (s : List ℕ) (c : Contents) : Type 0 where
  pub container : Container
  pub whole : reading s ≡ accepted (length s) container
  pub contents : contents_of container ≡ c
  pub records : (rows : ℕ) → length c.payloads ≤ rows → in_table rows (reading s) ≡ recorded (length s) container
  pub ordinals : (k : ℕ) (r : PayloadRow) → get_elem? (rows_of container.found) k ≡ some r → r.ordinal ≡ ordinal_of c k
  pub bodies : BodiesAtSpans s container.found

-- an accepted blank reads as its contents
pub record BlankReads : Type 0 where
  pub claim : (i : ℕ) (a b dst : List ℕ) (n : ByteCount) → Bytes a → Bytes b → (blank i a b dst).answer ≡ Ok n
      → ReadsAs (take n.0 (blank i a b dst).destination) (blank_contents i a b)

-- a list of calls from one carrier: each answer is the plain one, and what is left reads as the plain contents
pub record Follows (s : List ℕ) (c : Contents) (ts : List Call) : Type 0 where
  pub answered : answers s ts ≡ plain_answers c (events ts)
  pub reads : ReadsAs (leaves s ts) (plain_contents c (events ts))

-- any two carriers that are each exactly one container, any two lists of calls with destinations of any content and length
pub record EqualityOfCarriers : Type 0 where
  pub claim : (s₁ s₂ : List ℕ) (k₁ k₂ : Container) (ts₁ ts₂ : List Call)
      → Bytes s₁ → Bytes s₂ → CallsBytes ts₁ → CallsBytes ts₂
      → reading s₁ ≡ accepted (length s₁) k₁ → reading s₂ ≡ accepted (length s₂) k₂
      → ((leaves s₁ ts₁ ≡ leaves s₂ ts₂) ↔ (plain_contents (contents_of k₁) (events ts₁) ≡ plain_contents (contents_of k₂) (events ts₂)))
      × Follows s₁ (contents_of k₁) ts₁
      × Follows s₂ (contents_of k₂) ts₂
