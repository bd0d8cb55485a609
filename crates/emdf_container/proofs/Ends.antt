-- How the reading of a container goes on after its payloads, its protection and its padding. Assumes nothing.
use mathlib.Core.Path.{◌≡◌, refl, sym, ap, ◌∙◌}
use mathlib.Core.List.{List}
use Prim.Native.Nat.{ℕ, zero, suc, ◌≤◌}
use native.Mathlib.Omega.{arith}
use Rattle.std.specs.Prelude.{Result, Ok, Err}
use Rattle.openjoc_bitio.specs.Cursor.{bits_remaining}
use Rattle.openjoc_bitio.specs.declared.BitCursor.{BitCursor}
use Rattle.openjoc_bitio.proofs.Results.{both-same, err-same, ok-is-not-err, err-is-not-ok}
use Rattle.emdf_format.specs.Reader.{Read, got, refused, Reader, ◌>>=◌, cursor_at, remaining, octets}
use Rattle.emdf_format.specs.Contents.{protection_length}
use Rattle.emdf_format.specs.Reading.{padding}
use Rattle.emdf_format.specs.declared.EmdfError.{EmdfError}
use Rattle.emdf_format.proofs.Standing.{bind-go}
use Rattle.emdf_container.specs.Container.{protection_bytes, bytes_answer, padding_answer, container_answer}
use Rattle.emdf_container.specs.declared.ProtectionBytes.{ProtectionBytes}
use Rattle.emdf_fields.proofs.Answers.{Found, ends}

-- ---- what the answers say

pub bytes-found : (e : ℕ) (x : Read (List ℕ)) {b : ProtectionBytes} {c : BitCursor} → bytes_answer e x ≡ Ok (b, c) → (bs : List ℕ) × (protection_bytes bs ≡ b) × Found x e bs c
unfolding bytes_answer
bytes-found e (got bs q) h =
    let p = both-same h in
    (bs, p.0, record { is = rw (← p.1); end = rw (← p.1) })
bytes-found e (refused why q) h = absurd (err-is-not-ok h)

bytes-ended : (e : ℕ) (x : Read (List ℕ)) {why : EmdfError} → bytes_answer e x ≡ Err why → (q : ℕ) × (x ≡ refused why q)
unfolding bytes_answer
bytes-ended e (got bs q) h = absurd (ok-is-not-err h)
bytes-ended e (refused why' q) h = (q, rw (err-same h))

padding-fine : (x : Read (Unit {0})) {u : Unit {0}} → padding_answer x ≡ Ok u → (q : ℕ) × (x ≡ got tt q)
unfolding padding_answer
padding-fine (got u q) h = (q, refl)
padding-fine (refused why q) h = absurd (err-is-not-ok h)

padding-ended : (x : Read (Unit {0})) {why : EmdfError} → padding_answer x ≡ Err why → (q : ℕ) × (x ≡ refused why q)
unfolding padding_answer
padding-ended (got u q) h = absurd (ok-is-not-err h)
padding-ended (refused why' q) h = (q, rw (err-same h))

-- ---- how the definition goes on

remaining-is : (s : List ℕ) (e p : ℕ) → remaining s e p ≡ got (bits_remaining s (cursor_at e p)) p
unfolding remaining
remaining-is s e p = refl

module _ {B Z : Type 0} {r : Z} (g : ℕ → Read B → Z) where
  -- the bits left
  pub left : (k : ℕ → Reader B) (s : List ℕ) (e p : ℕ) → r ≡ g e (k (bits_remaining s (cursor_at e p)) s e p) → r ≡ g e ((remaining >>= k) s e p)
  left k s e p z = z ∙ ap (g e) (sym (bind-go remaining k (remaining-is s e p) refl))

  -- padding that is fine: only what is given follows it
  pub padded : (k : Unit {0} → Reader B) (s : List ℕ) (e p : ℕ) {a : Result (Unit {0}) EmdfError} {u : Unit {0}}
      → a ≡ padding_answer (padding s e p) → a ≡ Ok u → ((q : ℕ) → r ≡ g e (k tt s e q)) → r ≡ g e ((padding >>= k) s e p)
  padded k s e p i t z =
      let d = padding-fine (padding s e p) (sym i ∙ t) in
      z d.0 ∙ ap (g e) (sym (bind-go padding k d.1 refl))

-- the answer that g gives a refusal, wherever it stands
module _ {B Z : Type 0} (g : ℕ → Read B → Result Z EmdfError) (refuses : (e q : ℕ) (why : EmdfError) → Err why ≡ g e (refused why q)) where
  pub by_bytes : (m : Reader (List ℕ)) (k : List ℕ → Reader B) (s : List ℕ) (e p : ℕ) {a : Result (ProtectionBytes × BitCursor) EmdfError} {r : Result Z EmdfError} {why : EmdfError}
      → a ≡ bytes_answer e (m s e p) → a ≡ Err why → r ≡ Err why → r ≡ g e ((m >>= k) s e p)
  by_bytes m k s e p {why = why} i t z =
      let d = bytes-ended e (m s e p) (sym i ∙ t) in
      ends g m k s e p d.1 (z ∙ refuses e d.0 why)

  pub by-padding : (k : Unit {0} → Reader B) (s : List ℕ) (e p : ℕ) {a : Result (Unit {0}) EmdfError} {r : Result Z EmdfError} {why : EmdfError}
      → a ≡ padding_answer (padding s e p) → a ≡ Err why → r ≡ Err why → r ≡ g e ((padding >>= k) s e p)
  by-padding k s e p {why = why} i t z =
      let d = padding-ended (padding s e p) (sym i ∙ t) in
      ends g padding k s e p d.1 (z ∙ refuses e d.0 why)

pub container-refuses : (e q : ℕ) (why : EmdfError) → Err why ≡ container_answer e (refused why q)
unfolding container_answer
container-refuses e q why = refl

-- ---- protections whose length was computed

pub bytes-as : {a : Result (ProtectionBytes × BitCursor) EmdfError} (n m : ℕ) (s : List ℕ) (e p : ℕ) → a ≡ bytes_answer e (octets n s e p) → n ≡ m → a ≡ bytes_answer e (octets m s e p)
bytes-as n m s e p h z = rw z at h

pub short-protection : {n : ℕ} (c : ℕ) → n ≡ protection_length c → n ≤ 16
unfolding protection_length
short-protection zero h = omega arith
short-protection (suc zero) h = omega arith
short-protection (suc (suc zero)) h = omega arith
short-protection (suc (suc (suc c))) h = omega arith
