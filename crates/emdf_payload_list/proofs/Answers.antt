-- What the list's answer says of the reading. Assumes nothing.
use mathlib.Core.Path.{◌≡◌, sym, ◌∙◌}
use mathlib.Core.List.{List}
use Prim.Native.Nat.{ℕ}
use lib.ListN.{length}
use Rattle.std.specs.Prelude.{Result, Ok, Err}
use Rattle.openjoc_bitio.specs.declared.BitCursor.{BitCursor}
use Rattle.openjoc_bitio.proofs.Results.{all-same, err-same, ok-is-not-err, err-is-not-ok}
use Rattle.emdf_format.specs.Reader.{Read, got, refused, Reader, ◌>>=◌}
use Rattle.emdf_format.specs.Reading.{Found as Payload, payloads_of}
use Rattle.emdf_format.specs.Groups.{payloads_groups}
use Rattle.emdf_format.specs.declared.EmdfError.{EmdfError}
use Rattle.emdf_fields.proofs.Answers.{Found, ends}
use Rattle.emdf_payload_list.specs.List.{list_answer}

pub list-found : (e : ℕ) (x : Read (List Payload)) {n m : ℕ} {c : BitCursor} → list_answer e x ≡ Ok (n, m, c)
    → (xs : List Payload) × (length xs ≡ n) × (payloads_groups (payloads_of xs) ≡ m) × Found x e xs c
unfolding list_answer
list-found e (got xs q) h =
    let p = all-same h in
    (xs, p.0, p.1, record { is = rw (← p.2); end = rw (← p.2) })
list-found e (refused why q) h = absurd (err-is-not-ok h)

list-ended : (e : ℕ) (x : Read (List Payload)) {why : EmdfError} → list_answer e x ≡ Err why → (q : ℕ) × (x ≡ refused why q)
unfolding list_answer
list-ended e (got xs q) h = absurd (ok-is-not-err h)
list-ended e (refused why' q) h = (q, rw (err-same h))

-- the answer that g gives a refusal is the list's
pub by-list : {B Z : Type 0} (g : ℕ → Read B → Result Z EmdfError) → ((e q : ℕ) (why : EmdfError) → Err why ≡ g e (refused why q))
    → (m : Reader (List Payload)) (k : List Payload → Reader B) (s : List ℕ) (e p : ℕ) {a : Result (ℕ × ℕ × BitCursor) EmdfError} {r : Result Z EmdfError} {why : EmdfError}
    → a ≡ list_answer e (m s e p) → a ≡ Err why → r ≡ Err why → r ≡ g e ((m >>= k) s e p)
by-list g refuses m k s e p {why = why} i t z =
    let d = list-ended e (m s e p) (sym i ∙ t) in
    ends g m k s e p d.1 (z ∙ refuses e d.0 why)
