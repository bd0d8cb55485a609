-- A list of payloads, counted one after another with the largest number of groups. Assumes nothing.
use mathlib.Core.Path.{◌≡◌, refl, sym, ap, ◌∙◌}
use mathlib.Core.List.{List, ◌∷◌}
use Prim.Native.Nat.{ℕ, suc, ◌+◌, ◌-◌, ◌≤◌}
use native.Mathlib.Omega.{arith}
use native.Mathlib.Nat.{add-zero}
use lib.ListN.{length}
use Rattle.std.specs.Prelude.{Option, Some, None, Result, Ok, Err}
use Rattle.openjoc_bitio.specs.Cursor.{bits_remaining}
use Rattle.openjoc_bitio.specs.declared.BitCursor.{BitCursor}
use Rattle.openjoc_bitio.proofs.Results.{some-same, none-same, some-is-not-none, none-is-not-some, err-is-not-ok}
use Rattle.emdf_format.specs.Syntax.{extended_field}
use Rattle.emdf_format.specs.Reader.{Read, got, refused, and_then, ◌>>=◌, give, cursor_at}
use Rattle.emdf_format.specs.Reading.{Found as Payload, payloads, payload_of, payloads_of}
use Rattle.emdf_format.specs.Groups.{larger, payload_groups, payloads_groups}
use Rattle.emdf_format.specs.declared.EmdfError.{EmdfError}
use Rattle.emdf_format.specs.declared.PayloadRecord.{PayloadRecord}
use Rattle.emdf_format.proofs.Standing.{Stands, bit_limit, remaining-limit, taken, chosen, bind_inv, bind-go, bind-no, choose-inv, give-inv}
use Rattle.emdf_format.proofs.Payloads.{at-inv, id-law, after-sound}
use Rattle.emdf_format.proofs.Groups.{size-groups, larger-left, larger-zero, larger-assoc}
use Rattle.emdf_format.proofs.Loops.{payloads-enough}
use Rattle.emdf_payloads.specs.Payloads.{found, next_payload, next_answer, record_groups}
use Rattle.emdf_payloads.proofs.Turns.{ended_is, found-is, refused-is, moves, rest, enough, Onward, at-payload as onward}
use Rattle.emdf_payload_list.specs.List.{list_step, list_answer}

-- ---- what a step of the list says of the payload's

pub count_past : (most : ℕ) {more : ℕ} {next : BitCursor} (x : Result (Option PayloadRecord × BitCursor) EmdfError) → list_step most x ≡ Ok (Some more, next) → (r : PayloadRecord) × (x ≡ Ok (Some r, next)) × (larger most (record_groups r) ≡ more)
unfolding list_step
count_past most (Ok (Some r, c)) h =
    let p = some-same h in
    (r, ap {B = Result (Option PayloadRecord × BitCursor) EmdfError} (λ (k : BitCursor). Ok (Some r, k)) p.1, p.0)
count_past most (Ok (None, c)) h = absurd (none-is-not-some h)
count_past most (Err why) h = absurd (err-is-not-ok h)

pub count-end : (most : ℕ) {next : BitCursor} (x : Result (Option PayloadRecord × BitCursor) EmdfError) → list_step most x ≡ Ok (None, next) → x ≡ Ok (None, next)
unfolding list_step
count-end most (Ok (Some r, c)) h = absurd (some-is-not-none h)
count-end most (Ok (None, c)) h = ap {B = Result (Option PayloadRecord × BitCursor) EmdfError} (λ (k : BitCursor). Ok (None, k)) (none-same h)
count-end most (Err why) h = absurd (err-is-not-ok h)

pub count-refused : (most : ℕ) {why : EmdfError} (x : Result (Option PayloadRecord × BitCursor) EmdfError) → list_step most x ≡ Err why → x ≡ Err why
unfolding list_step
count-refused most (Ok (Some r, c)) h = absurd (let w : ◌≡◌ {A = ℕ} 0 1 = cc in omega arith)
count-refused most (Ok (None, c)) h = absurd (let w : ◌≡◌ {A = ℕ} 0 1 = cc in omega arith)
count-refused most (Err why) h = cc

-- ---- all that is left to count

-- a payload's record says how many groups it has
record-groups : (s : List ℕ) (e p q : ℕ) (x : Payload) → next_payload s e p ≡ got (found x) q → record_groups x.record_of ≡ payload_groups (payload_of x)
unfolding next_payload record_groups payload_groups
record-groups s e p q x h =
    taken (bind_inv h) λ p₀ q₀ h₀ t₀.
    let z = at-inv h₀ in
    taken (bind_inv t₀) λ id p₁ h₁ t₁.
    chosen (choose-inv t₁)
    (λ y t₂. let d = give-inv t₂ in absurd (let w : ◌≡◌ {A = ℕ} 0 1 = cc d.what in omega arith))
    λ y t₂.
    taken (bind_inv t₂) λ x' p₂ h₂ t₃.
    let a : x' ≡ x = cc (give-inv t₃).what in
    let i : Stands s e p₀ p₁ (extended_field 5 id) = rw (← z.is, z.to) (id-law.sound h₁).0 in
    rw (size-groups ((rw a at (after-sound p₀ id h₂)).spans i))

-- how many payloads there are and their largest groups, k of them counted already, with most
unfoldable pub count_from : ℕ → ℕ → ℕ → Read (List Payload) → Result (ℕ × ℕ × BitCursor) EmdfError
count_from k most e (got xs q) = Ok (k + length xs, larger most (payloads_groups (payloads_of xs)), cursor_at e q)
count_from k most e (refused why q) = Err why

pub count-all : (e : ℕ) (y : Read (List Payload)) → count_from 0 0 e y ≡ list_answer e y
unfolding count_from list_answer
count-all e (got xs q) = let z : 0 + length xs ≡ length xs = omega arith in rw (z, larger-zero)
count-all e (refused why q) = refl

counted-more : (k most e : ℕ) (x : Payload) (y : Read (List Payload)) → count_from (k + 1) (larger most (payload_groups (payload_of x))) e y ≡ count_from k most e (and_then y (λ xs q. got (x ∷ xs) q))
unfolding count_from and_then payloads_of payloads_groups
counted-more k most e x (got xs q) =
    let z : k + 1 + length xs ≡ k + suc (length xs) = omega arith in
    rw (z, larger-assoc most (payload_groups (payload_of x)) (payloads_groups (payloads_of xs)))
counted-more k most e x (refused why q) = refl

counted-rest : (k most : ℕ) (s : List ℕ) (n m e : ℕ) (c : BitCursor) (x : Payload) → c.end ≡ e → bit_limit s c.end - c.position ≤ n → bit_limit s e - c.position ≤ m
    → count_from (k + 1) (larger most (payload_groups (payload_of x))) c.end (payloads n s c.end c.position) ≡ count_from k most e (rest m (found x) s e c.position)
unfolding rest ◌>>=◌ give
counted-rest k most s n m e c x h a b =
    let a' : bit_limit s e - c.position ≤ n = rw h at a in
    rw (h, payloads-enough n m s e c.position a' b) (counted-more k most e x (payloads m s e c.position))

module _ (k most : ℕ) (s : List ℕ) (at : BitCursor) where
  abbrev e : ℕ
  e = at.end

  abbrev p : ℕ
  p = at.position

  -- all that is left to count
  abbrev pub left : Result (ℕ × ℕ × BitCursor) EmdfError
  left = count_from k most e (payloads (bits_remaining s at) s e p)

  pub at-end : {c : BitCursor} → next_answer e (next_payload s e p) ≡ Ok (None, c) → Ok (k, most, c) ≡ left
  unfolding count_from rest give payloads_of payloads_groups
  at-end h =
      let d = ended_is (next_payload s e p) h in
      rw (enough s at, bind-go next_payload (rest (bits_remaining s at)) d.is refl, add-zero, larger-left most 0 (omega arith), ← d.end)

  pub at-refused : {why : EmdfError} → next_answer e (next_payload s e p) ≡ Err why → Err why ≡ left
  unfolding count_from
  at-refused h = let d = refused-is e (next_payload s e p) h in rw (enough s at, bind-no next_payload (rest (bits_remaining s at)) d.1)

  pub record More (r : PayloadRecord) (c : BitCursor) : Type 0 where
    pub left : count_from (k + 1) (larger most (record_groups r)) c.end (payloads (bits_remaining s c) s c.end c.position) ≡ left
    pub onward : Onward s at c

  pub at-payload : {r : PayloadRecord} {c : BitCursor} → next_answer e (next_payload s e p) ≡ Ok (Some r, c) → More r c
  unfolding rest
  at-payload {r} {c} h =
      let (x, i, d) = found-is e (next_payload s e p) h in
      let m = moves s e p c.position x d.is in
      let g : record_groups r ≡ payload_groups (payload_of x) = ap record_groups (sym i) ∙ record-groups s e p c.position x d.is in
      let a : bits_remaining s at ≡ bit_limit s e - p = remaining-limit s e p in
      let b : bits_remaining s c ≡ bit_limit s c.end - c.position = remaining-limit s c.end c.position in
      let b' : bits_remaining s c ≡ bit_limit s e - c.position = b ∙ ap (λ (x : ℕ). bit_limit s x - c.position) d.end in
      record {
        left = rw (g, enough s at, bind-go next_payload (rest (bits_remaining s at)) d.is refl) (counted-rest k most s (bits_remaining s c) (bits_remaining s at) e c x d.end (omega (arith, b)) (omega (arith, b', a, m)));
        onward = onward s at h;
      }
