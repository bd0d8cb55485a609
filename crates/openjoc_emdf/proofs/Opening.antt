-- A carrier that is opened, and where its payloads start. Assumes nothing.
use mathlib.Core.Path.{◌≡◌, refl, sym, ◌∙◌}
use mathlib.Core.List.{List}
use Prim.Native.Nat.{ℕ, ◌*◌, ◌^◌, ◌≤◌, ◌<◌}
use native.Mathlib.Omega.{arith}
use lib.ListN.{length, take}
use Rattle.std.specs.Prelude.{Result, Ok, Err}
use Rattle.openjoc_bitio.specs.declared.BitCursor.{BitCursor}
use Rattle.openjoc_bitio.proofs.Results.{err-same, both-same, ok-is-not-err, err-is-not-ok}
use Rattle.emdf_format.specs.declared.EmdfError.{EmdfError}
use Rattle.emdf_format.specs.Reading.{Container, Reading, accepted, refusal, reading}
use Rattle.emdf_format.proofs.Carrier.{read-contained, read-limit, read-size}
use Rattle.emdf_fields.specs.Fields.{field_answer}
use Rattle.emdf_payloads.specs.Payloads.{Listed}
use Rattle.openjoc_emdf.specs.Answers.{parse_answer, first_payload, open_answer, Opened}
use Rattle.openjoc_emdf.specs.declared.ParsedEmdf.{ParsedEmdf}
use Rattle.openjoc_emdf.proofs.Header.{accepted-is, refusal-is}

module _ (s : List ℕ) {a : Result ParsedEmdf EmdfError} (i : a ≡ parse_answer (reading s)) where
  pub open-refused : {why : EmdfError} → a ≡ Err why → open_answer s (reading s) ≡ Err why
  unfolding open_answer
  open-refused t = rw (refusal-is (reading s) (sym i ∙ t))

  pub open-size : {p : ParsedEmdf} → a ≡ Ok p → (p.bytes_consumed.0 ≤ length s) × (p.bytes_consumed.0 * 8 < 2 ^ 64)
  open-size t =
      let (c, r, k) = accepted-is (reading s) (sym i ∙ t) in
      ((read-limit s _ c r).0, omega (arith, read-size s _ c r))

  pub open-parsed : {p : ParsedEmdf} {c : BitCursor} → a ≡ Ok p → c ≡ first_payload p.bytes_consumed.0 s → Ok (p, c) ≡ open_answer s (reading s)
  unfolding open_answer
  open-parsed {p} {c} t z =
      let (k, r, f) = accepted-is (reading s) (sym i ∙ t) in
      rw (r, f, z)

-- ---- where the payloads start

pub read_first : (s : List ℕ) (n : ℕ) (c : Container) → reading s ≡ accepted n c → Listed (take n s) (first_payload n s) c.found × ((first_payload n s).end ≡ n * 8)
unfolding first_payload field_answer
read_first s n c h =
    let (q, k) = read-contained s n c h in
    let z : 8 * n ≡ n * 8 = omega arith in
    let a = rw z at k.key-read in
    let b = rw z at k.list_read in
    rw a (record { bound = k.bound; to = k.codes_at; is = b }, refl)

-- ---- what opening a carrier says to its caller

pub opened : (s : List ℕ) {p : ParsedEmdf} {first : BitCursor} → open_answer s (reading s) ≡ Ok (p, first) → Opened s p first
unfolding open_answer
opened s {p} {first} h = go (reading s) refl h
  where
    go : (x : Reading) → reading s ≡ x → open_answer s x ≡ Ok (p, first) → Opened s p first
    go (accepted n c) r h =
        let (a, b) = both-same h in
        let f = read_first s n c r in
        rw (← a, ← b) (record { container = c; is = r; parsed = refl; there = (read-limit s n c r).0; from = refl; end = f.1; listed = f.0 })
    go (refusal why) r h = absurd (err-is-not-ok h)

pub unopened : (s : List ℕ) {why : EmdfError} → open_answer s (reading s) ≡ Err why → reading s ≡ refusal why
unfolding open_answer
unopened s {why} h = go (reading s) refl h
  where
    go : (x : Reading) → reading s ≡ x → open_answer s x ≡ Err why → reading s ≡ refusal why
    go (accepted n c) r h = absurd (ok-is-not-err h)
    go (refusal why') r h = let a = err-same h in rw a at r
