-- Where the parts of an opened carrier stand that is all of its source. Assumes nothing.
use mathlib.Core.Path.{◌≡◌, sym, ap}
use mathlib.Core.List.{List}
use Prim.Native.Nat.{ℕ, ◌+◌, ◌-◌, ◌*◌, ◌≤◌}
use native.Mathlib.Omega.{arith}
use lib.ListN.{length, take, drop, length-drop}
use lib.Seq.{take_all}
use Rattle.openjoc_bitio.specs.declared.BitCursor.{BitCursor}
use Rattle.openjoc_bitio.proofs.Bits.{length-number}
use Rattle.emdf_format.specs.Contents.{extension_bits, needed_payloads, needed_bits}
use Rattle.emdf_format.specs.Reading.{Container, accepted, reading, payloads_of, contents_of}
use Rattle.emdf_format.proofs.Standing.{length-then, stands-to, stands-in}
use Rattle.emdf_format.proofs.Lengths.{length-extended, length-container}
use Rattle.emdf_format.proofs.Container.{contained-stands}
use Rattle.emdf_format.proofs.Carrier.{read-contained, read-limit, read-size}
use Rattle.emdf_fields.specs.Fields.{field_answer}
use Rattle.openjoc_emdf.specs.Answers.{first_payload, Opened}
use Rattle.emdf_container.specs.Container.{container_of, protection_bytes}
use Rattle.openjoc_emdf.specs.declared.ParsedEmdf.{ParsedEmdf}
use Rattle.emdf_payloads.specs.Payloads.{step_at}
use Rattle.emdf_plan.specs.Plan.{layout_of}
use Rattle.emdf_plan.specs.Walking.{past_payloads, placed_at}
use Rattle.emdf_plan.proofs.Walked.{Ahead, past-many, past-rest, trace-past}

-- how far a container that is read goes
pub end-limit : (s : List ℕ) (n : ℕ) (c : Container) → reading s ≡ accepted n c → 32 + needed_bits (contents_of c) ≤ 8 * 65539
unfolding needed_bits
end-limit s n c i =
    let (q, k) = read-contained s n c i in
    let h = contained-stands k in
    let l = length-container (contents_of c) in
    omega (arith, l, stands-to h, stands-in h (omega (arith, l)), (read-limit s n c i).1, read-size s n c i)

-- the octets of both protections
abbrev pub octets : ParsedEmdf → ℕ
octets p = p.container.protection.primary.length.0 + p.container.protection.secondary.length.0

module _ {s : List ℕ} {p : ParsedEmdf} {first : BitCursor} (o : Opened s p first) where
  abbrev c : Container
  c = o.container

  abbrev n : ℕ
  n = p.bytes_consumed.0

  -- ---- what is recorded of it

  pub count : p.container.payloads ≡ length c.found
  unfolding container_of
  count = ap (λ (p : ParsedEmdf). p.container.payloads) (sym o.parsed)

  octets-are : octets p ≡ length c.primary + length c.secondary
  unfolding container_of protection_bytes
  octets-are = ap octets (sym o.parsed)

  -- ---- where its payloads start

  starts : first.position ≡ 37 + extension_bits 3 c.key-id
  unfolding first_payload field_answer
  starts =
      let (q, k) = read-contained s n c o.is in
      let z : 8 * n ≡ n * 8 = omega arith in
      let a : (first_payload n s).position ≡ k.payloads-at = rw (rw z at k.key-read) in
      let l = rw (length-then, length-number, length-extended) at (stands-to k.key) in
      omega (arith, ap (λ (c : BitCursor). c.position) o.from, a, l)

  -- ---- its layout, by the cursors past the payloads before a place, past its own and past the others

  abbrev mark : ℕ
  mark = 37 + extension_bits 3 c.key-id + needed_payloads (payloads_of c.found)

  module _ (whole : n ≡ length s) (k : ℕ) (h : k ≤ length c.found) where
    abbrev at : BitCursor
    at = past_payloads s first k

    abbrev last : BitCursor
    last = past_payloads s (placed_at (step_at s at) at).next (p.container.payloads - 1 - k)

    ahead : Ahead s mark first c.found
    ahead =
        let z : take n s ≡ s = take_all n s (omega (arith, whole)) in
        record { listed = rw z at o.listed; marked = omega (arith, starts) }

    last-at : last.position ≡ mark
    last-at =
        let z : p.container.payloads - 1 - k ≡ length (drop k c.found) - 1 = omega (arith, count, length-drop k c.found) in
        rw z (past-rest s mark at (drop k c.found) (past-many s mark k first c.found h ahead))

    end-at : last.position + 5 + 4 + 8 * octets p ≡ 32 + needed_bits (contents_of c)
    unfolding needed_bits
    end-at = omega (arith, last-at, octets-are)

    pub end_fits : last.position + 5 + 4 + 8 * octets p ≤ 8 * 65539
    end_fits = omega (arith, end-at, end-limit s n c o.is)

    pub laid : record {
      first = record { 0 = first.position };
      place = (placed_at (step_at s at) at).trace;
      codes = record { 0 = last.position + 5 };
      end = record { 0 = last.position + 5 + 4 + 8 * octets p };
    } ≡ layout_of k c
    unfolding layout_of
    laid = cc (starts, trace-past s mark k first c.found h ahead, last-at, end-at)
