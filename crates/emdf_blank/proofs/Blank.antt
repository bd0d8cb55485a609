-- The blank carrier: its bits in the order of writing, and what the call answers. Assumes nothing.
use mathlib.Core.Path.{◌≡◌, refl, sym, ap, ◌∙◌, subst}
use mathlib.Core.Bool.{Bool, true, false}
use mathlib.Core.List.{List, ◌++◌}
use Prim.Native.Nat.{ℕ, zero, suc, ◌+◌, ◌-◌, ◌*◌, ◌^◌, ◌<◌, ◌≤◌}
use native.Mathlib.Omega.{arith}
use lib.ListN.{length, drop}
use lib.Seq.{take_at}
use lib.Dec.{T, leb, eqb→eq, ltb→lt, lit<}
use borrow.Author.Tests.{lt-ltb, le-leb, lt-leb}
use Rattle.openjoc_bitio.specs.Bits.{number_bits}
use Rattle.openjoc_bitio.proofs.Bits.{length-number}
use Rattle.std.specs.Prelude.{if◌then◌else◌, Result, Ok, Err}
use Rattle.openjoc_bitio.specs.declared.ByteCount.{ByteCount}
use Rattle.emdf_format.specs.declared.EditError.{EditError}
use Rattle.emdf_format.specs.declared.EditError.TheVariants.{NotWritable, DestinationTooShort}
use Rattle.emdf_format.specs.Syntax.{◌⨟◌, extended_field}
use Rattle.emdf_format.specs.Contents.{Contents, ◌&◌, protection_length, protection_code, codable, writable, writable_payloads, contents_are_bytes, bodies_are_bytes, needed_bits, needed_payloads, declared, payloads_bits, protection_bits, container_bits, carrier_bits, carrier}
use Rattle.emdf_format.specs.Edits.{Bytes, Stepped, changed, unchanged, carrier_length, in_room, step_answer, written, blank_contents, blank, Gives, ReadsAs, BlankReads}
use Rattle.emdf_format.proofs.Standing.{T_of, length-then, both, and}
use Rattle.emdf_format.proofs.Bytes.{declared-is, length-carrier}
use Rattle.emdf_format.proofs.Lists.{Carries, reads_as, all-bytes}
use Rattle.emdf_format.proofs.Splice.{⨟-assoc}
use Rattle.emdf_measure.specs.Parts.{writable_protection}
use Rattle.emdf_measure.proofs.Asked.{extension-few}
use Rattle.emdf_field_writer.specs.Fields.{sync_bits, header_bits}
use Rattle.emdf_field_writer.proofs.Putting.{length-header}

-- ---- sizes

protection-short : (c : ℕ) → protection_length c ≤ 16
unfolding protection_length
protection-short zero = omega arith
protection-short (suc zero) = omega arith
protection-short (suc (suc zero)) = omega arith
protection-short (suc (suc (suc c))) = omega arith

codable-short : (n : ℕ) → T (codable n) → n ≤ 16
unfolding codable
codable-short n h = let e : n ≡ protection_length (protection_code n) = eqb→eq n _ h in omega (arith, e, protection-short (protection_code n))

pub writable-short : (a b : List ℕ) → writable_protection a b ≡ true → (length a ≤ 16) × (length b ≤ 16)
unfolding writable_protection
writable-short a b h =
    let t = both (both (subst T (sym h) tt)).right in
    (codable-short (length a) t.left, codable-short (length b) t.right)

module _ (key : ℕ) (a b : List ℕ) where
  abbrev c : Contents
  c = blank_contents key a b

  -- ---- bits

  length-blank : length (container_bits c) ≡ 7 + (length (extended_field 3 key) + length (protection_bits a b))
  unfolding container_bits payloads_bits
  length-blank = simp (length-then, length-number) (omega arith)

  blank-parts : carrier_bits c ≡ header_bits (declared c) key ⨟ number_bits 5 0 ⨟ protection_bits a b ⨟ number_bits (8 * declared c - length (container_bits c)) 0
  unfolding carrier_bits container_bits payloads_bits header_bits sync_bits
  blank-parts = simp ⨟-assoc

  module _ (size : ℕ) (e : size ≡ declared c) where
    abbrev before : ℕ
    before = length (header_bits size key) + 5 + length (protection_bits a b)

    -- what is put before the padding ends less than a byte before the carrier does
    pub blank-size : (before ≤ (4 + size) * 8) × ((4 + size) * 8 < before + 8)
    blank-size = let d = declared-is c in omega (arith, e, d.0, d.1, length-blank, length-header size key)

    pub blank-bits : (end : ℕ) → end ≡ before → header_bits size key ⨟ number_bits 5 0 ⨟ protection_bits a b ⨟ number_bits ((4 + size) * 8 - end) 0 ≡ carrier_bits c
    blank-bits end h =
        let z : (4 + size) * 8 - end ≡ 8 * declared c - length (container_bits c) = omega (arith, h, e, length-blank, length-header size key) in
        rw (z, e) (sym blank-parts)

  -- ---- the call

  module _ (dst : List ℕ) (key_fits : key < 2 ^ 64) where
    writable-blank : writable c ≡ writable_protection a b
    unfolding writable writable_payloads writable_protection ◌&◌
    writable-blank = simp (lt-ltb key (2 ^ 64) key_fits)

    abbrev Answers : Result ByteCount EditError → List ℕ → Type 0
    Answers = Gives (blank key a b dst)

    pub not-writable : writable_protection a b ≡ false → Answers (Err NotWritable) dst
    unfolding blank step_answer written
    not-writable h = rw (writable-blank, h) (refl, refl)

    module _ (ok : writable_protection a b ≡ true) (n : ℕ) (e : n ≡ carrier_length c) where
      pub no_room : length dst < n → Answers (Err (DestinationTooShort (record { 0 = n }))) dst
      unfolding blank in_room step_answer written
      no_room h = let l : length dst < carrier_length c = omega arith in simp (writable-blank, ok, lt-leb (carrier_length c) (length dst) l, e) (refl, refl)

      pub in-room : n ≤ length dst → {d : List ℕ} → d ≡ carrier c ++ drop n dst → Answers (Ok (record { 0 = n })) d
      unfolding blank in_room step_answer written
      in-room h {d} k = let l : carrier_length c ≤ length dst = omega arith in simp (writable-blank, ok, le-leb (carrier_length c) (length dst) l, e) (refl, k ∙ ap (λ (m : ℕ). carrier c ++ drop m dst) e)

-- ---- what an accepted blank reads as

asked : (t : Bool) (o : Stepped) (why : EditError) {n : ByteCount} → step_answer (if t then o else unchanged why) ≡ Ok n → (t ≡ true) × (step_answer o ≡ Ok n)
unfolding step_answer
asked true o why h = (refl, h)
asked false o why h = absurd (let z : ◌≡◌ {A = ℕ} 0 1 = cc in omega arith)

blank-carries : (i : ℕ) (a b : List ℕ) → T (writable (blank_contents i a b)) → Bytes a → Bytes b → Carries (carrier (blank_contents i a b)) (blank_contents i a b)
unfolding writable writable_payloads contents_are_bytes bodies_are_bytes declared needed_bits needed_payloads
blank-carries i a b w f g =
    let k = both w in
    let t = both (both (both k.right).right).right in
    let x = extension-few 3 i (lit< tt) (lit< tt) (ltb→lt i (2 ^ 64) k.left) in
    record {
      is = refl;
      fit = w;
      bytes = and _ _ tt (and _ _ (all-bytes a f) (all-bytes b g));
      small = omega (arith, x, codable-short (length a) t.left, codable-short (length b) t.right);
    }

pub blank-reads : BlankReads
unfolding blank in_room step_answer written
blank-reads = record {
  claim = λ i a b dst n f g h.
      let c = blank_contents i a b in
      let (w, h₁) = asked (writable c) (in_room (length dst) c) NotWritable h in
      let (l, h₂) = asked (leb (carrier_length c) (length dst)) (changed c) (DestinationTooShort (record { 0 = carrier_length c })) h₁ in
      let e : record { 0 = carrier_length c } ≡ n = cc in
      let r : ReadsAs (carrier c) c = reads_as (blank-carries i a b (T_of w) f g) in
      rw (w, l, ← e, take_at (carrier c) (drop (carrier_length c) dst) (carrier_length c) (length-carrier c)) r;
}
