-- What an edit does to the bits of a container: it replaces one run, and leaves those before and after it. Assumes nothing.
use mathlib.Core.Path.{◌≡◌, refl, sym, ap, ◌∙◌, subst}
use mathlib.Core.List.{List, [], ◌∷◌, ◌++◌, append_assoc, append-nil}
use mathlib.Core.Option.{some}
use Prim.Native.Nat.{ℕ, zero, suc, ◌+◌, ◌*◌, ◌≤◌}
use native.Mathlib.Omega.{arith}
use native.Mathlib.Nat.{zero-add, zero-div}
use lib.ListN.{length, take, drop, get_elem?, replicate, length-replicate, replicate-append-replicate, take-append-drop}
use lib.Seq.{drop-append-add, drop-nil, get_or-drop, sets, sets-eq}
use Rattle.openjoc_bitio.specs.Bits.{number_bits}
use Rattle.openjoc_bitio.proofs.Bits.{length-number}
use Rattle.emdf_format.specs.Syntax.{◌⨟◌, variable_field, extended_field, octet_bits}
use Rattle.emdf_format.specs.Contents.{Payload, Contents, config_bits, payload_bits, payloads_bits, protection_code, protection_bits, container_bits, carrier_bits, bytes_of, carrier}
use Rattle.emdf_format.specs.Edits.{body_edit, settings_edit, drop_edit, insert_edit, key_edit, protection_edit, with_at, with_body, with_config, with_payloads, cleared, change, carrier_length, Bytes}
use Rattle.emdf_format.specs.Reading.{Found, payload_of, payloads_of}
use Rattle.emdf_format.specs.Calls.{body_start}
use Rattle.emdf_format.specs.declared.EmdfPayloadConfig.{EmdfPayloadConfig}
use Rattle.emdf_format.proofs.Standing.{stands-to, length-then}
use Rattle.emdf_format.proofs.Payloads.{Spans, Traced, none, more, spans-stand, length-octets}
use Rattle.emdf_format.proofs.Bytes.{bytes-octets, length-carrier-bits, octets-carrier, carrier-lt}
use Rattle.emdf_format.proofs.Spans.{id_start, body_end}

-- ---- the bits of payloads, without the end mark

unfoldable pub list_bits : List Payload → List ℕ
list_bits [] = []
list_bits (x ∷ xs) = payload_bits x ⨟ list_bits xs

pub ⨟-assoc : (xs ys zs : List ℕ) → (xs ⨟ ys) ⨟ zs ≡ xs ⨟ ys ⨟ zs
unfolding ◌⨟◌
⨟-assoc xs ys zs = append_assoc xs ys zs

pub ⨟-nil : (xs : List ℕ) → xs ⨟ [] ≡ xs
unfolding ◌⨟◌
⨟-nil xs = append-nil xs

payloads-list : (xs : List Payload) → payloads_bits xs ≡ list_bits xs ⨟ number_bits 5 0
unfolding payloads_bits list_bits ◌⨟◌
payloads-list [] = refl
payloads-list (x ∷ xs) = ap (λ (l : List ℕ). payload_bits x ++ l) (payloads-list xs) ∙ sym (append_assoc (payload_bits x) (list_bits xs) (number_bits 5 0))

list-append : (xs ys : List Payload) → list_bits (xs ++ ys) ≡ list_bits xs ⨟ list_bits ys
unfolding list_bits ◌⨟◌
list-append [] ys = refl
list-append (x ∷ xs) ys = ap (λ (l : List ℕ). payload_bits x ++ l) (list-append xs ys) ∙ sym (append_assoc (payload_bits x) (list_bits xs) (list_bits ys))

-- ---- protections: what an edit keeps of them, and what it clears

-- the two codes
unfoldable pub code_bits : Contents → List ℕ
code_bits c = number_bits 2 (protection_code (length c.primary)) ⨟ number_bits 2 (protection_code (length c.secondary))

unfoldable pub protected : Contents → List ℕ
protected c = octet_bits c.primary ⨟ octet_bits c.secondary

abbrev zero_bits : Contents → List ℕ
zero_bits c = number_bits (length (protected c)) 0

pub protection-parts : (c : Contents) → protection_bits c.primary c.secondary ≡ code_bits c ⨟ protected c
unfolding protection_bits code_bits protected
protection-parts c = simp ⨟-assoc

number-zeros : (n : ℕ) → number_bits n 0 ≡ replicate n 0
unfolding number_bits
number-zeros zero = refl
number-zeros (suc n) = rw (zero-div, number-zeros n)

-- zero bits after zero bits
pub zeros-append : (m n : ℕ) → number_bits m 0 ⨟ number_bits n 0 ≡ number_bits (m + n) 0
unfolding ◌⨟◌
zeros-append m n = rw (number-zeros m, number-zeros n, number-zeros (m + n)) (replicate-append-replicate m n 0)

octet-zeros : (n : ℕ) → octet_bits (replicate n 0) ≡ number_bits (8 * n) 0
unfolding octet_bits number_bits
octet-zeros zero = refl
octet-zeros (suc n) =
    let e : 8 * suc n ≡ 8 + 8 * n = omega arith in
    rw (octet-zeros n, e) (zeros-append 8 (8 * n))

pub protection-cleared : (c : Contents) → protection_bits (cleared c).primary (cleared c).secondary ≡ code_bits c ⨟ zero_bits c
unfolding protection_bits code_bits protected cleared
protection-cleared c =
    let m = length c.primary in
    let n = length c.secondary in
    let z : length (octet_bits c.primary ⨟ octet_bits c.secondary) ≡ 8 * m + 8 * n = simp length-then (omega (arith, length-octets c.primary, length-octets c.secondary)) in
    rw (length-replicate {A = ℕ} m 0, length-replicate {A = ℕ} n 0, octet-zeros m, octet-zeros n, z, ← zeros-append (8 * m) (8 * n)) (simp ⨟-assoc)

-- ---- before place k, and from place k on to the protections

unfoldable pub bits_before : Contents → ℕ → List ℕ
bits_before c k = number_bits 2 0 ⨟ extended_field 3 c.key-id ⨟ list_bits (take k c.payloads)

unfoldable pub bits_from : Contents → ℕ → List ℕ
bits_from c k = list_bits (drop k c.payloads) ⨟ number_bits 5 0

-- other payloads between place k and place j
between : (c : Contents) (k j : ℕ) (ms : List Payload)
    → container_bits (with_payloads c (take k c.payloads ++ (ms ++ drop j c.payloads))) ≡ bits_before c k ⨟ list_bits ms ⨟ bits_from c j ⨟ protection_bits c.primary c.secondary
unfolding container_bits with_payloads bits_before bits_from
between c k j ms =
    let xs = take k c.payloads in
    let ys = drop j c.payloads in
    let e : payloads_bits (xs ++ (ms ++ ys)) ≡ (list_bits xs ⨟ list_bits ms ⨟ list_bits ys) ⨟ number_bits 5 0 =
    payloads-list (xs ++ (ms ++ ys)) ∙ ap (λ (l : List ℕ). l ⨟ number_bits 5 0) (list-append xs (ms ++ ys) ∙ ap (λ (l : List ℕ). list_bits xs ⨟ l) (list-append ms ys)) in
    simp (e, ⨟-assoc)

-- and the protections cleared
pub between-cleared : (c : Contents) (k j : ℕ) (ms : List Payload)
    → container_bits (with_payloads (cleared c) (take k c.payloads ++ (ms ++ drop j c.payloads))) ≡ bits_before c k ⨟ list_bits ms ⨟ (bits_from c j ⨟ code_bits c) ⨟ zero_bits c
unfolding cleared bits_before bits_from
between-cleared c k j ms = between (cleared c) k j ms ∙ rw (protection-cleared c) (simp ⨟-assoc)

-- the payload at place k, and what a change of it leaves
pub record Placed (k : ℕ) (xs : List Payload) (x : Payload) : Type 0 where
  is : xs ≡ take k xs ++ (x ∷ drop (suc k) xs)
  other : (f : Payload → Payload) → with_at k f xs ≡ take k xs ++ (f x ∷ drop (suc k) xs)

pub placed : (k : ℕ) (xs : List Payload) {x : Payload} → get_elem? xs k ≡ some x → Placed k xs x
unfolding with_at
placed k [] h = absurd (let w : ◌≡◌ {A = ℕ} 0 1 = cc in omega arith)
placed zero (y ∷ xs) {x} h = let e : y ≡ x = cc in rw e (record { is = refl; other = λ f. refl })
placed (suc k) (y ∷ xs) h =
    let r = placed k xs h in
    record { is = ap (λ (l : List Payload). y ∷ l) r.is; other = λ f. ap (λ (l : List Payload). y ∷ l) (r.other f) }

-- ---- the six edits: the bits before, those that are replaced and by what, those after, and the rest, which is cleared

pub record Splice (c d : Contents) : Type 0 where
  pub before : List ℕ
  pub old : List ℕ
  pub new : List ℕ
  pub after : List ℕ
  pub rest : List ℕ
  pub was : container_bits c ≡ before ⨟ old ⨟ after ⨟ rest
  pub is : container_bits d ≡ before ⨟ new ⨟ after ⨟ number_bits (length rest) 0

pub one-bits : (x : Payload) → list_bits (x ∷ []) ≡ payload_bits x
unfolding list_bits ◌⨟◌
one-bits x = append-nil (payload_bits x)

same-payloads : (c : Contents) → container_bits (with_payloads c c.payloads) ≡ container_bits c
unfolding container_bits with_payloads
same-payloads c = refl

module _ (c : Contents) (k : ℕ) where
  abbrev ps : List Payload
  ps = c.payloads

  -- from place j on, with the codes
  abbrev tail : ℕ → List ℕ
  tail j = bits_from c j ⨟ code_bits c

  -- the contents as they are, with these payloads between place k and place j
  pub whole : (j : ℕ) (ms : List Payload) → ps ≡ take k ps ++ (ms ++ drop j ps) → container_bits c ≡ bits_before c k ⨟ list_bits ms ⨟ tail j ⨟ protected c
  whole j ms e =
      sym (same-payloads c) ∙ ap (λ (l : List Payload). container_bits (with_payloads c l)) e ∙ between c k j ms ∙ rw (protection-parts c) (simp ⨟-assoc)

  module _ {x : Payload} (at : get_elem? ps k ≡ some x) where
    pub here : container_bits c ≡ bits_before c k ⨟ payload_bits x ⨟ tail (suc k) ⨟ protected c
    here = whole (suc k) (x ∷ []) (placed k ps at).is ∙ rw one-bits

    -- another payload in its place
    pub with-one : (f : Payload → Payload) → container_bits (with_payloads (cleared c) (with_at k f ps)) ≡ bits_before c k ⨟ payload_bits (f x) ⨟ tail (suc k) ⨟ zero_bits c
    with-one f =
        ap (λ (l : List Payload). container_bits (with_payloads (cleared c) l)) ((placed k ps at).other f) ∙ between-cleared c k (suc k) (f x ∷ []) ∙ rw one-bits

    unfoldable pub splice-body : (bs : List ℕ) → Splice c (change (body_edit k bs) c)
    unfolding change payload_bits
    splice-body bs = record {
      before = bits_before c k ⨟ extended_field 5 x.id ⨟ config_bits x.config;
      old = variable_field 8 (length x.body) ⨟ octet_bits x.body;
      new = variable_field 8 (length bs) ⨟ octet_bits bs;
      after = tail (suc k);
      rest = protected c;
      was = here ∙ simp ⨟-assoc;
      is = with-one (with_body bs) ∙ simp ⨟-assoc;
    }

    unfoldable pub splice-settings : (t : EmdfPayloadConfig) → Splice c (change (settings_edit k t) c)
    unfolding change payload_bits
    splice-settings t = record {
      before = bits_before c k ⨟ extended_field 5 x.id;
      old = config_bits x.config;
      new = config_bits t;
      after = variable_field 8 (length x.body) ⨟ octet_bits x.body ⨟ tail (suc k);
      rest = protected c;
      was = here ∙ simp ⨟-assoc;
      is = with-one (with_config t) ∙ simp ⨟-assoc;
    }

    unfoldable pub splice-drop : Splice c (change (drop_edit k) c)
    unfolding change list_bits ◌⨟◌
    splice-drop = record {
      before = bits_before c k;
      old = payload_bits x;
      new = [];
      after = tail (suc k);
      rest = protected c;
      was = here;
      is = between-cleared c k (suc k) [];
    }

  unfoldable pub splice-insert : (i : ℕ) (t : EmdfPayloadConfig) (bs : List ℕ) → Splice c (change (insert_edit k i t bs) c)
  unfolding change list_bits
  splice-insert i t bs =
      let x : Payload = record { id = i; config = t; body = bs } in
      record {
        before = bits_before c k;
        old = [];
        new = payload_bits x;
        after = tail k;
        rest = protected c;
        was = whole k [] (sym (take-append-drop k ps));
        is = between-cleared c k k (x ∷ []) ∙ rw one-bits;
      }

unfoldable pub splice-key : (c : Contents) (i : ℕ) → Splice c (change (key_edit i) c)
unfolding change container_bits
splice-key c i = record {
  before = number_bits 2 0;
  old = extended_field 3 c.key-id;
  new = extended_field 3 i;
  after = payloads_bits c.payloads ⨟ code_bits c;
  rest = protected c;
  was = rw (protection-parts c) (simp ⨟-assoc);
  is = rw (protection-cleared c) (simp ⨟-assoc);
}

unfoldable pub splice-protection : (c : Contents) (a b : List ℕ) → Splice c (change (protection_edit a b) c)
unfolding change container_bits number_bits
splice-protection c a b = record {
  before = number_bits 2 0 ⨟ extended_field 3 c.key-id ⨟ payloads_bits c.payloads;
  old = protection_bits c.primary c.secondary;
  new = protection_bits a b;
  after = [];
  rest = [];
  was = simp (⨟-assoc, ⨟-nil);
  is = simp (⨟-assoc, ⨟-nil);
}

-- ---- where those runs stand in a carrier that is read

-- the parts of x are as long as what is written, from bit p on
pub record Parts (x : Found) (p : ℕ) : Type 0 where
  pub id : id_start x ≡ p
  pub config : x.record_of.trace.config_start_bit.0 ≡ p + length (extended_field 5 x.record_of.id)
  pub size : x.record_of.trace.payload_size_start_bit.0 ≡ x.record_of.trace.config_start_bit.0 + length (config_bits x.record_of.config)
  pub body : body_start x ≡ x.record_of.trace.payload_size_start_bit.0 + length (variable_field 8 (length x.body))
  pub end : body_end x ≡ body_start x + length (octet_bits x.body)

parts : {s : List ℕ} {e p q : ℕ} {x : Found} → Spans s e p q x → Parts x p
parts {x = x} h =
    rw h.trace (record {
      id = refl;
      config = sym (stands-to h.id);
      size = sym (stands-to h.config);
      body = sym (stands-to h.size);
      end = sym (stands-to h.body);
    })

-- the payload at place k, by its record
pub located : {s : List ℕ} {e p q : ℕ} {xs : List Found} {x : Found} (k : ℕ) → Traced s e p q xs → get_elem? xs k ≡ some x → Parts x (p + length (list_bits (take k (payloads_of xs))))
unfolding list_bits payloads_of
located k none h = absurd (let w : ◌≡◌ {A = ℕ} 0 1 = cc in omega arith)
located {x = x} zero (more {p = p} {x = y} a t) h = let e : y ≡ x = cc in let z : p + 0 ≡ p = omega arith in rw z (subst (λ (u : Found). Parts u p) e (parts a))
located {x = x} (suc k) (more {p = p} {q = q} {x = y} {xs = ys} a t) h =
    let l : length (payload_bits (payload_of y) ⨟ list_bits (take k (payloads_of ys))) ≡ length (payload_bits (payload_of y)) + length (list_bits (take k (payloads_of ys))) = length-then _ _ in
    let z : p + length (payload_bits (payload_of y) ⨟ list_bits (take k (payloads_of ys))) ≡ q + length (list_bits (take k (payloads_of ys))) = omega (arith, l, stands-to (spans-stand a)) in
    subst (Parts x) (sym z) (located k t h)

pub payload-at : (xs : List Found) (k : ℕ) {x : Found} → get_elem? xs k ≡ some x → get_elem? (payloads_of xs) k ≡ some (payload_of x)
unfolding payloads_of
payload-at [] k h = absurd (let w : ◌≡◌ {A = ℕ} 0 1 = cc in omega arith)
payload-at (y ∷ xs) zero {x} h = let e : y ≡ x = cc in rw e
payload-at (y ∷ xs) (suc k) h = payload-at xs k h

-- the end mark
pub mark-at : {s : List ℕ} {e p q : ℕ} {xs : List Found} → Traced s e p q xs → p + length (list_bits (payloads_of xs)) ≡ q
unfolding list_bits payloads_of
mark-at none = omega arith
mark-at (more {x = y} {xs = ys} a t) = omega (arith, length-then (payload_bits (payload_of y)) (list_bits (payloads_of ys)), stands-to (spans-stand a), mark-at t)

-- ---- a destination whose first bits are a carrier's holds that carrier, and what stood after it

octets-append : (xs ys : List ℕ) → octet_bits (xs ++ ys) ≡ octet_bits xs ⨟ octet_bits ys
unfolding octet_bits ◌⨟◌
octets-append [] ys = refl
octets-append (x ∷ xs) ys = ap (λ (l : List ℕ). number_bits 8 x ++ l) (octets-append xs ys) ∙ sym (append_assoc (number_bits 8 x) (octet_bits xs) (octet_bits ys))

octets-drop : (n : ℕ) (xs : List ℕ) → octet_bits (drop n xs) ≡ drop (8 * n) (octet_bits xs)
unfolding octet_bits ◌⨟◌
octets-drop zero xs = refl
octets-drop (suc n) [] = sym (drop-nil (8 * suc n))
octets-drop (suc n) (x ∷ xs) =
    let z : 8 * suc n ≡ length (number_bits 8 x) + 8 * n = omega (arith, length-number 8 x) in
    octets-drop n xs ∙ sym (ap (λ (k : ℕ). drop k (number_bits 8 x ++ octet_bits xs)) z ∙ drop-append-add (number_bits 8 x) (octet_bits xs) (8 * n))

-- bytes with the same bits are the same
pub same-octets : (xs ys : List ℕ) → Bytes xs → Bytes ys → octet_bits xs ≡ octet_bits ys → xs ≡ ys
same-octets xs ys f g h =
    let l : length xs ≡ length ys = omega (arith, length-octets xs, length-octets ys, ap length h) in
    sym (bytes-octets xs (λ k _. f k)) ∙ ap (λ (n : ℕ). bytes_of n (octet_bits xs)) l ∙ ap (bytes_of (length ys)) h ∙ bytes-octets ys (λ k _. g k)

bytes-join : (xs ys : List ℕ) → Bytes xs → Bytes ys → Bytes (xs ++ ys)
bytes-join [] ys f g k = g k
bytes-join (x ∷ xs) ys f g zero = f 0
bytes-join (x ∷ xs) ys f g (suc k) = bytes-join xs ys (λ i. f (suc i)) g k

joined : {a b c d : List ℕ} → a ≡ b → c ≡ d → a ⨟ c ≡ b ++ d
unfolding ◌⨟◌
joined p q = rw (p, q)

-- bytes whose bits are put over the first of dst
pub front_bytes : (xs dst dst' : List ℕ) → Bytes xs → Bytes dst → Bytes dst' → length xs ≤ length dst
    → octet_bits dst' ≡ sets (octet_bits dst) 0 (octet_bits xs) → dst' ≡ xs ++ drop (length xs) dst
front_bytes xs dst dst' x f g l h =
    let n = length xs in
    let b : length (octet_bits xs) ≡ 8 * n = omega (arith, length-octets xs) in
    let r : 0 + length (octet_bits xs) ≤ length (octet_bits dst) = omega (arith, b, length-octets dst) in
    let e : sets (octet_bits dst) 0 (octet_bits xs) ≡ octet_bits xs ++ drop (8 * n) (octet_bits dst) = sets-eq (octet_bits xs) (octet_bits dst) 0 r ∙ rw (zero-add, b) in
    let t : Bytes (drop n dst) = λ k. rw (get_or-drop n dst k 0) (f (n + k)) in
    same-octets dst' (xs ++ drop n dst) g (bytes-join xs (drop n dst) x t)
    (h ∙ e ∙ sym (octets-append xs (drop n dst) ∙ joined refl (octets-drop n dst)))

pub written-bytes : (d : Contents) (dst dst' : List ℕ) → Bytes dst → Bytes dst' → carrier_length d ≤ length dst
    → octet_bits dst' ≡ sets (octet_bits dst) 0 (carrier_bits d) → dst' ≡ carrier d ++ drop (carrier_length d) dst
written-bytes d dst dst' f g l h =
    let e : length (carrier d) ≡ carrier_length d = omega (arith, length-octets (carrier d), ap length (octets-carrier d), length-carrier-bits d) in
    rw e at (front_bytes (carrier d) dst dst' (carrier-lt d) f g (omega (arith, e)) (h ∙ ap (sets (octet_bits dst) 0) (sym (octets-carrier d))))
