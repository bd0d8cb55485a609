-- EmdfPayloadConfig: what is read is what is written, and writable. Assumes nothing.
use mathlib.Core.Path.{◌≡◌, refl}
use mathlib.Core.Bool.{Bool, true}
use mathlib.Core.List.{List, [], ◌∷◌}
use Prim.Native.Nat.{ℕ, zero, suc, ◌^◌, ◌≤◌, ◌<◌}
use native.Mathlib.Omega.{arith}
use lib.Pow.{pow_pos}
use lib.Dec.{T, leb, leb→le, le→leb, ltb→lt, lt→ltb, eqb→eq, lit<, lit≤}
use Rattle.openjoc_bitio.specs.Bits.{number_bits}
use Rattle.emdf_format.specs.declared.EmdfPayloadConfig.{EmdfPayloadConfig}
use Rattle.emdf_format.specs.Syntax.{◌⨟◌, variable_field, capacity, flagged_field, present_field}
use Rattle.emdf_format.specs.Contents.{◌&◌, when_present, up_to, has_aligned, is_one, has_priority, present_as_ruled, writable_config, codec_data_bits, sample_offset_bits, config_bits}
use Rattle.emdf_format.specs.Reader.{got, bits, variable_bits, present, flagged}
use Rattle.emdf_format.specs.Reading.{reserved, sample_offset_of, codec_data, config_controls, payload_config}
use Rattle.emdf_format.proofs.Standing.{Stands, nil, cons, join, part, Codec, bits-law, bind_inv, bind-go, choose-inv, choose-this, choose-that, step, chosen, taken, ask-end, ask-fine, give-inv, give-go, bit-zero, bit-one, neqb→ne, both, fits, and}
use Rattle.emdf_format.proofs.Fields.{fits_variable, refit, variable, present-law, flagged-law}

-- ---- bounds as 'writable' says them

pub bits-up_to : (w n : ℕ) → w ≤ 64 → suc n ≡ 2 ^ w → Codec (bits w) (number_bits w) (up_to n)
unfolding up_to
bits-up_to w n ok h =
    refit (bits-law w ok) (λ v t. le→leb v n (omega (arith, ltb→lt v (2 ^ w) t))) (λ v t. lt→ltb v (2 ^ w) (omega (arith, leb→le v n t)))

pub variable-up_to : (w lim n : ℕ) → T (leb 1 w & leb w 63 & leb 1 lim) → suc n ≡ capacity w lim → n < 2 ^ 64 → Codec (variable_bits w lim) (variable_field w) (up_to n)
unfolding up_to fits_variable
variable-up_to w lim n l h k =
    refit (variable w lim l) (λ v t. le→leb v n (omega (arith, ltb→lt v (capacity w lim) (both t).left)))
    (λ v t. and _ _ (lt→ltb v (capacity w lim) (omega (arith, leb→le v n t))) (lt→ltb v (2 ^ 64) (omega (arith, leb→le v n t))))

-- ---- reserved bits

pub reserved-law : (w : ℕ) → w ≤ 64 → Codec (reserved w) (λ u. number_bits w 0) (λ u. true)
unfolding reserved
reserved-law w ok = record {
  sound = λ {s} {e} {p} {q} h.
      step (bits-law w ok) (bind_inv h) λ z p₁ sz lz t₁.
      let d = ask-end t₁ in
      (rw (eqb→eq z 0 d.yes, d.to) at sz, tt);
  exact = λ {s} {e} {p} {q} t h. bind-go _ _ ((bits-law w ok).exact (lt→ltb 0 (2 ^ w) (pow_pos w)) h) (ask-fine _ _ s e tt refl);
}

sample-law : Codec sample_offset_of sample_offset_bits (up_to 2047)
unfolding sample_offset_of sample_offset_bits number_bits
sample-law = record {
  sound = λ h.
      step (bits-up_to 11 2047 (lit≤ tt) refl) (bind_inv h) λ v p₁ sv lv t₁.
      step (reserved-law 1 (lit≤ tt)) (bind_inv t₁) λ u p₂ su lu t₂.
      let d = give-inv t₂ in
      rw (← d.what, ← d.to) (join sv su, lv);
  exact = λ {s} {e} {p} {q} {a = v} t h.
      part (number_bits 11 v) (0 ∷ []) h λ p₁ sv su.
      bind-go _ _ ((bits-up_to 11 2047 (lit≤ tt) refl).exact t sv) (bind-go _ _ ((reserved-law 1 (lit≤ tt)).exact tt su) (give-go s e refl refl));
}

codec-law : Codec codec_data codec_data_bits (up_to 1)
unfolding codec_data codec_data_bits number_bits up_to ◌⨟◌
codec-law = record { sound = sound; exact = λ {a = c} t h. exact c t h }
  where
    sound : {s : List ℕ} {e p q c : ℕ} → codec_data s e p ≡ got c q → Stands s e p q (codec_data_bits c) × T (up_to 1 c)
    sound {s} {e} {p} {q} h =
        step (bits-law 1 (lit≤ tt)) (bind_inv h) λ c p₁ sc lc t₁.
        taken (bind_inv t₁) λ u p₂ f t₂.
        let d = give-inv t₂ in
        chosen (choose-inv f)
        (λ z t₃. rw (← d.what, ← d.to, ← (give-inv t₃).to, eqb→eq c 0 z) (bit-zero c sc z, tt))
        λ z t₃.
        let e₁ : c ≡ 1 = omega (arith, ltb→lt c 2 lc, neqb→ne c 0 z) in
        rw (← d.what, ← d.to, e₁) (join (bit-one c sc e₁) ((reserved-law 8 (lit≤ tt)).sound t₃).0, tt)

    exact : {s : List ℕ} {e p q : ℕ} (c : ℕ) → T (up_to 1 c) → Stands s e p q (codec_data_bits c) → codec_data s e p ≡ got c q
    exact {s} {e} zero t h =
        bind-go _ _ ((bits-law 1 (lit≤ tt)).exact {a = 0} tt h) (bind-go _ _ (choose-this _ _ _ tt (give-go s e refl refl)) (give-go s e refl refl))
    exact {s} {e} (suc zero) t (cons l b h) =
        bind-go _ _ ((bits-law 1 (lit≤ tt)).exact {a = 1} tt (cons l b nil))
        (bind-go _ _ (choose-that _ _ _ tt ((reserved-law 8 (lit≤ tt)).exact tt h)) (give-go s e refl refl))
    exact (suc (suc c)) t h = absurd (let l = leb→le (suc (suc c)) 1 t in omega arith)

-- ---- the ten settings

ruled-law : (t : Bool) (w n : ℕ) → w ≤ 64 → suc n ≡ 2 ^ w → Codec (present t (bits w)) (present_field (number_bits w)) (present_as_ruled t n)
unfolding present_as_ruled
ruled-law t w n ok h = present-law (bits-up_to w n ok h) t

duration-law : Codec (flagged (variable_bits 11 2)) (flagged_field (variable_field 11)) (when_present (up_to 4_196_351))
unfolding ◌&◌ capacity
duration-law = flagged-law (variable-up_to 11 2 4_196_351 tt refl (lit< tt))

group-law : Codec (flagged (variable_bits 2 31)) (flagged_field (variable_field 2)) (when_present (up_to 6_148_914_691_236_517_203))
unfolding ◌&◌ capacity
group-law = flagged-law (variable-up_to 2 31 6_148_914_691_236_517_203 tt refl (lit< tt))

config-sound : {s : List ℕ} {e p q : ℕ} {t : EmdfPayloadConfig} → payload_config s e p ≡ got t q → Stands s e p q (config_bits t) × T (writable_config t)
unfolding payload_config config_controls config_bits writable_config
config-sound h =
    step (flagged-law sample-law) (bind_inv h) λ sample p₁ s₁ f₁ t₁.
    step duration-law (bind_inv t₁) λ duration p₂ s₂ f₂ t₂.
    step group-law (bind_inv t₂) λ group p₃ s₃ f₃ t₃.
    step codec-law (bind_inv t₃) λ codec p₄ s₄ f₄ t₄.
    step (bits-up_to 1 1 (lit≤ tt) refl) (bind_inv t₄) λ discard p₅ s₅ f₅ t₅.
    step (ruled-law (has_aligned discard sample) 1 1 (lit≤ tt) refl) (bind_inv t₅) λ aligned p₆ s₆ f₆ t₆.
    step (ruled-law (is_one aligned) 1 1 (lit≤ tt) refl) (bind_inv t₆) λ create p₇ s₇ f₇ t₇.
    step (ruled-law (is_one aligned) 1 1 (lit≤ tt) refl) (bind_inv t₇) λ remove p₈ s₈ f₈ t₈.
    step (ruled-law (has_priority discard sample aligned) 5 31 (lit≤ tt) refl) (bind_inv t₈) λ priority p₉ s₉ f₉ t₉.
    step (ruled-law (has_priority discard sample aligned) 2 3 (lit≤ tt) refl) (bind_inv t₉) λ processing p₁₀ s₁₀ f₁₀ t₁₀.
    let d = give-inv t₁₀ in
    rw (← d.what, ← d.to) (
      join s₁ (join s₂ (join s₃ (join s₄ (join s₅ (join s₆ (join s₇ (join s₈ (join s₉ s₁₀)))))))),
      and _ _ f₁ (and _ _ f₂ (and _ _ f₃ (and _ _ f₄ (and _ _ f₅ (and _ _ f₆ (and _ _ f₇ (and _ _ f₈ (and _ _ f₉ f₁₀)))))))),
    )

config-exact : {s : List ℕ} {e p q : ℕ} {t : EmdfPayloadConfig} → T (writable_config t) → Stands s e p q (config_bits t) → payload_config s e p ≡ got t q
unfolding payload_config config_controls config_bits writable_config
config-exact {s} {e} {p} {q} {t} f h =
    fits (both f) λ f₁ g₁. fits (both g₁) λ f₂ g₂. fits (both g₂) λ f₃ g₃. fits (both g₃) λ f₄ g₄. fits (both g₄) λ f₅ g₅.
    fits (both g₅) λ f₆ g₆. fits (both g₆) λ f₇ g₇. fits (both g₇) λ f₈ g₈. fits (both g₈) λ f₉ f₁₀.
    part _ _ h λ p₁ s₁ h₁. part _ _ h₁ λ p₂ s₂ h₂. part _ _ h₂ λ p₃ s₃ h₃. part _ _ h₃ λ p₄ s₄ h₄. part _ _ h₄ λ p₅ s₅ h₅.
    part _ _ h₅ λ p₆ s₆ h₆. part _ _ h₆ λ p₇ s₇ h₇. part _ _ h₇ λ p₈ s₈ h₈. part _ _ h₈ λ p₉ s₉ s₁₀.
    bind-go _ _ ((flagged-law sample-law).exact f₁ s₁)
    (bind-go _ _ (duration-law.exact f₂ s₂)
    (bind-go _ _ (group-law.exact f₃ s₃)
    (bind-go _ _ (codec-law.exact f₄ s₄)
    (bind-go _ _ ((bits-up_to 1 1 (lit≤ tt) refl).exact f₅ s₅)
    (bind-go _ _ ((ruled-law (has_aligned t.discard_unknown_payload t.sample_offset) 1 1 (lit≤ tt) refl).exact f₆ s₆)
    (bind-go _ _ ((ruled-law (is_one t.payload_frame_aligned) 1 1 (lit≤ tt) refl).exact f₇ s₇)
    (bind-go _ _ ((ruled-law (is_one t.payload_frame_aligned) 1 1 (lit≤ tt) refl).exact f₈ s₈)
    (bind-go _ _ ((ruled-law (has_priority t.discard_unknown_payload t.sample_offset t.payload_frame_aligned) 5 31 (lit≤ tt) refl).exact f₉ s₉)
    (bind-go _ _ ((ruled-law (has_priority t.discard_unknown_payload t.sample_offset t.payload_frame_aligned) 2 3 (lit≤ tt) refl).exact f₁₀ s₁₀)
    (give-go s e refl refl))))))))))

pub config-law : Codec payload_config config_bits writable_config
config-law = record { sound = config-sound; exact = config-exact }
