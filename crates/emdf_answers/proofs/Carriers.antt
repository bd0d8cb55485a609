-- Laws of the answers on carriers. Assumes nothing.
use mathlib.Core.Path.{◌≡◌, refl, ap, ◌∙◌}
use mathlib.Core.List.{List, [], ◌∷◌, ◌++◌, append-nil, append_assoc}
use Prim.Native.Nat.{ℕ}
use lib.ListN.{get_or}
use Rattle.std.specs.Prelude.{Option, Some, None, unwrap_or}
use Rattle.emdf_format.specs.declared.EmdfPayloadConfig.{EmdfPayloadConfig}
use Rattle.emdf_answers.specs.Carriers.{optional_words, config_words}

-- ---- a row

abbrev pub presence_of : Option ℕ → ℕ
presence_of o = get_or (optional_words o) 0 0

abbrev pub value_of : Option ℕ → ℕ
value_of o = unwrap_or o 0

-- a setting's two numbers, and what follows them
optional_then : (o : Option ℕ) {xs ys : List ℕ} → xs ≡ ys → presence_of o ∷ value_of o ∷ xs ≡ optional_words o ++ ys
unfolding optional_words
optional_then None e = rw e
optional_then (Some v) e = rw e

-- the 18 numbers one by one
abbrev pub listed : EmdfPayloadConfig → List ℕ
listed t =
    presence_of t.sample_offset
    ∷ value_of t.sample_offset
    ∷ presence_of t.duration
    ∷ value_of t.duration
    ∷ presence_of t.group_id
    ∷ value_of t.group_id
    ∷ t.codec_data_present
    ∷ t.discard_unknown_payload
    ∷ presence_of t.payload_frame_aligned
    ∷ value_of t.payload_frame_aligned
    ∷ presence_of t.create_duplicate
    ∷ value_of t.create_duplicate
    ∷ presence_of t.remove_duplicate
    ∷ value_of t.remove_duplicate
    ∷ presence_of t.priority
    ∷ value_of t.priority
    ∷ presence_of t.processing_allowed
    ∷ value_of t.processing_allowed
    ∷ []

pub config-listed : (t : EmdfPayloadConfig) → listed t ≡ config_words t
unfolding config_words
config-listed t =
    simp append_assoc
    (optional_then _
    (optional_then _
    (optional_then _
    (ap (λ (l : List ℕ). t.codec_data_present ∷ t.discard_unknown_payload ∷ l)
    (optional_then _
    (optional_then _
    (optional_then _
    (optional_then _
    (optional_then _ refl ∙ append-nil _)))))))))
