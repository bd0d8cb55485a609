use mathlib.Core.Path.{◌≡◌, refl, sym, ap, ◌∙◌}
use Prim.Native.Nat.{◌+◌, ◌*◌, ◌≤◌, ◌<◌}
use native.Mathlib.Omega.{arith}
use lib.Dec.{lit≤}
use Rattle.openjoc_bitio.specs.Bits.{window_at}
use Rattle.openjoc_bitio.proofs.Bits.{window-range}
use Rattle.emdf_format.proofs.Standing.{bit_limit, remaining-limit}
use Rattle.emdf_compact.specs.Words.{size_length, size_value}
use Rattle.emdf_fields.proofs.Word.{Word, word-window}
use Rattle.emdf_compact.proofs.Compact.{config-most, size-most, value-most}
use Rattle.emdf_payloads.specs.Payloads.{payload_answer}
use Rattle.emdf_payloads.proofs.Compact.{after-found}
use Rattle.emdf_payloads.proofs.after_compact.Goals as goal

pub overflow_add-size : goal.overflow_add-size
overflow_add-size c = let i = c.requires in omega (arith, i, config-most c.args.x i.2)

pub overflow_add-body : goal.overflow_add-body
overflow_add-body c =
    let i = c.requires in
    omega (arith, i, config-most c.args.x i.2, c.size_length-length.ensures, size-most c.window_at-y.result)

pub overflow_mul-past : goal.overflow_mul-past
overflow_mul-past c = omega (arith, c.size_value.ensures, value-most c.window_at-y.result (rw c.window_at-y.ensures (window-range _ _)))

pub overflow_add-past : goal.overflow_add-past
overflow_add-past c =
    let i = c.requires in
    let y = c.window_at-y in
    omega (arith, i, config-most c.args.x i.2, c.size_length-length.ensures, size-most y.result, c.size_value.ensures, value-most y.result (rw y.ensures (window-range _ _)))

pub returns-then-past-position : goal.returns-then-past-position
unfolding payload_answer
returns-then-past-position c =
    let a = c.args in
    let i = c.requires in
    let z = a.position + a.config in
    let w = window_at a.s.now z in
    let y : c.window_at-y.result ≡ w = c.window_at-y.ensures in
    let k : c.size_length-length.result ≡ size_length w = c.size_length-length.ensures ∙ ap size_length y in
    let n : c.size_value.result ≡ size_value w = c.size_value.ensures ∙ ap size_value y in
    let some : 0 < size_length w = omega (arith, k) in
    let room : z + size_length w + size_value w * 8 ≤ bit_limit a.s.now a.end = omega (arith, k, n, c.bits_remaining.ensures, remaining-limit a.s.now a.end a.position) in
    let x : Word a.s.now a.position 57 a.x = rw i.1 (word-window a.s.now a.position) in
    rw (c.bit_trace-trace.ensures, c.compact_config-config.ensures, k, n)
    (sym (ap (payload_answer a.end) (after-found x (lit≤ tt) (lit≤ tt) a.end a.start a.id i.2 some (omega (arith, i.3)) refl refl room)))
