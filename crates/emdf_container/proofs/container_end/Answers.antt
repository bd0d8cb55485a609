use Prim.Native.Nat.{◌+◌, ◌^◌, ◌<◌}
use mathlib.Core.Path.{refl, ap}
use native.Mathlib.Omega.{arith}
use Rattle.openjoc_bitio.proofs.Cursor.{remaining-end}
use Rattle.emdf_format.specs.Groups.{largest_groups_of}
use Rattle.emdf_format.proofs.Standing.{holds}
use Rattle.emdf_container.specs.Container.{container_of, container_answer}
use Rattle.emdf_container.proofs.Ends.{short-protection}
use Rattle.emdf_container.proofs.Words.{end_fits, fits_word, end-found}
use mathlib.Core.Bool.{not}
use Rattle.emdf_container.proofs.container_end.Goals as goal

pub is_end-requires : goal.is_end-requires
is_end-requires c =
    let a = c.args in
    let h : a.c.position + c.bits_remaining-left.result < 2 ^ 64 = omega (arith, c.bits_remaining-left.ensures, remaining-end a.s.now a.c) in
    (h, short-protection _ c.protection_length-first.ensures, short-protection _ c.protection_length-second.ensures)

pub overflow_add-p : goal.overflow_add-p
overflow_add-p c = omega (arith, end_fits _ c.args.c c.bits_remaining-left.ensures (c.is_end.ensures (holds (ap not c.if-not-is_end.false) refl)))

pub protection_at-primary-requires : goal.protection_at-primary-requires
protection_at-primary-requires c = (fits_word _ c.protection_length-first.ensures, omega (arith, end_fits _ c.args.c c.bits_remaining-left.ensures (c.is_end.ensures (holds (ap not c.if-not-is_end.false) refl))))

pub overflow_add-p-2 : goal.overflow_add-p-2
overflow_add-p-2 c = omega (arith, end_fits _ c.args.c c.bits_remaining-left.ensures (c.is_end.ensures (holds (ap not c.if-not-is_end.false) refl)))

pub overflow_mul-first : goal.overflow_mul-first
overflow_mul-first c = omega (arith, end_fits _ c.args.c c.bits_remaining-left.ensures (c.is_end.ensures (holds (ap not c.if-not-is_end.false) refl)))

pub overflow_add-p-3 : goal.overflow_add-p-3
overflow_add-p-3 c = omega (arith, end_fits _ c.args.c c.bits_remaining-left.ensures (c.is_end.ensures (holds (ap not c.if-not-is_end.false) refl)))

pub protection_at-secondary-requires : goal.protection_at-secondary-requires
protection_at-secondary-requires c = (fits_word _ c.protection_length-second.ensures, omega (arith, end_fits _ c.args.c c.bits_remaining-left.ensures (c.is_end.ensures (holds (ap not c.if-not-is_end.false) refl))))

pub returns : goal.returns
unfolding container_answer container_of largest_groups_of
returns c =
    let a = c.args in
    let d = c.is_end.ensures (holds (ap not c.if-not-is_end.false) refl) in
    λ xs len gr. rw (end-found a.s.now a.c.end a.c.position a.key xs c.window_at-x.ensures c.protection_length-first.ensures c.protection_length-second.ensures c.bits_remaining-left.ensures d, len, gr, c.protection_at-primary.ensures, c.protection_at-secondary.ensures)
