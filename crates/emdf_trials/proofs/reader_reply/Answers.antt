use Rattle.std.proofs.Common.{refl, rules, tests}
use Rattle.emdf_answers.specs.Bits.{bits_reply, bit_reply, window_reply}
use Rattle.emdf_trials.specs.Trials.{reader_reply}
use Rattle.emdf_trials.proofs.Answers.{reply-told, align-told}
use Rattle.emdf_trials.proofs.reader_reply.Goals as goal

pub returns-in-2 : goal.returns-in-2
unfolding reader_reply bits_reply
returns-in-2 c = rw c.in-2.is (reply-told _ bits_reply (λ d next a. refl) _ c.read_bits-value.ensures (search rules) c.bits_reply.ensures)

pub returns-in-3 : goal.returns-in-3
unfolding reader_reply bit_reply
returns-in-3 c = rw c.in-3.is (reply-told _ bit_reply (λ d next a. refl) _ c.read_bit-bit.ensures (search rules) c.bit_reply.ensures)

pub returns-in-4 : goal.returns-in-4
unfolding reader_reply window_reply
returns-in-4 c = rw c.in-4.is (reply-told _ window_reply (λ d next a. refl) _ c.take_bits-window.ensures (search rules) c.window_reply.ensures)

pub returns-in_default : goal.returns-in_default
unfolding reader_reply
returns-in_default c = let h = align-told _ _ _ c.byte_align-moved.ensures (search rules) c.align_reply.ensures in search (tests, rules)
