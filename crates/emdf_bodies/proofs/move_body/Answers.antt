use Rattle.std.proofs.Common.{◌≡◌, Err, sym, ◌∙◌, arith, rules}
use Rattle.emdf_bodies.proofs.Octets.{octets-copied}
use Rattle.emdf_bodies.proofs.Calls.{Standing, standing, not_there, on-byte, no_room, in-scratch}
use Rattle.emdf_bodies.proofs.move_body.Goals as goal
use Rattle.emdf_bodies.proofs.move_body.Goals.{In_ok-start}

pub returns-in_err-start : goal.returns-in_err-start
returns-in_err-start c =
    let e : c.from_residual.result ≡ Err c.in_err-start.field-0.0 = search rules in
    let d = not_there _ _ c.args.scratch.now (sym c.find_body.ensures ∙ c.in_err-start.was) in
    (e ∙ d.answer, d.after)

there : (c : In_ok-start) → Standing c.args.bytes.now c.args.place c.in_ok-start.start.0 c.in_ok-start.length.0
there c = standing _ _ (sym c.find_body.ensures ∙ c.in_ok-start.was)

pub returns-then-start-eq0 : goal.returns-then-start-eq0
returns-then-start-eq0 c =
    let d = on-byte _ _ c.args.scratch.now (there (goal.at.returns-then-start-eq0 c).In_ok-start) c.if-start-eq0.true in
    (d.answer, d.after)

pub returns-then-scratch-length : goal.returns-then-scratch-length
returns-then-scratch-length c =
    let d = no_room _ _ c.args.scratch.now (there (goal.at.returns-then-scratch-length c).In_ok-start) c.if-start-eq0.false c.if-scratch-length.true in
    (d.answer, d.after)

pub copy_octets-requires : goal.copy_octets-requires
copy_octets-requires c = (omega arith, omega (arith, (there (goal.at.copy_octets-requires c).In_ok-start).inside))

pub returns : goal.returns
returns c =
    let t = there (goal.at.returns c).In_ok-start in
    let d = in-scratch _ _ c.args.scratch.now t c.if-start-eq0.false c.if-scratch-length.false in
    let copied = octets-copied _ _ _ _ _ (λ k. search rules) (λ k. search rules) c.if-scratch-length.false (omega (arith, t.inside)) c.copy_octets.ensures in
    (d.answer, copied ∙ d.after)
