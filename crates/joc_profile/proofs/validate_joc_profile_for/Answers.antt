use Rattle.std.proofs.Common.{◌≡◌, Ok, sym, ◌∙◌, rules}
use lib.Seq.{length-take-le}
use Rattle.openjoc_emdf.specs.Answers.{Opened}
use Rattle.openjoc_emdf.proofs.Opening.{opened}
use Rattle.joc_profile.proofs.Pair.{refused-verdict, parsed-groups, found-verdict, never-refused}
use Rattle.joc_profile.proofs.validate_joc_profile_for.Goals as goal
use Rattle.joc_profile.proofs.validate_joc_profile_for.Goals.{In_ok-parsed}

opening : (c : In_ok-parsed) → Opened c.args.bytes.now c.in_ok-parsed.parsed c.in_ok-parsed.first
opening c =
    let was : c.open_carrier.result ≡ Ok (c.in_ok-parsed.parsed, c.in_ok-parsed.first) = search rules in
    opened _ (sym c.open_carrier.ensures ∙ was)

pub returns-in_err-parsed : goal.returns-in_err-parsed
returns-in_err-parsed c = refused-verdict _ _ c.open_carrier.ensures (search rules)

pub slice_bounds-find_pair-end : goal.slice_bounds-find_pair-end
slice_bounds-find_pair-end c = sym (length-take-le _ _ (opening (goal.at.slice_bounds-find_pair-end c).In_ok-parsed).there)

pub returns-in_err-oamd : goal.returns-in_err-oamd
returns-in_err-oamd c =
    let o = opening (goal.at.returns-in_err-oamd c).In_ok-parsed in
    absurd (never-refused o.container.found (c.find_pair.ensures o.container.found o.listed) (search rules))

pub returns : goal.returns
returns c =
    let o = opening (goal.at.returns c).In_ok-parsed in
    let was : c.find_pair.result ≡ Ok (c.in_ok-oamd.oamd, c.in_ok-oamd.joc) = search rules in
    found-verdict _ _ o.is (c.find_pair.ensures o.container.found o.listed) (parsed-groups o.container o.parsed) was c.judge_pair.ensures
