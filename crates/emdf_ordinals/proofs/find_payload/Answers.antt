use Rattle.std.proofs.Common.{◌≡◌, Ok, sym, ◌∙◌, rules}
use lib.Seq.{length-take-le}
use Rattle.openjoc_emdf.specs.Answers.{Opened}
use Rattle.openjoc_emdf.proofs.Opening.{opened}
use Rattle.emdf_ordinals.proofs.Find.{opened-find, unopened-find}
use Rattle.emdf_ordinals.proofs.find_payload.Goals as goal
use Rattle.emdf_ordinals.proofs.find_payload.Goals.{In_ok-parsed}

opening : (c : In_ok-parsed) → Opened c.args.bytes.now c.in_ok-parsed.parsed c.in_ok-parsed.first
opening c =
    let was : c.open_carrier.result ≡ Ok (c.in_ok-parsed.parsed, c.in_ok-parsed.first) = search rules in
    opened _ (sym c.open_carrier.ensures ∙ was)

pub returns-in_err-parsed : goal.returns-in_err-parsed
returns-in_err-parsed c = unopened-find _ _ _ c.open_carrier.ensures (search rules)

pub slice_bounds-find_from-end : goal.slice_bounds-find_from-end
slice_bounds-find_from-end c = sym (length-take-le _ _ (opening (goal.at.slice_bounds-find_from-end c).In_ok-parsed).there)

pub find_from-requires : goal.find_from-requires
find_from-requires c = let o = opening (goal.at.find_from-requires c).In_ok-parsed in (o.container.found, o.listed)

pub returns : goal.returns
returns c = let o = opening (goal.at.returns c).In_ok-parsed in c.find_from.ensures o.container.found o.listed ∙ opened-find _ _ o
