-- The row that is found, or that none is, gives the ordinal of the last row with the id.
use Rattle.std.proofs.Common.{◌≡◌, ◌∙◌, ap, take, arith, rules, MatchOption}
use borrow.Author.Tests.{tests}
use Rattle.std.proofs.lemmas.Iterator.Adapters.{YieldsList-from_rev_slice}
use Rattle.std.proofs.lemmas.Iterator.Search.{find_from_yields_List}
use Rattle.emdf_records_row.specs.Row.{last_of}
use Rattle.emdf_records_row.proofs.Search.{has_id, ordinal_or, last-found, number-found, placed}
use Rattle.emdf_records_row.proofs.put_row.Goals as goal

found : (c : goal.After-map_or-last) → c.map_or-last.result ≡ last_of c.args.table.now c.args.payload.id c.args.rows
found c =
    let n : MatchOption c.find.result (c.map_or-last.result ≡ 0) (λ r. c.map_or-last.result ≡ r.now.ordinal) = search rules in
    let f = find_from_yields_List (has_id c.args.payload.id) _ _ c.find.result c.find.ensures.ran (YieldsList-from_rev_slice (take c.args.rows c.args.table.now) (search rules)) (λ x b q k. search (rules, tests)) in
    number-found c.find.result n ∙ ap ordinal_or f ∙ last-found c.args.table.now c.args.payload.id c.args.rows (record { payload = c.args.payload; ordinal = 0 }) (omega arith)

pub overflow_add-table : goal.overflow_add-table
overflow_add-table c = omega (arith, found c)

pub returns : goal.returns
returns c = placed _ _ _ _ (found c)
