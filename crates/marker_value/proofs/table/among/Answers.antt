use mathlib.Core.Path.{◌∙◌}
use Rattle.std.proofs.Common.{rules}
use Rattle.std.proofs.lemmas.Iterator.{YieldsList-from_slice}
use Rattle.std.proofs.lemmas.Iterator.Search.{find_from_yields_List}
use Rattle.marker_value.proofs.Tables.{word_is, among_found}
use Rattle.marker_value.proofs.table.among.Goals as goal

pub returns-in_err-entry : goal.returns-in_err-entry
returns-in_err-entry g c =
    let found = find_from_yields_List (word_is c.args.line.now c.args.span) _ _ c.find.result c.find.ensures.ran (YieldsList-from_slice c.args.table.now (search rules)) (λ x b q k. search rules) in
    c.from_residual.ensures ∙ rw c.in_err-entry.was at (among_found c.args.line.now c.args.span c.args.table.now c.find.result found)

pub returns : goal.returns
returns g c =
    let found = find_from_yields_List (word_is c.args.line.now c.args.span) _ _ c.find.result c.find.ensures.ran (YieldsList-from_slice c.args.table.now (search rules)) (λ x b q k. search rules) in
    rw c.in_ok-entry.was at (among_found c.args.line.now c.args.span c.args.table.now c.find.result found)
