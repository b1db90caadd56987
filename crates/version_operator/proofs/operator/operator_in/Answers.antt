use Rattle.std.proofs.Common.{rules, ◌∙◌, sym}
use Rattle.std.proofs.lemmas.Iterator.{YieldsList-from_slice}
use Rattle.std.proofs.lemmas.Iterator.Adapters.{option_map_id}
use Rattle.std.proofs.lemmas.Iterator.Consumers.{YieldsList-from_copied}
use Rattle.std.proofs.lemmas.Iterator.Search.{find_from_yields_List}
use Rattle.text.specs.Word.{bytes, spells}
use Rattle.version_operator.proofs.Operators.{found}
use Rattle.version_operator.specs.Operator.{spelling, operators}
use Rattle.version_operator.proofs.operator.operator_in.Goals as goal

pub returns : goal.returns
returns c =
    sym (option_map_id _)
    ∙ find_from_yields_List (λ op. spells (bytes (spelling op)) c.args.text.now c.args.span) c.find.new.self _ c.find.result c.find.ensures.ran
    (YieldsList-from_copied (YieldsList-from_slice operators (search rules)))
    (λ x b q k. search rules)
    ∙ found operators c.args.text.now c.args.span
