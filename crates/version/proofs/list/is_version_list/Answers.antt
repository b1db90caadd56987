use Rattle.std.proofs.Common.{rules, tests, ◌∙◌, ◌||◌}
use Rattle.std.proofs.lemmas.Iterator.Search.{all_from_yields_List}
use Rattle.std.proofs.lemmas.Iterator.Splits.{YieldsList-from_slice_split}
use Rattle.text.specs.Class.{is_space}
use Rattle.version.proofs.Lists.{blank_is, list_is}
use Rattle.version.specs.Rules.{blank, is_version}
use Rattle.version.proofs.list.is_version_list.Goals as goal

pub returns : goal.returns
returns c =
    all_from_yields_List (λ piece. blank piece || is_version piece) c.all.new.self _ c.all.result c.all.ensures.ran
    (YieldsList-from_slice_split _ is_space c.args.text.now c.split.ensures.rest c.split.ensures.done c.split.ensures.closure (λ x r q k. search (rules, tests)))
    (λ x b q k. rw (← blank_is x.now) (search (rules, tests)))
    ∙ list_is c.args.text.now
