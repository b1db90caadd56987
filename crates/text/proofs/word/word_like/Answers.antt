use Rattle.std.proofs.Common.{rules, ◌≡◌, false, ◌-◌, length, take, drop, ◌∙◌, ap}
use Rattle.std.proofs.lemmas.Iterator.{YieldsList-from_slice, YieldsList-from_zip}
use Rattle.std.proofs.lemmas.Iterator.Search.{all_from_yields_List}
use Rattle.text.proofs.Words.{pairs_begin, short_begins, rest_is}
use Rattle.text.specs.Word.{begins_by}
use Rattle.text.proofs.word.word_like.Goals as goal
use Rattle.text.proofs.word.word_like.Goals.{then-word-rest, else-word-rest}

pub returns : goal.returns
returns g c p same =
    let rest = take (length c.args.line.now - c.min.result) (drop c.min.result c.args.line.now) in
    let here = ap (begins_by p c.args.word.now) (rest_is c.args.line.now c.args.start c.min.result (search rules)) in
    elim c.if-word-rest.branch [
      | then-word-rest w ↦
          let all = all_from_yields_List (λ x. p x.0 x.1) w.all.new.self _ w.all.result w.all.ensures.ran
          (YieldsList-from_zip (YieldsList-from_slice rest (search rules)) (YieldsList-from_slice c.args.word.now (search rules)))
          (λ x b q k. search (rules, same)) in
          w.result-is ∙ all ∙ pairs_begin p c.args.word.now rest w.if-word-rest.true ∙ here
      | else-word-rest w ↦
          let less : c.if-word-rest.result ≡ false = search rules in
          less ∙ short_begins p c.args.word.now rest w.if-word-rest.false ∙ here
    ]
