use Rattle.line_url.proofs.Laws.{url}
use Rattle.line_url.proofs.url_end.Goals as goal

pub returns-then-ends_word : goal.returns-then-ends_word
returns-then-ends_word c = search url

pub returns-then-blanks-past : goal.returns-then-blanks-past
returns-then-blanks-past c = search url

pub loop-word-smaller : goal.loop-word-smaller
loop-word-smaller c = search url

pub loop-word-preserved : goal.loop-word-preserved
loop-word-preserved c = search url
