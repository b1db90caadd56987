use Rattle.line_url.proofs.Laws.{url}
use Rattle.line_url.proofs.url_at.Goals as goal

pub returns-then-start-end : goal.returns-then-start-end
returns-then-start-end c = search url

pub returns : goal.returns
returns c = search url
