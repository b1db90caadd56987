use Rattle.std.proofs.Common.{◌≡◌, ◌-◌, length}
use Rattle.line_url.specs.Url.{url_end}
use Rattle.line_url.proofs.url_end.Given as goal

-- the URL ends where it would from its start
abbrev pub invariant-loop-word : goal.invariant-loop-word
invariant-loop-word l = url_end l.line l.at ≡ url_end l.line l.start

abbrev pub decreases-loop-word : goal.decreases-loop-word
decreases-loop-word l = length l.line - l.at
