use Rattle.std.proofs.Common.{◌≡◌, ℕ, map}
use Rattle.std.specs.List.{range_with_len}
use Rattle.arrays.specs.Front.{pad}
use Rattle.cursor.specs.Limits.{max_comparisons}
use Rattle.marker_typed.proofs.gather.filled.Given as goal

abbrev pub invariant-loop-i : goal.invariant-loop-i
invariant-loop-i g l =
    (f : ℕ → _) → ((i : ℕ) → (x : _) → goal.F-post g l.entry i x → x ≡ f i) → l.all ≡ pad max_comparisons l.fn.filler (map f (range_with_len 0 l.i))
