-- What the library finds to be ASCII is one run of it. Assumes nothing.
use mathlib.Core.Path.{◌≡◌}
use mathlib.Core.List.{List}
use Prim.Native.Nat.{ℕ, ◌<◌}
use native.Mathlib.Omega.{arith}
use borrow.Author.Tests.{ltb-false}
use lib.ListN.{length}
use Rattle.std.specs.Str.{IsAscii}
use Rattle.text.proofs.Laws.{skip_start}
use Rattle.text.proofs.Reach.{run_le, skip_out}
use Rattle.text.specs.Class.{is_ascii}
use Rattle.text.specs.Scan.{run, skip}

-- where the library finds ASCII alone, the run goes to the end
pub ascii_whole : (s : List ℕ) → IsAscii s → run is_ascii s ≡ length s
ascii_whole s all =
    let past : skip is_ascii s 0 < length s → ⊥ = λ q. let big = ltb-false _ 128 (skip_out is_ascii s 0 0 q) in absurd (omega (arith, all (skip is_ascii s 0))) in
    omega (arith, skip_start is_ascii s, run_le is_ascii s)
