-- Items joined by a byte: release numbers by `.`, local segments by `.` `-` `_`.
use Rattle.std.specs.Prelude.{ℕ, zero, suc, ◌+◌, Bool, cond, ◌&&◌, List, ltb, length, drop}
use Rattle.text.specs.Scan.{byte_at}

-- how many bytes further items take, each behind a joining byte: at most k of them
unfoldable pub more_len : (ℕ → Bool) → (List ℕ → ℕ) → ℕ → List ℕ → ℕ
more_len joins item zero s = 0
more_len joins item (suc k) s =
    let n = item (drop 1 s) in
    let all = 1 + n + more_len joins item k (drop (1 + n) s) in
    cond (joins (byte_at s 0) && ltb 0 n) all 0

-- a text has no more items than bytes
unfoldable pub more : (ℕ → Bool) → (List ℕ → ℕ) → List ℕ → ℕ
more joins item s = more_len joins item (length s) s
