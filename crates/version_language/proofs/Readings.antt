-- What a text that is read as something is: the layout's places are those of its parts. Assumes nothing.
use mathlib.Core.Path.{◌≡◌, refl, sym, ap}
use mathlib.Core.Bool.{Bool, true, false, cond, ◌&&◌, ◌||◌, true≢false}
use mathlib.Core.List.{List}
use mathlib.Core.Option.{Option, none, some}
use Prim.Native.Nat.{ℕ, ◌+◌}
use lib.ListN.{drop}
use Rattle.text.specs.Word.{bytes, begins}
use Rattle.version.specs.Layout.{layout, has_release, ends_at, is_version_at, is_starred_at}
use Rattle.version.specs.Reading.{Version, version_at, reading}
use Rattle.version.specs.Rules.{is_version}

-- the answer by its two tests
abbrev answer : Bool → Bool → Version → Option (Version × Bool)
answer t u w = cond t (some (w, false)) (cond u (some (w, true)) none)

-- what an answer holds, and d where it holds nothing
abbrev held : Version × Bool → Option (Version × Bool) → Version × Bool
held d none = d
held d (some p) = p

answer_version : (t u : Bool) (w v : Version) → answer t u w ≡ some (v, false) → (t ≡ true) × (v ≡ w)
answer_version true u w v h = (refl, sym (ap (λ (o : Option (Version × Bool)). (held (v, false) o).0) h))
answer_version false true w v h = absurd (true≢false (ap (λ (o : Option (Version × Bool)). (held (v, false) o).1) h))
answer_version false false w v h = absurd (true≢false (cc))

answer_any : (t u : Bool) (w v : Version) (star : Bool) → answer t u w ≡ some (v, star) → ((t || u) ≡ true) × (v ≡ w)
answer_any true u w v star h = (refl, sym (ap (λ (o : Option (Version × Bool)). (held (v, star) o).0) h))
answer_any false true w v star h = (refl, sym (ap (λ (o : Option (Version × Bool)). (held (v, star) o).0) h))
answer_any false false w v star h = absurd (true≢false (cc))

module _ (s : List ℕ) (v : Version) where
  -- a version
  pub read_version : reading s ≡ some (v, false) → (is_version s ≡ true) × (v ≡ version_at (layout s) s)
  unfolding reading is_version
  read_version h = answer_version (is_version_at (layout s) s) (is_starred_at (layout s) s) (version_at (layout s) s) v h

  -- a version or a pattern
  pub read_any : (star : Bool) → reading s ≡ some (v, star) → (has_release (layout s) ≡ true) × (v ≡ version_at (layout s) s)
  unfolding reading
  read_any star h =
      let (good, same) = answer_any (is_version_at (layout s) s) (is_starred_at (layout s) s) (version_at (layout s) s) v star h in
      (go (has_release (layout s)) (ends_at s (layout s).local) (begins (bytes ".*") (drop (layout s).release s)) (ends_at s ((layout s).release + 2)) good, same)
    where
      go : (t e b f : Bool) → ((t && e) || (t && b && f)) ≡ true → t ≡ true
      go true e b f h = refl
      go false e b f h = h
