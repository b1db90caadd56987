-- The laws of the layout and of what is asked of it. Assumes nothing.
use mathlib.Core.Path.{◌≡◌, sym, ◌∙◌}
use mathlib.Core.Bool.{Bool, true, false, ◌&&◌, and-true, and-false}
use mathlib.Core.List.{List, [], ◌∷◌}
use Prim.Native.Nat.{ℕ, ◌+◌, ◌^◌, ◌<◌}
use native.Mathlib.Omega.{arith}
use lib.Dec.{eqb}
use lib.ListN.{length, drop, length-drop}
use mir.Syntax.{w64}
use mir.Val.{Fits}
use Rattle.text.proofs.Places.{places}
use Rattle.cursor.proofs.Laws.{word}
use Rattle.text.proofs.Words.{begins_fits}
use Rattle.text.specs.Class.{is_space}
use Rattle.text.specs.Scan.{skip}
use Rattle.text.specs.Word.{begins}
use Rattle.version_parts.specs.Joined.{more}
use Rattle.version_parts.specs.Local.{local_len}
use Rattle.version_number.specs.Number.{number_len}
use Rattle.version_parts.specs.Part.{pre_len, post_len, dev_len}
use Rattle.version_number.specs.Place.{past}
use Rattle.version_parts.specs.Release.{v_len, epoch_len, is_dot}
use Rattle.version.specs.Layout.{layout, has_release, ends_at, is_starred_at}
use Rattle.version.specs.declared.layout.Layout.{Layout}

-- the parts one after the other
pub layout_is : (s : List ℕ) (space start epoch first release pre post dev local : ℕ) → space ≡ skip is_space s 0 → start ≡ past v_len s space → epoch ≡ past epoch_len s start → first ≡ past number_len s epoch → release ≡ past (more is_dot number_len) s first → pre ≡ past pre_len s release → post ≡ past post_len s pre → dev ≡ past dev_len s post → local ≡ past local_len s dev → record { start = start; epoch = epoch; first = first; release = release; pre = pre; post = post; dev = dev; local = local } ≡ layout s
unfolding layout
layout_is s space start epoch first release pre post dev local a b c d e f g h i = rw (i, h, g, f, e, d, c, b, a)

-- whether `.*` follows the release
module _ (l : Layout) (s : List ℕ) (r : Bool) (test : r ≡ begins (46 ∷ 42 ∷ []) (drop l.release s)) where
  pub star_fits : length s < 2 ^ 64 → r ≡ true → Fits w64 (l.release + 2)
  star_fits room h = record { fits = omega (arith, begins_fits eqb (46 ∷ 42 ∷ []) (drop l.release s) (sym test ∙ h), length-drop l.release s) }

  pub star_there : (q : Bool) → r ≡ true → q ≡ ends_at s (l.release + 2) → (has_release l && q) ≡ is_starred_at l s
  star_there q h ends = rw (← test, h, ← ends, and-true)

  pub star_none : r ≡ false → false ≡ is_starred_at l s
  star_none h = rw (← test, h, and-false)

pub ruleset laid = (layout_is, star_fits, star_there, star_none, places, word)
