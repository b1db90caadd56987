-- What `read_layout` finds: between two of its places stands a text of that part's expression of the Appendix, and together they are the whole text.
-- Assumes nothing.
use Rattle.std.proofs.lemmas.List.{drop-take}
use mathlib.Core.Path.{◌≡◌, refl, sym}
use mathlib.Core.Bool.{true}
use mathlib.Core.List.{List, [], ◌∷◌, ◌++◌}
use Prim.Native.Nat.{ℕ, zero, suc, ◌+◌}
use native.Mathlib.Nat.{zero-add}
use native.Mathlib.Omega.{arith}
use borrow.Author.Tests.{ltb-true}
use lib.ListN.{take, drop, take-append-drop}
use lib.Seq.{slice, take-nil, drop-drop}
use Rattle.text.specs.Class.{is_space}
use Rattle.text.specs.Scan.{run, skip}
use Rattle.version_language.proofs.Matching.{joined_front, run_all}
use Rattle.version_language.proofs.Parts.{local}
use Rattle.version_language.proofs.Sound.{number_front, opt_pre_front, opt_post_front, opt_dev_front, opt_local_front, others_front, v_front, epoch_front}
use Rattle.version_language.specs.Appendix.{Regex, matches, word, opt, many, ◌then◌, sign, spaces, number, pre, post, dev}
use Rattle.version_parts.specs.Joined.{more}
use Rattle.version_parts.specs.Local.{local_len}
use Rattle.version_number.specs.Number.{number_len}
use Rattle.version_parts.specs.Part.{pre_len, post_len, dev_len}
use Rattle.version_number.specs.Place.{past}
use Rattle.version_parts.specs.Release.{v_len, epoch_len, is_dot}
use Rattle.version.specs.Layout.{layout, has_release}
use Rattle.version.specs.declared.layout.Layout.{Layout}

-- what stands between two places
pub record Held (s : List ℕ) (l : Layout) : Type 0 where
  pub before : matches (spaces then opt (word "v")) (slice 0 l.start s)
  pub epoch : matches (opt (number then sign "!")) (slice l.start l.epoch s)
  pub first : matches number (slice l.epoch l.first s)
  pub others : matches (many (sign "." then number)) (slice l.first l.release s)
  pub pre : matches (opt pre) (slice l.release l.pre s)
  pub post : matches (opt post) (slice l.pre l.post s)
  pub dev : matches (opt dev) (slice l.post l.dev s)
  pub local : matches (opt local) (slice l.dev l.local s)

-- the part in front at a place
held : (len : List ℕ → ℕ) (r : Regex) (s : List ℕ) (at : ℕ) → matches r (take (len (drop at s)) (drop at s)) → matches r (slice at (past len s at) s)
held len r s at m = rw (drop-take at (len (drop at s)) s) m

pub layout_holds : (s : List ℕ) → has_release (layout s) ≡ true → Held s (layout s)
unfolding layout skip
layout_holds s h = record {
  before = simp zero-add (joined_front spaces (opt (word "v")) s (run is_space s) (v_len (drop (run is_space s) s)) (run_all is_space s) (v_front (drop (run is_space s) s)));
  epoch = held epoch_len (opt (number then sign "!")) s (layout s).start (epoch_front (drop (layout s).start s));
  first =
      held number_len number s (layout s).epoch (number_front (drop (layout s).epoch s) (omega (arith, ltb-true (layout s).epoch (layout s).first h)));
  others = held (more is_dot number_len) (many (sign "." then number)) s (layout s).first (others_front (drop (layout s).first s));
  pre = held pre_len (opt pre) s (layout s).release (opt_pre_front (drop (layout s).release s));
  post = held post_len (opt post) s (layout s).pre (opt_post_front (drop (layout s).pre s));
  dev = held dev_len (opt dev) s (layout s).post (opt_dev_front (drop (layout s).post s));
  local = held local_len (opt local) s (layout s).dev (opt_local_front (drop (layout s).dev s));
}

-- what stands behind a place is a part and what stands behind the part
joined : (len : List ℕ → ℕ) (s : List ℕ) (at to : ℕ) → to ≡ past len s at → slice at to s ++ drop to s ≡ drop at s
joined len s at to e = rw (e, drop-take at (len (drop at s)) s, ← drop-drop (len (drop at s)) at s) (take-append-drop (len (drop at s)) (drop at s))

module _ (s : List ℕ) (start epoch first release pre post dev local : ℕ) (a : epoch ≡ past epoch_len s start) (b : first ≡ past number_len s epoch) (c : release ≡ past (more is_dot number_len) s first) (d : pre ≡ past pre_len s release) (e : post ≡ past post_len s pre) (f : dev ≡ past dev_len s post) (g : local ≡ past local_len s dev) where
  whole_of : slice 0 start s ++ (slice start epoch s ++ (slice epoch first s ++ (slice first release s ++ (slice release pre s ++ (slice pre post s ++ (slice post dev s ++ (slice dev local s ++ drop local s))))))) ≡ s
  whole_of = rw (joined local_len s dev local g, joined dev_len s post dev f, joined post_len s pre post e, joined pre_len s release pre d, joined (more is_dot number_len) s first release c, joined number_len s epoch first b, joined epoch_len s start epoch a) (take-append-drop start s)

-- together the parts are the whole text
abbrev pub parts : List ℕ → Layout → List ℕ
parts s l =
    slice 0 l.start s ++ (slice l.start l.epoch s ++ (slice l.epoch l.first s ++ (slice l.first l.release s ++ (slice l.release l.pre s ++ (slice l.pre l.post s ++ (slice l.post l.dev s ++ (slice l.dev l.local s ++ drop l.local s)))))))

pub layout_whole : (s : List ℕ) → parts s (layout s) ≡ s
unfolding layout
layout_whole s =
    let l = layout s in
    whole_of s l.start l.epoch l.first l.release l.pre l.post l.dev l.local refl refl refl refl refl refl refl
