-- Where the parts of a version stand: "Outer whitespace; optional `v`; optional number and `!`; numbers joined by `.`; optional pre part ..,
-- post part .. and dev part, ..; optional `+` local part."
use Rattle.std.specs.Prelude.{ℕ, ◌+◌, Bool, ◌&&◌, List, ltb, eqb, length, drop}
use Rattle.text.specs.Class.{is_space}
use Rattle.text.specs.Scan.{skip}
use Rattle.text.specs.Word.{bytes, begins}
use Rattle.version_parts.specs.Joined.{more}
use Rattle.version_parts.specs.Local.{local_len}
use Rattle.version_number.specs.Number.{number_len}
use Rattle.version_parts.specs.Part.{pre_len, post_len, dev_len}
use Rattle.version_number.specs.Place.{past}
use Rattle.version_parts.specs.Release.{v_len, epoch_len, is_dot}
use Rattle.version.specs.declared.layout.Layout.{Layout}

-- where each part ends: the first number after `start` is the epoch's if `epoch` lies behind it, and `first` ends the first release number
unfoldable pub layout : List ℕ → Layout
layout s =
    let start = past v_len s (skip is_space s 0) in
    let epoch = past epoch_len s start in
    let first = past number_len s epoch in
    let release = past (more is_dot number_len) s first in
    let pre = past pre_len s release in
    let post = past post_len s pre in
    let dev = past dev_len s post in
    let local = past local_len s dev in
    record { start = start; epoch = epoch; first = first; release = release; pre = pre; post = post; dev = dev; local = local }

-- there is a release number
abbrev pub has_release : Layout → Bool
has_release l = ltb l.epoch l.first

-- only whitespace follows
abbrev pub ends_at : List ℕ → ℕ → Bool
ends_at s at = eqb (skip is_space s at) (length s)

-- the parts of a version and outer whitespace are the whole text
abbrev pub is_version_at : Layout → List ℕ → Bool
is_version_at l s = has_release l && ends_at s l.local

-- "or epoch and release only (`v` and outer whitespace allowed), then `.*`"
abbrev pub is_starred_at : Layout → List ℕ → Bool
is_starred_at l s = has_release l && begins (bytes ".*") (drop l.release s) && ends_at s (l.release + 2)

-- "`~=` needs two release numbers": the release goes on behind its first
abbrev pub has_two : Layout → Bool
has_two l = ltb l.first l.release

-- "optional `+` local part": it is there
abbrev pub has_local : Layout → Bool
has_local l = ltb l.dev l.local
