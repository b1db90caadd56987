-- The laws of what a run, a marker and a line leave in `figures`. Assumes nothing.
use mathlib.Core.Path.{◌≡◌, refl}
use mathlib.Core.Bool.{Bool, true, false, cond}
use mathlib.Core.List.{List, [], ◌∷◌, ◌++◌}
use Prim.Native.Nat.{ℕ}
use mir.Val.{bool_byte}
use Rattle.std.specs.Prelude.{Result, Ok, Err, Option, Some, None, is_some}
use Rattle.std.specs.Option.{UnwrapsOrElse}
use Rattle.std.specs.Result.{ResultUnwrapsOrElse, result_unwrap_or}
use Rattle.refusal.specs.Answer.{Answer, good, refused, on_good, good_or}
use Rattle.refusal.specs.Refusal.{span, told, given}
use Rattle.refusal.specs.declared.place.Span.{Span}
use Rattle.line.specs.Figures.{figures_of}
use Rattle.line.specs.Line.{Parts}
use Rattle.line.specs.declared.figures.Figures.{Figures}
use Rattle.gateway.specs.Figures.{url_figures, part_figures}
use Rattle.refusal.specs.declared.fault.Refusal.{Refusal}
use Rattle.figures.specs.Numbers.{place_of}

-- yes and no as numbers
pub yes_number : (t : Bool) → bool_byte t ≡ cond t 1 0
yes_number true = refl
yes_number false = refl

-- behind the place what is made of a good answer's value, or of the default on a refusal
pub figures_told : {A B : Type 0} (f : A → B) (g : B → List ℕ) (none : A) (a : Answer A) (r : Result B Refusal) → told r ≡ on_good f a →
    (D : B → Type 0) → ((y : B) → D y → y ≡ f none) → (x : B) → ResultUnwrapsOrElse r D x → place_of (told r) ++ g x ≡ place_of a ++ g (f (good_or none a))
unfolding given
figures_told f g none (good m) (Ok k) made D default x is =
    let k_is : k ≡ f m = cc in
    rw (is, k_is)
figures_told f g none (good m) (Err why) made D default x is = cc
figures_told f g none (refused n s l) (Ok k) made D default x is = cc
figures_told f g none (refused n s l) (Err why) made D default x is =
    let start : why.span.start.0 ≡ s = cc in
    let len : why.span.len ≡ l = cc in
    rw (default x is, start, len)

-- a good answer's value, or what is given for a refusal
pub unwraps : {B : Type 0} (r : Result B Refusal) (d x : B) → x ≡ result_unwrap_or r d → ResultUnwrapsOrElse r (λ y. y ≡ d) x
unwraps (Ok y) d x e = e
unwraps (Err why) d x e = e

-- a URL's three figures, in front of the rest
pub url_told : (url : Option Span) (D : Span → Type 0) → ((y : Span) → D y → y ≡ span 0 0) → (at : Span) → UnwrapsOrElse url D at →
    (given : ℕ) → given ≡ bool_byte (is_some url) → (rest : List ℕ) → given ∷ at.start.0 ∷ at.len ∷ rest ≡ url_figures url ++ rest
url_told None D default at is given there rest = rw (default at is, there)
url_told (Some x) D default at is given there rest = rw (is, there)

-- the figures of a line's parts, with the URL's in one list with the rest
abbrev pub line_rest : Figures → List ℕ
line_rest f = f.name.start.0 ∷ f.name.len ∷ url_figures f.url ++ f.extras ∷ f.specifiers ∷ f.marker.kept ∷ f.marker.warned ∷ f.marker.words ∷ []

pub line_rest_is : (p : Parts) → line_rest (figures_of p) ≡ part_figures p
line_rest_is p = go p.url refl
  where
    go : (url : Option Span) → p.url ≡ url → line_rest (figures_of p) ≡ part_figures p
    go None e = rw e
    go (Some x) e = rw e
