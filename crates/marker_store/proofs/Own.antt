-- What the numbers in the arrays leave: no two comparisons, and no two warnings, have the same. Assumes nothing.
use mathlib.Core.Path.{◌≡◌, sym, ap, ◌∙◌}
use Rattle.marker_kind.specs.Code.{operator_code, sort_code, key_code, sort_of, key_of, operator_of}
use Rattle.marker_kind.specs.declared.kind.Comparison.{Comparison}
use Rattle.marker_kind.proofs.Own.{sort_own, key_own, operator_own}
use Rattle.marker_store.specs.Numbers.{comparison_numbers, warning_numbers}
use Rattle.marker_store.specs.declared.marks.Warning.{Warning}

pub comparison_own : (c d : Comparison) → comparison_numbers c ≡ comparison_numbers d → c ≡ d
comparison_own c d e =
    let a : sort_code c.sort ≡ sort_code d.sort = cc in
    let b : key_code c.key ≡ key_code d.key = cc in
    let o : operator_code c.operator ≡ operator_code d.operator = cc in
    let start : c.literal.start.0 ≡ d.literal.start.0 = cc in
    let len : c.literal.len ≡ d.literal.len = cc in
    let sort : c.sort ≡ d.sort = sym (sort_own c.sort) ∙ ap sort_of a ∙ sort_own d.sort in
    let key : c.key ≡ d.key = sym (key_own c.key) ∙ ap key_of b ∙ key_own d.key in
    let operator : c.operator ≡ d.operator = sym (operator_own c.operator) ∙ ap operator_of o ∙ operator_own d.operator in
    λ i. record { sort = sort i; key = key i; operator = operator i; literal = record { start = record { 0 = start i }; len = len i } }

pub warning_own : (v w : Warning) → warning_numbers v ≡ warning_numbers w → v ≡ w
warning_own v w e =
    let kind : v.kind ≡ w.kind = cc in
    let start : v.span.start.0 ≡ w.span.start.0 = cc in
    let len : v.span.len ≡ w.span.len = cc in
    λ i. record { kind = kind i; span = record { start = record { 0 = start i }; len = len i } }
