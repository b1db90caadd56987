-- The laws of `list_from`, which answer every loop that reads a list of spans into an array. Assumes nothing.
use mathlib.Core.Path.{◌≡◌, refl, sym, ap, ◌∙◌}
use mathlib.Core.Bool.{Bool, false}
use mathlib.Core.List.{List, [], ◌∷◌, ◌++◌, append-nil}
use Prim.Native.Nat.{ℕ, zero, suc, ◌+◌, ◌-◌, ◌≤◌, ◌<◌, zero-le, suc-le-suc}
use native.Mathlib.Omega.{arith}
use lib.ListN.{length, length-append}
use lib.Seq.{append_snoc}
use Rattle.arrays.specs.Front.{onto}
use Rattle.std.specs.Prelude.{Result, Ok, Err}
use Rattle.refusal.specs.Answer.{good}
use Rattle.refusal.specs.Refusal.{given}
use Rattle.cursor.specs.declared.cursor.Cursor.{Cursor}
use Rattle.refusal.specs.declared.fault.Fault.{Fault}
use Rattle.refusal.specs.declared.fault.Refusal.{Refusal}
use Rattle.refusal.specs.declared.place.Span.{Span}
use Rattle.spans.proofs.Arrays.{store_one}
use Rattle.spans.specs.Flat.{flat, spans_onto, stored}
use Rattle.cursor.specs.Limits.{max_list}
use Rattle.spans.specs.Listing.{Listing, then, ends, fails, follow, list_from, spans_in, outcome, counted}
use Rattle.spans.specs.declared.item.Item.{Item}
use Rattle.spans.specs.declared.item.Item.TheVariants.{One, End}

-- no more than may come
pub list_few : (many : Fault) (item : Bool → ℕ → Result Item Refusal) (k : ℕ) (fresh : Bool) (at : ℕ) → length (spans_in (list_from many item k fresh at)) ≤ k
unfolding list_from spans_in
list_few many item zero fresh at = go (item fresh at)
  where
    go : (i : Result Item Refusal) → length (spans_in (follow i (λ x next. fails (record { fault = many; span = x })))) ≤ 0
    go (Ok (One x next)) = zero-le
    go (Ok (End next)) = zero-le
    go (Err why) = zero-le
list_few many item (suc k) fresh at = go (list_few many item k false) (item fresh at)
  where
    go : ((at : ℕ) → length (spans_in (list_from many item k false at)) ≤ k) → (i : Result Item Refusal) → length (spans_in (follow i (λ x next. then x (list_from many item k false next)))) ≤ suc k
    go again (Ok (One x next)) = suc-le-suc (again next.at)
    go again (Ok (End next)) = zero-le
    go again (Err why) = zero-le

-- of `all` the spans `done`, n of them, stand at the front of an array that held `old`, and `rest` is the reading of what is left
pub record Kept (all rest : Listing) (old list : List ℕ) (n : ℕ) : Type 0 where
  pub done : List Span
  pub whole : done ++ spans_in rest ≡ spans_in all
  pub end : outcome rest ≡ outcome all
  pub count : length done ≡ n
  pub array : list ≡ spans_onto done old

pub kept_start : (all : Listing) (old : List ℕ) → Kept all all old old 0
unfolding flat onto
kept_start all old = record { done = []; whole = refl; end = refl; count = refl; array = refl }

-- what the code answers, and what stands in the array, where the reading ends
module _ (all rest : Listing) (old list : List ℕ) (n : ℕ) (inv : Kept all rest old list n) where
  all_read : spans_in rest ≡ [] → inv.done ≡ spans_in all
  all_read e = sym (append-nil inv.done) ∙ sym (ap (λ (l : List Span). inv.done ++ l) e) ∙ inv.whole

  kept_array : spans_in rest ≡ [] → list ≡ spans_onto (spans_in all) old
  kept_array e = inv.array ∙ ap (λ (l : List Span). spans_onto l old) (all_read e)

  kept_good : (at : ℕ) → rest ≡ ends at → good (n, at) ≡ counted all
  unfolding outcome spans_in
  kept_good at e =
      let size : length (spans_in all) ≡ n = sym (ap length (all_read (ap spans_in e))) ∙ inv.count in
      let out : outcome all ≡ good at = sym inv.end ∙ ap outcome e in
      rw (out, size)

  kept_fails : (why : Refusal) → rest ≡ fails why → given why ≡ counted all
  unfolding outcome given
  kept_fails why e = let out : outcome all ≡ given why = sym inv.end ∙ ap outcome e in rw out

-- what stands at the place decides: the turn, and the three ways out
module _ (many : Fault) (item : Bool → ℕ → Result Item Refusal) (fresh : Bool) (at : ℕ) (i : Result Item Refusal) (told : i ≡ item fresh at) where
  read_one : (k : ℕ) (x : Span) (next : Cursor) → i ≡ Ok (One x next) → list_from many item (suc k) fresh at ≡ then x (list_from many item k false next.at)
  unfolding list_from
  read_one k x next e = rw (← told, e)

  read_many : (x : Span) (next : Cursor) → i ≡ Ok (One x next) → list_from many item 0 fresh at ≡ fails (record { fault = many; span = x })
  unfolding list_from
  read_many x next e = rw (← told, e)

  read_end : (k : ℕ) (next : Cursor) → i ≡ Ok (End next) → list_from many item k fresh at ≡ ends next.at
  unfolding list_from
  read_end zero next e = rw (← told, e)
  read_end (suc k) next e = rw (← told, e)

  read_refused : (k : ℕ) (why : Refusal) → i ≡ Err why → list_from many item k fresh at ≡ fails why
  unfolding list_from
  read_refused zero why e = rw (← told, e)
  read_refused (suc k) why e = rw (← told, e)

  module _ (all : Listing) (old list : List ℕ) (n : ℕ) (inv : Kept all (list_from many item (max_list - n) fresh at) old list n) where
    pub kept_one : (x : Span) (next : Cursor) (now : List ℕ) → n < max_list → i ≡ Ok (One x next) → now ≡ stored list n x → Kept all (list_from many item (max_list - (n + 1)) false next.at) old now (n + 1)
    unfolding outcome spans_in
    kept_one x next now h e made =
        let k : max_list - n ≡ suc (max_list - (n + 1)) = omega arith in
        let r = ap (λ (m : ℕ). list_from many item m fresh at) k ∙ read_one (max_list - (n + 1)) x next e in
        record {
          done = inv.done ++ (x ∷ []);
          whole = append_snoc inv.done x _ ∙ ap (λ (l : List Span). inv.done ++ l) (sym (ap spans_in r)) ∙ inv.whole;
          end = sym (ap outcome r) ∙ inv.end;
          count = omega (arith, length-append inv.done (x ∷ []), inv.count);
          array = made ∙ ap (λ (l : List ℕ). stored l n x) inv.array ∙ ap (λ (m : ℕ). stored (spans_onto inv.done old) m x) (sym inv.count) ∙ store_one inv.done x old;
        }

    module _ (x : Span) (next : Cursor) (h : max_list ≤ n) (e : i ≡ Ok (One x next)) where
      too_many : list_from many item (max_list - n) fresh at ≡ fails (record { fault = many; span = x })
      too_many = let z : max_list - n ≡ 0 = omega arith in ap (λ (m : ℕ). list_from many item m fresh at) z ∙ read_many x next e

      pub many_answer : given (record { fault = many; span = x }) ≡ counted all
      many_answer = kept_fails all _ old list n inv _ too_many

      pub many_array : list ≡ spans_onto (spans_in all) old
      unfolding spans_in
      many_array = kept_array all _ old list n inv (ap spans_in too_many)

    module _ (next : Cursor) (e : i ≡ Ok (End next)) where
      pub end_answer : good (n, next.at) ≡ counted all
      end_answer = kept_good all _ old list n inv next.at (read_end (max_list - n) next e)

      pub end_array : list ≡ spans_onto (spans_in all) old
      unfolding spans_in
      end_array = kept_array all _ old list n inv (ap spans_in (read_end (max_list - n) next e))

    module _ (why : Refusal) (e : i ≡ Err why) where
      pub refused_answer : given why ≡ counted all
      refused_answer = kept_fails all _ old list n inv why (read_refused (max_list - n) why e)

      pub refused_array : list ≡ spans_onto (spans_in all) old
      unfolding spans_in
      refused_array = kept_array all _ old list n inv (ap spans_in (read_refused (max_list - n) why e))

pub ruleset kept = (kept_start, kept_one, many_answer, many_array, end_answer, end_array, refused_answer, refused_array)
