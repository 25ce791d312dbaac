-- Items of a list that are read one after another.
use Rattle.std.proofs.Common.{◌≡◌, ℕ, ◌+◌, ◌<◌, ◌≤◌, List, [], ◌∷◌, ◌++◌, length, get_or, drop, Option, Some, None, option_map, refl, sym, ap, ◌∙◌, append_assoc, append-nil}
use Rattle.std.proofs.lemmas.List.{drop_more, drop_all}
use Rattle.serde_json.specs.Data.{Data}
use Rattle.serde_json.specs.View.{view, items_view}
use Rattle.serde_json.specs.declared.value.Value.{Value}
use Rattle.kv_edge.specs.Fields.{◌>>=◌}
use Rattle.manifest_rules.specs.Form.{each_from}

-- what was read, and the items that are left, are the whole
pub record Read {A : Type 0} (f : Data → Option A) (vs : List Value) (i : ℕ) (done : List A) : Type 0 where
  pub whole : each_from f (items_view vs) ≡ option_map (λ rest. done ++ rest) (each_from f (items_view (drop i vs)))

pub none_read : {A : Type 0} (f : Data → Option A) (vs : List Value) → Read f vs 0 []
none_read f vs = record { whole = id (each_from f (items_view vs)) }
  where
    id : {A : Type 0} (o : Option (List A)) → o ≡ option_map (λ rest. [] ++ rest) o
    id None = refl
    id (Some xs) = refl

after_one : {A : Type 0} (o : Option (List A)) (done : List A) (x : A) → option_map (λ rest. done ++ rest) (o >>= (λ xs. Some (x ∷ xs))) ≡ option_map (λ rest. (done ++ x ∷ []) ++ rest) o
after_one None done x = refl
after_one (Some xs) done x = ap Some (sym (append_assoc done (x ∷ []) xs))

pub one_read : {A : Type 0} (f : Data → Option A) (vs : List Value) (i : ℕ) (v : Value) (done : List A) (x : A) → Read f vs i done → v ≡ get_or vs i v → i < length vs → Some x ≡ f (view v) → Read f vs (i + 1) (done ++ x ∷ [])
one_read f vs i v done x read at within is = record {
  whole =
      read.whole
      ∙ ap (λ ws. option_map (λ rest. done ++ rest) (each_from f (items_view ws))) (drop_more vs i v within ∙ ap (λ w. w ∷ drop (i + 1) vs) (sym at))
      ∙ ap (λ o. option_map (λ rest. done ++ rest) (o >>= (λ y. each_from f (items_view (drop (i + 1) vs)) >>= (λ ys. Some (y ∷ ys))))) (sym is)
      ∙ after_one (each_from f (items_view (drop (i + 1) vs))) done x;
}

pub none_there : {A : Type 0} (f : Data → Option A) (vs : List Value) (i : ℕ) (v : Value) (done : List A) → Read f vs i done → v ≡ get_or vs i v → i < length vs → None ≡ f (view v) → None ≡ each_from f (items_view vs)
none_there f vs i v done read at within is =
    sym (
    read.whole
    ∙ ap (λ ws. option_map (λ rest. done ++ rest) (each_from f (items_view ws))) (drop_more vs i v within ∙ ap (λ w. w ∷ drop (i + 1) vs) (sym at))
    ∙ ap (λ o. option_map (λ rest. done ++ rest) (o >>= (λ y. each_from f (items_view (drop (i + 1) vs)) >>= (λ ys. Some (y ∷ ys))))) (sym is)
    )

pub all_read : {A : Type 0} (f : Data → Option A) (vs : List Value) (i : ℕ) (done : List A) → Read f vs i done → length vs ≤ i → Some done ≡ each_from f (items_view vs)
all_read f vs i done read end =
    sym (
    read.whole ∙ ap (λ ws. option_map (λ rest. done ++ rest) (each_from f (items_view ws))) (drop_all i vs end)
    ∙ ap Some (append-nil done)
    )
