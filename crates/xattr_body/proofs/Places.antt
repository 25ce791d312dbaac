-- The place of a name among pairs.
use Rattle.std.proofs.Common.{◌≡◌, ℕ, zero, suc, ◌<◌, ◌≤◌, Bool, true, false, cond, List, [], ◌∷◌, ◌++◌, length, get_or, set, Option, Some, None, ltb, refl, sym, ap, ap₂, ◌∙◌, arith}
use Rattle.std.proofs.lemmas.Bool.{ltb-false}
use Rattle.std.proofs.lemmas.List.Quantifiers.{position-Some}
use Rattle.std.proofs.lemmas.List.Sums.{fails_before_first}
use Rattle.std.specs.List.{position, position_or_len, remove}
use Rattle.xattr_body.specs.Section.{Pair, same_name}
use Rattle.xattr_body.specs.Edits.{value_of, with_pair, without}
use Rattle.xattr_body.proofs.Changes.{put_in, put_past, found, passed, gone_in, gone_past, put_last, some, none}

-- whether a pair has this name
abbrev named : List ℕ → Pair → Bool
named name pair = same_name pair.0 name

abbrev place : ℕ → Option ℕ
place i = Some i

abbrev nowhere : Option ℕ
nowhere = None

-- the first pair of a name stands at a place
pub record StandsAt (name : List ℕ) (pairs : List Pair) (i : ℕ) (d : Pair) : Type 0 where
  pub value : value_of name pairs ≡ Some (get_or pairs i d).1
  pub changed : (value : List ℕ) → with_pair name value pairs ≡ set pairs i ((get_or pairs i d).0, value)
  pub gone : without name pairs ≡ remove pairs i

stands : (name : List ℕ) (pairs : List Pair) (i : ℕ) (d : Pair) → i < length pairs → named name (get_or pairs i d) ≡ true → ((k : ℕ) → k < i → named name (get_or pairs k d) ≡ false) → StandsAt name pairs i d
stands name [] i d within at before = absurd (omega arith)
stands name (p ∷ ps) zero d within at before = record {
  value = found name p ps at;
  changed = λ value. put_in name value p ps at;
  gone = gone_in name p ps at;
}
stands name (p ∷ ps) (suc i) d within at before =
    let past = before 0 (omega arith) in
    let rest = stands name ps i d (omega arith) at (λ k less. before (suc k) (omega arith)) in
    record {
      value = passed name p ps past ∙ rest.value;
      changed = λ value. put_past name value p ps past ∙ ap (λ (l : List Pair). p ∷ l) (rest.changed value);
      gone = gone_past name p ps past ∙ ap (λ (l : List Pair). p ∷ l) rest.gone;
    }

pub at_place : (name : List ℕ) (pairs : List Pair) (i : ℕ) (d : Pair) → place i ≡ position (named name) pairs → StandsAt name pairs i d
at_place name pairs i d e =
    let h = position-Some (named name) pairs i d (sym e) in
    stands name pairs i d h.0 h.1 h.2

absent : (name : List ℕ) (pairs : List Pair) (d : Pair) → ((k : ℕ) → k < length pairs → named name (get_or pairs k d) ≡ false) → (value_of name pairs ≡ none) × (without name pairs ≡ pairs)
absent name [] d h = (refl, refl)
absent name (p ∷ ps) d h =
    let past = h 0 (omega arith) in
    let rest = absent name ps d (λ k less. h (suc k) (omega arith)) in
    (passed name p ps past ∙ rest.0, gone_past name p ps past ∙ ap (λ (l : List Pair). p ∷ l) rest.1)

not_before : (b : Bool) (i : ℕ) → nowhere ≡ cond b (place i) nowhere → b ≡ false
not_before true i e = cc
not_before false i e = refl

pub at_none : (name : List ℕ) (pairs : List Pair) → nowhere ≡ position (named name) pairs → (value_of name pairs ≡ none) × (without name pairs ≡ pairs)
at_none name pairs e =
    let n = position_or_len (named name) pairs in
    let end : length pairs ≤ n = ltb-false n (length pairs) (not_before (ltb n (length pairs)) n e) in
    absent name pairs ([], []) (λ k less. fails_before_first (named name) pairs k ([], []) (omega arith))

-- ---- as the calls have it

found_at : (name key : List ℕ) (pairs items slice : List Pair) (i : ℕ) (d : Pair) → items ≡ pairs → slice ≡ items → key ≡ name → place i ≡ position (named key) slice → StandsAt name pairs i d
found_at name key pairs items slice i d is from k e = at_place name pairs i d (e ∙ ap₂ (λ (n : List ℕ) (l : List Pair). position (named n) l) k (from ∙ is))

none_at : (name key : List ℕ) (pairs items slice : List Pair) → items ≡ pairs → slice ≡ items → key ≡ name → nowhere ≡ position (named key) slice → (value_of name pairs ≡ none) × (without name pairs ≡ pairs)
none_at name key pairs items slice is from k e = at_none name pairs (e ∙ ap₂ (λ (n : List ℕ) (l : List Pair). position (named n) l) k (from ∙ is))

pub put_at : (name key value : List ℕ) (pairs items slice : List Pair) (i : ℕ) (p : Pair) → items ≡ pairs → slice ≡ items → key ≡ name → place i ≡ position (named key) slice → p ≡ get_or items i p
    → set items i (p.0, value) ≡ with_pair name value pairs
put_at name key value pairs items slice i p is from k e at =
    let h = found_at name key pairs items slice i p is from k e in
    ap (λ (l : List Pair). set l i (p.0, value)) is ∙ ap (λ (q : Pair). set pairs i (q.0, value)) (at ∙ ap (λ (l : List Pair). get_or l i p) is) ∙ sym (h.changed value)

pub put_end : (name key value : List ℕ) (pairs items slice : List Pair) → items ≡ pairs → slice ≡ items → key ≡ name → nowhere ≡ position (named key) slice → items ++ (name, value) ∷ [] ≡ with_pair name value pairs
put_end name key value pairs items slice is from k e =
    ap (λ (l : List Pair). l ++ (name, value) ∷ []) is ∙ sym (put_last name value pairs (none_at name key pairs items slice is from k e).0)

pub taken_at : (name key : List ℕ) (pairs items slice : List Pair) (i : ℕ) (p : Pair) → items ≡ pairs → slice ≡ items → key ≡ name → place i ≡ position (named key) slice → p ≡ get_or items i p → some p.1 ≡ value_of name pairs
taken_at name key pairs items slice i p is from k e at =
    let h = found_at name key pairs items slice i p is from k e in
    ap (λ (q : Pair). some q.1) (at ∙ ap (λ (l : List Pair). get_or l i p) is) ∙ sym h.value

pub gone_at : (name key : List ℕ) (pairs items slice : List Pair) (i : ℕ) → items ≡ pairs → slice ≡ items → key ≡ name → place i ≡ position (named key) slice → remove items i ≡ without name pairs
gone_at name key pairs items slice i is from k e =
    ap (λ (l : List Pair). remove l i) is ∙ sym (found_at name key pairs items slice i ([], []) is from k e).gone

pub none_taken : (name key : List ℕ) (pairs items slice : List Pair) → items ≡ pairs → slice ≡ items → key ≡ name → nowhere ≡ position (named key) slice → none ≡ value_of name pairs
none_taken name key pairs items slice is from k e = sym (none_at name key pairs items slice is from k e).0

pub none_gone : (name key : List ℕ) (pairs items slice : List Pair) → items ≡ pairs → slice ≡ items → key ≡ name → nowhere ≡ position (named key) slice → pairs ≡ without name pairs
none_gone name key pairs items slice is from k e = sym (none_at name key pairs items slice is from k e).1
