-- From part to part up to the one whose value stands at a place.
use Rattle.std.proofs.Common.{◌≡◌, ℕ, zero, suc, ◌+◌, ◌<◌, List, length, Option, None, Some, refl, sym, ap, subst, ◌∙◌, arith}
use Rattle.json_model.specs.declared.kinds.Shape.{Shape}
use Rattle.json_model.specs.Spelled.{Tree, group, Parts, last, more, count}
use Rattle.json_walk.specs.declared.places.PartAt.{PartAt}
use Rattle.json_walk.specs.Places.{IsAt, ArePartsAt}
use Rattle.json_walk.specs.Telling.{tree_end, first_tree, part_at, end_at, parts_behind, told, part_of}
use Rattle.json_walk.proofs.Standing.{first_value, inside, behind_comma}
use Rattle.subdoc_edit.specs.Splicing.{start_in, value_in, end_in, before_in}

-- the part that is looked for is one of those that are left, of which this is the first
pub record Left (bytes : List ℕ) (shape : Shape) (whole : ℕ) (ps : Parts) (k : ℕ) (p : PartAt) (before : Option ℕ) : Type 0 where
  pub from : ℕ
  pub left : Parts
  pub number : ℕ
  pub there : ArePartsAt bytes from shape left
  pub part_is : p ≡ part_at from left
  pub few : number < count left
  pub value_is : whole + 1 + value_in k ps ≡ from + value_in number left
  pub start_is : whole + 1 + start_in k ps ≡ from + start_in number left
  pub first : number ≡ 0 → before ≡ before_in (whole + 1) k ps
  pub later : (i : ℕ) → number ≡ suc i → before_in (whole + 1) k ps ≡ Some (from + end_in i left)

some_part : (p q : PartAt) → Some p ≡ Some q → p ≡ q
some_part p q e = cc

some_none : (p : PartAt) → Some p ≡ None → ⊥
some_none p e = cc

none_part : (p : PartAt) → None ≡ Some p → ⊥
none_part p e = cc

no_before : (at k : ℕ) (ps : Parts) → k ≡ 0 → None ≡ before_in at k ps
no_before at zero ps e = refl
no_before at (suc k) ps e = absurd (omega (arith, e))

a_before : (at k i : ℕ) (ps : Parts) → k ≡ suc i → before_in at k ps ≡ Some (at + end_in i ps)
a_before at zero i ps e = absurd (omega (arith, e))
a_before at (suc k) i ps e = let same : k ≡ i = omega (arith, e) in ap (λ (j : ℕ). Some (at + end_in j ps)) same

pub left_first : (bytes : List ℕ) (shape : Shape) (whole : ℕ) (ps : Parts) (k : ℕ) (p : PartAt) → IsAt bytes whole (group shape ps) → k < count ps → Some p ≡ part_of 0 whole (group shape ps) → Left bytes shape whole ps k p None
left_first bytes shape whole ps k p s few e = record {
  from = whole + 1;
  left = ps;
  number = k;
  there = inside bytes whole shape ps s;
  part_is = some_part p (part_at (whole + 1) ps) e;
  few = few;
  value_is = refl;
  start_is = refl;
  first = λ z. no_before (whole + 1) k ps z;
  later = λ i e. a_before (whole + 1) k i ps e;
}

pub left_some : (shape : Shape) (whole : ℕ) (ps : Parts) → None ≡ part_of 0 whole (group shape ps) → ⊥
left_some shape whole ps e = none_part (part_at (whole + 1) ps) e

first_value_in : (from : ℕ) (left : Parts) → (part_at from left).value ≡ from + value_in 0 left
first_value_in from (last h t g) = refl
first_value_in from (more h t g ps) = refl

first_start_in : (from : ℕ) (left : Parts) → (part_at from left).start ≡ from + start_in 0 left
first_start_in from (last h t g) = refl
first_start_in from (more h t g ps) = refl

-- values stand one behind the other
first_only : (number : ℕ) (left : Parts) → number < count left → value_in number left ≡ value_in 0 left → number ≡ 0
first_only zero left few e = refl
first_only (suc i) (last h t g) few e = absurd (omega (arith, few))
first_only (suc i) (more h t g ps) few e = absurd (omega (arith, e))

-- this is the part
pub left_here : (bytes : List ℕ) (shape : Shape) (whole at : ℕ) (ps : Parts) (k : ℕ) (p : PartAt) (before : Option ℕ) → Left bytes shape whole ps k p before → at ≡ whole + 1 + value_in k ps → p.value ≡ at
    → (p.start ≡ whole + 1 + start_in k ps) × (before ≡ before_in (whole + 1) k ps)
left_here bytes shape whole at ps k p before l e v =
    let value : p.value ≡ l.from + value_in 0 l.left = ap (λ (q : PartAt). q.value) l.part_is ∙ first_value_in l.from l.left in
    let none : l.number ≡ 0 = first_only l.number l.left l.few (omega (arith, l.value_is, e, v, value)) in
    let start : p.start ≡ l.from + start_in 0 l.left = ap (λ (q : PartAt). q.start) l.part_is ∙ first_start_in l.from l.left in
    let same : start_in l.number l.left ≡ start_in 0 l.left = ap (λ (j : ℕ). start_in j l.left) none in
    (omega (arith, start, l.start_is, same), l.first none)

-- the end of this part's value
left_end : (bytes : List ℕ) (shape : Shape) (whole end : ℕ) (ps : Parts) (k : ℕ) (p : PartAt) (before : Option ℕ) (l : Left bytes shape whole ps k p before) → ((t : Tree) → IsAt bytes p.value t → end ≡ tree_end p.value t) → end ≡ end_at l.from l.left
left_end bytes shape whole end ps k p before l ends =
    let s : IsAt bytes p.value (first_tree l.left) = subst (λ (q : PartAt). IsAt bytes q.value (first_tree l.left)) (sym l.part_is) (first_value bytes l.from shape l.left l.there) in
    ends (first_tree l.left) s ∙ ap (λ (q : PartAt). tree_end q.value (first_tree l.left)) l.part_is

-- it is another
other_number : (bytes : List ℕ) (shape : Shape) (whole at : ℕ) (ps : Parts) (k : ℕ) (p : PartAt) (before : Option ℕ) (l : Left bytes shape whole ps k p before) → at ≡ whole + 1 + value_in k ps → (p.value ≡ at → ⊥) → l.number ≡ 0 → ⊥
other_number bytes shape whole at ps k p before l e other none =
    let value : p.value ≡ l.from + value_in 0 l.left = ap (λ (q : PartAt). q.value) l.part_is ∙ first_value_in l.from l.left in
    let same : value_in l.number l.left ≡ value_in 0 l.left = ap (λ (j : ℕ). value_in j l.left) none in
    other (omega (arith, value, l.value_is, e, same))

next_left : (bytes : List ℕ) (shape : Shape) (whole end : ℕ) (ps : Parts) (k : ℕ) (from : ℕ) (left : Parts) (number : ℕ) (q : PartAt) → ArePartsAt bytes from shape left → number < count left → (number ≡ 0 → ⊥) → whole + 1 + value_in k ps ≡ from + value_in number left → whole + 1 + start_in k ps ≡ from + start_in number left
    → ((i : ℕ) → number ≡ suc i → before_in (whole + 1) k ps ≡ Some (from + end_in i left)) → end ≡ end_at from left → Some q ≡ told (parts_behind from left) → Left bytes shape whole ps k q (Some end)
next_left bytes shape whole end ps k from left zero q there few other value start later ends is = absurd (other refl)
next_left bytes shape whole end ps k from (last h t g) (suc i) q there few other value start later ends is = absurd (some_none q is)
next_left bytes shape whole end ps k from (more h t g qs) (suc i) q there few other value start later ends is =
    let place : ℕ = end_at from (more h t g qs) + length g + 1 in
    let before : before_in (whole + 1) k ps ≡ Some (from + end_in i (more h t g qs)) = later i refl in
    record {
      from = place;
      left = qs;
      number = i;
      there = behind_comma bytes from shape h t g qs there;
      part_is = some_part q (part_at place qs) is;
      few = omega (arith, few);
      value_is = omega (arith, value);
      start_is = omega (arith, start);
      first = λ none.
          let same : end ≡ from + end_in i (more h t g qs) = omega (arith, ends, ap (λ (j : ℕ). end_in j (more h t g qs)) none) in
          ap (λ (n : ℕ). Some n) same ∙ sym before;
      later = λ m e.
          let same : from + end_in i (more h t g qs) ≡ place + end_in m qs = omega (arith, ap (λ (j : ℕ). end_in j (more h t g qs)) e) in
          before ∙ ap (λ (n : ℕ). Some n) same;
    }

-- what was told of the part behind this one
abbrev pub TellsNext : List ℕ → Shape → ℕ → Option PartAt → Type 0
TellsNext bytes shape end next = (from : ℕ) (ps : Parts) → ArePartsAt bytes from shape ps → end ≡ end_at from ps → next ≡ told (parts_behind from ps)

pub left_next : (bytes : List ℕ) (shape : Shape) (whole at end : ℕ) (ps : Parts) (k : ℕ) (p q : PartAt) (before : Option ℕ) → Left bytes shape whole ps k p before → at ≡ whole + 1 + value_in k ps → (p.value ≡ at → ⊥) → ((t : Tree) → IsAt bytes p.value t → end ≡ tree_end p.value t)
    → TellsNext bytes shape end (Some q) → Left bytes shape whole ps k q (Some end)
left_next bytes shape whole at end ps k p q before l e other ends next =
    let end_is : end ≡ end_at l.from l.left = left_end bytes shape whole end ps k p before l ends in
    next_left bytes shape whole end ps k l.from l.left l.number q l.there l.few (other_number bytes shape whole at ps k p before l e other) l.value_is l.start_is l.later end_is (next l.from l.left l.there end_is)

last_only : (from : ℕ) (left : Parts) (number : ℕ) → number < count left → (number ≡ 0 → ⊥) → None ≡ told (parts_behind from left) → ⊥
last_only from (last h t g) number few other is = other (omega (arith, few))
last_only from (more h t g qs) number few other is = none_part (part_at (end_at from (more h t g qs) + length g + 1) qs) is

-- there is another
pub left_more : (bytes : List ℕ) (shape : Shape) (whole at end : ℕ) (ps : Parts) (k : ℕ) (p : PartAt) (before : Option ℕ) → Left bytes shape whole ps k p before → at ≡ whole + 1 + value_in k ps → (p.value ≡ at → ⊥) → ((t : Tree) → IsAt bytes p.value t → end ≡ tree_end p.value t)
    → TellsNext bytes shape end None → ⊥
left_more bytes shape whole at end ps k p before l e other ends next =
    let end_is : end ≡ end_at l.from l.left = left_end bytes shape whole end ps k p before l ends in
    last_only l.from l.left l.number l.few (other_number bytes shape whole at ps k p before l e other) (next l.from l.left l.there end_is)
