use Rattle.std.proofs.Common.{◌≡◌, ℕ, nat_eq, List, true, false, sym, ap, ◌∙◌, rules}
use Rattle.std.specs.Cmp.Lexicographic.{pointwise}
use Rattle.json_walk.specs.Telling.{first_tree}
use Rattle.subdoc_edit.proofs.Pieces.{slice_of}
use Rattle.subdoc_edit.proofs.Rest.{behind, no_first, element_first, element_next, rest_behind, rest_none, texts, texts_skip, texts_stop}
use Rattle.subdoc_edit.proofs.walking.has_text.Goals as goal

pub returns-in-None : goal.returns-in-None
returns-in-None c t trees s e = ap (texts c.args.wanted.now) (sym (no_first t c.args.at trees e (c.in-None.ensures.found t s)))

pub returns-then-eq : goal.returns-then-eq
returns-then-eq c t trees s e =
    let x = element_first (texts c.args.wanted.now) c.args.text.now t c.args.at trees c.in-Some.first s e (c.in-Some.ensures.found t s) in
    let y = slice_of c.args.text.now c.in-Some.first.value c.value_end-end.result (first_tree x.left) x.stands (c.value_end-end.ensures.found (first_tree x.left) x.stands) in
    let same : pointwise nat_eq c.cut.result.now c.args.wanted.now ≡ true = search rules in
    sym (x.asked ∙ texts_stop c.args.wanted.now (first_tree x.left) (behind x.left) (ap (λ (l : List ℕ). pointwise nat_eq l c.args.wanted.now) (sym (c.cut.ensures ∙ y.slice)) ∙ same))

pub loop-part-init : goal.loop-part-init
loop-part-init c = record {
  within = c.value_end-end.ensures.within.1;
  rest = λ t trees s e.
      let x = element_first (texts c.args.wanted.now) c.args.text.now t c.args.at trees c.in-Some.first s e (c.in-Some.ensures.found t s) in
      let y = slice_of c.args.text.now c.in-Some.first.value c.value_end-end.result (first_tree x.left) x.stands (c.value_end-end.ensures.found (first_tree x.left) x.stands) in
      let other : pointwise nat_eq c.cut.result.now c.args.wanted.now ≡ false = search rules in
      rest_behind (texts c.args.wanted.now) c.args.text.now trees c.value_end-end.result c.in-Some.first x (c.value_end-end.ensures.found (first_tree x.left) x.stands)
      (texts_skip c.args.wanted.now (first_tree x.left) (behind x.left) (ap (λ (l : List ℕ). pointwise nat_eq l c.args.wanted.now) (sym (c.cut.ensures ∙ y.slice)) ∙ other));
}

pub returns-then-eq-2 : goal.returns-then-eq-2
returns-then-eq-2 c t trees s e =
    let x = element_next (texts c.args.wanted.now) c.args.text.now trees c.loop-part.end c.in-Some-next_part.part (c.loop-part.invariant.rest t trees s e) c.in-Some-next_part.ensures.found in
    let y = slice_of c.args.text.now c.in-Some-next_part.part.value c.value_end-end-in-Some-next_part.result (first_tree x.left) x.stands (c.value_end-end-in-Some-next_part.ensures.found (first_tree x.left) x.stands) in
    let same : pointwise nat_eq c.cut-in-Some-next_part.result.now c.args.wanted.now ≡ true = search rules in
    sym (x.asked ∙ texts_stop c.args.wanted.now (first_tree x.left) (behind x.left) (ap (λ (l : List ℕ). pointwise nat_eq l c.args.wanted.now) (sym (c.cut-in-Some-next_part.ensures ∙ y.slice)) ∙ same))

pub loop-part-preserved : goal.loop-part-preserved
loop-part-preserved c = record {
  within = c.value_end-end-in-Some-next_part.ensures.within.1;
  rest = λ t trees s e.
      let x = element_next (texts c.args.wanted.now) c.args.text.now trees c.loop-part.end c.in-Some-next_part.part (c.loop-part.invariant.rest t trees s e) c.in-Some-next_part.ensures.found in
      let y = slice_of c.args.text.now c.in-Some-next_part.part.value c.value_end-end-in-Some-next_part.result (first_tree x.left) x.stands (c.value_end-end-in-Some-next_part.ensures.found (first_tree x.left) x.stands) in
      let other : pointwise nat_eq c.cut-in-Some-next_part.result.now c.args.wanted.now ≡ false = search rules in
      rest_behind (texts c.args.wanted.now) c.args.text.now trees c.value_end-end-in-Some-next_part.result c.in-Some-next_part.part x (c.value_end-end-in-Some-next_part.ensures.found (first_tree x.left) x.stands)
      (texts_skip c.args.wanted.now (first_tree x.left) (behind x.left) (ap (λ (l : List ℕ). pointwise nat_eq l c.args.wanted.now) (sym (c.cut-in-Some-next_part.ensures ∙ y.slice)) ∙ other));
}

pub returns : goal.returns
returns c t trees s e = sym (rest_none (texts c.args.wanted.now) c.args.text.now trees c.loop-part.end (c.loop-part.invariant.rest t trees s e) c.in_default.ensures.found)
