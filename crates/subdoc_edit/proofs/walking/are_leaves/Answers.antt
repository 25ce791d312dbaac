use Rattle.std.proofs.Common.{◌≡◌, true, false, sym, ap, ◌∙◌, rules}
use Rattle.json_walk.specs.Telling.{first_tree}
use Rattle.subdoc_edit.specs.Kinds.{holds_others}
use Rattle.subdoc_edit.proofs.Rest.{behind, no_first, element_first, element_next, rest_behind, rest_none, leaves, leaf_is, leaf_not, leaves_skip, leaves_stop}
use Rattle.subdoc_edit.proofs.walking.are_leaves.Goals as goal

pub returns-in-None : goal.returns-in-None
returns-in-None c t trees s e = ap leaves (sym (no_first t c.args.at trees e (c.in-None.ensures.found t s)))

pub returns-then-holds_others : goal.returns-then-holds_others
returns-then-holds_others c t trees s e =
    let x = element_first leaves c.args.text.now t c.args.at trees c.in-Some.first s e (c.in-Some.ensures.found t s) in
    let holds : holds_others c.kind_at.result ≡ true = search rules in
    sym (x.asked ∙ leaves_stop (first_tree x.left) (behind x.left) (leaf_not (first_tree x.left) c.kind_at.result x.stands.fits (c.kind_at.ensures (first_tree x.left) x.stands) holds))

pub loop-part-init : goal.loop-part-init
loop-part-init c = record {
  within = c.value_end-end.ensures.within.1;
  rest = λ t trees s e.
      let x = element_first leaves c.args.text.now t c.args.at trees c.in-Some.first s e (c.in-Some.ensures.found t s) in
      let holds : holds_others c.kind_at.result ≡ false = search rules in
      rest_behind leaves c.args.text.now trees c.value_end-end.result c.in-Some.first x (c.value_end-end.ensures.found (first_tree x.left) x.stands)
      (leaves_skip (first_tree x.left) (behind x.left) (leaf_is (first_tree x.left) c.kind_at.result (c.kind_at.ensures (first_tree x.left) x.stands) holds));
}

pub returns-then-holds_others-2 : goal.returns-then-holds_others-2
returns-then-holds_others-2 c t trees s e =
    let x = element_next leaves c.args.text.now trees c.loop-part.end c.in-Some-next_part.part (c.loop-part.invariant.rest t trees s e) c.in-Some-next_part.ensures.found in
    let holds : holds_others c.kind_at-in-Some-next_part.result ≡ true = sym c.holds_others-in-Some-next_part.ensures ∙ c.if-holds_others-2.true in
    sym (x.asked ∙ leaves_stop (first_tree x.left) (behind x.left) (leaf_not (first_tree x.left) c.kind_at-in-Some-next_part.result x.stands.fits (c.kind_at-in-Some-next_part.ensures (first_tree x.left) x.stands) holds))

pub loop-part-preserved : goal.loop-part-preserved
loop-part-preserved c = record {
  within = c.value_end-end-in-Some-next_part.ensures.within.1;
  rest = λ t trees s e.
      let x = element_next leaves c.args.text.now trees c.loop-part.end c.in-Some-next_part.part (c.loop-part.invariant.rest t trees s e) c.in-Some-next_part.ensures.found in
      let holds : holds_others c.kind_at-in-Some-next_part.result ≡ false = sym c.holds_others-in-Some-next_part.ensures ∙ c.if-holds_others-2.false in
      rest_behind leaves c.args.text.now trees c.value_end-end-in-Some-next_part.result c.in-Some-next_part.part x (c.value_end-end-in-Some-next_part.ensures.found (first_tree x.left) x.stands)
      (leaves_skip (first_tree x.left) (behind x.left) (leaf_is (first_tree x.left) c.kind_at-in-Some-next_part.result (c.kind_at-in-Some-next_part.ensures (first_tree x.left) x.stands) holds));
}

pub returns : goal.returns
returns c t trees s e = sym (rest_none leaves c.args.text.now trees c.loop-part.end (c.loop-part.invariant.rest t trees s e) c.in_default.ensures.found)
