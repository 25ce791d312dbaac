use Rattle.std.proofs.Common.{◌≡◌, Some, None, sym, subst, ◌∙◌}
use Rattle.json_model.specs.declared.kinds.Shape.{Shape}
use Rattle.json_model.specs.Spelled.{group}
use Rattle.subdoc_edit.proofs.Pieces.{at_within, standing_within}
use Rattle.subdoc_edit.proofs.Placed.{part_within, cut_some, cut_previous, cut_whole}
use Rattle.subdoc_edit.specs.Splicing.{MeetsAt}
use Rattle.subdoc_edit.proofs.Meeting.{TellsNext}
use Rattle.subdoc_edit.proofs.places.cut_of.Goals as goal

pub kind_at-requires : goal.kind_at-requires
kind_at-requires c = let r = c.requires in at_within c.args.text.now c.args.whole (group r.0 r.1) r.3

pub meet-met-requires : goal.meet-met-requires
meet-met-requires c = let r = c.requires in at_within c.args.text.now c.args.whole (group r.0 r.1) r.3

pub value_end-end-requires : goal.value_end-end-requires
value_end-end-requires c =
    let r = c.requires in
    standing_within c.args.text.now c.args.at (part_within c.args.text.now r.0 c.args.whole c.args.at r.1 r.2 r.3 r.4 r.5)

pub returns-in-Some : goal.returns-in-Some
returns-in-Some c shape ps k s few e =
    let same : c.shape_of-shape.result ≡ shape = c.shape_of-shape.ensures shape (c.kind_at.ensures (group shape ps) s) in
    let m = subst (λ (x : Shape). MeetsAt c.args.text.now x c.args.whole c.args.at c.meet-met.result) same c.meet-met.ensures ps k s few e in
    let next = subst (λ (x : Shape). TellsNext c.args.text.now x c.value_end-end.result (Some c.in-Some.next)) same c.in-Some.ensures.found in
    cut_some c.args.text.now shape c.args.whole c.args.at c.value_end-end.result c.meet-met.result.start c.in-Some.next ps k s few e m.0 (record { ends = c.value_end-end.ensures.found; next_is = next })

pub returns-in-Some-before : goal.returns-in-Some-before
returns-in-Some-before c shape ps k s few e =
    let same : c.shape_of-shape.result ≡ shape = c.shape_of-shape.ensures shape (c.kind_at.ensures (group shape ps) s) in
    let m = subst (λ (x : Shape). MeetsAt c.args.text.now x c.args.whole c.args.at c.meet-met.result) same c.meet-met.ensures ps k s few e in
    let next = subst (λ (x : Shape). TellsNext c.args.text.now x c.value_end-end.result None) same c.in-None.ensures.found in
    cut_previous c.args.text.now shape c.args.whole c.args.at c.value_end-end.result c.in-Some-before.previous ps k s few e (sym c.in-Some-before.is ∙ m.1) (record { ends = c.value_end-end.ensures.found; next_is = next })

pub returns-in-None-before : goal.returns-in-None-before
returns-in-None-before c shape ps k s few e =
    let same : c.shape_of-shape.result ≡ shape = c.shape_of-shape.ensures shape (c.kind_at.ensures (group shape ps) s) in
    let m = subst (λ (x : Shape). MeetsAt c.args.text.now x c.args.whole c.args.at c.meet-met.result) same c.meet-met.ensures ps k s few e in
    let next = subst (λ (x : Shape). TellsNext c.args.text.now x c.value_end-end.result None) same c.in-None.ensures.found in
    cut_whole c.args.text.now shape c.args.whole c.args.at c.value_end-end.result c.meet-met.result.start ps k s few e m.0 (sym c.in-None-before.is ∙ m.1) (record { ends = c.value_end-end.ensures.found; next_is = next })
