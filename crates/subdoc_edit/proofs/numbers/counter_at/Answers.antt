use Rattle.std.proofs.Common.{◌≡◌, ◌≢◌, rules, sym, subst, ◌∙◌, List, ℕ, ℤ, ◌+ℤ◌, w64}
use Rattle.std.specs.Int.RustNames.{FitsSigned}
use Rattle.std.proofs.lemmas.Int.{to_z-of_z}
use Rattle.subdoc_edit.specs.Numbers.{IsNumberPlan}
use Rattle.json_model.specs.declared.kinds.Kind.TheVariants as kinds
use Rattle.json_model.specs.Grammar.{IsNumber}
use Rattle.subdoc_edit.proofs.Pieces.{standing_within}
use Rattle.subdoc_edit.proofs.Counters.{a_number, none_there, not_whole, too_large, no_sum, counts, fits_is, fits_not, passed_sum}
use Rattle.subdoc_edit.proofs.numbers.counter_at.Goals as goal

pub kind_at-requires : goal.kind_at-requires
kind_at-requires c = standing_within c.args.text.now c.args.at c.requires.stands

pub returns-then-ne : goal.returns-then-ne
returns-then-ne c d trail t s =
    let other : c.kind_at.result ≢ kinds.Number = search rules in
    none_there t c.kind_at.result trail c.args.given.delta (c.kind_at.ensures t s.place) other

pub whole_of-requires : goal.whole_of-requires
whole_of-requires c =
    let r = c.requires.stands in
    let same : c.kind_at.result ≡ kinds.Number = search rules in
    let x = a_number c.args.text.now c.args.at c.value_end-end.result r.0 c.kind_at.result r.1 (c.kind_at.ensures r.0 r.1) same (c.value_end-end.ensures.found r.0 r.1) in
    subst (λ (l : List ℕ). IsNumber l) (sym c.cut.ensures) x.number

pub returns-in-Large : goal.returns-in-Large
returns-in-Large c d trail t s =
    let same : c.kind_at.result ≡ kinds.Number = search rules in
    let x = a_number c.args.text.now c.args.at c.value_end-end.result t c.kind_at.result s.place (c.kind_at.ensures t s.place) same (c.value_end-end.ensures.found t s.place) in
    let w = c.in-Large.ensures in
    too_large c.args.text.now c.args.at c.value_end-end.result t trail c.args.given.delta w.0 c.cut.result.now x c.cut.ensures w.1 w.2

pub returns-in-Not : goal.returns-in-Not
returns-in-Not c d trail t s =
    let same : c.kind_at.result ≡ kinds.Number = search rules in
    let x = a_number c.args.text.now c.args.at c.value_end-end.result t c.kind_at.result s.place (c.kind_at.ensures t s.place) same (c.value_end-end.ensures.found t s.place) in
    not_whole c.args.text.now c.args.at c.value_end-end.result t trail c.args.given.delta c.cut.result.now x c.cut.ensures c.in-Not.ensures

pub returns-in_ok-number_plan-in-Some : goal.returns-in_ok-number_plan-in-Some
returns-in_ok-number_plan-in-Some c d trail t s long =
    let same : c.kind_at.result ≡ kinds.Number = search rules in
    let x = a_number c.args.text.now c.args.at c.value_end-end.result t c.kind_at.result s.place (c.kind_at.ensures t s.place) same (c.value_end-end.ensures.found t s.place) in
    let old : FitsSigned w64 c.in-Is.number = search rules in
    let delta : FitsSigned w64 c.args.given.delta = search rules in
    let new : FitsSigned w64 c.in-Some.number = search rules in
    counts c.args.text.now c.args.value.now d t trail c.args.at c.args.followed c.value_end-end.result c.args.given.delta c.in-Is.number c.in-Some.number c.cut.result.now c.in_ok-number_plan-in-Some.field-0 s c.value_end-end.ensures.found long
    x c.cut.ensures c.in-Is.ensures.0 c.in-Is.ensures.1 (c.in-Some.ensures.1 ∙ passed_sum c.in-Is.number c.args.given.delta old delta) (fits_is c.in-Some.number new)
    (subst (λ (z : ℤ). IsNumberPlan (record { from = c.args.at; to = c.value_end-end.result }) c.args.followed z c.in_ok-number_plan-in-Some.field-0) (to_z-of_z w64 c.in-Some.number new) c.in_ok-number_plan-in-Some.ensures)

pub returns-in-None : goal.returns-in-None
returns-in-None c d trail t s =
    let same : c.kind_at.result ≡ kinds.Number = search rules in
    let x = a_number c.args.text.now c.args.at c.value_end-end.result t c.kind_at.result s.place (c.kind_at.ensures t s.place) same (c.value_end-end.ensures.found t s.place) in
    let old : FitsSigned w64 c.in-Is.number = search rules in
    let delta : FitsSigned w64 c.args.given.delta = search rules in
    no_sum c.args.text.now c.args.at c.value_end-end.result t trail c.args.given.delta c.in-Is.number c.cut.result.now x c.cut.ensures c.in-Is.ensures.0 c.in-Is.ensures.1
    (fits_not (c.in-Is.number +ℤ c.args.given.delta) (λ f. c.in-None.ensures (subst (λ (z : ℤ). FitsSigned w64 z) (sym (passed_sum c.in-Is.number c.args.given.delta old delta)) f)))
