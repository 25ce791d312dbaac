use Rattle.std.proofs.Common.{refl, Bool, true, false, ◌≡◌, subst, rules}
use Rattle.json_model.specs.Moves.{push}
use Rattle.json_model.specs.Edit.{push_last}
use Rattle.subdoc_edit.specs.Planning.{TellsArray}
use Rattle.subdoc_edit.proofs.Decisions.{found_stands, no_array, an_array, array_holds}
use Rattle.subdoc_edit.proofs.deciding.push_last.Goals as goal

pub is_array-requires : goal.is_array-requires
is_array-requires c = found_stands c.args.text.now c.args.parts.now c.requires.found.0 c.args.at c.requires.found.1

pub push_at-requires-clause-stands : goal.push_at-requires-clause-stands
push_at-requires-clause-stands c = found_stands c.args.text.now c.args.parts.now c.requires.found.0 c.args.at c.requires.found.1

pub returns-then-not-is_array : goal.returns-then-not-is_array
returns-then-not-is_array c d several l asked gives describes =
    let none : c.is_array.result ≡ false = search rules in
    no_array push_last push several c.args.text.now c.args.value.now c.args.parts.now d c.args.at c.args.given asked (λ vs trail t. refl)
    (λ t s. subst (λ (b : Bool). TellsArray t b) none (c.is_array.ensures t s)) l gives

pub returns : goal.returns
returns c d several l asked gives describes =
    let some : c.is_array.result ≡ true = search rules in
    an_array push_last push several c.args.text.now c.args.value.now c.args.parts.now d c.args.at c.args.given c.in_ok-plan.plan asked (λ vs trail t. refl) (λ vs h. h)
    (λ t s. subst (λ (b : Bool). TellsArray t b) some (c.is_array.ensures t s))
    (λ trail t new st long array w. c.in_ok-plan.ensures.plan d trail t new st long (array_holds t array) w) c.in_ok-plan.ensures.number l gives describes
