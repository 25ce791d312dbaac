-- Steps as functions answer what steps as relations answer.
use Rattle.std.proofs.Common.{◌≡◌, Result, Ok, Err, inl, inr, refl, sym, ap, ◌∙◌}
use Rattle.doc_model.specs.declared.status.Status.{Status}
use Rattle.json_model.specs.Order.{First}
use Rattle.subdoc_step.specs.Answers.{◌>>=◌}

-- a step that is told, and then what is told of the next steps
pub first_answers : {A B : Type 0} (step : Result A Status → Type 0) (r : Result A Status) (go : A → Result B Status) (next : Result B Status → A → Type 0)
    → step r → ((x : A) → r ≡ Ok x → next (go x) x) → First step (r >>= go) (next (r >>= go))
first_answers step (Ok x) go next is law = inr (x, is, law x refl)
first_answers step (Err s) go next is law = inl (s, is, refl)

-- where a step has one answer, and so have the next steps
pub first_only : {A B : Type 0} (step : Result A Status → Type 0) (r : Result A Status) (go : A → Result B Status) (next : A → Type 0) (answer : Result B Status)
    → ((q : Result A Status) → step q → q ≡ r) → ((x : A) → r ≡ Ok x → next x → answer ≡ go x) → First step answer next → answer ≡ (r >>= go)
first_only {A} {B} step r go next answer one law (inl (s, is, e)) = e ∙ ap (λ (q : Result A Status). q >>= go) (one (Err s) is)
first_only {A} {B} step r go next answer one law (inr (x, is, n)) = law x (sym (one (Ok x) is)) n ∙ ap (λ (q : Result A Status). q >>= go) (one (Ok x) is)
