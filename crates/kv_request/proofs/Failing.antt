-- The first check that fails, where checks stand behind others.
use Rattle.std.specs.Prelude.{◌≡◌, Bool, true, false, List, [], ◌∷◌, ◌++◌, Option, Some, None, if◌then◌else◌, refl}
use Rattle.std.specs.Option.{option_or}
use Rattle.std.proofs.Common.{ap, ◌∙◌}
use Rattle.doc_model.specs.declared.status.Status.{Status}
use Rattle.kv_request.specs.Tables.{first_failing}

-- a check in front of others
one_before : (passes : Bool) (status : Status) (all front back : Option Status) → all ≡ option_or front back
    → (if passes then all else Some status) ≡ option_or (if passes then front else Some status) back
one_before true status all front back e = e
one_before false status all front back e = refl

failing_append : (front back : List (Bool × Status))
    → first_failing (front ++ back) ≡ option_or (first_failing front) (first_failing back)
failing_append [] back = refl
failing_append (check ∷ front) back =
    one_before check.0 check.1 (first_failing (front ++ back)) (first_failing front) (first_failing back) (failing_append front back)

-- what fails in front is the first
pub fails_before : (front back : List (Bool × Status)) (status : Status) → first_failing front ≡ Some status
    → first_failing (front ++ back) ≡ Some status
fails_before front back status e = failing_append front back ∙ ap (λ o. option_or o (first_failing back)) e

-- where nothing fails in front, the first is behind
pub passes_before : (front back : List (Bool × Status)) → first_failing front ≡ None
    → first_failing (front ++ back) ≡ first_failing back
passes_before front back e = failing_append front back ∙ ap (λ o. option_or o (first_failing back)) e
