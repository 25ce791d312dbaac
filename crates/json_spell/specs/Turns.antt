-- Reading on by a token: the machine comes to the same from there on.
use Rattle.std.specs.Prelude.{◌≡◌, ℕ, ◌<◌, List, [], ◌∷◌, length, Option, Some, None, Result, Ok, Err}
use Rattle.std.specs.Borrow.{Bor}
use Rattle.json_model.specs.declared.TheConstants.{MOST_DEEP}
use Rattle.json_model.specs.declared.kinds.Shape.{Shape}
use Rattle.json_spell.specs.declared.brackets.Brackets.{Brackets}
use Rattle.json_spell.specs.declared.judging.Place.{Place}
use Rattle.json_spell.specs.declared.judging.Place.TheVariants as places
use Rattle.json_spell.specs.declared.judging.Spot.{Spot}
use Rattle.json_spell.specs.declared.tokens.Stop.{Stop}
use Rattle.json_spell.specs.Machine.{State, before, opened, naming, behind, verdict}
use Rattle.json_spell.specs.Brackets.{open_shapes}

-- the brackets that are open, innermost first
abbrev pub shapes_in : Brackets → List Shape
shapes_in brackets = open_shapes brackets.count brackets.objects

-- the innermost bracket and those round it
abbrev pub Parts : List Shape → Option (Shape × Brackets) → Type 0
Parts stack None = stack ≡ []
Parts stack (Some x) = stack ≡ x.0 ∷ shapes_in x.1

-- the machine's state at a place within these brackets
abbrev pub state_at : Place → List Shape → State
state_at places.Before stack = before stack
state_at places.Opened [] = before []
state_at places.Opened (shape ∷ stack) = opened shape stack
state_at places.Naming stack = naming stack
state_at places.Behind stack = behind stack

-- the machine's state where reading has come to
abbrev pub state_of : Spot → State
state_of spot = state_at spot.place (shapes_in spot.brackets)

-- the machine stops where it does from this state on, and fewer bytes are left; or it stops here
abbrev pub Turns : State → List ℕ → Result (Spot × Bor (List ℕ)) Stop → Type 0
Turns s bytes (Ok t) = (verdict MOST_DEEP s bytes ≡ verdict MOST_DEEP (state_of t.0) t.1.now) × (length t.1.now < length bytes)
Turns s bytes (Err stop) = verdict MOST_DEEP s bytes ≡ Err stop

-- the same, or the text is read to its end
abbrev pub TurnsOrEnds : State → List ℕ → Result (Option (Spot × Bor (List ℕ))) Stop → Type 0
TurnsOrEnds s bytes (Ok (Some t)) = Turns s bytes (Ok t)
TurnsOrEnds s bytes (Ok None) = verdict MOST_DEEP s bytes ≡ Ok tt
TurnsOrEnds s bytes (Err stop) = verdict MOST_DEEP s bytes ≡ Err stop
