-- Paths that part.
use Rattle.std.specs.Prelude.{◌≡◌, ◌≢◌, List, [], ◌∷◌, ◌⊎◌}
use Rattle.json_model.specs.declared.asked.Part.{Part}
use Rattle.json_model.specs.declared.asked.Part.TheVariants.{Member, At, Last}

-- all parts are names
abbrev pub AreNames : List Part → Type 0
AreNames [] = Unit {0}
AreNames (Member name ∷ parts) = AreNames parts
AreNames (At n ∷ parts) = ⊥
AreNames (Last ∷ parts) = ⊥

-- two paths go on, at some step, by different parts: so neither is a beginning of the other
abbrev pub Apart : List Part → List Part → Type 0
Apart [] others = ⊥
Apart (p ∷ ps) [] = ⊥
Apart (p ∷ ps) (q ∷ qs) = (p ≢ q) ⊎ ((p ≡ q) × Apart ps qs)
