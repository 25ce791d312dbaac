-- Where a path leads, as it is told.
use Rattle.std.specs.Prelude.{◌≡◌, List, length}
use Rattle.json_model.specs.declared.asked.Part.{Part}
use Rattle.json_model.specs.Spelled.{Tree}
use Rattle.json_model.specs.Follow.{Outcome, reached, missing, mismatch, Follows, place}
use Rattle.subdoc_path.specs.declared.finding.Found.{Found}
use Rattle.subdoc_path.specs.declared.finding.Found.TheVariants as found

-- What is told of an outcome: the place of the value in the list of the tree's values, or the number of the first part
-- that could not be followed.
abbrev pub Tells : Tree → Outcome → Found → Type 0
Tells tree (reached trail t) f = f ≡ found.At (place trail tree)
Tells tree (missing trail parent absent) f = f ≡ found.Missing (length trail)
Tells tree (mismatch d) f = f ≡ found.Mismatch d

-- this is told of where these parts lead in a tree
abbrev pub Leads : List Part → Tree → Found → Type 0
Leads parts tree f = (o : Outcome) × Follows parts tree o × Tells tree o f
