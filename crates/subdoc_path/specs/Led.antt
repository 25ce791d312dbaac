-- Where a path leads in a text itself: to a place of its bytes.
use Rattle.std.specs.Prelude.{◌≡◌, ℕ, List, ◌++◌, length}
use Rattle.json_model.specs.declared.TheConstants.{MOST_DEEP}
use Rattle.json_model.specs.declared.asked.Part.{Part}
use Rattle.json_model.specs.Spelled.{Tree, text, Document, IsText}
use Rattle.json_model.specs.Follow.{Outcome, reached, missing, mismatch, Follows}
use Rattle.json_model.specs.Moves.{at_trail}
use Rattle.json_model.specs.Splices.{Reaches}
use Rattle.json_walk.specs.Places.{IsAt}
use Rattle.subdoc_path.specs.declared.led.Led.{Led}
use Rattle.subdoc_path.specs.declared.led.Led.TheVariants as led

-- The value at the end of this trail stands at this place: a change of it leaves the bytes before and behind it.
pub record StandsAt (bytes : List ℕ) (d : Document) (trail : List ℕ) (t : Tree) (at : ℕ) : Type 0 where
  pub is : IsText MOST_DEEP d bytes
  pub reaches : Reaches trail d.tree t
  pub place : IsAt bytes at t
  pub spliced : (f : Tree → Tree)
      → d.before ++ (text (at_trail trail f d.tree) ++ d.after) ≡ place.front ++ (text (f t) ++ place.back)

-- what is told of an outcome: the place of the value's first byte, or the number of the first part that could not be
-- followed
abbrev pub TellsPlace : List ℕ → Document → Outcome → Led → Type 0
TellsPlace bytes d (reached trail t) l = (at : ℕ) × (l ≡ led.At at) × StandsAt bytes d trail t at
TellsPlace bytes d (missing trail parent absent) l = l ≡ led.Missing (length trail)
TellsPlace bytes d (mismatch n) l = l ≡ led.Mismatch n

-- this is told of where these parts lead in a text
abbrev pub LeadsAt : List Part → List ℕ → Document → Led → Type 0
LeadsAt parts bytes d l = (o : Outcome) × Follows parts d.tree o × TellsPlace bytes d o l
