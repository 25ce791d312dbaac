-- What an edit is to write where.
use Rattle.std.specs.Prelude.{◌≡◌, ℕ, ◌+◌, ◌-◌, ◌<◌, ◌≤◌, List, [], ◌∷◌, ◌++◌, length, take, drop, Bool, true, false, Option, None, Some, Result, Ok, Err, ◌⊎◌, ℤ, ◌||◌, ◌&&◌, ◌==◌}
use Rattle.doc_model.specs.declared.status.Status.{Status}
use Rattle.doc_model.specs.declared.status.Refused.{Refused}
use Rattle.json_model.specs.declared.TheConstants.{MOST_DEEP}
use Rattle.json_model.specs.declared.kinds.Shape.{Shape}
use Rattle.json_model.specs.declared.kinds.Shape.TheVariants as shapes
use Rattle.json_model.specs.declared.asked.Edit.{Edit}
use Rattle.json_model.specs.declared.asked.Part.{Part}
use Rattle.json_model.specs.declared.asked.Part.TheVariants.{At}
use Rattle.json_model.specs.Spelled.{Tree, group, Parts, text, parts_text, depth, parts_depth, count, Document, document_text, IsText}
use Rattle.json_model.specs.Follow.{missing, Follows}
use Rattle.json_model.specs.Moves.{Change, put, push, insert, remove, at_trail, changed}
use Rattle.json_model.specs.Edit.{Asked, Act, array_elements, counted, number_of, to_set, make, act, member, nested}
use Rattle.json_model.specs.Order.{Acts}
use Rattle.json_model.specs.Values.{Gives}
use Rattle.subdoc_path.specs.declared.led.Led.TheVariants as led
use Rattle.subdoc_path.specs.Led.{StandsAt, LeadsAt}
use Rattle.subdoc_edit.specs.declared.values.Given.{Given}
use Rattle.subdoc_edit.specs.declared.parents.Around.{Around}
use Rattle.subdoc_edit.specs.declared.plan.Plan.{Plan}
use Rattle.subdoc_edit.specs.declared.plan.Content.{Content}
use Rattle.subdoc_edit.specs.Given.{given_bytes, IsCutOut, Describes}
use Rattle.subdoc_edit.specs.Splicing.{Spliced, IsTrimmed, Holds, IsArray, value_in}
use Rattle.subdoc_edit.specs.Telling.{Told}

-- ---- plans

-- the bytes that a plan puts into a text
abbrev pub plan_bytes : List ℕ → Plan → List ℕ
plan_bytes value p = p.before ++ (take (p.value_to - p.value_from) (drop p.value_from value) ++ p.behind)

-- the text of a document with a change at the end of a trail
abbrev pub changed_text : Document → List ℕ → Change → List ℕ
changed_text d trail change = document_text (record { before = d.before; tree = at_trail trail (changed change) d.tree; after = d.after })

-- what a plan writes is the text with this change
pub record Writes (bytes value : List ℕ) (d : Document) (trail : List ℕ) (change : Change) (p : Plan) : Type 0 where
  pub spliced : Spliced bytes (changed_text d trail change) (plan_bytes value p) p.from p.to
  pub ordered : p.value_from ≤ p.value_to
  pub within : p.value_to ≤ length value

-- a plan is that of this change: it tells whether the result is too deep, and writes it where it isn't
pub record Plans (bytes value : List ℕ) (d : Document) (trail : List ℕ) (change : Change) (p : Plan) : Type 0 where
  pub shallow : p.depth ≤ MOST_DEEP → depth (at_trail trail (changed change) d.tree) ≤ MOST_DEEP
  pub only : depth (at_trail trail (changed change) d.tree) ≤ MOST_DEEP → p.depth ≤ MOST_DEEP
  pub writes : p.depth ≤ MOST_DEEP → Writes bytes value d trail change p

-- ---- where

-- parts of a path lead to the value at this place
pub record LeadsTo (bytes : List ℕ) (parts : List Part) (d : Document) (at : ℕ) : Type 0 where
  pub is : IsText MOST_DEEP d bytes
  pub leads : LeadsAt parts bytes d (led.At at)

-- the part of this number, and no part before it, names nothing that is there
pub record Misses (bytes : List ℕ) (parts : List Part) (d : Document) (followed : ℕ) : Type 0 where
  pub is : IsText MOST_DEEP d bytes
  pub leads : LeadsAt parts bytes d (led.Missing followed)

-- ---- what

-- elements were read so
pub record IsNew (value : List ℕ) (g : Given) (new : Parts) : Type 0 where
  pub trimmed : IsTrimmed new
  pub cut : IsCutOut value g
  pub text_is : parts_text new ≡ given_bytes value g
  pub depth_is : parts_depth new ≡ g.depth
  pub shallow : g.depth ≤ MOST_DEEP

-- brackets round elements
abbrev pub bracket_before : Bool → List ℕ
bracket_before true = 0x5b ∷ []
bracket_before false = []

-- the bracket behind them
abbrev pub bracket_behind : Bool → List ℕ
bracket_behind true = 0x5d ∷ []
bracket_behind false = []

-- a value is written so: some bytes of the edit's value, perhaps between brackets
pub record IsWritten (value : List ℕ) (c : Content) (v : Tree) : Type 0 where
  pub ordered : c.from ≤ c.to
  pub within : c.to ≤ length value
  pub text_is : text v ≡ bracket_before c.listed ++ (take (c.to - c.from) (drop c.from value) ++ bracket_behind c.listed)
  pub depth_is : depth v ≡ c.depth

-- a value is written so, or is too deep
abbrev pub IsContent : List ℕ → Content → Tree → Type 0
IsContent value c v = IsWritten value c v ⊎ ((MOST_DEEP < depth v) × (MOST_DEEP < c.depth))

-- ---- plans of single changes, where so many parts of a path lead

-- a value in place of the one there
abbrev pub PlansPut : List ℕ → List ℕ → ℕ → ℕ → Content → Plan → Type 0
PlansPut bytes value at followed c p =
    (d : Document) (trail : List ℕ) (t v : Tree) → StandsAt bytes d trail t at → followed ≡ length trail → IsContent value c v → Plans bytes value d trail (put v) p

-- parts at the end
abbrev pub PlansPush : List ℕ → List ℕ → ℕ → ℕ → Given → Plan → Type 0
PlansPush bytes value at followed g p =
    (d : Document) (trail : List ℕ) (t : Tree) (new : Parts) → StandsAt bytes d trail t at → followed ≡ length trail → Holds t → IsNew value g new → Plans bytes value d trail (push new) p

-- elements at the front
abbrev pub PlansFront : List ℕ → List ℕ → ℕ → ℕ → Given → Plan → Type 0
PlansFront bytes value at followed g p =
    (d : Document) (trail : List ℕ) (t : Tree) (new : Parts) → StandsAt bytes d trail t at → followed ≡ length trail → IsArray t → IsNew value g new → Plans bytes value d trail (insert 0 new) p

-- elements before the one at this place, to which as many parts lead
abbrev pub PlansInsert : List ℕ → List ℕ → ℕ → ℕ → Given → Plan → Type 0
PlansInsert bytes value at followed g p =
    (d : Document) (trail : List ℕ) (ps : Parts) (k whole : ℕ) (new : Parts) → StandsAt bytes d trail (group shapes.Array ps) whole → k < count ps → at ≡ whole + 1 + value_in k ps → followed ≡ length trail + 1
    → IsNew value g new → Plans bytes value d trail (insert k new) p

-- the part whose value is at this place gone from the value at another
abbrev pub PlansRemove : List ℕ → List ℕ → ℕ → ℕ → Plan → Type 0
PlansRemove bytes value whole at p =
    (d : Document) (trail : List ℕ) (shape : Shape) (ps : Parts) (k : ℕ) → StandsAt bytes d trail (group shape ps) whole → k < count ps → at ≡ whole + 1 + value_in k ps → Plans bytes value d trail (remove k) p

-- a new member at the end, where a path of so many parts leads to its value
abbrev pub PlansMember : List ℕ → List ℕ → ℕ → ℕ → Around → Content → Plan → Type 0
PlansMember bytes value at total a c p =
    (d : Document) (trail : List ℕ) (t v : Tree) (name : List ℕ) (names : List (List ℕ)) → StandsAt bytes d trail t at → total ≡ length trail + (1 + length names) → Holds t → IsContent value c v
    → ((u : Tree) → parts_text (member name (nested names u)) ≡ a.before ++ (text u ++ a.behind)) → Plans bytes value d trail (push (member name (nested names v))) p

-- ---- what is done

-- a plan is what is done where the parts lead, or the status is why nothing is
abbrev pub Decides : Asked → Bool → List ℕ → List ℕ → List Part → Document → Result Plan Refused → Type 0
Decides asked several bytes value parts d =
    Told (λ p. (a : Act) × Acts asked several parts d.tree (Ok a) × Plans bytes value d a.trail a.change p × (a.number ≡ p.number)) (λ s. Acts asked several parts d.tree (Err s))

-- the same of what was given to an edit
abbrev pub DecidesGiven : Edit → Bool → List ℕ → List ℕ → List Part → Given → Document → Result Plan Refused → Type 0
DecidesGiven edit several bytes value parts g d r =
    (asked : Asked) → Gives edit value (Ok asked) → Describes value g asked → Decides asked several bytes value parts d r

-- the same where the parts lead to the value at this place
abbrev pub FoundDecides : Edit → List ℕ → List ℕ → List Part → ℕ → Given → Result Plan Refused → Type 0
FoundDecides edit bytes value parts at g r =
    (d : Document) (several : Bool) → LeadsTo bytes parts d at → DecidesGiven edit several bytes value parts g d r

-- the same where the part of this number names nothing that is there
abbrev pub MissedDecides : Edit → Bool → List ℕ → List ℕ → List Part → ℕ → Given → Result Plan Refused → Type 0
MissedDecides edit several bytes value parts followed g r =
    (d : Document) → Misses bytes parts d followed → DecidesGiven edit several bytes value parts g d r

-- parts of a path lead to a value at this place
abbrev pub IsFound : List ℕ → List Part → ℕ → Type 0
IsFound bytes parts at = (d : Document) × LeadsTo bytes parts d at

-- the part of this number names nothing that is there
abbrev pub IsMissed : List ℕ → List Part → ℕ → Type 0
IsMissed bytes parts followed = (d : Document) × Misses bytes parts d followed

-- ---- arrays

-- whether a value is an array
abbrev pub TellsArray : Tree → Bool → Type 0
TellsArray t true = IsArray t × (trees : List Tree) × (array_elements t ≡ Some trees)
TellsArray t false = array_elements t ≡ None

-- why an element of this text can't be added to a set; or that it can
abbrev pub TellsSet : Tree → List ℕ → Option Status → Type 0
TellsSet t wanted (Some s) = (done : Result Act Status) → to_set (array_elements t) wanted done ≡ Err s
TellsSet t wanted None = IsArray t × ((done : Result Act Status) → to_set (array_elements t) wanted done ≡ done)

-- ---- counters

-- a counter's number in place of the one at this place, or why it can't count
abbrev pub TellsCounter : List ℕ → List ℕ → ℕ → ℕ → ℤ → Result Plan Refused → Type 0
TellsCounter bytes value at followed delta =
    Told
    (λ p. (d : Document) (trail : List ℕ) (t : Tree) → StandsAt bytes d trail t at → followed ≡ length trail
    → (a : Act) × (counted trail delta (number_of t) ≡ Ok a) × Plans bytes value d a.trail a.change p × (a.number ≡ p.number))
    (λ s. (d : Document) (trail : List ℕ) (t : Tree) → StandsAt bytes d trail t at → counted trail delta (number_of t) ≡ Err s)

-- ---- what is made where parts name nothing

-- a new member of what the front of the path leads to, or why there can be none; `one` where the last part alone may be absent
abbrev pub MakesMember : Bool → Bool → List ℕ → List ℕ → List Part → ℕ → Content → Result Plan Refused → Type 0
MakesMember one several bytes value parts followed c r =
    (d : Document) (trail : List ℕ) (t v : Tree) (absent : List Part) → Misses bytes parts d followed → Follows parts d.tree (missing trail t absent) → IsContent value c v
    → Told
    (λ p. (change : Change) × (make (several || (one && length absent == 1)) trail absent v ≡ act trail change) × Plans bytes value d trail change p × (p.number ≡ c.number))
    (λ s. make (several || (one && length absent == 1)) trail absent v ≡ Err s) r

-- whether parts are one index
abbrev pub TellsIndex : List Part → Option ℕ → Type 0
TellsIndex parts (Some n) = parts ≡ At n ∷ []
TellsIndex parts None = (n : ℕ) → parts ≡ At n ∷ [] → ⊥
