-- What is told of an edit.
use Rattle.std.specs.Prelude.{◌≡◌, ℕ, ◌<◌, ◌≤◌, List, length, Bool, Option, Some, Result, Ok, Err, ◌⊎◌, ℤ}
use Rattle.doc_model.specs.declared.status.Status.{Status}
use Rattle.doc_model.specs.declared.status.TheConstants.Status as status
use Rattle.doc_model.specs.declared.status.Refused.{Refused}
use Rattle.json_model.specs.declared.TheConstants.{MOST_DEEP, TEXT_LIMIT}
use Rattle.json_model.specs.declared.asked.Edit.{Edit}
use Rattle.json_model.specs.Edit.{edit_of, makes_parents}
use Rattle.json_model.specs.Order.{Edits}
use Rattle.json_model.specs.Spelled.{Document, depth}
use Rattle.json_model.specs.Moves.{Change, at_trail, changed}
use Rattle.subdoc_edit.specs.declared.editing.Edited.{Edited}
use Rattle.subdoc_edit.specs.declared.plan.Plan.{Plan}
use Rattle.subdoc_edit.specs.Telling.{Told}
use Rattle.subdoc_edit.specs.Planning.{Plans, changed_text}

-- a text and a number are what the edit answers, or the status is
abbrev pub TellsEdit : Edit → Bool → List ℕ → List ℕ → List ℕ → Result Edited Refused → Type 0
TellsEdit edit several text path value =
    Told (λ e. Edits edit several text path value (Ok (record { text = e.text; number = e.number }))) (λ s. Edits edit several text path value (Err s))

-- a text and a number are what the edit of this opcode leaves
abbrev pub Makes : ℕ → ℕ → List ℕ → List ℕ → List ℕ → Edited → Type 0
Makes opcode flags text path value e =
    (edit : Edit) × (edit_of opcode ≡ Some edit) × Edits edit (makes_parents flags) text path value (Ok (record { text = e.text; number = e.number }))

-- the edit of this opcode is refused so
abbrev pub RefusesEdit : ℕ → ℕ → List ℕ → List ℕ → List ℕ → Status → Type 0
RefusesEdit opcode flags text path value s =
    (edit : Edit) × (edit_of opcode ≡ Some edit) × Edits edit (makes_parents flags) text path value (Err s)

-- a plan is that of some change
abbrev pub IsPlanned : List ℕ → List ℕ → Plan → Type 0
IsPlanned bytes value p = (d : Document) × (trail : List ℕ) × (change : Change) × Plans bytes value d trail change p

-- the document with a change, and the number; or it is too deep, or has too many bytes
abbrev pub Finishes : Document → List ℕ → Change → Option ℤ → Result Edited Refused → Type 0
Finishes d trail change number =
    Told
    (λ e. (depth (at_trail trail (changed change) d.tree) ≤ MOST_DEEP) × (e.text ≡ changed_text d trail change) × (length e.text ≤ TEXT_LIMIT) × (e.number ≡ number))
    (λ s.
    ((MOST_DEEP < depth (at_trail trail (changed change) d.tree)) × (s ≡ status.VALUE_ETOODEEP))
    ⊎ ((depth (at_trail trail (changed change) d.tree) ≤ MOST_DEEP) × (TEXT_LIMIT < length (changed_text d trail change)) × (s ≡ status.E2BIG)))
