-- What an edited object leaves of the attributes, step by step.
use Rattle.std.specs.Prelude.{◌≡◌, ℕ, Bool, List, ◌∷◌, Option, Some, None, Result, Ok, Err, ℤ}
use Rattle.doc_model.specs.declared.status.Status.{Status}
use Rattle.doc_model.specs.declared.status.Refused.{Refused}
use Rattle.json_model.specs.declared.asked.Part.{Part}
use Rattle.json_model.specs.declared.asked.Part.TheVariants.{Member}
use Rattle.json_model.specs.declared.asked.Edit.{Edit}
use Rattle.json_model.specs.Edit.{edit_of}
use Rattle.subdoc_edit.specs.declared.editing.Edited.{Edited}
use Rattle.subdoc_edit.specs.Splicing.{IsDocument}
use Rattle.subdoc_edit.specs.Telling.{Told}
use Rattle.subdoc_step.specs.Answers.{edited}
use Rattle.xattr_body.specs.Section.{Pair, section_of}
use Rattle.xattr_body.specs.Edits.{value_of, with_pair, without}
use Rattle.xattr_step.specs.Object.{object_text}
use Rattle.xattr_step.specs.Answers.{within_blanks, EditedPairs, fitting}
use Rattle.xattr_edit.specs.declared.editing.EditedSection.{EditedSection}

-- the first part is this name
abbrev pub BeginsWith : List ℕ → List Part → Type 0
BeginsWith name parts = (rest : List Part) × (parts ≡ Member name ∷ rest)

-- a text and a number are what the edit of this opcode makes of the attributes' object, which is JSON; or the status is its
-- refusal
abbrev pub EditsObject : ℕ → Bool → List Pair → List ℕ → List ℕ → Result Edited Refused → Type 0
EditsObject opcode several pairs path value =
    Told (λ e. IsDocument e.text × ((edit : Edit) → edit_of opcode ≡ Some edit → edited edit several (object_text pairs) path value ≡ Ok (record { text = e.text; number = e.number })))
    (λ s. (edit : Edit) → edit_of opcode ≡ Some edit → edited edit several (object_text pairs) path value ≡ Err s)

-- what was found, if anything was
abbrev pub found_in : Result (List ℕ) Status → Option (List ℕ)
found_in (Ok text) = Some text
found_in (Err s) = None

-- attributes of which this one has the text that was found for it, or none where none was found
abbrev pub with_found : List ℕ → List Pair → Option (List ℕ) → List Pair
with_found name pairs (Some text) = with_pair name (within_blanks (value_of name pairs) text) pairs
with_found name pairs None = without name pairs

-- a section is that of these attributes, which fit; or they don't
abbrev pub Spells : List Pair → Option ℤ → Result EditedSection Refused → Type 0
Spells pairs number =
    let made : EditedPairs = record { pairs = pairs; number = number } in
    Told (λ e. (fitting made ≡ Ok made) × (e.section ≡ section_of pairs) × (e.number ≡ number)) (λ s. fitting made ≡ Err s)
