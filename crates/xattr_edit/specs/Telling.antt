-- What is told of look-ups and edits of attributes.
use Rattle.std.specs.Prelude.{◌≡◌, ℕ, Bool, List, Some, Result, Ok, Err}
use Rattle.doc_model.specs.declared.status.Refused.{Refused}
use Rattle.json_model.specs.declared.asked.Lookup.{Lookup}
use Rattle.json_model.specs.declared.asked.Edit.{Edit}
use Rattle.json_model.specs.Edit.{lookup_of, edit_of}
use Rattle.subdoc_edit.specs.declared.looking.Piece.{Piece}
use Rattle.subdoc_edit.specs.Looking.{IsWithin, piece_text}
use Rattle.subdoc_edit.specs.Telling.{Told}
use Rattle.xattr_body.specs.Section.{Pair, section_of}
use Rattle.xattr_body.specs.Pairs.{pairs_in}
use Rattle.xattr_step.specs.Answers.{looked_up_in, edited_in}
use Rattle.xattr_edit.specs.declared.editing.EditedSection.{EditedSection}

-- a piece of the attributes' object is what the look-up of this opcode finds in them, or the status is its refusal
abbrev pub FindsIn : ℕ → List Pair → List ℕ → List ℕ → Result Piece Refused → Type 0
FindsIn opcode pairs object path =
    Told (λ piece. IsWithin object piece × ((lookup : Lookup) → lookup_of opcode ≡ Some lookup → looked_up_in lookup pairs path ≡ Ok (piece_text object piece)))
    (λ s. (lookup : Lookup) → lookup_of opcode ≡ Some lookup → looked_up_in lookup pairs path ≡ Err s)

-- a section is that of what an edit leaves of a section's attributes
pub record IsEdited (edit : Edit) (several : Bool) (section path value : List ℕ) (e : EditedSection) : Type 0 where
  pub pairs : List Pair
  pub section_is : e.section ≡ section_of pairs
  pub edited : edited_in edit several (pairs_in section) path value ≡ Ok (record { pairs = pairs; number = e.number })

-- so it is, or the status is the edit's refusal
abbrev pub EditsIn : ℕ → Bool → List ℕ → List ℕ → List ℕ → Result EditedSection Refused → Type 0
EditsIn opcode several section path value =
    Told (λ e. (edit : Edit) → edit_of opcode ≡ Some edit → IsEdited edit several section path value e)
    (λ s. (edit : Edit) → edit_of opcode ≡ Some edit → edited_in edit several (pairs_in section) path value ≡ Err s)
