-- What a look-up and an edit of a document's extended attributes answer.
use Rattle.std.specs.Prelude.{ℕ, nat_eq, nat_le, List, [], ◌∷◌, ◌++◌, length, reverse, Bool, false, not, ◌&&◌, Option, Some, None, Result, Ok, Err, ℤ, if◌then◌else◌}
use Rattle.std.specs.List.{list_any}
use Rattle.doc_model.specs.declared.status.Status.{Status}
use Rattle.doc_model.specs.declared.status.TheConstants.Status as status
use Rattle.json_model.specs.declared.asked.Part.{Part}
use Rattle.json_model.specs.declared.asked.Part.TheVariants.{Member, At, Last}
use Rattle.json_model.specs.declared.asked.Lookup.{Lookup}
use Rattle.json_model.specs.declared.asked.Lookup.TheVariants as lookups
use Rattle.json_model.specs.declared.asked.Edit.{Edit}
use Rattle.json_model.specs.Edit.{look_at}
use Rattle.json_spell.specs.Tokens.{gap}
use Rattle.subdoc_step.specs.Texts.{read_text}
use Rattle.subdoc_step.specs.Paths.{read_parts, followed}
use Rattle.subdoc_step.specs.Answers.{◌>>=◌, looked_up, edited}
use Rattle.xattr_body.specs.declared.TheConstants.{NAME_LIMIT, SECTION_LIMIT}
use Rattle.xattr_body.specs.Section.{Pair, section_of}
use Rattle.xattr_body.specs.Edits.{value_of, with_pair, without}
use Rattle.xattr_step.specs.Object.{object_text}

-- ---- the attribute that a path leads into

-- whether an attribute may have this name
abbrev pub may_name : List ℕ → Bool
may_name name = nat_le 1 (length name) && nat_le (length name) NAME_LIMIT && not (list_any (nat_eq 0) name)

-- whether a name begins with the dollar sign: attributes that are worked out have such names, and none is served
abbrev pub is_virtual : List ℕ → Bool
is_virtual [] = false
is_virtual (x ∷ xs) = nat_eq x 0x24

-- the attribute of a name, where it may have it and is none that is worked out
abbrev pub named : List ℕ → Result (List ℕ) Status
named name =
    if may_name name
    then (if is_virtual name then Err status.XATTR_UNKNOWN_VATTR else Ok name)
    else Err status.PATH_EINVAL

-- the name that a path begins with
abbrev pub attribute_of : List Part → Result (List ℕ) Status
attribute_of [] = Err status.PATH_EINVAL
attribute_of (Member name ∷ parts) = named name
attribute_of (At n ∷ parts) = Err status.PATH_EINVAL
attribute_of (Last ∷ parts) = Err status.PATH_EINVAL

-- the name of the attribute that a path's bytes lead into
unfoldable pub read_attribute : List ℕ → Result (List ℕ) Status
read_attribute path = do
  parts ← read_parts path
  attribute_of parts

-- ---- look-ups

-- what a look-up at a path of attributes answers: what it does of their object
unfoldable pub looked_up_in : Lookup → List Pair → List ℕ → Result (List ℕ) Status
looked_up_in lookup pairs path = do
  name ← read_attribute path
  looked_up lookup (object_text pairs) path

-- ---- edits

-- what an edit leaves: attributes, and the number that a counter has come to
pub record EditedPairs : Type 0 where
  pub pairs : List Pair
  pub number : Option ℤ

-- the text that an object has at a name
unfoldable pub text_at : List ℕ → List ℕ → Result (List ℕ) Status
text_at name object = do
  d ← read_text object
  look_at lookups.Get (followed (Member name ∷ []) d.tree)

-- the blanks at the front of a text, and those at its end
abbrev pub blanks_before : List ℕ → List ℕ
blanks_before text = gap text

abbrev pub blanks_behind : List ℕ → List ℕ
blanks_behind text = reverse (gap (reverse text))

-- a new text with the blanks that stand round the old one, where there is one
abbrev pub within_blanks : Option (List ℕ) → List ℕ → List ℕ
within_blanks None text = text
within_blanks (Some old) text = blanks_before old ++ (text ++ blanks_behind old)

-- attributes of which this one has the text that an edited object has at its name, or none where it has none
abbrev pub with_text : List ℕ → List Pair → Result (List ℕ) Status → List Pair
with_text name pairs (Ok text) = with_pair name (within_blanks (value_of name pairs) text) pairs
with_text name pairs (Err gone) = without name pairs

-- not too many bytes
abbrev pub fitting : EditedPairs → Result EditedPairs Status
fitting made = if nat_le (length (section_of made.pairs)) SECTION_LIMIT then Ok made else Err status.E2BIG

-- What an edit at a path of attributes answers, where `several` parts may be absent, or one: the attribute that the path
-- leads into has the text that it has in their edited object, and each other keeps its own.
unfoldable pub edited_in : Edit → Bool → List Pair → List ℕ → List ℕ → Result EditedPairs Status
edited_in edit several pairs path value = do
  name ← read_attribute path
  e ← edited edit several (object_text pairs) path value
  fitting (record { pairs = with_text name pairs (text_at name e.text); number = e.number })
