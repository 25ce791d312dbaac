-- Look-ups and edits whole, with the order in which they are refused.
use Rattle.std.specs.Prelude.{◌≡◌, ℕ, List, [], ◌∷◌, length, nat_le, Result, Ok, Err, Option, Bool, true, false, ◌⊎◌, if◌then◌else◌, ℤ}
use Rattle.doc_model.specs.declared.status.Status.{Status}
use Rattle.doc_model.specs.declared.status.TheConstants.Status as status
use Rattle.json_model.specs.declared.TheConstants.{MOST_DEEP, TEXT_LIMIT}
use Rattle.json_model.specs.declared.asked.Part.{Part}
use Rattle.json_model.specs.declared.asked.Part.TheVariants.{Member, At, Last}
use Rattle.json_model.specs.declared.asked.Lookup.{Lookup}
use Rattle.json_model.specs.declared.asked.Edit.{Edit}
use Rattle.json_model.specs.declared.asked.Edit.TheVariants as edits
use Rattle.json_model.specs.Spelled.{Tree, depth, Document, document_text, IsText}
use Rattle.json_model.specs.Fronts.{IsNot, IsDeep}
use Rattle.json_model.specs.Paths.{ReadsPath}
use Rattle.json_model.specs.Follow.{Outcome, Follows}
use Rattle.json_model.specs.Moves.{at_trail, changed}
use Rattle.json_model.specs.Edit.{Asked, Act, act_at, look_at}
use Rattle.json_model.specs.Values.{Gives}

-- A step may refuse, and then this is the answer; or it comes to something with which the next steps go on.
abbrev pub First : {A B : Type 0} → (Result A Status → Type 0) → Result B Status → (A → Type 0) → Type 0
First {A} step answer next =
    ((s : Status) × step (Err s) × (answer ≡ Err s)) ⊎ ((x : A) × step (Ok x) × next x)

-- ---- the steps

-- the document is a JSON text at most 32 deep
abbrev pub ReadsText : List ℕ → Result Document Status → Type 0
ReadsText text answer =
    ((d : Document) × IsText MOST_DEEP d text × (answer ≡ Ok d))
    ⊎ ((place : ℕ) × IsNot text place × (answer ≡ Err status.DOC_NOT_JSON))
    ⊎ ((place : ℕ) × IsDeep text place × (answer ≡ Err status.DOC_E2DEEP))

-- whether the last part is a name
abbrev pub ends_in_name : List Part → Bool
ends_in_name [] = false
ends_in_name (Member name ∷ []) = true
ends_in_name (At n ∷ []) = false
ends_in_name (Last ∷ []) = false
ends_in_name (p ∷ q ∷ ps) = ends_in_name (q ∷ ps)

-- whether the last part is an index other than -1
abbrev pub ends_in_index : List Part → Bool
ends_in_index [] = false
ends_in_index (Member name ∷ []) = false
ends_in_index (At n ∷ []) = true
ends_in_index (Last ∷ []) = false
ends_in_index (p ∷ q ∷ ps) = ends_in_index (q ∷ ps)

-- whether there is a part
abbrev pub is_some_part : List Part → Bool
is_some_part [] = false
is_some_part (p ∷ ps) = true

-- whether an edit takes a path of this form
abbrev pub takes : Edit → List Part → Bool
takes edits.DictAdd parts = ends_in_name parts
takes edits.DictUpsert parts = ends_in_name parts
takes edits.Delete parts = is_some_part parts
takes edits.Replace parts = true
takes edits.ArrayPushLast parts = true
takes edits.ArrayPushFirst parts = true
takes edits.ArrayInsert parts = ends_in_index parts
takes edits.ArrayAddUnique parts = true
takes edits.Counter parts = true

-- the parts, where the edit takes a path of their form
abbrev pub HasForm : Edit → List Part → Result (List Part) Status → Type 0
HasForm edit parts answer = answer ≡ (if takes edit parts then Ok parts else Err status.PATH_EINVAL)

-- what is done where the path leads
abbrev pub Acts : Asked → Bool → List Part → Tree → Result Act Status → Type 0
Acts asked several parts tree answer = (o : Outcome) × Follows parts tree o × (answer ≡ act_at asked several o)

-- a tree that an edit leaves, with the number that a counter has come to
pub record Edited : Type 0 where
  pub tree : Tree
  pub number : Option ℤ

-- what an act makes of a tree
abbrev pub done_to : Tree → Act → Edited
done_to tree a = record { tree = at_trail a.trail (changed a.change) tree; number = a.number }

-- at most 32 deep
abbrev pub shallow : Edited → Result Edited Status
shallow e = if nat_le (depth e.tree) MOST_DEEP then Ok e else Err status.VALUE_ETOODEEP

-- ---- edits

-- An edit of a tree: the form of the path, the value, the place, the depth of the result.
abbrev pub EditsTree : Edit → Bool → List Part → Tree → List ℕ → Result Edited Status → Type 0
EditsTree edit several parts tree value answer =
    First (HasForm edit parts) answer (λ path.
    First (Gives edit value) answer (λ asked.
    First (Acts asked several path tree) answer (λ a.
    answer ≡ shallow (done_to tree a))))

-- what an edit leaves: a text, with the number that a counter has come to
pub record EditedText : Type 0 where
  pub text : List ℕ
  pub number : Option ℤ

-- the document with an edited tree in place of its own
abbrev pub within_document : Document → Edited → EditedText
within_document d e = record { text = document_text (record { before = d.before; tree = e.tree; after = d.after }); number = e.number }

-- not too many bytes
abbrev pub small : EditedText → Result EditedText Status
small e = if nat_le (length e.text) TEXT_LIMIT then Ok e else Err status.E2BIG

-- An edit of a text: the path, the document, the tree's edit, the size of the result.
abbrev pub Edits : Edit → Bool → List ℕ → List ℕ → List ℕ → Result EditedText Status → Type 0
Edits edit several text path value answer =
    First (ReadsPath path) answer (λ parts.
    First (ReadsText text) answer (λ d.
    First (EditsTree edit several parts d.tree value) answer (λ e.
    answer ≡ small (within_document d e))))

-- ---- look-ups

-- what a look-up finds in a tree
abbrev pub LooksTree : Lookup → List Part → Tree → Result (List ℕ) Status → Type 0
LooksTree lookup parts tree answer = (o : Outcome) × Follows parts tree o × (answer ≡ look_at lookup o)

-- A look-up in a text: the path, the document, the place.
abbrev pub Looks : Lookup → List ℕ → List ℕ → Result (List ℕ) Status → Type 0
Looks lookup text path answer =
    First (ReadsPath path) answer (λ parts.
    First (ReadsText text) answer (λ d.
    LooksTree lookup parts d.tree answer))
