-- What a look-up and an edit of a text answer.
use Rattle.std.specs.Prelude.{ℕ, List, Bool, Result, Ok, Err, if◌then◌else◌}
use Rattle.doc_model.specs.declared.status.Status.{Status}
use Rattle.doc_model.specs.declared.status.TheConstants.Status as status
use Rattle.json_model.specs.declared.asked.Part.{Part}
use Rattle.json_model.specs.declared.asked.Lookup.{Lookup}
use Rattle.json_model.specs.declared.asked.Edit.{Edit}
use Rattle.json_model.specs.Spelled.{Tree}
use Rattle.json_model.specs.Edit.{act_at, look_at}
use Rattle.json_model.specs.Order.{takes, Edited, done_to, shallow, EditedText, within_document, small}
use Rattle.subdoc_step.specs.Texts.{read_text}
use Rattle.subdoc_step.specs.Paths.{read_parts, followed}
use Rattle.subdoc_step.specs.Given.{given}

infixl 10 ◌>>=◌
-- a step, and then another with what it gives; a refusal is the answer
abbrev pub ◌>>=◌ : {A B : Type 0} → Result A Status → (A → Result B Status) → Result B Status
(Ok x) >>= next = next x
(Err s) >>= next = Err s

-- what a look-up at a path of a text answers
unfoldable pub looked_up : Lookup → List ℕ → List ℕ → Result (List ℕ) Status
looked_up lookup text path = do
  parts ← read_parts path
  d ← read_text text
  look_at lookup (followed parts d.tree)

-- the parts, where the edit takes a path of their form
abbrev pub formed : Edit → List Part → Result (List Part) Status
formed edit parts = if takes edit parts then Ok parts else Err status.PATH_EINVAL

-- what an edit makes of a tree
unfoldable pub edited_tree : Edit → Bool → List Part → Tree → List ℕ → Result Edited Status
edited_tree edit several parts tree value = do
  path ← formed edit parts
  asked ← given edit value
  act ← act_at asked several (followed path tree)
  shallow (done_to tree act)

-- what an edit at a path of a text answers, where `several` parts may be absent, or one
unfoldable pub edited : Edit → Bool → List ℕ → List ℕ → List ℕ → Result EditedText Status
edited edit several text path value = do
  parts ← read_parts path
  d ← read_text text
  e ← edited_tree edit several parts d.tree value
  small (within_document d e)
