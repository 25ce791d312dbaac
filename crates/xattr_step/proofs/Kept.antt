-- What an edit leaves of the other attributes.
use Rattle.std.proofs.Common.{◌≡◌, ◌≢◌, ℕ, List, Bool, Result, Ok, Err, sym, ap, ◌∙◌}
use Rattle.doc_model.specs.declared.status.Status.{Status}
use Rattle.json_model.specs.declared.asked.Edit.{Edit}
use Rattle.subdoc_step.proofs.Went.{fine}
use Rattle.xattr_body.specs.Section.{Pair}
use Rattle.xattr_body.specs.Edits.{value_of}
use Rattle.xattr_body.proofs.Changes.{put_others, gone_others}
use Rattle.xattr_step.specs.Answers.{read_attribute, EditedPairs, text_at, within_blanks, with_text, edited_in}
use Rattle.xattr_step.proofs.Steps.{went_in}

text_others : (name other : List ℕ) (pairs : List Pair) (r : Result (List ℕ) Status) → other ≢ name → value_of other (with_text name pairs r) ≡ value_of other pairs
text_others name other pairs (Ok text) n = put_others name (within_blanks (value_of name pairs) text) other pairs n
text_others name other pairs (Err gone) n = gone_others name other pairs n

one_name : (a b : List ℕ) → fine a ≡ fine b → a ≡ b
one_name a b e = cc

pub others_kept : (edit : Edit) (several : Bool) (pairs : List Pair) (path value : List ℕ) (made : EditedPairs) (name other : List ℕ) → edited_in edit several pairs path value ≡ Ok made → read_attribute path ≡ Ok name → other ≢ name
    → value_of other made.pairs ≡ value_of other pairs
others_kept edit several pairs path value made name other e named differs =
    let w = went_in edit several pairs path value made e in
    let same : w.name ≡ name = one_name w.name name (sym w.name_is ∙ named) in
    ap (value_of other) (sym w.pairs_are) ∙ text_others w.name other pairs (text_at w.name w.left.text) (λ h. differs (h ∙ same))
