-- What an edit leaves is a JSON text.
use Rattle.std.proofs.Common.{ℕ, List, Bool, Ok, sym, ap, subst}
use Rattle.json_model.specs.declared.TheConstants.{MOST_DEEP}
use Rattle.json_model.specs.declared.asked.Edit.{Edit}
use Rattle.json_model.specs.Spelled.{Tree, Document, Fits, IsText}
use Rattle.json_model.specs.Order.{Edited, EditedText, Edits}
use Rattle.json_model.proofs.Kept.{edit_fits}
use Rattle.subdoc_step.proofs.Texts.{read_is}
use Rattle.subdoc_step.proofs.Paths.{path_is}
use Rattle.subdoc_step.proofs.Followed.{follows}
use Rattle.subdoc_step.proofs.Edited.{edited_only}
use Rattle.subdoc_step.proofs.Names.{path_names}
use Rattle.subdoc_step.proofs.Suits.{asked_suits}
use Rattle.subdoc_step.proofs.Acting.{ActFits, act_fits}
use Rattle.subdoc_step.proofs.Went.{fine, Went, went}

-- ---- the text that an edit leaves

-- a document with another tree
abbrev pub with_tree : Document → Tree → Document
with_tree d tree = record { before = d.before; tree = tree; after = d.after }

tree_fits : (edit : Edit) (several : Bool) (text path value : List ℕ) (e : EditedText) (w : Went edit several text path value e) → Fits w.tree.tree
tree_fits edit several text path value e w =
    let is = read_is text w.document w.text_is in
    let s = w.steps in
    let outcome = follows w.parts w.document.tree is.tree in
    let suits = asked_suits edit w.parts value s.asked s.form s.value_is in
    let acts : ActFits w.document.tree (fine s.act) = subst (ActFits w.document.tree) s.act_is (act_fits s.asked several w.parts w.document.tree _ outcome (path_names w.parts path (path_is path w.parts w.path_is).0) suits) in
    subst (λ (e : Edited). Fits e.tree) s.result (edit_fits s.act.trail s.act.change w.document.tree is.tree acts)

-- the document that an edit leaves
pub left_text : (edit : Edit) (several : Bool) (text path value : List ℕ) (e : EditedText) (w : Went edit several text path value e) → IsText MOST_DEEP (with_tree w.document w.tree.tree) e.text
left_text edit several text path value e w =
    let is = read_is text w.document w.text_is in
    record {
      before = is.before;
      tree = tree_fits edit several text path value e w;
      after = is.after;
      depth = w.steps.room;
      spelled = ap (λ (e : EditedText). e.text) (sym w.result);
    }

pub leaves_json : (edit : Edit) (several : Bool) (text path value : List ℕ) (e : EditedText) → Edits edit several text path value (Ok e) → (d : Document) × IsText MOST_DEEP d e.text
leaves_json edit several text path value e edits =
    let w = went edit several text path value e (sym (edited_only edit several text path value (Ok e) edits)) in
    (with_tree w.document w.tree.tree, left_text edit several text path value e w)
