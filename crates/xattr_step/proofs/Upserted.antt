-- What was upserted at a path of attributes is found there.
use Rattle.std.proofs.Common.{◌≡◌, ℕ, List, Bool, Option, Some, Result, Ok, sym, ap, subst, ◌∙◌, arith}
use Rattle.doc_model.specs.declared.status.Status.{Status}
use Rattle.json_model.specs.declared.TheConstants.{MOST_DEEP}
use Rattle.json_model.specs.declared.asked.Lookup.{Lookup}
use Rattle.json_model.specs.declared.asked.Lookup.TheVariants as lookups
use Rattle.json_model.specs.declared.asked.Edit.TheVariants as edits
use Rattle.json_model.specs.Spelled.{Tree, text, Document, IsText}
use Rattle.json_model.specs.Edit.{look_at}
use Rattle.json_spell.proofs.Exact.{one_text}
use Rattle.subdoc_step.specs.Paths.{followed}
use Rattle.subdoc_step.specs.Answers.{◌>>=◌, looked_up}
use Rattle.subdoc_step.proofs.Went.{fine}
use Rattle.subdoc_step.proofs.Put.{upserted}
use Rattle.subdoc_step.proofs.Members.{looked_in}
use Rattle.xattr_body.specs.declared.TheConstants.{VALUE_DEEP}
use Rattle.xattr_body.specs.Section.{Pair, HaveSection}
use Rattle.xattr_body.specs.Edits.{value_of, with_pair}
use Rattle.xattr_body.proofs.Changes.{put_its}
use Rattle.xattr_step.specs.Object.{object_text}
use Rattle.xattr_step.specs.Answers.{read_attribute, looked_up_in, EditedPairs, text_at, within_blanks, with_text, edited_in}
use Rattle.xattr_step.proofs.Objects.{Object, object}
use Rattle.xattr_step.proofs.Steps.{Leads, leads, went_in}
use Rattle.xattr_step.proofs.Found.{looked_by}
use Rattle.xattr_step.proofs.Texts.{Has, has, text_of, surrounded, surrounded_tree, surrounded_text}
use Rattle.xattr_step.proofs.Sections.{left_object, section_left}

-- a look-up of attributes is one in the value whose text the attribute has
seen_in : (lookup : Lookup) (pairs : List Pair) (path name : List ℕ) (old : Option (List ℕ)) (u : Tree) (o : Object pairs) (l : Leads path name) → read_attribute path ≡ fine name
    → value_of name pairs ≡ Some (within_blanks old (text u)) → IsText VALUE_DEEP (surrounded old u) (within_blanks old (text u)) → looked_up_in lookup pairs path ≡ look_at lookup (followed l.behind u)
unfolding looked_up_in
seen_in lookup pairs path name old u o l named its is =
    let held = o.holds name (within_blanks old (text u)) its in
    let same : held.0 ≡ surrounded old u = one_text VALUE_DEEP (within_blanks old (text u)) held.0 (surrounded old u) held.1 is in
    let tree : held.0.tree ≡ u = ap (λ (d : Document). d.tree) same ∙ surrounded_tree old u in
    ap (λ (r : Result (List ℕ) Status). r >>= λ name. looked_up lookup (object_text pairs) path) named
    ∙ looked_by lookup (object_text pairs) path name l.behind o.document l.path_is o.is
    ∙ held.2 lookup l.behind
    ∙ ap (λ (t : Tree). look_at lookup (followed l.behind t)) tree

-- the pair of a name has the text of the value that the edited object has there
its_value : (name bytes : List ℕ) (pairs left : List Pair) (d : Document) (u : Tree) → IsText MOST_DEEP d bytes → Has name d.tree u → with_text name pairs (text_at name bytes) ≡ left
    → value_of name left ≡ Some (within_blanks (value_of name pairs) (text u))
its_value name bytes pairs left d u t h e =
    let value = within_blanks (value_of name pairs) (text u) in
    let put : with_pair name value pairs ≡ left = sym (ap (with_text name pairs) (text_of name bytes d u t h)) ∙ e in
    subst (λ (ps : List Pair). value_of name ps ≡ Some value) put (put_its name value pairs)

pub upserted_found : (several : Bool) (pairs : List Pair) (path value : List ℕ) (made : EditedPairs) → HaveSection pairs → edited_in edits.DictUpsert several pairs path value ≡ Ok made
    → (d : Document) × IsText MOST_DEEP d value × (looked_up_in lookups.Get made.pairs path ≡ Ok (text d.tree))
upserted_found several pairs path value made h e =
    let w = went_in edits.DictUpsert several pairs path value made e in
    let given = upserted several (object_text pairs) path value w.left w.left_is in
    let o = left_object edits.DictUpsert several pairs path value made w in
    let l = leads path w.name w.name_is in
    let seen : looked_in lookups.Get w.name l.behind o.0.tree ≡ fine (text given.0.tree) = sym (looked_by lookups.Get w.left.text path w.name l.behind o.0 l.path_is o.1) ∙ given.2 in
    let m = has lookups.Get w.name l.behind o.0.tree (text given.0.tree) seen in
    let whole = section_left edits.DictUpsert several pairs path value made h e in
    let old : Option (List ℕ) = value_of w.name pairs in
    let its = its_value w.name w.left.text pairs made.pairs o.0 m.0 o.1 m.1 w.pairs_are in
    let is = surrounded_text old m.0 (m.1.fit o.1.tree) (omega (arith, m.1.below, o.1.depth)) in
    (given.0, given.1, seen_in lookups.Get made.pairs path w.name old m.0 (object made.pairs whole.together.each) l w.name_is its is ∙ sym (m.1.seen lookups.Get l.behind) ∙ seen)
