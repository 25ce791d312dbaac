-- An edit as a function answers what the definition has.
use Rattle.std.proofs.Common.{◌≡◌, ℕ, ◌≤◌, List, Bool, Result, Ok, Err, inl, inr, refl, sym, ap, ◌∙◌}
use Rattle.doc_model.specs.declared.status.Status.{Status}
use Rattle.json_model.specs.declared.TheConstants.{MOST_DEEP}
use Rattle.json_model.specs.declared.asked.Part.{Part}
use Rattle.json_model.specs.declared.asked.Edit.{Edit}
use Rattle.json_model.specs.Spelled.{Tree, depth, Fits}
use Rattle.json_model.specs.Paths.{ReadsPath}
use Rattle.json_model.specs.Follow.{Outcome}
use Rattle.json_model.specs.Values.{Gives}
use Rattle.json_model.specs.Edit.{Asked, act_at}
use Rattle.json_model.specs.Order.{First, ReadsText, HasForm, Acts, Edited, done_to, shallow, EditsTree, EditedText, within_document, small, Edits}
use Rattle.subdoc_step.specs.Texts.{read_text}
use Rattle.subdoc_step.specs.Paths.{read_parts, followed}
use Rattle.subdoc_step.specs.Given.{given}
use Rattle.subdoc_step.specs.Answers.{◌>>=◌, formed, edited_tree, edited}
use Rattle.subdoc_step.proofs.Texts.{text_answered, text_only, read_is}
use Rattle.subdoc_step.proofs.Paths.{path_answered, path_only}
use Rattle.subdoc_step.proofs.Followed.{follows, follows_only}
use Rattle.subdoc_step.proofs.Given.{Same, given_told, given_same}
use Rattle.subdoc_step.proofs.Deep.{finish, Led, deep_same}
use Rattle.subdoc_step.proofs.Firsts.{first_answers, first_only}

-- ---- a tree

pub tree_answered : (edit : Edit) (several : Bool) (parts : List Part) (tree : Tree) (value : List ℕ) → Fits tree → EditsTree edit several parts tree value (edited_tree edit several parts tree value)
unfolding edited_tree
tree_answered edit several parts tree value fits =
    first_answers (HasForm edit parts) (formed edit parts) (λ path. given edit value >>= λ asked. finish tree (act_at asked several (followed path tree)))
    (λ (answer : Result Edited Status) path. First (Gives edit value) answer (λ asked. First (Acts asked several path tree) answer (λ a. answer ≡ shallow (done_to tree a)))) refl
    (λ path e. first_answers (Gives edit value) (given edit value) (λ asked. finish tree (act_at asked several (followed path tree)))
    (λ (answer : Result Edited Status) asked. First (Acts asked several path tree) answer (λ a. answer ≡ shallow (done_to tree a))) (given_told edit value)
    (λ asked h. first_answers (Acts asked several path tree) (act_at asked several (followed path tree)) (λ a. shallow (done_to tree a)) (λ (answer : Result Edited Status) a. answer ≡ shallow (done_to tree a))
    (followed path tree, follows path tree fits, refl) (λ a k. refl)))

acts_only : (asked : Asked) (several : Bool) (path : List Part) (tree : Tree) (answer : Result Edited Status) → Fits tree → First (Acts asked several path tree) answer (λ a. answer ≡ shallow (done_to tree a))
    → answer ≡ finish tree (act_at asked several (followed path tree))
acts_only asked several path tree answer fits =
    first_only (Acts asked several path tree) (act_at asked several (followed path tree)) (λ a. shallow (done_to tree a)) (λ a. answer ≡ shallow (done_to tree a)) answer
    (λ q (o, f, e). e ∙ ap (act_at asked several) (follows_only path tree o fits f)) (λ a h e. e)

err_no : (s : Status) (a : Asked) → Err s ≡ Ok a → ⊥
err_no s a e = cc

err_same : (s : Status) (r : Result Asked Status) → Same (Err s) r → Err s ≡ r
err_same s r (inl e) = e
err_same s r (inr (a, b, e, h, both)) = absurd (err_no s a e)

asked_same : (a : Asked) (r : Result Asked Status) (several : Bool) (path : List Part) (tree : Tree) (o : Outcome) → Same (Ok a) r → Led path tree o
    → finish tree (act_at a several o) ≡ (r >>= λ asked. finish tree (act_at asked several o))
asked_same a r several path tree o (inl e) l = ap (λ (q : Result Asked Status). q >>= λ asked. finish tree (act_at asked several o)) e
asked_same a r several path tree o (inr (x, y, e, h, both)) l =
    let same : a ≡ x = cc in
    ap (λ (z : Asked). finish tree (act_at z several o)) same ∙ deep_same x y several path tree o both l ∙ sym (ap (λ (q : Result Asked Status). q >>= λ asked. finish tree (act_at asked several o)) h)

given_only : (edit : Edit) (several : Bool) (path : List Part) (tree : Tree) (value : List ℕ) (answer : Result Edited Status) → Fits tree → depth tree ≤ MOST_DEEP
    → First (Gives edit value) answer (λ asked. First (Acts asked several path tree) answer (λ a. answer ≡ shallow (done_to tree a)))
    → answer ≡ (given edit value >>= λ asked. finish tree (act_at asked several (followed path tree)))
given_only edit several path tree value answer fits room (inl (s, g, e)) =
    e ∙ ap (λ (q : Result Asked Status). q >>= λ asked. finish tree (act_at asked several (followed path tree))) (err_same s (given edit value) (given_same edit value (Err s) g))
given_only edit several path tree value answer fits room (inr (a, g, acts)) =
    acts_only a several path tree answer fits acts
    ∙ asked_same a (given edit value) several path tree (followed path tree) (given_same edit value (Ok a) g) (record { follows = follows path tree fits; room = room })

pub tree_only : (edit : Edit) (several : Bool) (parts : List Part) (tree : Tree) (value : List ℕ) (answer : Result Edited Status) → Fits tree → depth tree ≤ MOST_DEEP
    → EditsTree edit several parts tree value answer → answer ≡ edited_tree edit several parts tree value
unfolding edited_tree
tree_only edit several parts tree value answer fits room =
    first_only (HasForm edit parts) (formed edit parts) (λ path. given edit value >>= λ asked. finish tree (act_at asked several (followed path tree)))
    (λ path. First (Gives edit value) answer (λ asked. First (Acts asked several path tree) answer (λ a. answer ≡ shallow (done_to tree a)))) answer
    (λ q e. e) (λ path h. given_only edit several path tree value answer fits room)

-- ---- a text

pub edited_answered : (edit : Edit) (several : Bool) (text path value : List ℕ) → Edits edit several text path value (edited edit several text path value)
unfolding edited
edited_answered edit several text path value =
    first_answers (ReadsPath path) (read_parts path) (λ parts. read_text text >>= λ d. edited_tree edit several parts d.tree value >>= λ e. small (within_document d e))
    (λ (answer : Result EditedText Status) parts. First (ReadsText text) answer (λ d. First (EditsTree edit several parts d.tree value) answer (λ e. answer ≡ small (within_document d e)))) (path_answered path)
    (λ parts p. first_answers (ReadsText text) (read_text text) (λ d. edited_tree edit several parts d.tree value >>= λ e. small (within_document d e))
    (λ (answer : Result EditedText Status) d. First (EditsTree edit several parts d.tree value) answer (λ e. answer ≡ small (within_document d e))) (text_answered text)
    (λ d h. first_answers (EditsTree edit several parts d.tree value) (edited_tree edit several parts d.tree value) (λ e. small (within_document d e))
    (λ (answer : Result EditedText Status) e. answer ≡ small (within_document d e)) (tree_answered edit several parts d.tree value (read_is text d h).tree) (λ e k. refl)))

pub edited_only : (edit : Edit) (several : Bool) (text path value : List ℕ) (answer : Result EditedText Status) → Edits edit several text path value answer → answer ≡ edited edit several text path value
unfolding edited
edited_only edit several text path value answer =
    first_only (ReadsPath path) (read_parts path) (λ parts. read_text text >>= λ d. edited_tree edit several parts d.tree value >>= λ e. small (within_document d e))
    (λ parts. First (ReadsText text) answer (λ d. First (EditsTree edit several parts d.tree value) answer (λ e. answer ≡ small (within_document d e)))) answer (path_only path)
    (λ parts p. first_only (ReadsText text) (read_text text) (λ d. edited_tree edit several parts d.tree value >>= λ e. small (within_document d e))
    (λ d. First (EditsTree edit several parts d.tree value) answer (λ e. answer ≡ small (within_document d e))) answer (text_only text)
    (λ d h. first_only (EditsTree edit several parts d.tree value) (edited_tree edit several parts d.tree value) (λ e. small (within_document d e)) (λ e. answer ≡ small (within_document d e)) answer
    (λ q t. let is = read_is text d h in tree_only edit several parts d.tree value q is.tree is.depth t) (λ e k last. last)))
