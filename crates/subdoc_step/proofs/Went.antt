-- What happened where an edit went well.
use Rattle.std.proofs.Common.{◌≡◌, ℕ, ◌≤◌, List, length, Bool, true, false, cond, Result, Ok, Err, refl, ap, subst, ◌∙◌, arith}
use Rattle.std.specs.Prelude.{nat_le}
use Rattle.std.proofs.lemmas.Bool.Decides.{nat_tests}
use Rattle.doc_model.specs.declared.status.Status.{Status}
use Rattle.doc_model.specs.declared.status.TheConstants.Status as status
use Rattle.json_model.specs.declared.TheConstants.{MOST_DEEP, TEXT_LIMIT}
use Rattle.json_model.specs.declared.asked.Part.{Part}
use Rattle.json_model.specs.declared.asked.Edit.{Edit}
use Rattle.json_model.specs.Spelled.{Tree, Document, depth}
use Rattle.json_model.specs.Edit.{Asked, Act, act_at}
use Rattle.json_model.specs.Order.{takes, Edited, done_to, shallow, EditedText, within_document, small}
use Rattle.subdoc_step.specs.Texts.{read_text}
use Rattle.subdoc_step.specs.Paths.{read_parts, followed}
use Rattle.subdoc_step.specs.Given.{given}
use Rattle.subdoc_step.specs.Answers.{◌>>=◌, formed, edited_tree, edited}

abbrev pub fine : {A : Type 0} → A → Result A Status
fine x = Ok x

-- a step that went well, and what it gave
pub record Gave {A B : Type 0} (r : Result A Status) (go : A → Result B Status) (y : B) : Type 0 where
  pub value : A
  pub is : r ≡ fine value
  pub then_is : go value ≡ fine y

pub gave : {A B : Type 0} (r : Result A Status) (go : A → Result B Status) (y : B) → (r >>= go) ≡ fine y → Gave r go y
gave (Ok x) go y e = record { value = x; is = refl; then_is = e }
gave {A} {B} (Err s) go y e = absurd (err_no s y e)
  where
    err_no : (s : Status) (y : B) → Err s ≡ fine y → ⊥
    err_no s y e = cc

-- the steps of an edit of a tree that went well
pub record WentTree (edit : Edit) (several : Bool) (parts : List Part) (tree : Tree) (value : List ℕ) (e : Edited) : Type 0 where
  pub asked : Asked
  pub act : Act
  pub form : takes edit parts ≡ true
  pub value_is : given edit value ≡ fine asked
  pub act_is : act_at asked several (followed parts tree) ≡ fine act
  pub room : depth e.tree ≤ MOST_DEEP
  pub result : done_to tree act ≡ e

form_is : (b : Bool) (parts path : List Part) → cond b (fine parts) (Err status.PATH_EINVAL) ≡ fine path → (b ≡ true) × (parts ≡ path)
form_is true parts path e = (refl, cc)
form_is false parts path e = cc

shallow_is : (e f : Edited) (b : Bool) → nat_le (depth e.tree) MOST_DEEP ≡ b → cond b (fine e) (Err status.VALUE_ETOODEEP) ≡ fine f → (depth f.tree ≤ MOST_DEEP) × (e ≡ f)
shallow_is e f true is h =
    let same : e ≡ f = cc in
    (subst (λ (x : Edited). depth x.tree ≤ MOST_DEEP) same (within (depth e.tree) MOST_DEEP is), same)
  where
    within : (a b : ℕ) → nat_le a b ≡ true → a ≤ b
    within a b h = grind (arith, nat_tests)
shallow_is e f false is h = cc

went_tree : (edit : Edit) (several : Bool) (parts : List Part) (tree : Tree) (value : List ℕ) (e : Edited) → edited_tree edit several parts tree value ≡ fine e → WentTree edit several parts tree value e
unfolding edited_tree
went_tree edit several parts tree value e h =
    let a = gave (formed edit parts) (λ path. given edit value >>= λ asked. act_at asked several (followed path tree) >>= λ act. shallow (done_to tree act)) e h in
    let b = gave (given edit value) (λ asked. act_at asked several (followed a.value tree) >>= λ act. shallow (done_to tree act)) e a.then_is in
    let c = gave (act_at b.value several (followed a.value tree)) (λ act. shallow (done_to tree act)) e b.then_is in
    let f = form_is (takes edit parts) parts a.value a.is in
    let s = shallow_is (done_to tree c.value) e (nat_le (depth (done_to tree c.value).tree) MOST_DEEP) refl c.then_is in
    record {
      asked = b.value;
      act = c.value;
      form = f.0;
      value_is = b.is;
      act_is = ap (λ (path : List Part). act_at b.value several (followed path tree)) f.1 ∙ c.is;
      room = s.0;
      result = s.1;
    }

-- the steps of an edit of a text that went well
pub record Went (edit : Edit) (several : Bool) (text path value : List ℕ) (e : EditedText) : Type 0 where
  pub parts : List Part
  pub document : Document
  pub tree : Edited
  pub path_is : read_parts path ≡ fine parts
  pub text_is : read_text text ≡ fine document
  pub steps : WentTree edit several parts document.tree value tree
  pub room : length e.text ≤ TEXT_LIMIT
  pub result : within_document document tree ≡ e

small_is : (e f : EditedText) (b : Bool) → nat_le (length e.text) TEXT_LIMIT ≡ b → cond b (fine e) (Err status.E2BIG) ≡ fine f → (length f.text ≤ TEXT_LIMIT) × (e ≡ f)
small_is e f true is h =
    let same : e ≡ f = cc in
    (subst (λ (x : EditedText). length x.text ≤ TEXT_LIMIT) same (within (length e.text) TEXT_LIMIT is), same)
  where
    within : (a b : ℕ) → nat_le a b ≡ true → a ≤ b
    within a b h = grind (arith, nat_tests)
small_is e f false is h = cc

pub went : (edit : Edit) (several : Bool) (text path value : List ℕ) (e : EditedText) → edited edit several text path value ≡ fine e → Went edit several text path value e
unfolding edited
went edit several text path value e h =
    let a = gave (read_parts path) (λ parts. read_text text >>= λ d. edited_tree edit several parts d.tree value >>= λ t. small (within_document d t)) e h in
    let b = gave (read_text text) (λ d. edited_tree edit several a.value d.tree value >>= λ t. small (within_document d t)) e a.then_is in
    let c = gave (edited_tree edit several a.value b.value.tree value) (λ t. small (within_document b.value t)) e b.then_is in
    let s = small_is (within_document b.value c.value) e (nat_le (length (within_document b.value c.value).text) TEXT_LIMIT) refl c.then_is in
    record {
      parts = a.value;
      document = b.value;
      tree = c.value;
      path_is = a.is;
      text_is = b.is;
      steps = went_tree edit several a.value b.value.tree value c.value c.is;
      room = s.0;
      result = s.1;
    }
