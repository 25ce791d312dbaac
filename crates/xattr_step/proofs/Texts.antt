-- The text that an edited object has at a name, and the text that the attribute of that name gets.
use Rattle.std.proofs.Common.{◌≡◌, ℕ, ◌<◌, ◌≤◌, max, List, [], ◌∷◌, ◌++◌, reverse, Bool, true, false, cond, Option, Some, None, Result, refl, sym, ap, subst, ◌∙◌, arith, append-nil}
use Rattle.std.proofs.lemmas.List.{reverse-append}
use Rattle.doc_model.specs.declared.status.Status.{Status}
use Rattle.json_model.specs.declared.TheConstants.{MOST_DEEP}
use Rattle.json_model.specs.declared.kinds.Shape.{Shape}
use Rattle.json_model.specs.declared.kinds.Shape.TheVariants as shapes
use Rattle.json_model.specs.declared.asked.Part.{Part}
use Rattle.json_model.specs.declared.asked.Part.TheVariants.{Member}
use Rattle.json_model.specs.declared.asked.Lookup.{Lookup}
use Rattle.json_model.specs.declared.asked.Lookup.TheVariants as lookups
use Rattle.json_model.specs.Grammar.{IsBlank, AreBlanks}
use Rattle.json_model.specs.Spelled.{Tree, leaf, empty, group, Parts, last, more, text, Document, Fits, PartsFit, depth, parts_depth, IsText}
use Rattle.json_model.specs.Edit.{look_at}
use Rattle.json_spell.proofs.Fronts.{gap_blank}
use Rattle.json_spell.specs.Tokens.{gap}
use Rattle.subdoc_step.specs.Paths.{is_called, followed}
use Rattle.subdoc_step.specs.Answers.{◌>>=◌}
use Rattle.subdoc_step.proofs.Went.{fine}
use Rattle.subdoc_step.proofs.Put.{text_is}
use Rattle.subdoc_step.proofs.Members.{member_of, behind_member, looked_in, look_member}
use Rattle.xattr_body.specs.declared.TheConstants.{VALUE_DEEP}
use Rattle.xattr_step.specs.Answers.{text_at, blanks_before, blanks_behind, within_blanks}
use Rattle.xattr_step.proofs.Objects.{bare}

-- ---- what an object has at a name

-- a tree has this value at a name: what is looked up there is looked up in the value
pub record Has (name : List ℕ) (t u : Tree) : Type 0 where
  pub seen : (lookup : Lookup) (qs : List Part) → looked_in lookup name qs t ≡ look_at lookup (followed qs u)
  pub fit : Fits t → Fits u
  pub below : depth u < depth t

member_fits : (name : List ℕ) (shape : Shape) (ps : Parts) (u : Tree) → member_of name ps ≡ Some u → PartsFit shape ps → Fits u
member_fits name shape (last h t g) u e f = by_test (is_called name h) e
  where
    by_test : (b : Bool) → cond b (Some t) None ≡ Some u → Fits u
    by_test true e = let same : t ≡ u = cc in subst Fits same f.1
    by_test false e = cc
member_fits name shape (more h t g ps) u e f = by_test (is_called name h) e (λ e. member_fits name shape ps u e f.3)
  where
    by_test : (b : Bool) → cond b (Some t) (member_of name ps) ≡ Some u → (member_of name ps ≡ Some u → Fits u) → Fits u
    by_test true e law = let same : t ≡ u = cc in subst Fits same f.1
    by_test false e law = law e

member_depth : (name : List ℕ) (ps : Parts) (u : Tree) → member_of name ps ≡ Some u → depth u ≤ parts_depth ps
member_depth name (last h t g) u e = by_test (is_called name h) e
  where
    by_test : (b : Bool) → cond b (Some t) None ≡ Some u → depth u ≤ depth t
    by_test true e = let same : t ≡ u = cc in omega (arith, ap depth same)
    by_test false e = cc
member_depth name (more h t g ps) u e = by_test (is_called name h) e (λ e. member_depth name ps u e)
  where
    by_test : (b : Bool) → cond b (Some t) (member_of name ps) ≡ Some u → (member_of name ps ≡ Some u → depth u ≤ parts_depth ps) → depth u ≤ max (depth t) (parts_depth ps)
    by_test true e law = let same : t ≡ u = cc in omega (arith, ap depth same)
    by_test false e law = omega (arith, law e)

has_member : (lookup : Lookup) (name : List ℕ) (qs : List Part) (ps : Parts) (found : List ℕ) (o : Option Tree) → member_of name ps ≡ o → behind_member lookup qs o ≡ fine found → (u : Tree) × Has name (group shapes.Object ps) u
has_member lookup name qs ps found None is e = cc
has_member lookup name qs ps found (Some u) is e = (
  u,
  record {
    seen = λ l rs. ap (behind_member l rs) is;
    fit = λ f. member_fits name shapes.Object ps u is f;
    below = omega (arith, member_depth name ps u is);
  },
)

-- where something is found, there is a value
pub has : (lookup : Lookup) (name : List ℕ) (qs : List Part) (t : Tree) (found : List ℕ) → looked_in lookup name qs t ≡ fine found → (u : Tree) × Has name t u
has lookup name qs (leaf kind s) found e = cc
has lookup name qs (empty shapes.Object g) found e = cc
has lookup name qs (empty shapes.Array g) found e = cc
has lookup name qs (group shapes.Object ps) found e = has_member lookup name qs ps found (member_of name ps) refl e
has lookup name qs (group shapes.Array ps) found e = cc

-- ---- its text

text_seen : (name bytes : List ℕ) (d : Document) → IsText MOST_DEEP d bytes → text_at name bytes ≡ looked_in lookups.Get name [] d.tree
unfolding text_at
text_seen name bytes d t = ap (λ (r : Result Document Status). r >>= λ d. look_at lookups.Get (followed (Member name ∷ []) d.tree)) (text_is bytes d t) ∙ look_member lookups.Get name [] d.tree

its_text : (name : List ℕ) (t u : Tree) → Has name t u → looked_in lookups.Get name [] t ≡ fine (text u)
unfolding followed
its_text name t u h = h.seen lookups.Get []

-- the text at a name is that of the value there
pub text_of : (name bytes : List ℕ) (d : Document) (u : Tree) → IsText MOST_DEEP d bytes → Has name d.tree u → text_at name bytes ≡ fine (text u)
text_of name bytes d u t h = text_seen name bytes d t ∙ its_text name d.tree u h

-- a text at a name is that of a value
pub text_has : (name bytes : List ℕ) (d : Document) (found : List ℕ) → IsText MOST_DEEP d bytes → text_at name bytes ≡ fine found → (u : Tree) × Has name d.tree u × (text u ≡ found)
text_has name bytes d found t e =
    let h = has lookups.Get name [] d.tree found (sym (text_seen name bytes d t) ∙ e) in
    (h.0, h.1, one (text h.0) (sym (text_of name bytes d h.0 t h.1) ∙ e))
  where
    one : (a : List ℕ) → fine a ≡ fine found → a ≡ found
    one a e = cc

-- ---- the blanks round it

all_push : (xs : List ℕ) (y : ℕ) → AreBlanks xs → IsBlank y → AreBlanks (xs ++ y ∷ [])
all_push [] y f is = (is, tt)
all_push (x ∷ xs) y f is = (f.0, all_push xs y f.1 is)

blanks_turned : (xs : List ℕ) → AreBlanks xs → AreBlanks (reverse xs)
blanks_turned [] f = tt
blanks_turned (x ∷ xs) f = subst AreBlanks (sym (reverse-append (x ∷ []) xs)) (all_push (reverse xs) x (blanks_turned xs f.1) f.0)

-- a value between the blanks of an old text, where there is one
pub surrounded : Option (List ℕ) → Tree → Document
surrounded None u = bare u
surrounded (Some old) u = record { before = blanks_before old; tree = u; after = blanks_behind old }

pub surrounded_tree : (old : Option (List ℕ)) (u : Tree) → (surrounded old u).tree ≡ u
unfolding surrounded
surrounded_tree None u = refl
surrounded_tree (Some old) u = refl

-- its text is what the attribute gets
pub surrounded_text : (old : Option (List ℕ)) (u : Tree) → Fits u → depth u ≤ VALUE_DEEP → IsText VALUE_DEEP (surrounded old u) (within_blanks old (text u))
unfolding surrounded
surrounded_text None u f deep = record { before = tt; tree = f; after = tt; depth = deep; spelled = sym (append-nil (text u)) }
surrounded_text (Some old) u f deep = record { before = gap_blank old; tree = f; after = blanks_turned (gap (reverse old)) (gap_blank (reverse old)); depth = deep; spelled = refl }
