-- Where a value stands in a document, and what the text becomes with another value in its place.
use Rattle.std.proofs.Common.{◌≡◌, ℕ, zero, suc, ◌+◌, List, [], ◌∷◌, ◌++◌, length, Option, None, Some, inl, inr, refl, sym, ap, subst, ◌∙◌, arith, append_assoc, length-append}
use Rattle.std.specs.Prelude.{option_map, unwrap_or}
use Rattle.json_model.specs.declared.TheConstants.{MOST_DEEP}
use Rattle.json_model.specs.declared.kinds.Kind.TheVariants as kinds
use Rattle.json_model.specs.declared.kinds.Shape.{Shape}
use Rattle.json_model.specs.declared.kinds.Shape.TheVariants as shapes
use Rattle.json_model.specs.Grammar.{AreBlanks}
use Rattle.json_model.specs.Spelled.{Head, Tree, leaf, empty, group, Parts, last, more, opening, closing, text, head_text, parts_text, PartsFit, Document, document_text, IsText}
use Rattle.json_model.specs.Follow.{child}
use Rattle.json_model.specs.Moves.{at_part, at_trail}
use Rattle.json_model.specs.Splices.{Reaches, here, there}
use Rattle.json_walk.specs.Places.{Ends, IsAt}
use Rattle.subdoc_path.specs.Led.{StandsAt}
use Rattle.subdoc_edit.specs.Splicing.{step, value_in}

-- ---- a value and parts

-- a value of a document: `change` is the text of the document with the value changed so
pub record Spot (bytes : List ℕ) (change : (Tree → Tree) → List ℕ) (at : ℕ) (t : Tree) : Type 0 where
  pub stands : IsAt bytes at t
  pub changes : (f : Tree → Tree) → change f ≡ stands.front ++ (text (f t) ++ stands.back)

-- the parts of a value, in the same way
pub record SpotParts (bytes : List ℕ) (change : (Parts → Parts) → List ℕ) (at : ℕ) (shape : Shape) (ps : Parts) : Type 0 where
  pub front : List ℕ
  pub back : List ℕ
  pub spelled : bytes ≡ front ++ (parts_text ps ++ back)
  pub at_is : length front ≡ at
  pub fits : PartsFit shape ps
  pub ends : Ends back
  pub changes : (g : Parts → Parts) → change g ≡ front ++ (parts_text (g ps) ++ back)

ends_closing : (shape : Shape) (rest : List ℕ) → Ends (closing shape ∷ rest)
ends_closing shapes.Object rest = inr (inr (inl refl))
ends_closing shapes.Array rest = inr (inr (inr refl))

ends_blanks : (gap rest : List ℕ) → AreBlanks gap → Ends rest → Ends (gap ++ rest)
ends_blanks [] rest f e = e
ends_blanks (x ∷ gap) rest f e = inl f.0

ends_only : (gap : List ℕ) → AreBlanks gap → Ends gap
ends_only [] f = tt
ends_only (x ∷ gap) f = inl f.0

ends_comma : (gap l rest : List ℕ) → AreBlanks gap → Ends ((gap ++ 0x2c ∷ l) ++ rest)
ends_comma [] l rest f = inr (inl refl)
ends_comma (x ∷ gap) l rest f = inl f.0

-- the text of a document with its value changed
abbrev pub document_with : Document → (Tree → Tree) → List ℕ
document_with d f = document_text (record { before = d.before; tree = f d.tree; after = d.after })

spot_root : (bytes : List ℕ) (d : Document) → IsText MOST_DEEP d bytes → Spot bytes (document_with d) (length d.before) d.tree
spot_root bytes d is = record {
  stands = record { front = d.before; back = d.after; spelled = is.spelled; at_is = refl; fits = is.tree; ends = ends_only d.after is.after };
  changes = λ f. refl;
}

-- what stands round the parts of a value
round_parts : (a b l : List ℕ) (x y : ℕ) → a ++ ((x ∷ (l ++ y ∷ [])) ++ b) ≡ (a ++ x ∷ []) ++ (l ++ (y ∷ b))
round_parts a b l x y = ap (λ (m : List ℕ). a ++ (x ∷ m)) (append_assoc l (y ∷ []) b) ∙ sym (append_assoc a (x ∷ []) (l ++ (y ∷ b)))

spot_inside : (bytes : List ℕ) (change : (Tree → Tree) → List ℕ) (at : ℕ) (shape : Shape) (ps : Parts) → Spot bytes change at (group shape ps) → SpotParts bytes (λ g. change (λ x. group shape (g ps))) (at + 1) shape ps
spot_inside bytes change at shape ps s = record {
  front = s.stands.front ++ opening shape ∷ [];
  back = closing shape ∷ s.stands.back;
  spelled = s.stands.spelled ∙ round_parts s.stands.front s.stands.back (parts_text ps) (opening shape) (closing shape);
  at_is = omega (arith, length-append s.stands.front (opening shape ∷ []), s.stands.at_is);
  fits = s.stands.fits;
  ends = ends_closing shape s.stands.back;
  changes = λ g. s.changes (λ x. group shape (g ps)) ∙ round_parts s.stands.front s.stands.back (parts_text (g ps)) (opening shape) (closing shape);
}

round_last : (a b h l g : List ℕ) → a ++ ((h ++ (l ++ g)) ++ b) ≡ (a ++ h) ++ (l ++ (g ++ b))
round_last a b h l g = simp append_assoc

spot_last : (bytes : List ℕ) (change : (Parts → Parts) → List ℕ) (at : ℕ) (shape : Shape) (h : Head) (t : Tree) (g : List ℕ) → SpotParts bytes change at shape (last h t g) → Spot bytes (λ f. change (λ x. last h (f t) g)) (at + length (head_text h)) t
spot_last bytes change at shape h t g s = record {
  stands = record {
    front = s.front ++ head_text h;
    back = g ++ s.back;
    spelled = s.spelled ∙ round_last s.front s.back (head_text h) (text t) g;
    at_is = omega (arith, length-append s.front (head_text h), s.at_is);
    fits = s.fits.1;
    ends = ends_blanks g s.back s.fits.2 s.ends;
  };
  changes = λ f. s.changes (λ x. last h (f t) g) ∙ round_last s.front s.back (head_text h) (text (f t)) g;
}

round_more : (a b h l g : List ℕ) (r : List ℕ) → a ++ ((h ++ (l ++ (g ++ 0x2c ∷ r))) ++ b) ≡ (a ++ h) ++ (l ++ ((g ++ 0x2c ∷ r) ++ b))
round_more a b h l g r = simp append_assoc

spot_first : (bytes : List ℕ) (change : (Parts → Parts) → List ℕ) (at : ℕ) (shape : Shape) (h : Head) (t : Tree) (g : List ℕ) (ps : Parts) → SpotParts bytes change at shape (more h t g ps)
    → Spot bytes (λ f. change (λ x. more h (f t) g ps)) (at + length (head_text h)) t
spot_first bytes change at shape h t g ps s = record {
  stands = record {
    front = s.front ++ head_text h;
    back = (g ++ 0x2c ∷ parts_text ps) ++ s.back;
    spelled = s.spelled ∙ round_more s.front s.back (head_text h) (text t) g (parts_text ps);
    at_is = omega (arith, length-append s.front (head_text h), s.at_is);
    fits = s.fits.1;
    ends = ends_comma g (parts_text ps) s.back s.fits.2;
  };
  changes = λ f. s.changes (λ x. more h (f t) g ps) ∙ round_more s.front s.back (head_text h) (text (f t)) g (parts_text ps);
}

round_rest : (a b h l g r : List ℕ) → a ++ ((h ++ (l ++ (g ++ 0x2c ∷ r))) ++ b) ≡ (a ++ (h ++ (l ++ (g ++ 0x2c ∷ [])))) ++ (r ++ b)
round_rest a b h l g r = simp append_assoc

spot_rest : (bytes : List ℕ) (change : (Parts → Parts) → List ℕ) (at : ℕ) (shape : Shape) (h : Head) (t : Tree) (g : List ℕ) (ps : Parts) → SpotParts bytes change at shape (more h t g ps) → SpotParts bytes (λ f. change (λ x. more h t g (f ps))) (at + step h t g) shape ps
spot_rest bytes change at shape h t g ps s =
    let before : List ℕ = head_text h ++ (text t ++ (g ++ 0x2c ∷ [])) in
    record {
      front = s.front ++ before;
      back = s.back;
      spelled = s.spelled ∙ round_rest s.front s.back (head_text h) (text t) g (parts_text ps);
      at_is = omega (arith, length-append s.front before, length-append (head_text h) (text t ++ (g ++ 0x2c ∷ [])), length-append (text t) (g ++ 0x2c ∷ []), length-append g (0x2c ∷ []), s.at_is);
      fits = s.fits.3;
      ends = s.ends;
      changes = λ f. s.changes (λ x. more h t g (f ps)) ∙ round_rest s.front s.back (head_text h) (text t) g (parts_text (f ps));
    }

-- ---- a part's value

-- the same spot, where its changes are those of another function and its place has another name
spot_as : (bytes : List ℕ) (change change2 : (Tree → Tree) → List ℕ) (at at2 : ℕ) (t u : Tree) → Spot bytes change at t → ((f : Tree → Tree) → change2 f ≡ change f) → at2 ≡ at → t ≡ u → Spot bytes change2 at2 u
spot_as bytes change change2 at at2 t u s same i e =
    subst (λ (n : ℕ). Spot bytes change2 n u) (sym i)
    (subst (λ (x : Tree). Spot bytes change2 at x) e
    (record { stands = s.stands; changes = λ f. same f ∙ s.changes f }))

some_tree : (t u : Tree) → Some t ≡ Some u → t ≡ u
some_tree t u e = cc

none_tree : (t : Tree) → None ≡ Some t → ⊥
none_tree t e = cc

spot_child : (bytes : List ℕ) (change : (Parts → Parts) → List ℕ) (at : ℕ) (shape : Shape) (ps : Parts) (k : ℕ) (t : Tree) → SpotParts bytes change at shape ps → child ps k ≡ Some t
    → Spot bytes (λ f. change (λ x. at_part k f ps)) (at + value_in k ps) t
spot_child bytes change at shape (last h u g) zero t s c =
    spot_as bytes (λ f. change (λ x. last h (f u) g)) (λ f. change (λ x. last h (f u) g)) (at + length (head_text h)) (at + length (head_text h)) u t (spot_last bytes change at shape h u g s) (λ f. refl) refl (some_tree u t c)
spot_child bytes change at shape (last h u g) (suc k) t s c = absurd (none_tree t c)
spot_child bytes change at shape (more h u g ps) zero t s c =
    spot_as bytes (λ f. change (λ x. more h (f u) g ps)) (λ f. change (λ x. more h (f u) g ps)) (at + length (head_text h)) (at + length (head_text h)) u t (spot_first bytes change at shape h u g ps s) (λ f. refl) refl (some_tree u t c)
spot_child bytes change at shape (more h u g ps) (suc k) t s c =
    let rest = spot_rest bytes change at shape h u g ps s in
    let inner = spot_child bytes (λ f. change (λ x. more h u g (f ps))) (at + step h u g) shape ps k t rest c in
    spot_as bytes (λ f. change (λ x. more h u g (at_part k f ps))) (λ f. change (λ x. more h u g (at_part k f ps))) (at + step h u g + value_in k ps) (at + (step h u g + value_in k ps)) t t inner (λ f. refl) (omega arith) refl

-- ---- at the end of a trail

-- how many bytes of a value stand before the one at the end of a trail
abbrev pub text_place : List ℕ → Tree → ℕ
text_place [] tree = 0
text_place (k ∷ ks) (leaf kind s) = 0
text_place (k ∷ ks) (empty shape gap) = 0
text_place (k ∷ ks) (group shape parts) = suc (value_in k parts + unwrap_or (option_map (text_place ks) (child parts k)) 0)

spot_trail : (bytes : List ℕ) (change : (Tree → Tree) → List ℕ) (at : ℕ) (trail : List ℕ) (root t : Tree) → Reaches trail root t → Spot bytes change at root → Spot bytes (λ f. change (λ x. at_trail trail f root)) (at + text_place trail root) t
spot_trail bytes change at trail root t (here u) s =
    spot_as bytes change (λ f. change (λ x. f u)) at (at + 0) u u s (λ f. s.changes (λ x. f u) ∙ sym (s.changes f)) (omega arith) refl
spot_trail bytes change at trail root t (there k ks shape ps u v e r) s =
    let parts = spot_inside bytes change at shape ps s in
    let one = spot_child bytes (λ g. change (λ x. group shape (g ps))) (at + 1) shape ps k u parts e in
    let inner = spot_trail bytes (λ f. change (λ x. group shape (at_part k f ps))) (at + 1 + value_in k ps) ks u v r one in
    let below : unwrap_or (option_map (text_place ks) (child ps k)) 0 ≡ text_place ks u = ap (λ (x : Option Tree). unwrap_or (option_map (text_place ks) x) 0) e in
    spot_as bytes (λ f. change (λ x. group shape (at_part k (λ y. at_trail ks f u) ps))) (λ f. change (λ x. group shape (at_part k (at_trail ks f) ps)))
    (at + 1 + value_in k ps + text_place ks u) (at + suc (value_in k ps + unwrap_or (option_map (text_place ks) (child ps k)) 0)) v v inner
    (λ f. one.changes (at_trail ks f) ∙ sym (one.changes (λ y. at_trail ks f u))) (omega (arith, below)) refl

-- a value to which a trail leads in a document
pub stands_of : (bytes : List ℕ) (d : Document) (trail : List ℕ) (t : Tree) → IsText MOST_DEEP d bytes → Reaches trail d.tree t → StandsAt bytes d trail t (length d.before + text_place trail d.tree)
stands_of bytes d trail t is r =
    let s = spot_trail bytes (document_with d) (length d.before) trail d.tree t r (spot_root bytes d is) in
    record { is = is; reaches = r; place = s.stands; spliced = λ f. s.changes f }

-- ---- a trail leads to one place

heads_same : (x y : ℕ) (xs ys : List ℕ) → x ∷ xs ≡ y ∷ ys → x ≡ y
heads_same x y xs ys e = cc

tails_same : (x y : ℕ) (xs ys : List ℕ) → x ∷ xs ≡ y ∷ ys → xs ≡ ys
tails_same x y xs ys e = cc

-- lists that differ from two others where one number stands, and in that number alone, differ there
same_long : (a f b g : List ℕ) → a ++ 1 ∷ b ≡ f ++ 1 ∷ g → a ++ 2 ∷ b ≡ f ++ 2 ∷ g → length a ≡ length f
same_long [] [] b g one two = refl
same_long [] (y ∷ f) b g one two = absurd (omega (arith, heads_same 1 y b (f ++ 1 ∷ g) one, heads_same 2 y b (f ++ 2 ∷ g) two))
same_long (x ∷ a) [] b g one two = absurd (omega (arith, heads_same x 1 (a ++ 1 ∷ b) g one, heads_same x 2 (a ++ 2 ∷ b) g two))
same_long (x ∷ a) (y ∷ f) b g one two = ap suc (same_long a f b g (tails_same x y (a ++ 1 ∷ b) (f ++ 1 ∷ g) one) (tails_same x y (a ++ 2 ∷ b) (f ++ 2 ∷ g) two))

one_place : (bytes : List ℕ) (d : Document) (trail : List ℕ) (t : Tree) (a b : ℕ) → StandsAt bytes d trail t a → StandsAt bytes d trail t b → a ≡ b
one_place bytes d trail t a b s u =
    let put : ℕ → Tree → Tree = λ n x. leaf kinds.Null (n ∷ []) in
    sym s.place.at_is ∙ same_long s.place.front u.place.front s.place.back u.place.back (sym (s.spliced (put 1)) ∙ u.spliced (put 1)) (sym (s.spliced (put 2)) ∙ u.spliced (put 2)) ∙ u.place.at_is

-- the place of a value by its trail
pub place_is : (bytes : List ℕ) (d : Document) (trail : List ℕ) (t : Tree) (at : ℕ) → StandsAt bytes d trail t at → at ≡ length d.before + text_place trail d.tree
place_is bytes d trail t at s = one_place bytes d trail t at (length d.before + text_place trail d.tree) s (stands_of bytes d trail t s.is s.reaches)
