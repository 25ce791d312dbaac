-- A value opens and closes as many brackets outside strings, and so it is stepped over.
use Rattle.std.proofs.Common.{◌≡◌, ℕ, ◌+◌, ◌-◌, ◌≤◌, List, [], ◌∷◌, ◌++◌, length, false, cond, eqb, ◌⊎◌, inl, inr, refl, sym, ap, subst, ◌∙◌, arith, append_assoc}
use Rattle.std.specs.Prelude.{codes}
use Rattle.std.proofs.lemmas.Bool.Decides.{nat_tests}
use Rattle.json_model.specs.declared.kinds.Kind.{Kind}
use Rattle.json_model.specs.declared.kinds.Kind.TheVariants as kinds
use Rattle.json_model.specs.declared.kinds.Shape.{Shape}
use Rattle.json_model.specs.declared.kinds.Shape.TheVariants as shapes
use Rattle.json_model.specs.Grammar.{IsBlank, AreBlanks, IsLeaf}
use Rattle.json_model.specs.Spelled.{Head, plain, keyed, Tree, leaf, empty, group, Parts, last, more, opening, closing, head_text, text, parts_text, HeadFits, Fits, PartsFit}
use Rattle.json_spell.proofs.Again.{leaf_first}
use Rattle.json_walk.specs.Stepping.{opens, closes, behind_word, behind_string, closed_at, behind_value}
use Rattle.json_walk.specs.Places.{Ends}
use Rattle.json_walk.proofs.Strings.{Quoted, string_quoted, string_whole}
use Rattle.json_walk.proofs.Words.{AreInner, number_inner, word_passed}

-- these bytes open and close nothing that stays
abbrev pub Passes : List ℕ → Type 0
Passes s = (depth : ℕ) (rest : List ℕ) → closed_at depth (s ++ rest) ≡ closed_at depth rest

-- ---- single bytes

pub mark_closed : (depth : ℕ) (xs : List ℕ) → closed_at depth (0x22 ∷ xs) ≡ closed_at depth (behind_string xs)
unfolding closed_at
mark_closed depth xs = string_whole depth xs

-- a byte that closed_at passes over
record Quiet (x : ℕ) : Type 0 where
  mark : eqb x 0x22 ≡ false
  opening : opens x ≡ false
  closing : closes x ≡ false

quiet_step : (depth x : ℕ) (xs : List ℕ) → Quiet x → closed_at depth (x ∷ xs) ≡ closed_at depth xs
unfolding closed_at
quiet_step depth x xs q = rw (q.mark, q.opening, q.closing) refl

opening_step : (depth : ℕ) (shape : Shape) (xs : List ℕ) → closed_at depth (opening shape ∷ xs) ≡ closed_at (depth + 1) xs
unfolding closed_at
opening_step depth shapes.Object xs = refl
opening_step depth shapes.Array xs = refl

-- at a closing bracket
shut_more : (depth : ℕ) (xs : List ℕ) → cond (eqb (depth + 1) 0) xs (closed_at (depth + 1 - 1) xs) ≡ closed_at depth xs
shut_more depth xs =
    let some : eqb (depth + 1) 0 ≡ false = grind (arith, nat_tests) in
    let less : depth + 1 - 1 ≡ depth = omega arith in
    ap (λ b. cond b xs (closed_at (depth + 1 - 1) xs)) some ∙ ap (λ d. closed_at d xs) less

closing_step : (depth : ℕ) (shape : Shape) (xs : List ℕ) → closed_at (depth + 1) (closing shape ∷ xs) ≡ closed_at depth xs
unfolding closed_at
closing_step depth shapes.Object xs = shut_more depth xs
closing_step depth shapes.Array xs = shut_more depth xs

closing_last : (shape : Shape) (xs : List ℕ) → closed_at 0 (closing shape ∷ xs) ≡ xs
unfolding closed_at
closing_last shapes.Object xs = refl
closing_last shapes.Array xs = refl

-- ---- runs of bytes

passes_join : (a b : List ℕ) → Passes a → Passes b → Passes (a ++ b)
passes_join a b p q depth rest = ap (closed_at depth) (append_assoc a b rest) ∙ p depth (b ++ rest) ∙ q depth rest

passes_more : (x : ℕ) (xs : List ℕ) → Quiet x → Passes xs → Passes (x ∷ xs)
passes_more x xs q p depth rest = quiet_step depth x (xs ++ rest) q ∙ p depth rest

passes_inner : (s : List ℕ) → AreInner s → Passes s
passes_inner [] f depth rest = refl
passes_inner (x ∷ s) f depth rest = quiet_step depth x (s ++ rest) (record { mark = f.0.mark; opening = f.0.opening; closing = f.0.closing }) ∙ passes_inner s f.1 depth rest

blank_quiet : (x : ℕ) → IsBlank x → Quiet x
blank_quiet x h = record { mark = grind (arith, nat_tests); opening = grind (arith, nat_tests); closing = grind (arith, nat_tests) }

passes_blanks : (s : List ℕ) → AreBlanks s → Passes s
passes_blanks [] f depth rest = refl
passes_blanks (x ∷ s) f depth rest = quiet_step depth x (s ++ rest) (blank_quiet x f.0) ∙ passes_blanks s f.1 depth rest

passes_quoted : (s : List ℕ) → Quoted s → Passes s
passes_quoted s q depth rest =
    ap (λ l. closed_at depth (l ++ rest)) q.whole ∙ mark_closed depth (q.inner ++ rest) ∙ ap (closed_at depth) (q.passed rest)

passes_group : (shape : Shape) (s : List ℕ) → Passes s → Passes (opening shape ∷ (s ++ closing shape ∷ []))
passes_group shape s p depth rest =
    opening_step depth shape ((s ++ closing shape ∷ []) ++ rest)
    ∙ ap (closed_at (depth + 1)) (append_assoc s (closing shape ∷ []) rest)
    ∙ p (depth + 1) (closing shape ∷ rest) ∙ closing_step depth shape rest

-- ---- trees

true_inner : AreInner (codes "true")
true_inner = (record { goes_on = refl; mark = refl; opening = refl; closing = refl }, (record { goes_on = refl; mark = refl; opening = refl; closing = refl }, (record { goes_on = refl; mark = refl; opening = refl; closing = refl }, (record { goes_on = refl; mark = refl; opening = refl; closing = refl }, tt))))

false_inner : AreInner (codes "false")
false_inner = (record { goes_on = refl; mark = refl; opening = refl; closing = refl }, (record { goes_on = refl; mark = refl; opening = refl; closing = refl }, (record { goes_on = refl; mark = refl; opening = refl; closing = refl }, (record { goes_on = refl; mark = refl; opening = refl; closing = refl }, (record { goes_on = refl; mark = refl; opening = refl; closing = refl }, tt)))))

null_inner : AreInner (codes "null")
null_inner = (record { goes_on = refl; mark = refl; opening = refl; closing = refl }, (record { goes_on = refl; mark = refl; opening = refl; closing = refl }, (record { goes_on = refl; mark = refl; opening = refl; closing = refl }, (record { goes_on = refl; mark = refl; opening = refl; closing = refl }, tt))))

-- a leaf is a string, or of bytes within a number or a word
pub leaf_cases : (kind : Kind) (s : List ℕ) → IsLeaf kind s → Quoted s ⊎ AreInner s
leaf_cases kinds.Object s f = absurd f
leaf_cases kinds.Array s f = absurd f
leaf_cases kinds.Text s f = inl (string_quoted s f)
leaf_cases kinds.Number s f = inr (number_inner s f)
leaf_cases kinds.True s f = inr (subst AreInner (sym f) true_inner)
leaf_cases kinds.False s f = inr (subst AreInner (sym f) false_inner)
leaf_cases kinds.Null s f = inr (subst AreInner (sym f) null_inner)

passes_leaf : (s : List ℕ) → Quoted s ⊎ AreInner s → Passes s
passes_leaf s (inl q) = passes_quoted s q
passes_leaf s (inr f) = passes_inner s f

comma_quiet : Quiet 0x2c
comma_quiet = record { mark = refl; opening = refl; closing = refl }

colon_quiet : Quiet 0x3a
colon_quiet = record { mark = refl; opening = refl; closing = refl }

passes_head : (shape : Shape) (h : Head) → HeadFits shape h → Passes (head_text h)
passes_head shapes.Object (plain gap) f = absurd f
passes_head shapes.Array (keyed gap key behind before) f = absurd f
passes_head shapes.Array (plain gap) f = passes_blanks gap f
passes_head shapes.Object (keyed gap key behind before) f =
    passes_join gap (key ++ (behind ++ 0x3a ∷ before)) (passes_blanks gap f.0)
    (passes_join key (behind ++ 0x3a ∷ before) (passes_quoted key (string_quoted key f.1))
    (passes_join behind (0x3a ∷ before) (passes_blanks behind f.2) (passes_more 0x3a before colon_quiet (passes_blanks before f.3))))

mutual
  pub tree_passes : (t : Tree) → Fits t → Passes (text t)
  tree_passes (leaf kind s) f = passes_leaf s (leaf_cases kind s f)
  tree_passes (empty shape gap) f = passes_group shape gap (passes_blanks gap f)
  tree_passes (group shape ps) f = passes_group shape (parts_text ps) (parts_pass ps shape f)

  pub parts_pass : (ps : Parts) (shape : Shape) → PartsFit shape ps → Passes (parts_text ps)
  parts_pass (last h t g) shape f =
      passes_join (head_text h) (text t ++ g) (passes_head shape h f.0) (passes_join (text t) g (tree_passes t f.1) (passes_blanks g f.2))
  parts_pass (more h t g ps) shape f =
      passes_join (head_text h) (text t ++ (g ++ 0x2c ∷ parts_text ps)) (passes_head shape h f.0)
      (passes_join (text t) (g ++ 0x2c ∷ parts_text ps) (tree_passes t f.1)
      (passes_join g (0x2c ∷ parts_text ps) (passes_blanks g f.2) (passes_more 0x2c (parts_text ps) comma_quiet (parts_pass ps shape f.3))))

-- ---- the bytes behind a value

pub quoted_behind : (s rest : List ℕ) → Quoted s → behind_value (s ++ rest) ≡ rest
quoted_behind s rest q = ap (λ l. behind_value (l ++ rest)) q.whole ∙ q.passed rest

inner_behind : (s rest : List ℕ) → AreInner s → 1 ≤ length s → Ends rest → behind_value (s ++ rest) ≡ rest
inner_behind [] rest f some e = absurd (omega arith)
inner_behind (x ∷ s) rest f some e =
    ap (λ b. cond b (behind_string (s ++ rest)) (cond (opens x) (closed_at 0 (s ++ rest)) (behind_word (x ∷ (s ++ rest))))) f.0.mark
    ∙ ap (λ b. cond b (closed_at 0 (s ++ rest)) (behind_word (x ∷ (s ++ rest)))) f.0.opening
    ∙ word_passed (x ∷ s) rest f e

group_front : (shape : Shape) (xs : List ℕ) → behind_value (opening shape ∷ xs) ≡ closed_at 0 xs
group_front shapes.Object xs = refl
group_front shapes.Array xs = refl

group_behind : (shape : Shape) (s rest : List ℕ) → Passes s → behind_value ((opening shape ∷ (s ++ closing shape ∷ [])) ++ rest) ≡ rest
group_behind shape s rest p =
    group_front shape ((s ++ closing shape ∷ []) ++ rest)
    ∙ ap (closed_at 0) (append_assoc s (closing shape ∷ []) rest) ∙ p 0 (closing shape ∷ rest) ∙ closing_last shape rest

leaf_behind : (s rest : List ℕ) → Quoted s ⊎ AreInner s → 1 ≤ length s → Ends rest → behind_value (s ++ rest) ≡ rest
leaf_behind s rest (inl q) some e = quoted_behind s rest q
leaf_behind s rest (inr f) some e = inner_behind s rest f some e

leaf_some : (kind : Kind) (s : List ℕ) → IsLeaf kind s → 1 ≤ length s
leaf_some kind s f = let first = leaf_first kind s f in omega (arith, ap (λ (l : List ℕ). length l) first.whole)

-- the bytes behind a value are those behind its text
pub value_behind : (t : Tree) (rest : List ℕ) → Fits t → Ends rest → behind_value (text t ++ rest) ≡ rest
value_behind (leaf kind s) rest f e = leaf_behind s rest (leaf_cases kind s f) (leaf_some kind s f) e
value_behind (empty shape gap) rest f e = group_behind shape gap rest (passes_blanks gap f)
value_behind (group shape ps) rest f e = group_behind shape (parts_text ps) rest (parts_pass ps shape f)
