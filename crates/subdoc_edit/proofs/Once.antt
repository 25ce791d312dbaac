-- A look-up has one answer.
use Rattle.std.proofs.Common.{arith, ◌≡◌, ℕ, zero, suc, ◌+◌, ◌<◌, ◌≤◌, List, [], ◌∷◌, ◌++◌, length, take, drop, Result, Ok, Err, ◌⊎◌, inl, inr, refl, sym, ap, subst, ◌∙◌, append_assoc}
use Rattle.std.proofs.lemmas.List.{take-append-drop}
use Rattle.std.proofs.lemmas.Bool.{cases_lt}
use Rattle.doc_model.specs.declared.status.Status.{Status}
use Rattle.json_model.specs.declared.TheConstants.{MOST_DEEP}
use Rattle.json_model.specs.declared.asked.Part.{Part}
use Rattle.json_model.specs.declared.asked.Lookup.{Lookup}
use Rattle.json_model.specs.Edit.{look_at}
use Rattle.json_model.specs.Fronts.{Begins, IsNot, IsDeep}
use Rattle.json_model.specs.Order.{First, ReadsText, LooksTree, Looks}
use Rattle.json_model.specs.Paths.{ReadsPath, IsPath}
use Rattle.json_model.specs.Spelled.{Document, IsText}
use Rattle.json_model.proofs.Following.{follows_one}
use Rattle.json_spell.specs.declared.scanned.Scanned.TheVariants as scans
use Rattle.json_spell.proofs.Documents.{finds}
use Rattle.json_spell.proofs.Exact.{one_text}
use Rattle.subdoc_path.proofs.Spelling.{one_spelled}

-- ---- the path

path_same : (bytes : List ℕ) (p q : List Part) → IsPath p bytes → IsPath q bytes → p ≡ q
path_same bytes p q a b = one_spelled p q bytes a.spelled b.spelled

pub path_once : (bytes : List ℕ) (x y : Result (List Part) Status) → ReadsPath bytes x → ReadsPath bytes y → x ≡ y
path_once bytes x y (inl a) (inl b) = a.1 ∙ sym b.1
path_once bytes x y (inl a) (inr (inl b)) = absurd (omega (arith, a.0, b.0))
path_once bytes x y (inl a) (inr (inr (inl b))) = absurd (omega (arith, a.0, b.0))
path_once bytes x y (inl a) (inr (inr (inr b))) = absurd (omega (arith, a.0, b.0))
path_once bytes x y (inr (inl a)) (inl b) = absurd (omega (arith, a.0, b.0))
path_once bytes x y (inr (inl a)) (inr (inl b)) = a.2 ∙ sym b.2
path_once bytes x y (inr (inl a)) (inr (inr (inl b))) = absurd (a.1 b.1 b.2)
path_once bytes x y (inr (inl a)) (inr (inr (inr b))) = absurd (a.1 b.1 b.2)
path_once bytes x y (inr (inr (inl a))) (inl b) = absurd (omega (arith, a.0, b.0))
path_once bytes x y (inr (inr (inl a))) (inr (inl b)) = absurd (b.1 a.1 a.2)
path_once bytes x y (inr (inr (inl a))) (inr (inr (inl b))) = a.4 ∙ sym b.4
path_once bytes x y (inr (inr (inl a))) (inr (inr (inr b))) = absurd (omega (arith, a.3, b.3, ap (λ (l : List Part). length l) (path_same bytes a.1 b.1 a.2 b.2)))
path_once bytes x y (inr (inr (inr a))) (inl b) = absurd (omega (arith, a.0, b.0))
path_once bytes x y (inr (inr (inr a))) (inr (inl b)) = absurd (b.1 a.1 a.2)
path_once bytes x y (inr (inr (inr a))) (inr (inr (inl b))) = absurd (omega (arith, a.3, b.3, ap (λ (l : List Part). length l) (path_same bytes a.1 b.1 a.2 b.2)))
path_once bytes x y (inr (inr (inr a))) (inr (inr (inr b))) = a.4 ∙ ap (λ (p : List Part). Ok p) (path_same bytes a.1 b.1 a.2 b.2) ∙ sym b.4

-- ---- the document

take_less : (m n : ℕ) (l : List ℕ) → m ≤ n → take m (take n l) ≡ take m l
take_less zero n l h = refl
take_less (suc m) zero l h = absurd (omega (arith, h))
take_less (suc m) (suc n) [] h = refl
take_less (suc m) (suc n) (x ∷ l) h = ap (λ (k : List ℕ). x ∷ k) (take_less m n l (omega (arith, h)))

-- a shorter front is the front of the same text
shorter : (most m n : ℕ) (bytes : List ℕ) → m ≤ n → Begins most (take n bytes) → Begins most (take m bytes)
shorter most m n bytes h (d, behind, is) =
    let whole : take n bytes ≡ take m bytes ++ drop m (take n bytes) = sym (take-append-drop m (take n bytes)) ∙ ap (λ (l : List ℕ). l ++ drop m (take n bytes)) (take_less m n bytes h) in
    (d, drop m (take n bytes) ++ behind, subst (λ (l : List ℕ). IsText most d l) (ap (λ (l : List ℕ). l ++ behind) whole ∙ append_assoc (take m bytes) (drop m (take n bytes)) behind) is)

not_both : (bytes : List ℕ) (n m : ℕ) → IsNot bytes n → IsDeep bytes m → (m < n) ⊎ (n ≤ m) → ⊥
not_both bytes n m a b (inl less) = b.wrong (shorter MOST_DEEP (m + 1) n bytes (omega (arith, less)) a.front)
not_both bytes n m a b (inr more) = a.wrong (omega (arith, more, b.within)) (MOST_DEEP + 1) (shorter (MOST_DEEP + 1) (n + 1) (m + 1) bytes (omega (arith, more)) b.deeper)

apart : (bytes : List ℕ) (n m : ℕ) → IsNot bytes n → IsDeep bytes m → ⊥
apart bytes n m a b = not_both bytes n m a b (cases_lt m n)

no_deep : (bytes : List ℕ) (m : ℕ) (d : Document) → IsDeep bytes m → IsText MOST_DEEP d bytes → ⊥
no_deep bytes m d b is = finds bytes (scans.Deep m) b d is

pub text_once : (text : List ℕ) (x y : Result Document Status) → ReadsText text x → ReadsText text y → x ≡ y
text_once text x y (inl (d, is, e)) (inl (f, is2, g)) = e ∙ ap (λ (k : Document). Ok k) (one_text MOST_DEEP text d f is is2) ∙ sym g
text_once text x y (inl (d, is, e)) (inr (inl (m, b, g))) = absurd (b.cut d is)
text_once text x y (inl (d, is, e)) (inr (inr (m, b, g))) = absurd (no_deep text m d b is)
text_once text x y (inr (inl (n, a, e))) (inl (f, is2, g)) = absurd (a.cut f is2)
text_once text x y (inr (inl (n, a, e))) (inr (inl (m, b, g))) = e ∙ sym g
text_once text x y (inr (inl (n, a, e))) (inr (inr (m, b, g))) = absurd (apart text n m a b)
text_once text x y (inr (inr (n, a, e))) (inl (f, is2, g)) = absurd (no_deep text n f a is2)
text_once text x y (inr (inr (n, a, e))) (inr (inl (m, b, g))) = absurd (apart text m n b a)
text_once text x y (inr (inr (n, a, e))) (inr (inr (m, b, g))) = e ∙ sym g

-- ---- one step, and then the next

abbrev fine : {A : Type 0} → A → Result A Status
fine x = Ok x

abbrev bad : {A : Type 0} → Status → Result A Status
bad s = Err s

ok_same : (A : Type 0) (x y : A) → fine {A = A} x ≡ fine {A = A} y → x ≡ y
ok_same A x y e = cc

err_same : (A : Type 0) (s t : Status) → bad {A = A} s ≡ bad {A = A} t → s ≡ t
err_same A s t e = cc

apart_both : (A : Type 0) (s : Status) (x : A) → bad {A = A} s ≡ fine {A = A} x → ⊥
apart_both A s x e = cc

pub first_once : (A B : Type 0) (step : Result A Status → Type 0) (next : A → Result B Status → Type 0) (x y : Result B Status) → ((a b : Result A Status) → step a → step b → a ≡ b) → ((s : A) (a b : Result B Status) → next s a → next s b → a ≡ b)
    → First step x (λ s. next s x) → First step y (λ s. next s y) → x ≡ y
first_once A B step next x y once rest (inl (s, a, e)) (inl (t, b, f)) = e ∙ ap (λ (k : Status). bad {A = B} k) (err_same A s t (once (bad {A = A} s) (bad {A = A} t) a b)) ∙ sym f
first_once A B step next x y once rest (inl (s, a, e)) (inr (t, b, f)) = absurd (apart_both A s t (once (bad {A = A} s) (fine {A = A} t) a b))
first_once A B step next x y once rest (inr (s, a, e)) (inl (t, b, f)) = absurd (apart_both A t s (once (bad {A = A} t) (fine {A = A} s) b a))
first_once A B step next x y once rest (inr (s, a, e)) (inr (t, b, f)) = rest t x y (subst (λ (k : A). next k x) (ok_same A s t (once (fine {A = A} s) (fine {A = A} t) a b)) e) f

tree_once : (lookup : Lookup) (parts : List Part) (d : Document) (x y : Result (List ℕ) Status) → LooksTree lookup parts d.tree x → LooksTree lookup parts d.tree y → x ≡ y
tree_once lookup parts d x y (o, f, e) (p, g, h) = e ∙ ap (look_at lookup) (follows_one parts d.tree o p f g) ∙ sym h

pub looks_once : (lookup : Lookup) (text path : List ℕ) (x y : Result (List ℕ) Status) → Looks lookup text path x → Looks lookup text path y → x ≡ y
looks_once lookup text path x y a b =
    first_once (List Part) (List ℕ) (ReadsPath path) (λ parts answer. First (ReadsText text) answer (λ d. LooksTree lookup parts d.tree answer)) x y (path_once path)
    (λ parts v w p q. first_once Document (List ℕ) (ReadsText text) (λ d answer. LooksTree lookup parts d.tree answer) v w (text_once text) (λ d i j k l. tree_once lookup parts d i j k l) p q) a b
