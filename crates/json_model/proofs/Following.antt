-- Following a path has one outcome, and what it finds stands at the end of a trail.
use Rattle.std.proofs.Common.{◌≡◌, ℕ, suc, List, [], ◌∷◌, Some, inl, inr, refl, sym, ap, subst, ◌∙◌, arith}
use Rattle.json_model.specs.declared.kinds.Shape.{Shape}
use Rattle.json_model.specs.declared.asked.Part.{Part}
use Rattle.json_model.specs.declared.asked.Part.TheVariants.{Member, At, Last}
use Rattle.json_model.specs.Spelled.{Tree, leaf, empty, group, Parts, last, more}
use Rattle.json_model.specs.Follow.{IsFirstCalled, Names, child, Outcome, reached, missing, mismatch, over, Follows}
use Rattle.json_model.specs.Splices.{Reaches, here, there}

-- ---- one outcome

first_one : (name : List ℕ) (ps : Parts) (k j : ℕ) → IsFirstCalled name ps k → IsFirstCalled name ps j → k ≡ j
first_one name (last h t g) k j a b = a.1 ∙ sym b.1
first_one name (more h t g ps) k j (inl a) (inl b) = a.1 ∙ sym b.1
first_one name (more h t g ps) k j (inl a) (inr b) = absurd (b.0 a.0)
first_one name (more h t g ps) k j (inr a) (inl b) = absurd (a.0 b.0)
first_one name (more h t g ps) k j (inr (n, i, e, a)) (inr (m, l, f, b)) = e ∙ ap suc (first_one name ps i l a b) ∙ sym f

names_one : (p : Part) (ps : Parts) (k j : ℕ) → Names p ps k → Names p ps j → k ≡ j
names_one (Member name) ps k j a b = first_one name ps k j a b
names_one (At n) ps k j a b = a.0 ∙ sym b.0
names_one Last ps k j a b = omega (arith, a, b)

child_one : (ps : Parts) (k j : ℕ) (t u : Tree) → k ≡ j → child ps k ≡ Some t → child ps j ≡ Some u → t ≡ u
child_one ps k j t u e a b = let same : Some t ≡ Some u = sym a ∙ ap (child ps) e ∙ b in cc

pub follows_one : (ps : List Part) (t : Tree) (o q : Outcome) → Follows ps t o → Follows ps t q → o ≡ q
follows_one [] t o q a b = a ∙ sym b
follows_one (p ∷ ps) (leaf kind s) o q a b = a ∙ sym b
follows_one (p ∷ ps) (empty shape gap) o q (inl a) (inl b) = a.1 ∙ sym b.1
follows_one (p ∷ ps) (empty shape gap) o q (inl a) (inr b) = absurd (a.0 b.0)
follows_one (p ∷ ps) (empty shape gap) o q (inr a) (inl b) = absurd (b.0 a.0)
follows_one (p ∷ ps) (empty shape gap) o q (inr a) (inr b) = a.1 ∙ sym b.1
follows_one (p ∷ ps) (group shape parts) o q (inl a) (inl b) = a.1 ∙ sym b.1
follows_one (p ∷ ps) (group shape parts) o q (inl a) (inr (inl b)) = absurd (a.0 b.0)
follows_one (p ∷ ps) (group shape parts) o q (inl a) (inr (inr b)) = absurd (a.0 b.0)
follows_one (p ∷ ps) (group shape parts) o q (inr (inl a)) (inl b) = absurd (b.0 a.0)
follows_one (p ∷ ps) (group shape parts) o q (inr (inl a)) (inr (inl b)) = a.2 ∙ sym b.2
follows_one (p ∷ ps) (group shape parts) o q (inr (inl a)) (inr (inr (s, j, u, m, named, c, f, e))) = absurd (a.1 j named)
follows_one (p ∷ ps) (group shape parts) o q (inr (inr a)) (inl b) = absurd (b.0 a.0)
follows_one (p ∷ ps) (group shape parts) o q (inr (inr (s, j, u, m, named, c, f, e))) (inr (inl b)) = absurd (b.1 j named)
follows_one (p ∷ ps) (group shape parts) o q (inr (inr (s, k, t, n, named, c, f, e))) (inr (inr (s2, j, u, m, named2, c2, f2, e2))) =
    let same : k ≡ j = names_one p parts k j named named2 in
    let tree : t ≡ u = child_one parts k j t u same c c2 in
    let next : n ≡ m = follows_one ps t n m f (subst (λ (v : Tree). Follows ps v m) (sym tree) f2) in
    e ∙ ap (λ i. over i n) same ∙ ap (over j) next ∙ sym e2

-- ---- trails

reached_end : (t u : Tree) (trail : List ℕ) → reached trail u ≡ reached [] t → Reaches trail t u
reached_end t u trail e =
    let a : trail ≡ [] = cc in
    let b : u ≡ t = cc in
    subst (λ ks. Reaches ks t u) (sym a) (subst (λ v. Reaches [] t v) (sym b) (here t))

reached_over : (k : ℕ) (shape : Shape) (parts : Parts) (t u : Tree) (trail : List ℕ) (next : Outcome) → child parts k ≡ Some t
    → ((ks : List ℕ) (v : Tree) → next ≡ reached ks v → Reaches ks t v) → reached trail u ≡ over k next → Reaches trail (group shape parts) u
reached_over k shape parts t u trail (reached ks v) c law e =
    let a : trail ≡ k ∷ ks = cc in
    let b : u ≡ v = cc in
    subst (λ l. Reaches l (group shape parts) u) (sym a) (subst (λ w. Reaches (k ∷ ks) (group shape parts) w) (sym b) (there k ks shape parts t v c (law ks v refl)))
reached_over k shape parts t u trail (missing ks v absent) c law e = cc
reached_over k shape parts t u trail (mismatch d) c law e = cc

-- a value to which parts lead is at the end of the trail
pub reached_trail : (ps : List Part) (t : Tree) (trail : List ℕ) (u : Tree) → Follows ps t (reached trail u) → Reaches trail t u
reached_trail [] t trail u e = reached_end t u trail e
reached_trail (p ∷ ps) (leaf kind s) trail u e = cc
reached_trail (p ∷ ps) (empty shape gap) trail u (inl a) = let e : reached trail u ≡ mismatch 0 = a.1 in cc
reached_trail (p ∷ ps) (empty shape gap) trail u (inr a) = let e : reached trail u ≡ missing [] (empty shape gap) (p ∷ ps) = a.1 in cc
reached_trail (p ∷ ps) (group shape parts) trail u (inl a) = let e : reached trail u ≡ mismatch 0 = a.1 in cc
reached_trail (p ∷ ps) (group shape parts) trail u (inr (inl a)) = let e : reached trail u ≡ missing [] (group shape parts) (p ∷ ps) = a.2 in cc
reached_trail (p ∷ ps) (group shape parts) trail u (inr (inr (s, k, t, next, named, c, f, e))) =
    reached_over k shape parts t u trail next c (λ ks v same. reached_trail ps t ks v (subst (Follows ps t) same f)) e

missing_here : (t u : Tree) (trail : List ℕ) (absent rest : List Part) → missing trail u absent ≡ missing [] t rest → Reaches trail t u
missing_here t u trail absent rest e =
    let a : trail ≡ [] = cc in
    let b : u ≡ t = cc in
    subst (λ ks. Reaches ks t u) (sym a) (subst (λ v. Reaches [] t v) (sym b) (here t))

missing_over : (k : ℕ) (shape : Shape) (parts : Parts) (t u : Tree) (trail : List ℕ) (absent : List Part) (next : Outcome) → child parts k ≡ Some t
    → ((ks : List ℕ) (v : Tree) (rest : List Part) → next ≡ missing ks v rest → Reaches ks t v) → missing trail u absent ≡ over k next → Reaches trail (group shape parts) u
missing_over k shape parts t u trail absent (missing ks v rest) c law e =
    let a : trail ≡ k ∷ ks = cc in
    let b : u ≡ v = cc in
    subst (λ l. Reaches l (group shape parts) u) (sym a) (subst (λ w. Reaches (k ∷ ks) (group shape parts) w) (sym b) (there k ks shape parts t v c (law ks v rest refl)))
missing_over k shape parts t u trail absent (reached ks v) c law e = cc
missing_over k shape parts t u trail absent (mismatch d) c law e = cc

-- a value in which parts name nothing is at the end of the trail
pub missing_trail : (ps : List Part) (t : Tree) (trail : List ℕ) (u : Tree) (absent : List Part) → Follows ps t (missing trail u absent) → Reaches trail t u
missing_trail [] t trail u absent e = cc
missing_trail (p ∷ ps) (leaf kind s) trail u absent e = cc
missing_trail (p ∷ ps) (empty shape gap) trail u absent (inl a) = let e : missing trail u absent ≡ mismatch 0 = a.1 in cc
missing_trail (p ∷ ps) (empty shape gap) trail u absent (inr a) = missing_here (empty shape gap) u trail absent (p ∷ ps) a.1
missing_trail (p ∷ ps) (group shape parts) trail u absent (inl a) = let e : missing trail u absent ≡ mismatch 0 = a.1 in cc
missing_trail (p ∷ ps) (group shape parts) trail u absent (inr (inl a)) = missing_here (group shape parts) u trail absent (p ∷ ps) a.2
missing_trail (p ∷ ps) (group shape parts) trail u absent (inr (inr (s, k, t, next, named, c, f, e))) =
    missing_over k shape parts t u trail absent next c (λ ks v rest same. missing_trail ps t ks v rest (subst (Follows ps t) same f)) e
