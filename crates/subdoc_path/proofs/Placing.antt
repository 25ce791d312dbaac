-- Where the parts of a path lead in a text, by places.
use Rattle.std.proofs.Common.{◌≡◌, ℕ, zero, suc, ◌+◌, List, [], ◌∷◌, ◌++◌, length, take, drop, Option, Some, None, inl, inr, refl, sym, ap, subst, ◌∙◌, arith, append_assoc, length-append}
use Rattle.std.proofs.lemmas.List.{take_at, drop_at}
use Rattle.std.specs.Prelude.{unwrap_or}
use Rattle.json_model.specs.declared.TheConstants.{MOST_DEEP}
use Rattle.json_model.specs.declared.kinds.Kind.{Kind}
use Rattle.json_model.specs.declared.kinds.Shape.{Shape}
use Rattle.json_model.specs.declared.kinds.Shape.TheVariants as shapes
use Rattle.json_model.specs.declared.asked.Part.{Part}
use Rattle.json_model.specs.Spelled.{Head, Tree, leaf, empty, group, Parts, last, more, opening, closing, text, head_text, parts_text, Document, IsText, Fits}
use Rattle.json_model.specs.Grammar.{IsLeaf}
use Rattle.json_model.specs.Follow.{asks, child, Outcome, reached, missing, mismatch, over, Follows}
use Rattle.json_model.specs.Moves.{at_part, at_trail}
use Rattle.json_model.specs.Splices.{Reaches, here, there}
use Rattle.json_spell.specs.Nodes.{kind_of}
use Rattle.json_walk.specs.Places.{IsAt, ArePartsAt}
use Rattle.json_walk.specs.Telling.{tree_kind, first_tree, part_at, end_at, parts_from}
use Rattle.json_walk.proofs.Standing.{root_at, inside, first_value}
use Rattle.json_walk.proofs.Further.{there_from}
use Rattle.subdoc_path.specs.declared.led.Led.TheVariants as led
use Rattle.subdoc_path.specs.Led.{StandsAt, LeadsAt}
use Rattle.subdoc_path.specs.Naming.{Finds}
use Rattle.subdoc_path.proofs.Naming.{same_shape}

-- ---- what stands before and behind a value

front_is : (a m b bytes : List ℕ) (n : ℕ) → bytes ≡ a ++ (m ++ b) → length a ≡ n → take n bytes ≡ a
front_is a m b bytes n e l = ap (take n) e ∙ take_at a (m ++ b) n l

back_is : (a m b bytes : List ℕ) (n : ℕ) → bytes ≡ a ++ (m ++ b) → length a ≡ n → drop (n + length m) bytes ≡ b
back_is a m b bytes n e l =
    let long : length (a ++ m) ≡ n + length m = omega (arith, length-append a m, l) in
    ap (drop (n + length m)) (e ∙ sym (append_assoc a m b)) ∙ drop_at (a ++ m) b (n + length m) long

-- the same bytes stand before and behind a value, however they are told
same_around : (bytes : List ℕ) (at : ℕ) (t : Tree) (s : IsAt bytes at t) (a b now : List ℕ) → bytes ≡ a ++ (text t ++ b) → length a ≡ at → a ++ (now ++ b) ≡ s.front ++ (now ++ s.back)
same_around bytes at t s a b now e l =
    let front : a ≡ s.front = sym (front_is a (text t) b bytes at e l) ∙ front_is s.front (text t) s.back bytes at s.spelled s.at_is in
    let back : b ≡ s.back = sym (back_is a (text t) b bytes at e l) ∙ back_is s.front (text t) s.back bytes at s.spelled s.at_is in
    ap (λ (l : List ℕ). l ++ (now ++ b)) front ∙ ap (λ (l : List ℕ). s.front ++ (now ++ l)) back

pub stands_root : (bytes : List ℕ) (d : Document) (at : ℕ) → IsText MOST_DEEP d bytes → at ≡ length d.before → StandsAt bytes d [] d.tree at
stands_root bytes d at is e =
    let s = root_at MOST_DEEP d bytes is in
    subst (λ n. StandsAt bytes d [] d.tree n) (sym e) (record {
      is = is;
      reaches = here d.tree;
      place = s;
      spliced = λ f. same_around bytes (length d.before) d.tree s d.before d.after (text (f d.tree)) is.spelled refl;
    })

-- ---- the value of one part

-- what stands before and behind the value of the part of a number, of parts that begin at this place
record Among (k at from : ℕ) (ps left : Parts) : Type 0 where
  front : List ℕ
  back : List ℕ
  named : child ps k ≡ Some (first_tree left)
  at_is : (part_at from left).value ≡ at + length front
  spelled : parts_text ps ≡ front ++ (text (first_tree left) ++ back)
  spliced : (f : Tree → Tree) → parts_text (at_part k f ps) ≡ front ++ (text (f (first_tree left)) ++ back)

among_first : (at : ℕ) (ps : Parts) → Among 0 at at ps ps
among_first at (last h t g) = record { front = head_text h; back = g; named = refl; at_is = refl; spelled = refl; spliced = λ f. refl }
among_first at (more h t g ps) = record { front = head_text h; back = g ++ 0x2c ∷ parts_text ps; named = refl; at_is = refl; spelled = refl; spliced = λ f. refl }

among_more : (k at from : ℕ) (h : Head) (t : Tree) (g : List ℕ) (ps left : Parts) → Among k (end_at at (more h t g ps) + length g + 1) from ps left → Among (suc k) at from (more h t g ps) left
among_more k at from h t g ps left a =
    let before : List ℕ = head_text h ++ (text t ++ (g ++ 0x2c ∷ a.front)) in
    record {
      front = before;
      back = a.back;
      named = a.named;
      at_is = omega (arith, a.at_is, length-append (head_text h) (text t ++ (g ++ 0x2c ∷ a.front)), length-append (text t) (g ++ 0x2c ∷ a.front), length-append g (0x2c ∷ a.front));
      spelled = ap (λ l. head_text h ++ (text t ++ (g ++ 0x2c ∷ l))) a.spelled ∙ simp append_assoc;
      spliced = λ f. ap (λ l. head_text h ++ (text t ++ (g ++ 0x2c ∷ l))) (a.spliced f) ∙ simp append_assoc;
    }

among : (k at : ℕ) (ps : Parts) (from : ℕ) (left : Parts) → parts_from k at ps ≡ Some (from, left) → Among k at from ps left
among zero at ps from left e =
    let same : at ≡ from = ap (λ (o : Option (ℕ × Parts)). (unwrap_or o (at, ps)).0) e in
    let same2 : ps ≡ left = ap (λ (o : Option (ℕ × Parts)). (unwrap_or o (at, ps)).1) e in
    subst (λ n. Among 0 at n ps left) same (subst (λ l. Among 0 at at ps l) same2 (among_first at ps))
among (suc k) at (last h t g) from left e = cc
among (suc k) at (more h t g ps) from left e = among_more k at from h t g ps left (among k (end_at at (more h t g ps) + length g + 1) ps from left e)

-- ---- one step further

reach_more : (trail : List ℕ) (root : Tree) (shape : Shape) (ps : Parts) (k : ℕ) (u t : Tree) → child ps k ≡ Some u → Reaches trail root t → t ≡ group shape ps → Reaches (trail ++ k ∷ []) root u
reach_more trail root shape ps k u t c (here v) e = subst (λ w. Reaches (k ∷ []) w u) (sym e) (there k [] shape ps u u c (here u))
reach_more trail root shape ps k u t c (there j ks other qs v w d r) e = there j (ks ++ k ∷ []) other qs v u d (reach_more ks v shape ps k u w c r e)

part_same : (j : ℕ) (ps : Parts) (u : Tree) (f g : Tree → Tree) → child ps j ≡ Some u → f u ≡ g u → at_part j f ps ≡ at_part j g ps
part_same zero (last h t gap) u f g c e = let same : t ≡ u = cc in ap (λ v. last h v gap) (ap f same ∙ e ∙ ap g (sym same))
part_same (suc j) (last h t gap) u f g c e = refl
part_same zero (more h t gap ps) u f g c e = let same : t ≡ u = cc in ap (λ v. more h v gap ps) (ap f same ∙ e ∙ ap g (sym same))
part_same (suc j) (more h t gap ps) u f g c e = ap (λ l. more h t gap l) (part_same j ps u f g c e)

trail_more : (trail : List ℕ) (root t : Tree) (k : ℕ) (f : Tree → Tree) → Reaches trail root t → at_trail (trail ++ k ∷ []) f root ≡ at_trail trail (at_trail (k ∷ []) f) root
trail_more trail root t k f (here v) = refl
trail_more trail root t k f (there j ks shape ps v w c r) = ap (group shape) (part_same j ps v (at_trail (ks ++ k ∷ []) f) (at_trail ks (at_trail (k ∷ []) f)) c (trail_more ks v w k f r))

stands_more : (bytes : List ℕ) (d : Document) (trail : List ℕ) (shape : Shape) (ps : Parts) (at k from : ℕ) (left : Parts) → StandsAt bytes d trail (group shape ps) at → parts_from k (at + 1) ps ≡ Some (from, left)
    → StandsAt bytes d (trail ++ k ∷ []) (first_tree left) (part_at from left).value
stands_more bytes d trail shape ps at k from left s e =
    let a = among k (at + 1) ps from left e in
    let there : ArePartsAt bytes from shape left = there_from bytes shape k (at + 1) ps from left (inside bytes at shape ps s.place) e in
    let place = first_value bytes from shape left there in
    let front : List ℕ = s.place.front ++ opening shape ∷ a.front in
    let back : List ℕ = (a.back ++ closing shape ∷ []) ++ s.place.back in
    let split : (now : List ℕ) → s.place.front ++ ((opening shape ∷ ((a.front ++ (now ++ a.back)) ++ closing shape ∷ [])) ++ s.place.back) ≡ front ++ (now ++ back) = λ now. simp append_assoc in
    let whole : bytes ≡ front ++ (text (first_tree left) ++ back) =
    s.place.spelled ∙ ap (λ (l : List ℕ). s.place.front ++ ((opening shape ∷ (l ++ closing shape ∷ [])) ++ s.place.back)) a.spelled ∙ split (text (first_tree left)) in
    let long : length front ≡ (part_at from left).value = omega (arith, a.at_is, s.place.at_is, length-append s.place.front (opening shape ∷ a.front)) in
    record {
      is = s.is;
      reaches = reach_more trail d.tree shape ps k (first_tree left) (group shape ps) a.named s.reaches refl;
      place = place;
      spliced = λ f.
          ap (λ v. d.before ++ (text v ++ d.after)) (trail_more trail d.tree (group shape ps) k f s.reaches)
          ∙ s.spliced (at_trail (k ∷ []) f)
          ∙ ap (λ (l : List ℕ). s.place.front ++ ((opening shape ∷ (l ++ closing shape ∷ [])) ++ s.place.back)) (a.spliced f)
          ∙ split (text (f (first_tree left)))
          ∙ same_around bytes (part_at from left).value (first_tree left) place front back (text (f (first_tree left))) whole long;
    }

-- ---- outcomes under a trail

abbrev under : List ℕ → Outcome → Outcome
under [] o = o
under (k ∷ ks) o = over k (under ks o)

under_more : (trail : List ℕ) (k : ℕ) (o : Outcome) → under (trail ++ k ∷ []) o ≡ under trail (over k o)
under_more [] k o = refl
under_more (j ∷ trail) k o = ap (over j) (under_more trail k o)

under_reached : (trail : List ℕ) (t : Tree) → under trail (reached [] t) ≡ reached trail t
under_reached [] t = refl
under_reached (k ∷ trail) t = ap (over k) (under_reached trail t)

under_missing : (trail : List ℕ) (t : Tree) (absent : List Part) → under trail (missing [] t absent) ≡ missing trail t absent
under_missing [] t absent = refl
under_missing (k ∷ trail) t absent = ap (over k) (under_missing trail t absent)

under_mismatch : (trail : List ℕ) → under trail (mismatch 0) ≡ mismatch (length trail)
under_mismatch [] = refl
under_mismatch (k ∷ trail) = ap (over k) (under_mismatch trail)

-- ---- the whole path

-- So many parts led to the value at this place; each outcome of those that are left is, under the trail so far, one of
-- all.
pub record Ongoing (bytes : List ℕ) (d : Document) (parts : List Part) (followed at : ℕ) (left : List Part) : Type 0 where
  pub trail : List ℕ
  pub tree : Tree
  pub stands : StandsAt bytes d trail tree at
  pub long : length trail ≡ followed
  pub whole : (o : Outcome) → Follows left tree o → Follows parts d.tree (under trail o)

pub ongoing_none : (bytes : List ℕ) (d : Document) (parts : List Part) (at : ℕ) → IsText MOST_DEEP d bytes → at ≡ length d.before → Ongoing bytes d parts 0 at parts
ongoing_none bytes d parts at is e = record { trail = []; tree = d.tree; stands = stands_root bytes d at is e; long = refl; whole = λ o f. f }

pub ongoing_done : (bytes : List ℕ) (d : Document) (parts : List Part) (followed at : ℕ) (left : List Part) → Ongoing bytes d parts followed at left → left ≡ [] → LeadsAt parts bytes d (led.At at)
ongoing_done bytes d parts followed at left o e =
    let f : Follows left o.tree (reached [] o.tree) = subst (λ (l : List Part). Follows l o.tree (reached [] o.tree)) (sym e) refl in
    (reached o.trail o.tree, subst (λ (q : Outcome). Follows parts d.tree q) (under_reached o.trail o.tree) (o.whole (reached [] o.tree) f), (at, refl, o.stands))

-- a value of another kind than the part asks for
other_kind : (p : Part) (ps : List Part) (t : Tree) → (tree_kind t ≡ kind_of (asks p) → ⊥) → Follows (p ∷ ps) t (mismatch 0)
other_kind p ps (leaf kind s) differs = refl
other_kind p ps (empty shape gap) differs = inl (λ e. differs (ap kind_of (sym e)), refl)
other_kind p ps (group shape parts) differs = inl (λ e. differs (ap kind_of (sym e)), refl)

pub ongoing_mismatch : (bytes : List ℕ) (d : Document) (parts : List Part) (followed at : ℕ) (p : Part) (ps : List Part) (o : Ongoing bytes d parts followed at (p ∷ ps)) → (tree_kind o.tree ≡ kind_of (asks p) → ⊥)
    → LeadsAt parts bytes d (led.Mismatch followed)
ongoing_mismatch bytes d parts followed at p ps o differs = (
  mismatch (length o.trail),
  subst (λ (q : Outcome). Follows parts d.tree q) (under_mismatch o.trail) (o.whole (mismatch 0) (other_kind p ps o.tree differs)),
  ap led.Mismatch (sym o.long),
)

no_leaf : (p : Part) (kind : Kind) (s : List ℕ) → IsLeaf kind s → kind ≡ kind_of (asks p) → ⊥
no_leaf p kind s h e = by_shape (asks p) e
  where
    by_shape : (shape : Shape) → kind ≡ kind_of shape → ⊥
    by_shape shapes.Object e = subst (λ k. IsLeaf k s) e h
    by_shape shapes.Array e = subst (λ k. IsLeaf k s) e h

-- a value in which the part names nothing
none_named : (p : Part) (ps : List Part) (at : ℕ) (t : Tree) → Fits t → tree_kind t ≡ kind_of (asks p) → Finds p at t None → Follows (p ∷ ps) t (missing [] t (p ∷ ps))
none_named p ps at (leaf kind s) fits k none = absurd (no_leaf p kind s fits k)
none_named p ps at (empty shape gap) fits k none = inr (sym (same_shape shape (asks p) k), refl)
none_named p ps at (group shape parts) fits k none = inr (inl (sym (same_shape shape (asks p) k), none, refl))

pub ongoing_missing : (bytes : List ℕ) (d : Document) (parts : List Part) (followed at : ℕ) (p : Part) (ps : List Part) (o : Ongoing bytes d parts followed at (p ∷ ps)) → tree_kind o.tree ≡ kind_of (asks p) → Finds p at o.tree None
    → LeadsAt parts bytes d (led.Missing followed)
ongoing_missing bytes d parts followed at p ps o k none = (
  missing o.trail o.tree (p ∷ ps),
  subst (λ (q : Outcome). Follows parts d.tree q) (under_missing o.trail o.tree (p ∷ ps)) (o.whole (missing [] o.tree (p ∷ ps)) (none_named p ps at o.tree o.stands.place.fits k none)),
  ap led.Missing (sym o.long),
)

step_found : (bytes : List ℕ) (d : Document) (parts : List Part) (followed at : ℕ) (p : Part) (ps : List Part) (next : ℕ) (trail : List ℕ) (t : Tree) → StandsAt bytes d trail t at → length trail ≡ followed
    → ((o : Outcome) → Follows (p ∷ ps) t o → Follows parts d.tree (under trail o)) → tree_kind t ≡ kind_of (asks p) → Finds p at t (Some next) → Ongoing bytes d parts (followed + 1) next ps
step_found bytes d parts followed at p ps next trail (leaf kind s) st long whole k f = cc
step_found bytes d parts followed at p ps next trail (empty shape gap) st long whole k f = cc
step_found bytes d parts followed at p ps next trail (group shape qs) st long whole k (i, from, left, names, e, v) = record {
  trail = trail ++ i ∷ [];
  tree = first_tree left;
  stands = subst (λ n. StandsAt bytes d (trail ++ i ∷ []) (first_tree left) n) (sym v) (stands_more bytes d trail shape qs at i from left st e);
  long = omega (arith, long, length-append trail (i ∷ []));
  whole = λ o g. subst (λ (q : Outcome). Follows parts d.tree q) (sym (under_more trail i o)) (whole (over i o) (inr (inr (sym (same_shape shape (asks p) k), i, first_tree left, o, names, (among i (at + 1) qs from left e).named, g, refl))));
}

pub ongoing_step : (bytes : List ℕ) (d : Document) (parts : List Part) (followed at : ℕ) (p : Part) (ps : List Part) (next : ℕ) (o : Ongoing bytes d parts followed at (p ∷ ps)) → tree_kind o.tree ≡ kind_of (asks p) → Finds p at o.tree (Some next)
    → Ongoing bytes d parts (followed + 1) next ps
ongoing_step bytes d parts followed at p ps next o k f = step_found bytes d parts followed at p ps next o.trail o.tree o.stands o.long o.whole k f
