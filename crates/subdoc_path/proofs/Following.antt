-- Where a tree, its parts and their values stand, and where the parts of a path lead from there.
use Rattle.std.proofs.Common.{◌≡◌, ℕ, zero, suc, ◌+◌, ◌<◌, ◌≤◌, List, [], ◌∷◌, ◌++◌, length, get_or, drop, drop-cons, add-one, Option, Some, None, inl, inr, refl, sym, ap, subst, ◌∙◌, arith, append_assoc, length-append}
use Rattle.std.proofs.lemmas.List.{drop_all}
use Rattle.std.specs.Prelude.{option_map, unwrap_or}
use Rattle.json_model.specs.declared.TheConstants.{MOST_DEEP}
use Rattle.json_model.specs.declared.kinds.Kind.{Kind}
use Rattle.json_model.specs.declared.kinds.Kind.TheVariants as kinds
use Rattle.json_model.specs.declared.kinds.Shape.{Shape}
use Rattle.json_model.specs.declared.kinds.Shape.TheVariants as shapes
use Rattle.json_model.specs.declared.asked.Part.{Part}
use Rattle.json_spell.specs.declared.node.Node.{Node}
use Rattle.json_spell.specs.declared.node.Span.{Span}
use Rattle.json_model.specs.Spelled.{Head, Tree, leaf, empty, group, Parts, last, more, opening, closing, text, head_text, parts_text, Fits, PartsFit, size, parts_size, count, Document, IsText}
use Rattle.json_model.specs.Grammar.{IsLeaf}
use Rattle.json_model.specs.Follow.{asks, Names, child, earlier, Outcome, reached, missing, mismatch, over, Follows, place}
use Rattle.json_spell.specs.Nodes.{kind_of, key_span, tree_nodes, parts_nodes, document_nodes}
use Rattle.subdoc_path.specs.declared.finding.Found.{Found}
use Rattle.subdoc_path.specs.declared.finding.Found.TheVariants as found
use Rattle.subdoc_path.specs.declared.finding.Step.TheVariants as steps
use Rattle.json_model.specs.declared.asked.Part.TheVariants.{Member, At}
use Rattle.subdoc_path.specs.Standing.{Stands, StandsParts, Answers}
use Rattle.subdoc_path.specs.Leading.{Tells, Leads}
use Rattle.subdoc_path.specs.Stepping.{Steps}
use Rattle.subdoc_path.proofs.Walking.{next_parts}

-- ---- standing

append_none : (l : List Node) → l ++ [] ≡ l
append_none [] = refl
append_none (x ∷ l) = ap (λ (m : List Node). x ∷ m) (append_none l)

abbrev no_key : Span
no_key = record { from = 0; to = 0 }

pub stands_root : (bytes : List ℕ) (nodes : List Node) (d : Document) → IsText MOST_DEEP d bytes → nodes ≡ document_nodes d → Stands bytes nodes (length d.before) 0 no_key d.tree
stands_root bytes nodes d is e = record {
  front = d.before;
  back = d.after;
  above = [];
  below = [];
  spelled = is.spelled;
  at_is = refl;
  listed = e ∙ sym (append_none (tree_nodes (length d.before) 0 no_key d.tree));
  index_is = refl;
}

pub stands_inside : (bytes : List ℕ) (nodes : List Node) (at index : ℕ) (key : Span) (shape : Shape) (ps : Parts) → Stands bytes nodes at index key (group shape ps) → PartsFit shape ps → StandsParts bytes nodes (at + 1) (index + 1) shape ps
stands_inside bytes nodes at index key shape ps s fits =
    let first : Node = record { kind = kind_of shape; from = at; to = at + (length (parts_text ps) + 2); key_from = key.from; key_to = key.to; children = count ps; after = index + (parts_size ps + 1) } in
    let inner : List Node = parts_nodes (at + 1) (index + 1) ps in
    record {
      fits = fits;
      front = s.front ++ opening shape ∷ [];
      back = closing shape ∷ s.back;
      above = s.above ++ first ∷ [];
      below = s.below;
      spelled = s.spelled ∙ ap (λ (l : List ℕ). s.front ++ (opening shape ∷ l)) (append_assoc (parts_text ps) (closing shape ∷ []) s.back) ∙ sym (append_assoc s.front (opening shape ∷ []) (parts_text ps ++ (closing shape ∷ s.back)));
      at_is = omega (arith, length-append s.front (opening shape ∷ []), s.at_is);
      listed = s.listed ∙ sym (append_assoc s.above (first ∷ []) (inner ++ s.below));
      index_is = omega (arith, length-append s.above (first ∷ []), s.index_is);
    }

-- the value of a part stands at its place
pub record StandsChild (bytes : List ℕ) (nodes : List Node) (index : ℕ) (t : Tree) : Type 0 where
  pub at : ℕ
  pub key : Span
  pub stands : Stands bytes nodes at index key t
  pub fits : Fits t

stands_last : (bytes : List ℕ) (nodes : List Node) (at index i : ℕ) (shape : Shape) (h : Head) (t : Tree) (g : List ℕ) → StandsParts bytes nodes at index shape (last h t g) → i ≡ index → StandsChild bytes nodes i t
stands_last bytes nodes at index i shape h t g s e = subst (λ (n : ℕ). StandsChild bytes nodes n t) (sym e) (record {
  at = at + length (head_text h);
  key = key_span at h;
  stands = record {
    front = s.front ++ head_text h;
    back = g ++ s.back;
    above = s.above;
    below = s.below;
    spelled = s.spelled ∙ simp append_assoc;
    at_is = omega (arith, length-append s.front (head_text h), s.at_is);
    listed = s.listed;
    index_is = s.index_is;
  };
  fits = s.fits.1;
})

stands_first : (bytes : List ℕ) (nodes : List Node) (at index i : ℕ) (shape : Shape) (h : Head) (t : Tree) (g : List ℕ) (ps : Parts) → StandsParts bytes nodes at index shape (more h t g ps) → i ≡ index → StandsChild bytes nodes i t
stands_first bytes nodes at index i shape h t g ps s e =
    let mine : List Node = tree_nodes (at + length (head_text h)) index (key_span at h) t in
    let rest : List Node = parts_nodes (at + (length (head_text h) + (length (text t) + (length g + 1)))) (index + size t) ps in
    subst (λ (n : ℕ). StandsChild bytes nodes n t) (sym e) (record {
      at = at + length (head_text h);
      key = key_span at h;
      stands = record {
        front = s.front ++ head_text h;
        back = (g ++ 0x2c ∷ parts_text ps) ++ s.back;
        above = s.above;
        below = rest ++ s.below;
        spelled = s.spelled ∙ simp append_assoc;
        at_is = omega (arith, length-append s.front (head_text h), s.at_is);
        listed = s.listed ∙ ap (λ (l : List Node). s.above ++ l) (append_assoc mine rest s.below);
        index_is = s.index_is;
      };
      fits = s.fits.1;
    })

some_tree : (t u : Tree) → Some t ≡ Some u → t ≡ u
some_tree t u e = cc

none_tree : (t : Tree) → None ≡ Some t → ⊥
none_tree t e = cc

pub stands_child : (bytes : List ℕ) (nodes : List Node) (at index i : ℕ) (shape : Shape) (ps : Parts) (k : ℕ) (t : Tree) → StandsParts bytes nodes at index shape ps → child ps k ≡ Some t → i ≡ index + earlier ps k → StandsChild bytes nodes i t
stands_child bytes nodes at index i shape (last h u g) zero t s c e = subst (λ (x : Tree). StandsChild bytes nodes i x) (some_tree u t c) (stands_last bytes nodes at index i shape h u g s (omega (arith, e)))
stands_child bytes nodes at index i shape (last h u g) (suc k) t s c e = absurd (none_tree t c)
stands_child bytes nodes at index i shape (more h u g ps) zero t s c e = subst (λ (x : Tree). StandsChild bytes nodes i x) (some_tree u t c) (stands_first bytes nodes at index i shape h u g ps s (omega (arith, e)))
stands_child bytes nodes at index i shape (more h u g ps) (suc k) t s c e =
    stands_child bytes nodes (at + (length (head_text h) + (length (text u) + (length g + 1)))) (index + size u) i shape ps k t (next_parts bytes nodes at index shape h u g ps s) c (omega (arith, e))

-- ---- the node of a tree

-- what a node says of the values in its tree
abbrev pub Describes : Node → ℕ → Tree → Type 0
Describes n index (leaf kind s) = n.kind ≡ kind
Describes n index (empty shape g) = (n.kind ≡ kind_of shape) × (n.children ≡ 0)
Describes n index (group shape ps) = (n.kind ≡ kind_of shape) × (n.children ≡ count ps) × (n.after ≡ index + (parts_size ps + 1))

nth_above : (above : List Node) (n : Node) (rest : List Node) (d : Node) → get_or (above ++ n ∷ rest) (length above) d ≡ n
nth_above [] n rest d = refl
nth_above (x ∷ above) n rest d = nth_above above n rest d

nth_is : (nodes above : List Node) (n m : Node) (rest : List Node) (index : ℕ) → nodes ≡ above ++ n ∷ rest → length above ≡ index → m ≡ get_or nodes index m → m ≡ n
nth_is nodes above n m rest index e l g = g ∙ ap (λ (x : List Node). get_or x index m) e ∙ ap (λ (i : ℕ). get_or (above ++ n ∷ rest) i m) (sym l) ∙ nth_above above n rest m

within_is : (nodes above : List Node) (n : Node) (rest : List Node) (index : ℕ) → nodes ≡ above ++ n ∷ rest → length above ≡ index → index < length nodes
within_is nodes above n rest index e l = omega (arith, ap (λ (x : List Node). length x) e, length-append above (n ∷ rest), l)

pub described : (bytes : List ℕ) (nodes : List Node) (at index : ℕ) (key : Span) (t : Tree) (n : Node) → Stands bytes nodes at index key t → n ≡ get_or nodes index n → Describes n index t
described bytes nodes at index key (leaf kind s) n h g = ap (λ (m : Node). m.kind) (nth_is nodes h.above _ n h.below index h.listed h.index_is g)
described bytes nodes at index key (empty shape s) n h g =
    let e = nth_is nodes h.above _ n h.below index h.listed h.index_is g in
    (ap (λ (m : Node). m.kind) e, ap (λ (m : Node). m.children) e)
described bytes nodes at index key (group shape ps) n h g =
    let e = nth_is nodes h.above _ n (parts_nodes (at + 1) (index + 1) ps ++ h.below) index h.listed h.index_is g in
    (ap (λ (m : Node). m.kind) e, ap (λ (m : Node). m.children) e, ap (λ (m : Node). m.after) e)

pub there : (bytes : List ℕ) (nodes : List Node) (at index : ℕ) (key : Span) (t : Tree) → Stands bytes nodes at index key t → index < length nodes
there bytes nodes at index key (leaf kind s) h = within_is nodes h.above _ h.below index h.listed h.index_is
there bytes nodes at index key (empty shape s) h = within_is nodes h.above _ h.below index h.listed h.index_is
there bytes nodes at index key (group shape ps) h = within_is nodes h.above _ (parts_nodes (at + 1) (index + 1) ps ++ h.below) index h.listed h.index_is

-- ---- one part

-- a tree of another kind than the part asks for
leaf_no_object : (s : List ℕ) → IsLeaf kinds.Object s → ⊥
leaf_no_object s h = h

pub other_shape : (p : Part) (n : Node) (index : ℕ) (t : Tree) → Fits t → Describes n index t → (n.kind ≡ kind_of (asks p) → ⊥) → Steps p t index steps.Mismatch
other_shape p n index (leaf kind s) fits d differs = refl
other_shape p n index (empty shape g) fits d differs = inl (λ e. differs (d.0 ∙ ap kind_of (sym e)), refl)
other_shape p n index (group shape ps) fits d differs = inl (λ e. differs (d.0 ∙ ap kind_of (sym e)), refl)

same_shape : (a b : Shape) → kind_of a ≡ kind_of b → a ≡ b
same_shape shapes.Object shapes.Object e = refl
same_shape shapes.Object shapes.Array e = cc
same_shape shapes.Array shapes.Object e = cc
same_shape shapes.Array shapes.Array e = refl

no_leaf : (p : Part) (kind : Kind) (s : List ℕ) → IsLeaf kind s → kind ≡ kind_of (asks p) → ⊥
no_leaf p kind s h e = by_shape (asks p) e
  where
    by_shape : (shape : Shape) → kind ≡ kind_of shape → ⊥
    by_shape shapes.Object e = subst (λ (k : Kind). IsLeaf k s) e h
    by_shape shapes.Array e = subst (λ (k : Kind). IsLeaf k s) e h

-- a tree of the kind that the part asks for, without parts
pub no_parts : (p : Part) (n : Node) (index : ℕ) (t : Tree) → Fits t → Describes n index t → n.kind ≡ kind_of (asks p) → n.children ≡ 0 → Steps p t index steps.Missing
no_parts p n index (leaf kind s) fits d k c = absurd (no_leaf p kind s fits (sym d ∙ k))
no_parts p n index (empty shape g) fits d k c = inr (same_shape (asks p) shape (sym k ∙ d.0), refl)
no_parts p n index (group shape ps) fits d k c = absurd (some ps (sym d.1 ∙ c))
  where
    some : (ps : Parts) → count ps ≡ 0 → ⊥
    some (last h t g) e = absurd (omega (arith, e))
    some (more h t g ps) e = absurd (omega (arith, e))

-- the parts of a tree that has some
pub record Inside (bytes : List ℕ) (nodes : List Node) (index : ℕ) (shape : Shape) (n : Node) (t : Tree) : Type 0 where
  pub at : ℕ
  pub parts : Parts
  pub is : t ≡ group shape parts
  pub stands : StandsParts bytes nodes at (index + 1) shape parts
  pub count_is : n.children ≡ count parts
  pub after_is : n.after ≡ index + 1 + parts_size parts

pub inside : (p : Part) (bytes : List ℕ) (nodes : List Node) (at index : ℕ) (key : Span) (t : Tree) (n : Node) → Stands bytes nodes at index key t → Fits t → Describes n index t → n.kind ≡ kind_of (asks p) → (n.children ≡ 0 → ⊥) → Inside bytes nodes index (asks p) n t
inside p bytes nodes at index key (leaf kind s) n h fits d k some = absurd (no_leaf p kind s fits (sym d ∙ k))
inside p bytes nodes at index key (empty shape g) n h fits d k some = absurd (some d.1)
inside p bytes nodes at index key (group shape ps) n h fits d k some =
    let same : shape ≡ asks p = same_shape shape (asks p) (sym d.0 ∙ k) in
    record {
      at = at + 1;
      parts = ps;
      is = ap (λ (s : Shape). group s ps) same;
      stands = subst (λ (s : Shape). StandsParts bytes nodes (at + 1) (index + 1) s ps) same (stands_inside bytes nodes at index key shape ps h fits);
      count_is = d.1;
      after_is = omega (arith, d.2);
    }

pub part_found : (p : Part) (bytes : List ℕ) (nodes : List Node) (index : ℕ) (n : Node) (t : Tree) (i : Inside bytes nodes index (asks p) n t) (k : ℕ) (u : Tree) (next : ℕ) → Names p i.parts k → child i.parts k ≡ Some u → next ≡ index + 1 + earlier i.parts k → Steps p t index (steps.To next)
part_found p bytes nodes index n t i k u next names c e = subst (λ (x : Tree). Steps p x index (steps.To next)) (sym i.is) (inr (inr (refl, k, u, names, c, ap steps.To e)))

pub part_none : (p : Part) (bytes : List ℕ) (nodes : List Node) (index : ℕ) (n : Node) (t : Tree) (i : Inside bytes nodes index (asks p) n t) → ((k : ℕ) → Names p i.parts k → ⊥) → Steps p t index steps.Missing
part_none p bytes nodes index n t i none = subst (λ (x : Tree). Steps p x index steps.Missing) (sym i.is) (inr (inl (refl, none, refl)))

pub member_found : (name : List ℕ) (bytes : List ℕ) (nodes : List Node) (index : ℕ) (n : Node) (t : Tree) (i : Inside bytes nodes index shapes.Object n t) (next : ℕ) → Answers name (index + 1) i.parts (Some next) → Steps (Member name) t index (steps.To next)
member_found name bytes nodes index n t i next (k, u, names, c, e) = part_found (Member name) bytes nodes index n t i k u next names c e

pub child_there : (ps : Parts) (k : ℕ) → k < count ps → (t : Tree) × (child ps k ≡ Some t)
child_there (last h t g) zero less = (t, refl)
child_there (last h t g) (suc k) less = absurd (omega (arith, less))
child_there (more h t g ps) zero less = (t, refl)
child_there (more h t g ps) (suc k) less = child_there ps k (omega (arith, less))

-- an index beyond the elements
pub beyond : (number : ℕ) (n : Node) (index : ℕ) (t : Tree) → Fits t → Describes n index t → n.kind ≡ kinds.Array → n.children ≤ number → Steps (At number) t index steps.Missing
beyond number n index (leaf kind s) fits d k c = absurd (no_leaf (At number) kind s fits (sym d ∙ k))
beyond number n index (empty shape g) fits d k c = inr (same_shape shapes.Array shape (sym k ∙ d.0), refl)
beyond number n index (group shape ps) fits d k c = inr (inl (same_shape shapes.Array shape (sym k ∙ d.0), λ i names. absurd (omega (arith, names.1, d.1, c)), refl))

pub element_found : (p : Part) (bytes : List ℕ) (nodes : List Node) (index : ℕ) (n : Node) (t : Tree) (i : Inside bytes nodes index (asks p) n t) (k next : ℕ) → k < count i.parts → Names p i.parts k → next ≡ index + 1 + earlier i.parts k → Steps p t index (steps.To next)
element_found p bytes nodes index n t i k next less names e = let c = child_there i.parts k less in part_found p bytes nodes index n t i k c.0 next names c.1 e

-- ---- the whole path

-- what is told of an outcome in a tree whose values begin at this place, behind so many parts
abbrev pub TellsFrom : ℕ → ℕ → Tree → Outcome → Found → Type 0
TellsFrom depth index tree (reached trail t) f = f ≡ found.At (index + place trail tree)
TellsFrom depth index tree (missing trail parent absent) f = f ≡ found.Missing (depth + length trail)
TellsFrom depth index tree (mismatch d) f = f ≡ found.Mismatch (depth + d)

abbrev pub LeadsFrom : ℕ → ℕ → List Part → Tree → Found → Type 0
LeadsFrom depth index parts tree f = (o : Outcome) × Follows parts tree o × TellsFrom depth index tree o f

tells_whole : (tree : Tree) (o : Outcome) (f : Found) → TellsFrom 0 0 tree o f → Tells tree o f
tells_whole tree (reached trail t) f e = e ∙ ap found.At (omega arith)
tells_whole tree (missing trail parent absent) f e = e ∙ ap found.Missing (omega arith)
tells_whole tree (mismatch d) f e = e ∙ ap found.Mismatch (omega arith)

leads_whole : (parts : List Part) (tree : Tree) (f : Found) → LeadsFrom 0 0 parts tree f → Leads parts tree f
leads_whole parts tree f (o, follows, tells) = (o, follows, tells_whole tree o f tells)

pub leads_end : (depth index : ℕ) (tree : Tree) → LeadsFrom depth index [] tree (found.At index)
leads_end depth index tree = (reached [] tree, refl, ap found.At (omega arith))

leads_mismatch : (depth index : ℕ) (p : Part) (ps : List Part) (t : Tree) → Steps p t index steps.Mismatch → LeadsFrom depth index (p ∷ ps) t (found.Mismatch depth)
leads_mismatch depth index p ps (leaf kind s) h = (mismatch 0, refl, ap found.Mismatch (omega arith))
leads_mismatch depth index p ps (empty shape g) (inl h) = (mismatch 0, inl (h.0, refl), ap found.Mismatch (omega arith))
leads_mismatch depth index p ps (empty shape g) (inr h) = let e = h.1 in cc
leads_mismatch depth index p ps (group shape qs) (inl h) = (mismatch 0, inl (h.0, refl), ap found.Mismatch (omega arith))
leads_mismatch depth index p ps (group shape qs) (inr (inl h)) = let e = h.2 in cc
leads_mismatch depth index p ps (group shape qs) (inr (inr h)) = let e = h.5 in cc

leads_missing : (depth index : ℕ) (p : Part) (ps : List Part) (t : Tree) → Steps p t index steps.Missing → LeadsFrom depth index (p ∷ ps) t (found.Missing depth)
leads_missing depth index p ps (leaf kind s) h = cc
leads_missing depth index p ps (empty shape g) (inl h) = let e = h.1 in cc
leads_missing depth index p ps (empty shape g) (inr h) = (missing [] (empty shape g) (p ∷ ps), inr (h.0, refl), ap found.Missing (omega arith))
leads_missing depth index p ps (group shape qs) (inl h) = let e = h.1 in cc
leads_missing depth index p ps (group shape qs) (inr (inl h)) = (missing [] (group shape qs) (p ∷ ps), inr (inl (h.0, h.1, refl)), ap found.Missing (omega arith))
leads_missing depth index p ps (group shape qs) (inr (inr h)) = let e = h.5 in cc

tells_over : (depth index k : ℕ) (shape : Shape) (qs : Parts) (u : Tree) (o : Outcome) (f : Found) → child qs k ≡ Some u → TellsFrom (depth + 1) (index + 1 + earlier qs k) u o f → TellsFrom depth index (group shape qs) (over k o) f
tells_over depth index k shape qs u (reached trail t) f c e =
    let inner : unwrap_or (option_map (place trail) (child qs k)) 0 ≡ place trail u = ap (λ (x : Option Tree). unwrap_or (option_map (place trail) x) 0) c in
    e ∙ ap found.At (omega (arith, inner))
tells_over depth index k shape qs u (missing trail parent absent) f c e = e ∙ ap found.Missing (omega arith)
tells_over depth index k shape qs u (mismatch d) f c e = e ∙ ap found.Mismatch (omega arith)

-- one part was followed
pub record Goes (bytes : List ℕ) (nodes : List Node) (depth index : ℕ) (p : Part) (ps : List Part) (t : Tree) (next : ℕ) : Type 0 where
  pub tree : Tree
  pub stands : StandsChild bytes nodes next tree
  pub leads : (f : Found) → LeadsFrom (depth + 1) next ps tree f → LeadsFrom depth index (p ∷ ps) t f

to_is : (a b : ℕ) → steps.To a ≡ steps.To b → a ≡ b
to_is a b e = cc

goes : (bytes : List ℕ) (nodes : List Node) (at depth index : ℕ) (key : Span) (p : Part) (ps : List Part) (t : Tree) (next : ℕ) → Stands bytes nodes at index key t → Fits t → Steps p t index (steps.To next) → Goes bytes nodes depth index p ps t next
goes bytes nodes at depth index key p ps (leaf kind s) next st fits h = cc
goes bytes nodes at depth index key p ps (empty shape g) next st fits (inl h) = let e = h.1 in cc
goes bytes nodes at depth index key p ps (empty shape g) next st fits (inr h) = let e = h.1 in cc
goes bytes nodes at depth index key p ps (group shape qs) next st fits (inl h) = let e = h.1 in cc
goes bytes nodes at depth index key p ps (group shape qs) next st fits (inr (inl h)) = let e = h.2 in cc
goes bytes nodes at depth index key p ps (group shape qs) next st fits (inr (inr (same, k, u, names, c, e))) =
    let n : next ≡ index + 1 + earlier qs k = to_is next (index + 1 + earlier qs k) e in
    record {
      tree = u;
      stands = stands_child bytes nodes (at + 1) (index + 1) next shape qs k u (stands_inside bytes nodes at index key shape qs st fits) c n;
      leads = λ f l. (over k l.0, inr (inr (same, k, u, l.0, names, c, l.1, refl)), tells_over depth index k shape qs u l.0 f c (subst (λ (i : ℕ). TellsFrom (depth + 1) i u l.0 f) n l.2));
    }

-- The parts that are left lead from a value to where all lead from the whole.
pub record Ongoing (bytes : List ℕ) (nodes : List Node) (parts : List Part) (root : Tree) (depth index : ℕ) (left : List Part) : Type 0 where
  pub tree : Tree
  pub stands : StandsChild bytes nodes index tree
  pub leads : (f : Found) → LeadsFrom depth index left tree f → LeadsFrom 0 0 parts root f

pub ongoing_none : (bytes : List ℕ) (nodes : List Node) (parts : List Part) (d : Document) → IsText MOST_DEEP d bytes → nodes ≡ document_nodes d → Ongoing bytes nodes parts d.tree 0 0 parts
ongoing_none bytes nodes parts d is e = record {
  tree = d.tree;
  stands = record { at = length d.before; key = no_key; stands = stands_root bytes nodes d is e; fits = is.tree };
  leads = λ f l. l;
}

pub ongoing_step : (bytes : List ℕ) (nodes : List Node) (parts : List Part) (root : Tree) (depth index : ℕ) (p : Part) (ps : List Part) (next : ℕ) (o : Ongoing bytes nodes parts root depth index (p ∷ ps)) → Steps p o.tree index (steps.To next) → Ongoing bytes nodes parts root (depth + 1) next ps
ongoing_step bytes nodes parts root depth index p ps next o h =
    let g = goes bytes nodes o.stands.at depth index o.stands.key p ps o.tree next o.stands.stands o.stands.fits h in
    record { tree = g.tree; stands = g.stands; leads = λ f l. o.leads f (g.leads f l) }

pub ongoing_mismatch : (bytes : List ℕ) (nodes : List Node) (parts : List Part) (root : Tree) (depth index : ℕ) (p : Part) (ps : List Part) (o : Ongoing bytes nodes parts root depth index (p ∷ ps)) → Steps p o.tree index steps.Mismatch → Leads parts root (found.Mismatch depth)
ongoing_mismatch bytes nodes parts root depth index p ps o h = leads_whole parts root (found.Mismatch depth) (o.leads (found.Mismatch depth) (leads_mismatch depth index p ps o.tree h))

pub ongoing_missing : (bytes : List ℕ) (nodes : List Node) (parts : List Part) (root : Tree) (depth index : ℕ) (p : Part) (ps : List Part) (o : Ongoing bytes nodes parts root depth index (p ∷ ps)) → Steps p o.tree index steps.Missing → Leads parts root (found.Missing depth)
ongoing_missing bytes nodes parts root depth index p ps o h = leads_whole parts root (found.Missing depth) (o.leads (found.Missing depth) (leads_missing depth index p ps o.tree h))

pub ongoing_done : (bytes : List ℕ) (nodes : List Node) (parts : List Part) (root : Tree) (depth index : ℕ) (left : List Part) → Ongoing bytes nodes parts root depth index left → left ≡ [] → Leads parts root (found.At index)
ongoing_done bytes nodes parts root depth index left o e =
    leads_whole parts root (found.At index) (o.leads (found.At index) (subst (λ (l : List Part). LeadsFrom depth index l o.tree (found.At index)) (sym e) (leads_end depth index o.tree)))

-- ---- as the loop reads

pub part_first : (xs ys : List Part) (i : ℕ) (p : Part) → ys ≡ xs → i < length ys → p ≡ get_or ys i p → drop i xs ≡ p ∷ drop (i + 1) xs
part_first xs ys i p same less is =
    let inside : i < length xs = subst (λ (l : List Part). i < length l) same less in
    let first : get_or xs i p ≡ p = ap (λ (l : List Part). get_or l i p) (sym same) ∙ sym is in
    rw (add-one, drop-cons xs i p) (ap (λ (q : Part). q ∷ drop (suc i) xs) first)

pub none_left : (xs ys : List Part) (i : ℕ) → ys ≡ xs → length ys ≤ i → drop i xs ≡ []
none_left xs ys i same all = drop_all i xs (subst (λ (l : List Part). length l ≤ i) same all)
