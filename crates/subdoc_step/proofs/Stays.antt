-- What paths of names find that part from an edit's path stays.
use Rattle.std.proofs.Common.{◌≡◌, ◌≢◌, ℕ, List, [], ◌∷◌, Bool, cond, Option, Some, None, Err, ◌⊎◌, inl, inr, refl, sym, ap, subst, ◌∙◌}
use Rattle.std.specs.Prelude.{IsUtf8, option_map}
use Rattle.doc_model.specs.declared.status.TheConstants.Status as status
use Rattle.json_model.specs.declared.kinds.Shape.{Shape}
use Rattle.json_model.specs.declared.kinds.Shape.TheVariants as shapes
use Rattle.json_model.specs.declared.asked.Part.{Part}
use Rattle.json_model.specs.declared.asked.Part.TheVariants.{Member, At, Last}
use Rattle.json_model.specs.declared.asked.Lookup.{Lookup}
use Rattle.json_model.specs.Spelled.{Tree, leaf, empty, group, Parts, last, more, Fits, PartsFit}
use Rattle.json_model.specs.Follow.{IsFirstCalled, Names, asks, child, missing, mismatch, Follows}
use Rattle.json_model.specs.Moves.{at_part, at_trail, pushed, push, insert, remove, changed}
use Rattle.json_model.specs.Edit.{array_elements, names_of, member, nested, look_at}
use Rattle.subdoc_step.specs.Paths.{is_called, followed}
use Rattle.subdoc_step.specs.Apart.{AreNames, Apart}
use Rattle.subdoc_step.proofs.Followed.{child_fits}
use Rattle.subdoc_step.proofs.Keys.{key_stands}
use Rattle.subdoc_step.proofs.Names.{NamesUtf8}
use Rattle.subdoc_step.proofs.Members.{called_is, called_other, Seen, behind_member, looked_in, look_member, member_kept, member_without, member_pushed, member_new, member_changed, none_member}
use Rattle.subdoc_step.proofs.Put.{new_head}
use Rattle.subdoc_step.proofs.Trails.{over_missing}
use Rattle.subdoc_step.proofs.Ways.{Way, at_end, down}

-- what paths of names find that part from these parts stays the same
abbrev pub Stays : (Tree → Tree) → Tree → List Part → Type 0
Stays f t rest = (lookup : Lookup) (others : List Part) → AreNames others → Apart rest others → look_at lookup (followed others (f t)) ≡ look_at lookup (followed others t)

-- it is enough to see it for paths that begin with a name
by_name : (f : Tree → Tree) (t : Tree) (p : Part) (ps : List Part)
    → ((lookup : Lookup) (other : List ℕ) (qs : List Part) → AreNames qs → Apart (p ∷ ps) (Member other ∷ qs) → looked_in lookup other qs (f t) ≡ looked_in lookup other qs t) → Stays f t (p ∷ ps)
by_name f t p ps law lookup [] n a = absurd a
by_name f t p ps law lookup (Member other ∷ qs) n a = look_member lookup other qs (f t) ∙ law lookup other qs n a ∙ sym (look_member lookup other qs t)
by_name f t p ps law lookup (At k ∷ qs) n a = absurd n
by_name f t p ps law lookup (Last ∷ qs) n a = absurd n

-- behind the whole path nothing parts from it
pub end_stays : (f : Tree → Tree) (t : Tree) → Stays f t []
end_stays f t lookup others n a = absurd a

-- ---- arrays have no members

array_looked : (lookup : Lookup) (name : List ℕ) (qs : List Part) (t : Tree) (trees : List Tree) → array_elements t ≡ Some trees → looked_in lookup name qs t ≡ Err status.PATH_MISMATCH
array_looked lookup name qs (leaf kind s) trees e = cc
array_looked lookup name qs (empty shapes.Object gap) trees e = cc
array_looked lookup name qs (empty shapes.Array gap) trees e = refl
array_looked lookup name qs (group shapes.Object parts) trees e = cc
array_looked lookup name qs (group shapes.Array parts) trees e = refl

pushed_looked : (lookup : Lookup) (name : List ℕ) (qs : List Part) (t : Tree) (vs : Parts) (trees : List Tree) → array_elements t ≡ Some trees → looked_in lookup name qs (changed (push vs) t) ≡ Err status.PATH_MISMATCH
pushed_looked lookup name qs (leaf kind s) vs trees e = cc
pushed_looked lookup name qs (empty shapes.Object gap) vs trees e = cc
pushed_looked lookup name qs (empty shapes.Array gap) vs trees e = refl
pushed_looked lookup name qs (group shapes.Object parts) vs trees e = cc
pushed_looked lookup name qs (group shapes.Array parts) vs trees e = refl

-- new elements leave what names find
pub elements_stay : (t : Tree) (vs : Parts) (trees : List Tree) (p : Part) (ps : List Part) → array_elements t ≡ Some trees → Stays (changed (push vs)) t (p ∷ ps)
elements_stay t vs trees p ps e =
    by_name (changed (push vs)) t p ps (λ lookup other qs n a. pushed_looked lookup other qs t vs trees e ∙ sym (array_looked lookup other qs t trees e))

pub insert_stays : (k : ℕ) (vs parts : Parts) (shape : Shape) (p : Part) → asks p ≡ shape → shapes.Array ≡ asks p → Stays (changed (insert k vs)) (group shape parts) (p ∷ [])
insert_stays k vs parts shapes.Object p s i = let e : shapes.Array ≡ shapes.Object = i ∙ s in cc
insert_stays k vs parts shapes.Array p s i = by_name (changed (insert k vs)) (group shapes.Array parts) p [] (λ lookup other qs n a. refl)

-- ---- a part that goes

no_rest : (p q : Part) (qs : List Part) → Apart (p ∷ []) (q ∷ qs) → p ≢ q
no_rest p q qs (inl differs) = differs
no_rest p q qs (inr (same, a)) = absurd a

removed_looked : (lookup : Lookup) (other : List ℕ) (qs : List Part) (k : ℕ) (p : Part) (parts : Parts) → asks p ≡ shapes.Object → Names p parts k → p ≢ Member other
    → looked_in lookup other qs (changed (remove k) (group shapes.Object parts)) ≡ looked_in lookup other qs (group shapes.Object parts)
removed_looked lookup other qs k (Member name) (last h t g) s is ne =
    ap (λ (b : Bool). behind_member lookup qs (cond b (Some t) None)) (sym (called_other name other h (λ e. ne (ap Member e)) is.0))
removed_looked lookup other qs k (Member name) (more h t g ps) s is ne = ap (behind_member lookup qs) (member_without name other k h t g ps (λ e. ne (ap Member e)) is)
removed_looked lookup other qs k (At n) parts s is ne = cc
removed_looked lookup other qs k Last parts s is ne = cc

array_removed : (lookup : Lookup) (other : List ℕ) (qs : List Part) (k : ℕ) (parts : Parts) → looked_in lookup other qs (changed (remove k) (group shapes.Array parts)) ≡ Err status.PATH_MISMATCH
array_removed lookup other qs k (last h t g) = refl
array_removed lookup other qs k (more h t g ps) = refl

-- a part that goes leaves what other names find
pub remove_stays : (k : ℕ) (shape : Shape) (parts : Parts) (p : Part) → asks p ≡ shape → Names p parts k → Stays (changed (remove k)) (group shape parts) (p ∷ [])
remove_stays k shapes.Object parts p s is =
    by_name (changed (remove k)) (group shapes.Object parts) p [] (λ lookup other qs n a. removed_looked lookup other qs k p parts s is (no_rest p (Member other) qs a))
remove_stays k shapes.Array parts p s is = by_name (changed (remove k)) (group shapes.Array parts) p [] (λ lookup other qs n a. array_removed lookup other qs k parts)

-- ---- new members

abbrev not_found : Seen
not_found = Err status.PATH_ENOENT

-- what one new member leaves of other names, and of its own what a part that differs finds
one_looked : (lookup : Lookup) (name other : List ℕ) (qs : List Part) (t : Tree) (gap : List ℕ) → IsUtf8 name → ((name ≢ other) ⊎ ((name ≡ other) × (look_at lookup (followed qs t) ≡ not_found)))
    → looked_in lookup other qs (group shapes.Object (last (new_head name) t gap)) ≡ not_found
one_looked lookup name other qs t gap utf8 (inl ne) = ap (λ (b : Bool). behind_member lookup qs (cond b (Some t) None)) (called_other name other (new_head name) ne (key_stands name utf8))
one_looked lookup name other qs t gap utf8 (inr (same, none)) =
    ap (λ (b : Bool). behind_member lookup qs (cond b (Some t) None)) (ap (λ (n : List ℕ). is_called n (new_head name)) (sym same) ∙ called_is name (new_head name) (key_stands name utf8)) ∙ none

same_member : (a b : List ℕ) → Member a ≡ Member b → a ≡ b
same_member a b e = cc

-- by the names of parts, and those behind them
by_apart : (name other : List ℕ) (ps qs : List Part) (A : Type 0) → (Apart ps qs → A) → Apart (Member name ∷ ps) (Member other ∷ qs) → (name ≢ other) ⊎ ((name ≡ other) × A)
by_apart name other ps qs A law (inl ne) = inl (λ e. ne (ap Member e))
by_apart name other ps qs A law (inr (same, a)) = inr (same_member name other same, law a)

nested_step : (name other : List ℕ) (ps qs : List Part) (names : List (List ℕ)) (v : Tree) (lookup : Lookup) (o : Option (List (List ℕ))) → option_map (λ names. name ∷ names) o ≡ Some names → IsUtf8 name
    → Apart (Member name ∷ ps) (Member other ∷ qs) → ((ns : List (List ℕ)) → o ≡ Some ns → Apart ps qs → look_at lookup (followed qs (nested ns v)) ≡ not_found)
    → look_at lookup (followed (Member other ∷ qs) (nested names v)) ≡ not_found
nested_step name other ps qs names v lookup None e utf8 a law = cc
nested_step name other ps qs names v lookup (Some ns) e utf8 a law =
    let same : name ∷ ns ≡ names = cc in
    subst (λ (l : List (List ℕ)). look_at lookup (followed (Member other ∷ qs) (nested l v)) ≡ not_found) same
    (look_member lookup other qs (nested (name ∷ ns) v)
    ∙ one_looked lookup name other qs (nested ns v) [] utf8 (by_apart name other ps qs (look_at lookup (followed qs (nested ns v)) ≡ not_found) (law ns refl) a))

-- a value under names: what parts from them isn't found
nested_looked : (ps : List Part) (names : List (List ℕ)) (v : Tree) (lookup : Lookup) (others : List Part) → names_of ps ≡ Some names → NamesUtf8 ps → AreNames others → Apart ps others → look_at lookup (followed others (nested names v)) ≡ not_found
nested_looked [] names v lookup others e utf8 n a = absurd a
nested_looked (p ∷ ps) names v lookup [] e utf8 n a = absurd a
nested_looked (p ∷ ps) names v lookup (At k ∷ qs) e utf8 n a = absurd n
nested_looked (p ∷ ps) names v lookup (Last ∷ qs) e utf8 n a = absurd n
nested_looked (At k ∷ ps) names v lookup (Member other ∷ qs) e utf8 n a = cc
nested_looked (Last ∷ ps) names v lookup (Member other ∷ qs) e utf8 n a = cc
nested_looked (Member name ∷ ps) names v lookup (Member other ∷ qs) e utf8 n a =
    nested_step name other ps qs names v lookup (names_of ps) e utf8.0 a (λ ns h apart. nested_looked ps ns v lookup qs h utf8.1 n apart)

-- a new member behind others, of a name that named nothing
pushed_member : (lookup : Lookup) (name other : List ℕ) (qs : List Part) (t : Tree) (parts : Parts) → IsUtf8 name → PartsFit shapes.Object parts → ((k : ℕ) → IsFirstCalled name parts k → ⊥)
    → ((name ≢ other) ⊎ ((name ≡ other) × (look_at lookup (followed qs t) ≡ not_found)))
    → looked_in lookup other qs (group shapes.Object (pushed (last (new_head name) t []) parts)) ≡ looked_in lookup other qs (group shapes.Object parts)
pushed_member lookup name other qs t parts utf8 fits none (inl ne) =
    ap (behind_member lookup qs) (member_pushed other (new_head name) t [] parts (called_other name other (new_head name) ne (key_stands name utf8)))
pushed_member lookup name other qs t parts utf8 fits none (inr (same, nothing)) =
    let absent = none_member name shapes.Object parts fits none in
    ap (λ (n : List ℕ). looked_in lookup n qs (group shapes.Object (pushed (last (new_head name) t []) parts))) (sym same)
    ∙ ap (behind_member lookup qs) (member_new name (new_head name) t [] parts (called_is name (new_head name) (key_stands name utf8)) absent) ∙ nothing
    ∙ sym (ap (λ (n : List ℕ). looked_in lookup n qs (group shapes.Object parts)) (sym same) ∙ ap (behind_member lookup qs) absent)

made_looked : (name : List ℕ) (ps : List Part) (names : List (List ℕ)) (u v : Tree) (lookup : Lookup) (other : List ℕ) (qs : List Part) → Follows (Member name ∷ ps) u (missing [] u (Member name ∷ ps)) → Fits u → IsUtf8 name
    → ((name ≢ other) ⊎ ((name ≡ other) × (look_at lookup (followed qs (nested names v)) ≡ not_found)))
    → looked_in lookup other qs (changed (push (member name (nested names v))) u) ≡ looked_in lookup other qs u
made_looked name ps names (leaf kind s) v lookup other qs f fits utf8 which = cc
made_looked name ps names (empty shape gap) v lookup other qs (inl a) fits utf8 which = let h : missing [] (empty shape gap) (Member name ∷ ps) ≡ mismatch 0 = a.1 in cc
made_looked name ps names (empty shapes.Object gap) v lookup other qs (inr a) fits utf8 which = one_looked lookup name other qs (nested names v) gap utf8 which
made_looked name ps names (empty shapes.Array gap) v lookup other qs (inr a) fits utf8 which = let h : shapes.Object ≡ shapes.Array = a.0 in cc
made_looked name ps names (group shape parts) v lookup other qs (inl a) fits utf8 which = let h : missing [] (group shape parts) (Member name ∷ ps) ≡ mismatch 0 = a.1 in cc
made_looked name ps names (group shapes.Object parts) v lookup other qs (inr (inl a)) fits utf8 which = pushed_member lookup name other qs (nested names v) parts utf8 fits a.1 which
made_looked name ps names (group shapes.Array parts) v lookup other qs (inr (inl a)) fits utf8 which = let h : shapes.Object ≡ shapes.Array = a.0 in cc
made_looked name ps names (group shape parts) v lookup other qs (inr (inr (s, k, inner, next, named, c, f, e))) fits utf8 which =
    let g = over_missing k next [] (group shape parts) (Member name ∷ ps) e in
    absurd (none_some k g.rest g.trail_is)
  where
    none_some : (k : ℕ) (ks : List ℕ) → [] ≡ k ∷ ks → ⊥
    none_some k ks e = cc

-- a new member leaves what paths find that part from its own
pub made_stays : (name : List ℕ) (ps : List Part) (names : List (List ℕ)) (u v : Tree) → Follows (Member name ∷ ps) u (missing [] u (Member name ∷ ps)) → Fits u → names_of ps ≡ Some names → NamesUtf8 (Member name ∷ ps)
    → Stays (changed (push (member name (nested names v)))) u (Member name ∷ ps)
made_stays name ps names u v f fits e utf8 =
    by_name (changed (push (member name (nested names v)))) u (Member name) ps
    (λ lookup other qs n a. made_looked name ps names u v lookup other qs f fits utf8.0
    (by_apart name other ps qs (look_at lookup (followed qs (nested names v)) ≡ not_found) (λ apart. nested_looked ps names v lookup qs e utf8.1 n apart) a))

-- ---- along a way

-- a change within one part leaves what names find that part from the way
inner_looked : (lookup : Lookup) (p : Part) (ps : List Part) (other : List ℕ) (qs : List Part) (shape : Shape) (parts : Parts) (k : ℕ) (inner : Tree) (f : Tree → Tree) → PartsFit shape parts → asks p ≡ shape → Names p parts k → child parts k ≡ Some inner
    → (Apart ps qs → look_at lookup (followed qs (f inner)) ≡ look_at lookup (followed qs inner)) → Apart (p ∷ ps) (Member other ∷ qs)
    → looked_in lookup other qs (group shape (at_part k f parts)) ≡ looked_in lookup other qs (group shape parts)
inner_looked lookup p ps other qs shapes.Array parts k inner f fits s named c law a = refl
inner_looked lookup (At n) ps other qs shapes.Object parts k inner f fits s named c law a = cc
inner_looked lookup Last ps other qs shapes.Object parts k inner f fits s named c law a = cc
inner_looked lookup (Member name) ps other qs shapes.Object parts k inner f fits s named c law a = by_case (by_apart name other ps qs (look_at lookup (followed qs (f inner)) ≡ look_at lookup (followed qs inner)) law a)
  where
    by_case : ((name ≢ other) ⊎ ((name ≡ other) × (look_at lookup (followed qs (f inner)) ≡ look_at lookup (followed qs inner))))
        → looked_in lookup other qs (group shapes.Object (at_part k f parts)) ≡ looked_in lookup other qs (group shapes.Object parts)
    by_case (inl ne) = ap (behind_member lookup qs) (member_kept name other k f parts ne named)
    by_case (inr (same, e)) =
        let m = member_changed other shapes.Object k f parts inner fits (subst (λ (n : List ℕ). IsFirstCalled n parts k) same named) c in
        ap (behind_member lookup qs) m.is ∙ e ∙ sym (ap (behind_member lookup qs) m.was)

-- what a change leaves at the end of a way it leaves of the whole
pub way_stays : (path : List Part) (tree : Tree) (trail : List ℕ) (t : Tree) (rest : List Part) (f : Tree → Tree) → Fits tree → Way path tree trail t rest → Stays f t rest → Stays (at_trail trail f) tree path
way_stays path tree trail t rest f fits (at_end ps u) law = law
way_stays path tree trail t rest f fits (down p ps shape parts k inner ks u qs s named c w) law =
    by_name (at_trail (k ∷ ks) f) (group shape parts) p ps
    (λ lookup other rs n a. inner_looked lookup p ps other rs shape parts k inner (at_trail ks f) fits s named c
    (λ apart. way_stays ps inner ks u qs f (child_fits shape k parts inner c fits) w law lookup rs n apart) a)
