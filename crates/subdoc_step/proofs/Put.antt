-- A path leads to what an edit put there.
use Rattle.std.proofs.Common.{◌≡◌, ℕ, suc, ◌<◌, ◌≤◌, List, [], ◌∷◌, length, Bool, true, false, Option, Some, None, Result, Ok, inl, inr, refl, sym, ap, subst, ◌∙◌, arith}
use Rattle.std.specs.Prelude.{◌||◌, ◌==◌, option_map}
use Rattle.doc_model.specs.declared.status.Status.{Status}
use Rattle.json_model.specs.declared.TheConstants.{MOST_DEEP}
use Rattle.json_model.specs.declared.asked.Part.{Part}
use Rattle.json_model.specs.declared.asked.Part.TheVariants.{Member, At, Last}
use Rattle.json_model.specs.declared.asked.Lookup.{Lookup}
use Rattle.json_model.specs.declared.asked.Lookup.TheVariants as lookups
use Rattle.json_model.specs.declared.asked.Edit.TheVariants as edits
use Rattle.json_model.specs.Spelled.{Head, keyed, Tree, leaf, empty, group, Parts, last, more, depth, count, text, Document, IsText}
use Rattle.json_model.specs.Follow.{IsCalled, IsFirstCalled, child, Outcome, reached, missing, mismatch, Follows}
use Rattle.json_model.specs.Moves.{pushed, Change, put, push, changed, at_trail}
use Rattle.json_model.specs.Splices.{Reaches}
use Rattle.json_model.specs.Edit.{Asked, Act, dict_upsert, key_text, member, nested, names_of, made, make, act_at, look_at}
use Rattle.json_model.specs.Order.{Edited, EditedText}
use Rattle.json_model.proofs.Depths.{trail_depth}
use Rattle.json_model.proofs.Following.{reached_trail, missing_trail}
use Rattle.json_spell.specs.declared.tokens.Stop.{Stop as Halt}
use Rattle.json_spell.specs.Reading.{document_at}
use Rattle.subdoc_step.specs.Texts.{told, read_text}
use Rattle.subdoc_step.specs.Paths.{read_parts, followed}
use Rattle.subdoc_step.specs.Given.{too_deep, tree_given, given}
use Rattle.subdoc_step.specs.Answers.{◌>>=◌, looked_up, edited}
use Rattle.subdoc_step.proofs.Texts.{Read, as_text, as_not, as_deep, reads, read_is, text_reads}
use Rattle.subdoc_step.proofs.Paths.{path_is}
use Rattle.subdoc_step.proofs.Followed.{follows, follows_only}
use Rattle.subdoc_step.proofs.Given.{too_deep_is}
use Rattle.subdoc_step.proofs.Keys.{key_stands}
use Rattle.subdoc_step.proofs.Names.{NamesUtf8, path_names}
use Rattle.subdoc_step.proofs.Deep.{missing_holds, push_depth}
use Rattle.subdoc_step.proofs.Went.{fine, Went, went}
use Rattle.subdoc_step.proofs.Left.{with_tree, left_text}
use Rattle.subdoc_step.proofs.Trails.{over_missing}
use Rattle.subdoc_step.proofs.Ways.{Way, reached_way, missing_way, way_follows, overs_reached, way_changed, way_names}

-- ---- a new member is found

-- the head of a new member
abbrev pub new_head : List ℕ → Head
new_head name = keyed [] (key_text name) [] []

pushed_first : (name : List ℕ) (ps : Parts) (h : Head) (t : Tree) (gap : List ℕ) → ((k : ℕ) → IsFirstCalled name ps k → ⊥) → IsCalled name h → IsFirstCalled name (pushed (last h t gap) ps) (count ps)
pushed_first name (last h0 t0 g0) h t gap none called = inr (λ c. none 0 (c, refl), 0, refl, (called, refl))
pushed_first name (more h0 t0 g0 ps) h t gap none called =
    inr (λ c. none 0 (inl (c, refl)), count ps, refl, pushed_first name ps h t gap (λ k is. none (suc k) (inr (λ c. none 0 (inl (c, refl)), k, refl, is))) called)

pushed_child : (ps : Parts) (h : Head) (t : Tree) (gap : List ℕ) → child (pushed (last h t gap) ps) (count ps) ≡ Some t
pushed_child (last h0 t0 g0) h t gap = refl
pushed_child (more h0 t0 g0 ps) h t gap = pushed_child ps h t gap

-- a value under names is where they lead
nested_follows : (names : List (List ℕ)) (ps : List Part) (v : Tree) → names_of ps ≡ Some names → NamesUtf8 ps → (ks : List ℕ) × Follows ps (nested names v) (reached ks v)
nested_follows names [] v e utf8 = let same : [] ≡ names = cc in ([], subst (λ (ns : List (List ℕ)). reached [] v ≡ reached [] (nested ns v)) same refl)
nested_follows names (Member name ∷ ps) v e utf8 = by_rest (names_of ps) e (λ ns h. nested_follows ns ps v h utf8.1)
  where
    one_deeper : (ns : List (List ℕ)) (ks : List ℕ) → Follows ps (nested ns v) (reached ks v) → Follows (Member name ∷ ps) (nested (name ∷ ns) v) (reached (0 ∷ ks) v)
    one_deeper ns ks f = inr (inr (refl, 0, nested ns v, reached ks v, (key_stands name utf8.0, refl), refl, f, refl))

    by_rest : (o : Option (List (List ℕ))) → option_map (λ names. name ∷ names) o ≡ Some names → ((ns : List (List ℕ)) → o ≡ Some ns → (ks : List ℕ) × Follows ps (nested ns v) (reached ks v))
        → (ks : List ℕ) × Follows (Member name ∷ ps) (nested names v) (reached ks v)
    by_rest None e law = cc
    by_rest (Some ns) e law =
        let same : name ∷ ns ≡ names = cc in
        let r = law ns refl in
        (0 ∷ r.0, subst (λ (l : List (List ℕ)). Follows (Member name ∷ ps) (nested l v) (reached (0 ∷ r.0) v)) same (one_deeper ns r.0 r.1))
nested_follows names (At n ∷ ps) v e utf8 = cc
nested_follows names (Last ∷ ps) v e utf8 = cc

-- what a new member holds is found where parts named nothing
filled : (name : List ℕ) (ps : List Part) (names : List (List ℕ)) (u v : Tree) → Follows (Member name ∷ ps) u (missing [] u (Member name ∷ ps)) → names_of ps ≡ Some names → NamesUtf8 (Member name ∷ ps)
    → (ks : List ℕ) × Follows (Member name ∷ ps) (changed (push (member name (nested names v))) u) (reached ks v)
filled name ps names (leaf kind s) v f e utf8 = cc
filled name ps names (empty shape gap) v (inl a) e utf8 = let h : missing [] (empty shape gap) (Member name ∷ ps) ≡ mismatch 0 = a.1 in cc
filled name ps names (empty shape gap) v (inr a) e utf8 =
    let r = nested_follows names ps v e utf8.1 in
    (0 ∷ r.0, inr (inr (a.0, 0, nested names v, reached r.0 v, (key_stands name utf8.0, refl), refl, r.1, refl)))
filled name ps names (group shape parts) v (inl a) e utf8 = let h : missing [] (group shape parts) (Member name ∷ ps) ≡ mismatch 0 = a.1 in cc
filled name ps names (group shape parts) v (inr (inl a)) e utf8 =
    let r = nested_follows names ps v e utf8.1 in (
      count parts ∷ r.0,
      inr (inr (
        a.0,
        count parts,
        nested names v,
        reached r.0 v,
        pushed_first name parts (new_head name) (nested names v) [] a.1 (key_stands name utf8.0),
        pushed_child parts (new_head name) (nested names v) [],
        r.1,
        refl,
      )),
    )
filled name ps names (group shape parts) v (inr (inr (s, k, inner, next, named, c, f, e))) h utf8 =
    let g = over_missing k next [] (group shape parts) (Member name ∷ ps) e in
    absurd (none_some k g.rest g.trail_is)
  where
    none_some : (k : ℕ) (ks : List ℕ) → [] ≡ k ∷ ks → ⊥
    none_some k ks e = cc

-- ---- what is done puts a value where the path leads

-- an act that puts a value where a path leads
record Puts (tree : Tree) (parts : List Part) (v : Tree) (a : Act) : Type 0 where
  trail : List ℕ
  leads : Follows parts (at_trail a.trail (changed a.change) tree) (reached trail v)
  old : Tree
  reaches : Reaches a.trail tree old
  deep : depth v ≤ depth (changed a.change old)

along : (path : List Part) (tree : Tree) (trail : List ℕ) (t v : Tree) (rest : List Part) (change : Change) (ks : List ℕ) → Way path tree trail t rest → Follows rest (changed change t) (reached ks v)
    → (js : List ℕ) × Follows path (at_trail trail (changed change) tree) (reached js v)
along path tree trail t v rest change ks w f =
    let r = overs_reached trail ks v in
    (r.0, subst (Follows path (at_trail trail (changed change) tree)) r.1 (way_follows path (at_trail trail (changed change) tree) trail (changed change t) rest (reached ks v) (way_changed path tree trail t rest (changed change) w) f))

put_puts : (parts : List Part) (tree : Tree) (trail : List ℕ) (t v : Tree) → Follows parts tree (reached trail t) → Puts tree parts v (record { trail = trail; change = put v; number = None })
put_puts parts tree trail t v f =
    let a = along parts tree trail t v [] (put v) [] (reached_way parts tree trail t f) refl in
    record { trail = a.0; leads = a.1; old = t; reaches = reached_trail parts tree trail t f; deep = omega arith }

-- names that begin with this one
pub record Named (absent : List Part) (name : List ℕ) (names : List (List ℕ)) : Type 0 where
  pub others : List Part
  pub absent_is : Member name ∷ others ≡ absent
  pub names_are : names_of others ≡ Some names

named_by : (name other : List ℕ) (names : List (List ℕ)) (ps : List Part) (o : Option (List (List ℕ))) → names_of ps ≡ o → option_map (λ names. other ∷ names) o ≡ Some (name ∷ names) → Named (Member other ∷ ps) name names
named_by name other names ps None is e = cc
named_by name other names ps (Some ns) is e =
    let same : name ≡ other = cc in
    let rest : ns ≡ names = cc in
    record { others = ps; absent_is = ap (λ (n : List ℕ). Member n ∷ ps) same; names_are = is ∙ ap (λ (l : List (List ℕ)). Some l) rest }

pub named_split : (absent : List Part) (name : List ℕ) (names : List (List ℕ)) → names_of absent ≡ Some (name ∷ names) → Named absent name names
named_split [] name names e = cc
named_split (Member other ∷ ps) name names e = named_by name other names ps (names_of ps) refl e
named_split (At n ∷ ps) name names e = cc
named_split (Last ∷ ps) name names e = cc

push_puts : (parts : List Part) (tree : Tree) (trail : List ℕ) (u v : Tree) (absent : List Part) (name : List ℕ) (names : List (List ℕ)) → Follows parts tree (missing trail u absent) → NamesUtf8 parts → names_of absent ≡ Some (name ∷ names)
    → Puts tree parts v (record { trail = trail; change = push (member name (nested names v)); number = None })
push_puts parts tree trail u v absent name names f utf8 e =
    let w = missing_way parts tree trail u absent f in
    let n = named_split absent name names e in
    let begins = Follows (Member name ∷ n.others) u (missing [] u (Member name ∷ n.others)) in
    let stops : begins = subst (λ (l : List Part). Follows l u (missing [] u l)) (sym n.absent_is) w.stops in
    let rest : NamesUtf8 (Member name ∷ n.others) = subst NamesUtf8 (sym n.absent_is) (way_names parts tree trail u absent w.way utf8) in
    let here = filled name n.others names u v stops n.names_are rest in
    let change : Change = push (member name (nested names v)) in
    let a = along parts tree trail u v absent change here.0 w.way (subst (λ (l : List Part). Follows l (changed change u) (reached here.0 v)) n.absent_is here.1) in
    record {
      trail = a.0;
      leads = a.1;
      old = u;
      reaches = missing_trail parts tree trail u absent f;
      deep = push_depth u v name names (missing_holds parts tree trail u absent f);
    }

made_puts : (parts : List Part) (tree : Tree) (trail : List ℕ) (u v : Tree) (absent : List Part) (a : Act) (o : Option (List (List ℕ))) → names_of absent ≡ o → Follows parts tree (missing trail u absent) → NamesUtf8 parts
    → made trail v o ≡ fine a → Puts tree parts v a
made_puts parts tree trail u v absent a None is f utf8 e = cc
made_puts parts tree trail u v absent a (Some []) is f utf8 e = cc
made_puts parts tree trail u v absent a (Some (name ∷ names)) is f utf8 e =
    let made_act : Act = record { trail = trail; change = push (member name (nested names v)); number = None } in
    let same : made_act ≡ a = cc in
    subst (Puts tree parts v) same (push_puts parts tree trail u v absent name names f utf8 is)

make_puts : (may : Bool) (parts : List Part) (tree : Tree) (trail : List ℕ) (u v : Tree) (absent : List Part) (a : Act) → Follows parts tree (missing trail u absent) → NamesUtf8 parts → make may trail absent v ≡ fine a → Puts tree parts v a
make_puts true parts tree trail u v absent a f utf8 e = made_puts parts tree trail u v absent a (names_of absent) refl f utf8 e
make_puts false parts tree trail u v absent a f utf8 e = cc

upsert_puts : (v : Tree) (several : Bool) (parts : List Part) (tree : Tree) (o : Outcome) (a : Act) → Follows parts tree o → NamesUtf8 parts → act_at (dict_upsert v) several o ≡ fine a → Puts tree parts v a
upsert_puts v several parts tree (reached trail t) a f utf8 e =
    let put_act : Act = record { trail = trail; change = put v; number = None } in
    let same : put_act ≡ a = cc in
    subst (Puts tree parts v) same (put_puts parts tree trail t v f)
upsert_puts v several parts tree (missing trail u absent) a f utf8 e = make_puts (several || length absent == 1) parts tree trail u v absent a f utf8 e
upsert_puts v several parts tree (mismatch d) a f utf8 e = cc

-- ---- the law

-- what is looked up where a path and a text are read
pub looked_is : (lookup : Lookup) (text path : List ℕ) (parts : List Part) (d : Document) → read_parts path ≡ fine parts → read_text text ≡ fine d → looked_up lookup text path ≡ look_at lookup (followed parts d.tree)
unfolding looked_up
looked_is lookup text path parts d p t =
    ap (λ (r : Result (List Part) Status). r >>= λ parts. read_text text >>= λ d. look_at lookup (followed parts d.tree)) p
    ∙ ap (λ (r : Result Document Status). r >>= λ d. look_at lookup (followed parts d.tree)) t

-- a text is read
pub text_is : (bytes : List ℕ) (d : Document) → IsText MOST_DEEP d bytes → read_text bytes ≡ fine d
unfolding read_text
text_is bytes d is = ap told (text_reads bytes d is)

-- a value that isn't too deep is found where it was put
put_found : (several : Bool) (all path value : List ℕ) (e : EditedText) (w : Went edits.DictUpsert several all path value e) (v : Tree) → dict_upsert v ≡ w.steps.asked → Puts w.document.tree w.parts v w.steps.act
put_found several all path value e w v same =
    let tree = w.document.tree in
    let f = follows w.parts tree (read_is all w.document w.text_is).tree in
    upsert_puts v several w.parts tree (followed w.parts tree) w.steps.act f (path_names w.parts path (path_is path w.parts w.path_is).0)
    (ap (λ (asked : Asked). act_at asked several (followed w.parts tree)) same ∙ w.steps.act_is)

shallow_put : (several : Bool) (all path value : List ℕ) (e : EditedText) (w : Went edits.DictUpsert several all path value e) (v : Tree) → dict_upsert v ≡ w.steps.asked → depth v ≤ MOST_DEEP
shallow_put several all path value e w v same =
    let a = w.steps.act in
    let p = put_found several all path value e w v same in
    let room : depth (at_trail a.trail (changed a.change) w.document.tree) ≤ MOST_DEEP = subst (λ (t : Edited). depth t.tree ≤ MOST_DEEP) (sym w.steps.result) w.steps.room in
    omega (arith, (trail_depth a.trail w.document.tree p.old (changed a.change) MOST_DEEP p.reaches (read_is all w.document w.text_is).depth).forth room, p.deep)

get_found : (several : Bool) (all path value : List ℕ) (e : EditedText) (w : Went edits.DictUpsert several all path value e) (v : Tree) → dict_upsert v ≡ w.steps.asked → looked_up lookups.Get e.text path ≡ Ok (text v)
get_found several all path value e w v same =
    let p = put_found several all path value e w v same in
    let left = left_text edits.DictUpsert several all path value e w in
    let leads : Follows w.parts w.tree.tree (reached p.trail v) = subst (λ (t : Edited). Follows w.parts t.tree (reached p.trail v)) w.steps.result p.leads in
    looked_is lookups.Get e.text path w.parts (with_tree w.document w.tree.tree) w.path_is (text_is e.text (with_tree w.document w.tree.tree) left)
    ∙ ap (look_at lookups.Get) (sym (follows_only w.parts w.tree.tree (reached p.trail v) left.tree leads))

upserted_by : (several : Bool) (all path value : List ℕ) (e : EditedText) (w : Went edits.DictUpsert several all path value e) (r : Result Document Halt) → Read value r → tree_given dict_upsert r ≡ fine w.steps.asked
    → (d : Document) × IsText MOST_DEEP d value × (looked_up lookups.Get e.text path ≡ Ok (text d.tree))
upserted_by several all path value e w r (as_text d is) h = let same : dict_upsert d.tree ≡ w.steps.asked = cc in (d, is, get_found several all path value e w d.tree same)
upserted_by several all path value e w r (as_not left place wrong) h = cc
upserted_by several all path value e w r (as_deep left place deep) h =
    let same : dict_upsert too_deep ≡ w.steps.asked = cc in
    absurd (no_room (shallow_put several all path value e w too_deep same) too_deep_is)
  where
    no_room : depth too_deep ≤ MOST_DEEP → MOST_DEEP < depth too_deep → ⊥
    no_room a b = omega (arith, a, b)

-- what was upserted is found
pub upserted : (several : Bool) (all path value : List ℕ) (e : EditedText) → edited edits.DictUpsert several all path value ≡ Ok e
    → (d : Document) × IsText MOST_DEEP d value × (looked_up lookups.Get e.text path ≡ Ok (text d.tree))
unfolding given
upserted several all path value e h =
    let w = went edits.DictUpsert several all path value e h in
    upserted_by several all path value e w (document_at MOST_DEEP value) (reads value) w.steps.value_is
