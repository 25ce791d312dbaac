-- An edit leaves what paths of names find that part from its own.
use Rattle.std.proofs.Common.{◌≡◌, ℕ, List, [], ◌∷◌, length, Bool, true, false, cond, Option, Some, None, Result, Ok, Err, inl, inr, refl, sym, ap, subst, ◌∙◌}
use Rattle.std.specs.Prelude.{ℤ, ◌+ℤ◌, ◌||◌, ◌==◌, nat_eq}
use Rattle.std.specs.Cmp.Lexicographic.{pointwise}
use Rattle.std.specs.List.{list_all, list_any}
use Rattle.std.specs.Fmt.{signed_decimal}
use Rattle.doc_model.specs.declared.status.Status.{Status}
use Rattle.doc_model.specs.declared.status.TheConstants.Status as status
use Rattle.json_model.specs.declared.kinds.Kind.TheVariants as kinds
use Rattle.json_model.specs.declared.kinds.Shape.{Shape}
use Rattle.json_model.specs.declared.kinds.Shape.TheVariants as shapes
use Rattle.json_model.specs.declared.asked.Part.{Part}
use Rattle.json_model.specs.declared.asked.Part.TheVariants.{Member, At, Last}
use Rattle.json_model.specs.declared.asked.Lookup.{Lookup}
use Rattle.json_model.specs.declared.asked.Edit.{Edit}
use Rattle.json_model.specs.Spelled.{Tree, leaf, empty, group, Parts, text, Fits}
use Rattle.json_model.specs.Paths.{ReadsPath}
use Rattle.json_model.specs.Follow.{Names, asks, child, Outcome, reached, missing, mismatch, over, Follows}
use Rattle.json_model.specs.Moves.{Change, put, push, insert, remove, changed}
use Rattle.json_model.specs.Edit.{Asked, Act, dict_add, dict_upsert, delete, replace, push_last, push_first, array_insert, add_unique, counter, act, above, final, array_elements, is_leaf, to_array, to_set, counted, number_of, at_value, names_of, made, make, with_number, at_length, at_gap, act_at, look_at, member, nested, element, fits_i64}
use Rattle.json_model.specs.Order.{ends_in_index, is_some_part, Edited, EditedText}
use Rattle.subdoc_step.specs.Paths.{read_parts, followed}
use Rattle.subdoc_step.specs.Answers.{looked_up, edited}
use Rattle.subdoc_step.specs.Apart.{AreNames, Apart}
use Rattle.subdoc_step.proofs.Texts.{read_is}
use Rattle.subdoc_step.proofs.Paths.{path_is, path_only}
use Rattle.subdoc_step.proofs.Followed.{follows}
use Rattle.subdoc_step.proofs.Names.{NamesUtf8, path_names}
use Rattle.subdoc_step.proofs.Suits.{Suits, asked_suits}
use Rattle.subdoc_step.proofs.Trails.{over_reached, some_trail, index_asks, ends_more}
use Rattle.subdoc_step.proofs.Went.{fine, Went, went}
use Rattle.subdoc_step.proofs.Left.{with_tree, left_text}
use Rattle.subdoc_step.proofs.Ways.{Way, at_end, down, reached_way, missing_way, way_names, way_fits}
use Rattle.subdoc_step.proofs.Put.{named_split, looked_is, text_is}
use Rattle.subdoc_step.proofs.Stays.{Stays, end_stays, elements_stay, insert_stays, remove_stays, made_stays, way_stays}

-- ---- the way to the value above the last part

-- the object or array that the last part of a path is in
record Above (path : List Part) (tree : Tree) (trail : List ℕ) : Type 0 where
  part : Part
  shape : Shape
  parts : Parts
  way : Way path tree (above trail) (group shape parts) (part ∷ [])
  asks_is : asks part ≡ shape
  names : Names part parts (final trail)
  index : ends_in_index path ≡ true → ends_in_index (part ∷ []) ≡ true

above_last : (p : Part) (shape : Shape) (parts : Parts) (k : ℕ) (inner u : Tree) (next : Outcome) (trail : List ℕ) → asks p ≡ shape → Names p parts k → next ≡ reached [] inner → reached trail u ≡ over k next → Above (p ∷ []) (group shape parts) trail
above_last p shape parts k inner u next trail s named f e =
    let d = over_reached k next trail u e in
    let none : d.rest ≡ [] = let h : reached d.rest u ≡ reached [] inner = sym d.next_is ∙ f in cc in
    let path : trail ≡ k ∷ [] = d.trail_is ∙ ap (λ (l : List ℕ). k ∷ l) none in
    subst (Above (p ∷ []) (group shape parts)) (sym path) (record { part = p; shape = shape; parts = parts; way = at_end (p ∷ []) (group shape parts); asks_is = s; names = named; index = λ i. i })

above_more : (p q : Part) (ps : List Part) (shape : Shape) (parts : Parts) (k j : ℕ) (js : List ℕ) (inner : Tree) → asks p ≡ shape → Names p parts k → child parts k ≡ Some inner → Above (q ∷ ps) inner (j ∷ js) → Above (p ∷ q ∷ ps) (group shape parts) (k ∷ j ∷ js)
above_more p q ps shape parts k j js inner s named c a = record {
  part = a.part;
  shape = a.shape;
  parts = a.parts;
  way = down p (q ∷ ps) shape parts k inner (above (j ∷ js)) (group a.shape a.parts) (a.part ∷ []) s named c a.way;
  asks_is = a.asks_is;
  names = a.names;
  index = λ i. a.index (sym (ends_more p q ps) ∙ i);
}

above_step : (p q : Part) (ps : List Part) (shape : Shape) (parts : Parts) (k : ℕ) (inner u : Tree) (next : Outcome) (trail : List ℕ) → asks p ≡ shape → Names p parts k → child parts k ≡ Some inner → Follows (q ∷ ps) inner next → reached trail u ≡ over k next
    → ((ks : List ℕ) → Follows (q ∷ ps) inner (reached ks u) → Above (q ∷ ps) inner ks) → Above (p ∷ q ∷ ps) (group shape parts) trail
above_step p q ps shape parts k inner u next trail s named c f e law =
    let d = over_reached k next trail u e in
    let g : Follows (q ∷ ps) inner (reached d.rest u) = subst (Follows (q ∷ ps) inner) d.next_is f in
    let t = some_trail q ps inner d.rest u g in
    let path : trail ≡ k ∷ t.first ∷ t.others = d.trail_is ∙ ap (λ (l : List ℕ). k ∷ l) t.is in
    subst (Above (p ∷ q ∷ ps) (group shape parts)) (sym path) (above_more p q ps shape parts k t.first t.others inner s named c (subst (Above (q ∷ ps) inner) t.is (law d.rest g)))

above_way : (p : Part) (ps : List Part) (tree : Tree) (trail : List ℕ) (u : Tree) → Follows (p ∷ ps) tree (reached trail u) → Above (p ∷ ps) tree trail
above_way p ps (leaf kind s) trail u e = cc
above_way p ps (empty shape gap) trail u (inl a) = let e : reached trail u ≡ mismatch 0 = a.1 in cc
above_way p ps (empty shape gap) trail u (inr a) = let e : reached trail u ≡ missing [] (empty shape gap) (p ∷ ps) = a.1 in cc
above_way p ps (group shape parts) trail u (inl a) = let e : reached trail u ≡ mismatch 0 = a.1 in cc
above_way p ps (group shape parts) trail u (inr (inl a)) = let e : reached trail u ≡ missing [] (group shape parts) (p ∷ ps) = a.2 in cc
above_way p [] (group shape parts) trail u (inr (inr (s, k, inner, next, named, c, f, e))) = above_last p shape parts k inner u next trail s named f e
above_way p (q ∷ ps) (group shape parts) trail u (inr (inr (s, k, inner, next, named, c, f, e))) =
    above_step p q ps shape parts k inner u next trail s named c f e (λ ks g. above_way q ps inner ks u g)

-- ---- what an act leaves

-- an act is at the end of a way of its path, and there leaves what other names find
record Local (path : List Part) (tree : Tree) (a : Act) : Type 0 where
  old : Tree
  rest : List Part
  way : Way path tree a.trail old rest
  stays : Stays (changed a.change) old rest

-- an act at the end of the whole path
end_local : (path : List Part) (tree : Tree) (trail : List ℕ) (old : Tree) (a : Act) → Follows path tree (reached trail old) → trail ≡ a.trail → Local path tree a
end_local path tree trail old a f e =
    record { old = old; rest = []; way = subst (λ (ks : List ℕ). Way path tree ks old []) e (reached_way path tree trail old f); stays = end_stays (changed a.change) old }

act_trail : (trail : List ℕ) (change : Change) (a : Act) → act trail change ≡ fine a → trail ≡ a.trail
act_trail trail change a e = let same : (λ (x y : Act). x ≡ y) (record { trail = trail; change = change; number = None }) a = cc in ap (λ (x : Act). x.trail) same

array_trail : (o : Option (List Tree)) (trail : List ℕ) (change : Change) (a : Act) → to_array o (act trail change) ≡ fine a → trail ≡ a.trail
array_trail None trail change a e = cc
array_trail (Some trees) trail change a e = act_trail trail change a e

set_by : (b c : Bool) (trail : List ℕ) (change : Change) (a : Act) → cond b (cond c (Err status.PATH_EEXISTS) (act trail change)) (Err status.PATH_MISMATCH) ≡ fine a → trail ≡ a.trail
set_by true true trail change a e = cc
set_by true false trail change a e = act_trail trail change a e
set_by false c trail change a e = cc

set_trail : (o : Option (List Tree)) (s trail : List ℕ) (change : Change) (a : Act) → to_set o s (act trail change) ≡ fine a → trail ≡ a.trail
set_trail None s trail change a e = cc
set_trail (Some trees) s trail change a e = set_by (list_all is_leaf trees) (list_any (λ t. pointwise nat_eq (text t) s) trees) trail change a e

counted_by : (b c : Bool) (trail : List ℕ) (n : ℤ) (a : Act)
    → cond b (cond c (fine (record { trail = trail; change = put (leaf kinds.Number (signed_decimal n)); number = Some n })) (Err status.VALUE_CANT_INSERT)) (Err status.NUM_ERANGE) ≡ fine a → trail ≡ a.trail
counted_by true true trail n a e =
    let same : (λ (x y : Act). x ≡ y) (record { trail = trail; change = put (leaf kinds.Number (signed_decimal n)); number = Some n }) a = cc in ap (λ (x : Act). x.trail) same
counted_by true false trail n a e = cc
counted_by false c trail n a e = cc

counted_trail : (trail : List ℕ) (delta : ℤ) (o : Option ℤ) (a : Act) → counted trail delta o ≡ fine a → trail ≡ a.trail
counted_trail trail delta None a e = cc
counted_trail trail delta (Some n) a e = counted_by (fits_i64 n) (fits_i64 (n +ℤ delta)) trail (n +ℤ delta) a e

-- an act in the value above the last part
above_local : (path : List Part) (tree : Tree) (trail : List ℕ) (change : Change) (a : Act) (b : Above path tree trail) → Stays (changed change) (group b.shape b.parts) (b.part ∷ []) → act (above trail) change ≡ fine a → Local path tree a
above_local path tree trail change a b stays e =
    let same : (λ (x y : Act). x ≡ y) (record { trail = above trail; change = change; number = None }) a = cc in
    subst (Local path tree) same (record { old = group b.shape b.parts; rest = b.part ∷ []; way = b.way; stays = stays })

delete_local : (path : List Part) (tree : Tree) (trail : List ℕ) (old : Tree) (a : Act) → Follows path tree (reached trail old) → is_some_part path ≡ true → act (above trail) (remove (final trail)) ≡ fine a → Local path tree a
delete_local [] tree trail old a f some e = cc
delete_local (p ∷ ps) tree trail old a f some e =
    let b = above_way p ps tree trail old f in
    above_local (p ∷ ps) tree trail (remove (final trail)) a b (remove_stays (final trail) b.shape b.parts b.part b.asks_is b.names) e

insert_local : (path : List Part) (tree : Tree) (trail : List ℕ) (old : Tree) (vs : Parts) (a : Act) → Follows path tree (reached trail old) → ends_in_index path ≡ true → act (above trail) (insert (final trail) vs) ≡ fine a → Local path tree a
insert_local [] tree trail old vs a f i e = cc
insert_local (p ∷ ps) tree trail old vs a f i e =
    let b = above_way p ps tree trail old f in
    above_local (p ∷ ps) tree trail (insert (final trail) vs) a b (insert_stays (final trail) vs b.parts b.shape b.part b.asks_is (sym (index_asks b.part (b.index i)))) e

value_local : (asked : Asked) (path : List Part) (tree : Tree) (trail : List ℕ) (old : Tree) (a : Act) → Follows path tree (reached trail old) → Suits path asked → at_value asked trail old ≡ fine a → Local path tree a
value_local (dict_add v) path tree trail old a f s e = cc
value_local (dict_upsert v) path tree trail old a f s e = end_local path tree trail old a f (act_trail trail (put v) a e)
value_local delete path tree trail old a f s e = delete_local path tree trail old a f s e
value_local (replace v) path tree trail old a f s e = end_local path tree trail old a f (act_trail trail (put v) a e)
value_local (push_last vs) path tree trail old a f s e = end_local path tree trail old a f (array_trail (array_elements old) trail (push vs) a e)
value_local (push_first vs) path tree trail old a f s e = end_local path tree trail old a f (array_trail (array_elements old) trail (insert 0 vs) a e)
value_local (array_insert vs) path tree trail old a f s e = insert_local path tree trail old vs a f s.1 e
value_local (add_unique kind w) path tree trail old a f s e = end_local path tree trail old a f (set_trail (array_elements old) w trail (push (element (leaf kind w))) a e)
value_local (counter delta) path tree trail old a f s e = end_local path tree trail old a f (counted_trail trail delta (number_of old) a e)

-- ---- at a gap

made_local : (path : List Part) (tree : Tree) (trail : List ℕ) (u v : Tree) (absent : List Part) (a : Act) (o : Option (List (List ℕ))) → names_of absent ≡ o → Follows path tree (missing trail u absent) → Fits tree → NamesUtf8 path
    → made trail v o ≡ fine a → Local path tree a
made_local path tree trail u v absent a None is f fits utf8 e = cc
made_local path tree trail u v absent a (Some []) is f fits utf8 e = cc
made_local path tree trail u v absent a (Some (name ∷ names)) is f fits utf8 e =
    let w = missing_way path tree trail u absent f in
    let n = named_split absent name names is in
    let same : (λ (x y : Act). x ≡ y) (record { trail = trail; change = push (member name (nested names v)); number = None }) a = cc in
    let begins = Follows (Member name ∷ n.others) u (missing [] u (Member name ∷ n.others)) in
    let stops : begins = subst (λ (l : List Part). Follows l u (missing [] u l)) (sym n.absent_is) w.stops in
    let rest : NamesUtf8 (Member name ∷ n.others) = subst NamesUtf8 (sym n.absent_is) (way_names path tree trail u absent w.way utf8) in
    subst (Local path tree) same (record {
      old = u;
      rest = Member name ∷ n.others;
      way = subst (λ (l : List Part). Way path tree trail u l) (sym n.absent_is) w.way;
      stays = made_stays name n.others names u v stops (way_fits path tree trail u absent w.way fits) n.names_are rest;
    })

make_local : (may : Bool) (path : List Part) (tree : Tree) (trail : List ℕ) (u v : Tree) (absent : List Part) (a : Act) → Follows path tree (missing trail u absent) → Fits tree → NamesUtf8 path → make may trail absent v ≡ fine a → Local path tree a
make_local true path tree trail u v absent a f fits utf8 e = made_local path tree trail u v absent a (names_of absent) refl f fits utf8 e
make_local false path tree trail u v absent a f fits utf8 e = cc

number_local : (n : ℤ) (path : List Part) (tree : Tree) (r : Result Act Status) (a : Act) → with_number n r ≡ fine a → ((b : Act) → r ≡ fine b → Local path tree b) → Local path tree a
number_local n path tree (Ok b) a e law =
    let l = law b refl in
    let same : (λ (x y : Act). x ≡ y) (record { trail = b.trail; change = b.change; number = Some n }) a = cc in
    subst (Local path tree) same (record { old = l.old; rest = l.rest; way = l.way; stays = l.stays })
number_local n path tree (Err s) a e law = cc

length_by : (b : Bool) (path : List Part) (tree : Tree) (trail : List ℕ) (u : Tree) (vs : Parts) (n : ℕ) (trees : List Tree) (a : Act) → array_elements u ≡ Some trees → Follows path tree (missing trail u (At n ∷ []))
    → cond b (act trail (push vs)) (Err status.PATH_ENOENT) ≡ fine a → Local path tree a
length_by true path tree trail u vs n trees a is f e =
    let same : (λ (x y : Act). x ≡ y) (record { trail = trail; change = push vs; number = None }) a = cc in
    subst (Local path tree) same (record { old = u; rest = At n ∷ []; way = (missing_way path tree trail u (At n ∷ []) f).way; stays = elements_stay u vs trees (At n) [] is })
length_by false path tree trail u vs n trees a is f e = cc

length_local : (path : List Part) (tree : Tree) (trail : List ℕ) (u : Tree) (vs : Parts) (absent : List Part) (o : Option (List Tree)) (a : Act) → array_elements u ≡ o → Follows path tree (missing trail u absent) → at_length vs trail o absent ≡ fine a → Local path tree a
length_local path tree trail u vs absent None a is f e = cc
length_local path tree trail u vs [] (Some trees) a is f e = cc
length_local path tree trail u vs (Member name ∷ ps) (Some trees) a is f e = cc
length_local path tree trail u vs (Last ∷ ps) (Some trees) a is f e = cc
length_local path tree trail u vs (At n ∷ []) (Some trees) a is f e = length_by (n == length trees) path tree trail u vs n trees a is f e
length_local path tree trail u vs (At n ∷ p ∷ ps) (Some trees) a is f e = cc

gap_local : (asked : Asked) (several : Bool) (path : List Part) (tree : Tree) (trail : List ℕ) (u : Tree) (absent : List Part) (a : Act) → Follows path tree (missing trail u absent) → Fits tree → NamesUtf8 path → at_gap asked several trail u absent ≡ fine a → Local path tree a
gap_local (dict_add v) several path tree trail u absent a f fits utf8 e = make_local (several || length absent == 1) path tree trail u v absent a f fits utf8 e
gap_local (dict_upsert v) several path tree trail u absent a f fits utf8 e = make_local (several || length absent == 1) path tree trail u v absent a f fits utf8 e
gap_local delete several path tree trail u absent a f fits utf8 e = cc
gap_local (replace v) several path tree trail u absent a f fits utf8 e = cc
gap_local (push_last vs) several path tree trail u absent a f fits utf8 e = make_local several path tree trail u (group shapes.Array vs) absent a f fits utf8 e
gap_local (push_first vs) several path tree trail u absent a f fits utf8 e = make_local several path tree trail u (group shapes.Array vs) absent a f fits utf8 e
gap_local (array_insert vs) several path tree trail u absent a f fits utf8 e = length_local path tree trail u vs absent (array_elements u) a refl f e
gap_local (add_unique kind w) several path tree trail u absent a f fits utf8 e = make_local several path tree trail u (group shapes.Array (element (leaf kind w))) absent a f fits utf8 e
gap_local (counter delta) several path tree trail u absent a f fits utf8 e =
    let v : Tree = leaf kinds.Number (signed_decimal delta) in
    number_local delta path tree (make (several || length absent == 1) trail absent v) a e (λ b h. make_local (several || length absent == 1) path tree trail u v absent b f fits utf8 h)

act_local : (asked : Asked) (several : Bool) (path : List Part) (tree : Tree) (o : Outcome) (a : Act) → Follows path tree o → Fits tree → NamesUtf8 path → Suits path asked → act_at asked several o ≡ fine a → Local path tree a
act_local asked several path tree (reached trail old) a f fits utf8 s e = value_local asked path tree trail old a f s e
act_local asked several path tree (missing trail u absent) a f fits utf8 s e = gap_local asked several path tree trail u absent a f fits utf8 e
act_local asked several path tree (mismatch d) a f fits utf8 s e = cc

-- ---- the law

tree_stays : (edit : Edit) (several : Bool) (all path value : List ℕ) (e : EditedText) (w : Went edit several all path value e) (lookup : Lookup) (others : List Part) → AreNames others → Apart w.parts others
    → look_at lookup (followed others w.tree.tree) ≡ look_at lookup (followed others w.document.tree)
tree_stays edit several all path value e w lookup others names apart =
    let is = read_is all w.document w.text_is in
    let s = w.steps in
    let tree = w.document.tree in
    let local = act_local s.asked several w.parts tree (followed w.parts tree) s.act (follows w.parts tree is.tree) is.tree (path_names w.parts path (path_is path w.parts w.path_is).0) (asked_suits edit w.parts value s.asked s.form s.value_is) s.act_is in
    ap (λ (t : Edited). look_at lookup (followed others t.tree)) (sym s.result)
    ∙ way_stays w.parts tree s.act.trail local.old local.rest (changed s.act.change) is.tree local.way local.stays lookup others names apart

same_parts : (ps qs : List Part) → fine ps ≡ fine qs → ps ≡ qs
same_parts ps qs e = cc

-- what a path of names finds that parts from an edit's path stays
pub others_stay : (edit : Edit) (several : Bool) (all path value : List ℕ) (e : EditedText) (lookup : Lookup) (other : List ℕ) (parts others : List Part) → edited edit several all path value ≡ Ok e
    → ReadsPath path (Ok parts) → ReadsPath other (Ok others) → AreNames others → Apart parts others → looked_up lookup e.text other ≡ looked_up lookup all other
others_stay edit several all path value e lookup other parts others h p q names apart =
    let w = went edit several all path value e h in
    let mine : parts ≡ w.parts = same_parts parts w.parts (path_only path (fine parts) p ∙ w.path_is) in
    let read : read_parts other ≡ fine others = sym (path_only other (fine others) q) in
    let left = left_text edit several all path value e w in
    looked_is lookup e.text other others (with_tree w.document w.tree.tree) read (text_is e.text (with_tree w.document w.tree.tree) left)
    ∙ tree_stays edit several all path value e w lookup others names (subst (λ (l : List Part). Apart l others) mine apart)
    ∙ sym (looked_is lookup all other others w.document read w.text_is)
