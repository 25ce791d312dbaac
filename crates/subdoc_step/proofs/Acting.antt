-- What is done where a path leads leaves JSON.
use Rattle.std.proofs.Common.{◌≡◌, ℕ, List, [], ◌∷◌, length, Bool, true, false, cond, Option, Some, None, Result, Ok, Err, refl, sym, ap, subst, ◌∙◌}
use Rattle.std.specs.Prelude.{ℤ, ◌+ℤ◌, IsUtf8, nat_eq, ◌||◌, ◌==◌, option_map}
use Rattle.std.specs.Cmp.Lexicographic.{pointwise}
use Rattle.std.specs.List.{list_all, list_any, AllByRecursion}
use Rattle.std.specs.Fmt.{signed_decimal}
use Rattle.doc_model.specs.declared.status.Status.{Status}
use Rattle.doc_model.specs.declared.status.TheConstants.Status as status
use Rattle.json_model.specs.declared.kinds.Kind.TheVariants as kinds
use Rattle.json_model.specs.declared.kinds.Shape.{Shape}
use Rattle.json_model.specs.declared.kinds.Shape.TheVariants as shapes
use Rattle.json_model.specs.declared.asked.Part.{Part}
use Rattle.json_model.specs.declared.asked.Part.TheVariants.{Member, At, Last}
use Rattle.json_model.specs.Spelled.{Tree, leaf, empty, group, Parts, text, Fits, PartsFit}
use Rattle.json_model.specs.Follow.{asks, Outcome, reached, missing, mismatch, Follows}
use Rattle.json_model.specs.Moves.{put, push, insert, Takes, ChangeFits}
use Rattle.json_model.specs.Splices.{Reaches}
use Rattle.json_model.specs.Edit.{Asked, Act, dict_add, dict_upsert, delete, replace, push_last, push_first, array_insert, add_unique, counter, act, above, array_elements, is_leaf, to_array, to_set, counted, number_of, at_value, names_of, made, make, with_number, at_length, at_gap, act_at, member, nested, element, fits_i64}
use Rattle.json_model.proofs.Following.{reached_trail, missing_trail}
use Rattle.subdoc_step.proofs.Keys.{key_string}
use Rattle.subdoc_step.proofs.Names.{NamesUtf8}
use Rattle.subdoc_step.proofs.Suits.{Suits, signed_number}
use Rattle.subdoc_step.proofs.Trails.{reaches_found, reaches_one, index_above, HasShape, missing_gap}

-- what a change brings may stand where its trail leads
abbrev pub ActFits : Tree → Result Act Status → Type 0
ActFits tree (Ok a) = (t : Tree) → Reaches a.trail tree t → ChangeFits a.change t
ActFits tree (Err s) = Unit {0}

if_fits : (tree : Tree) (b : Bool) (x y : Result Act Status) → ActFits tree x → ActFits tree y → ActFits tree (cond b x y)
if_fits tree true x y f g = f
if_fits tree false x y f g = g

-- ---- arrays

array_takes : (t : Tree) (trees : List Tree) (vs : Parts) → array_elements t ≡ Some trees → PartsFit shapes.Array vs → Takes t vs
array_takes (leaf kind s) trees vs e f = tt
array_takes (empty shapes.Object gap) trees vs e f = cc
array_takes (empty shapes.Array gap) trees vs e f = f
array_takes (group shapes.Object parts) trees vs e f = cc
array_takes (group shapes.Array parts) trees vs e f = f

-- elements may stand in an array at the end of a trail
takes_there : (tree old : Tree) (trail : List ℕ) (trees : List Tree) (vs : Parts) → array_elements old ≡ Some trees → Reaches trail tree old → PartsFit shapes.Array vs → (t : Tree) → Reaches trail tree t → Takes t vs
takes_there tree old trail trees vs e r f t s = array_takes t trees vs (ap array_elements (reaches_one trail tree t old s r) ∙ e) f

push_fits : (tree old : Tree) (trail : List ℕ) (vs : Parts) (o : Option (List Tree)) → array_elements old ≡ o → Reaches trail tree old → PartsFit shapes.Array vs → ActFits tree (to_array o (act trail (push vs)))
push_fits tree old trail vs None e r f = tt
push_fits tree old trail vs (Some trees) e r f = takes_there tree old trail trees vs e r f

insert_fits : (tree old : Tree) (trail : List ℕ) (vs : Parts) (o : Option (List Tree)) → array_elements old ≡ o → Reaches trail tree old → PartsFit shapes.Array vs → ActFits tree (to_array o (act trail (insert 0 vs)))
insert_fits tree old trail vs None e r f = tt
insert_fits tree old trail vs (Some trees) e r f = takes_there tree old trail trees vs e r f

set_fits : (tree old : Tree) (trail : List ℕ) (vs : Parts) (s : List ℕ) (o : Option (List Tree)) → array_elements old ≡ o → Reaches trail tree old → PartsFit shapes.Array vs → ActFits tree (to_set o s (act trail (push vs)))
set_fits tree old trail vs s None e r f = tt
set_fits tree old trail vs s (Some trees) e r f =
    if_fits tree (list_all is_leaf trees) _ (Err status.PATH_MISMATCH)
    (if_fits tree (list_any (λ t. pointwise nat_eq (text t) s) trees) (Err status.PATH_EEXISTS) (act trail (push vs)) tt (takes_there tree old trail trees vs e r f)) tt

-- ---- counters

counted_by : (tree : Tree) (trail : List ℕ) (n : ℤ) (b : Bool) → fits_i64 n ≡ b
    → ActFits tree (cond b (Ok (record { trail = trail; change = put (leaf kinds.Number (signed_decimal n)); number = Some n })) (Err status.VALUE_CANT_INSERT))
counted_by tree trail n true e = λ t r. signed_number n e
counted_by tree trail n false e = tt

counted_fits : (tree : Tree) (trail : List ℕ) (delta : ℤ) (o : Option ℤ) → ActFits tree (counted trail delta o)
counted_fits tree trail delta None = tt
counted_fits tree trail delta (Some n) =
    if_fits tree (fits_i64 n) _ (Err status.NUM_ERANGE) (counted_by tree trail (n +ℤ delta) (fits_i64 (n +ℤ delta)) refl) tt

-- ---- at a value

value_fits : (asked : Asked) (path : List Part) (tree : Tree) (trail : List ℕ) (old : Tree) → Follows path tree (reached trail old) → Suits path asked → ActFits tree (at_value asked trail old)
value_fits (dict_add v) path tree trail old f s = tt
value_fits (dict_upsert v) path tree trail old f s = λ t r. s
value_fits delete path tree trail old f s = λ t r. tt
value_fits (replace v) path tree trail old f s = λ t r. s
value_fits (push_last vs) path tree trail old f s = push_fits tree old trail vs (array_elements old) refl (reached_trail path tree trail old f) s
value_fits (push_first vs) path tree trail old f s = insert_fits tree old trail vs (array_elements old) refl (reached_trail path tree trail old f) s
value_fits (array_insert vs) path tree trail old f s = λ t r. index_above path tree trail old t f s.1 (reaches_found (above trail) tree t r) vs s.0
value_fits (add_unique kind s) path tree trail old f is = set_fits tree old trail (element (leaf kind s)) s (array_elements old) refl (reached_trail path tree trail old f) (tt, is, tt)
value_fits (counter delta) path tree trail old f s = counted_fits tree trail delta (number_of old)

-- ---- at a gap

-- names that are UTF-8
abbrev AreUtf8 : List (List ℕ) → Type 0
AreUtf8 = AllByRecursion (λ (name : List ℕ). IsUtf8 name)

abbrev named_so : List (List ℕ) → Option (List (List ℕ))
named_so names = Some names

with_name : (name : List ℕ) (o : Option (List (List ℕ))) (names : List (List ℕ)) → option_map (λ names. name ∷ names) o ≡ named_so names → ((ns : List (List ℕ)) → o ≡ named_so ns → AreUtf8 ns) → IsUtf8 name → AreUtf8 names
with_name name None names e law is = cc
with_name name (Some ns) names e law is = let same : name ∷ ns ≡ names = cc in subst AreUtf8 same (is, law ns refl)

names_utf8 : (ps : List Part) (names : List (List ℕ)) → NamesUtf8 ps → names_of ps ≡ named_so names → AreUtf8 names
names_utf8 [] names n e = let same : [] ≡ names = cc in subst AreUtf8 same tt
names_utf8 (Member name ∷ ps) names n e = with_name name (names_of ps) names e (λ ns h. names_utf8 ps ns n.1 h) n.0
names_utf8 (At k ∷ ps) names n e = cc
names_utf8 (Last ∷ ps) names n e = cc

name_asks : (p : Part) (ps : List Part) (names : List (List ℕ)) → names_of (p ∷ ps) ≡ named_so names → asks p ≡ shapes.Object
name_asks (Member name) ps names e = refl
name_asks (At n) ps names e = cc
name_asks Last ps names e = cc

nested_fits : (names : List (List ℕ)) (v : Tree) → AreUtf8 names → Fits v → Fits (nested names v)
nested_fits [] v n f = f
nested_fits (name ∷ names) v n f = ((tt, key_string name n.0, tt, tt), nested_fits names v n.1 f, tt)

member_takes : (t : Tree) (vs : Parts) → HasShape t shapes.Object → PartsFit shapes.Object vs → Takes t vs
member_takes (leaf kind s) vs has f = absurd has
member_takes (empty own gap) vs has f = subst (λ (s : Shape). PartsFit s vs) has f
member_takes (group own parts) vs has f = subst (λ (s : Shape). PartsFit s vs) has f

-- a value in which parts name nothing, and the parts
record Hole (tree : Tree) (trail : List ℕ) (parent : Tree) (absent : List Part) : Type 0 where
  leads : Reaches trail tree parent
  part : Part
  others : List Part
  absent_is : absent ≡ part ∷ others
  shape_is : HasShape parent (asks part)
  utf8 : NamesUtf8 absent

made_fits : (tree : Tree) (trail : List ℕ) (parent v : Tree) (absent : List Part) (o : Option (List (List ℕ))) → names_of absent ≡ o → Hole tree trail parent absent → Fits v → ActFits tree (made trail v o)
made_fits tree trail parent v absent None e h f = tt
made_fits tree trail parent v absent (Some []) e h f = tt
made_fits tree trail parent v absent (Some (name ∷ names)) e h f =
    let utf8 = names_utf8 absent (name ∷ names) h.utf8 e in
    let object : HasShape parent shapes.Object = subst (HasShape parent) (name_asks h.part h.others (name ∷ names) (ap names_of (sym h.absent_is) ∙ e)) h.shape_is in
    let fits : PartsFit shapes.Object (member name (nested names v)) = ((tt, key_string name utf8.0, tt, tt), nested_fits names v utf8.1 f, tt) in
    λ t r. subst (λ (u : Tree). Takes u (member name (nested names v))) (reaches_one trail tree parent t h.leads r) (member_takes parent (member name (nested names v)) object fits)

make_fits : (may : Bool) (tree : Tree) (trail : List ℕ) (parent v : Tree) (absent : List Part) → Hole tree trail parent absent → Fits v → ActFits tree (make may trail absent v)
make_fits true tree trail parent v absent h f = made_fits tree trail parent v absent (names_of absent) refl h f
make_fits false tree trail parent v absent h f = tt

number_fits : (tree : Tree) (n : ℤ) (r : Result Act Status) → ActFits tree r → ActFits tree (with_number n r)
number_fits tree n (Ok a) f = f
number_fits tree n (Err s) f = tt

length_fits : (tree parent : Tree) (trail : List ℕ) (vs : Parts) (absent : List Part) (o : Option (List Tree)) → array_elements parent ≡ o → Reaches trail tree parent → PartsFit shapes.Array vs → ActFits tree (at_length vs trail o absent)
length_fits tree parent trail vs absent None e r f = tt
length_fits tree parent trail vs [] (Some trees) e r f = tt
length_fits tree parent trail vs (Member name ∷ ps) (Some trees) e r f = tt
length_fits tree parent trail vs (Last ∷ ps) (Some trees) e r f = tt
length_fits tree parent trail vs (At n ∷ []) (Some trees) e r f =
    if_fits tree (n == length trees) (act trail (push vs)) (Err status.PATH_ENOENT) (takes_there tree parent trail trees vs e r f) tt
length_fits tree parent trail vs (At n ∷ p ∷ ps) (Some trees) e r f = tt

gap_fits : (asked : Asked) (several : Bool) (path : List Part) (tree : Tree) (trail : List ℕ) (parent : Tree) (absent : List Part) → Hole tree trail parent absent → Suits path asked → ActFits tree (at_gap asked several trail parent absent)
gap_fits (dict_add v) several path tree trail parent absent h s = make_fits (several || length absent == 1) tree trail parent v absent h s
gap_fits (dict_upsert v) several path tree trail parent absent h s = make_fits (several || length absent == 1) tree trail parent v absent h s
gap_fits delete several path tree trail parent absent h s = tt
gap_fits (replace v) several path tree trail parent absent h s = tt
gap_fits (push_last vs) several path tree trail parent absent h s = make_fits several tree trail parent (group shapes.Array vs) absent h s
gap_fits (push_first vs) several path tree trail parent absent h s = make_fits several tree trail parent (group shapes.Array vs) absent h s
gap_fits (array_insert vs) several path tree trail parent absent h s = length_fits tree parent trail vs absent (array_elements parent) refl h.leads s.0
gap_fits (add_unique kind s) several path tree trail parent absent h is = make_fits several tree trail parent (group shapes.Array (element (leaf kind s))) absent h (tt, is, tt)
gap_fits (counter delta) several path tree trail parent absent h s =
    number_fits tree delta _ (make_fits (several || length absent == 1) tree trail parent (leaf kinds.Number (signed_decimal delta)) absent h (signed_number delta s))

-- what is done where a path leads may stand there
pub act_fits : (asked : Asked) (several : Bool) (path : List Part) (tree : Tree) (o : Outcome) → Follows path tree o → NamesUtf8 path → Suits path asked → ActFits tree (act_at asked several o)
act_fits asked several path tree (reached trail old) f n s = value_fits asked path tree trail old f s
act_fits asked several path tree (missing trail parent absent) f n s =
    let g = missing_gap path tree trail parent absent f in
    gap_fits asked several path tree trail parent absent
    (record { leads = missing_trail path tree trail parent absent f; part = g.part; others = g.others; absent_is = g.absent_is; shape_is = g.shape_is; utf8 = g.names n }) s
act_fits asked several path tree (mismatch d) f n s = tt
