-- What is done where a path leads to a value.
use Rattle.std.proofs.Common.{◌≡◌, ℕ, nat_eq, suc, ◌+◌, ◌-◌, ◌<◌, List, [], ◌∷◌, ◌++◌, length, take, Bool, true, false, Option, None, Some, Result, Ok, Err, inl, inr, refl, sym, ap, subst, ◌∙◌, arith, ℤ}
use Rattle.std.specs.Prelude.{if◌then◌else◌}
use Rattle.std.specs.List.{list_all, list_any}
use Rattle.std.specs.Cmp.Lexicographic.{pointwise}
use Rattle.doc_model.specs.declared.status.Status.{Status}
use Rattle.doc_model.specs.declared.status.TheConstants.Status as status
use Rattle.doc_model.specs.declared.status.Refused.TheVariants as refusals
use Rattle.json_model.specs.declared.kinds.Kind.{Kind}
use Rattle.json_model.specs.declared.kinds.Kind.TheVariants as kinds
use Rattle.json_model.specs.declared.kinds.Shape.{Shape}
use Rattle.json_model.specs.declared.kinds.Shape.TheVariants as shapes
use Rattle.json_model.specs.declared.asked.Part.{Part}
use Rattle.json_model.specs.Grammar.{IsLeaf}
use Rattle.json_model.specs.Spelled.{Tree, leaf, empty, group, Parts, text, count, Fits, Document}
use Rattle.json_model.specs.Follow.{Outcome, reached, Follows}
use Rattle.json_model.specs.Moves.{Change, put, push, insert, remove}
use Rattle.json_model.specs.Splices.{Reaches}
use Rattle.json_model.specs.Edit.{Asked, delete, array_insert, add_unique, counter, Act, act, above, final, elements, array_elements, is_leaf, element, to_array, to_set, at_value, act_at}
use Rattle.json_model.specs.Order.{ends_in_index}
use Rattle.json_model.specs.Values.{GivesTree, GivesParts, GivesLeaf, GivesDelta, IsDelta}
use Rattle.json_model.proofs.Following.{reached_trail}
use Rattle.json_walk.specs.Places.{IsAt}
use Rattle.json_walk.specs.Telling.{tree_kind}
use Rattle.subdoc_path.specs.declared.led.Led.TheVariants as led
use Rattle.subdoc_path.specs.Led.{StandsAt, LeadsAt}
use Rattle.subdoc_edit.specs.declared.values.Given.{Given}
use Rattle.subdoc_edit.specs.declared.plan.Plan.{Plan}
use Rattle.subdoc_edit.specs.declared.plan.Content.{Content}
use Rattle.subdoc_edit.specs.Given.{IsTree, IsParts, Describes, IsCutOut, given_bytes}
use Rattle.subdoc_edit.specs.Splicing.{IsArray, Holds, IsStanding, IsPartOf, value_in}
use Rattle.subdoc_edit.specs.Parts.{TellsLeaves, TellsText}
use Rattle.subdoc_edit.specs.Planning.{Plans, LeadsTo, IsNew, IsContent, PlansPut, PlansPush, PlansInsert, PlansRemove, Decides, TellsArray, TellsSet, TellsCounter}
use Rattle.subdoc_edit.proofs.Spots.{text_place, stands_of, place_is}
use Rattle.subdoc_edit.proofs.Trails.{leads_at, trail_long, inner, fronts, fronts_take, child_few, above_long, told_at}

-- ---- what is given

-- an answer that is fine
abbrev fine : Asked → Result Asked Status
fine a = Ok a

-- one that isn't
abbrev bad : Status → Result Asked Status
bad s = Err s

fine_same : (a b : Asked) → fine a ≡ fine b → a ≡ b
fine_same a b e = cc

fine_bad : (a : Asked) (s : Status) → fine a ≡ bad s → ⊥
fine_bad a s e = cc

pub gives_tree : (con : Tree → Asked) (value : List ℕ) (asked : Asked) → GivesTree con value (Ok asked) → (v : Tree) × (asked ≡ con v)
gives_tree con value asked (inl (d, is, e)) = (d.tree, fine_same asked (con d.tree) e)
gives_tree con value asked (inr (inl (place, deep, is, less, e))) = (deep, fine_same asked (con deep) e)
gives_tree con value asked (inr (inr (place, isnt, e))) = absurd (fine_bad asked status.VALUE_CANT_INSERT e)

pub gives_parts : (con : Parts → Asked) (value : List ℕ) (asked : Asked) → GivesParts con value (Ok asked) → (ps : Parts) × (asked ≡ con ps)
gives_parts con value asked (inl (d, parts, is, tree, e)) = (Rattle.json_model.specs.Moves.trimmed parts, fine_same asked (con (Rattle.json_model.specs.Moves.trimmed parts)) e)
gives_parts con value asked (inr (inl (d, gap, is, tree, e))) = absurd (fine_bad asked status.VALUE_CANT_INSERT e)
gives_parts con value asked (inr (inr (inl (place, isnt, e)))) = absurd (fine_bad asked status.VALUE_CANT_INSERT e)
gives_parts con value asked (inr (inr (inr (place, deep, e)))) = absurd (fine_bad asked status.VALUE_ETOODEEP e)

pub gives_leaf : (con : Kind → List ℕ → Asked) (value : List ℕ) (asked : Asked) → GivesLeaf con value (Ok asked) → (kind : Kind) × (s : List ℕ) × (asked ≡ con kind s)
gives_leaf con value asked (inl (d, kind, s, is, tree, e)) = (kind, s, fine_same asked (con kind s) e)
gives_leaf con value asked (inr (none, e)) = absurd (fine_bad asked status.VALUE_CANT_INSERT e)

pub gives_delta : (value : List ℕ) (asked : Asked) → GivesDelta value (Ok asked) → (delta : ℤ) × IsDelta delta value × (asked ≡ counter delta)
gives_delta value asked (inl (delta, is, e)) = (delta, is, fine_same asked (counter delta) e)
gives_delta value asked (inr (none, e)) = absurd (fine_bad asked status.DELTA_EINVAL e)

pub gives_delete : (asked : Asked) → fine asked ≡ fine delete → asked ≡ delete
gives_delete asked e = fine_same asked delete e

no_more : (l : List ℕ) → l ++ [] ≡ l
no_more [] = refl
no_more (x ∷ l) = ap (λ (m : List ℕ). x ∷ m) (no_more l)

-- one value, as it is written
abbrev pub one_value : Given → Content
one_value g = record { from = g.from; to = g.to; listed = false; depth = g.depth; number = None }

pub content_of : (value : List ℕ) (g : Given) (v : Tree) → IsTree value g v → IsContent value (one_value g) v
content_of value g v (inl (fits, cut, text_is, depth_is, less)) = inl (record { ordered = cut.ordered; within = cut.within; text_is = text_is ∙ sym (no_more (given_bytes value g)); depth_is = depth_is })
content_of value g v (inr h) = inr h

pub new_of : (value : List ℕ) (g : Given) (ps : Parts) → IsParts value g ps → IsNew value g ps
new_of value g ps (fits, cut, text_is, depth_is, less, led_is, ended_is) = record { trimmed = record { led_is = led_is; ended_is = ended_is }; cut = cut; text_is = text_is; depth_is = depth_is; shallow = less }

pub new_leaf : (value : List ℕ) (g : Given) (kind : Kind) (s : List ℕ) → IsCutOut value g → s ≡ given_bytes value g → g.depth ≡ 0 → IsNew value g (element (leaf kind s))
new_leaf value g kind s cut text_is depth_is = record { trimmed = record { led_is = refl; ended_is = refl }; cut = cut; text_is = no_more s ∙ text_is; depth_is = sym depth_is; shallow = omega (arith, depth_is) }

-- ---- where

pub stands_there : (bytes : List ℕ) (d : Document) (trail : List ℕ) (t : Tree) (at : ℕ) → StandsAt bytes d trail t at → IsStanding bytes at
stands_there bytes d trail t at s = (t, s.place)

pub found_stands : (bytes : List ℕ) (parts : List Part) (d : Document) (at : ℕ) → LeadsTo bytes parts d at → IsStanding bytes at
found_stands bytes parts d at l = let r = leads_at bytes parts d at l.leads in (r.tree, r.stands.place)

-- ---- decisions

pub decided : (asked : Asked) (several : Bool) (bytes value : List ℕ) (parts : List Part) (d : Document) (p : Plan) (o : Outcome) (a : Act) → Follows parts d.tree o → act_at asked several o ≡ Ok a → Plans bytes value d a.trail a.change p → a.number ≡ p.number → Decides asked several bytes value parts d (Ok p)
decided asked several bytes value parts d p o a f e plans number = (a, (o, f, sym e), plans, number)

pub refused : (asked : Asked) (several : Bool) (bytes value : List ℕ) (parts : List Part) (d : Document) (s : Status) (o : Outcome) → Follows parts d.tree o → act_at asked several o ≡ Err s → Decides asked several bytes value parts d (Err (refusals.Status s))
refused asked several bytes value parts d s o f e = (o, f, sym e)

abbrev plain_act : List ℕ → Change → Act
plain_act trail change = record { trail = trail; change = change; number = None }

pub decides_as : (asked other : Asked) (several : Bool) (bytes value : List ℕ) (parts : List Part) (d : Document) (r : Result Plan Rattle.doc_model.specs.declared.status.Refused.Refused) → asked ≡ other → Decides other several bytes value parts d r → Decides asked several bytes value parts d r
decides_as asked other several bytes value parts d r e h = subst (λ (a : Asked). Decides a several bytes value parts d r) (sym e) h

-- a value in place of another
pub put_decides : (con : Tree → Asked) (several : Bool) (bytes value : List ℕ) (parts : List Part) (d : Document) (at : ℕ) (g : Given) (p : Plan) (asked : Asked)
    → ((v : Tree) (trail : List ℕ) (t : Tree) → at_value (con v) trail t ≡ act trail (put v)) → ((v : Tree) → Describes value g (con v) → IsTree value g v)
    → PlansPut bytes value at (length parts) (one_value g) p → p.number ≡ None → LeadsTo bytes parts d at → GivesTree con value (Ok asked) → Describes value g asked → Decides asked several bytes value parts d (Ok p)
put_decides con several bytes value parts d at g p asked same tree plans number l gives describes =
    let v = gives_tree con value asked gives in
    let r = leads_at bytes parts d at l.leads in
    let w = tree v.0 (subst (λ (a : Asked). Describes value g a) v.1 describes) in
    decides_as asked (con v.0) several bytes value parts d (Ok p) v.1
    (decided (con v.0) several bytes value parts d p (reached r.trail r.tree) (plain_act r.trail (put v.0)) r.follows (same v.0 r.trail r.tree)
    (plans d r.trail r.tree v.0 r.stands (sym (trail_long parts d.tree r.trail r.tree r.follows)) (content_of value g v.0 w)) (sym number))

-- ---- arrays

object_array : kinds.Object ≡ kinds.Array → ⊥
object_array e = cc

pub array_yes : (t : Tree) (kind : Kind) → Fits t → kind ≡ tree_kind t → kind ≡ kinds.Array → TellsArray t true
array_yes (leaf other s) kind fits is k = absurd (subst (λ (x : Kind). IsLeaf x s) (sym is ∙ k) fits)
array_yes (empty shapes.Object gap) kind fits is k = absurd (object_array (sym is ∙ k))
array_yes (empty shapes.Array gap) kind fits is k = (refl, [], refl)
array_yes (group shapes.Object ps) kind fits is k = absurd (object_array (sym is ∙ k))
array_yes (group shapes.Array ps) kind fits is k = (refl, elements ps, refl)

pub array_no : (t : Tree) (kind : Kind) → kind ≡ tree_kind t → (kind ≡ kinds.Array → ⊥) → array_elements t ≡ None
array_no (leaf other s) kind is k = refl
array_no (empty shapes.Object gap) kind is k = refl
array_no (empty shapes.Array gap) kind is k = absurd (k is)
array_no (group shapes.Object ps) kind is k = refl
array_no (group shapes.Array ps) kind is k = absurd (k is)

pub array_holds : (t : Tree) → IsArray t → Holds t
array_holds (leaf kind s) h = h
array_holds (empty shape gap) h = tt
array_holds (group shape ps) h = tt

-- no array
pub no_array : (con : Parts → Asked) (change : Parts → Change) (several : Bool) (bytes value : List ℕ) (parts : List Part) (d : Document) (at : ℕ) (g : Given) (asked : Asked)
    → ((vs : Parts) (trail : List ℕ) (t : Tree) → at_value (con vs) trail t ≡ to_array (array_elements t) (act trail (change vs)))
    → ((t : Tree) → IsAt bytes at t → TellsArray t false)
    → LeadsTo bytes parts d at → GivesParts con value (Ok asked) → Decides asked several bytes value parts d (Err (refusals.Status status.PATH_MISMATCH))
no_array con change several bytes value parts d at g asked same none l gives =
    let vs = gives_parts con value asked gives in
    let r = leads_at bytes parts d at l.leads in
    decides_as asked (con vs.0) several bytes value parts d (Err (refusals.Status status.PATH_MISMATCH)) vs.1
    (refused (con vs.0) several bytes value parts d status.PATH_MISMATCH (reached r.trail r.tree) r.follows
    (same vs.0 r.trail r.tree ∙ ap (λ (e : Option (List Tree)). to_array e (act r.trail (change vs.0))) (none r.tree r.stands.place)))

-- an array
pub an_array : (con : Parts → Asked) (change : Parts → Change) (several : Bool) (bytes value : List ℕ) (parts : List Part) (d : Document) (at : ℕ) (g : Given) (p : Plan) (asked : Asked)
    → ((vs : Parts) (trail : List ℕ) (t : Tree) → at_value (con vs) trail t ≡ to_array (array_elements t) (act trail (change vs))) → ((vs : Parts) → Describes value g (con vs) → IsParts value g vs)
    → ((t : Tree) → IsAt bytes at t → TellsArray t true)
    → ((trail : List ℕ) (t : Tree) (new : Parts) → StandsAt bytes d trail t at → length parts ≡ length trail → IsArray t → IsNew value g new → Plans bytes value d trail (change new) p) → p.number ≡ None
    → LeadsTo bytes parts d at → GivesParts con value (Ok asked) → Describes value g asked → Decides asked several bytes value parts d (Ok p)
an_array con change several bytes value parts d at g p asked same new array plans number l gives describes =
    let vs = gives_parts con value asked gives in
    let r = leads_at bytes parts d at l.leads in
    let st = r.stands in
    let a = array r.tree r.stands.place in
    let w = new_of value g vs.0 (new vs.0 (subst (λ (b : Asked). Describes value g b) vs.1 describes)) in
    decides_as asked (con vs.0) several bytes value parts d (Ok p) vs.1
    (decided (con vs.0) several bytes value parts d p (reached r.trail r.tree) (plain_act r.trail (change vs.0)) r.follows
    (same vs.0 r.trail r.tree ∙ ap (λ (e : Option (List Tree)). to_array e (act r.trail (change vs.0))) a.2)
    (plans r.trail r.tree vs.0 st (sym (trail_long parts d.tree r.trail r.tree r.follows)) a.0 w) (sym number))

-- ---- parts of what the front of the path leads to

-- the value that holds the one there
pub record Outer (bytes : List ℕ) (parts : List Part) (d : Document) (at : ℕ) : Type 0 where
  pub trail : List ℕ
  pub tree : Tree
  pub follows : Follows parts d.tree (reached trail tree)
  pub shape : Shape
  pub inside : Parts
  pub reaches : Reaches (above trail) d.tree (group shape inside)
  pub front : Follows (take (length parts - 1) parts) d.tree (reached (above trail) (group shape inside))
  pub few : final trail < count inside
  pub place_is : at ≡ length d.before + text_place (above trail) d.tree + 1 + value_in (final trail) inside
  pub long : length parts ≡ length (above trail) + 1
  pub indexed : ends_in_index parts ≡ true → shape ≡ shapes.Array

outer_of : (bytes : List ℕ) (parts ps : List Part) (p : Part) (d : Document) (at : ℕ) → parts ≡ p ∷ ps → LeadsTo bytes parts d at → Outer bytes parts d at
outer_of bytes parts ps p d at e l =
    let r = leads_at bytes parts d at l.leads in
    let i = inner p ps d.tree r.trail r.tree (subst (λ (q : List Part). Follows q d.tree (reached r.trail r.tree)) e r.follows) in
    let front_is : take (length parts - 1) parts ≡ fronts (p ∷ ps) =
    let one : length parts ≡ suc (length ps) = ap (λ (q : List Part). length q) e in
    let less : length parts - 1 ≡ length ps = omega (arith, one) in
    ap (λ (n : ℕ). take n parts) less ∙ ap (λ (q : List Part). take (length ps) q) e ∙ fronts_take (p ∷ ps) (length ps) refl
    in
    record {
      trail = r.trail;
      tree = r.tree;
      follows = r.follows;
      shape = i.shape;
      inside = i.parts;
      reaches = reached_trail (fronts (p ∷ ps)) d.tree (above r.trail) (group i.shape i.parts) i.front;
      front = subst (λ (q : List Part). Follows q d.tree (reached (above r.trail) (group i.shape i.parts))) (sym front_is) i.front;
      few = child_few i.parts (final r.trail) r.tree i.child;
      place_is = omega (arith, place_is bytes d r.trail r.tree at r.stands, i.place_is);
      long = omega (arith, trail_long parts d.tree r.trail r.tree r.follows, ap (λ (k : List ℕ). length k) i.trail_is, ap (λ (k : List ℕ). length (above k)) i.trail_is, above_long i.head i.tail);
      indexed = λ h. i.indexed (subst (λ (q : List Part). ends_in_index q ≡ true) e h);
    }

pub outer : (bytes : List ℕ) (parts : List Part) (d : Document) (at : ℕ) → 0 < length parts → LeadsTo bytes parts d at → Outer bytes parts d at
outer bytes [] d at some l = absurd (omega (arith, some))
outer bytes (p ∷ ps) d at some l = outer_of bytes (p ∷ ps) ps p d at refl l

-- where the one that holds it stands, its place among the parts is known
outer_place : (bytes : List ℕ) (parts : List Part) (d : Document) (at whole : ℕ) (o : Outer bytes parts d at) → StandsAt bytes d (above o.trail) (group o.shape o.inside) whole → at ≡ whole + 1 + value_in (final o.trail) o.inside
outer_place bytes parts d at whole o s = omega (arith, o.place_is, place_is bytes d (above o.trail) (group o.shape o.inside) whole s)

outer_told : (bytes : List ℕ) (parts front : List Part) (d : Document) (at whole : ℕ) (o : Outer bytes parts d at) → front ≡ take (length parts - 1) parts → LeadsAt front bytes d (led.At whole) → StandsAt bytes d (above o.trail) (group o.shape o.inside) whole
outer_told bytes parts front d at whole o e leads =
    told_at bytes (take (length parts - 1) parts) d (group o.shape o.inside) (above o.trail) whole o.front (subst (λ (q : List Part). LeadsAt q bytes d (led.At whole)) e leads)

pub remove_decides : (several : Bool) (bytes value : List ℕ) (parts front : List Part) (d : Document) (at whole : ℕ) (p : Plan) (asked : Asked) → 0 < length parts → front ≡ take (length parts - 1) parts
    → LeadsAt front bytes d (led.At whole) → PlansRemove bytes value whole at p → p.number ≡ None → LeadsTo bytes parts d at → fine asked ≡ fine delete → Decides asked several bytes value parts d (Ok p)
remove_decides several bytes value parts front d at whole p asked some front_is leads plans number l gives =
    let o = outer bytes parts d at some l in
    let s = outer_told bytes parts front d at whole o front_is leads in
    decides_as asked delete several bytes value parts d (Ok p) (gives_delete asked gives)
    (decided delete several bytes value parts d p (reached o.trail o.tree) (plain_act (above o.trail) (remove (final o.trail))) o.follows refl
    (plans d (above o.trail) o.shape o.inside (final o.trail) s o.few (outer_place bytes parts d at whole o s)) (sym number))

pub remove_part : (bytes : List ℕ) (parts front : List Part) (d : Document) (at whole : ℕ) → 0 < length parts → front ≡ take (length parts - 1) parts → LeadsAt front bytes d (led.At whole) → LeadsTo bytes parts d at → IsPartOf bytes whole at
remove_part bytes parts front d at whole some front_is leads l =
    let o = outer bytes parts d at some l in
    let s = outer_told bytes parts front d at whole o front_is leads in
    (o.shape, o.inside, final o.trail, s.place, o.few, outer_place bytes parts d at whole o s)

indexed_some : (parts : List Part) → ends_in_index parts ≡ true → 0 < length parts
indexed_some [] e = cc
indexed_some (p ∷ ps) e = omega arith

pub insert_decides : (several : Bool) (bytes value : List ℕ) (parts : List Part) (d : Document) (at : ℕ) (g : Given) (p : Plan) (asked : Asked) → ends_in_index parts ≡ true
    → PlansInsert bytes value at (length parts) g p → p.number ≡ None → LeadsTo bytes parts d at → GivesParts array_insert value (Ok asked) → Describes value g asked → Decides asked several bytes value parts d (Ok p)
insert_decides several bytes value parts d at g p asked form plans number l gives describes =
    let vs = gives_parts array_insert value asked gives in
    let w = new_of value g vs.0 (subst (λ (b : Asked). Describes value g b) vs.1 describes) in
    let o = outer bytes parts d at (indexed_some parts form) l in
    let whole : ℕ = length d.before + text_place (above o.trail) d.tree in
    let s : StandsAt bytes d (above o.trail) (group o.shape o.inside) whole = stands_of bytes d (above o.trail) (group o.shape o.inside) l.is o.reaches in
    let st : StandsAt bytes d (above o.trail) (group shapes.Array o.inside) whole = subst (λ (x : Shape). StandsAt bytes d (above o.trail) (group x o.inside) whole) (o.indexed form) s in
    decides_as asked (array_insert vs.0) several bytes value parts d (Ok p) vs.1
    (decided (array_insert vs.0) several bytes value parts d p (reached o.trail o.tree) (plain_act (above o.trail) (insert (final o.trail) vs.0)) o.follows refl
    (plans d (above o.trail) o.inside (final o.trail) whole vs.0 st o.few (outer_place bytes parts d at whole o s) o.long w) (sym number))

-- ---- sets

-- what is asked of the elements of an array
pub set_no_array : (t : Tree) (kind : Kind) (wanted : List ℕ) → kind ≡ tree_kind t → (kind ≡ kinds.Array → ⊥) → TellsSet t wanted (Some status.PATH_MISMATCH)
set_no_array t kind wanted is k done = ap (λ (e : Option (List Tree)). to_set e wanted done) (array_no t kind is k)

-- what was told of the elements, as it came out
pub leaves_told : (bytes : List ℕ) (at : ℕ) (answer came : Bool) (t : Tree) (trees : List Tree) → TellsLeaves bytes at answer → IsAt bytes at t → array_elements t ≡ Some trees → answer ≡ came → list_all is_leaf trees ≡ came
leaves_told bytes at answer came t trees tells s e is = sym (tells t trees s e) ∙ is

pub text_told : (bytes : List ℕ) (at : ℕ) (wanted : List ℕ) (answer came : Bool) (t : Tree) (trees : List Tree) → TellsText bytes at wanted answer → IsAt bytes at t → array_elements t ≡ Some trees → answer ≡ came
    → list_any (λ u. pointwise nat_eq (text u) wanted) trees ≡ came
text_told bytes at wanted answer came t trees tells s e is = sym (tells t trees s e) ∙ is

pub set_groups : (t : Tree) (trees : List Tree) (wanted : List ℕ) → array_elements t ≡ Some trees → list_all is_leaf trees ≡ false → TellsSet t wanted (Some status.PATH_MISMATCH)
set_groups t trees wanted e held done =
    ap (λ (x : Option (List Tree)). to_set x wanted done) e
    ∙ ap (λ (b : Bool). if b then (if list_any (λ u. pointwise nat_eq (text u) wanted) trees then Err status.PATH_EEXISTS else done) else Err status.PATH_MISMATCH) held

pub set_has : (t : Tree) (trees : List Tree) (wanted : List ℕ) → array_elements t ≡ Some trees → list_all is_leaf trees ≡ true → list_any (λ u. pointwise nat_eq (text u) wanted) trees ≡ true → TellsSet t wanted (Some status.PATH_EEXISTS)
set_has t trees wanted e bare has done =
    ap (λ (x : Option (List Tree)). to_set x wanted done) e
    ∙ ap (λ (b : Bool). if b then (if list_any (λ u. pointwise nat_eq (text u) wanted) trees then Err status.PATH_EEXISTS else done) else Err status.PATH_MISMATCH) bare
    ∙ ap (λ (b : Bool). if b then Err status.PATH_EEXISTS else done) has

pub set_free : (t : Tree) (trees : List Tree) (wanted : List ℕ) → IsArray t → array_elements t ≡ Some trees → list_all is_leaf trees ≡ true → list_any (λ u. pointwise nat_eq (text u) wanted) trees ≡ false → TellsSet t wanted None
set_free t trees wanted array e bare has = (
  array,
  λ done.
      ap (λ (x : Option (List Tree)). to_set x wanted done) e
      ∙ ap (λ (b : Bool). if b then (if list_any (λ u. pointwise nat_eq (text u) wanted) trees then Err status.PATH_EEXISTS else done) else Err status.PATH_MISMATCH) bare
      ∙ ap (λ (b : Bool). if b then Err status.PATH_EEXISTS else done) has,
)

pub set_refused : (several : Bool) (bytes value wanted : List ℕ) (parts : List Part) (d : Document) (at : ℕ) (g : Given) (s : Status) (asked : Asked) → wanted ≡ given_bytes value g
    → ((t : Tree) → IsAt bytes at t → TellsSet t wanted (Some s))
    → LeadsTo bytes parts d at → GivesLeaf add_unique value (Ok asked) → Describes value g asked → Decides asked several bytes value parts d (Err (refusals.Status s))
set_refused several bytes value wanted parts d at g s asked cut_is why l gives describes =
    let v = gives_leaf add_unique value asked gives in
    let w = subst (λ (b : Asked). Describes value g b) v.2 describes in
    let r = leads_at bytes parts d at l.leads in
    let e = why r.tree r.stands.place in
    let done : Result Act Status = act r.trail (push (element (leaf v.0 v.1))) in
    decides_as asked (add_unique v.0 v.1) several bytes value parts d (Err (refusals.Status s)) v.2
    (refused (add_unique v.0 v.1) several bytes value parts d s (reached r.trail r.tree) r.follows
    (ap (λ (k : List ℕ). to_set (array_elements r.tree) k done) (w.2 ∙ sym cut_is) ∙ e done))

pub set_decides : (several : Bool) (bytes value wanted : List ℕ) (parts : List Part) (d : Document) (at : ℕ) (g : Given) (p : Plan) (asked : Asked) → wanted ≡ given_bytes value g
    → ((t : Tree) → IsAt bytes at t → TellsSet t wanted None)
    → PlansPush bytes value at (length parts) g p → p.number ≡ None → LeadsTo bytes parts d at → GivesLeaf add_unique value (Ok asked) → Describes value g asked → Decides asked several bytes value parts d (Ok p)
set_decides several bytes value wanted parts d at g p asked cut_is free plans number l gives describes =
    let v = gives_leaf add_unique value asked gives in
    let w = subst (λ (b : Asked). Describes value g b) v.2 describes in
    let r = leads_at bytes parts d at l.leads in
    let st = r.stands in
    let e = free r.tree r.stands.place in
    let new : Parts = element (leaf v.0 v.1) in
    let done : Result Act Status = act r.trail (push new) in
    decides_as asked (add_unique v.0 v.1) several bytes value parts d (Ok p) v.2
    (decided (add_unique v.0 v.1) several bytes value parts d p (reached r.trail r.tree) (plain_act r.trail (push new)) r.follows
    (ap (λ (k : List ℕ). to_set (array_elements r.tree) k done) (w.2 ∙ sym cut_is) ∙ e.1 done)
    (plans d r.trail r.tree new st (sym (trail_long parts d.tree r.trail r.tree r.follows)) (array_holds r.tree e.0) (new_leaf value g v.0 v.1 w.1 w.2 w.3)) (sym number))

-- ---- counters

pub count_decides : (several : Bool) (bytes value : List ℕ) (parts : List Part) (d : Document) (at : ℕ) (g : Given) (r : Result Plan Rattle.doc_model.specs.declared.status.Refused.Refused) (asked : Asked)
    → TellsCounter bytes value at (length parts) g.delta r → LeadsTo bytes parts d at → GivesDelta value (Ok asked) → Describes value g asked → Decides asked several bytes value parts d r
count_decides several bytes value parts d at g (Ok p) asked tells l gives describes =
    let v = gives_delta value asked gives in
    let same : v.0 ≡ g.delta = subst (λ (b : Asked). Describes value g b) v.2 describes in
    let r = leads_at bytes parts d at l.leads in
    let h = tells d r.trail r.tree r.stands (sym (trail_long parts d.tree r.trail r.tree r.follows)) in
    decides_as asked (counter g.delta) several bytes value parts d (Ok p) (v.2 ∙ ap (λ (n : ℤ). counter n) same)
    (decided (counter g.delta) several bytes value parts d p (reached r.trail r.tree) h.0 r.follows h.1 h.2 h.3)
count_decides several bytes value parts d at g (Err (refusals.Status s)) asked tells l gives describes =
    let v = gives_delta value asked gives in
    let same : v.0 ≡ g.delta = subst (λ (b : Asked). Describes value g b) v.2 describes in
    let r = leads_at bytes parts d at l.leads in
    decides_as asked (counter g.delta) several bytes value parts d (Err (refusals.Status s)) (v.2 ∙ ap (λ (n : ℤ). counter n) same)
    (refused (counter g.delta) several bytes value parts d s (reached r.trail r.tree) r.follows (tells d r.trail r.tree r.stands))
count_decides several bytes value parts d at g (Err refusals.NoMemory) asked tells l gives describes = tt
