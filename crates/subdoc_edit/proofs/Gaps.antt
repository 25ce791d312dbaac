-- What is done where parts of a path name nothing.
use Rattle.std.proofs.Common.{◌≡◌, ℕ, suc, ◌+◌, ◌-◌, ◌≤◌, List, [], ◌∷◌, ◌++◌, length, take, drop, Bool, true, false, ◌||◌, ◌&&◌, Option, None, Some, Result, Ok, Err, inl, inr, refl, sym, ap, subst, ◌∙◌, arith, ℤ}
use Rattle.std.specs.Prelude.{if◌then◌else◌, ◌==◌, option_map}
use Rattle.std.specs.Fmt.{signed_decimal}
use Rattle.std.proofs.lemmas.Bool.{eq-eqb, eqb-true}
use Rattle.doc_model.specs.declared.status.TheConstants.Status as status
use Rattle.doc_model.specs.declared.status.Refused.{Refused}
use Rattle.doc_model.specs.declared.status.Refused.TheVariants as refusals
use Rattle.json_model.specs.declared.TheConstants.{MOST_DEEP}
use Rattle.json_model.specs.declared.kinds.Kind.TheVariants as kinds
use Rattle.json_model.specs.declared.kinds.Shape.{Shape}
use Rattle.json_model.specs.declared.kinds.Shape.TheVariants as shapes
use Rattle.json_model.specs.declared.asked.Part.{Part}
use Rattle.json_model.specs.declared.asked.Part.TheVariants.{Member, At, Last}
use Rattle.json_model.specs.Spelled.{Tree, leaf, empty, group, Parts, last, more, text, parts_text, depth, parts_depth, count, Fits, Document}
use Rattle.json_model.specs.Follow.{asks, missing, Follows}
use Rattle.json_model.specs.Moves.{push}
use Rattle.json_model.specs.Edit.{Asked, array_insert, add_unique, counter, act, elements, array_elements, element, member, nested, names_of, made, make, with_number, at_length, at_gap}
use Rattle.json_model.specs.Values.{GivesTree, GivesParts, GivesLeaf, GivesDelta, IsDelta}
use Rattle.json_spell.specs.Reading.{children}
use Rattle.json_walk.specs.Places.{IsAt}
use Rattle.subdoc_path.specs.declared.led.Led.TheVariants as led
use Rattle.subdoc_path.specs.Led.{StandsAt, LeadsAt}
use Rattle.subdoc_edit.specs.declared.values.Given.{Given}
use Rattle.subdoc_edit.specs.declared.parents.Around.{Around}
use Rattle.subdoc_edit.specs.declared.plan.Plan.{Plan}
use Rattle.subdoc_edit.specs.declared.plan.Content.{Content}
use Rattle.subdoc_edit.specs.Given.{IsTree, IsParts, Describes}
use Rattle.subdoc_edit.specs.Parents.{IsAround}
use Rattle.subdoc_edit.specs.Splicing.{Holds, IsArray, IsStanding}
use Rattle.subdoc_edit.specs.Planning.{Misses, IsNew, IsContent, PlansPush, PlansMember, MakesMember, TellsIndex, Decides}
use Rattle.subdoc_edit.proofs.Trails.{leads_missing, Lacks, lacks, IsShaped, told_at, told_missing}
use Rattle.subdoc_edit.proofs.Decisions.{gives_tree, gives_parts, gives_leaf, gives_delta, one_value, content_of, new_of, stands_there, decided, refused, decides_as, array_holds}

-- ---- where

shaped_holds : (t : Tree) (shape : Shape) → IsShaped t shape → Holds t
shaped_holds (leaf kind s) shape h = h
shaped_holds (empty other gap) shape h = tt
shaped_holds (group other ps) shape h = tt

shaped_array : (t : Tree) → IsShaped t shapes.Array → IsArray t
shaped_array (leaf kind s) h = h
shaped_array (empty other gap) h = sym h
shaped_array (group other ps) h = sym h

-- the value that lacks what is named stands where the front of the path leads
pub record Lacking (bytes : List ℕ) (parts : List Part) (d : Document) (trail : List ℕ) (t : Tree) (absent : List Part) (at : ℕ) : Type 0 where
  pub stands : StandsAt bytes d trail t at
  pub lacks : Lacks parts d.tree trail t absent
  pub holds : Holds t

pub lacking : (bytes : List ℕ) (parts front : List Part) (d : Document) (trail : List ℕ) (t : Tree) (absent : List Part) (followed at : ℕ) → Misses bytes parts d followed → Follows parts d.tree (missing trail t absent)
    → front ≡ take followed parts → LeadsAt front bytes d (led.At at) → Lacking bytes parts d trail t absent at
lacking bytes parts front d trail t absent followed at m f front_is leads =
    let k = lacks parts d.tree trail t absent f in
    let long : followed ≡ length trail = told_missing bytes parts d t trail absent followed f m.leads in
    let same : front ≡ take (length trail) parts = front_is ∙ ap (λ (n : ℕ). take n parts) long in
    record {
      stands = told_at bytes (take (length trail) parts) d t trail at k.front (subst (λ (q : List Part). LeadsAt q bytes d (led.At at)) same leads);
      lacks = k;
      holds = shaped_holds t (asks k.first) k.shaped;
    }

-- as many parts were followed as the path has, or fewer
pub missed_within : (bytes : List ℕ) (parts : List Part) (d : Document) (followed : ℕ) → Misses bytes parts d followed → followed ≤ length parts
missed_within bytes parts d followed m =
    let k = leads_missing bytes parts d followed m.leads in
    let l = lacks parts d.tree k.trail k.tree k.absent k.follows in
    omega (arith, k.long, l.total)

-- the value stands there, where some outcome is known
pub missed_stands : (bytes : List ℕ) (parts front : List Part) (d : Document) (followed at : ℕ) → Misses bytes parts d followed → front ≡ take followed parts → LeadsAt front bytes d (led.At at) → IsStanding bytes at
missed_stands bytes parts front d followed at m e leads =
    let k = leads_missing bytes parts d followed m.leads in
    let l = lacking bytes parts front d k.trail k.tree k.absent followed at m k.follows e leads in
    stands_there bytes d k.trail k.tree at l.stands

absent_same : (parts behind : List Part) (d : Document) (trail : List ℕ) (t : Tree) (absent : List Part) (bytes : List ℕ) (followed : ℕ) → Misses bytes parts d followed → Follows parts d.tree (missing trail t absent) → behind ≡ drop followed parts → behind ≡ absent
absent_same parts behind d trail t absent bytes followed m f e =
    let long : followed ≡ length trail = told_missing bytes parts d t trail absent followed f m.leads in
    e ∙ ap (λ (n : ℕ). drop n parts) long ∙ sym ((lacks parts d.tree trail t absent f).absent_is)

-- ---- new members

no_parents : (may : Bool) (trail : List ℕ) (absent : List Part) (v : Tree) → may ≡ false → make may trail absent v ≡ Err status.PATH_ENOENT
no_parents may trail absent v e = ap (λ (b : Bool). if b then made trail v (names_of absent) else Err status.PATH_ENOENT) e

parents : (may : Bool) (trail : List ℕ) (absent : List Part) (v : Tree) → may ≡ true → make may trail absent v ≡ made trail v (names_of absent)
parents may trail absent v e = ap (λ (b : Bool). if b then made trail v (names_of absent) else Err status.PATH_ENOENT) e

none_some : (names : List (List ℕ)) → None ≡ Some names → ⊥
none_some names e = cc

named_long : (name : List ℕ) (ps : List Part) (names : List (List ℕ)) (o : Option (List (List ℕ))) → names_of ps ≡ o → option_map (λ (ns : List (List ℕ)). name ∷ ns) o ≡ Some names → ((ns : List (List ℕ)) → names_of ps ≡ Some ns → length ns ≡ length ps) → length names ≡ suc (length ps)
named_long name ps names None is same inner = absurd (none_some names same)
named_long name ps names (Some ns) is same inner =
    let whole : name ∷ ns ≡ names = cc in
    omega (arith, sym (ap (λ (l : List (List ℕ)). length l) whole), inner ns is)

names_long : (absent : List Part) (names : List (List ℕ)) → names_of absent ≡ Some names → length names ≡ length absent
names_long [] names e = let none : names ≡ [] = cc in ap (λ (l : List (List ℕ)). length l) none
names_long (Member name ∷ ps) names e = named_long name ps names (names_of ps) refl e (λ ns is. names_long ps ns is)
names_long (At n ∷ ps) names e = cc
names_long (Last ∷ ps) names e = cc

none_made : (absent : List Part) (trail : List ℕ) (v : Tree) → IsAround absent None → made trail v (names_of absent) ≡ Err status.PATH_ENOENT
none_made absent trail v (inl e) = ap (λ (o : Option (List (List ℕ))). made trail v o) e
none_made absent trail v (inr e) = ap (λ (ps : List Part). made trail v (names_of ps)) e

-- what is refused, as it is told
abbrev MakesNot : Bool → Bool → List ℕ → List ℕ → List Part → ℕ → Content → Type 0
MakesNot one several bytes value parts followed c = MakesMember one several bytes value parts followed c (Err (refusals.Status status.PATH_ENOENT))

pub makes_not : (one several may : Bool) (bytes value : List ℕ) (parts behind : List Part) (followed : ℕ) (c : Content) → behind ≡ drop followed parts → may ≡ (several || (one && length behind == 1)) → may ≡ false → MakesNot one several bytes value parts followed c
makes_not one several may bytes value parts behind followed c e is shut d trail t v absent m f w =
    let same : behind ≡ absent = absent_same parts behind d trail t absent bytes followed m f e in
    no_parents (several || (one && length absent == 1)) trail absent v (ap (λ (ps : List Part). several || (one && length ps == 1)) (sym same) ∙ sym is ∙ shut)

pub makes_none : (one several may : Bool) (bytes value : List ℕ) (parts behind : List Part) (followed : ℕ) (c : Content) → behind ≡ drop followed parts → may ≡ (several || (one && length behind == 1)) → may ≡ true → IsAround behind None → MakesNot one several bytes value parts followed c
makes_none one several may bytes value parts behind followed c e is free none d trail t v absent m f w =
    let same : behind ≡ absent = absent_same parts behind d trail t absent bytes followed m f e in
    parents (several || (one && length absent == 1)) trail absent v (ap (λ (ps : List Part). several || (one && length ps == 1)) (sym same) ∙ sym is ∙ free)
    ∙ none_made absent trail v (subst (λ (ps : List Part). IsAround ps None) same none)

pub makes_one : (one several may : Bool) (bytes value : List ℕ) (parts front behind : List Part) (followed at : ℕ) (c : Content) (a : Around) (p : Plan) → front ≡ take followed parts → behind ≡ drop followed parts → may ≡ (several || (one && length behind == 1)) → may ≡ true → IsAround behind (Some a)
    → ((d : Document) → Rattle.json_model.specs.Spelled.IsText MOST_DEEP d bytes → LeadsAt front bytes d (led.At at)) → PlansMember bytes value at (length parts) a c p → p.number ≡ c.number → MakesMember one several bytes value parts followed c (Ok p)
makes_one one several may bytes value parts front behind followed at c a p front_is e is free (name, names, named, round) leads plans number d trail t v absent m f w =
    let same : behind ≡ absent = absent_same parts behind d trail t absent bytes followed m f e in
    let l = lacking bytes parts front d trail t absent followed at m f front_is (leads d m.is) in
    let named_is : names_of absent ≡ Some (name ∷ names) = ap names_of (sym same) ∙ named in (
      push (member name (nested names v)),
      parents (several || (one && length absent == 1)) trail absent v (ap (λ (ps : List Part). several || (one && length ps == 1)) (sym same) ∙ sym is ∙ free) ∙ ap (λ (o : Option (List (List ℕ))). made trail v o) named_is,
      plans d trail t v name names l.stands (omega (arith, l.lacks.total, names_long absent (name ∷ names) named_is)) l.holds w round,
      number,
    )

-- ---- decisions

made_decides : (asked : Asked) (one several : Bool) (bytes value : List ℕ) (parts : List Part) (d : Document) (followed : ℕ) (c : Content) (v : Tree) (r : Result Plan Refused) → c.number ≡ None
    → ((trail : List ℕ) (t : Tree) (absent : List Part) → at_gap asked several trail t absent ≡ make (several || (one && length absent == 1)) trail absent v)
    → MakesMember one several bytes value parts followed c r → Misses bytes parts d followed → IsContent value c v → Decides asked several bytes value parts d r
made_decides asked one several bytes value parts d followed c v (Ok p) none same makes m w =
    let k = leads_missing bytes parts d followed m.leads in
    let h = makes d k.trail k.tree v k.absent m k.follows w in
    decided asked several bytes value parts d p (missing k.trail k.tree k.absent) (record { trail = k.trail; change = h.0; number = None }) k.follows (same k.trail k.tree k.absent ∙ h.1) h.2 (sym none ∙ sym h.3)
made_decides asked one several bytes value parts d followed c v (Err (refusals.Status s)) none same makes m w =
    let k = leads_missing bytes parts d followed m.leads in
    refused asked several bytes value parts d s (missing k.trail k.tree k.absent) k.follows (same k.trail k.tree k.absent ∙ makes d k.trail k.tree v k.absent m k.follows w)
made_decides asked one several bytes value parts d followed c v (Err refusals.NoMemory) none same makes m w = tt

-- one value
pub value_decides : (con : Tree → Asked) (several : Bool) (bytes value : List ℕ) (parts : List Part) (d : Document) (followed : ℕ) (g : Given) (r : Result Plan Refused) (asked : Asked)
    → ((v : Tree) (trail : List ℕ) (t : Tree) (absent : List Part) → at_gap (con v) several trail t absent ≡ make (several || (true && length absent == 1)) trail absent v) → ((v : Tree) → Describes value g (con v) → IsTree value g v)
    → MakesMember true several bytes value parts followed (one_value g) r → Misses bytes parts d followed → GivesTree con value (Ok asked) → Describes value g asked → Decides asked several bytes value parts d r
value_decides con several bytes value parts d followed g r asked same tree makes m gives describes =
    let v = gives_tree con value asked gives in
    let w = content_of value g v.0 (tree v.0 (subst (λ (a : Asked). Describes value g a) v.1 describes)) in
    decides_as asked (con v.0) several bytes value parts d r v.1 (made_decides (con v.0) true several bytes value parts d followed (one_value g) v.0 r refl (same v.0) makes m w)

or_none : (several : Bool) (x : Bool) → several ≡ (several || (false && x))
or_none true x = refl
or_none false x = refl

-- elements, as they are written in an array
abbrev pub listed_values : Given → Content
listed_values g = record { from = g.from; to = g.to; listed = true; depth = g.depth + 1; number = None }

listed_content : (value : List ℕ) (g : Given) (new : Parts) → IsNew value g new → IsContent value (listed_values g) (group shapes.Array new)
listed_content value g new w = inl (record {
  ordered = w.cut.ordered;
  within = w.cut.within;
  text_is = ap (λ (l : List ℕ). 0x5b ∷ (l ++ 0x5d ∷ [])) w.text_is;
  depth_is = omega (arith, w.depth_is);
})

array_decides : (asked : Asked) (new : Parts) (several : Bool) (bytes value : List ℕ) (parts : List Part) (d : Document) (followed : ℕ) (g : Given) (r : Result Plan Refused)
    → ((trail : List ℕ) (t : Tree) (absent : List Part) → at_gap asked several trail t absent ≡ make several trail absent (group shapes.Array new))
    → MakesMember false several bytes value parts followed (listed_values g) r → Misses bytes parts d followed → IsNew value g new → Decides asked several bytes value parts d r
array_decides asked new several bytes value parts d followed g r same makes m w =
    made_decides asked false several bytes value parts d followed (listed_values g) (group shapes.Array new) r refl
    (λ trail t absent. same trail t absent ∙ ap (λ (b : Bool). make b trail absent (group shapes.Array new)) (or_none several (length absent == 1))) makes m (listed_content value g new w)

-- an array of elements
pub parts_decides : (con : Parts → Asked) (several : Bool) (bytes value : List ℕ) (parts : List Part) (d : Document) (followed : ℕ) (g : Given) (r : Result Plan Refused) (asked : Asked)
    → ((vs : Parts) (trail : List ℕ) (t : Tree) (absent : List Part) → at_gap (con vs) several trail t absent ≡ make several trail absent (group shapes.Array vs)) → ((vs : Parts) → Describes value g (con vs) → IsParts value g vs)
    → MakesMember false several bytes value parts followed (listed_values g) r → Misses bytes parts d followed → GivesParts con value (Ok asked) → Describes value g asked → Decides asked several bytes value parts d r
parts_decides con several bytes value parts d followed g r asked same new makes m gives describes =
    let vs = gives_parts con value asked gives in
    let w = new_of value g vs.0 (new vs.0 (subst (λ (b : Asked). Describes value g b) vs.1 describes)) in
    decides_as asked (con vs.0) several bytes value parts d r vs.1 (array_decides (con vs.0) vs.0 several bytes value parts d followed g r (same vs.0) makes m w)

-- an array of one element
pub unique_decides : (several : Bool) (bytes value : List ℕ) (parts : List Part) (d : Document) (followed : ℕ) (g : Given) (r : Result Plan Refused) (asked : Asked)
    → MakesMember false several bytes value parts followed (listed_values g) r → Misses bytes parts d followed → GivesLeaf add_unique value (Ok asked) → Describes value g asked → Decides asked several bytes value parts d r
unique_decides several bytes value parts d followed g r asked makes m gives describes =
    let v = gives_leaf add_unique value asked gives in
    let w = subst (λ (b : Asked). Describes value g b) v.2 describes in
    decides_as asked (add_unique v.0 v.1) several bytes value parts d r v.2
    (array_decides (add_unique v.0 v.1) (element (leaf v.0 v.1)) several bytes value parts d followed g r (λ trail t absent. refl) makes m (Rattle.subdoc_edit.proofs.Decisions.new_leaf value g v.0 v.1 w.1 w.2 w.3))

-- a counter that begins at its delta
abbrev pub delta_value : List ℕ → Given → Content
delta_value value g = record { from = 0; to = length value; listed = false; depth = 0; number = Some g.delta }

no_more : (l : List ℕ) → l ++ [] ≡ l
no_more [] = refl
no_more (x ∷ l) = ap (λ (m : List ℕ). x ∷ m) (no_more l)

take_whole : (l : List ℕ) → take (length l) l ≡ l
take_whole [] = refl
take_whole (x ∷ l) = ap (λ (m : List ℕ). x ∷ m) (take_whole l)

whole_cut : (l : List ℕ) → take (length l - 0) (drop 0 l) ≡ l
whole_cut l = let e : length l - 0 ≡ length l = omega arith in ap (λ (n : ℕ). take n (drop 0 l)) e ∙ take_whole l

delta_content : (value : List ℕ) (g : Given) (delta : ℤ) → IsDelta delta value → delta ≡ g.delta → IsContent value (delta_value value g) (leaf kinds.Number (signed_decimal g.delta))
delta_content value g delta is same = inl (record {
  ordered = omega arith;
  within = omega arith;
  text_is = ap signed_decimal (sym same) ∙ sym is.spelled ∙ sym (no_more (take (length value - 0) (drop 0 value)) ∙ whole_cut value);
  depth_is = refl;
})

pub counter_decides : (several : Bool) (bytes value : List ℕ) (parts : List Part) (d : Document) (followed : ℕ) (g : Given) (r : Result Plan Refused) (asked : Asked)
    → MakesMember true several bytes value parts followed (delta_value value g) r → Misses bytes parts d followed → GivesDelta value (Ok asked) → Describes value g asked → Decides asked several bytes value parts d r
counter_decides several bytes value parts d followed g (Ok p) asked makes m gives describes =
    let v = gives_delta value asked gives in
    let same : v.0 ≡ g.delta = subst (λ (b : Asked). Describes value g b) v.2 describes in
    let k = leads_missing bytes parts d followed m.leads in
    let h = makes d k.trail k.tree (leaf kinds.Number (signed_decimal g.delta)) k.absent m k.follows (delta_content value g v.0 v.1 same) in
    decides_as asked (counter g.delta) several bytes value parts d (Ok p) (v.2 ∙ ap (λ (n : ℤ). counter n) same)
    (decided (counter g.delta) several bytes value parts d p (missing k.trail k.tree k.absent) (record { trail = k.trail; change = h.0; number = Some g.delta }) k.follows (ap (with_number g.delta) h.1) h.2 (sym h.3))
counter_decides several bytes value parts d followed g (Err (refusals.Status s)) asked makes m gives describes =
    let v = gives_delta value asked gives in
    let same : v.0 ≡ g.delta = subst (λ (b : Asked). Describes value g b) v.2 describes in
    let k = leads_missing bytes parts d followed m.leads in
    decides_as asked (counter g.delta) several bytes value parts d (Err (refusals.Status s)) (v.2 ∙ ap (λ (n : ℤ). counter n) same)
    (refused (counter g.delta) several bytes value parts d s (missing k.trail k.tree k.absent) k.follows (ap (with_number g.delta) (makes d k.trail k.tree (leaf kinds.Number (signed_decimal g.delta)) k.absent m k.follows (delta_content value g v.0 v.1 same))))
counter_decides several bytes value parts d followed g (Err refusals.NoMemory) asked makes m gives describes = tt

-- ---- elements where the index is how many there are

no_index : (vs : Parts) (trail : List ℕ) (trees : Option (List Tree)) (absent : List Part) → ((n : ℕ) → absent ≡ At n ∷ [] → ⊥) → at_length vs trail trees absent ≡ Err status.PATH_ENOENT
no_index vs trail None absent none = refl
no_index vs trail (Some trees) [] none = refl
no_index vs trail (Some trees) (Member name ∷ ps) none = refl
no_index vs trail (Some trees) (At n ∷ []) none = absurd (none n refl)
no_index vs trail (Some trees) (At n ∷ p ∷ ps) none = refl
no_index vs trail (Some trees) (Last ∷ ps) none = refl

pub insert_no_index : (several : Bool) (bytes value : List ℕ) (parts behind : List Part) (d : Document) (followed : ℕ) (g : Given) (asked : Asked) → behind ≡ drop followed parts → TellsIndex behind None
    → Misses bytes parts d followed → GivesParts array_insert value (Ok asked) → Decides asked several bytes value parts d (Err (refusals.Status status.PATH_ENOENT))
insert_no_index several bytes value parts behind d followed g asked e none m gives =
    let vs = gives_parts array_insert value asked gives in
    let k = leads_missing bytes parts d followed m.leads in
    let same : behind ≡ k.absent = absent_same parts behind d k.trail k.tree k.absent bytes followed m k.follows e in
    decides_as asked (array_insert vs.0) several bytes value parts d (Err (refusals.Status status.PATH_ENOENT)) vs.1
    (refused (array_insert vs.0) several bytes value parts d status.PATH_ENOENT (missing k.trail k.tree k.absent) k.follows
    (no_index vs.0 k.trail (array_elements k.tree) k.absent (λ n h. none n (same ∙ h))))

elements_long : (ps : Parts) → length (elements ps) ≡ count ps
elements_long (last h t g) = refl
elements_long (more h t g ps) = ap suc (elements_long ps)

-- the elements of an array are as many as its parts
elements_many : (t : Tree) → IsArray t → (trees : List Tree) × (array_elements t ≡ Some trees) × (children t ≡ length trees)
elements_many (leaf kind s) array = absurd array
elements_many (empty shapes.Object gap) array = absurd (apart array)
  where
    apart : shapes.Object ≡ shapes.Array → ⊥
    apart e = cc
elements_many (empty shapes.Array gap) array = ([], refl, refl)
elements_many (group shapes.Object ps) array = absurd (apart array)
  where
    apart : shapes.Object ≡ shapes.Array → ⊥
    apart e = cc
elements_many (group shapes.Array ps) array = (elements ps, refl, sym (elements_long ps))

-- the array that the index is asked of
record Ends (bytes : List ℕ) (parts : List Part) (d : Document) (followed at number n : ℕ) : Type 0 where
  pub trail : List ℕ
  pub tree : Tree
  pub follows : Follows parts d.tree (missing trail tree (At number ∷ []))
  pub stands : StandsAt bytes d trail tree at
  pub array : IsArray tree
  pub trees : List Tree
  pub trees_is : array_elements tree ≡ Some trees
  pub many : n ≡ length trees
  pub long : followed ≡ length trail

ends : (bytes : List ℕ) (parts front behind : List Part) (d : Document) (followed at number n : ℕ) → Misses bytes parts d followed → front ≡ take followed parts → behind ≡ drop followed parts → behind ≡ At number ∷ [] → LeadsAt front bytes d (led.At at) → ((t : Tree) → IsAt bytes at t → n ≡ children t)
    → Ends bytes parts d followed at number n
ends bytes parts front behind d followed at number n m front_is behind_is one leads is =
    let k = leads_missing bytes parts d followed m.leads in
    let l = lacking bytes parts front d k.trail k.tree k.absent followed at m k.follows front_is leads in
    let same : k.absent ≡ At number ∷ [] = sym (absent_same parts behind d k.trail k.tree k.absent bytes followed m k.follows behind_is) ∙ one in
    let pair : l.lacks.first ∷ l.lacks.rest ≡ At number ∷ [] = sym l.lacks.some ∙ same in
    let first : l.lacks.first ≡ At number = cc in
    let array : IsArray k.tree = shaped_array k.tree (subst (λ (p : Part). IsShaped k.tree (asks p)) first l.lacks.shaped) in
    let e = elements_many k.tree array in
    record {
      trail = k.trail;
      tree = k.tree;
      follows = subst (λ (ps : List Part). Follows parts d.tree (missing k.trail k.tree ps)) same k.follows;
      stands = l.stands;
      array = array;
      trees = e.0;
      trees_is = e.1;
      many = is k.tree l.stands.place ∙ e.2;
      long = k.long;
    }

length_test : (vs : Parts) (trail : List ℕ) (trees : List Tree) (number : ℕ) (b : Bool) → (number == length trees) ≡ b → at_length vs trail (Some trees) (At number ∷ []) ≡ (if b then act trail (push vs) else Err status.PATH_ENOENT)
length_test vs trail trees number b e = ap (λ (x : Bool). if x then act trail (push vs) else Err status.PATH_ENOENT) e

test_false : (a b : ℕ) (x : Bool) → (a == b) ≡ x → (a ≡ b → ⊥) → x ≡ false
test_false a b true e differs = absurd (differs (eqb-true a b e))
test_false a b false e differs = refl

other_number : (a b : ℕ) → (a ≡ b → ⊥) → (a == b) ≡ false
other_number a b differs = test_false a b (a == b) refl differs

pub insert_other : (several : Bool) (bytes value : List ℕ) (parts front behind : List Part) (d : Document) (followed at number n : ℕ) (asked : Asked) → front ≡ take followed parts → behind ≡ drop followed parts → TellsIndex behind (Some number) → LeadsAt front bytes d (led.At at) → ((t : Tree) → IsAt bytes at t → n ≡ children t) → (n ≡ number → ⊥)
    → Misses bytes parts d followed → GivesParts array_insert value (Ok asked) → Decides asked several bytes value parts d (Err (refusals.Status status.PATH_ENOENT))
insert_other several bytes value parts front behind d followed at number n asked front_is behind_is one leads is other m gives =
    let vs = gives_parts array_insert value asked gives in
    let k = ends bytes parts front behind d followed at number n m front_is behind_is one leads is in
    let differs : (number == length k.trees) ≡ false = other_number number (length k.trees) (λ e. other (k.many ∙ sym e)) in
    decides_as asked (array_insert vs.0) several bytes value parts d (Err (refusals.Status status.PATH_ENOENT)) vs.1
    (refused (array_insert vs.0) several bytes value parts d status.PATH_ENOENT (missing k.trail k.tree (At number ∷ [])) k.follows
    (ap (λ (o : Option (List Tree)). at_length vs.0 k.trail o (At number ∷ [])) k.trees_is ∙ length_test vs.0 k.trail k.trees number false differs))

pub insert_end : (several : Bool) (bytes value : List ℕ) (parts front behind : List Part) (d : Document) (followed at number n : ℕ) (g : Given) (p : Plan) (asked : Asked) → front ≡ take followed parts → behind ≡ drop followed parts → TellsIndex behind (Some number) → LeadsAt front bytes d (led.At at) → ((t : Tree) → IsAt bytes at t → n ≡ children t) → n ≡ number
    → PlansPush bytes value at followed g p → p.number ≡ None → Misses bytes parts d followed → GivesParts array_insert value (Ok asked) → Describes value g asked → Decides asked several bytes value parts d (Ok p)
insert_end several bytes value parts front behind d followed at number n g p asked front_is behind_is one leads is same plans none m gives describes =
    let vs = gives_parts array_insert value asked gives in
    let w = new_of value g vs.0 (subst (λ (b : Asked). Describes value g b) vs.1 describes) in
    let k = ends bytes parts front behind d followed at number n m front_is behind_is one leads is in
    let equal : (number == length k.trees) ≡ true = eq-eqb number (length k.trees) (sym same ∙ k.many) in
    decides_as asked (array_insert vs.0) several bytes value parts d (Ok p) vs.1
    (decided (array_insert vs.0) several bytes value parts d p (missing k.trail k.tree (At number ∷ [])) (record { trail = k.trail; change = push vs.0; number = None }) k.follows
    (ap (λ (o : Option (List Tree)). at_length vs.0 k.trail o (At number ∷ [])) k.trees_is ∙ length_test vs.0 k.trail k.trees number true equal)
    (plans d k.trail k.tree vs.0 k.stands k.long (array_holds k.tree k.array) w) (sym none))
