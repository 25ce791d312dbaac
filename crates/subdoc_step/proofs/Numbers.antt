-- A number that a counter comes to is one of 64 bits with a sign.
use Rattle.std.specs.Prelude.{◌≡◌, ℕ, ◌^◌, ◌<◌, ◌≤◌, nat_eq, Bool, true, false, ◌||◌, if◌then◌else◌, List, [], ◌∷◌, length, Option, Some, None, Result, Ok, Err, ℤ, pos, negsuc, ◌+ℤ◌, nat_le, suc, refl}
use Rattle.std.specs.List.{list_all, list_any}
use Rattle.std.specs.Fmt.{signed_decimal}
use Rattle.std.specs.Cmp.Lexicographic.{pointwise}
use Rattle.std.proofs.Common.{arith, sym, subst, inl, inr}
use Rattle.std.proofs.lemmas.Bool.{leb-true}
use Rattle.std.proofs.lemmas.Fmt.{length-decimal-le}
use Rattle.std.proofs.lemmas.Bool.Decides.{nat_tests}
use Rattle.doc_model.specs.declared.status.Status.{Status}
use Rattle.doc_model.specs.declared.status.TheConstants.Status as status
use Rattle.json_model.specs.declared.asked.Part.{Part}
use Rattle.json_model.specs.declared.asked.Part.TheVariants.{Member, At, Last}
use Rattle.json_model.specs.declared.asked.Edit.{Edit}
use Rattle.json_model.specs.declared.asked.Edit.TheVariants as edits
use Rattle.json_model.specs.declared.kinds.Shape.TheVariants as shapes
use Rattle.json_model.specs.Spelled.{Tree, leaf, empty, group, Parts, Document, text}
use Rattle.json_model.specs.Follow.{Outcome, reached, missing, mismatch}
use Rattle.json_model.specs.Edit.{Asked, Act, dict_add, dict_upsert, delete, replace, push_last, push_first, array_insert, add_unique, counter, fits_i64, array_elements, is_leaf, number_of, to_array, to_set, counted, at_value, names_of, made, make, with_number, at_length, at_gap, act_at}
use Rattle.json_model.specs.Order.{Edited, done_to, EditedText, within_document}
use Rattle.json_model.specs.declared.TheConstants.{MOST_DEEP, TEXT_LIMIT}
use Rattle.json_model.specs.Spelled.{depth}
use Rattle.json_model.specs.Moves.{trimmed}
use Rattle.json_spell.specs.declared.tokens.Stop.{Stop}
use Rattle.json_spell.specs.declared.tokens.Stop.TheVariants as stops
use Rattle.subdoc_step.specs.Texts.{read_text}
use Rattle.subdoc_step.specs.Paths.{read_parts, followed}
use Rattle.subdoc_step.specs.Given.{too_deep, tree_given, parts_in, parts_given, leaf_in, leaf_given, delta_given, given}
use Rattle.json_model.specs.Values.{GivesDelta}
use Rattle.subdoc_step.proofs.Given.{delta_told}
use Rattle.subdoc_step.specs.Answers.{◌>>=◌, formed, edited_tree, edited}

-- a number within 64 bits, where there is one
abbrev pub NumberFits : Option ℤ → Type 0
NumberFits None = Unit {0}
NumberFits (Some n) = fits_i64 n ≡ true

abbrev ActFits : Result Act Status → Type 0
ActFits (Ok a) = NumberFits a.number
ActFits (Err s) = Unit {0}

-- a delta within 64 bits
abbrev pub DeltaFits : Asked → Type 0
DeltaFits (dict_add v) = Unit {0}
DeltaFits (dict_upsert v) = Unit {0}
DeltaFits delete = Unit {0}
DeltaFits (replace v) = Unit {0}
DeltaFits (push_last vs) = Unit {0}
DeltaFits (push_first vs) = Unit {0}
DeltaFits (array_insert vs) = Unit {0}
DeltaFits (add_unique kind s) = Unit {0}
DeltaFits (counter n) = fits_i64 n ≡ true

to_array_fits : (trees : Option (List Tree)) (done : Result Act Status) → ActFits done → ActFits (to_array trees done)
to_array_fits None done h = tt
to_array_fits (Some trees) done h = h

if_fits : (b : Bool) (x y : Result Act Status) → ActFits x → ActFits y → ActFits (if b then x else y)
if_fits true x y h k = h
if_fits false x y h k = k

to_set_fits : (trees : Option (List Tree)) (s : List ℕ) (done : Result Act Status) → ActFits done → ActFits (to_set trees s done)
to_set_fits None s done h = tt
to_set_fits (Some trees) s done h =
    if_fits (list_all is_leaf trees) (if list_any (λ t. pointwise nat_eq (text t) s) trees then Err status.PATH_EEXISTS else done) (Err status.PATH_MISMATCH)
    (if_fits (list_any (λ t. pointwise nat_eq (text t) s) trees) (Err status.PATH_EEXISTS) done tt h) tt

when_fits : (b : Bool) (x y : Result Act Status) → (b ≡ true → ActFits x) → ActFits y → ActFits (if b then x else y)
when_fits true x y h k = h refl
when_fits false x y h k = k

counted_fits : (trail : List ℕ) (delta : ℤ) (n : Option ℤ) → ActFits (counted trail delta n)
counted_fits trail delta None = tt
counted_fits trail delta (Some n) = if_fits (fits_i64 n) _ _ (when_fits (fits_i64 (n +ℤ delta)) _ _ (λ e. e) tt) tt

at_value_fits : (asked : Asked) (trail : List ℕ) (t : Tree) → ActFits (at_value asked trail t)
at_value_fits (dict_add v) trail t = tt
at_value_fits (dict_upsert v) trail t = tt
at_value_fits delete trail t = tt
at_value_fits (replace v) trail t = tt
at_value_fits (push_last vs) trail t = to_array_fits (array_elements t) _ tt
at_value_fits (push_first vs) trail t = to_array_fits (array_elements t) _ tt
at_value_fits (array_insert vs) trail t = tt
at_value_fits (add_unique kind s) trail t = to_set_fits (array_elements t) s _ tt
at_value_fits (counter delta) trail t = counted_fits trail delta (number_of t)

made_fits : (trail : List ℕ) (v : Tree) (names : Option (List (List ℕ))) → ActFits (made trail v names)
made_fits trail v None = tt
made_fits trail v (Some []) = tt
made_fits trail v (Some (name ∷ names)) = tt

make_fits : (may : Bool) (trail : List ℕ) (absent : List Part) (v : Tree) → ActFits (make may trail absent v)
make_fits may trail absent v = if_fits may _ _ (made_fits trail v (names_of absent)) tt

with_fits : (n : ℤ) (r : Result Act Status) → fits_i64 n ≡ true → ActFits (with_number n r)
with_fits n (Ok a) h = h
with_fits n (Err s) h = tt

at_length_fits : (vs : Parts) (trail : List ℕ) (trees : Option (List Tree)) (absent : List Part) → ActFits (at_length vs trail trees absent)
at_length_fits vs trail None absent = tt
at_length_fits vs trail (Some trees) [] = tt
at_length_fits vs trail (Some trees) (At n ∷ []) = if_fits (nat_eq n (length trees)) _ _ tt tt
at_length_fits vs trail (Some trees) (At n ∷ p ∷ ps) = tt
at_length_fits vs trail (Some trees) (Member name ∷ ps) = tt
at_length_fits vs trail (Some trees) (Last ∷ ps) = tt

at_gap_fits : (asked : Asked) (several : Bool) (trail : List ℕ) (parent : Tree) (absent : List Part) → DeltaFits asked → ActFits (at_gap asked several trail parent absent)
at_gap_fits (dict_add v) several trail parent absent h = make_fits (several || nat_eq (length absent) 1) trail absent v
at_gap_fits (dict_upsert v) several trail parent absent h = make_fits (several || nat_eq (length absent) 1) trail absent v
at_gap_fits delete several trail parent absent h = tt
at_gap_fits (replace v) several trail parent absent h = tt
at_gap_fits (push_last vs) several trail parent absent h = make_fits several trail absent (group shapes.Array vs)
at_gap_fits (push_first vs) several trail parent absent h = make_fits several trail absent (group shapes.Array vs)
at_gap_fits (array_insert vs) several trail parent absent h = at_length_fits vs trail (array_elements parent) absent
at_gap_fits (add_unique kind s) several trail parent absent h = make_fits several trail absent _
at_gap_fits (counter delta) several trail parent absent h = with_fits delta _ h

act_fits : (asked : Asked) (several : Bool) (o : Outcome) → DeltaFits asked → ActFits (act_at asked several o)
act_fits asked several (reached trail t) h = at_value_fits asked trail t
act_fits asked several (missing trail parent absent) h = at_gap_fits asked several trail parent absent h
act_fits asked several (mismatch d) h = tt

-- ---- the length of its text

-- the text of a number, where there is one
abbrev pub number_bytes : Option ℤ → List ℕ
number_bytes None = []
number_bytes (Some n) = signed_decimal n

pos_below : (n : ℕ) → fits_i64 (pos n) ≡ true → n < 2 ^ 64
pos_below n h = grind (arith, nat_tests)

neg_below : (n : ℕ) → fits_i64 (negsuc n) ≡ true → suc n < 2 ^ 64
neg_below n h = grind (arith, nat_tests)

-- it has at most 20 digits and a sign
pub number_short : (n : Option ℤ) → NumberFits n → length (number_bytes n) ≤ 21
number_short None h = omega arith
number_short (Some (pos n)) h = omega (arith, length-decimal-le 20 n (omega arith) (omega (arith, pos_below n h)) (pos_below n h))
number_short (Some (negsuc n)) h = omega (arith, length-decimal-le 20 (suc n) (omega arith) (omega (arith, neg_below n h)) (neg_below n h))

-- ---- what comes with an edit

abbrev GivenFits : Result Asked Status → Type 0
GivenFits (Ok asked) = DeltaFits asked
GivenFits (Err s) = Unit {0}

tree_fits : (asked : Tree → Asked) (r : Result Document Stop) → ((t : Tree) → DeltaFits (asked t)) → GivenFits (tree_given asked r)
tree_fits asked (Ok d) h = h d.tree
tree_fits asked (Err (stops.Not left)) h = tt
tree_fits asked (Err (stops.Deep left)) h = h too_deep
tree_fits asked (Err stops.NoMemory) h = tt

in_fits : (asked : Parts → Asked) (t : Tree) → ((ps : Parts) → DeltaFits (asked ps)) → GivenFits (parts_in asked t)
in_fits asked (leaf kind s) h = tt
in_fits asked (empty shape gap) h = tt
in_fits asked (group shape ps) h = h (trimmed ps)

parts_fits : (asked : Parts → Asked) (r : Result Document Stop) → ((ps : Parts) → DeltaFits (asked ps)) → GivenFits (parts_given asked r)
parts_fits asked (Ok d) h = in_fits asked d.tree h
parts_fits asked (Err (stops.Not left)) h = tt
parts_fits asked (Err (stops.Deep left)) h = tt
parts_fits asked (Err stops.NoMemory) h = tt

leaf_in_fits : (t : Tree) → GivenFits (leaf_in add_unique t)
leaf_in_fits (leaf kind s) = tt
leaf_in_fits (empty shape gap) = tt
leaf_in_fits (group shape ps) = tt

leaf_fits : (r : Result Document Stop) → GivenFits (leaf_given add_unique r)
leaf_fits (Ok d) = leaf_in_fits d.tree
leaf_fits (Err stop) = tt

gives_fits : (bytes : List ℕ) (r : Result Asked Status) → GivesDelta bytes r → GivenFits r
gives_fits bytes r (inl (n, is, e)) = subst GivenFits (sym e) is.fits
gives_fits bytes r (inr (none, e)) = subst GivenFits (sym e) tt

delta_fits : (bytes : List ℕ) → GivenFits (delta_given bytes)
delta_fits bytes = gives_fits bytes (delta_given bytes) (delta_told bytes)

given_fits : (edit : Edit) (bytes : List ℕ) → GivenFits (given edit bytes)
unfolding given
given_fits edits.DictAdd bytes = tree_fits dict_add _ (λ t. tt)
given_fits edits.DictUpsert bytes = tree_fits dict_upsert _ (λ t. tt)
given_fits edits.Delete bytes = tt
given_fits edits.Replace bytes = tree_fits replace _ (λ t. tt)
given_fits edits.ArrayPushLast bytes = parts_fits push_last _ (λ ps. tt)
given_fits edits.ArrayPushFirst bytes = parts_fits push_first _ (λ ps. tt)
given_fits edits.ArrayInsert bytes = parts_fits array_insert _ (λ ps. tt)
given_fits edits.ArrayAddUnique bytes = leaf_fits _
given_fits edits.Counter bytes = delta_fits bytes

-- ---- edits

-- what is told of a result, where it isn't a refusal
abbrev On : {A : Type 0} → (A → Type 0) → Result A Status → Type 0
On P (Ok x) = P x
On P (Err s) = Unit {0}

then_on : {A B : Type 0} (P : A → Type 0) (Q : B → Type 0) (r : Result A Status) (go : A → Result B Status) → On P r → ((x : A) → P x → On Q (go x)) → On Q (r >>= go)
then_on P Q (Ok x) go h law = law x h
then_on P Q (Err s) go h law = tt

any : {A : Type 0} (r : Result A Status) → On (λ x. Unit {0}) r
any (Ok x) = tt
any (Err s) = tt

given_on : (r : Result Asked Status) → GivenFits r → On DeltaFits r
given_on (Ok asked) h = h
given_on (Err s) h = tt

act_on : (r : Result Act Status) → ActFits r → On (λ (a : Act). NumberFits a.number) r
act_on (Ok a) h = h
act_on (Err s) h = tt

if_on : {A : Type 0} (P : A → Type 0) (b : Bool) (x : A) (s : Status) → (b ≡ true → P x) → On P (if b then Ok x else Err s)
if_on P true x s h = h refl
if_on P false x s h = tt

tree_on : (edit : Edit) (several : Bool) (parts : List Part) (t : Tree) (value : List ℕ) → On (λ (e : Edited). NumberFits e.number) (edited_tree edit several parts t value)
unfolding edited_tree
tree_on edit several parts t value =
    then_on (λ x. Unit {0}) _ (formed edit parts) _ (any _) (λ path u.
    then_on DeltaFits _ (given edit value) _ (given_on _ (given_fits edit value)) (λ asked h.
    then_on (λ (a : Act). NumberFits a.number) _ (act_at asked several (followed path t)) _ (act_on _ (act_fits asked several (followed path t) h)) (λ a n.
    if_on (λ (e : Edited). NumberFits e.number) (nat_le (depth (done_to t a).tree) MOST_DEEP) (done_to t a) status.VALUE_ETOODEEP (λ e. n))))

-- what an edit leaves is no longer than a text may be, and its number within 64 bits
pub record IsShort (e : EditedText) : Type 0 where
  pub text : length e.text ≤ TEXT_LIMIT
  pub number : length (number_bytes e.number) ≤ 21

edited_on : (edit : Edit) (several : Bool) (text path value : List ℕ) → On IsShort (edited edit several text path value)
unfolding edited
edited_on edit several bytes path value =
    then_on (λ x. Unit {0}) IsShort (read_parts path) _ (any _) (λ parts u.
    then_on (λ x. Unit {0}) IsShort (read_text bytes) _ (any _) (λ d v.
    then_on (λ (e : Edited). NumberFits e.number) IsShort (edited_tree edit several parts d.tree value) _ (tree_on edit several parts d.tree value) (λ e n.
    if_on IsShort (nat_le (length (within_document d e).text) TEXT_LIMIT) (within_document d e) status.E2BIG (λ b. record { text = leb-true _ _ b; number = number_short e.number n }))))

pub edited_short : (edit : Edit) (several : Bool) (text path value : List ℕ) (e : EditedText) → edited edit several text path value ≡ Ok e → IsShort e
edited_short edit several bytes path value e is = subst (On IsShort) is (edited_on edit several bytes path value)
