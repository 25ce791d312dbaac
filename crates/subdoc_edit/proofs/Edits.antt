-- What is told of an edit, step by step.
use Rattle.std.proofs.Common.{◌≡◌, ℕ, suc, ◌+◌, ◌-◌, ◌^◌, ◌<◌, ◌≤◌, min, List, [], ◌∷◌, ◌++◌, length, take, drop, get_or, Bool, true, false, cond, Option, None, Some, Result, Ok, Err, ◌⊎◌, inl, inr, refl, sym, ap, subst, ◌∙◌, arith, ℤ, length-append}
use Rattle.std.specs.Prelude.{if◌then◌else◌, nat_le}
use Rattle.std.proofs.lemmas.Bool.{leb-true, le-leb}
use Rattle.doc_model.specs.declared.status.Status.{Status}
use Rattle.doc_model.specs.declared.status.TheConstants.Status as status
use Rattle.doc_model.specs.declared.status.Refused.{Refused}
use Rattle.doc_model.specs.declared.status.Refused.TheVariants as refusals
use Rattle.json_model.specs.declared.TheConstants.{MOST_DEEP, TEXT_LIMIT}
use Rattle.json_model.specs.declared.asked.Edit.{Edit}
use Rattle.json_model.specs.declared.asked.Part.{Part}
use Rattle.json_model.specs.Spelled.{depth, Document, IsText}
use Rattle.json_model.specs.Moves.{Change, at_trail, changed}
use Rattle.json_model.specs.Edit.{Asked, Act}
use Rattle.json_model.specs.Paths.{ReadsPath}
use Rattle.json_model.specs.Values.{Gives}
use Rattle.json_model.specs.Order.{ReadsText, takes, Acts, Edited, done_to, shallow, EditsTree, EditedText, within_document, small, ends_in_name, ends_in_index}
use Rattle.json_spell.specs.declared.node.Node.{Node}
use Rattle.json_spell.specs.Places.{Spans}
use Rattle.subdoc_edit.specs.declared.values.Given.{Given}
use Rattle.subdoc_edit.specs.declared.plan.Plan.{Plan}
use Rattle.subdoc_edit.specs.declared.editing.Edited.{Edited as Made}
use Rattle.subdoc_edit.specs.Given.{IsGiven}
use Rattle.subdoc_edit.specs.Planning.{plan_bytes, changed_text, Writes, Plans, DecidesGiven}
use Rattle.subdoc_edit.specs.Editing.{TellsEdit, IsPlanned, Finishes}
use Rattle.subdoc_edit.specs.Telling.{Told}
use Rattle.subdoc_edit.proofs.Splices.{Cut, cut_is}

-- ---- the end of a plan

pub plan_cut : (bytes value : List ℕ) (d : Document) (trail : List ℕ) (change : Change) (p : Plan) → Writes bytes value d trail change p → Cut bytes (changed_text d trail change) (plan_bytes value p) p.from p.to
plan_cut bytes value d trail change p w = cut_is bytes (changed_text d trail change) (plan_bytes value p) p.from p.to w.spliced

pub too_deep : (bytes value : List ℕ) (d : Document) (trail : List ℕ) (change : Change) (p : Plan) → Plans bytes value d trail change p → MOST_DEEP < p.depth → Finishes d trail change p.number (Err (refusals.Status status.VALUE_ETOODEEP))
too_deep bytes value d trail change p plans deep = inl (by (Rattle.std.proofs.lemmas.Bool.cases_lt MOST_DEEP (depth (at_trail trail (changed change) d.tree))), refl)
  where
    by : (MOST_DEEP < depth (at_trail trail (changed change) d.tree)) ⊎ (depth (at_trail trail (changed change) d.tree) ≤ MOST_DEEP) → MOST_DEEP < depth (at_trail trail (changed change) d.tree)
    by (inl less) = less
    by (inr most) = absurd (omega (arith, plans.only most, deep))

-- how many bytes a text has that a plan leaves
pub plan_long : (bytes value : List ℕ) (d : Document) (trail : List ℕ) (change : Change) (p : Plan) → Writes bytes value d trail change p
    → length (changed_text d trail change) ≡ p.from + (length bytes - p.to) + (p.value_to - p.value_from) + (length p.before + length p.behind)
plan_long bytes value d trail change p w =
    let c = plan_cut bytes value d trail change p w in
    let middle : List ℕ = take (p.value_to - p.value_from) (drop p.value_from value) in
    let a : length (take p.from bytes) ≡ p.from = Rattle.std.proofs.Common.length-take-le p.from bytes (omega (arith, c.ordered, c.within)) in
    let b : length (drop p.to bytes) ≡ length bytes - p.to = Rattle.std.proofs.Common.length-drop p.to bytes in
    let e : length middle ≡ p.value_to - p.value_from = Rattle.std.proofs.Common.length-take-le (p.value_to - p.value_from) (drop p.value_from value) (omega (arith, Rattle.std.proofs.Common.length-drop p.value_from value, w.ordered, w.within)) in
    omega (arith, ap (λ (l : List ℕ). length l) c.is, length-append (take p.from bytes) (plan_bytes value p ++ drop p.to bytes), length-append (plan_bytes value p) (drop p.to bytes), length-append p.before (middle ++ p.behind), length-append middle p.behind, a, b, e)

pub too_big : (bytes value : List ℕ) (d : Document) (trail : List ℕ) (change : Change) (p : Plan) (size : ℕ) → Plans bytes value d trail change p → p.depth ≤ MOST_DEEP
    → size ≡ min (p.from + (length bytes - p.to) + (p.value_to - p.value_from) + (length p.before + length p.behind)) (2 ^ 64 - 1) → TEXT_LIMIT < size → Finishes d trail change p.number (Err (refusals.Status status.E2BIG))
too_big bytes value d trail change p size plans less size_is big =
    inr (plans.shallow less, omega (arith, plan_long bytes value d trail change p (plans.writes less), size_is, big), refl)

pub finished : (bytes value new : List ℕ) (d : Document) (trail : List ℕ) (change : Change) (p : Plan) (size : ℕ) → Plans bytes value d trail change p → p.depth ≤ MOST_DEEP
    → size ≡ min (p.from + (length bytes - p.to) + (p.value_to - p.value_from) + (length p.before + length p.behind)) (2 ^ 64 - 1) → size ≤ TEXT_LIMIT → new ≡ take p.from bytes ++ (plan_bytes value p ++ drop p.to bytes)
    → Finishes d trail change p.number (Ok (record { text = new; number = p.number }))
finished bytes value new d trail change p size plans less size_is few is =
    let w = plans.writes less in
    let same : new ≡ changed_text d trail change = is ∙ sym ((plan_cut bytes value d trail change p w).is) in
    (plans.shallow less, same, omega (arith, ap (λ (l : List ℕ). length l) same, plan_long bytes value d trail change p w, size_is, few), refl)

-- ---- the order of refusals

pub path_not : (edit : Edit) (several : Bool) (text path value : List ℕ) (e : Refused) → Told {A = List Part} (λ p. ReadsPath path (Ok p)) (λ s. ReadsPath path (Err s)) (Err e) → TellsEdit edit several text path value (Err e)
path_not edit several text path value (refusals.Status s) h = inl (s, h, refl)
path_not edit several text path value refusals.NoMemory h = tt

pub text_not : (edit : Edit) (several : Bool) (text path value : List ℕ) (parts : List Part) (e : Refused) → ReadsPath path (Ok parts) → Told {A = List Node} (λ n. Spans text n) (λ s. ReadsText text (Err s)) (Err e) → TellsEdit edit several text path value (Err e)
text_not edit several text path value parts (refusals.Status s) reads h = inr (parts, reads, inl (s, h, refl))
text_not edit several text path value parts refusals.NoMemory reads h = tt

-- the path and the text were read
pub record IsRead (text path : List ℕ) (parts : List Part) (d : Document) : Type 0 where
  pub reads : ReadsPath path (Ok parts)
  pub is : IsText MOST_DEEP d text

-- the tree's edit is refused
tree_not : (edit : Edit) (several : Bool) (text path value : List ℕ) (parts : List Part) (d : Document) (s : Status) → IsRead text path parts d → EditsTree edit several parts d.tree value (Err s) → TellsEdit edit several text path value (Err (refusals.Status s))
tree_not edit several text path value parts d s r h = inr (parts, r.reads, inr (d, inl (d, r.is, refl), inl (s, h, refl)))

form_false : (edit : Edit) (parts : List Part) (b : Bool) → b ≡ false → (if b then Ok parts else Err status.PATH_EINVAL) ≡ Err status.PATH_EINVAL
form_false edit parts b e = ap (λ (x : Bool). if x then Ok parts else Err status.PATH_EINVAL) e

form_true : (edit : Edit) (parts : List Part) (b : Bool) → b ≡ true → Ok parts ≡ (if b then Ok parts else Err status.PATH_EINVAL)
form_true edit parts b e = sym (ap (λ (x : Bool). if x then Ok parts else Err status.PATH_EINVAL) e)

pub form_not : (edit : Edit) (several : Bool) (text path value : List ℕ) (parts : List Part) (d : Document) → IsRead text path parts d → takes edit parts ≡ false → TellsEdit edit several text path value (Err (refusals.Status status.PATH_EINVAL))
form_not edit several text path value parts d r e = tree_not edit several text path value parts d status.PATH_EINVAL r (inl (status.PATH_EINVAL, sym (form_false edit parts (takes edit parts) e), refl))

pub value_not : (edit : Edit) (several : Bool) (text path value : List ℕ) (parts : List Part) (d : Document) (e : Refused) → IsRead text path parts d → takes edit parts ≡ true → Told {A = Given} (λ g. IsGiven edit value g) (λ s. Gives edit value (Err s)) (Err e) → TellsEdit edit several text path value (Err e)
value_not edit several text path value parts d (refusals.Status s) r f h = tree_not edit several text path value parts d s r (inr (parts, form_true edit parts (takes edit parts) f, inl (s, h, refl)))
value_not edit several text path value parts d refusals.NoMemory r f h = tt

pub place_not : (edit : Edit) (several : Bool) (text path value : List ℕ) (parts : List Part) (d : Document) (g : Given) (e : Refused) → IsRead text path parts d → takes edit parts ≡ true → IsGiven edit value g → DecidesGiven edit several text value parts g d (Err e) → TellsEdit edit several text path value (Err e)
place_not edit several text path value parts d g (refusals.Status s) r f (asked, gives, describes) h = tree_not edit several text path value parts d s r (inr (parts, form_true edit parts (takes edit parts) f, inr (asked, gives, inl (s, h asked gives describes, refl))))
place_not edit several text path value parts d g refusals.NoMemory r f given h = tt

shallow_yes : (e : Edited) → depth e.tree ≤ MOST_DEEP → Ok e ≡ shallow e
shallow_yes e h = sym (ap (λ (b : Bool). if b then Ok e else Err status.VALUE_ETOODEEP) (le-leb (depth e.tree) MOST_DEEP h))

test_false : (a b : ℕ) (x : Bool) → nat_le a b ≡ x → b < a → x ≡ false
test_false a b true e less = absurd (omega (arith, leb-true a b e, less))
test_false a b false e less = refl

shallow_not : (e : Edited) → MOST_DEEP < depth e.tree → Err status.VALUE_ETOODEEP ≡ shallow e
shallow_not e h = sym (ap (λ (b : Bool). if b then Ok e else Err status.VALUE_ETOODEEP) (test_false (depth e.tree) MOST_DEEP (nat_le (depth e.tree) MOST_DEEP) refl h))

small_yes : (e : EditedText) → length e.text ≤ TEXT_LIMIT → Ok e ≡ small e
small_yes e h = sym (ap (λ (b : Bool). if b then Ok e else Err status.E2BIG) (le-leb (length e.text) TEXT_LIMIT h))

small_not : (e : EditedText) → TEXT_LIMIT < length e.text → Err status.E2BIG ≡ small e
small_not e h = sym (ap (λ (b : Bool). if b then Ok e else Err status.E2BIG) (test_false (length e.text) TEXT_LIMIT (nat_le (length e.text) TEXT_LIMIT) refl h))

abbrev answer : List ℕ → Option ℤ → Result EditedText Status
answer text number = Ok (record { text = text; number = number })

text_as : (new old : List ℕ) (n m : Option ℤ) → new ≡ old → n ≡ m → answer new n ≡ answer old m
text_as new old n m e f = ap (λ (l : List ℕ). answer l n) e ∙ ap (answer old) f

-- an act was decided, and its plan is finished
pub ends : (edit : Edit) (several : Bool) (text path value : List ℕ) (parts : List Part) (d : Document) (asked : Asked) (a : Act) (r : Result Made Refused) → IsRead text path parts d → takes edit parts ≡ true → Gives edit value (Ok asked) → Acts asked several parts d.tree (Ok a)
    → Finishes d a.trail a.change a.number r → TellsEdit edit several text path value r
ends edit several text path value parts d asked a (Ok e) r f gives acts (less, text_is, few, number_is) =
    let done : Edited = done_to d.tree a in
    inr (
      parts,
      r.reads,
      inr (
        d,
        inl (d, r.is, refl),
        inr (
          done,
          inr (parts, form_true edit parts (takes edit parts) f, inr (asked, gives, inr (a, acts, shallow_yes done less))),
          text_as e.text (changed_text d a.trail a.change) e.number a.number text_is number_is ∙ small_yes (within_document d done) (subst (λ (l : List ℕ). length l ≤ TEXT_LIMIT) text_is few),
        ),
      ),
    )
ends edit several text path value parts d asked a (Err (refusals.Status s)) r f gives acts (inl (deep, s_is)) =
    let done : Edited = done_to d.tree a in
    tree_not edit several text path value parts d s r (inr (parts, form_true edit parts (takes edit parts) f, inr (asked, gives, inr (a, acts, ap (λ (k : Status). Err k) s_is ∙ shallow_not done deep))))
ends edit several text path value parts d asked a (Err (refusals.Status s)) r f gives acts (inr (less, big, s_is)) =
    let done : Edited = done_to d.tree a in
    inr (
      parts,
      r.reads,
      inr (
        d,
        inl (d, r.is, refl),
        inr (
          done,
          inr (parts, form_true edit parts (takes edit parts) f, inr (asked, gives, inr (a, acts, shallow_yes done less))),
          ap (λ (k : Status). Err k) s_is ∙ small_not (within_document d done) big,
        ),
      ),
    )
ends edit several text path value parts d asked a (Err refusals.NoMemory) r f gives acts h = tt

pub planned : (edit : Edit) (several : Bool) (text value : List ℕ) (parts : List Part) (d : Document) (g : Given) (p : Plan) → IsGiven edit value g → DecidesGiven edit several text value parts g d (Ok p) → IsPlanned text value p
planned edit several text value parts d g p (asked, gives, describes) h = let a = h asked gives describes in (d, a.0.trail, a.0.change, a.2)

pub told : (edit : Edit) (several : Bool) (text path value : List ℕ) (parts : List Part) (d : Document) (g : Given) (p : Plan) (r : Result Made Refused) → IsRead text path parts d → takes edit parts ≡ true → IsGiven edit value g → DecidesGiven edit several text value parts g d (Ok p)
    → ((d : Document) (trail : List ℕ) (change : Change) → Plans text value d trail change p → Finishes d trail change p.number r) → TellsEdit edit several text path value r
told edit several text path value parts d g p r read f (asked, gives, describes) h finish =
    let a = h asked gives describes in
    ends edit several text path value parts d asked a.0 r read f gives a.1 (subst (λ (n : Option ℤ). Finishes d a.0.trail a.0.change n r) (sym a.3) (finish d a.0.trail a.0.change a.2))

-- ---- the last part

last_further : (q r p : Part) (ps : List Part) → p ≡ get_or (q ∷ r ∷ ps) (length (q ∷ r ∷ ps) - 1) p → p ≡ get_or (r ∷ ps) (length (r ∷ ps) - 1) p
last_further q r p ps e =
    let step : length (q ∷ r ∷ ps) - 1 ≡ suc (length (r ∷ ps) - 1) = omega arith in
    e ∙ ap (λ (i : ℕ). get_or (q ∷ r ∷ ps) i p) step

pub last_name : (ps : List Part) (p : Part) → p ≡ get_or ps (length ps - 1) p → 0 < length ps → ends_in_name (p ∷ []) ≡ ends_in_name ps
last_name [] p e some = absurd (omega (arith, some))
last_name (q ∷ []) p e some = ap (λ (x : Part). ends_in_name (x ∷ [])) e
last_name (q ∷ r ∷ ps) p e some = last_name (r ∷ ps) p (last_further q r p ps e) (omega arith)

pub last_index : (ps : List Part) (p : Part) → p ≡ get_or ps (length ps - 1) p → 0 < length ps → ends_in_index (p ∷ []) ≡ ends_in_index ps
last_index [] p e some = absurd (omega (arith, some))
last_index (q ∷ []) p e some = ap (λ (x : Part). ends_in_index (x ∷ [])) e
last_index (q ∷ r ∷ ps) p e some = last_index (r ∷ ps) p (last_further q r p ps e) (omega arith)
