-- What is read for each edit.
use Rattle.std.proofs.Common.{◌≡◌, ℕ, List, Ok, Err, Result, ◌⊎◌, inl, inr, refl, sym, subst}
use Rattle.doc_model.specs.declared.status.Status.{Status}
use Rattle.doc_model.specs.declared.status.Refused.{Refused}
use Rattle.doc_model.specs.declared.status.Refused.TheVariants as refusals
use Rattle.json_model.specs.declared.asked.Edit.{Edit}
use Rattle.json_model.specs.declared.asked.Edit.TheVariants as edits
use Rattle.json_model.specs.Spelled.{Tree, Parts}
use Rattle.json_model.specs.Edit.{Asked, dict_add, dict_upsert, delete, replace, push_last, push_first, array_insert, add_unique, counter}
use Rattle.json_model.specs.Values.{Gives, GivesTree, GivesParts}
use Rattle.subdoc_edit.specs.declared.values.Given.{Given}
use Rattle.subdoc_edit.specs.Telling.{Told}
use Rattle.subdoc_edit.specs.Given.{IsTree, IsParts, Describes, IsGiven, ReadsTree, ReadsParts, ReadsLeaf, ReadsDelta}

-- what is told of the value of this edit
abbrev pub TellsGiven : Edit → List ℕ → Result Given Refused → Type 0
TellsGiven edit value = Told (λ g. IsGiven edit value g) (λ s. Gives edit value (Err s))

tree_given : (edit : Edit) (value : List ℕ) (asked : Tree → Asked) → ((a : Result Asked Status) → GivesTree asked value a → Gives edit value a) → ((g : Given) (t : Tree) → IsTree value g t → Describes value g (asked t))
    → (r : Result Given Refused) → ReadsTree value r → TellsGiven edit value r
tree_given edit value asked gives describes (Ok g) q = (asked q.0, gives (Ok (asked q.0)) (q.2 asked), describes g q.0 q.1)
tree_given edit value asked gives describes (Err (refusals.Status s)) q = gives (Err s) (q asked)
tree_given edit value asked gives describes (Err refusals.NoMemory) q = tt

parts_given : (edit : Edit) (value : List ℕ) (asked : Parts → Asked) → ((a : Result Asked Status) → GivesParts asked value a → Gives edit value a) → ((g : Given) (ps : Parts) → IsParts value g ps → Describes value g (asked ps))
    → (r : Result Given Refused) → ReadsParts value r → TellsGiven edit value r
parts_given edit value asked gives describes (Ok g) q = (asked q.0, gives (Ok (asked q.0)) (q.2 asked), describes g q.0 q.1)
parts_given edit value asked gives describes (Err (refusals.Status s)) q = gives (Err s) (q asked)
parts_given edit value asked gives describes (Err refusals.NoMemory) q = tt

pub one_text_given : (edit : Edit) (value : List ℕ) (r : Result Given Refused) → (edit ≡ edits.DictAdd) ⊎ (edit ≡ edits.DictUpsert) ⊎ (edit ≡ edits.Replace) → ReadsTree value r → TellsGiven edit value r
one_text_given edit value r (inl e) q = subst (λ (x : Edit). TellsGiven x value r) (sym e) (tree_given edits.DictAdd value dict_add (λ a h. h) (λ g t h. h) r q)
one_text_given edit value r (inr (inl e)) q = subst (λ (x : Edit). TellsGiven x value r) (sym e) (tree_given edits.DictUpsert value dict_upsert (λ a h. h) (λ g t h. h) r q)
one_text_given edit value r (inr (inr e)) q = subst (λ (x : Edit). TellsGiven x value r) (sym e) (tree_given edits.Replace value replace (λ a h. h) (λ g t h. h) r q)

pub elements_given : (edit : Edit) (value : List ℕ) (r : Result Given Refused) → (edit ≡ edits.ArrayPushLast) ⊎ (edit ≡ edits.ArrayPushFirst) ⊎ (edit ≡ edits.ArrayInsert) → ReadsParts value r → TellsGiven edit value r
elements_given edit value r (inl e) q = subst (λ (x : Edit). TellsGiven x value r) (sym e) (parts_given edits.ArrayPushLast value push_last (λ a h. h) (λ g ps h. h) r q)
elements_given edit value r (inr (inl e)) q = subst (λ (x : Edit). TellsGiven x value r) (sym e) (parts_given edits.ArrayPushFirst value push_first (λ a h. h) (λ g ps h. h) r q)
elements_given edit value r (inr (inr e)) q = subst (λ (x : Edit). TellsGiven x value r) (sym e) (parts_given edits.ArrayInsert value array_insert (λ a h. h) (λ g ps h. h) r q)

leaf_told : (value : List ℕ) (r : Result Given Refused) → ReadsLeaf value r → TellsGiven edits.ArrayAddUnique value r
leaf_told value (Ok g) q = (add_unique q.0 q.1, q.3 add_unique, q.2)
leaf_told value (Err (refusals.Status s)) q = q add_unique
leaf_told value (Err refusals.NoMemory) q = tt

pub leaf_given : (edit : Edit) (value : List ℕ) (r : Result Given Refused) → edit ≡ edits.ArrayAddUnique → ReadsLeaf value r → TellsGiven edit value r
leaf_given edit value r e q = subst (λ (x : Edit). TellsGiven x value r) (sym e) (leaf_told value r q)

delta_told : (value : List ℕ) (r : Result Given Refused) → ReadsDelta value r → TellsGiven edits.Counter value r
delta_told value (Ok g) q = (counter g.delta, q, refl)
delta_told value (Err (refusals.Status s)) q = q
delta_told value (Err refusals.NoMemory) q = tt

pub delta_given : (edit : Edit) (value : List ℕ) (r : Result Given Refused) → edit ≡ edits.Counter → ReadsDelta value r → TellsGiven edit value r
delta_given edit value r e q = subst (λ (x : Edit). TellsGiven x value r) (sym e) (delta_told value r q)

pub nothing_given : (edit : Edit) (value : List ℕ) (g : Given) → edit ≡ edits.Delete → TellsGiven edit value (Ok g)
nothing_given edit value g e = subst (λ (x : Edit). TellsGiven x value (Ok g)) (sym e) (delete, refl, tt)
