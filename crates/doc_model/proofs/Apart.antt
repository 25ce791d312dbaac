-- A key that stands in its slot has nothing among the others.
use Rattle.std.specs.Prelude.{◌≡◌, Bool, true, false, cond, ◌&&◌, is_some, filter, List, Option, Some, None, refl}
use Rattle.std.specs.BTreeMap.{is_at}
use Rattle.std.specs.List.Sorted.{IsStrictlySortedBy}
use Rattle.std.specs.Map.{keys_of, values_of}
use Rattle.std.specs.FinMap as map
use Rattle.std.proofs.Common.{sym, ◌∙◌, ap, subst}
use Rattle.std.proofs.lemmas.List.Kept.{IsStrictlySortedBy-filter}
use Rattle.doc_model.specs.declared.key.DocKey.{DocKey}
use Rattle.doc_model.specs.declared.slot.Slot.{Slot}
use Rattle.doc_model.specs.Keys.{key_cmp}
use Rattle.doc_model.specs.Slots.{ArePlaced, AreTrees}
use Rattle.doc_model.proofs.Entries.{exact_keys, keys_total, same_key, value_at}
use Rattle.doc_model.proofs.Drops.{lookup_kept}
use Rattle.doc_model.proofs.Slots.{own, found, key_itself, joined, first_of, get_both, elsewhere, from_others}
use Rattle.doc_model.proofs.Freed.{keys_filter}

-- the same in words of slots
abbrev HaveNoMore : {X : Type 0} → List (Slot × (DocKey × X)) → List (DocKey × X) → Type 0
HaveNoMore es fs = (q : DocKey) → is_some (own es q) ≡ true → value_at fs q ≡ None

in_slots : {X : Type 0} (es : List (Slot × (DocKey × X))) (fs : List (DocKey × X)) → AreTrees es fs → HaveNoMore es fs
in_slots es fs h q e = h.apart q (ap is_some (found es q h.placed.sorted h.placed.placed) ∙ e)

trees : {X : Type 0} (es : List (Slot × (DocKey × X))) (fs : List (DocKey × X)) → ArePlaced es → IsStrictlySortedBy key_cmp (keys_of fs) → HaveNoMore es fs → AreTrees es fs
trees es fs h sorted more = record { placed = h; ordered = sorted; apart = λ q e. more q (sym (ap is_some (found es q h.sorted h.placed)) ∙ e) }

-- k has x in its slot, and nothing among the others
pub trees_given : {X : Type 0} (es es' : List (Slot × (DocKey × X))) (fs fs' : List (DocKey × X)) (k : DocKey) (x : X) → ((q : DocKey) → own es' q ≡ cond (is_at (key_cmp k) q) (Some x) (own es q)) → value_at fs' k ≡ None → ((q : DocKey) → is_at (key_cmp k) q ≡ false → value_at fs' q ≡ value_at fs q) → AreTrees es fs → ArePlaced es' → IsStrictlySortedBy key_cmp (keys_of fs') → AreTrees es' fs'
trees_given {X} es es' fs fs' k x slots none others h h' sorted = trees es' fs' h' sorted (λ q e. by q (is_at (key_cmp k) q) refl e)
  where
    by : (q : DocKey) (b : Bool) → is_at (key_cmp k) q ≡ b → is_some (own es' q) ≡ true → value_at fs' q ≡ None
    by q true at e = ap (value_at fs') (sym (same_key k q at)) ∙ none
    by q false at e = others q at ∙ in_slots es fs h q (sym (ap is_some (slots q ∙ ap (λ b. cond b (Some x) (own es q)) at)) ∙ e)

-- k had something in its slot, and has x there
pub trees_replaced : {X : Type 0} (es es' : List (Slot × (DocKey × X))) (fs : List (DocKey × X)) (k : DocKey) (had x : X) → own es k ≡ Some had → ((q : DocKey) → own es' q ≡ cond (is_at (key_cmp k) q) (Some x) (own es q)) → AreTrees es fs → ArePlaced es' → AreTrees es' fs
trees_replaced es es' fs k had x has slots h h' = trees_given es es' fs fs k x slots (in_slots es fs h k (ap is_some has)) (λ q _. refl) h h' h.ordered

-- its slot was free, and it has x there
pub trees_taken : {X : Type 0} (es es' : List (Slot × (DocKey × X))) (fs fs' : List (DocKey × X)) (k : DocKey) (x : X) → ((q : DocKey) → own es' q ≡ cond (is_at (key_cmp k) q) (Some x) (own es q)) → ((q : DocKey) → value_at fs' q ≡ cond (is_at (key_cmp k) q) None (value_at fs q)) → AreTrees es fs → ArePlaced es' → IsStrictlySortedBy key_cmp (keys_of fs') → AreTrees es' fs'
trees_taken es es' fs fs' k x slots others h h' sorted =
    trees_given es es' fs fs' k x slots (others k ∙ ap (λ b. cond b None (value_at fs k)) (key_itself k)) (λ q at. others q ∙ ap (λ b. cond b None (value_at fs q)) at) h h' sorted

-- its slot is another's, and it has x among the others
pub trees_elsewhere : {X : Type 0} (es es' : List (Slot × (DocKey × X))) (fs fs' : List (DocKey × X)) (k : DocKey) (x : X) → es' ≡ es → own es k ≡ None → ((q : DocKey) → value_at fs' q ≡ cond (is_at (key_cmp k) q) (Some x) (value_at fs q)) → AreTrees es fs → IsStrictlySortedBy key_cmp (keys_of fs') → AreTrees es' fs'
trees_elsewhere {X} es es' fs fs' k x same free others h sorted =
    let P : List (Slot × (DocKey × X)) → Type 0 = λ l. AreTrees l fs' in
    subst P (sym same) (trees es fs' h.placed sorted (λ q e. by q (is_at (key_cmp k) q) refl e))
  where
    by : (q : DocKey) (b : Bool) → is_at (key_cmp k) q ≡ b → is_some (own es q) ≡ true → value_at fs' q ≡ None
    by q true at e = absurd (let z : false ≡ true = sym (ap is_some (ap (own es) (sym (same_key k q at)) ∙ free)) ∙ e in cc)
    by q false at e = others q ∙ ap (λ b. cond b (Some x) (value_at fs q)) at ∙ in_slots es fs h q e

-- nothing changed
pub trees_same : {X : Type 0} (es es' : List (Slot × (DocKey × X))) (fs fs' : List (DocKey × X)) → es' ≡ es → fs' ≡ fs → AreTrees es fs → AreTrees es' fs'
trees_same {X} es es' fs fs' same also h =
    let P : List (Slot × (DocKey × X)) × List (DocKey × X) → Type 0 = λ p. AreTrees p.0 p.1 in
    subst P (λ i. (sym same i, sym also i)) h

-- slots and others have no more than they had
fewer : {X : Type 0} (es es' : List (Slot × (DocKey × X))) (fs fs' : List (DocKey × X)) → ((q : DocKey) → is_some (own es' q) ≡ true → is_some (own es q) ≡ true) → ((q : DocKey) → value_at fs q ≡ None → value_at fs' q ≡ None) → AreTrees es fs → ArePlaced es' → IsStrictlySortedBy key_cmp (keys_of fs') → AreTrees es' fs'
fewer es es' fs fs' slots others h h' sorted = trees es' fs' h' sorted (λ q e. others q (in_slots es fs h q (slots q e)))

none_of : {X : Type 0} (b : Bool) (o : Option X) → o ≡ None → cond b None o ≡ None
none_of true o e = refl
none_of false o e = e

some_of : {X : Type 0} (b : Bool) (o : Option X) → is_some (cond b None o) ≡ true → is_some o ≡ true
some_of true o e = absurd (let z : false ≡ true = e in cc)
some_of false o e = e

-- k has nothing any more, in its slot or among the others
pub trees_freed : {X : Type 0} (es es' : List (Slot × (DocKey × X))) (fs fs' : List (DocKey × X)) (k : DocKey) → ((q : DocKey) → own es' q ≡ cond (is_at (key_cmp k) q) None (own es q)) → ((q : DocKey) → value_at fs' q ≡ cond (is_at (key_cmp k) q) None (value_at fs q)) → AreTrees es fs → ArePlaced es' → IsStrictlySortedBy key_cmp (keys_of fs') → AreTrees es' fs'
trees_freed es es' fs fs' k slots others h h' sorted =
    fewer es es' fs fs' (λ q e. some_of (is_at (key_cmp k) q) (own es q) (sym (ap is_some (slots q)) ∙ e)) (λ q e. others q ∙ none_of (is_at (key_cmp k) q) (value_at fs q) e) h h' sorted

pub trees_gone : {X : Type 0} (es : List (Slot × (DocKey × X))) (fs fs' : List (DocKey × X)) (k : DocKey) → ((q : DocKey) → value_at fs' q ≡ cond (is_at (key_cmp k) q) None (value_at fs q)) → AreTrees es fs → IsStrictlySortedBy key_cmp (keys_of fs') → AreTrees es fs'
trees_gone es fs fs' k others h sorted = fewer es es fs fs' (λ q e. e) (λ q e. others q ∙ none_of (is_at (key_cmp k) q) (value_at fs q) e) h h.placed sorted

kept_none : {X : Type 0} (b : Bool) (o : Option X) → o ≡ None → cond b o None ≡ None
kept_none true o e = e
kept_none false o e = refl

kept_some : {X : Type 0} (b : Bool) (o : Option X) → is_some (cond b o None) ≡ true → is_some o ≡ true
kept_some true o e = e
kept_some false o e = absurd (let z : false ≡ true = e in cc)

-- the keys that pass a test are left
pub trees_kept : {X : Type 0} (p : DocKey → Bool) (es es' : List (Slot × (DocKey × X))) (fs fs' : List (DocKey × X)) → values_of es' ≡ filter (λ e. p e.0) (values_of es) → fs' ≡ filter (λ e. p e.0) fs → AreTrees es fs → ArePlaced es' → AreTrees es' fs'
trees_kept p es es' fs fs' slots others h h' = record {
  placed = h';
  ordered = subst (λ l. IsStrictlySortedBy key_cmp (keys_of l)) (sym others) (subst (IsStrictlySortedBy key_cmp) (sym (keys_filter p fs)) (IsStrictlySortedBy-filter key_cmp p (keys_of fs) h.ordered));
  apart = λ q e.
      ap (λ l. value_at l q) others ∙ lookup_kept p fs q
      ∙ kept_none (p q) (value_at fs q) (h.apart q (kept_some (p q) (value_at (values_of es) q) (sym (ap is_some (ap (λ l. value_at l q) slots ∙ lookup_kept p (values_of es) q)) ∙ e)));
}

-- k, whose slot is not its own, has x among the others where it had anything
pub trees_other : {X : Type 0} (es es' : List (Slot × (DocKey × X))) (fs fs' : List (DocKey × X)) (k : DocKey) (x : X) (had : Bool) → es' ≡ es → own es k ≡ None → ((q : DocKey) → value_at fs' q ≡ cond (had && is_at (key_cmp k) q) (Some x) (value_at fs q)) → AreTrees es fs → IsStrictlySortedBy key_cmp (keys_of fs') → AreTrees es' fs'
trees_other es es' fs fs' k x true same free others h sorted = trees_elsewhere es es' fs fs' k x same free others h sorted
trees_other {X} es es' fs fs' k x false same free others h sorted =
    let P : List (Slot × (DocKey × X)) → Type 0 = λ l. AreTrees l fs' in
    subst P (sym same) (fewer es es fs fs' (λ q e. e) (λ q e. others q ∙ e) h h.placed sorted)

-- ---- a key that stands in no slot

-- no slot changes, and k's own has nothing of k
pub record Elsewhere {X : Type 0} (es es' : List (Slot × (DocKey × X))) (fs fs' : List (DocKey × X)) (k : DocKey) : Type 0 where
  pub slots : es' ≡ es
  pub others : fs' ≡ fs
  pub free : own es k ≡ None

same_joined : {X : Type 0} (es : List (Slot × (DocKey × X))) (fs fs' : List (DocKey × X)) → ArePlaced es → ((q : DocKey) → value_at fs' q ≡ value_at fs q) → joined es fs' ≡ joined es fs
same_joined es fs fs' h others = map.same_map keys_total exact_keys (joined es fs') (joined es fs) (λ q. get_both es fs' q h ∙ ap (first_of (own es q)) (others q) ∙ sym (get_both es fs q h))

-- k has x among the others, where it had anything
pub other_replaced : {X : Type 0} (es es' : List (Slot × (DocKey × X))) (fs gs fs' : List (DocKey × X)) (k : DocKey) (x : X) (had : Option X) (m : map.FinMap key_cmp X) → Elsewhere es es' fs gs k → joined es fs ≡ m → ArePlaced es → had ≡ value_at gs k
    → ((q : DocKey) → value_at fs' q ≡ cond (is_some had && is_at (key_cmp k) q) (Some x) (value_at gs q)) → joined es' fs' ≡ cond (is_some (map.get m k)) (map.insert m k x) m
other_replaced {X} es es' fs gs fs' k x had m e view h found_had others =
    ap (λ l. joined l fs') e.slots
    ∙ by had (λ q. others q ∙ ap (λ l. cond (is_some had && is_at (key_cmp k) q) (Some x) (value_at l q)) e.others)
    ∙ ap (λ o. cond (is_some o) (map.insert m k x) m) (from_others es fs m k had view h e.free (found_had ∙ ap (λ l. value_at l k) e.others))
  where
    by : (had : Option X) → ((q : DocKey) → value_at fs' q ≡ cond (is_some had && is_at (key_cmp k) q) (Some x) (value_at fs q)) → joined es fs' ≡ cond (is_some had) (map.insert m k x) m
    by None given = same_joined es fs fs' h given ∙ view
    by (Some y) given = elsewhere es es fs fs' k x refl e.free given h ∙ ap (λ n. map.insert n k x) view
