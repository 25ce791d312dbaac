-- Items that are set together, and set back.
use Rattle.std.specs.Prelude.{◌≡◌, ◌+◌, ◌<◌, ◌≤◌, ◌^◌, is_some, reverse, map as list_map, Bool, true, false, cond, List, [], ◌∷◌, ◌++◌, length, Option, Some, None, refl}
use Rattle.std.specs.Ordering.{eq_by_cmp}
use Rattle.std.specs.FinMap as map
use Rattle.std.proofs.Common.{sym, ◌∙◌, ap, subst, append_assoc, append-nil, arith}
use Rattle.std.proofs.lemmas.List.{reverse-append}
use Rattle.std.proofs.lemmas.List.Sums.{sum_by-cons}
use Rattle.doc_model.specs.declared.key.DocKey.{DocKey}
use Rattle.doc_model.specs.declared.document.Item.{Item}
use Rattle.doc_model.specs.Keys.{key_cmp}
use Rattle.doc_model.proofs.Entries.{exact_keys, keys_total, same_key}
use Rattle.doc_model.proofs.Weights.{key_tied}
use Rattle.vb_log.specs.Held.{item_weight, items_size}
use Rattle.vb_log.specs.Joining.{with_all, Noted, AreNoted}
use Rattle.vb_log.specs.Wholes.{by_keys, listed_size}
use Rattle.vb_log.proofs.Weighing.{size_insert}
use Rattle.vb_log.proofs.Holding.{twice}

-- what has no length has nothing
pub none_in : {A : Type 0} (xs : List A) → length xs ≡ 0 → xs ≡ []
none_in [] e = refl
none_in (x ∷ xs) e = absurd (omega arith)

-- ---- notes

pub reverse_push : {A : Type 0} (xs : List A) (x : A) → reverse (xs ++ x ∷ []) ≡ x ∷ reverse xs
reverse_push xs x = reverse-append xs (x ∷ [])

-- one note more
pub note_more : (before between after : map.FinMap key_cmp Item) (notes more : List (DocKey × Option Item)) (note : DocKey × Option Item) → more ≡ notes ++ note ∷ [] → Noted between after note → AreNoted before (reverse notes) between → AreNoted before (reverse more) after
note_more before between after notes more note is one h = subst (λ l. AreNoted before l after) (sym (ap reverse is ∙ reverse_push notes note)) (between, h, one)

-- the last note
pub note_last : (before after : map.FinMap key_cmp Item) (notes rest : List (DocKey × Option Item)) (note : DocKey × Option Item) → notes ≡ rest ++ note ∷ [] → AreNoted before (reverse notes) after → (between : map.FinMap key_cmp Item) × AreNoted before (reverse rest) between × Noted between after note
note_last before after notes rest note is h = subst (λ l. AreNoted before l after) (ap reverse is ∙ reverse_push rest note) h

-- what a noted key has
pub noted_has : (before after : map.FinMap key_cmp Item) (note : DocKey × Option Item) → Noted before after note → is_some (map.get after note.0) ≡ true
noted_has before after note n =
    ap (λ m. is_some (map.get m note.0)) n.set ∙ ap is_some (map.get-insert keys_total before note.0 n.item note.0)
    ∙ ap (λ b. is_some (cond b (Some n.item) (map.get before note.0))) (key_tied note.0)

same_back : (before : map.FinMap key_cmp Item) (key : DocKey) (item : Item) → Some item ≡ map.get before key → map.insert before key item ≡ before
same_back before key item e = map.same_map keys_total exact_keys (map.insert before key item) before (λ q. map.get-insert keys_total before key item q ∙ go q (eq_by_cmp key_cmp q key) refl)
  where
    go : (q : DocKey) (b : Bool) → eq_by_cmp key_cmp q key ≡ b → cond b (Some item) (map.get before q) ≡ map.get before q
    go q true t = e ∙ ap (map.get before) (sym (same_key q key t))
    go q false t = refl

-- it gets back what it had
pub back_set : (before after : map.FinMap key_cmp Item) (key : DocKey) (item : Item) → Noted before after (key, Some item) → map.insert after key item ≡ before
back_set before after key item n = ap (λ m. map.insert m key item) n.set ∙ twice before key n.item item ∙ same_back before key item n.had

pub back_removed : (before after : map.FinMap key_cmp Item) (key : DocKey) → Noted before after (key, None) → map.remove after key ≡ before
back_removed before after key n = ap (λ m. map.remove m key) n.set ∙ map.same_map keys_total exact_keys (map.remove (map.insert before key n.item) key) before (λ q.
    map.get-remove keys_total (map.insert before key n.item) key q ∙ ap (cond (eq_by_cmp key_cmp q key) None) (map.get-insert keys_total before key n.item q) ∙ go q (eq_by_cmp key_cmp q key) refl)
  where
    go : (q : DocKey) (b : Bool) → eq_by_cmp key_cmp q key ≡ b → cond b None (cond b (Some n.item) (map.get before q)) ≡ map.get before q
    go q true t = n.had ∙ ap (map.get before) (sym (same_key q key t))
    go q false t = refl

-- ---- items that are set one after another, the last of them first

pub size_all : (items : map.FinMap key_cmp Item) (new : List Item) → items_size (with_all items (by_keys new)) ≤ items_size items + listed_size new
size_all items [] = omega arith
size_all items (i ∷ is) =
    let one = size_insert (with_all items (by_keys is)) i.key i in
    let more = sum_by-cons (λ n. n) (item_weight i) (list_map item_weight is) in
    omega (arith, size_all items is)

-- some of all are left, and the others are set
pub record SetSome (before : map.FinMap key_cmp Item) (all left : List Item) (now : map.FinMap key_cmp Item) : Type 0 where
  pub done : List Item
  pub parts : all ≡ left ++ done
  pub set : now ≡ with_all before (by_keys done)

pub none_set : (before : map.FinMap key_cmp Item) (all : List Item) → SetSome before all all before
none_set before all = record { done = []; parts = sym (append-nil all); set = refl }

pub one_set : (before : map.FinMap key_cmp Item) (all left rest : List Item) (item : Item) (now after : map.FinMap key_cmp Item) → SetSome before all left now → left ≡ rest ++ item ∷ [] → after ≡ map.insert now item.key item → SetSome before all rest after
one_set before all left rest item now after h is set = record {
  done = item ∷ h.done;
  parts = h.parts ∙ ap (λ l. l ++ h.done) is ∙ append_assoc rest (item ∷ []) h.done;
  set = set ∙ ap (λ m. map.insert m item.key item) h.set;
}

pub all_set : (before : map.FinMap key_cmp Item) (all : List Item) (now : map.FinMap key_cmp Item) → SetSome before all [] now → now ≡ with_all before (by_keys all)
all_set before all now h = h.set ∙ ap (λ l. with_all before (by_keys l)) (sym h.parts)

listed-append : (xs ys : List Item) → listed_size (xs ++ ys) ≡ listed_size xs + listed_size ys
listed-append [] ys = omega arith
listed-append (x ∷ xs) ys =
    let a = sum_by-cons (λ n. n) (item_weight x) (list_map item_weight (xs ++ ys)) in
    let b = sum_by-cons (λ n. n) (item_weight x) (list_map item_weight xs) in
    omega (arith, listed-append xs ys)

-- the next one fits, if all do
pub next_fits : (before : map.FinMap key_cmp Item) (all left rest : List Item) (item : Item) (now : map.FinMap key_cmp Item) → SetSome before all left now → left ≡ rest ++ item ∷ [] → items_size before + listed_size all < 2 ^ 64 → items_size now + item_weight item < 2 ^ 64
next_fits before all left rest item now h is fits =
    let whole : listed_size all ≡ listed_size left + listed_size h.done = ap listed_size h.parts ∙ listed-append left h.done in
    let last : listed_size left ≡ listed_size rest + listed_size (item ∷ []) = ap listed_size is ∙ listed-append rest (item ∷ []) in
    let one : listed_size (item ∷ []) ≡ item_weight item + 0 = sum_by-cons (λ n. n) (item_weight item) [] in
    let so_far = size_all before h.done in
    let size = ap items_size h.set in
    omega arith

-- ---- items that are set over none

pub with_none : (items : List Item) → with_all map.empty (by_keys items) ≡ map.from_entries (by_keys items)
with_none [] = refl
with_none (i ∷ is) = ap (λ m. map.insert m i.key i) (with_none is)
