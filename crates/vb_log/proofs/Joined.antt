-- A content with a part joined to it.
use Rattle.std.specs.Prelude.{◌≡◌, ℕ, ◌+◌, ◌<◌, ◌^◌, not, ◌&&◌, map as list_map, Bool, true, false, cond, List, [], ◌∷◌, ◌++◌, Option, Some, None, refl}
use Rattle.std.specs.List.{AllByRecursion}
use Rattle.std.specs.Ordering.{eq_by_cmp}
use Rattle.std.specs.FinMap as map
use Rattle.std.specs.FinMap.Entries.{find}
use Rattle.std.proofs.Common.{sym, ◌∙◌, ap, arith}
use Rattle.std.proofs.lemmas.List.Sums.{sum_by-cons}
use Rattle.doc_model.specs.declared.key.DocKey.{DocKey}
use Rattle.doc_model.specs.declared.document.Item.{Item}
use Rattle.doc_model.specs.Keys.{key_cmp, is_in}
use Rattle.doc_model.specs.Values.{StandOnce}
use Rattle.doc_model.proofs.Drops.{get_kept}
use Rattle.doc_model.proofs.Entries.{exact_keys, keys_total, same_key}
use Rattle.doc_model.proofs.Weights.{weight_part}
use Rattle.manifest_rules.specs.Catalog.{Catalog, collection_ids}
use Rattle.manifest_rules.specs.Rules.{lost}
use Rattle.manifest_rules.specs.Ids.{SameIds}
use Rattle.vb_log.specs.Content.{Content, has_collection}
use Rattle.vb_log.specs.Held.{item_weight, items_size, waiting_size, AreThere, IsHeld}
use Rattle.vb_log.specs.Joining.{IsPart, part_size, with_all}
use Rattle.vb_log.specs.Parts.{Difference, items_left, joined}
use Rattle.vb_log.specs.Sizes.{item_size, size}
use Rattle.vb_log.specs.Wholes.{by_keys, listed_size}
use Rattle.vb_log.proofs.Collections.{is_listed, lost_listed, has_listed}
use Rattle.vb_log.proofs.Together.{size_all}
use Rattle.vb_log.proofs.Weighing.{size_none, size_insert}

-- what is found in front, or else behind
abbrev over : Option Item → Option Item → Option Item
over (Some i) o = Some i
over None o = o

over_first : (b : Bool) (i : Item) (o p : Option Item) → over (cond b (Some i) o) p ≡ cond b (Some i) (over o p)
over_first true i o p = refl
over_first false i o p = refl

find_both : (q : DocKey) (es fs : List (DocKey × Item)) → find key_cmp q (es ++ fs) ≡ over (find key_cmp q es) (find key_cmp q fs)
find_both q [] fs = refl
find_both q (e ∷ es) fs =
    ap (cond (eq_by_cmp key_cmp q e.0) (Some e.1)) (find_both q es fs)
    ∙ sym (over_first (eq_by_cmp key_cmp q e.0) e.1 (find key_cmp q es) (find key_cmp q fs))

get_all : (m : map.FinMap key_cmp Item) (es : List (DocKey × Item)) (q : DocKey) → map.get (with_all m es) q ≡ over (find key_cmp q es) (map.get m q)
get_all m [] q = refl
get_all m (e ∷ es) q =
    map.get-insert keys_total (with_all m es) e.0 e.1 q
    ∙ ap (cond (eq_by_cmp key_cmp q e.0) (Some e.1)) (get_all m es q)
    ∙ sym (over_first (eq_by_cmp key_cmp q e.0) e.1 (find key_cmp q es) (map.get m q))

-- a key of some items is in a collection that is there, as theirs are
found_there : (manifest : Catalog) (items : List Item) (q : DocKey) (i : Item) → AllByRecursion (λ (j : Item). has_collection manifest j.key.collection ≡ true) items → find key_cmp q (by_keys items) ≡ Some i → has_collection manifest q.collection ≡ true
found_there manifest [] q i h f = absurd (let z : None ≡ Some i = f in cc)
found_there manifest (j ∷ items) q i h f = go (eq_by_cmp key_cmp q j.key) refl f (λ g. found_there manifest items q i h.1 g)
  where
    go : (b : Bool) → eq_by_cmp key_cmp q j.key ≡ b → cond b (Some j) (find key_cmp q (by_keys items)) ≡ Some i → (find key_cmp q (by_keys items) ≡ Some i → has_collection manifest q.collection ≡ true) → has_collection manifest q.collection ≡ true
    go true e f rest = ap (λ (k : DocKey). has_collection manifest k.collection) (same_key q j.key e) ∙ h.0
    go false e f rest = rest f

-- what a key of a joined content has
get_joined : (c : Content) (part : Difference) (items : List Item) (q : DocKey) → part.items ≡ map.from_entries (by_keys items) → map.get (joined c part).items q ≡ over (find key_cmp q (by_keys items)) (cond (has_collection part.manifest q.collection) (map.get c.items q) None)
get_joined c part items q is =
    map.get-from_entries keys_total (map.entries part.items ++ map.entries (items_left part.manifest c.items)) q
    ∙ find_both q (map.entries part.items) (map.entries (items_left part.manifest c.items))
    ∙ ap (λ o. over o (find key_cmp q (map.entries (items_left part.manifest c.items)))) (sym (map.get-entries part.items q) ∙ ap (λ m. map.get m q) is ∙ map.get-from_entries keys_total (by_keys items) q)
    ∙ ap (over (find key_cmp q (by_keys items))) (sym (map.get-entries (items_left part.manifest c.items) q) ∙ get_kept c.items (λ key. has_collection part.manifest key.collection) q)

-- a key's collection is lost just if it was there and isn't any more
lost_is : (old new : Catalog) (ids : List ℕ) (q : DocKey) → SameIds ids (lost (collection_ids old.scopes) (collection_ids new.scopes)) → is_in ids q ≡ (not (has_collection new q.collection) && has_collection old q.collection)
lost_is old new ids q same =
    same q.collection
    ∙ lost_listed q.collection (collection_ids old.scopes) (collection_ids new.scopes)
    ∙ ap (λ b. not b && is_listed q.collection (collection_ids old.scopes)) (sym (has_listed new q.collection))
    ∙ ap (λ b. not (has_collection new q.collection) && b) (sym (has_listed old q.collection))

pub joined_is : (c : Content) (part : Difference) (items : List Item) (ids : List ℕ) → AreThere c.manifest c.items → AllByRecursion (λ (i : Item). has_collection part.manifest i.key.collection ≡ true) items → part.items ≡ map.from_entries (by_keys items)
    → SameIds ids (lost (collection_ids c.manifest.scopes) (collection_ids part.manifest.scopes)) → map.retain_keys (with_all c.items (by_keys items)) (λ key. not (is_in ids key)) ≡ (joined c part).items
joined_is c part items ids there own is same = map.same_map keys_total exact_keys (map.retain_keys (with_all c.items (by_keys items)) (λ key. not (is_in ids key))) (joined c part).items (λ q.
    get_kept (with_all c.items (by_keys items)) (λ key. not (is_in ids key)) q
    ∙ ap (λ b. cond (not b) (map.get (with_all c.items (by_keys items)) q) None) (lost_is c.manifest part.manifest ids q same)
    ∙ ap (λ o. cond (not (not (has_collection part.manifest q.collection) && has_collection c.manifest q.collection)) o None) (get_all c.items (by_keys items) q)
    ∙ go q (find key_cmp q (by_keys items)) refl (map.get c.items q) refl (has_collection part.manifest q.collection) refl (has_collection c.manifest q.collection) refl
    ∙ sym (get_joined c part items q is))
  where
    go : (q : DocKey) (f : Option Item) → find key_cmp q (by_keys items) ≡ f → (g : Option Item) → map.get c.items q ≡ g → (new : Bool) → has_collection part.manifest q.collection ≡ new → (old : Bool) → has_collection c.manifest q.collection ≡ old
        → cond (not (not new && old)) (over f g) None ≡ over f (cond new g None)
    go q (Some i) f g h true n old o = refl
    go q (Some i) f g h false n old o = absurd (let z : true ≡ false = sym (found_there part.manifest items q i own f) ∙ n in cc)
    go q None f g h true n old o = refl
    go q None f g h false n true o = refl
    go q None f None h false n false o = refl
    go q None f (Some i) h false n false o = absurd (let z : Some i ≡ None = sym h ∙ there q o in cc)

there_joined : (c : Content) (part : Difference) (items : List Item) → AllByRecursion (λ (i : Item). has_collection part.manifest i.key.collection ≡ true) items → part.items ≡ map.from_entries (by_keys items) → AreThere part.manifest (joined c part).items
there_joined c part items own is q gone = get_joined c part items q is ∙ go (find key_cmp q (by_keys items)) refl
  where
    go : (f : Option Item) → find key_cmp q (by_keys items) ≡ f → over f (cond (has_collection part.manifest q.collection) (map.get c.items q) None) ≡ None
    go (Some i) f = absurd (let z : true ≡ false = sym (found_there part.manifest items q i own f) ∙ gone in cc)
    go None f = ap (λ b. cond b (map.get c.items q) None) gone

-- what is joined is held
pub joined_held : (c : Content) (part : Difference) (items : List Item) (ids : List ℕ) → IsHeld c → IsPart items part.prepares part.manifest part.end → part.items ≡ map.from_entries (by_keys items)
    → SameIds ids (lost (collection_ids c.manifest.scopes) (collection_ids part.manifest.scopes)) → items_size c.items + listed_size items + waiting_size part.prepares < 2 ^ 64 → IsHeld (joined c part)
joined_held c part items ids h p is same room = record {
  kept = p.kept;
  there = there_joined c part items p.there is;
  within = p.within;
  fits =
      let made = ap items_size (joined_is c part items ids h.there p.there is same) in
      let less = weight_part item_weight (with_all c.items (by_keys items)) (λ key. not (is_in ids key)) in
      let all = size_all c.items items in
      omega arith;
}

-- what the content is, as the code makes it
pub joined_made : (c : Content) (part : Difference) (items : List Item) (ids : List ℕ) (now : map.FinMap key_cmp Item) → IsHeld c → IsPart items part.prepares part.manifest part.end → part.items ≡ map.from_entries (by_keys items)
    → SameIds ids (lost (collection_ids c.manifest.scopes) (collection_ids part.manifest.scopes)) → now ≡ map.retain_keys (with_all c.items (by_keys items)) (λ key. not (is_in ids key))
    → record { items = now; prepares = part.prepares; manifest = part.manifest; greatest_cas = part.greatest_cas; length = part.end } ≡ joined c part
joined_made c part items ids now h p is same made =
    let items_is = made ∙ joined_is c part items ids h.there p.there is same in
    λ i. record { items = items_is i; prepares = part.prepares; manifest = part.manifest; greatest_cas = part.greatest_cas; length = part.end }

-- what items count that stand once
pub listed_made : (items : List Item) → StandOnce (by_keys items) → items_size (map.from_entries {R = key_cmp} (by_keys items)) ≡ listed_size items
listed_made [] once = size_none
listed_made (i ∷ items) once =
    let rest = listed_made items once.1 in
    let one = size_insert (map.from_entries (by_keys items)) i.key i in
    let none : item_size (map.get (map.from_entries {R = key_cmp} (by_keys items)) i.key) ≡ 0 = ap item_size (map.get-from_entries keys_total (by_keys items) i.key ∙ once.0) in
    let more = sum_by-cons (λ n. n) (item_weight i) (list_map item_weight items) in
    omega arith

-- there is room for all
pub room_for : (c : Content) (part : Difference) (items : List Item) → IsPart items part.prepares part.manifest part.end → part.items ≡ map.from_entries (by_keys items) → size c + part_size part < 2 ^ 64 → items_size c.items + listed_size items + waiting_size part.prepares < 2 ^ 64
room_for c part items p is room =
    let a = ap items_size is in
    let b = listed_made items p.once in
    omega arith
