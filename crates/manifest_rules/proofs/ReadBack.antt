-- A manifest's text is read back as the manifest.
use Rattle.std.proofs.Common.{◌≡◌, ℕ, ◌^◌, ◌<◌, ◌≤◌, Bool, true, false, cond, nat_eq, nat_le, nat_lt, ◌&&◌, List, [], ◌∷◌, length, codes, Option, Some, None, option_map, option_and_then, refl, sym, ap, ◌∙◌, arith, lt-ltb, append-nil}
use Rattle.std.proofs.lemmas.Bool.{and_parts, and_from, ltb-true, leb-true, eqb-true}
use Rattle.std.proofs.lemmas.List.Folds.{list_all-append}
use Rattle.std.specs.List.{list_all}
use Rattle.json.specs.Token.{Token}
use Rattle.json.specs.Json as json
use Rattle.json.specs.Tree as tree
use Rattle.json.proofs.Printed.Decimals.{IsNumber-decimal}
use Rattle.json.proofs.Printed.Tokens.{tokens-print}
use Rattle.json.proofs.Printed.Trees.{value-json_tokens, ArePrintable-json_tokens}
use Rattle.serde_json.specs.Data.{Data, unsigned, number, string, array, object, item, Members, no_members, member, put}
use Rattle.serde_json.specs.Read.{read, max_depth, of_json, of_items, of_members}
use Rattle.serde_json.specs.Written.{compact_text, outline, items_outline}
use Rattle.serde_json.proofs.Numbers.{number_of-decimal}
use Rattle.serde_json.proofs.Texts.{print-outline}
use Rattle.kv_edge.specs.Fields.{◌>>=◌}
use Rattle.manifest_rules.specs.declared.types.Scope.{Scope}
use Rattle.manifest_rules.specs.declared.types.Collection.{Collection}
use Rattle.manifest_rules.specs.declared.types.TheConstants.{COUNT_LIMIT}
use Rattle.doc_model.specs.declared.limits.TheConstants.{MANIFEST_LIMIT}
use Rattle.manifest_rules.specs.Catalog.{Catalog, scope_ids, collection_ids, collections_in, numbers_fit}
use Rattle.manifest_rules.specs.Rules.{is_name, is_small, names_formed, scopes_distinct, collections_distinct, none_reserved, has_default_scope, default_is_in_place, obeys_alone}
use Rattle.manifest_rules.specs.State.{is_sound, are_gone, is_kept}
use Rattle.manifest_rules.specs.Laws.{without_dropped}
use Rattle.manifest_rules.specs.Text.{hex, manifest_text, text_of}
use Rattle.manifest_rules.specs.Form.{hex_number, each_from, collection_from, scope_from, catalog_from, catalog_in}
use Rattle.manifest_rules.proofs.Fits.{collection_fits, all_both}
use Rattle.manifest_rules.proofs.Plain.{short_hex, hex_number-hex}
use Rattle.manifest_rules.proofs.Tree.{each, collection_data, scope_data, manifest_data}
use Rattle.manifest_rules.proofs.Compact.{fine_collection, fine_parts, Fine, fine_scope, fine_scope_parts, manifest_compact}

-- ---- reading what is printed of a tree

read_printed : (d : Data) → tree.HasNumbers (outline d) → tree.depth (outline d) ≤ max_depth → read (compact_text d) ≡ of_json (outline d)
read_printed d numbers shallow =
    let j = outline d in
    let rest = λ (ts : List Token). option_and_then of_json (option_and_then (λ p. json.if_last p.0 p.1) (json.value max_depth ts)) in
    ap read (sym (print-outline d))
    ∙ ap rest (tokens-print (tree.json_tokens j) (ArePrintable-json_tokens j numbers) ∙ sym (append-nil (tree.json_tokens j)))
    ∙ ap (λ o. option_and_then of_json (option_and_then (λ p. json.if_last p.0 p.1) o)) (value-json_tokens j max_depth [] shallow)

-- ---- lists

items_numbers : {A : Type 0} (f : A → Data) (p : A → Bool) → ((x : A) → p x ≡ true → tree.HasNumbers (outline (f x))) → (xs : List A) → list_all p xs ≡ true → tree.ItemsHaveNumbers (items_outline (each f xs))
items_numbers f p holds [] h = tt
items_numbers f p holds (x ∷ xs) h = let parts = and_parts (p x) (list_all p xs) h in (holds x parts.0, items_numbers f p holds xs parts.1)

items_shallow : {A : Type 0} (f : A → Data) (n : ℕ) → ((x : A) → tree.depth (outline (f x)) ≤ n) → (xs : List A) → tree.items_depth (items_outline (each f xs)) ≤ n
items_shallow f n holds [] = omega arith
items_shallow f n holds (x ∷ xs) = let first = holds x in let rest = items_shallow f n holds xs in omega arith

items_read : {A : Type 0} (f g : A → Data) (p : A → Bool) → ((x : A) → p x ≡ true → of_json (outline (f x)) ≡ Some (g x)) → (xs : List A) → list_all p xs ≡ true → of_items (items_outline (each f xs)) ≡ Some (each g xs)
items_read f g p holds [] h = refl
items_read f g p holds (x ∷ xs) h =
    let parts = and_parts (p x) (list_all p xs) h in
    ap (option_and_then (λ d. option_map (item d) (of_items (items_outline (each f xs))))) (holds x parts.0) ∙ ap (option_map (item (g x))) (items_read f g p holds xs parts.1)

each_back : {A : Type 0} (f : Data → Option A) (g : A → Data) (p : A → Bool) → ((x : A) → p x ≡ true → f (g x) ≡ Some x) → (xs : List A) → list_all p xs ≡ true → each_from f (each g xs) ≡ Some xs
each_back f g p holds [] h = refl
each_back f g p holds (x ∷ xs) h =
    let parts = and_parts (p x) (list_all p xs) h in
    ap (λ o. o >>= (λ y. each_from f (each g xs) >>= (λ ys. Some (y ∷ ys)))) (holds x parts.0) ∙ ap (λ o. o >>= (λ ys. Some (x ∷ ys))) (each_back f g p holds xs parts.1)

-- ---- a collection, with its members in the order of their names

abbrev sorted_lifetime : ℕ → Members → Members
sorted_lifetime n others = cond (nat_eq n 0) others (member (codes "maxTTL") (number (unsigned n)) others)

abbrev sorted_collection : Collection → Data
sorted_collection c = object (sorted_lifetime c.max_ttl (member (codes "name") (string c.name) (member (codes "uid") (string (hex c.id)) no_members)))

collection_numbers : (c : Collection) → fine_collection c ≡ true → tree.HasNumbers (outline (collection_data c))
collection_numbers c h = by (nat_eq c.max_ttl 0)
  where
    by : (b : Bool) → tree.HasNumbers (outline (object (member (codes "name") (string c.name) (member (codes "uid") (string (hex c.id)) (cond b no_members (member (codes "maxTTL") (number (unsigned c.max_ttl)) no_members))))))
    by true = (tt, (tt, tt))
    by false = (tt, (tt, (let fine = fine_parts c h in let small : c.max_ttl < 2 ^ 64 = omega (arith, fine.max_ttl) in IsNumber-decimal c.max_ttl small, tt)))

collection_shallow : (c : Collection) → tree.depth (outline (collection_data c)) ≤ 1
collection_shallow c = by (nat_eq c.max_ttl 0)
  where
    by : (b : Bool) → tree.depth (outline (object (member (codes "name") (string c.name) (member (codes "uid") (string (hex c.id)) (cond b no_members (member (codes "maxTTL") (number (unsigned c.max_ttl)) no_members)))))) ≤ 1
    by true = omega arith
    by false = omega arith

collection_read : (c : Collection) → fine_collection c ≡ true → of_json (outline (collection_data c)) ≡ Some (sorted_collection c)
collection_read c h = by (nat_eq c.max_ttl 0)
  where
    by : (b : Bool) → of_json (outline (object (member (codes "name") (string c.name) (member (codes "uid") (string (hex c.id)) (cond b no_members (member (codes "maxTTL") (number (unsigned c.max_ttl)) no_members))))))
        ≡ Some (object (cond b (member (codes "name") (string c.name) (member (codes "uid") (string (hex c.id)) no_members)) (member (codes "maxTTL") (number (unsigned c.max_ttl)) (member (codes "name") (string c.name) (member (codes "uid") (string (hex c.id)) no_members)))))
    by true = refl
    by false =
        let fine = fine_parts c h in
        let small : c.max_ttl < 2 ^ 64 = omega (arith, fine.max_ttl) in
        ap (λ o. option_map object (option_and_then (λ d. of_members json.no_members (put (codes "maxTTL") d (member (codes "name") (string c.name) (member (codes "uid") (string (hex c.id)) no_members)))) (option_map number o))) (number_of-decimal c.max_ttl small)

id_back : (id : ℕ) → id < 2 ^ 32 → hex_number 8 (hex id) ≡ Some id
id_back id small = hex_number-hex 8 id (omega arith) (short_hex 7 id (omega arith) (omega arith))

abbrev made : List ℕ → ℕ → ℕ → Collection
made name id max_ttl = record { name = name; id = id; max_ttl = max_ttl }

collection_back : (c : Collection) → fine_collection c ≡ true → collection_from (sorted_collection c) ≡ Some c
collection_back c h = by (nat_eq c.max_ttl 0) refl (fine_parts c h)
  where
    by : (b : Bool) → nat_eq c.max_ttl 0 ≡ b → Fine c → collection_from (object (cond b (member (codes "name") (string c.name) (member (codes "uid") (string (hex c.id)) no_members)) (member (codes "maxTTL") (number (unsigned c.max_ttl)) (member (codes "name") (string c.name) (member (codes "uid") (string (hex c.id)) no_members))))) ≡ Some c
    by true e fine =
        ap (λ o. o >>= (λ id. Some (made c.name id 0))) (id_back c.id fine.id) ∙ ap (λ n. Some (made c.name c.id n)) (sym (eqb-true c.max_ttl 0 e))
    by false e fine =
        ap (λ o. o >>= (λ id. cond (nat_lt c.max_ttl (2 ^ 32)) (Some c.max_ttl) None >>= (λ n. Some (made c.name id n)))) (id_back c.id fine.id)
        ∙ ap (λ b. cond b (Some c.max_ttl) None >>= (λ n. Some (made c.name c.id n))) (lt-ltb c.max_ttl (2 ^ 32) fine.max_ttl)

-- ---- a scope

abbrev sorted_scope : Scope → Data
sorted_scope s = object (member (codes "collections") (array (each sorted_collection s.collections)) (member (codes "name") (string s.name) (member (codes "uid") (string (hex s.id)) no_members)))

scope_numbers : (s : Scope) → fine_scope s ≡ true → tree.HasNumbers (outline (scope_data s))
scope_numbers s h = (tt, (tt, (items_numbers collection_data fine_collection collection_numbers s.collections (fine_scope_parts s h).collections, tt)))

scope_shallow : (s : Scope) → tree.depth (outline (scope_data s)) ≤ 3
scope_shallow s = let inner = items_shallow collection_data 1 collection_shallow s.collections in omega arith

scope_read : (s : Scope) → fine_scope s ≡ true → of_json (outline (scope_data s)) ≡ Some (sorted_scope s)
scope_read s h =
    ap (λ o. option_map object (option_and_then (λ d. of_members json.no_members (put (codes "collections") d (member (codes "name") (string s.name) (member (codes "uid") (string (hex s.id)) no_members)))) (option_map array o)))
    (items_read collection_data sorted_collection fine_collection collection_read s.collections (fine_scope_parts s h).collections)

abbrev scope_of : List ℕ → ℕ → List Collection → Scope
scope_of name id collections = record { name = name; id = id; collections = collections }

scope_back : (s : Scope) → fine_scope s ≡ true → scope_from (sorted_scope s) ≡ Some s
scope_back s h =
    let fine = fine_scope_parts s h in
    ap (λ o. o >>= (λ id. each_from collection_from (each sorted_collection s.collections) >>= (λ cs. Some (scope_of s.name id cs)))) (id_back s.id fine.id)
    ∙ ap (λ o. o >>= (λ cs. Some (scope_of s.name s.id cs))) (each_back collection_from sorted_collection fine_collection collection_back s.collections fine.collections)

-- ---- a manifest

abbrev sorted_manifest : ℕ → List Scope → Data
sorted_manifest uid scopes = object (member (codes "scopes") (array (each sorted_scope scopes)) (member (codes "uid") (string (hex uid)) no_members))

manifest_numbers : (uid : ℕ) (scopes : List Scope) → list_all fine_scope scopes ≡ true → tree.HasNumbers (outline (manifest_data uid scopes))
manifest_numbers uid scopes h = (tt, (items_numbers scope_data fine_scope scope_numbers scopes h, tt))

manifest_shallow : (uid : ℕ) (scopes : List Scope) → tree.depth (outline (manifest_data uid scopes)) ≤ 5
manifest_shallow uid scopes = let inner = items_shallow scope_data 3 scope_shallow scopes in omega arith

manifest_read : (uid : ℕ) (scopes : List Scope) → list_all fine_scope scopes ≡ true → of_json (outline (manifest_data uid scopes)) ≡ Some (sorted_manifest uid scopes)
manifest_read uid scopes h =
    ap (λ o. option_map object (option_and_then (λ d. of_members json.no_members (put (codes "scopes") d (member (codes "uid") (string (hex uid)) no_members))) (option_map array o)))
    (items_read scope_data sorted_scope fine_scope scope_read scopes h)

abbrev catalog_of : ℕ → List Scope → Catalog
catalog_of uid scopes = record { uid = uid; scopes = scopes; dropped_scopes = []; dropped_collections = [] }

manifest_back : (uid : ℕ) (scopes : List Scope) → uid < 2 ^ 64 → list_all fine_scope scopes ≡ true
    → catalog_from (sorted_manifest uid scopes) ≡ Some (record { uid = uid; scopes = scopes; dropped_scopes = []; dropped_collections = [] })
manifest_back uid scopes small h =
    let read_uid : hex_number 16 (hex uid) ≡ Some uid = hex_number-hex 16 uid small (short_hex 15 uid (omega arith) (omega arith)) in
    ap (λ o. o >>= (λ n. each_from scope_from (each sorted_scope scopes) >>= (λ ss. Some (catalog_of n ss)))) read_uid
    ∙ ap (λ o. o >>= (λ ss. Some (catalog_of uid ss))) (each_back scope_from sorted_scope fine_scope scope_back scopes h)

pub text_read : (uid : ℕ) (scopes : List Scope) → uid < 2 ^ 64 → list_all fine_scope scopes ≡ true
    → catalog_in (manifest_text uid scopes) ≡ Some (record { uid = uid; scopes = scopes; dropped_scopes = []; dropped_collections = [] })
text_read uid scopes small h =
    let shallow = manifest_shallow uid scopes in
    ap catalog_in (sym (manifest_compact uid scopes small h))
    ∙ ap (option_and_then catalog_from) (read_printed (manifest_data uid scopes) (manifest_numbers uid scopes h) (omega arith) ∙ manifest_read uid scopes h)
    ∙ manifest_back uid scopes small h

-- ---- names and numbers, scope by scope

fine_nested : (ss : List Scope) → list_all (λ s. is_name s.name) ss ≡ true → list_all (λ c. is_name c.name) (collections_in ss) ≡ true
    → list_all (λ s. nat_lt s.id (2 ^ 32)) ss ≡ true → list_all collection_fits (collections_in ss) ≡ true → list_all fine_scope ss ≡ true
unfolding fine_scope fine_collection
fine_nested [] a b c d = refl
fine_nested (s ∷ ss) a b c d =
    let names = and_parts (is_name s.name) (list_all (λ t. is_name t.name) ss) a in
    let inner = and_parts (list_all (λ x. is_name x.name) s.collections) (list_all (λ x. is_name x.name) (collections_in ss)) (sym (list_all-append (λ x. is_name x.name) s.collections (collections_in ss)) ∙ b) in
    let ids = and_parts (nat_lt s.id (2 ^ 32)) (list_all (λ t. nat_lt t.id (2 ^ 32)) ss) c in
    let fits = and_parts (list_all collection_fits s.collections) (list_all collection_fits (collections_in ss)) (sym (list_all-append collection_fits s.collections (collections_in ss)) ∙ d) in
    and_from (is_name s.name && nat_lt s.id (2 ^ 32) && list_all (λ x. is_name x.name && collection_fits x) s.collections) (list_all fine_scope ss)
    (and_from (is_name s.name && nat_lt s.id (2 ^ 32)) _ (and_from (is_name s.name) (nat_lt s.id (2 ^ 32)) names.0 ids.0) (all_both (λ x. is_name x.name) collection_fits s.collections inner.0 fits.0))
    (fine_nested ss names.1 inner.1 ids.1 fits.1)

pub all_fine : (uid : ℕ) (scopes : List Scope) → numbers_fit uid scopes ≡ true → names_formed scopes ≡ true → list_all fine_scope scopes ≡ true
all_fine uid scopes fits names =
    let numbers = and_parts (nat_lt uid (2 ^ 64) && list_all (λ s. nat_lt s.id (2 ^ 32)) scopes) (list_all collection_fits (collections_in scopes)) fits in
    let ids = and_parts (nat_lt uid (2 ^ 64)) (list_all (λ s. nat_lt s.id (2 ^ 32)) scopes) numbers.0 in
    let formed = and_parts (list_all (λ s. is_name s.name) scopes) (list_all (λ c. is_name c.name) (collections_in scopes)) names in
    fine_nested scopes formed.0 formed.1 ids.1 numbers.1

-- what a manifest that obeys its own rules has
pub record Sound (m : Catalog) : Type 0 where
  pub small : m.uid < 2 ^ 64
  pub fine : list_all fine_scope m.scopes ≡ true
  pub short : length (text_of m) ≤ MANIFEST_LIMIT

pub sound_parts : (m : Catalog) → is_sound m ≡ true → Sound m
sound_parts m h =
    let first = and_parts (numbers_fit m.uid m.scopes && is_small m) (obeys_alone m.scopes) h in
    let second = and_parts (numbers_fit m.uid m.scopes) (is_small m) first.0 in
    let numbers = and_parts (nat_lt m.uid (2 ^ 64) && list_all (λ s. nat_lt s.id (2 ^ 32)) m.scopes) (list_all collection_fits (collections_in m.scopes)) second.0 in
    let alone = and_parts (names_formed m.scopes && scopes_distinct m.scopes && collections_distinct m.scopes && none_reserved m.scopes && has_default_scope m.scopes) (default_is_in_place m.scopes) first.1 in
    let alone2 = and_parts (names_formed m.scopes && scopes_distinct m.scopes && collections_distinct m.scopes && none_reserved m.scopes) (has_default_scope m.scopes) alone.0 in
    let alone3 = and_parts (names_formed m.scopes && scopes_distinct m.scopes && collections_distinct m.scopes) (none_reserved m.scopes) alone2.0 in
    let alone4 = and_parts (names_formed m.scopes && scopes_distinct m.scopes) (collections_distinct m.scopes) alone3.0 in
    let alone5 = and_parts (names_formed m.scopes) (scopes_distinct m.scopes) alone4.0 in
    let sizes = and_parts (nat_le (length m.scopes) COUNT_LIMIT && nat_le (length (collections_in m.scopes)) COUNT_LIMIT) (nat_le (length (text_of m)) MANIFEST_LIMIT) second.1 in
    record {
      small = ltb-true m.uid (2 ^ 64) (and_parts (nat_lt m.uid (2 ^ 64)) (list_all (λ s. nat_lt s.id (2 ^ 32)) m.scopes) numbers.0).0;
      fine = all_fine m.uid m.scopes second.0 alone5.0;
      short = leb-true (length (text_of m)) MANIFEST_LIMIT sizes.1;
    }

-- a manifest that obeys its own rules is read back, but for the ids that were dropped
pub sound_read_back : (m : Catalog) → is_sound m ≡ true → catalog_in (text_of m) ≡ Some (without_dropped m)
sound_read_back m h = let sound = sound_parts m h in text_read m.uid m.scopes sound.small sound.fine

pub kept_read_back : (m : Catalog) → is_kept m ≡ true → catalog_in (text_of m) ≡ Some (without_dropped m)
kept_read_back m h =
    let first = and_parts (is_sound m && are_gone (scope_ids m.scopes) m.dropped_scopes) (are_gone (collection_ids m.scopes) m.dropped_collections) h in
    sound_read_back m (and_parts (is_sound m) (are_gone (scope_ids m.scopes) m.dropped_scopes) first.0).0
