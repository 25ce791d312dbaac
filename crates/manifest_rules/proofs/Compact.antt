-- The text of a manifest is what is written for its value.
use Rattle.std.proofs.Common.{◌≡◌, ℕ, ◌^◌, ◌<◌, Bool, true, false, cond, nat_eq, nat_lt, ◌&&◌, List, [], ◌∷◌, ◌++◌, map, codes, decimal, refl, sym, ap, ap₂, ◌∙◌, append_assoc, arith}
use Rattle.std.proofs.lemmas.Bool.{and_parts, ltb-true}
use Rattle.std.specs.List.{list_all}
use Rattle.json.specs.Print.{escape, escape_byte}
use Rattle.serde_json.specs.Data.{Data, unsigned, number, no_members, member}
use Rattle.serde_json.specs.Written.{compact_text, items_text, members_text}
use Rattle.manifest_rules.specs.declared.types.Scope.{Scope}
use Rattle.manifest_rules.specs.declared.types.Collection.{Collection}
use Rattle.manifest_rules.specs.Text.{hex, with_commas, lifetime_text, collection_text, scope_text, manifest_text}
use Rattle.manifest_rules.specs.Rules.{is_name}
use Rattle.manifest_rules.proofs.Fits.{collection_fits}
use Rattle.manifest_rules.proofs.Plain.{plain_name, plain_hex}
use Rattle.manifest_rules.proofs.Tree.{each, lifetime_members, collection_data, scope_data, manifest_data}

-- ---- lists

tail_text : {A : Type 0} (f : A → Data) (g : A → List ℕ) (p : A → Bool) → ((x : A) → p x ≡ true → compact_text (f x) ≡ g x) → (x : A) (xs : List A) → list_all p (x ∷ xs) ≡ true
    → items_text true (each f (x ∷ xs)) ≡ 44 ∷ (with_commas (map g (x ∷ xs)) ++ 93 ∷ [])
tail_text f g p same x [] h = ap (λ t. 44 ∷ (t ++ 93 ∷ [])) (same x (and_parts (p x) true h).0)
tail_text f g p same x (y ∷ ys) h =
    let parts = and_parts (p x) (list_all p (y ∷ ys)) h in
    let rest = with_commas (map g (y ∷ ys)) in
    ap₂ (λ t u. 44 ∷ (t ++ u)) (same x parts.0) (tail_text f g p same y ys parts.1)
    ∙ ap (λ t. 44 ∷ t) (sym (append_assoc (g x ++ codes ",") rest (93 ∷ []) ∙ append_assoc (g x) (codes ",") (rest ++ 93 ∷ [])))

pub list_text : {A : Type 0} (f : A → Data) (g : A → List ℕ) (p : A → Bool) → ((x : A) → p x ≡ true → compact_text (f x) ≡ g x) → (xs : List A) → list_all p xs ≡ true
    → items_text false (each f xs) ≡ with_commas (map g xs) ++ 93 ∷ []
list_text f g p same [] h = refl
list_text f g p same (x ∷ []) h = ap (λ t. t ++ 93 ∷ []) (same x (and_parts (p x) true h).0)
list_text f g p same (x ∷ y ∷ ys) h =
    let parts = and_parts (p x) (list_all p (y ∷ ys)) h in
    let rest = with_commas (map g (y ∷ ys)) in
    ap₂ (λ t u. t ++ u) (same x parts.0) (tail_text f g p same y ys parts.1)
    ∙ sym (append_assoc (g x ++ codes ",") rest (93 ∷ []) ∙ append_assoc (g x) (codes ",") (rest ++ 93 ∷ []))

-- ---- a collection

life : (n : ℕ) → members_text true (lifetime_members n) ≡ lifetime_text n ++ codes "}"
unfolding escape_byte
life n = by (nat_eq n 0)
  where
    by : (b : Bool) → members_text true (cond b no_members (member (codes "maxTTL") (number (unsigned n)) no_members)) ≡ cond b [] (codes ",\"maxTTL\":" ++ decimal n) ++ codes "}"
    by true = refl
    by false = refl

collection_shape : (name uid last : List ℕ) → codes "{\"name\":\"" ++ ((name ++ 34 ∷ []) ++ (codes ",\"uid\":\"" ++ ((uid ++ 34 ∷ []) ++ (last ++ codes "}"))))
    ≡ codes "{\"name\":\"" ++ name ++ codes "\",\"uid\":\"" ++ uid ++ codes "\"" ++ last ++ codes "}"
collection_shape name uid last = simp append_assoc

raw_collection : (c : Collection) → compact_text (collection_data c) ≡ codes "{\"name\":\"" ++ ((escape c.name ++ 34 ∷ []) ++ (codes ",\"uid\":\"" ++ ((escape (hex c.id) ++ 34 ∷ []) ++ members_text true (lifetime_members c.max_ttl))))
unfolding escape_byte
raw_collection c = refl

unfoldable pub fine_collection : Collection → Bool
fine_collection c = is_name c.name && collection_fits c

pub record Fine (c : Collection) : Type 0 where
  pub name : is_name c.name ≡ true
  pub id : c.id < 2 ^ 32
  pub max_ttl : c.max_ttl < 2 ^ 32

pub fine_parts : (c : Collection) → fine_collection c ≡ true → Fine c
unfolding fine_collection
fine_parts c h =
    let p = and_parts (is_name c.name) (collection_fits c) h in
    let q = and_parts (nat_lt c.id (2 ^ 32)) (nat_lt c.max_ttl (2 ^ 32)) p.1 in
    record { name = p.0; id = ltb-true c.id (2 ^ 32) q.0; max_ttl = ltb-true c.max_ttl (2 ^ 32) q.1 }

pub collection_compact : (c : Collection) → fine_collection c ≡ true → compact_text (collection_data c) ≡ collection_text c
collection_compact c h =
    let fine = fine_parts c h in
    let small : c.id < 2 ^ 64 = omega (arith, fine.id) in
    raw_collection c
    ∙ ap₂ (λ n u. codes "{\"name\":\"" ++ ((n ++ 34 ∷ []) ++ (codes ",\"uid\":\"" ++ ((u ++ 34 ∷ []) ++ members_text true (lifetime_members c.max_ttl))))) (plain_name c.name fine.name) (plain_hex c.id small)
    ∙ ap (λ t. codes "{\"name\":\"" ++ ((c.name ++ 34 ∷ []) ++ (codes ",\"uid\":\"" ++ ((hex c.id ++ 34 ∷ []) ++ t)))) (life c.max_ttl)
    ∙ collection_shape c.name (hex c.id) (lifetime_text c.max_ttl)

-- ---- a scope

scope_shape : (name uid list : List ℕ) → codes "{\"name\":\"" ++ ((name ++ 34 ∷ []) ++ (codes ",\"uid\":\"" ++ ((uid ++ 34 ∷ []) ++ (codes ",\"collections\":[" ++ ((list ++ 93 ∷ []) ++ codes "}")))))
    ≡ codes "{\"name\":\"" ++ name ++ codes "\",\"uid\":\"" ++ uid ++ codes "\",\"collections\":[" ++ list ++ codes "]}"
scope_shape name uid list = simp append_assoc

raw_scope : (s : Scope) → compact_text (scope_data s)
    ≡ codes "{\"name\":\"" ++ ((escape s.name ++ 34 ∷ []) ++ (codes ",\"uid\":\"" ++ ((escape (hex s.id) ++ 34 ∷ []) ++ (codes ",\"collections\":[" ++ (items_text false (each collection_data s.collections) ++ codes "}")))))
unfolding escape_byte
raw_scope s = refl

unfoldable pub fine_scope : Scope → Bool
fine_scope s = is_name s.name && nat_lt s.id (2 ^ 32) && list_all fine_collection s.collections

pub record FineScope (s : Scope) : Type 0 where
  pub name : is_name s.name ≡ true
  pub id : s.id < 2 ^ 32
  pub collections : list_all fine_collection s.collections ≡ true

pub fine_scope_parts : (s : Scope) → fine_scope s ≡ true → FineScope s
unfolding fine_scope
fine_scope_parts s h =
    let p = and_parts (is_name s.name && nat_lt s.id (2 ^ 32)) (list_all fine_collection s.collections) h in
    let q = and_parts (is_name s.name) (nat_lt s.id (2 ^ 32)) p.0 in
    record { name = q.0; id = ltb-true s.id (2 ^ 32) q.1; collections = p.1 }

pub scope_compact : (s : Scope) → fine_scope s ≡ true → compact_text (scope_data s) ≡ scope_text s
scope_compact s h =
    let fine = fine_scope_parts s h in
    let small : s.id < 2 ^ 64 = omega (arith, fine.id) in
    raw_scope s
    ∙ ap₂ (λ n u. codes "{\"name\":\"" ++ ((n ++ 34 ∷ []) ++ (codes ",\"uid\":\"" ++ ((u ++ 34 ∷ []) ++ (codes ",\"collections\":[" ++ (items_text false (each collection_data s.collections) ++ codes "}")))))) (plain_name s.name fine.name) (plain_hex s.id small)
    ∙ ap (λ t. codes "{\"name\":\"" ++ ((s.name ++ 34 ∷ []) ++ (codes ",\"uid\":\"" ++ ((hex s.id ++ 34 ∷ []) ++ (codes ",\"collections\":[" ++ (t ++ codes "}")))))) (list_text collection_data collection_text fine_collection collection_compact s.collections fine.collections)
    ∙ scope_shape s.name (hex s.id) (with_commas (map collection_text s.collections))

-- ---- a manifest

manifest_shape : (uid list : List ℕ) → codes "{\"uid\":\"" ++ ((uid ++ 34 ∷ []) ++ (codes ",\"scopes\":[" ++ ((list ++ 93 ∷ []) ++ codes "}")))
    ≡ codes "{\"uid\":\"" ++ uid ++ codes "\",\"scopes\":[" ++ list ++ codes "]}"
manifest_shape uid list = simp append_assoc

raw_manifest : (uid : ℕ) (scopes : List Scope) → compact_text (manifest_data uid scopes)
    ≡ codes "{\"uid\":\"" ++ ((escape (hex uid) ++ 34 ∷ []) ++ (codes ",\"scopes\":[" ++ (items_text false (each scope_data scopes) ++ codes "}")))
unfolding escape_byte
raw_manifest uid scopes = refl

pub manifest_compact : (uid : ℕ) (scopes : List Scope) → uid < 2 ^ 64 → list_all fine_scope scopes ≡ true → compact_text (manifest_data uid scopes) ≡ manifest_text uid scopes
manifest_compact uid scopes small fine =
    raw_manifest uid scopes
    ∙ ap₂ (λ u t. codes "{\"uid\":\"" ++ ((u ++ 34 ∷ []) ++ (codes ",\"scopes\":[" ++ (t ++ codes "}")))) (plain_hex uid small) (list_text scope_data scope_text fine_scope scope_compact scopes fine)
    ∙ manifest_shape (hex uid) (with_commas (map scope_text scopes))
