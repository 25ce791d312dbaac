-- The numbers of a manifest that is read are within their bounds.
use Rattle.std.proofs.Common.{◌≡◌, ℕ, ◌^◌, ◌<◌, ◌≤◌, Bool, true, false, cond, nat_le, nat_lt, ◌&&◌, List, [], ◌∷◌, length, codes, Option, Some, None, option_and_then, refl, ap, ◌∙◌, subst, arith}
use Rattle.std.proofs.Math.Nat.{pow-le-pow_right}
use Rattle.std.proofs.lemmas.Bool.{and_parts, and_from, leb-true, ltb-true, lt-ltb}
use Rattle.std.proofs.lemmas.Int.Digits.{digits_value-lt}
use Rattle.std.proofs.lemmas.List.Folds.{list_all-append}
use Rattle.std.specs.Char.{is_digit}
use Rattle.std.specs.List.{list_all, flat_map}
use Rattle.std.specs.Str.Parse.{AllDigits}
use Rattle.serde_json.specs.Data.{Data, Items, no_items, item}
use Rattle.serde_json.specs.Find.{as_number, as_u64, get}
use Rattle.kv_edge.specs.Fields.{◌>>=◌}
use Rattle.manifest_rules.specs.declared.types.Scope.{Scope}
use Rattle.manifest_rules.specs.declared.types.Collection.{Collection}
use Rattle.manifest_rules.specs.Catalog.{numbers_fit}
use Rattle.manifest_rules.specs.Reading.{catalog_parts}
use Rattle.manifest_rules.specs.Form.{hex_number, text_at, id_at, items_at, lifetime, lifetime_in, each_from, collection_from, scope_from}

-- ---- steps that may fail

pub record Bound {A B : Type 0} (o : Option A) (f : A → Option B) (b : B) : Type 0 where
  pub first : A
  pub is : o ≡ Some first
  pub then : f first ≡ Some b

pub bind_some : {A B : Type 0} (o : Option A) (f : A → Option B) (b : B) → (o >>= f) ≡ Some b → Bound o f b
bind_some None f b h = absurd (cc)
bind_some (Some a) f b h = record { first = a; is = refl; then = h }

pub and_then_some : {A B : Type 0} (o : Option A) (f : A → Option B) (b : B) → option_and_then f o ≡ Some b → Bound o f b
and_then_some None f b h = absurd (cc)
and_then_some (Some a) f b h = record { first = a; is = refl; then = h }

pub kept : {A : Type 0} (b : Bool) (x y : A) → cond b (Some x) None ≡ Some y → (b ≡ true) × (x ≡ y)
kept true x y h = (refl, cc)
kept false x y h = absurd (cc)

-- ---- hexadecimal numbers

AllDigits-list_all : (text : List ℕ) → list_all (λ c. is_digit c 16) text ≡ true → AllDigits 16 text
AllDigits-list_all [] h = tt
AllDigits-list_all (c ∷ cs) h = let p = and_parts (is_digit c 16) (list_all (λ d. is_digit d 16) cs) h in (ltb-true _ _ p.0, AllDigits-list_all cs p.1)

pub hex_number-lt : (most : ℕ) (text : List ℕ) (n : ℕ) → hex_number most text ≡ Some n → n < 16 ^ most
hex_number-lt most text n h =
    let p = kept (nat_le 1 (length text) && nat_le (length text) most && list_all (λ c. is_digit c 16) text) _ n h in
    let q = and_parts (nat_le 1 (length text) && nat_le (length text) most) _ p.0 in
    let short = leb-true (length text) most (and_parts (nat_le 1 (length text)) _ q.0).1 in
    let below = digits_value-lt 16 text (AllDigits-list_all text q.1) in
    let room : 16 ^ length text ≤ 16 ^ most = pow-le-pow_right {n = 16} (omega arith) short in
    let is = p.1 in
    omega arith

pub id_at-lt : (most : ℕ) (name : List ℕ) (d : Data) (n : ℕ) → id_at most name d ≡ Some n → n < 16 ^ most
id_at-lt most name d n h = let p = and_then_some (text_at name d) (hex_number most) n h in hex_number-lt most p.first n p.then

-- ---- lifetimes

lifetime-lt : (d : Data) (n : ℕ) → lifetime d ≡ Some n → n < 2 ^ 32
lifetime-lt d n h =
    let p = bind_some (as_number d) (λ number. as_u64 number >>= (λ m. cond (nat_lt m (2 ^ 32)) (Some m) None)) n h in
    let q = bind_some (as_u64 p.first) (λ m. cond (nat_lt m (2 ^ 32)) (Some m) None) n p.then in
    let k = kept (nat_lt q.first (2 ^ 32)) q.first n q.then in
    let below = ltb-true q.first (2 ^ 32) k.0 in
    let is = k.1 in
    omega arith

lifetime_in-lt : (o : Option Data) (n : ℕ) → lifetime_in o ≡ Some n → n < 2 ^ 32
lifetime_in-lt None n h = let is : 0 ≡ n = cc in omega arith
lifetime_in-lt (Some d) n h = lifetime-lt d n h

-- ---- lists

pub each_from-all : {A : Type 0} (f : Data → Option A) (p : A → Bool) → ((d : Data) (x : A) → f d ≡ Some x → p x ≡ true) → (ds : Items) (xs : List A) → each_from f ds ≡ Some xs → list_all p xs ≡ true
each_from-all f p holds no_items xs h = let is : [] ≡ xs = cc in subst (λ ys. list_all p ys ≡ true) is refl
each_from-all f p holds (item d ds) xs h =
    let first = bind_some (f d) (λ x. each_from f ds >>= (λ ys. Some (x ∷ ys))) xs h in
    let rest = bind_some (each_from f ds) (λ ys. Some (first.first ∷ ys)) xs first.then in
    let is : first.first ∷ rest.first ≡ xs = (let e = rest.then in cc) in
    subst (λ ys. list_all p ys ≡ true) is (and_from (p first.first) (list_all p rest.first) (holds d first.first first.is) (each_from-all f p holds ds rest.first rest.is))

pub list_all-flat_map : {A B : Type 0} (p : B → Bool) (f : A → List B) (xs : List A) → list_all p (flat_map f xs) ≡ list_all (λ x. list_all p (f x)) xs
list_all-flat_map p f [] = refl
list_all-flat_map p f (x ∷ xs) = list_all-append p (f x) (flat_map f xs) ∙ ap (λ b. list_all p (f x) && b) (list_all-flat_map p f xs)

-- ---- the parts of a manifest

abbrev pub collection_fits : Collection → Bool
collection_fits c = nat_lt c.id (2 ^ 32) && nat_lt c.max_ttl (2 ^ 32)

collection_from-fits : (d : Data) (c : Collection) → collection_from d ≡ Some c → collection_fits c ≡ true
collection_from-fits d c h =
    let made = λ (name : List ℕ) (id : ℕ) (max_ttl : ℕ). Some (let c : Collection = record { name = name; id = id; max_ttl = max_ttl } in c) in
    let name = bind_some (text_at (codes "name") d) (λ name. id_at 8 (codes "uid") d >>= (λ id. lifetime_in (get (codes "maxTTL") d) >>= (λ max_ttl. made name id max_ttl))) c h in
    let id = bind_some (id_at 8 (codes "uid") d) (λ id. lifetime_in (get (codes "maxTTL") d) >>= (λ max_ttl. made name.first id max_ttl)) c name.then in
    let ttl = bind_some (lifetime_in (get (codes "maxTTL") d)) (λ max_ttl. made name.first id.first max_ttl) c id.then in
    let is : (record { name = name.first; id = id.first; max_ttl = ttl.first }) ≡ c = (let e = ttl.then in cc) in
    let id_fits : id.first < 2 ^ 32 = id_at-lt 8 (codes "uid") d id.first id.is in
    subst (λ x. collection_fits x ≡ true) is (and_from _ _ (lt-ltb _ _ id_fits) (lt-ltb _ _ (lifetime_in-lt (get (codes "maxTTL") d) ttl.first ttl.is)))

abbrev pub scope_fits : Scope → Bool
scope_fits s = nat_lt s.id (2 ^ 32) && list_all collection_fits s.collections

scope_from-fits : (d : Data) (s : Scope) → scope_from d ≡ Some s → scope_fits s ≡ true
scope_from-fits d s h =
    let made = λ (name : List ℕ) (id : ℕ) (cs : List Collection). Some (let s : Scope = record { name = name; id = id; collections = cs } in s) in
    let name = bind_some (text_at (codes "name") d) (λ name. id_at 8 (codes "uid") d >>= (λ id. items_at (codes "collections") d >>= (λ items. each_from collection_from items >>= (λ cs. made name id cs)))) s h in
    let id = bind_some (id_at 8 (codes "uid") d) (λ id. items_at (codes "collections") d >>= (λ items. each_from collection_from items >>= (λ cs. made name.first id cs))) s name.then in
    let items = bind_some (items_at (codes "collections") d) (λ items. each_from collection_from items >>= (λ cs. made name.first id.first cs)) s id.then in
    let cs = bind_some (each_from collection_from items.first) (λ cs. made name.first id.first cs) s items.then in
    let is : (record { name = name.first; id = id.first; collections = cs.first }) ≡ s = (let e = cs.then in cc) in
    let id_fits : id.first < 2 ^ 32 = id_at-lt 8 (codes "uid") d id.first id.is in
    subst (λ x. scope_fits x ≡ true) is (and_from _ _ (lt-ltb _ _ id_fits) (each_from-all collection_from collection_fits collection_from-fits items.first cs.first cs.is))

pub list_all-both : {A : Type 0} (p q : A → Bool) (xs : List A) → list_all (λ x. p x && q x) xs ≡ true → (list_all p xs ≡ true) × (list_all q xs ≡ true)
list_all-both p q [] h = (refl, refl)
list_all-both p q (x ∷ xs) h =
    let here = and_parts (p x && q x) _ h in
    let both = and_parts (p x) (q x) here.0 in
    let rest = list_all-both p q xs here.1 in
    (and_from (p x) (list_all p xs) both.0 rest.0, and_from (q x) (list_all q xs) both.1 rest.1)

pub all_both : {A : Type 0} (p q : A → Bool) (xs : List A) → list_all p xs ≡ true → list_all q xs ≡ true → list_all (λ x. p x && q x) xs ≡ true
all_both p q [] h k = refl
all_both p q (x ∷ xs) h k =
    let first = and_parts (p x) (list_all p xs) h in
    let second = and_parts (q x) (list_all q xs) k in
    and_from (p x && q x) _ (and_from (p x) (q x) first.0 second.0) (all_both p q xs first.1 second.1)

pub numbers_fit-from : (uid : ℕ) (scopes : List Scope) → uid < 2 ^ 64 → list_all scope_fits scopes ≡ true → numbers_fit uid scopes ≡ true
numbers_fit-from uid scopes small all =
    let parts = list_all-both (λ s. nat_lt s.id (2 ^ 32)) (λ s. list_all collection_fits s.collections) scopes all in
    and_from _ _ (and_from _ _ (lt-ltb _ _ small) parts.0) (list_all-flat_map collection_fits (λ s. s.collections) scopes ∙ parts.1)

pub scopes_from-fit : (d : Data) (p : ℕ × Items) (scopes : List Scope) → catalog_parts d ≡ Some p → each_from scope_from p.1 ≡ Some scopes → numbers_fit p.0 scopes ≡ true
scopes_from-fit d p scopes parts each =
    let pair = λ (n : ℕ) (ds : Items). Some (let q : ℕ × Items = (n, ds) in q) in
    let uid = bind_some (id_at 16 (codes "uid") d) (λ n. items_at (codes "scopes") d >>= (λ ds. pair n ds)) p parts in
    let items = bind_some (items_at (codes "scopes") d) (λ ds. pair uid.first ds) p uid.then in
    let is : uid.first ≡ p.0 = (let e = items.then in cc) in
    numbers_fit-from p.0 scopes (subst (λ n. n < 2 ^ 64) is (id_at-lt 16 (codes "uid") d uid.first uid.is)) (each_from-all scope_from scope_fits scope_from-fits p.1 scopes each)
