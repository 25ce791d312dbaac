-- The text of a manifest is ASCII.
use Rattle.std.proofs.Common.{◌≡◌, ℕ, ◌^◌, ◌<◌, Bool, true, false, cond, nat_eq, nat_lt, List, [], ◌∷◌, ◌++◌, map, codes, decimal, refl, arith, lt-ltb}
use Rattle.std.proofs.lemmas.Bool.{and_parts, and_from}
use Rattle.std.proofs.lemmas.Fmt.{decimal_is_IsNumeral}
use Rattle.std.specs.List.{list_all}
use Rattle.std.specs.Str.{IsUtf8}
use Rattle.std.specs.Str.Parse.{AllDigits}
use Rattle.json.proofs.Printed.Utf8.{are_ascii, IsUtf8-are_ascii}
use Rattle.manifest_rules.specs.declared.types.Scope.{Scope}
use Rattle.manifest_rules.specs.declared.types.Collection.{Collection}
use Rattle.manifest_rules.specs.Text.{hex, with_commas, lifetime_text, collection_text, scope_text, manifest_text}
use Rattle.manifest_rules.specs.Rules.{is_name_byte}
use Rattle.manifest_rules.proofs.Plain.{name_byte, hex_byte, numeral}
use Rattle.manifest_rules.proofs.Compact.{fine_collection, fine_parts, fine_scope, fine_scope_parts}

both : (xs ys : List ℕ) → are_ascii xs ≡ true → are_ascii ys ≡ true → are_ascii (xs ++ ys) ≡ true
both [] ys h k = k
both (x ∷ xs) ys h k = let p = and_parts (nat_lt x 128) (are_ascii xs) h in and_from (nat_lt x 128) (are_ascii (xs ++ ys)) p.0 (both xs ys p.1 k)

name_ascii : (name : List ℕ) → list_all is_name_byte name ≡ true → are_ascii name ≡ true
name_ascii [] h = refl
name_ascii (x ∷ xs) h =
    let p = and_parts (is_name_byte x) (list_all is_name_byte xs) h in
    let b = name_byte x p.0 in
    and_from (nat_lt x 128) (are_ascii xs) (lt-ltb x 128 b.high) (name_ascii xs p.1)

digits_ascii : (ds : List ℕ) → AllDigits 16 ds → are_ascii ds ≡ true
digits_ascii [] h = refl
digits_ascii (x ∷ xs) h = let b = hex_byte x h.0 in and_from (nat_lt x 128) (are_ascii xs) (lt-ltb x 128 b.high) (digits_ascii xs h.1)

wider : (ds : List ℕ) → AllDigits 10 ds → AllDigits 16 ds
wider [] h = tt
wider (x ∷ xs) h = let small = h.0 in (omega arith, wider xs h.1)

hex_ascii : (n : ℕ) → n < 2 ^ 64 → are_ascii (hex n) ≡ true
hex_ascii n h = digits_ascii (hex n) (numeral n h).0.1

life_ascii : (n : ℕ) → n < 2 ^ 64 → are_ascii (lifetime_text n) ≡ true
life_ascii n h = by (nat_eq n 0)
  where
    by : (b : Bool) → are_ascii (cond b [] (codes ",\"maxTTL\":" ++ decimal n)) ≡ true
    by true = refl
    by false = both (codes ",\"maxTTL\":") (decimal n) refl (digits_ascii (decimal n) (wider (decimal n) (decimal_is_IsNumeral n h).0.1))

commas_ascii : {A : Type 0} (f : A → List ℕ) (p : A → Bool) → ((x : A) → p x ≡ true → are_ascii (f x) ≡ true) → (xs : List A) → list_all p xs ≡ true → are_ascii (with_commas (map f xs)) ≡ true
commas_ascii f p holds [] h = refl
commas_ascii f p holds (x ∷ []) h = holds x (and_parts (p x) true h).0
commas_ascii f p holds (x ∷ y ∷ ys) h =
    let parts = and_parts (p x) (list_all p (y ∷ ys)) h in
    both (f x ++ codes ",") (with_commas (map f (y ∷ ys))) (both (f x) (codes ",") (holds x parts.0) refl) (commas_ascii f p holds (y ∷ ys) parts.1)

collection_ascii : (c : Collection) → fine_collection c ≡ true → are_ascii (collection_text c) ≡ true
collection_ascii c h =
    let fine = fine_parts c h in
    let small : c.id < 2 ^ 64 = omega (arith, fine.id) in
    let short : c.max_ttl < 2 ^ 64 = omega (arith, fine.max_ttl) in
    let name = name_ascii c.name (and_parts _ (list_all is_name_byte c.name) fine.name).1 in
    both (codes "{\"name\":\"" ++ c.name ++ codes "\",\"uid\":\"" ++ hex c.id ++ codes "\"" ++ lifetime_text c.max_ttl) (codes "}")
    (both (codes "{\"name\":\"" ++ c.name ++ codes "\",\"uid\":\"" ++ hex c.id ++ codes "\"") (lifetime_text c.max_ttl)
    (both (codes "{\"name\":\"" ++ c.name ++ codes "\",\"uid\":\"" ++ hex c.id) (codes "\"")
    (both (codes "{\"name\":\"" ++ c.name ++ codes "\",\"uid\":\"") (hex c.id)
    (both (codes "{\"name\":\"" ++ c.name) (codes "\",\"uid\":\"") (both (codes "{\"name\":\"") c.name refl name) refl)
    (hex_ascii c.id small))
    refl)
    (life_ascii c.max_ttl short))
    refl

scope_ascii : (s : Scope) → fine_scope s ≡ true → are_ascii (scope_text s) ≡ true
scope_ascii s h =
    let fine = fine_scope_parts s h in
    let small : s.id < 2 ^ 64 = omega (arith, fine.id) in
    let name = name_ascii s.name (and_parts _ (list_all is_name_byte s.name) fine.name).1 in
    let list = with_commas (map collection_text s.collections) in
    both (codes "{\"name\":\"" ++ s.name ++ codes "\",\"uid\":\"" ++ hex s.id ++ codes "\",\"collections\":[" ++ list) (codes "]}")
    (both (codes "{\"name\":\"" ++ s.name ++ codes "\",\"uid\":\"" ++ hex s.id ++ codes "\",\"collections\":[") list
    (both (codes "{\"name\":\"" ++ s.name ++ codes "\",\"uid\":\"" ++ hex s.id) (codes "\",\"collections\":[")
    (both (codes "{\"name\":\"" ++ s.name ++ codes "\",\"uid\":\"") (hex s.id)
    (both (codes "{\"name\":\"" ++ s.name) (codes "\",\"uid\":\"") (both (codes "{\"name\":\"") s.name refl name) refl)
    (hex_ascii s.id small))
    refl)
    (commas_ascii collection_text fine_collection collection_ascii s.collections fine.collections))
    refl

pub manifest_utf8 : (uid : ℕ) (scopes : List Scope) → uid < 2 ^ 64 → list_all fine_scope scopes ≡ true → IsUtf8 (manifest_text uid scopes)
manifest_utf8 uid scopes small fine =
    let list = with_commas (map scope_text scopes) in
    IsUtf8-are_ascii (manifest_text uid scopes)
    (both (codes "{\"uid\":\"" ++ hex uid ++ codes "\",\"scopes\":[" ++ list) (codes "]}")
    (both (codes "{\"uid\":\"" ++ hex uid ++ codes "\",\"scopes\":[") list
    (both (codes "{\"uid\":\"" ++ hex uid) (codes "\",\"scopes\":[") (both (codes "{\"uid\":\"") (hex uid) refl (hex_ascii uid small)) refl)
    (commas_ascii scope_text fine_scope scope_ascii scopes fine))
    refl)
