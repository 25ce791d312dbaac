-- Keys are read as they are spelt.
use Rattle.std.specs.Prelude.{◌≡◌, ℕ, ◌≤◌, List, ◌++◌, length, Some}
use Rattle.std.proofs.Common.{sym, ap, ◌∙◌, subst}
use Rattle.leb_collections.specs.Leb128.{AreBytes}
use Rattle.leb_collections.specs.Functions.{id_at, id_bytes}
use Rattle.leb_collections.proofs.Laws.{id_bytes_shortest, unique}
use Rattle.leb_collections.proofs.Functions.{id_at_reads, id_at_told, id_at_below}
use Rattle.doc_model.specs.declared.key.DocKey.{DocKey}
use Rattle.vb_log.specs.Keys.{name_limit, IsAllowedKey, spelt_key}

pub key_read : (key : DocKey) → IsAllowedKey key → id_at (spelt_key key) ≡ Some (key.collection, key.key)
key_read key h = id_at_reads key.collection (id_bytes key.collection) key.key (id_bytes_shortest key.collection h.below)

abbrev made : ℕ → List ℕ → DocKey
made id name = record { collection = id; key = name }

pair_is : (a c : ℕ) (b d : List ℕ) → Some (let p : ℕ × List ℕ = (a, b) in p) ≡ Some (let p : ℕ × List ℕ = (c, d) in p) → made a b ≡ made c d
pair_is a c b d e = ap (λ p. made p.0 p.1) (some_is (let p : ℕ × List ℕ = (a, b) in p) (let p : ℕ × List ℕ = (c, d) in p) e)
  where
    some_is : {A : Type 0} (x y : A) → Some x ≡ Some y → x ≡ y
    some_is x y q = cc

-- a name that breaks its limits is no key's
pub key_refused : (spelt name : List ℕ) (id : ℕ) → id_at spelt ≡ Some (id, name) → (1 ≤ length name → length name ≤ name_limit id → ⊥) → (key : DocKey) → IsAllowedKey key → spelt ≡ spelt_key key → ⊥
key_refused spelt name id found bad key h e =
    let same : key ≡ made id name = pair_is key.collection id key.key name (sym (key_read key h) ∙ ap id_at (sym e) ∙ found) in
    let k : IsAllowedKey (made id name) = subst IsAllowedKey same h in
    bad k.some k.short

-- one that keeps them is
pub key_found : (spelt name : List ℕ) (id : ℕ) → AreBytes spelt → id_at spelt ≡ Some (id, name) → 1 ≤ length name → length name ≤ name_limit id → IsAllowedKey (made id name) × (spelt ≡ spelt_key (made id name))
key_found spelt name id all found some short =
    let told = id_at_told id spelt name all found in
    let below = id_at_below spelt id name found in
    (record { below = below; some = some; short = short }, told.1 ∙ ap (λ s. s ++ name) (unique id told.0 (id_bytes id) told.2 (id_bytes_shortest id below)))

-- two keys of one spelling are one
pub one_key : (a b : DocKey) → IsAllowedKey a → IsAllowedKey b → spelt_key a ≡ spelt_key b → a ≡ b
one_key a b h k e = pair_is a.collection b.collection a.key b.key (sym (key_read a h) ∙ ap id_at e ∙ key_read b k)
