-- Keys are read as they are spelled.
use Rattle.std.specs.Prelude.{◌≡◌, ℕ, ◌≤◌, nat_le, Bool, true, false, ◌&&◌, List, ◌++◌, length, option_and_then, Option, Some, None, if◌then◌else◌, refl}
use Rattle.std.proofs.Common.{sym, ap, ap₂, ◌∙◌, subst, le-leb}
use Rattle.leb_collections.specs.Leb128.{AreBytes}
use Rattle.leb_collections.specs.Functions.{id_at, id_bytes}
use Rattle.leb_collections.proofs.Laws.{id_bytes_shortest, unique}
use Rattle.leb_collections.proofs.Functions.{id_at_reads, id_at_told, id_at_below}
use Rattle.doc_model.specs.declared.key.DocKey.{DocKey}
use Rattle.kv_request.specs.Tables.{name_limit, key_within, key_from, key_spelling, IsNamed}

-- a key that is neither empty nor too long
within : (collection : ℕ) (name : List ℕ) → 1 ≤ length name → length name ≤ name_limit collection → key_within collection name ≡ Some (record { collection = collection; key = name })
within collection name some fits =
    ap (λ b. if b then Some (let k : DocKey = record { collection = collection; key = name } in k) else None)
    (ap₂ (λ a b. a && b) (le-leb 1 (length name) some) (le-leb (length name) (name_limit collection) fits))

pub key_read : (granted : Bool) (key : DocKey) → IsNamed granted key → key_from granted (key_spelling granted key) ≡ Some key
key_read true key h =
    ap (option_and_then (λ x. key_within x.0 x.1)) (id_at_reads key.collection (id_bytes key.collection) key.key (id_bytes_shortest key.collection h.below))
    ∙ within key.collection key.key h.some h.fits
key_read false key h =
    within 0 key.key h.some (subst (λ c. length key.key ≤ name_limit c) (h.plain refl) h.fits)
    ∙ ap (λ c. Some (let k : DocKey = record { collection = c; key = key.key } in k)) (sym (h.plain refl))

some_is : {A : Type 0} (a b : A) → Some a ≡ Some b → a ≡ b
some_is a b e = cc

-- a key that was taken has these very bytes
taken : (collection : ℕ) (name : List ℕ) (key : DocKey) → key_within collection name ≡ Some key → (let k : DocKey = record { collection = collection; key = name } in k) ≡ key
taken collection name key =
    let made : DocKey = record { collection = collection; key = name } in
    elim (nat_le 1 (length name) && nat_le (length name) (name_limit collection)) as (λ b. (if b then Some made else None) ≡ Some key → made ≡ key) [
      | true ↦ λ e. some_is made key e
      | false ↦ λ e. absurd (cc)
    ]

-- an id that was read is spelled so
id_spelled : (id : ℕ) (bytes rest : List ℕ) → AreBytes bytes → id_at bytes ≡ Some (id, rest) → bytes ≡ id_bytes id ++ rest
id_spelled id bytes rest all e =
    let told = id_at_told id bytes rest all e in
    told.1 ∙ ap (λ s. s ++ rest) (unique id told.0 (id_bytes id) told.2 (id_bytes_shortest id (id_at_below bytes id rest e)))

behind_id : (bytes : List ℕ) (key : DocKey) (at : Option (ℕ × List ℕ)) → AreBytes bytes → id_at bytes ≡ at → option_and_then (λ x. key_within x.0 x.1) at ≡ Some key → bytes ≡ key_spelling true key
behind_id bytes key None all is e = absurd (cc)
behind_id bytes key (Some x) all is e =
    id_spelled x.0 bytes x.1 all is ∙ ap (λ k. key_spelling true k) (taken x.0 x.1 key e)

pub key_spelled : (granted : Bool) (bytes : List ℕ) (key : DocKey) → AreBytes bytes → key_from granted bytes ≡ Some key → bytes ≡ key_spelling granted key
key_spelled true bytes key all e = behind_id bytes key (id_at bytes) all refl e
key_spelled false bytes key all e = ap (λ k. k.key) (taken 0 bytes key e)
