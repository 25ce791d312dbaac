-- The order of keys, and what a map by keys has.
use Rattle.std.specs.Prelude.{ℕ, nat_eq, Bool, List, refl}
use Rattle.std.specs.declared.cmp.Ordering.{Ordering}
use Rattle.std.specs.List.{list_any}
use Rattle.std.specs.Ordering.{nat_cmp, ordering_then}
use Rattle.std.specs.Cmp.Lexicographic.{slice_cmp}
use Rattle.std.specs.Coded.{Coded, code_by, coded×, coded_ℕ, coded_list}
use Rattle.doc_model.specs.declared.key.DocKey.{DocKey}

-- by collection, and then byte by byte
abbrev pub key_cmp : DocKey → DocKey → Ordering
key_cmp a b = ordering_then (nat_cmp a.collection b.collection) (slice_cmp nat_cmp a.key b.key)

-- a key as a pair of a number and bytes
abbrev pub coded_key : Coded DocKey
coded_key = code_by (ℕ × List ℕ) (coded× coded_ℕ (coded_list coded_ℕ)) (λ k. (k.collection, k.key)) (λ p. record { collection = p.0; key = p.1 }) (λ _. refl)

-- whether an id is among ids
abbrev pub is_among_ids : List ℕ → ℕ → Bool
is_among_ids ids id = list_any (nat_eq id) ids

-- whether a key is in one of these collections
abbrev pub is_in : List ℕ → DocKey → Bool
is_in collections key = is_among_ids collections key.collection
