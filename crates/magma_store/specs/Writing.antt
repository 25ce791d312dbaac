-- What a write needs of its keys.
use Rattle.std.specs.Prelude.{◌≡◌, ℕ, false, List}
use Rattle.std.specs.List.{AllByRecursion}
use Rattle.doc_model.specs.Keys.{is_in}
use Rattle.magma_store.specs.declared.spot.Placed.{Placed}

-- no key is of one of these collections
abbrev pub NoneIn : List ℕ → List Placed → Type 0
NoneIn dropped places = AllByRecursion (λ (p : Placed). is_in dropped p.key ≡ false) places
