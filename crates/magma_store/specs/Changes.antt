-- What a store's records say, and their bytes.
use Rattle.std.specs.Prelude.{◌≡◌, ◌⊎◌, ℕ, ◌≤◌, ◌<◌, ◌^◌, Bool, List, [], ◌∷◌, ◌++◌, length, Option, None, Some, if◌then◌else◌}
use Rattle.std.specs.List.{flat_map, AllByRecursion}
use Rattle.std.specs.Int.{w32, w64, to_be_bytes}
use Rattle.doc_model.specs.declared.document.Item.{Item}
use Rattle.durability_core.specs.declared.chain.Chain.{Chain}
use Rattle.vb_log.specs.Contents.{items_bytes}
use Rattle.vb_log.specs.Spelling.{sized}
use Rattle.vb_log.specs.Stored.{IsStorable}
use Rattle.magma_store.specs.declared.kinds.TheConstants.{MAGIC, OVER, ANEW, NUMBERS}
use Rattle.magma_store.specs.declared.meta.Numbers.{Numbers}

-- A change of a store: it sets numbers; or numbers, a tail, and items, which are put over those that are there, or in
-- their place.
pub data Change : Type 0 where
  Sets : (numbers : Numbers) → Change
  Writes : (is_anew : Bool) (numbers : Numbers) (tail : List ℕ) (items : List Item) → Change

-- ---- what is allowed

-- an accepted term is one that was promised, and is none or at least 4
pub record AreNumbers (numbers : Numbers) : Type 0 where
  pub promised : numbers.accepted ≤ numbers.promise
  pub term : (numbers.accepted ≡ 0) ⊎ (4 ≤ numbers.accepted)

-- numbers that have eight bytes each
pub record AreWords (numbers : Numbers) : Type 0 where
  pub promise : numbers.promise < 2 ^ 64
  pub accepted : numbers.accepted < 2 ^ 64
  pub incarnation : numbers.incarnation < 2 ^ 64
  pub length : numbers.length < 2 ^ 64
  pub cas : numbers.cas < 2 ^ 64

-- each part of a change has bytes
abbrev pub IsChange : Change → Type 0
IsChange (Sets numbers) = AreNumbers numbers × AreWords numbers
IsChange (Writes is_anew numbers tail items) =
    AreNumbers numbers × AreWords numbers
    × (length tail < 2 ^ 32) × (length items < 2 ^ 32) × AllByRecursion IsStorable items

-- ---- bytes

-- a name behind its length of one byte; a place without one has the length 0
abbrev pub name_bytes : Option (List ℕ) → List ℕ
name_bytes None = 0 ∷ []
name_bytes (Some name) = length name ∷ name

-- the record with which a store is made: `KVJ1`, how many places the chain has, their names, the store's own place
abbrev pub made_bytes : Chain → ℕ → List ℕ
made_bytes chain place =
    to_be_bytes w32 MAGIC ++ (length chain.names ∷ (flat_map name_bytes chain.names ++ place ∷ []))

abbrev pub numbers_bytes : Numbers → List ℕ
numbers_bytes n =
    to_be_bytes w64 n.promise
    ++ (to_be_bytes w64 n.accepted
    ++ (to_be_bytes w64 n.incarnation ++ (to_be_bytes w64 n.length ++ to_be_bytes w64 n.cas)))

-- a change: which it is, its numbers, and its tail behind its length and its items behind their count
abbrev pub change_bytes : Change → List ℕ
change_bytes (Sets numbers) = NUMBERS ∷ numbers_bytes numbers
change_bytes (Writes is_anew numbers tail items) =
    (if is_anew then ANEW else OVER) ∷ (numbers_bytes numbers ++ (sized tail ++ items_bytes items))
