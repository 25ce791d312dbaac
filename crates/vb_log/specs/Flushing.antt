-- The items of a content in the order in which they were made.
use Rattle.std.specs.Prelude.{◌≡◌, List, Some}
use Rattle.std.specs.FinMap as map
use Rattle.std.specs.List.{AllByRecursion}
use Rattle.std.specs.List.Sorted.{IsNonDecreasingBy, IsPermutation}
use Rattle.doc_model.specs.declared.document.Item.{Item}
use Rattle.doc_model.specs.Keys.{key_cmp}
use Rattle.doc_model.specs.Values.{AreValues}

-- these are the items of a map, each once, in rising order of the positions at which they were made
pub record AreByPosition (items : map.FinMap key_cmp Item) (found : List Item) : Type 0 where
  pub values : List Item
  pub are : AreValues items values
  pub moved : IsPermutation values found
  pub rise : IsNonDecreasingBy (λ (i : Item). i.seqno) found
  pub own : AllByRecursion (λ (i : Item). map.get items i.key ≡ Some i) found
