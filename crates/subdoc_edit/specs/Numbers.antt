-- Whole numbers.
use Rattle.std.specs.Prelude.{◌≡◌, ℕ, List, [], true, false, None, Some, ℤ}
use Rattle.std.specs.Fmt.{signed_decimal}
use Rattle.json_model.specs.Edit.{whole_of, fits_i64}
use Rattle.json_spell.specs.declared.node.Span.{Span}
use Rattle.subdoc_edit.specs.declared.numbers.Whole.{Whole}
use Rattle.subdoc_edit.specs.declared.numbers.Whole.TheVariants as wholes
use Rattle.subdoc_edit.specs.declared.plan.Plan.{Plan}

-- the whole number that bytes are, where it has 64 bits and a sign
abbrev pub TellsWhole : List ℕ → Whole → Type 0
TellsWhole bytes (wholes.Is n) = (whole_of bytes ≡ Some n) × (fits_i64 n ≡ true)
TellsWhole bytes wholes.Large = (n : ℤ) × (whole_of bytes ≡ Some n) × (fits_i64 n ≡ false)
TellsWhole bytes wholes.Not = whole_of bytes ≡ None

-- a plan puts a number in place of the bytes from one place up to another
pub record IsNumberPlan (span : Span) (followed : ℕ) (number : ℤ) (p : Plan) : Type 0 where
  pub from_is : p.from ≡ span.from
  pub to_is : p.to ≡ span.to
  pub before_is : p.before ≡ signed_decimal number
  pub value_from_is : p.value_from ≡ 0
  pub value_to_is : p.value_to ≡ 0
  pub behind_is : p.behind ≡ []
  pub depth_is : p.depth ≡ followed
  pub number_is : p.number ≡ Some number
