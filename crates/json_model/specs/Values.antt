-- The value that comes with an edit: which bytes are one, and why others are refused.
use Rattle.std.specs.Prelude.{◌≡◌, ◌≢◌, ℕ, ◌<◌, List, [], ◌∷◌, ◌++◌, ◌⊎◌, Result, Ok, Err, ℤ, pos, IsTrue}
use Rattle.std.specs.Fmt.{signed_decimal}
use Rattle.doc_model.specs.declared.status.Status.{Status}
use Rattle.doc_model.specs.declared.status.TheConstants.Status as status
use Rattle.json_model.specs.declared.TheConstants.{MOST_DEEP}
use Rattle.json_model.specs.declared.kinds.Kind.{Kind}
use Rattle.json_model.specs.declared.kinds.Shape.TheVariants as shapes
use Rattle.json_model.specs.declared.asked.Edit.{Edit}
use Rattle.json_model.specs.declared.asked.Edit.TheVariants as edits
use Rattle.json_model.specs.Spelled.{Tree, leaf, empty, group, Parts, Document, IsText, depth}
use Rattle.json_model.specs.Fronts.{IsNot, IsDeep}
use Rattle.json_model.specs.Moves.{trimmed}
use Rattle.json_model.specs.Edit.{Asked, dict_add, dict_upsert, delete, replace, push_last, push_first, array_insert, add_unique, counter, fits_i64}

-- One JSON text, of which the blanks at both ends don't count. One that nests too deep stands for a tree that does: it is
-- refused by the depth of what it would make, behind the refusals of its place.
abbrev pub GivesTree : (Tree → Asked) → List ℕ → Result Asked Status → Type 0
GivesTree asked bytes answer =
    ((d : Document) × IsText MOST_DEEP d bytes × (answer ≡ Ok (asked d.tree)))
    ⊎ ((place : ℕ) × (deep : Tree) × IsDeep bytes place × (MOST_DEEP < depth deep) × (answer ≡ Ok (asked deep)))
    ⊎ ((place : ℕ) × IsNot bytes place × (answer ≡ Err status.VALUE_CANT_INSERT))

-- the bytes of an array whose elements are these bytes
abbrev pub bracketed : List ℕ → List ℕ
bracketed bytes = 0x5b ∷ (bytes ++ 0x5d ∷ [])

-- One JSON text or more with commas between: what is an array's text once it stands between brackets. Too deep is refused
-- here, before the refusals of its place.
abbrev pub GivesParts : (Parts → Asked) → List ℕ → Result Asked Status → Type 0
GivesParts asked bytes answer =
    ((d : Document) × (parts : Parts) × IsText MOST_DEEP d (bracketed bytes) × (d.tree ≡ group shapes.Array parts) × (answer ≡ Ok (asked (trimmed parts))))
    ⊎ ((d : Document) × (gap : List ℕ) × IsText MOST_DEEP d (bracketed bytes) × (d.tree ≡ empty shapes.Array gap) × (answer ≡ Err status.VALUE_CANT_INSERT))
    ⊎ ((place : ℕ) × IsNot (bracketed bytes) place × (answer ≡ Err status.VALUE_CANT_INSERT))
    ⊎ ((place : ℕ) × IsDeep (bracketed bytes) place × (answer ≡ Err status.VALUE_ETOODEEP))

-- one JSON text that is no object and no array
abbrev pub GivesLeaf : (Kind → List ℕ → Asked) → List ℕ → Result Asked Status → Type 0
GivesLeaf asked bytes answer =
    ((d : Document) × (kind : Kind) × (s : List ℕ) × IsText MOST_DEEP d bytes × (d.tree ≡ leaf kind s) × (answer ≡ Ok (asked kind s)))
    ⊎ (((d : Document) (kind : Kind) (s : List ℕ) → IsText MOST_DEEP d bytes → d.tree ≡ leaf kind s → ⊥) × (answer ≡ Err status.VALUE_CANT_INSERT))

-- a delta: a whole number other than 0 within 64 bits with a sign, in decimal, perhaps behind a minus, without leading zeros
pub record IsDelta (delta : ℤ) (bytes : List ℕ) : Type 0 where
  pub spelled : bytes ≡ signed_decimal delta
  pub not_zero : delta ≢ pos 0
  pub fits : IsTrue (fits_i64 delta)

-- a delta
abbrev pub GivesDelta : List ℕ → Result Asked Status → Type 0
GivesDelta bytes answer =
    ((delta : ℤ) × IsDelta delta bytes × (answer ≡ Ok (counter delta)))
    ⊎ (((delta : ℤ) → IsDelta delta bytes → ⊥) × (answer ≡ Err status.DELTA_EINVAL))

-- what the bytes of an edit's value come to
abbrev pub Gives : Edit → List ℕ → Result Asked Status → Type 0
Gives edits.DictAdd = GivesTree dict_add
Gives edits.DictUpsert = GivesTree dict_upsert
Gives edits.Delete = λ bytes answer. answer ≡ Ok delete
Gives edits.Replace = GivesTree replace
Gives edits.ArrayPushLast = GivesParts push_last
Gives edits.ArrayPushFirst = GivesParts push_first
Gives edits.ArrayInsert = GivesParts array_insert
Gives edits.ArrayAddUnique = GivesLeaf add_unique
Gives edits.Counter = GivesDelta
