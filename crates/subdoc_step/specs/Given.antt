-- What comes with an edit, or why it is refused.
use Rattle.std.specs.Prelude.{ℕ, zero, suc, List, [], Bool, ◌&&◌, not, if◌then◌else◌, Result, Ok, Err, ℤ, pos}
use Rattle.std.specs.Ordering.{int_eq}
use Rattle.std.specs.Fmt.{signed_decimal}
use Rattle.std.specs.Str.Parse.{signed_digits_value}
use Rattle.std.specs.Str.{bytes_eq}
use Rattle.doc_model.specs.declared.status.Status.{Status}
use Rattle.doc_model.specs.declared.status.TheConstants.Status as status
use Rattle.json_model.specs.declared.TheConstants.{MOST_DEEP}
use Rattle.json_model.specs.declared.kinds.Kind.{Kind}
use Rattle.json_model.specs.declared.kinds.Shape.TheVariants as shapes
use Rattle.json_model.specs.declared.asked.Edit.{Edit}
use Rattle.json_model.specs.declared.asked.Edit.TheVariants as edits
use Rattle.json_model.specs.Spelled.{Tree, leaf, empty, group, Parts, Document}
use Rattle.json_model.specs.Moves.{trimmed}
use Rattle.json_model.specs.Edit.{Asked, dict_add, dict_upsert, delete, replace, push_last, push_first, array_insert, add_unique, counter, element, fits_i64}
use Rattle.json_model.specs.Values.{bracketed}
use Rattle.json_spell.specs.declared.tokens.Stop.{Stop}
use Rattle.json_spell.specs.declared.tokens.Stop.TheVariants as stops
use Rattle.json_spell.specs.Reading.{document_at}

-- ---- one text

-- an empty array within so many others
unfoldable pub nested_arrays : ℕ → Tree
nested_arrays zero = empty shapes.Array []
nested_arrays (suc n) = group shapes.Array (element (nested_arrays n))

-- what stands for each tree that nests too deep
abbrev pub too_deep : Tree
too_deep = nested_arrays MOST_DEEP

-- a tree; one that nests too deep is refused later, by the depth of what it would make
abbrev pub tree_given : (Tree → Asked) → Result Document Stop → Result Asked Status
tree_given asked (Ok d) = Ok (asked d.tree)
tree_given asked (Err (stops.Not left)) = Err status.VALUE_CANT_INSERT
tree_given asked (Err (stops.Deep left)) = Ok (asked too_deep)
tree_given asked (Err stops.NoMemory) = Err status.VALUE_CANT_INSERT

-- ---- texts with commas between

-- the elements of an array that has some
abbrev pub parts_in : (Parts → Asked) → Tree → Result Asked Status
parts_in asked (leaf kind s) = Err status.VALUE_CANT_INSERT
parts_in asked (empty shape gap) = Err status.VALUE_CANT_INSERT
parts_in asked (group shape parts) = Ok (asked (trimmed parts))

-- the elements of an array; one that nests too deep is refused here
abbrev pub parts_given : (Parts → Asked) → Result Document Stop → Result Asked Status
parts_given asked (Ok d) = parts_in asked d.tree
parts_given asked (Err (stops.Not left)) = Err status.VALUE_CANT_INSERT
parts_given asked (Err (stops.Deep left)) = Err status.VALUE_ETOODEEP
parts_given asked (Err stops.NoMemory) = Err status.VALUE_CANT_INSERT

-- ---- a value that holds no others

-- a leaf
abbrev pub leaf_in : (Kind → List ℕ → Asked) → Tree → Result Asked Status
leaf_in asked (leaf kind s) = Ok (asked kind s)
leaf_in asked (empty shape gap) = Err status.VALUE_CANT_INSERT
leaf_in asked (group shape parts) = Err status.VALUE_CANT_INSERT

-- a text that is a leaf
abbrev pub leaf_given : (Kind → List ℕ → Asked) → Result Document Stop → Result Asked Status
leaf_given asked (Ok d) = leaf_in asked d.tree
leaf_given asked (Err stop) = Err status.VALUE_CANT_INSERT

-- ---- a delta

-- whether bytes are this number in decimal, and it is a delta
abbrev pub is_delta : ℤ → List ℕ → Bool
is_delta n bytes = bytes_eq (signed_decimal n) bytes && not (int_eq n (pos 0)) && fits_i64 n

-- a delta
abbrev pub delta_given : List ℕ → Result Asked Status
delta_given bytes =
    if is_delta (signed_digits_value 10 bytes) bytes
    then Ok (counter (signed_digits_value 10 bytes)) else Err status.DELTA_EINVAL

-- ---- each edit

-- what the bytes of an edit's value come to
unfoldable pub given : Edit → List ℕ → Result Asked Status
given edits.DictAdd bytes = tree_given dict_add (document_at MOST_DEEP bytes)
given edits.DictUpsert bytes = tree_given dict_upsert (document_at MOST_DEEP bytes)
given edits.Delete bytes = Ok delete
given edits.Replace bytes = tree_given replace (document_at MOST_DEEP bytes)
given edits.ArrayPushLast bytes = parts_given push_last (document_at MOST_DEEP (bracketed bytes))
given edits.ArrayPushFirst bytes = parts_given push_first (document_at MOST_DEEP (bracketed bytes))
given edits.ArrayInsert bytes = parts_given array_insert (document_at MOST_DEEP (bracketed bytes))
given edits.ArrayAddUnique bytes = leaf_given add_unique (document_at MOST_DEEP bytes)
given edits.Counter bytes = delta_given bytes
