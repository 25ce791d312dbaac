-- The kinds of values that hold others.
use Rattle.std.specs.Prelude.{Bool, true, false}
use Rattle.json_model.specs.declared.kinds.Kind.{Kind}
use Rattle.json_model.specs.declared.kinds.Kind.TheVariants as kinds

-- whether a value of this kind holds others
abbrev pub holds_others : Kind → Bool
holds_others kinds.Object = true
holds_others kinds.Array = true
holds_others kinds.Text = false
holds_others kinds.Number = false
holds_others kinds.True = false
holds_others kinds.False = false
holds_others kinds.Null = false
