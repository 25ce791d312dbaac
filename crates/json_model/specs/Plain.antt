-- The plain tree: a spelled tree without its blanks.
use Rattle.std.specs.Prelude.{ℕ, List}
use Rattle.json_model.specs.declared.kinds.Kind.{Kind}
use Rattle.json_model.specs.declared.kinds.Shape.{Shape}
use Rattle.json_model.specs.Spelled.{Head, plain, keyed, Tree, leaf, empty, group, Parts, last, more}

-- what a member is called: an element has no name
pub data Name : Type 0 where
  unnamed : Name
  named : List ℕ → Name

mutual
  pub data Value : Type 0 where
    word : Kind → List ℕ → Value
    list : Shape → Values → Value

  pub data Values : Type 0 where
    none : Values
    one : Name → Value → Values → Values

-- what a head calls its value
abbrev pub name : Head → Name
name (plain gap) = unnamed
name (keyed gap key behind before) = named key

-- a tree and parts without their blanks
abbrev mutual
  pub value : Tree → Value
  value (leaf kind s) = word kind s
  value (empty shape gap) = list shape none
  value (group shape parts) = list shape (values parts)

  pub values : Parts → Values
  values (last head tree gap) = one (name head) (value tree) none
  values (more head tree gap parts) = one (name head) (value tree) (values parts)
