-- The bytes of a text one by one: a machine with a stack of open brackets, which tells where it stops.
use Rattle.std.specs.Prelude.{ℕ, List, [], ◌∷◌, length, Bool, true, false, cond, eqb, Option, Some, None, Result, Ok, Err}
use Rattle.std.specs.Prelude.{if◌then◌else◌, codes, nat_lt}
use Rattle.json_model.specs.declared.kinds.Kind.{Kind}
use Rattle.json_model.specs.declared.kinds.Kind.TheVariants as kinds
use Rattle.json_model.specs.declared.kinds.Shape.{Shape}
use Rattle.json_model.specs.declared.kinds.Shape.TheVariants as shapes
use Rattle.json_spell.specs.declared.tokens.Stop.{Stop}
use Rattle.json_spell.specs.declared.tokens.Stop.TheVariants as stops
use Rattle.json_spell.specs.declared.tokens.Mode.{Mode}
use Rattle.json_spell.specs.declared.tokens.Mode.TheVariants as modes
use Rattle.json_model.specs.Spelled.{closing}
use Rattle.json_spell.specs.Tokens.{next, ends, is_blank, kind_at}

-- where a text has been read to; the brackets that are open, innermost first
pub data State : Type 0 where
  -- before a value
  before : List Shape → State
  -- behind an opening bracket
  opened : Shape → List Shape → State
  -- before a key
  naming : List Shape → State
  -- in a key
  key : Mode → List Shape → State
  -- behind a key
  named : List Shape → State
  -- in a string or a number
  token : Mode → List Shape → State
  -- in a word of which these letters are left
  word : List ℕ → List Shape → State
  -- behind a value
  behind : List Shape → State

-- what a byte does: it leads to a state, it is wrong, or it opens too deep
pub data Move : Type 0 where
  go : State → Move
  wrong : Move
  deep : Move

-- a blank leads to this state, any other byte does that
abbrev pub if_blank : ℕ → State → Move → Move
if_blank x s m = if is_blank x then go s else m

-- behind a comma
abbrev pub again : Shape → List Shape → State
again shapes.Object stack = naming (shapes.Object ∷ stack)
again shapes.Array stack = before (shapes.Array ∷ stack)

-- behind a value: a comma, or the bracket of what is open
abbrev pub after : List Shape → ℕ → Move
after [] x = wrong
after (shape ∷ stack) x = if eqb x 0x2c then go (again shape stack) else if eqb x (closing shape) then go (behind stack) else wrong

-- behind a value, or behind blanks there
abbrev pub after_blank : List Shape → ℕ → Move
after_blank stack x = if_blank x (behind stack) (after stack x)

-- an opening bracket, where there is room
abbrev pub deeper : ℕ → Shape → List Shape → Move
deeper most shape stack = if nat_lt (length stack) most then go (opened shape stack) else deep

-- a byte that begins a value
abbrev pub begin : ℕ → List Shape → Option Kind → Option Mode → Move
begin most stack None mode = wrong
begin most stack (Some kinds.Object) mode = deeper most shapes.Object stack
begin most stack (Some kinds.Array) mode = deeper most shapes.Array stack
begin most stack (Some kinds.Text) mode = go (token modes.Inside stack)
begin most stack (Some kinds.Number) None = wrong
begin most stack (Some kinds.Number) (Some mode) = go (token mode stack)
begin most stack (Some kinds.True) mode = go (word (codes "rue") stack)
begin most stack (Some kinds.False) mode = go (word (codes "alse") stack)
begin most stack (Some kinds.Null) mode = go (word (codes "ull") stack)

-- a byte that begins a key
abbrev pub begin_key : List Shape → ℕ → Move
begin_key stack x = if eqb x 0x22 then go (key modes.Inside stack) else wrong

-- the first part behind an opening bracket
abbrev pub first : ℕ → Shape → List Shape → ℕ → Move
first most shapes.Object stack x = begin_key (shapes.Object ∷ stack) x
first most shapes.Array stack x = begin most (shapes.Array ∷ stack) (kind_at x) (next modes.Start x)

-- behind a key: the colon, or blanks before it
abbrev pub colon : List Shape → ℕ → Move
colon stack x = if_blank x (named stack) (if eqb x 0x3a then go (before stack) else wrong)

-- in a string or a number: on in this mode, or behind it where it may end
abbrev pub in_token : Option Mode → List Shape → Bool → Move → Move
in_token (Some m) stack ended m2 = go (token m stack)
in_token None stack ended m2 = if ended then m2 else wrong

-- the same in a key
abbrev pub in_key : Option Mode → List Shape → Bool → Move → Move
in_key (Some m) stack ended m2 = go (key m stack)
in_key None stack ended m2 = if ended then m2 else wrong

-- the next letter of a word, or what stands behind it
abbrev pub in_word : List ℕ → List Shape → ℕ → Move
in_word [] stack x = after_blank stack x
in_word (w ∷ ws) stack x = if eqb x w then go (word ws stack) else wrong

-- what a byte does in a state
abbrev pub step : ℕ → State → ℕ → Move
step most (before stack) x = if_blank x (before stack) (begin most stack (kind_at x) (next modes.Start x))
step most (opened shape stack) x = if_blank x (opened shape stack) (if eqb x (closing shape) then go (behind stack) else first most shape stack x)
step most (naming stack) x = if_blank x (naming stack) (begin_key stack x)
step most (key m stack) x = in_key (next m x) stack (ends m) (colon stack x)
step most (named stack) x = colon stack x
step most (token m stack) x = in_token (next m x) stack (ends m) (after_blank stack x)
step most (word ws stack) x = in_word ws stack x
step most (behind stack) x = after_blank stack x

-- no bracket is open
abbrev pub none_open : List Shape → Bool
none_open [] = true
none_open (s ∷ stack) = false

-- the text may end here
abbrev pub final : State → Bool
final (before stack) = false
final (opened shape stack) = false
final (naming stack) = false
final (key m stack) = false
final (named stack) = false
final (token m stack) = cond (ends m) (none_open stack) false
final (word [] stack) = none_open stack
final (word (w ∷ ws) stack) = false
final (behind stack) = none_open stack

-- nothing, or why and where the machine stops
abbrev pub Verdict : Type 0
Verdict = Result (Unit {0}) Stop

-- what a move comes to, with so many bytes left at its byte
abbrev pub moved : Move → (State → Verdict) → ℕ → Verdict
moved (go s) on left = on s
moved wrong on left = Err (stops.Not left)
moved deep on left = Err (stops.Deep left)

-- where the machine stops: nowhere, or with so many bytes left
unfoldable pub verdict : ℕ → State → List ℕ → Verdict
verdict most s [] = cond (final s) (Ok tt) (Err (stops.Not 0))
verdict most s (x ∷ xs) = moved (step most s x) (λ after. verdict most after xs) (length (x ∷ xs))
