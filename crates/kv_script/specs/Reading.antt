-- What is read of a line, part by part.
use Rattle.std.specs.Prelude.{◌≡◌, ℕ, ◌≤◌, nat_eq, Bool, List, ◌∷◌, length, map, codes, Option, Some, None, Result, Ok, Err, if◌then◌else◌}
use Rattle.std.specs.Borrow.{Bor}
use Rattle.std.specs.Cmp.Lexicographic.{pointwise}
use Rattle.std.specs.Fmt.{decimal}
use Rattle.std.specs.List.{AllByRecursion}
use Rattle.hex.specs.Hex.{decode_of}
use Rattle.kv_script.specs.declared.keyword.Keyword.{Keyword}
use Rattle.kv_script.specs.declared.line.Line.{Line}
use Rattle.kv_script.specs.declared.line.LineFault.{LineFault}
use Rattle.kv_script.specs.declared.line.LineFault.TheVariants as faults
use Rattle.kv_script.specs.Lines.{IsNumber, IsName, IsWorded, strength, word}

-- what is read is right, and is bad only where nothing is right
abbrev pub Reads : {A : Type 0} → (A → Type 0) → Result A LineFault → Type 0
Reads IsRight (Ok read) = IsRight read
Reads {A} IsRight (Err faults.Bad) = (right : A) → ¬ (IsRight right)
Reads IsRight (Err faults.NoMemory) = Unit {0}

-- the bytes of words
abbrev pub texts : List (Bor (List ℕ)) → List (List ℕ)
texts words = map (λ w. w.now) words

-- a number's word
pub record IsNumberWord (word : List ℕ) (n : ℕ) : Type 0 where
  pub number : IsNumber n
  pub spelled : word ≡ decimal n

-- the word of a number from the least one on
pub record IsNumberFrom (least : ℕ) (word : List ℕ) (n : ℕ) : Type 0 where
  pub enough : least ≤ n
  pub number : IsNumber n
  pub spelled : word ≡ decimal n

-- the word of a connection
pub record IsConnectionWord (word : List ℕ) (connection : ℕ) : Type 0 where
  pub few : connection ≤ 3
  pub spelled : word ≡ decimal connection

-- a name's word
pub record IsNameWord (word copy : List ℕ) : Type 0 where
  pub name : IsName copy
  pub spelled : word ≡ copy

-- the place that a word of a chain stands for
abbrev pub place_of : List ℕ → Option (List ℕ)
place_of word = if pointwise nat_eq word (codes "-") then None else Some word

-- the words of numbers
pub record AreNumberWords (words : List (List ℕ)) (found : List ℕ) : Type 0 where
  pub numbers : AllByRecursion IsNumber found
  pub spelled : words ≡ map decimal found

-- the word for how a promotion asks
pub record IsStrengthWord (word : List ℕ) (weak : Bool) : Type 0 where
  pub spelled : word ≡ strength weak

-- the hexadecimal digits of one byte or more
pub record IsDigits (digits bytes : List ℕ) : Type 0 where
  pub some : 1 ≤ length bytes
  pub spelled : decode_of digits ≡ Ok bytes

-- a line has these words
pub record HasWords (words : List (List ℕ)) (line : Line) : Type 0 where
  pub first : Keyword
  pub parts : List (List ℕ)
  pub worded : IsWorded line first parts
  pub spelled : words ≡ word first ∷ parts
