-- The lines of a script, and their bytes.
use Rattle.std.specs.Prelude.{◌≡◌, ◌≢◌, ◌⊎◌, ℕ, ◌<◌, ◌≤◌, ◌^◌, nat_le, Bool, true, false, ◌&&◌, ◌||◌, List, [], ◌∷◌, length, map, codes, IsTrue, Option, Some, None, is_some, Ok}
use Rattle.std.specs.Fmt.{decimal}
use Rattle.std.specs.List.{AllByRecursion, join_with_byte, list_all}
use Rattle.hex.specs.Hex.{decode_of}
use Rattle.kv_script.specs.declared.keyword.Keyword.{Keyword}
use Rattle.kv_script.specs.declared.keyword.Keyword.TheVariants as keywords
use Rattle.kv_script.specs.declared.line.Line.{Line}
use Rattle.kv_script.specs.declared.line.Line.TheVariants as lines

-- ---- words

-- words, with one space between each and the next
abbrev pub joined : List (List ℕ) → List ℕ
joined words = join_with_byte 0x20 words

-- a number of a script; its word is `decimal n`, which has no leading zeros
abbrev pub IsNumber : ℕ → Type 0
IsNumber n = n < 2 ^ 48

-- whether a byte is one of a to z or 0 to 9
abbrev pub is_name_byte : ℕ → Bool
is_name_byte c = (nat_le 0x61 c && nat_le c 0x7a) || (nat_le 0x30 c && nat_le c 0x39)

-- a copy's name: 1 to 16 of a to z and 0 to 9
pub record IsName (name : List ℕ) : Type 0 where
  pub some : 1 ≤ length name
  pub short : length name ≤ 16
  pub plain : IsTrue (list_all is_name_byte name)

-- ---- the words behind a line's first, and the bounds of what they say

-- a number
pub record IsOneNumber (n : ℕ) (parts : List (List ℕ)) : Type 0 where
  pub number : IsNumber n
  pub words : parts ≡ decimal n ∷ []

-- a copy's name
pub record IsOneCopy (copy : List ℕ) (parts : List (List ℕ)) : Type 0 where
  pub name : IsName copy
  pub words : parts ≡ copy ∷ []

-- a copy's name, and a number from the least one on
pub record IsCopyAndNumber (least : ℕ) (copy : List ℕ) (n : ℕ) (parts : List (List ℕ)) : Type 0 where
  pub name : IsName copy
  pub enough : least ≤ n
  pub number : IsNumber n
  pub words : parts ≡ copy ∷ decimal n ∷ []

-- A copy's name, one of its connections 0 to 3, and one byte or more, each as two hexadecimal digits of either case.
pub record IsFed (copy : List ℕ) (connection : ℕ) (bytes : List ℕ) (parts : List (List ℕ)) : Type 0 where
  pub name : IsName copy
  pub few : connection ≤ 3
  pub some : 1 ≤ length bytes
  pub digits : List ℕ
  pub spelled : decode_of digits ≡ Ok bytes
  pub words : parts ≡ copy ∷ decimal connection ∷ digits ∷ []

-- the word for how a promotion asks
abbrev pub strength : Bool → List ℕ
strength true = codes "weak"
strength false = codes "strict"

-- a copy's name, a term, how the promotion asks, and the numbers of one answer or more
pub record IsPromotion (copy : List ℕ) (term : ℕ) (weak : Bool) (answers : List ℕ) (parts : List (List ℕ)) : Type 0 where
  pub name : IsName copy
  pub number : IsNumber term
  pub some : 1 ≤ length answers
  pub numbers : AllByRecursion IsNumber answers
  pub words : parts ≡ copy ∷ decimal term ∷ strength weak ∷ map decimal answers

-- the word for a place of a chain: its copy's name, or - where it has none
abbrev pub place_word : Option (List ℕ) → List ℕ
place_word None = codes "-"
place_word (Some name) = name

-- a place has no name, or one that no later place has
abbrev pub IsPlace : Option (List ℕ) → List (Option (List ℕ)) → Type 0
IsPlace None later = Unit {0}
IsPlace (Some name) later = IsName name × AllByRecursion (λ place. place ≢ Some name) later

abbrev pub ArePlaces : List (Option (List ℕ)) → Type 0
ArePlaces [] = Unit {0}
ArePlaces (place ∷ later) = IsPlace place later × ArePlaces later

-- whether the first place has a name
abbrev pub begins_named : List (Option (List ℕ)) → Bool
begins_named [] = false
begins_named (place ∷ later) = is_some place

-- 1 to 4 places, the first with a name
pub record IsChain (names : List (Option (List ℕ))) : Type 0 where
  pub few : length names ≤ 4
  pub first : IsTrue (begins_named names)
  pub places : ArePlaces names

-- a word for each place of a chain
pub record IsChainOf (names : List (Option (List ℕ))) (parts : List (List ℕ)) : Type 0 where
  pub chain : IsChain names
  pub words : parts ≡ map place_word names

-- ---- lines

-- the first word of a line; a comment has none
abbrev pub keyword_of : Line → Option Keyword
keyword_of lines.Comment = None
keyword_of (lines.Chain names) = Some keywords.Chain
keyword_of (lines.At moment) = Some keywords.At
keyword_of (lines.Feed copy connection bytes) = Some keywords.Feed
keyword_of (lines.Deliver message) = Some keywords.Deliver
keyword_of lines.All = Some keywords.All
keyword_of (lines.Tick copy) = Some keywords.Tick
keyword_of (lines.Flush copy) = Some keywords.Flush
keyword_of (lines.Clean copy most) = Some keywords.Clean
keyword_of (lines.Fence copy term) = Some keywords.Fence
keyword_of (lines.Promote copy term weak answers) = Some keywords.Promote
keyword_of (lines.Fuse copy after) = Some keywords.Fuse
keyword_of (lines.Fail copy after) = Some keywords.Fail
keyword_of (lines.Crash copy) = Some keywords.Crash
keyword_of (lines.OpenCopy copy) = Some keywords.Open

-- how a first word is spelled
abbrev pub word : Keyword → List ℕ
word keywords.Chain = codes "chain"
word keywords.At = codes "at"
word keywords.Feed = codes "feed"
word keywords.Deliver = codes "deliver"
word keywords.All = codes "all"
word keywords.Tick = codes "tick"
word keywords.Flush = codes "flush"
word keywords.Clean = codes "clean"
word keywords.Fence = codes "fence"
word keywords.Promote = codes "promote"
word keywords.Fuse = codes "fuse"
word keywords.Fail = codes "fail"
word keywords.Crash = codes "crash"
word keywords.Open = codes "open"

-- the words behind the first
abbrev pub HasParts : Line → List (List ℕ) → Type 0
HasParts lines.Comment parts = parts ≡ []
HasParts (lines.Chain names) parts = IsChainOf names parts
HasParts (lines.At moment) parts = IsOneNumber moment parts
HasParts (lines.Feed copy connection bytes) parts = IsFed copy connection bytes parts
HasParts (lines.Deliver message) parts = IsOneNumber message parts
HasParts lines.All parts = parts ≡ []
HasParts (lines.Tick copy) parts = IsOneCopy copy parts
HasParts (lines.Flush copy) parts = IsOneCopy copy parts
HasParts (lines.Clean copy most) parts = IsCopyAndNumber 1 copy most parts
HasParts (lines.Fence copy term) parts = IsCopyAndNumber 4 copy term parts
HasParts (lines.Promote copy term weak answers) parts = IsPromotion copy term weak answers parts
HasParts (lines.Fuse copy after) parts = IsCopyAndNumber 1 copy after parts
HasParts (lines.Fail copy after) parts = IsCopyAndNumber 1 copy after parts
HasParts (lines.Crash copy) parts = IsOneCopy copy parts
HasParts (lines.OpenCopy copy) parts = IsOneCopy copy parts

-- a line has this first word, and these behind it
pub record IsWorded (line : Line) (first : Keyword) (parts : List (List ℕ)) : Type 0 where
  pub begins : keyword_of line ≡ Some first
  pub follows : HasParts line parts

-- the bytes are the words of the line, with one space between each and the next
pub record IsSpelled (line : Line) (bytes : List ℕ) : Type 0 where
  pub first : Keyword
  pub parts : List (List ℕ)
  pub worded : IsWorded line first parts
  pub spelled : bytes ≡ joined (word first ∷ parts)

-- a comment: any bytes that begin with #
pub record IsComment (line : Line) (bytes : List ℕ) : Type 0 where
  pub comment : line ≡ lines.Comment
  pub rest : List ℕ
  pub marked : bytes ≡ 0x23 ∷ rest

-- the bytes are the line's
abbrev pub IsLine : Line → List ℕ → Type 0
IsLine line bytes = IsComment line bytes ⊎ IsSpelled line bytes
