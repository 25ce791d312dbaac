-- Whether bytes begin with a message.
use Rattle.std.specs.Prelude.{◌≡◌, ◌⊎◌, ℕ, ◌+◌, ◌<◌, ◌≤◌, ◌^◌, List, ◌++◌, length, take, IsTrue}
use Rattle.repl_wire.specs.declared.decoding.WireStep.{WireStep}
use Rattle.repl_wire.specs.declared.decoding.WireStep.TheVariants as steps
use Rattle.repl_wire.specs.declared.heads.Head.{Head}
use Rattle.repl_wire.specs.declared.limits.TheConstants.{HEAD_LENGTH}
use Rattle.repl_wire.specs.declared.message.Sent.{Sent}
use Rattle.repl_wire.specs.Grammar.{is_place, is_other, is_size, head_bytes, head_layout, body_layout, IsSpelled}
use Rattle.repl_wire.specs.Layout.{within, Breaks, Ends}

-- a head whose numbers are right
pub record IsHead (head : Head) : Type 0 where
  pub kind : IsTrue (within 1 4 head.kind)
  pub source : IsTrue (is_place head.from)
  pub target : IsTrue (is_other head.from head.to)
  pub vbucket : head.vbucket < 2 ^ 16
  pub size : IsTrue (is_size head.kind head.size)

-- such a head stands at the front
pub record HeadAt (bytes : List ℕ) (head : Head) (rest : List ℕ) : Type 0 where
  pub right : IsHead head
  pub front : bytes ≡ head_bytes head.kind head.from head.to head.vbucket head.size ++ rest

-- the first bytes, this many, are this message
pub record BeginsWith (bytes : List ℕ) (s : Sent) (used : ℕ) : Type 0 where
  pub there : used ≤ length bytes
  pub spelled : IsSpelled s (take used bytes)

-- the head isn't whole, and what is there of it is right: so many bytes of it are missing
pub record LacksHead (bytes : List ℕ) (n : ℕ) : Type 0 where
  pub ends : Ends head_layout bytes
  pub some : 0 < n
  pub missing : length bytes + n ≡ HEAD_LENGTH

-- the head is right, and of the body so many bytes are missing
pub record LacksBody (bytes : List ℕ) (n : ℕ) : Type 0 where
  pub head : Head
  pub rest : List ℕ
  pub at : HeadAt bytes head rest
  pub some : 0 < n
  pub missing : length rest + n ≡ head.size

-- so many bytes are missing
abbrev pub Lacks : List ℕ → ℕ → Type 0
Lacks bytes n = LacksHead bytes n ⊎ LacksBody bytes n

-- the first wrong field is one of the head, and begins at the place
pub record HeadIsWrong (bytes : List ℕ) (place : ℕ) : Type 0 where
  pub left : ℕ
  pub parts : place + left ≡ length bytes
  pub breaks : Breaks head_layout bytes left

-- the head is right and the body is there, and its first wrong field begins at the place
pub record BodyIsWrong (bytes : List ℕ) (place : ℕ) : Type 0 where
  pub head : Head
  pub rest : List ℕ
  pub at : HeadAt bytes head rest
  pub there : head.size ≤ length rest
  pub left : ℕ
  pub parts : place + left ≡ HEAD_LENGTH + head.size
  pub breaks : Breaks (body_layout head.kind) (take head.size rest) left

-- the first wrong field begins at the place
abbrev pub IsBad : List ℕ → ℕ → Type 0
IsBad bytes place = HeadIsWrong bytes place ⊎ BodyIsWrong bytes place

-- what is to be told of bytes
abbrev pub Decodes : List ℕ → WireStep → Type 0
Decodes bytes (steps.Whole s used) = BeginsWith bytes s used
Decodes bytes (steps.More n) = Lacks bytes n
Decodes bytes (steps.Bad place) = IsBad bytes place
Decodes bytes steps.NoMemory = Unit {0}
