-- What the parts of a message are read as.
use Rattle.std.specs.Prelude.{◌≡◌, ℕ, List}
use Rattle.repl_wire.specs.declared.heads.HeadFault.{HeadFault}
use Rattle.repl_wire.specs.declared.heads.HeadFault.TheVariants as head_faults
use Rattle.repl_wire.specs.declared.numbers.BodyFault.{BodyFault}
use Rattle.repl_wire.specs.declared.numbers.BodyFault.TheVariants as body_faults
use Rattle.repl_wire.specs.declared.message.Message.{Message}
use Rattle.repl_wire.specs.Grammar.{IsAllowedMessage, kind_of, body_bytes}
use Rattle.repl_wire.specs.Layout.{Layout, Breaks, Ends}

-- the bytes are the body of a message of a kind
pub record IsBody (kind : ℕ) (m : Message) (bytes : List ℕ) : Type 0 where
  pub kind_is : kind_of m ≡ kind
  pub allowed : IsAllowedMessage m
  pub spelled : bytes ≡ body_bytes m

-- why fields of a head were not read: the bytes end within them, or one is wrong
abbrev pub HeadFails : Layout → List ℕ → HeadFault → Type 0
HeadFails layout bytes head_faults.Ended = Ends layout bytes
HeadFails layout bytes (head_faults.Broken left) = Breaks layout bytes left

-- why fields of a body were not read: one is wrong
abbrev pub BodyFails : Layout → List ℕ → BodyFault → Type 0
BodyFails layout bytes (body_faults.Broken left) = Breaks layout bytes left
BodyFails layout bytes body_faults.NoMemory = Unit {0}
