-- The messages that may be sent, and their bytes.
use Rattle.std.specs.Prelude.{◌≡◌, ℕ, ◌<◌, ◌^◌, nat_eq, nat_le, Bool, true, ◌&&◌, ◌||◌, not, List, ◌∷◌, ◌++◌, length, if◌then◌else◌, IsTrue}
use Rattle.std.specs.Int.{w16, w32, w64, to_be_bytes}
use Rattle.replica_core.specs.Terms.{is_term}
use Rattle.vb_log.specs.declared.limits.TheConstants.{GREATEST_POSITION}
use Rattle.vb_log.specs.Contents.{IsWhole, content_bytes}
use Rattle.vb_log.specs.Spelling.{IsAllowed, spelling as entry_bytes}
use Rattle.repl_wire.specs.declared.limits.TheConstants.{BODY_LIMIT, GREATEST_PLACE}
use Rattle.repl_wire.specs.declared.message.Message.{Message}
use Rattle.repl_wire.specs.declared.message.Message.TheVariants as messages
use Rattle.repl_wire.specs.declared.message.Sent.{Sent}
use Rattle.repl_wire.specs.Layout.{within, Layout, anything, an_entry, a_content, number, one, two, four, eight}

-- ---- what is allowed

-- the accepted term of a copy: a term, or 0 where it has accepted none
abbrev pub is_accepted : ℕ → Bool
is_accepted t = nat_eq t 0 || is_term t

-- how long a log may be
abbrev pub is_length : ℕ → Bool
is_length n = nat_le n GREATEST_POSITION

-- where in a log an entry may stand, from 1
abbrev pub is_position : ℕ → Bool
is_position n = nat_le 1 n && is_length n

abbrev pub is_place : ℕ → Bool
is_place n = nat_le n GREATEST_PLACE

-- a place other than the sender's
abbrev pub is_other : ℕ → ℕ → Bool
is_other from to = is_place to && not (nat_eq from to)

abbrev pub is_any : ℕ → Bool
is_any n = true

-- a message whose parts keep their limits
abbrev pub IsAllowedMessage : Message → Type 0
IsAllowedMessage (messages.Entry term position entry) =
    IsTrue (is_term term) × IsTrue (is_position position) × IsAllowed entry
IsAllowedMessage (messages.Ack term mem disk) =
    IsTrue (is_term term) × IsTrue (is_length mem) × IsTrue (is_length disk)
IsAllowedMessage (messages.Rejoin term accepted len incarnation) =
    IsTrue (is_term term) × IsTrue (is_accepted accepted) × IsTrue (is_length len) × (incarnation < 2 ^ 64)
IsAllowedMessage (messages.Adopt term incarnation content) =
    IsTrue (is_term term) × (incarnation < 2 ^ 64) × IsWhole content

-- a message that may be sent from one place to another
pub record CanBeSent (s : Sent) : Type 0 where
  pub source : IsTrue (is_place s.from)
  pub target : IsTrue (is_other s.from s.to)
  pub vbucket : s.vbucket < 2 ^ 16
  pub message : IsAllowedMessage s.message

-- ---- bytes

-- the number that says which message it is
abbrev pub kind_of : Message → ℕ
kind_of (messages.Entry term position entry) = 1
kind_of (messages.Ack term mem disk) = 2
kind_of (messages.Rejoin term accepted len incarnation) = 3
kind_of (messages.Adopt term incarnation content) = 4

-- what follows the head
abbrev pub body_bytes : Message → List ℕ
body_bytes (messages.Entry term position entry) =
    to_be_bytes w64 term ++ (to_be_bytes w64 position ++ entry_bytes entry)
body_bytes (messages.Ack term mem disk) =
    to_be_bytes w64 term ++ (to_be_bytes w64 mem ++ to_be_bytes w64 disk)
body_bytes (messages.Rejoin term accepted len incarnation) =
    to_be_bytes w64 term ++ (to_be_bytes w64 accepted ++ (to_be_bytes w64 len ++ to_be_bytes w64 incarnation))
body_bytes (messages.Adopt term incarnation content) =
    to_be_bytes w64 term ++ (to_be_bytes w64 incarnation ++ content_bytes content)

-- The head: 70, the kind, from which place to which, the vbucket, two bytes that are 0, and how many bytes the body has.
abbrev pub head_bytes : ℕ → ℕ → ℕ → ℕ → ℕ → List ℕ
head_bytes kind from to vbucket size =
    0x70 ∷ kind ∷ from ∷ to ∷ (to_be_bytes w16 vbucket ++ (to_be_bytes w16 0 ++ to_be_bytes w32 size))

-- a message: its head and its body
abbrev pub spelling : Sent → List ℕ
spelling s =
    head_bytes (kind_of s.message) s.from s.to s.vbucket (length (body_bytes s.message)) ++ body_bytes s.message

-- a message that may be sent has these bytes
pub record IsSpelled (s : Sent) (bytes : List ℕ) : Type 0 where
  pub allowed : CanBeSent s
  pub spelled : bytes ≡ spelling s

-- ---- the layout

-- how many bytes a body has at least and at most: those of its numbers, and of an entry or a content behind them
abbrev pub least_size : ℕ → ℕ
least_size kind = if nat_eq kind 2 then 24 else (if nat_eq kind 3 then 32 else 16)

abbrev pub most_size : ℕ → ℕ
most_size kind = if nat_eq kind 2 then 24 else (if nat_eq kind 3 then 32 else BODY_LIMIT)

abbrev pub is_size : ℕ → ℕ → Bool
is_size kind size = within (least_size kind) (most_size kind) size

-- the head; its fields begin at the offsets 0, 1, 2, 3, 4, 6 and 8
abbrev pub head_layout : Layout
head_layout =
    number one (within 0x70 0x70) (λ mark.
    number one (within 1 4) (λ kind.
    number one is_place (λ from.
    number one (is_other from) (λ to.
    number two is_any (λ vbucket.
    number two (within 0 0) (λ unused.
    number four (is_size kind) (λ size. anything)))))))

abbrev pub entry_layout : Layout
entry_layout = number eight is_term (λ term. number eight is_position (λ position. an_entry))

abbrev pub ack_layout : Layout
ack_layout = number eight is_term (λ term. number eight is_length (λ mem. number eight is_length (λ disk. anything)))

abbrev pub rejoin_layout : Layout
rejoin_layout =
    number eight is_term (λ term.
    number eight is_accepted (λ accepted.
    number eight is_length (λ len.
    number eight is_any (λ incarnation. anything))))

abbrev pub adopt_layout : Layout
adopt_layout = number eight is_term (λ term. number eight is_any (λ incarnation. a_content))

-- the body of a kind; its numbers begin at the offsets 12, 20, 28 and 36
abbrev pub body_layout : ℕ → Layout
body_layout kind =
    if nat_eq kind 1 then entry_layout
    else (if nat_eq kind 2 then ack_layout
    else (if nat_eq kind 3 then rejoin_layout
    else adopt_layout))
