-- What is decided of a ticket.
use Rattle.std.specs.Prelude.{◌≡◌, ◌≢◌, List, Option, Some, None, refl}
use Rattle.std.specs.FinMap.{FinMap, get, insert}
use Rattle.std.proofs.Common.{sym, ◌∙◌, ap}
use Rattle.copy_memory.specs.declared.tickets.TicketName.{TicketName}
use Rattle.copy_memory.specs.declared.tickets.KeptFate.{KeptFate}
use Rattle.copy_memory.specs.declared.tickets.KeptFate.TheVariants as kept
use Rattle.copy_memory.specs.Tickets.{name_cmp, deciding, deciding_found, decided_fate}
use Rattle.copy_memory.proofs.Names.{shown, value_at, get_value, same_given}

-- a ticket that is open has what is decided of it
found : (es : List (TicketName × KeptFate)) (m : FinMap name_cmp KeptFate) (name : TicketName) (fate : KeptFate) (had : Option KeptFate)
    → shown es ≡ m → value_at es name ≡ had → deciding_found name fate m had ≡ deciding name fate m
found es m name fate had view h =
    ap (deciding_found name fate m) (sym h ∙ sym (get_value es name) ∙ ap (λ n. get n name) view)

pub decided_now : (es : List (TicketName × KeptFate)) (m : FinMap name_cmp KeptFate) (name : TicketName) (fate : KeptFate)
    → shown es ≡ m → value_at es name ≡ Some kept.Waiting → insert m name fate ≡ deciding name fate m
decided_now es m name fate view h = found es m name fate (Some kept.Waiting) view h

-- of a ticket of which something was decided before nothing is decided any more
pub decided_before : (es : List (TicketName × KeptFate)) (m : FinMap name_cmp KeptFate) (name : TicketName) (fate had : KeptFate)
    → had ≢ kept.Waiting → shown es ≡ m → value_at es name ≡ Some had → m ≡ deciding name fate m
decided_before es m name fate had decided view h =
    sym (ap (λ n. insert n name had) (sym view) ∙ same_given es name had h ∙ view)
    ∙ ap (insert m name) (stays had decided) ∙ found es m name fate (Some had) view h
  where
    stays : (had : KeptFate) → had ≢ kept.Waiting → had ≡ decided_fate fate had
    stays kept.Waiting n = absurd (n refl)
    stays (kept.Stood position) n = refl
    stays kept.Aborted n = refl

-- nor of one that isn't open
pub decided_none : (es : List (TicketName × KeptFate)) (m : FinMap name_cmp KeptFate) (name : TicketName) (fate : KeptFate)
    → shown es ≡ m → value_at es name ≡ None → m ≡ deciding name fate m
decided_none es m name fate view h = found es m name fate None view h
