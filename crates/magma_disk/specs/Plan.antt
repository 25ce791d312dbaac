-- Faults that are planned.
use Rattle.std.specs.Prelude.{ℕ, ◌-◌, min, Bool, ◌||◌, nat_eq, nat_le, if◌then◌else◌, IsTrue, Option, IfSome}

-- The number, counted from 1, of the coming call that fails, and of the one from which on each fails; 0 for none.
pub record Plan : Type 0 where
  pub once : ℕ
  pub lasting : ℕ

-- nothing is planned
abbrev pub no_plan : Plan
no_plan = record { once = 0; lasting = 0 }

-- the next call fails
abbrev pub is_due : Plan → Bool
is_due plan = nat_eq plan.once 1 || nat_eq plan.lasting 1

-- after one more call
abbrev pub counted_down : Plan → Plan
counted_down plan = record { once = plan.once - 1; lasting = if nat_le plan.lasting 1 then plan.lasting else plan.lasting - 1 }

-- of two calls the earlier one, where the first may be none
abbrev pub earlier : ℕ → ℕ → ℕ
earlier a b = if nat_eq a 0 then b else min a b

-- With a newer plan: one that isn't lasting takes the place of an older such one, of two lasting ones the one that
-- begins earlier stands, and 0 plans nothing.
abbrev pub planned : ℕ → Bool → Plan → Plan
planned after is_lasting plan =
    if nat_eq after 0 then plan else (if is_lasting then record { once = plan.once; lasting = earlier plan.lasting after } else record { once = after; lasting = plan.lasting })

-- where the disk tells its plan, a call that is planned to fails
abbrev pub FailsAsPlanned : Option Plan → Type 0 → Type 0
FailsAsPlanned plan failed = IfSome plan (λ p. IsTrue (is_due p) → failed)
