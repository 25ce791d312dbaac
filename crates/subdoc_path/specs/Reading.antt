-- How the code reads a path, byte by byte; no public contract cites this file.
use Rattle.std.specs.Prelude.{◌≡◌, ℕ, suc, ◌+◌, ◌*◌, ◌-◌, List, [], ◌∷◌, ◌++◌, Bool, true, false, Option, Some, None, Result, Ok, Err, ◌==◌, nat_lt, if◌then◌else◌, take, drop}
use Rattle.json_model.specs.declared.asked.Part.{Part}
use Rattle.json_model.specs.declared.asked.Part.TheVariants.{Member, At, Last}
use Rattle.json_model.specs.Paths.{Spells}
use Rattle.subdoc_path.specs.declared.path.PathFault.{PathFault}
use Rattle.subdoc_path.specs.declared.path.PathFault.TheVariants as faults

-- what a function returned, with the value behind Ok seen by f
abbrev pub seen : {A B : Type 0} → (A → B) → Result A PathFault → Result B PathFault
seen f (Ok x) = Ok (f x)
seen f (Err e) = Err e

-- what is told of what reading gives
abbrev pub Reads : {A : Type 0} → Option A → Result A PathFault → Type 0
Reads o (Ok x) = o ≡ Some x
Reads o (Err faults.Einval) = o ≡ None
Reads o (Err faults.E2big) = ⊥
Reads o (Err faults.NoMemory) = Unit {0}

-- what is told of bytes that are to spell parts
abbrev pub ReadsParts : List ℕ → Result (List Part) PathFault → Type 0
ReadsParts bytes (Ok parts) = Spells parts bytes
ReadsParts bytes (Err faults.Einval) = (parts : List Part) → Spells parts bytes → ⊥
ReadsParts bytes (Err faults.E2big) = ⊥
ReadsParts bytes (Err faults.NoMemory) = Unit {0}

-- ---- names

-- a byte of a name without backticks
abbrev pub is_bare : ℕ → Bool
is_bare x = if x == 0x2e then false else if x == 0x5b then false else if x == 0x5d then false else if x == 0x60 then false else true

-- how many such bytes are first
unfoldable pub bare_length : List ℕ → ℕ
bare_length [] = 0
bare_length (x ∷ xs) = if is_bare x then suc (bare_length xs) else 0

-- a name without backticks, and what is behind it
abbrev pub bare_at : List ℕ → Option (List ℕ × List ℕ)
bare_at bytes = if bare_length bytes == 0 then None else Some (take (bare_length bytes) bytes, drop (bare_length bytes) bytes)

-- a name with one byte more at its front
abbrev pub led : ℕ → Option (List ℕ × List ℕ) → Option (List ℕ × List ℕ)
led x None = None
led x (Some r) = Some (x ∷ r.0, r.1)

-- What is left of a name behind its first backtick, and what is behind it, where a backtick waits for a second one or not.
unfoldable pub ticked_at : Bool → List ℕ → Option (List ℕ × List ℕ)
ticked_at false [] = None
ticked_at true [] = Some ([], [])
ticked_at false (x ∷ xs) = if x == 0x60 then ticked_at true xs else led x (ticked_at false xs)
ticked_at true (x ∷ xs) = if x == 0x60 then led x (ticked_at false xs) else Some ([], x ∷ xs)

-- a name behind bytes that were read before it
abbrev pub behind_name : List ℕ → Option (List ℕ × List ℕ) → Option (List ℕ × List ℕ)
behind_name front None = None
behind_name front (Some r) = Some (front ++ r.0, r.1)

abbrev pub name_at : List ℕ → Option (List ℕ × List ℕ)
name_at [] = None
name_at (x ∷ xs) = if x == 0x60 then ticked_at false xs else bare_at (x ∷ xs)

-- ---- indices

-- a number with one digit more behind it, below 2^32
abbrev pub with_digit : ℕ → ℕ → Option ℕ
with_digit n x = if nat_lt x 0x30 then None else if nat_lt 0x39 x then None else if nat_lt (n * 10 + (x - 0x30)) 0x1_0000_0000 then Some (n * 10 + (x - 0x30)) else None

abbrev pub go : Option ℕ → (ℕ → Option (ℕ × List ℕ)) → Option (ℕ × List ℕ)
go None f = None
go (Some n) f = f n

-- the number that digits up to a closing bracket spell behind those of n, and what is behind the bracket
unfoldable pub number_at : ℕ → List ℕ → Option (ℕ × List ℕ)
number_at n [] = None
number_at n (x ∷ xs) = if x == 0x5d then Some (n, xs) else go (with_digit n x) (λ m. number_at m xs)

abbrev pub numbered : Option (ℕ × List ℕ) → Option (Part × List ℕ)
numbered None = None
numbered (Some r) = Some (At r.0, r.1)

-- behind the minus
abbrev pub last_at : List ℕ → Option (Part × List ℕ)
last_at [] = None
last_at (a ∷ []) = None
last_at (a ∷ b ∷ rest) = if a == 0x31 then (if b == 0x5d then Some (Last, rest) else None) else None

-- behind a zero that is first
abbrev pub zero_at : List ℕ → Option (Part × List ℕ)
zero_at [] = None
zero_at (a ∷ rest) = if a == 0x5d then Some (At 0, rest) else None

-- behind the opening bracket
abbrev pub index_at : List ℕ → Option (Part × List ℕ)
index_at [] = None
index_at (x ∷ xs) = if x == 0x2d then last_at xs else if x == 0x30 then zero_at xs else if x == 0x5d then None else numbered (number_at 0 (x ∷ xs))

-- ---- parts

abbrev pub named : Option (List ℕ × List ℕ) → Option (Part × List ℕ)
named None = None
named (Some r) = Some (Member r.0, r.1)

-- the part that begins a path, and what is behind it
abbrev pub first_at : List ℕ → Option (Part × List ℕ)
first_at [] = None
first_at (x ∷ xs) = if x == 0x5b then index_at xs else named (name_at (x ∷ xs))

-- a part behind another, and what is behind it
abbrev pub further_at : List ℕ → Option (Part × List ℕ)
further_at [] = None
further_at (x ∷ xs) = if x == 0x5b then index_at xs else if x == 0x2e then named (name_at xs) else None
