-- Reading and writing an id as functions, for formats that have ids among other fields.
use Rattle.std.specs.Prelude.{ℕ, zero, suc, ◌+◌, ◌/◌, ◌%◌, nat_eq, nat_le, nat_lt, Bool, ◌&&◌, ◌||◌, not, List, [], ◌∷◌, length, take, drop, slice_index, Option, Some, None, if◌then◌else◌}
use Rattle.leb_collections.specs.Leb128.{value_of}

-- how many bytes at the front have the top bit
abbrev pub leading : List ℕ → ℕ
leading [] = 0
leading (b ∷ bs) = if nat_le 128 b then suc (leading bs) else 0

-- whether so many bytes with the top bit and one without it are a shortest spelling
abbrev pub is_spelling : ℕ → List ℕ → Bool
is_spelling n bytes =
    nat_lt n (length bytes) && nat_le n 4 && (nat_lt n 4 || nat_le (slice_index bytes 4) 15) && (nat_eq n 0 || not (nat_eq (slice_index bytes n) 0))

-- the id whose shortest spelling begins the bytes, and what follows it
abbrev pub id_at : List ℕ → Option (ℕ × List ℕ)
id_at bytes =
    if is_spelling (leading bytes) bytes then Some (value_of (take (leading bytes + 1) bytes), drop (leading bytes + 1) bytes) else None

-- a number in groups of seven bits, the lowest first, with at most so many bytes before the last
abbrev pub groups : ℕ → ℕ → List ℕ
groups zero n = n ∷ []
groups (suc k) n = if nat_lt n 128 then n ∷ [] else (128 + n % 128) ∷ groups k (n / 128)

-- the shortest spelling of an id
abbrev pub id_bytes : ℕ → List ℕ
id_bytes id = groups 4 id
