-- What has room in a content that is neither too long nor too large.
use Rattle.std.specs.Prelude.{◌≡◌, ℕ, ◌+◌, ◌≤◌, nat_eq, nat_le, Bool, true, false, cond, not, ◌&&◌, filter, List, [], ◌∷◌, length, Option, Some, None, Result, Ok, Err, refl}
use Rattle.std.proofs.Common.{ap, length-append, arith}
use Rattle.std.proofs.lemmas.Bool.Decides.{nat_tests}
use Rattle.doc_model.specs.declared.status.Status.{Status}
use Rattle.manifest_rules.specs.Applying.{text_step}
use Rattle.manifest_rules.specs.Rules.{Step}
use Rattle.vb_log.specs.declared.entry.Entry.{Entry}
use Rattle.vb_log.specs.declared.entry.Entry.TheVariants as entries
use Rattle.vb_log.specs.declared.entry.Pending.{Pending}
use Rattle.vb_log.specs.declared.limits.TheConstants.{CONTENT_LIMIT, SUM_LIMIT}
use Rattle.vb_log.specs.Content.{Content, has_collection, prepare_at, with_item, committed, with_step, with_entry, allowed}
use Rattle.vb_log.specs.Sizes.{size_after, can_add}

short_filter : (p : Pending → Bool) (ps : List Pending) → length (filter p ps) ≤ length ps
short_filter p [] = omega arith
short_filter p (x ∷ xs) = go (p x) (short_filter p xs)
  where
    go : (b : Bool) → length (filter p xs) ≤ length xs → length (cond b (x ∷ filter p xs) (filter p xs)) ≤ length (x ∷ xs)
    go true h = omega arith
    go false h = omega arith

committed_length : (c : Content) (change : Option Pending) → (committed c change).length ≡ c.length
committed_length c None = refl
committed_length c (Some p) = go (has_collection c.manifest p.key.collection)
  where
    go : (b : Bool) → (cond b (with_item c p.key p.what) c).length ≡ c.length
    go true = refl
    go false = refl

step_length : (c : Content) (step : Result Step Status)
    → ((with_step c step).length ≡ c.length) × ((with_step c step).prepares ≡ c.prepares)
step_length c (Ok step) = (refl, refl)
step_length c (Err why) = (refl, refl)

-- an entry makes a log longer by one, and one change more waits at most
longer : (c : Content) (e : Entry) → (with_entry c e).length + length (with_entry c e).prepares ≤ c.length + length c.prepares + 2
longer c (entries.Mutation key doc) = omega arith
longer c (entries.Deletion key cas) = omega arith
longer c (entries.Prepare key what level) =
    let more = length-append c.prepares (record { position = c.length + 1; level = level; key = key; what = what } ∷ []) in
    omega arith
longer c (entries.Commit of) =
    let a = committed_length c (prepare_at c.prepares of) in
    let b = short_filter (λ (p : Pending). not (nat_eq p.position of)) c.prepares in
    omega arith
longer c (entries.Abort of) =
    let b = short_filter (λ (p : Pending). not (nat_eq p.position of)) c.prepares in
    omega arith
longer c (entries.Manifest text) =
    let a = step_length c (text_step c.manifest text) in
    let b = ap (λ (ps : List Pending). length ps) a.1 in
    let l = a.0 in
    omega arith

all_three : (a b c : Bool) → a ≡ true → b ≡ true → c ≡ true → (a && (b && c)) ≡ true
all_three true true true e f g = refl
all_three true true false e f g = g
all_three true false c e f g = f
all_three false b c e f g = e

at_most : (a b : ℕ) → a ≤ b → nat_le a b ≡ true
at_most a b h = grind (arith, nat_tests)

pub has_room : (c : Content) (e : Entry) → size_after c e ≤ CONTENT_LIMIT → c.length + length c.prepares + 2 ≤ SUM_LIMIT
    → allowed c e ≡ true → can_add c e ≡ true
has_room c e small short may =
    let more = longer c e in
    all_three (allowed c e) (nat_le (size_after c e) CONTENT_LIMIT)
    (nat_le ((with_entry c e).length + length (with_entry c e).prepares) SUM_LIMIT) may
    (at_most (size_after c e) CONTENT_LIMIT small)
    (at_most ((with_entry c e).length + length (with_entry c e).prepares) SUM_LIMIT (omega arith))

-- an entry makes a log longer by one
pub one_longer : (c : Content) (e : Entry) → (with_entry c e).length ≡ c.length + 1
one_longer c (entries.Mutation key doc) = refl
one_longer c (entries.Deletion key cas) = refl
one_longer c (entries.Prepare key what level) = refl
one_longer c (entries.Commit of) = ap (λ n. n + 1) (committed_length c (prepare_at c.prepares of))
one_longer c (entries.Abort of) = refl
one_longer c (entries.Manifest text) = ap (λ n. n + 1) (step_length c (text_step c.manifest text)).0
