-- Commits that are told and stand one after the other, up to one more.
use Rattle.std.specs.Prelude.{◌≡◌, ◌<◌, ◌≤◌, ◌+◌, ℕ, take, List, [], ◌∷◌, ◌++◌, length, refl}
use Rattle.std.specs.FinMap as map
use Rattle.std.proofs.Common.{zero, suc, get_or, sym, ◌∙◌, ap, append_assoc, append-nil, arith}
use Rattle.std.proofs.lemmas.List.{length-map, length-take-le}
use Rattle.vb_log.specs.declared.entry.Entry.{Entry}
use Rattle.vb_log.specs.declared.entry.Entry.TheVariants as entries
use Rattle.vb_log.specs.declared.entry.Pending.{Pending}
use Rattle.vb_log.specs.Content.{Content, with_entry, with_entries}
use Rattle.vb_log.specs.Settling.{commits_of}
use Rattle.vb_log.proofs.Logs.{entry_counts}
use Rattle.copy_memory.specs.declared.tickets.KeptFate.{KeptFate}
use Rattle.copy_memory.specs.declared.tickets.KeptFate.TheVariants as kept
use Rattle.copy_memory.specs.Sending.{entry_to_each, commits_to_each}
use Rattle.copy_memory.specs.Settling.{committing_first}
use Rattle.copy_memory.specs.Tickets.{name_cmp, deciding, standing}

pub none_taken : {A : Type 0} (xs : List A) → take 0 xs ≡ []
none_taken [] = refl
none_taken (x ∷ xs) = refl

next : (i : ℕ) → suc i + 1 ≡ suc (i + 1)
next i = omega arith

behind : (n i : ℕ) → n + 1 + i + 1 ≡ n + suc i + 1
behind n i = omega arith

-- the messages of one Commit more
pub commits_next : (from vbucket term : ℕ) (others : List ℕ) (n : ℕ) (xs : List ℕ) (i : ℕ) → i < length xs
    → commits_to_each from vbucket term others n (take (i + 1) xs)
    ≡ commits_to_each from vbucket term others n (take i xs) ++ entry_to_each from vbucket term others (n + i + 1) (entries.Commit (get_or xs i 0))
commits_next from vbucket term others n [] i l = absurd (omega arith)
commits_next from vbucket term others n (x ∷ xs) zero l =
    ap (λ l. entry_to_each from vbucket term others (n + 1) (entries.Commit x) ++ commits_to_each from vbucket term others (n + 1) l) (none_taken xs)
    ∙ append-nil (entry_to_each from vbucket term others (n + 1) (entries.Commit x))
    ∙ ap (λ m. entry_to_each from vbucket term others m (entries.Commit x)) (same n)
  where
    same : (n : ℕ) → n + 1 ≡ n + 0 + 1
    same n = omega arith
commits_next from vbucket term others n (x ∷ xs) (suc i) l =
    ap (λ k. commits_to_each from vbucket term others n (take k (x ∷ xs))) (next i)
    ∙ ap (λ l. entry_to_each from vbucket term others (n + 1) (entries.Commit x) ++ l) (commits_next from vbucket term others (n + 1) xs i (omega arith))
    ∙ sym (append_assoc (entry_to_each from vbucket term others (n + 1) (entries.Commit x)) (commits_to_each from vbucket term others (n + 1) (take i xs))
    (entry_to_each from vbucket term others (n + 1 + i + 1) (entries.Commit (get_or xs i 0))))
    ∙ ap (λ m. commits_to_each from vbucket term others n (x ∷ take i xs) ++ entry_to_each from vbucket term others m (entries.Commit (get_or xs i 0))) (behind n i)

-- one ticket more stands
pub standing_next : (term n : ℕ) (xs : List ℕ) (i : ℕ) (tickets : map.FinMap name_cmp KeptFate) → i < length xs
    → standing term n (take (i + 1) xs) tickets ≡ deciding (record { term = term; prepare = get_or xs i 0 }) (kept.Stood (n + i + 1)) (standing term n (take i xs) tickets)
standing_next term n [] i tickets l = absurd (omega arith)
standing_next term n (x ∷ xs) zero tickets l =
    ap (λ l. standing term (n + 1) l (deciding (record { term = term; prepare = x }) (kept.Stood (n + 1)) tickets)) (none_taken xs)
    ∙ ap (λ m. deciding (record { term = term; prepare = x }) (kept.Stood m) tickets) (same n)
  where
    same : (n : ℕ) → n + 1 ≡ n + 0 + 1
    same n = omega arith
standing_next term n (x ∷ xs) (suc i) tickets l =
    ap (λ k. standing term n (take k (x ∷ xs)) tickets) (next i)
    ∙ standing_next term (n + 1) xs i (deciding (record { term = term; prepare = x }) (kept.Stood (n + 1)) tickets) (omega arith)
    ∙ ap (λ m. deciding (record { term = term; prepare = get_or xs i 0 }) (kept.Stood m) (standing term n (x ∷ take i xs) tickets)) (behind n i)

-- ---- lengths

-- each entry counts one
entries_count : (c : Content) (es : List Entry) → (with_entries c es).length ≡ c.length + length es
entries_count c [] = omega arith
entries_count c (e ∷ es) = entries_count (with_entry c e) es ∙ ap (λ n. n + length es) (entry_counts c e) ∙ one_more c.length (length es)
  where
    one_more : (a b : ℕ) → a + 1 + b ≡ a + suc b
    one_more a b = omega arith

-- so many Commits make a log longer by as many
pub commits_count : (count : ℕ) (c : Content) → count ≤ length c.prepares → (committing_first count c).length ≡ c.length + count
commits_count count c few =
    entries_count c (commits_of (take count c.prepares))
    ∙ ap (λ n. c.length + n) (length-map (take count c.prepares) (λ (p : Pending). entries.Commit p.position) ∙ length-take-le count c.prepares few)
