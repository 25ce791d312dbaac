-- What a log begins with on what a store holds.
use Rattle.std.specs.Prelude.{◌≡◌, ◌⊎◌, ℕ, Bool, true, false, List, [], ◌++◌, length, drop, Option, Some, None, Result, Ok, Err, IfOk, refl}
use Rattle.std.proofs.Common.{sym, ◌∙◌, ap, subst, subst₂, inl, inr}
use Rattle.std.proofs.lemmas.List.{drop_at}
use Rattle.manifest_rules.specs.Catalog.{Catalog}
use Rattle.manifest_rules.specs.Rules.{first_catalog}
use Rattle.manifest_rules.specs.State.{state_of}
use Rattle.manifest_rules.proofs.States.{same_state}
use Rattle.magma_disk.specs.Device.{Device}
use Rattle.magma_store.specs.declared.meta.Meta.{Meta}
use Rattle.magma_store.specs.Held.{Held}
use Rattle.magma_store.specs.Store.{Shown, IsOpen}
use Rattle.magma_store.specs.Whole.{bare_of, content_of}
use Rattle.vb_log.specs.declared.entry.Pending.{Pending}
use Rattle.vb_log.specs.Content.{Content, no_content}
use Rattle.vb_log.specs.Contents.{IsWhole}
use Rattle.vb_log.specs.Prepares.{pending_bytes, widest}
use Rattle.vb_log.proofs.PendingBytes.{same_pending, widest_bounds}
use Rattle.copy_model.specs.Copies.{Pair}
use Rattle.vb_core.specs.declared.opening.Begun.{Begun}
use Rattle.vb_core.specs.Beginning.{TailRead, IsBroken, BeginsWithout}
use Rattle.vb_core.specs.Openings.{IsSound}
use Rattle.vb_core.specs.Pairs.{IsTail, IsNoTail, Tells, IsPair}
use Rattle.vb_core.proofs.Tails.{empty_tail, none_whole}

-- ---- what was read of the tail

-- a tail tells one manifest, and one list of changes that wait
one_tail : (tail : List ℕ) (m n : Catalog) (ps qs : List Pending) → IsTail tail m ps → IsTail tail n qs → (m ≡ n) × (ps ≡ qs)
one_tail tail m n ps qs a b =
    let same : m ≡ n = same_state m n (pending_bytes ps) (pending_bytes qs) a.kept b.kept (sym a.spelled ∙ b.spelled) in
    let both : state_of n ++ pending_bytes ps ≡ state_of n ++ pending_bytes qs = ap (λ (c : Catalog). state_of c ++ pending_bytes ps) (sym same) ∙ sym a.spelled ∙ b.spelled in
    let rest : pending_bytes ps ≡ pending_bytes qs =
    sym (drop_at (state_of n) (pending_bytes ps) (length (state_of n)) refl) ∙ ap (drop (length (state_of n))) both ∙ drop_at (state_of n) (pending_bytes qs) (length (state_of n)) refl in
    let s = same_pending widest ps qs [] [] widest_bounds a.allowed b.allowed (ap (λ l. l ++ []) rest) in
    (same, s.one)

none_at_all : (tail : List ℕ) (m : Catalog) (ps : List Pending) (A : Type 0) → tail ≡ [] → IsTail tail m ps → A
none_at_all tail m ps A nil t = absurd (empty_tail m ps (subst (λ l. IsTail l m ps) nil t))

-- what a pair's log has is what was read
pub told_is : (tail : List ℕ) (parts : Catalog × List Pending) (m : Catalog) (ps : List Pending) → TailRead tail (Some parts) → Tells tail m ps → (m ≡ parts.0) × (ps ≡ parts.1)
told_is tail parts m ps (inl read) (inl t) = none_at_all tail m ps _ read.0 t
told_is tail parts m ps (inl read) (inr none) = (none.1 ∙ sym read.1, none.2 ∙ sym read.2)
told_is tail parts m ps (inr read) (inl t) = one_tail tail m parts.0 ps parts.1 t read
told_is tail parts m ps (inr read) (inr none) = absurd (none.0 parts.0 parts.1 read)

tells_read : (tail : List ℕ) (parts : Catalog × List Pending) → TailRead tail (Some parts) → Tells tail parts.0 parts.1
tells_read tail parts (inl read) = inr (subst (λ (l : List ℕ). IsNoTail l) (sym read.0) empty_tail, read.1, read.2)
tells_read tail parts (inr read) = inl read

-- ---- what the log begins with

-- no pair of the store is sound, where nothing was read of its tail
unsound_tail : (held : Held) (d : Pair Content ℕ) → TailRead held.meta.tail None → IsSound held d → ⊥
unsound_tail held d read s = go s.told
  where
    go : (held.meta.tail ≡ []) ⊎ IsTail held.meta.tail d.log.manifest d.log.prepares → ⊥
    go (inl nil) = read.0 nil
    go (inr t) = read.1 d.log.manifest d.log.prepares t

-- a pair of the store has the log that the store and its tail tell
log_is : (held : Held) (d : Pair Content ℕ) (parts : Catalog × List Pending) → TailRead held.meta.tail (Some parts) → IsPair held d.layout d
    → d.log ≡ content_of held parts.0 parts.1
log_is held d parts read p = go (told_is held.meta.tail parts d.log.manifest d.log.prepares read p.tail_tells)
  where
    go : (d.log.manifest ≡ parts.0) × (d.log.prepares ≡ parts.1) → d.log ≡ content_of held parts.0 parts.1
    go told i = record { items = p.items_are i; prepares = told.1 i; manifest = told.0 i; greatest_cas = p.cas_is i; length = p.length_is i }

-- the log begins anew, where nothing was read of the tail, or no whole content has what was read
broken_tail : (held : Held) → TailRead held.meta.tail None → IsBroken held no_content
broken_tail held read = record {
  none = refl;
  manifest = first_catalog;
  prepares = [];
  tells = inr (read.1, refl, refl);
  unsound = λ d p s. unsound_tail held d read s;
}

broken_parts : (held : Held) (parts : Catalog × List Pending) → TailRead held.meta.tail (Some parts)
    → (IsWhole (content_of held parts.0 parts.1) → ⊥) → IsBroken held no_content
broken_parts held parts read none = record {
  none = refl;
  manifest = parts.0;
  prepares = parts.1;
  tells = tells_read held.meta.tail parts read;
  unsound = λ d p s. none (subst IsWhole (log_is held d parts read p) s.whole);
}

found_told : (held : Held) (parts : Catalog × List Pending) → TailRead held.meta.tail (Some parts)
    → ((held.meta.tail ≡ []) × (parts.0 ≡ first_catalog) × (parts.1 ≡ [])) ⊎ IsTail held.meta.tail parts.0 parts.1
found_told held parts (inl read) = inl (read.0, read.1, read.2)
found_told held parts (inr read) = inr read

-- ---- it begins so on an open store

anew_on : (held : Held) (rest : Content) (is_anew : Bool) → rest ≡ no_content → is_anew ≡ true → IsBroken held no_content
    → BeginsWithout held rest is_anew
anew_on held rest is_anew none anew b =
    subst₂ (λ (r : Content) (a : Bool). BeginsWithout held r a) (sym none) (sym anew)
    (record { content = no_content; from = b; rest_of = record { whole = none_whole; rest_is = refl } })

-- the same, by what a log begins with that begins anew
pub anew_begins : {E : Type 0} (held : Held) (r : Result Begun E) → IfOk r (λ b. b.content ≡ no_content) → IfOk r (λ b. b.is_anew ≡ true)
    → IsBroken held no_content → IfOk r (λ b. BeginsWithout held b.content b.is_anew)
anew_begins held (Ok b) none anew broken = anew_on held b.content b.is_anew none anew broken
anew_begins held (Err e) none anew broken = tt

-- an open store of whose tail this was read
pub record IsRead {D : Type 0} (states : D → List Device) (held : Held) (store : Shown D) (parts : Option (Catalog × List Pending)) : Type 0 where
  pub is_open : IsOpen states held store
  pub read : TailRead store.meta.tail parts

its_read : {D : Type 0} (states : D → List Device) (held : Held) (store : Shown D) (parts : Option (Catalog × List Pending)) → IsRead states held store parts
    → TailRead held.meta.tail parts
its_read states held store parts h = subst (λ (m : Meta). TailRead m.tail parts) h.is_open.meta h.read

pub untold_on : {D : Type 0} (states : D → List Device) (held : Held) (store : Shown D) → IsRead states held store None → IsBroken held no_content
untold_on states held store h = broken_tail held (its_read states held store None h)

pub broken_on : {D : Type 0} (states : D → List Device) (held : Held) (store : Shown D) (parts : Catalog × List Pending) → IsRead states held store (Some parts)
    → (IsWhole (content_of held parts.0 parts.1) → ⊥) → IsBroken held no_content
broken_on states held store parts h none = broken_parts held parts (its_read states held store (Some parts) h) none

pub found_on : {D : Type 0} (states : D → List Device) (held : Held) (store : Shown D) (parts : Catalog × List Pending) (rest : Content) → IsRead states held store (Some parts)
    → rest ≡ bare_of store.meta parts.0 parts.1 → IsWhole (content_of held parts.0 parts.1) → BeginsWithout held rest false
found_on states held store parts rest h is whole = record {
  content = content_of held parts.0 parts.1;
  from = record { is = refl; told = found_told held parts (its_read states held store (Some parts) h) };
  rest_of = record { whole = whole; rest_is = is ∙ ap (λ (m : Meta). bare_of m parts.0 parts.1) h.is_open.meta };
}
