-- What opening a vbucket comes to.
use Rattle.std.specs.Prelude.{◌≡◌, ◌⊎◌, ℕ, ◌+◌, Bool, true, false, List, [], ◌∷◌, Option, Some, None, Result, Ok, Err, IfOk, IfErr, IfSome, refl}
use Rattle.std.proofs.Common.{sym, ◌∙◌, ap, ap₂, subst, inl, inr}
use Rattle.durability_core.specs.declared.chain.Chain.{Chain}
use Rattle.manifest_rules.specs.Catalog.{Catalog}
use Rattle.manifest_rules.specs.Rules.{first_catalog}
use Rattle.magma_disk.specs.Device.{Device}
use Rattle.magma_disk.specs.Moments.{Throughout}
use Rattle.magma_disk.proofs.Moments.{weaker, onward, no_more}
use Rattle.magma_store.specs.declared.fault.StoreFault.{StoreFault}
use Rattle.magma_store.specs.declared.fault.StoreFault.TheVariants as fault
use Rattle.magma_store.specs.declared.meta.Meta.{Meta}
use Rattle.magma_store.specs.Held.{Held, first_held}
use Rattle.magma_store.specs.Layout.{made_size, sets_size}
use Rattle.magma_store.specs.Store as stores
use Rattle.magma_store.specs.Store.{Shown, IsOpen, IsOwn, IsMade, IsRaised, Opens, LeavesOpening}
use Rattle.magma_store.specs.Whole.{content_of}
use Rattle.vb_log.specs.declared.entry.Pending.{Pending}
use Rattle.vb_log.specs.Content.{Content, no_content}
use Rattle.vb_log.specs.Contents.{IsWhole}
use Rattle.vb_log.specs.Logs.{folds}
use Rattle.copy_model.specs.Copies.{Copy, Pair}
use Rattle.copy_model.specs.Disk.{needed, free}
use Rattle.copy_model.specs.Openings.{new_copy, copy_on, first_pair, begun_anew, raised}
use Rattle.vb_core.specs.Beginning.{BeginsFrom, IsFound, IsBroken, BeginsIn, LeavesTerm, PutsFirst, StaysSilent, IsUnbegun, OpensOn}
use Rattle.vb_core.specs.Flat.{flat}
use Rattle.vb_core.specs.Openings.{begun, IsSound, BeginsOn, LeavesBeginning, LeavesRefused, OpensVb}
use Rattle.vb_core.specs.Pairs.{IsTail, IsNoTail, Tells, IsPair}
use Rattle.vb_core.specs.Shown.{ShownVb}
use Rattle.vb_core.proofs.Resting.{stays_put}
use Rattle.vb_core.proofs.Tails.{empty_tail, none_whole}

-- ---- the copy that begins

-- a copy begins on the bytes, and on the store
pub record Finds {D : Type 0} (states : D → List Device) (bytes : List ℕ) (chain : Chain) (place number : ℕ) (store : Shown D) (content : Content) (is_anew : Bool) : Type 0 where
  pub copy : Copy Content ℕ
  pub begins : BeginsOn bytes chain place number copy
  pub on_store : BeginsIn states store number content is_anew copy

-- what a tail tells of a log that was found
found_tells : (held : Held) (content : Content) → IsFound held content → Tells held.meta.tail content.manifest content.prepares
found_tells held content f = go f.told
  where
    go : ((held.meta.tail ≡ []) × (content.manifest ≡ first_catalog) × (content.prepares ≡ [])) ⊎ IsTail held.meta.tail content.manifest content.prepares → Tells held.meta.tail content.manifest content.prepares
    go (inl t) = inr (subst (λ (l : List ℕ). IsNoTail l) (sym t.0) empty_tail, t.1, t.2)
    go (inr t) = inl t

found_sound : (held : Held) (content : Content) → IsFound held content → (held.meta.tail ≡ []) ⊎ IsTail held.meta.tail content.manifest content.prepares
found_sound held content f = go f.told
  where
    go : ((held.meta.tail ≡ []) × (content.manifest ≡ first_catalog) × (content.prepares ≡ [])) ⊎ IsTail held.meta.tail content.manifest content.prepares → (held.meta.tail ≡ []) ⊎ IsTail held.meta.tail content.manifest content.prepares
    go (inl t) = inl t.0
    go (inr t) = inr t

-- ---- a store that was made

first_is_pair : (chain : Chain) (place layout : ℕ) → IsPair (first_held chain place) layout (first_pair folds layout)
first_is_pair chain place layout = record {
  promise_is = refl;
  accepted_is = refl;
  incarnation_is = refl;
  layout_is = refl;
  items_are = refl;
  tail_tells = inr (empty_tail, refl, refl);
  cas_is = refl;
  length_is = refl;
}

nothing_found : (chain : Chain) (place : ℕ) (content : Content) → IsFound (first_held chain place) content → content ≡ no_content
nothing_found chain place content f = go f.told
  where
    go : ((let nothing : List ℕ = [] in nothing ≡ []) × (content.manifest ≡ first_catalog) × (content.prepares ≡ [])) ⊎ IsTail [] content.manifest content.prepares → content ≡ no_content
    go (inl t) = f.is ∙ ap₂ (λ (m : Catalog) (ps : List Pending). content_of (first_held chain place) m ps) t.1 t.2
    go (inr t) = absurd (empty_tail content.manifest content.prepares t)

finds_made : {D : Type 0} (states : D → List Device) (bytes : List ℕ) (chain : Chain) (place number : ℕ) (store : Shown D) (content : Content) (is_anew : Bool) → IsMade states bytes chain place store → IsOwn chain place store.meta
    → BeginsFrom (first_held chain place) content is_anew → Finds states bytes chain place number store content is_anew
finds_made states bytes chain place number store content true made own b =
    absurd (b.unsound (first_pair folds (made_size chain)) (first_is_pair chain place (made_size chain)) (record { whole = none_whole; told = inl refl }))
finds_made states bytes chain place number store content false made own b = record {
  copy = new_copy folds chain place number (made_size chain);
  begins = inl (made.unused, refl);
  on_store = record {
    held = first_held chain place;
    is_open = made.is_open;
    pair = subst (λ l. IsPair (first_held chain place) l (first_pair folds (made_size chain))) (sym made.lays) (first_is_pair chain place (made_size chain));
    from = b;
    chain_is = own.chain_own;
    place_is = own.place_own;
    number_is = refl;
    accepted_is = ap (λ (m : Meta). m.accepted) made.is_open.meta;
    incarnation_is = ap (λ (m : Meta). m.incarnation) made.is_open.meta;
    log_is = nothing_found chain place content b;
    anew_is = refl;
    torn = refl;
    unseen = refl;
    no_entries = refl;
    no_bytes = refl;
  };
}

-- ---- a store that was there

-- what a store holds as a pair, with this log
abbrev pair_with : Held → ℕ → Content → Pair Content ℕ
pair_with held layout log = record { promise = held.meta.promise; accepted = held.meta.accepted; log = log; incarnation = held.meta.incarnation; layout = layout }

-- once it was opened
raised_pair : (held : Held) (layout : ℕ) (d : Pair Content ℕ) (more : ℕ) → IsPair held layout d → IsPair (stores.raised held) more (raised more d)
raised_pair held layout d more p = record {
  promise_is = p.promise_is;
  accepted_is = p.accepted_is;
  incarnation_is = ap (λ n. n + 1) p.incarnation_is;
  layout_is = refl;
  items_are = p.items_are;
  tail_tells = p.tail_tells;
  cas_is = p.cas_is;
  length_is = p.length_is;
}

is_pair_with : (held : Held) (layout : ℕ) (log : Content) → log.items ≡ held.items → Tells held.meta.tail log.manifest log.prepares → log.greatest_cas ≡ held.meta.cas → log.length ≡ held.meta.length → IsPair held layout (pair_with held layout log)
is_pair_with held layout log items tells cas long = record {
  promise_is = refl;
  accepted_is = refl;
  incarnation_is = refl;
  layout_is = refl;
  items_are = items;
  tail_tells = tells;
  cas_is = cas;
  length_is = long;
}

found_pair : (held : Held) (layout : ℕ) (content : Content) → IsFound (stores.raised held) content → IsPair held layout (pair_with held layout content)
found_pair held layout content f = is_pair_with held layout content (ap (λ (c : Content). c.items) f.is) (found_tells (stores.raised held) content f)
    (ap (λ (c : Content). c.greatest_cas) f.is) (ap (λ (c : Content). c.length) f.is)

-- the log of a pair that isn't sound
abbrev broken_log : Held → Catalog → List Pending → Content
broken_log held manifest prepares = record { items = held.items; prepares = prepares; manifest = manifest; greatest_cas = held.meta.cas; length = held.meta.length }

broken_pair : (held : Held) (layout : ℕ) (content : Content) (b : IsBroken (stores.raised held) content) → IsPair held layout (pair_with held layout (broken_log held b.manifest b.prepares))
broken_pair held layout content b = is_pair_with held layout (broken_log held b.manifest b.prepares) refl b.tells refl refl

still_unsound : (held : Held) (layout : ℕ) (content : Content) (b : IsBroken (stores.raised held) content) → IsSound held (pair_with held layout (broken_log held b.manifest b.prepares)) → ⊥
still_unsound held layout content b s =
    b.unsound (raised layout (pair_with held layout (broken_log held b.manifest b.prepares))) (raised_pair held layout (pair_with held layout (broken_log held b.manifest b.prepares)) layout (broken_pair held layout content b))
    (record { whole = s.whole; told = s.told })

finds_raised : {D : Type 0} (states : D → List Device) (bytes : List ℕ) (chain : Chain) (place number : ℕ) (store : Shown D) (content : Content) (is_anew : Bool) (r : IsRaised states bytes chain place store) → IsOwn chain place store.meta → IsWhole content
    → BeginsFrom (stores.raised r.held) content is_anew → Finds states bytes chain place number store content is_anew
finds_raised states bytes chain place number store content false r own whole b = record {
  copy = copy_on chain place number false (raised (r.layout + sets_size) (pair_with r.held r.layout content));
  begins = inr (r.held, pair_with r.held r.layout content, r.before, found_pair r.held r.layout content b, inl (record { whole = whole; told = found_sound (stores.raised r.held) content b }, refl));
  on_store = record {
    held = stores.raised r.held;
    is_open = r.is_open;
    pair =
        subst (λ l. IsPair (stores.raised r.held) l (raised (r.layout + sets_size) (pair_with r.held r.layout content))) (sym r.lays)
        (raised_pair r.held r.layout (pair_with r.held r.layout content) (r.layout + sets_size) (found_pair r.held r.layout content b));
    from = b;
    chain_is = own.chain_own;
    place_is = own.place_own;
    number_is = refl;
    accepted_is = ap (λ (m : Meta). m.accepted) r.is_open.meta;
    incarnation_is = ap (λ (m : Meta). m.incarnation) r.is_open.meta;
    log_is = refl;
    anew_is = refl;
    torn = refl;
    unseen = refl;
    no_entries = refl;
    no_bytes = refl;
  };
}
finds_raised states bytes chain place number store content true r own whole b = record {
  copy = begun_anew folds (copy_on chain place number false (raised (r.layout + sets_size) (pair_with r.held r.layout (broken_log r.held b.manifest b.prepares))));
  begins =
      inr (r.held, pair_with r.held r.layout (broken_log r.held b.manifest b.prepares), r.before, broken_pair r.held r.layout content b, inr (still_unsound r.held r.layout content b, refl));
  on_store = record {
    held = stores.raised r.held;
    is_open = r.is_open;
    pair =
        subst (λ l. IsPair (stores.raised r.held) l (raised (r.layout + sets_size) (pair_with r.held r.layout (broken_log r.held b.manifest b.prepares)))) (sym r.lays)
        (raised_pair r.held r.layout (pair_with r.held r.layout (broken_log r.held b.manifest b.prepares)) (r.layout + sets_size) (broken_pair r.held r.layout content b));
    from = b;
    chain_is = own.chain_own;
    place_is = own.place_own;
    number_is = refl;
    accepted_is = ap (λ (m : Meta). m.accepted) r.is_open.meta;
    incarnation_is = ap (λ (m : Meta). m.incarnation) r.is_open.meta;
    log_is = b.none;
    anew_is = refl;
    torn = refl;
    unseen = refl;
    no_entries = refl;
    no_bytes = refl;
  };
}

-- ---- what it comes to

-- a store that was opened and a log that began on it, with what putting its term on disk came to
pub record Opening {D : Type 0} (states : D → List Device) (d : Device) (past : List Device) (chain : Chain) (place number : ℕ) (store : Shown D) (result : Result (ShownVb D) StoreFault) (back : Option D) : Type 0 where
  pub copy : Copy Content ℕ
  pub begins : BeginsOn d.bytes chain place number copy
  pub of_chain : copy.chain ≡ chain
  pub puts : PutsFirst states (states store.disk) (begun copy) result back
  pub opening : Throughout (LeavesOpening (d ∷ past) chain place) (d ∷ past) (states store.disk)

-- what an opening is to come to
pub record IsComing {D : Type 0} (states : D → List Device) (h : List Device) (chain : Chain) (place number : ℕ) (result : Result (ShownVb D) StoreFault) (back : Option D) : Type 0 where
  pub opens : OpensVb states h chain place number result
  pub moments : IfOk result (λ vb. Throughout (LeavesBeginning h chain place number) h (states vb.store.disk))
  pub moments_back : IfErr result (λ why. IfSome back (λ disk. Throughout (LeavesRefused why h chain place number) h (states disk)))

opened_with : {D : Type 0} (states : D → List Device) (d : Device) (past : List Device) (chain : Chain) (place number : ℕ) (store : Shown D) (now : List Device) (copy : Copy Content ℕ) → BeginsOn d.bytes chain place number copy
    → Throughout (LeavesOpening (d ∷ past) chain place) (d ∷ past) (states store.disk) → Throughout (LeavesTerm (begun copy)) (states store.disk) now → Throughout (LeavesBeginning (d ∷ past) chain place number) (d ∷ past) now
opened_with states d past chain place number store now copy begins first second =
    onward (LeavesBeginning (d ∷ past) chain place number) (d ∷ past) (states store.disk) now
    (weaker (LeavesOpening (d ∷ past) chain place) (LeavesBeginning (d ∷ past) chain place number) (d ∷ past) (states store.disk) (λ image l. inl l) first)
    (weaker (LeavesTerm (begun copy)) (LeavesBeginning (d ∷ past) chain place number) (states store.disk) now (λ image l. inr (copy, begins, l)) second)

comes : {D : Type 0} (states : D → List Device) (d : Device) (past : List Device) (chain : Chain) (place number : ℕ) (store : Shown D) (result : Result (ShownVb D) StoreFault) (back : Option D)
    → Opening states d past chain place number store result back → IsComing states (d ∷ past) chain place number result back
comes states d past chain place number store (Ok vb) back o = record {
  opens = (o.copy, o.begins, o.puts.0);
  moments = opened_with states d past chain place number store (states vb.store.disk) o.copy o.begins o.opening o.puts.1;
  moments_back = tt;
}
comes states d past chain place number store (Err fault.DiskFault) (Some back) o = record {
  opens = tt;
  moments = tt;
  moments_back = opened_with states d past chain place number store (states back) o.copy o.begins o.opening o.puts;
}
comes states d past chain place number store (Err (fault.Full asked left)) (Some back) o = record {
  opens =
      record {
        copy = o.copy;
        begins = o.begins;
        asked_is = ((o.puts).1).asked_is ∙ ap (λ (c : Chain). needed folds (flat c) (begun o.copy)) o.of_chain;
        left_is = ((o.puts).1).left_is ∙ ap (λ (c : Chain). free (flat c) (begun o.copy)) o.of_chain;
        full = ((o.puts).1).full;
      };
  moments = tt;
  moments_back = no_more (LeavesOpening (d ∷ past) chain place) (d ∷ past) (states store.disk) (states back) o.opening (o.puts).0;
}
comes states d past chain place number store (Err fault.NoMemory) (Some back) o = record {
  opens = tt;
  moments = tt;
  moments_back = no_more (LeavesOpening (d ∷ past) chain place) (d ∷ past) (states store.disk) (states back) o.opening o.puts;
}
comes states d past chain place number store (Err (fault.Damaged at found expected)) (Some back) o = absurd o.puts
comes states d past chain place number store (Err (fault.Spent found)) (Some back) o = absurd o.puts
comes states d past chain place number store (Err fault.OtherChain) (Some back) o = absurd o.puts
comes states d past chain place number store (Err fault.DiskFault) None o = absurd o.puts
comes states d past chain place number store (Err (fault.Full asked left)) None o = absurd o.puts
comes states d past chain place number store (Err fault.NoMemory) None o = absurd o.puts
comes states d past chain place number store (Err (fault.Damaged at found expected)) None o = absurd o.puts
comes states d past chain place number store (Err (fault.Spent found)) None o = absurd o.puts
comes states d past chain place number store (Err fault.OtherChain) None o = absurd o.puts

-- nothing began
unbegun : {D : Type 0} (states : D → List Device) (d : Device) (past : List Device) (chain : Chain) (place number : ℕ) (store : Shown D) (result : Result (ShownVb D) StoreFault) (back : Option D)
    → Throughout (LeavesOpening (d ∷ past) chain place) (d ∷ past) (states store.disk) → IsUnbegun states (states store.disk) result back → IsComing states (d ∷ past) chain place number result back
unbegun states d past chain place number store (Ok vb) back first u = absurd u
unbegun states d past chain place number store (Err fault.DiskFault) (Some back) first u = record {
  opens = tt;
  moments = tt;
  moments_back =
      weaker (LeavesOpening (d ∷ past) chain place) (LeavesBeginning (d ∷ past) chain place number) (d ∷ past) (states back) (λ image l. inl l)
      (no_more (LeavesOpening (d ∷ past) chain place) (d ∷ past) (states store.disk) (states back) first u);
}
unbegun states d past chain place number store (Err fault.NoMemory) (Some back) first u = record {
  opens = tt;
  moments = tt;
  moments_back = no_more (LeavesOpening (d ∷ past) chain place) (d ∷ past) (states store.disk) (states back) first u;
}
unbegun states d past chain place number store (Err (fault.Full asked left)) (Some back) first u = absurd u
unbegun states d past chain place number store (Err (fault.Damaged at found expected)) (Some back) first u = absurd u
unbegun states d past chain place number store (Err (fault.Spent found)) (Some back) first u = absurd u
unbegun states d past chain place number store (Err fault.OtherChain) (Some back) first u = absurd u
unbegun states d past chain place number store (Err fault.DiskFault) None first u = absurd u
unbegun states d past chain place number store (Err (fault.Full asked left)) None first u = absurd u
unbegun states d past chain place number store (Err fault.NoMemory) None first u = absurd u
unbegun states d past chain place number store (Err (fault.Damaged at found expected)) None first u = absurd u
unbegun states d past chain place number store (Err (fault.Spent found)) None first u = absurd u
unbegun states d past chain place number store (Err fault.OtherChain) None first u = absurd u

finding : {D : Type 0} (states : D → List Device) (d : Device) (past : List Device) (chain : Chain) (place number : ℕ) (store : Shown D) (content : Content) (is_anew : Bool) (result : Result (ShownVb D) StoreFault) (back : Option D)
    → Finds states d.bytes chain place number store content is_anew → IsOwn chain place store.meta → Throughout (LeavesOpening (d ∷ past) chain place) (d ∷ past) (states store.disk)
    → ((c : Copy Content ℕ) → BeginsIn states store number content is_anew c → PutsFirst states (states store.disk) (begun c) result back) → Opening states d past chain place number store result back
finding states d past chain place number store content is_anew result back f own first puts = record {
  copy = f.copy;
  begins = f.begins;
  of_chain = sym f.on_store.chain_is ∙ own.chain_own;
  puts = puts f.copy f.on_store;
  opening = first;
}

-- a disk that tells no states
silently : {D : Type 0} (states : D → List Device) (P : List ℕ → Type 0) (now : List Device) → now ≡ [] → Throughout P [] now
silently states P now none = stays_put P [] now none (λ image left. absurd left)

comes_silent : {D : Type 0} (states : D → List Device) (chain : Chain) (place number : ℕ) (result : Result (ShownVb D) StoreFault) (back : Option D) → IfOk result (λ vb. states vb.store.disk ≡ []) × IfSome back (λ disk. states disk ≡ [])
    → IsComing states [] chain place number result back
comes_silent states chain place number (Ok vb) back s = record { opens = tt; moments = silently states (LeavesBeginning [] chain place number) (states vb.store.disk) s.0; moments_back = tt }
comes_silent states chain place number (Err why) (Some back) s = record { opens = tt; moments = tt; moments_back = silently states (LeavesRefused why [] chain place number) (states back) s.1 }
comes_silent states chain place number (Err why) None s = record { opens = tt; moments = tt; moments_back = tt }

pub opens_all : {D : Type 0} (states : D → List Device) (h : List Device) (chain : Chain) (place number : ℕ) (store : Shown D) (result : Result (ShownVb D) StoreFault) (back : Option D) → Opens states h chain place (Ok store) → IsOwn chain place store.meta
    → Throughout (LeavesOpening h chain place) h (states store.disk) → ((held : Held) → IsOpen states held store → OpensOn states held store number result back) → StaysSilent states (states store.disk) result back
    → IsComing states h chain place number result back
opens_all states [] chain place number store result back opened own first on silent = comes_silent states chain place number result back (silent (first.silent refl))
opens_all {D} states (d ∷ past) chain place number store result back opened own first on silent = go opened
  where
    made : IsMade states d.bytes chain place store → OpensOn states (first_held chain place) store number result back → IsComing states (d ∷ past) chain place number result back
    made m (inl b) =
        comes states d past chain place number store result back
        (finding states d past chain place number store b.content b.is_anew result back (finds_made states d.bytes chain place number store b.content b.is_anew m own b.from) own first b.puts)
    made m (inr u) = unbegun states d past chain place number store result back first u

    raised_one : (r : IsRaised states d.bytes chain place store) → OpensOn states (stores.raised r.held) store number result back → IsComing states (d ∷ past) chain place number result back
    raised_one r (inl b) =
        comes states d past chain place number store result back
        (finding states d past chain place number store b.content b.is_anew result back (finds_raised states d.bytes chain place number store b.content b.is_anew r own b.whole b.from) own first b.puts)
    raised_one r (inr u) = unbegun states d past chain place number store result back first u

    go : IsMade states d.bytes chain place store ⊎ IsRaised states d.bytes chain place store → IsComing states (d ∷ past) chain place number result back
    go (inl m) = made m (on (first_held chain place) m.is_open)
    go (inr r) = raised_one r (on (stores.raised r.held) r.is_open)

-- ---- the store wasn't opened

unopened_by : {D : Type 0} (states : D → List Device) (d : Device) (past : List Device) (chain : Chain) (place number : ℕ) (why : StoreFault) (back : Option D) → stores.IsRefused d.bytes chain place why
    → IfSome back (λ disk. Throughout (LeavesOpening (d ∷ past) chain place) (d ∷ past) (states disk)) → IsComing states (d ∷ past) chain place number (Err why) back
unopened_by states d past chain place number (fault.Full asked left) back refused first = absurd refused
unopened_by states d past chain place number fault.DiskFault None refused first = record { opens = tt; moments = tt; moments_back = tt }
unopened_by states d past chain place number fault.DiskFault (Some back) refused first = record {
  opens = tt;
  moments = tt;
  moments_back = weaker (LeavesOpening (d ∷ past) chain place) (LeavesBeginning (d ∷ past) chain place number) (d ∷ past) (states back) (λ image l. inl l) first;
}
unopened_by states d past chain place number fault.NoMemory back refused first = record { opens = tt; moments = tt; moments_back = first }
unopened_by states d past chain place number (fault.Damaged at found expected) back refused first = record { opens = refused; moments = tt; moments_back = first }
unopened_by states d past chain place number (fault.Spent found) back refused first = record { opens = refused; moments = tt; moments_back = first }
unopened_by states d past chain place number fault.OtherChain back refused first = record { opens = refused; moments = tt; moments_back = first }

none_told : {D : Type 0} (states : D → List Device) (chain : Chain) (place number : ℕ) (why : StoreFault) (back : Option D) → IfSome back (λ disk. Throughout (LeavesOpening [] chain place) [] (states disk)) → IsComing states [] chain place number (Err why) back
none_told states chain place number why None first = record { opens = tt; moments = tt; moments_back = tt }
none_told states chain place number why (Some back) first = record { opens = tt; moments = tt; moments_back = silently states (LeavesRefused why [] chain place number) (states back) (first.silent refl) }

pub unopened : {D : Type 0} (states : D → List Device) (h : List Device) (chain : Chain) (place number : ℕ) (why : StoreFault) (back : Option D) → Opens states h chain place (Err why)
    → IfSome back (λ disk. Throughout (LeavesOpening h chain place) h (states disk)) → IsComing states h chain place number (Err why) back
unopened states [] chain place number why back opened first = none_told states chain place number why back first
unopened states (d ∷ past) chain place number why back opened first = unopened_by states d past chain place number why back opened first
