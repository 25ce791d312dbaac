-- What was read goes on by a record.
use Rattle.std.specs.Prelude.{◌≡◌, Result, Ok, Err, IfErr, IsErrAnd, ℕ, ◌+◌, ◌≤◌, ◌<◌, ◌^◌, zero, suc, Bool, true, false, cond, List, [], ◌∷◌, ◌++◌, length, drop, Option, Some, None, refl}
use Rattle.std.specs.List.{AllByRecursion}
use Rattle.std.specs.Int.{w64, to_be_bytes}
use Rattle.std.specs.Ordering.{eq_by_cmp}
use Rattle.std.specs.FinMap as map
use Rattle.std.proofs.Common.{Bor, inl, inr, sym, ◌∙◌, ap, subst, arith, append_assoc, length-append, length-drop}
use Rattle.std.proofs.lemmas.List.{drop_at}
use Rattle.doc_model.specs.declared.key.DocKey.{DocKey}
use Rattle.doc_model.specs.declared.document.Item.{Item}
use Rattle.doc_model.specs.Keys.{key_cmp}
use Rattle.doc_model.proofs.Entries.{keys_total}
use Rattle.doc_model.proofs.Drops.{get_kept}
use Rattle.vb_log.specs.Stored.{IsStorable}
use Rattle.vb_log.specs.Contents.{item_bytes}
use Rattle.magma_store.specs.declared.fault.StoreFault.{StoreFault}
use Rattle.magma_store.specs.declared.fault.StoreFault.TheVariants as fault
use Rattle.magma_store.specs.declared.fields.FormFault.{FormFault}
use Rattle.magma_store.specs.declared.fields.FormFault.TheVariants as broken
use Rattle.magma_store.specs.declared.journal.TheConstants.{OPEN}
use Rattle.magma_store.specs.declared.loading.Loaded.{Loaded}
use Rattle.magma_store.specs.declared.meta.Meta.{Meta}
use Rattle.magma_store.specs.declared.spot.Spot.{Spot}
use Rattle.magma_store.specs.Changes.{Change, Sets, Writes, AreNumbers, IsChange, change_bytes}
use Rattle.magma_store.specs.Counting.{IsReadFault}
use Rattle.magma_store.specs.Forms.{Form, end, field, run, all_items, Breaks, IsBroken, made_form, change_form, next_form, IsUnsized, KeepForm, IsDamaged}
use Rattle.magma_store.specs.Held.{first_held, numbers_of, with_numbers, records_of, AreDropped}
use Rattle.magma_store.specs.Journal.{record_bytes, journal_bytes, IsNext}
use Rattle.magma_store.specs.Loading.{LeadIn, Tells, TellsAll, IsLoadedBy, IsLoaded, IsUnloaded}
use Rattle.magma_store.specs.declared.meta.Numbers.{Numbers}
use Rattle.magma_store.specs.declared.reading.Told.{Told}
use Rattle.magma_store.specs.declared.reading.Told.TheVariants as told
use Rattle.magma_store.specs.declared.spot.Placed.{Placed}
use Rattle.magma_store.specs.Reading.{IsTold, Tells as ReadsAs}
use Rattle.magma_store.specs.Spots.{AllLead, no_spot, spot_at, placed, with_spots}
use Rattle.magma_store.specs.Taking.{IsBegun, spots_left, Moves, TakesChange, BreaksWithin, IsReadTo, NextIs}
use Rattle.magma_store.proofs.Leading.{lead_none}
use Rattle.magma_store.proofs.Growing.{all_more, records_more, journal_more, journal_len, history_more, Follows, follows}

-- ---- the first record, and each other

tells_first : (bytes : List ℕ) (meta : Meta) → IsBegun bytes meta → Tells (bytes ∷ []) map.empty meta
tells_first bytes meta begun = record {
  chain = begun.chain;
  place = begun.place;
  changes = [];
  held = first_held begun.chain begun.place;
  history = record { chain_allowed = begun.making.allowed; place_there = begun.making.there; changes_allowed = tt; becomes = refl };
  records_are = ap (λ l. l ∷ []) begun.making.spelled;
  meta_is = begun.is;
  lead = lead_none (journal_bytes (bytes ∷ [])) (length (journal_bytes (bytes ∷ [])));
}

pub tells_more : (records : List (List ℕ)) (bytes : List ℕ) (spots : map.FinMap key_cmp Spot) (meta : Meta) (now : map.FinMap key_cmp Spot) (new : Meta) → Tells records spots meta
    → TakesChange (length (journal_bytes records) + 9) bytes spots meta now new → Tells (records ++ bytes ∷ []) now new
tells_more records bytes spots meta now new t takes =
    let f : Follows (length (journal_bytes records) + 9) takes.change t.held (journal_bytes records) now new = follows takes.change t.held (journal_bytes records) spots meta now new takes.allowed t.meta_is t.lead takes.moves in
    let same : journal_bytes (records ++ bytes ∷ []) ≡ journal_bytes records ++ record_bytes (change_bytes takes.change) = journal_more records bytes ∙ ap (λ l. journal_bytes records ++ record_bytes l) takes.spelled in
    record {
      chain = t.chain;
      place = t.place;
      changes = t.changes ++ takes.change ∷ [];
      held = f.held;
      history = history_more t.held f.held t.chain t.place t.changes takes.change t.history takes.allowed f.becomes;
      records_are = ap (λ l. l ++ bytes ∷ []) t.records_are ∙ ap (λ b. records_of t.chain t.place t.changes ++ b ∷ []) takes.spelled ∙ sym (records_more t.chain t.place t.changes takes.change);
      meta_is = f.meta_is;
      lead = subst (LeadIn now f.held.items) (sym same) f.lead;
    }

-- what was read before the record, beside how far
pub first_taken : (records : List (List ℕ)) (bytes : List ℕ) (old new : Loaded) (meta : Meta) → old.meta ≡ None → IsBegun bytes meta → new.spots ≡ old.spots → new.meta ≡ Some meta
    → new.filled ≡ old.filled + 9 + length bytes → IsLoadedBy records old → IsLoadedBy (records ++ bytes ∷ []) new
first_taken records bytes old new meta none begun spots is filled by =
    let before : (records ≡ []) × (old.spots ≡ map.empty) = subst (TellsAll records old.spots) none by.tells in
    record {
      filled = filled ∙ (let e = journal_len records bytes in let f = by.filled in omega arith);
      tells =
          subst (TellsAll (records ++ bytes ∷ []) new.spots) (sym is)
          (subst (λ s. Tells (records ++ bytes ∷ []) s meta) (sym (spots ∙ before.1))
          (subst (λ (rs : List (List ℕ)). Tells (rs ++ bytes ∷ []) map.empty meta) (sym before.0) (tells_first bytes meta begun)));
    }

pub change_taken : (records : List (List ℕ)) (bytes : List ℕ) (old new : Loaded) (meta now : Meta) → old.meta ≡ Some meta → TakesChange (old.filled + 9) bytes old.spots meta new.spots now → new.meta ≡ Some now
    → new.filled ≡ old.filled + 9 + length bytes → IsLoadedBy records old → IsLoadedBy (records ++ bytes ∷ []) new
change_taken records bytes old new meta now some takes is filled by =
    let before : Tells records old.spots meta = subst (TellsAll records old.spots) some by.tells in
    record {
      filled = filled ∙ (let e = journal_len records bytes in let f = by.filled in omega arith);
      tells =
          subst (TellsAll (records ++ bytes ∷ []) new.spots) (sym is)
          (tells_more records bytes old.spots meta new.spots now before (subst (λ n. TakesChange (n + 9) bytes old.spots meta new.spots now) by.filled takes));
    }

-- ---- the form of the next record

first_form : (records : List (List ℕ)) → records ≡ [] → next_form records ≡ made_form
first_form records is = ap next_form is

pub first_broken : (records : List (List ℕ)) (bytes : List ℕ) (old : Loaded) (why : FormFault) → old.meta ≡ None → IsLoadedBy records old → IsBroken made_form bytes why → IsBroken (next_form records) bytes why
first_broken records bytes old why none by b =
    let before : (records ≡ []) × (old.spots ≡ map.empty) = subst (TellsAll records old.spots) none by.tells in
    subst (λ form. IsBroken form bytes why) (sym (ap next_form before.0)) b

pub change_broken : (records : List (List ℕ)) (bytes : List ℕ) (old : Loaded) (meta : Meta) (why : FormFault) → old.meta ≡ Some meta → IsLoadedBy records old → IsBroken change_form bytes why → IsBroken (next_form records) bytes why
change_broken records bytes old meta why some by b =
    let before : Tells records old.spots meta = subst (TellsAll records old.spots) some by.tells in
    subst (λ form. IsBroken form bytes why) (sym (ap next_form before.records_are)) b

-- no more bytes are left where a form is broken than there are
left_within : (form : Form) (bytes : List ℕ) (left found expected : ℕ) → Breaks form bytes left found expected → left ≤ length bytes
left_within end bytes left found expected b = omega arith
left_within (field width test next) bytes left found expected (inl b) = omega arith
left_within (field width test next) bytes left found expected (inr (n, behind, at, inl b)) = omega arith
left_within (field width test next) bytes left found expected (inr (n, behind, at, inr b)) =
    let rest = left_within (next n) behind left found expected b.1 in
    omega (arith, ap length at.front, length-append (to_be_bytes width n) behind)
left_within (run size next) bytes left found expected (inl b) = omega arith
left_within (run size next) bytes left found expected (inr b) =
    let rest = left_within next (drop size bytes) left found expected b.1 in
    omega (arith, length-drop size bytes)
left_within (all_items read zero) bytes left found expected b = omega arith
left_within (all_items read (suc more)) bytes left found expected (inl b) = omega arith
left_within (all_items read (suc more)) bytes left found expected (inr (item, behind, at, b)) =
    let rest = left_within (all_items (read + 1) more) behind left found expected b in
    omega (arith, ap length at.front, length-append (item_bytes item) behind)

pub broken_within : (form : Form) (bytes : List ℕ) (why : FormFault) → IsBroken form bytes why → BreaksWithin (length bytes) why
broken_within form bytes (broken.Broken left found expected) b = left_within form bytes left found expected b
broken_within form bytes broken.NoMemory b = tt

-- ---- on whatever disk

all_insert : (spots : map.FinMap key_cmp Spot) (key : DocKey) (spot : Spot) → (spot ≡ no_spot → ⊥) → AllLead spots → AllLead (map.insert spots key spot)
all_insert spots key spot some lead q is = go (eq_by_cmp key_cmp q key) (sym (map.get-insert keys_total spots key spot q) ∙ is)
  where
    go : (b : Bool) → cond b (Some spot) (map.get spots q) ≡ Some no_spot → ⊥
    go true e = some (let f : spot ≡ no_spot = cc in f)
    go false e = lead q e

pub all_placed : (is : List Item) (at : ℕ) (spots : map.FinMap key_cmp Spot) → AllByRecursion IsStorable is → AllLead spots → AllLead (with_spots spots (placed at is))
all_placed [] at spots ok lead = lead
all_placed (i ∷ is) at spots ok lead =
    let spot = spot_at at i in
    let some : spot ≡ no_spot → ⊥ = λ (e : spot ≡ no_spot). absurd (let s : i.seqno ≡ 0 = ap (λ (x : Spot). x.seqno) e in let l = ok.0.later in omega arith) in
    all_placed is (at + length (item_bytes i)) (map.insert spots i.key spot) ok.1 (all_insert spots i.key spot some lead)

pub all_left : (is_anew : Bool) (dropped : List ℕ) (spots : map.FinMap key_cmp Spot) → AllLead spots → AllLead (spots_left is_anew dropped spots)
all_left true dropped spots lead q is = absurd (let e : None ≡ Some no_spot = sym (map.get-empty {X = Spot} key_cmp q) ∙ is in cc)
all_left false dropped spots lead q is = go _ (sym (get_kept spots _ q) ∙ is)
  where
    go : (b : Bool) → cond b (map.get spots q) None ≡ Some no_spot → ⊥
    go true e = lead q e
    go false e = absurd (cc)

pub change_sound : (at : ℕ) (bytes : List ℕ) (spots : map.FinMap key_cmp Spot) (meta : Meta) (now : map.FinMap key_cmp Spot) (new : Meta) → TakesChange at bytes spots meta now new → AllLead spots → AllLead now × AreNumbers (numbers_of new)
change_sound at bytes spots meta now new takes lead = go takes.change takes.allowed takes.moves
  where
    go : (c : Change) → IsChange c → Moves at c spots meta now new → AllLead now × AreNumbers (numbers_of new)
    go (Sets numbers) ok moves = (subst AllLead (sym moves.0) lead, subst (λ (m : Meta). AreNumbers (numbers_of m)) (sym moves.1) ok.0)
    go (Writes is_anew numbers tail items) ok moves = (
      subst AllLead (sym moves.0.2) (all_placed items _ (spots_left is_anew moves.0.0 spots) ok.4 (all_left is_anew moves.0.0 spots lead)),
      subst (λ (m : Meta). AreNumbers (numbers_of m)) (sym moves.1) ok.0,
    )

pub begun_sound : (bytes : List ℕ) (meta : Meta) → IsBegun bytes meta → AreNumbers (numbers_of meta)
begun_sound bytes meta begun = subst (λ (m : Meta). AreNumbers (numbers_of m)) (sym begun.is) (record { promised = omega arith; term = inl refl })

-- ---- a file

-- the first record of a file, and those behind it, keep their forms
keeps : (records : List (List ℕ)) (loaded : Loaded) → IsLoadedBy records loaded → KeepForm records
keeps records loaded by = go loaded.meta by.tells
  where
    go : (m : Option Meta) → TellsAll records loaded.spots m → KeepForm records
    go None tells = subst KeepForm (sym tells.0) tt
    go (Some meta) tells =
        subst KeepForm (sym tells.records_are)
        (tells.chain, tells.place, tells.history.chain_allowed, tells.history.place_there, refl, tells.changes, tells.history.changes_allowed, refl)

rest_is : (file : List ℕ) (loaded : Loaded) (to : IsReadTo file loaded) → drop loaded.filled file ≡ to.rest
rest_is file loaded to = ap (drop loaded.filled) to.parts ∙ drop_at (journal_bytes to.records) to.rest loaded.filled (sym to.by.filled)

-- nothing was read of it
pub read_none : (file : List ℕ) (loaded : Loaded) → loaded.meta ≡ None → loaded.spots ≡ map.empty → loaded.filled ≡ 0 → IsReadTo file loaded
read_none file loaded none empty filled =
    record { records = []; by = record { filled = filled; tells = subst (TellsAll [] loaded.spots) (sym none) (refl, empty) }; counted = tt; rest = file; parts = refl }

-- no record begins behind those that were read
pub read_all : (file : List ℕ) (loaded : Loaded) → IsReadTo file loaded → IsNext None (drop loaded.filled file) → IsLoaded file loaded
read_all file loaded to ends =
    (to.records, to.by, record { rest = to.rest; parts = to.parts; counted = to.counted; ends = subst (IsNext None) (rest_is file loaded to) ends })

-- one begins there
pub next_is : (file : List ℕ) (loaded : Loaded) (held : List ℕ) → IsReadTo file loaded → IsNext (Some held) (drop loaded.filled file) → NextIs file loaded held
next_is file loaded held to next = record { to = to; small = next.0; rest = next.1; here = sym (rest_is file loaded to) ∙ next.2 }

pub read_more : (file : List ℕ) (old new : Loaded) (held : List ℕ) → NextIs file old held → ((records : List (List ℕ)) → IsLoadedBy records old → IsLoadedBy (records ++ held ∷ []) new) → IsReadTo file new
read_more file old new held next on =
    let to = next.to in
    record {
      records = to.records ++ held ∷ [];
      by = on to.records to.by;
      counted = all_more (λ (l : List ℕ). length l < 2 ^ 64) to.records held to.counted next.small;
      rest = next.rest;
      parts =
          to.parts ∙ ap (λ l. journal_bytes to.records ++ l) next.here ∙ sym (append_assoc (journal_bytes to.records) (record_bytes held) next.rest)
          ∙ ap (λ l. l ++ next.rest) (sym (journal_more to.records held));
    }

-- what it holds breaks its form
pub read_broken : (file : List ℕ) (loaded : Loaded) (held : List ℕ) (left found expected : ℕ) (place : ℕ) → NextIs file loaded held → left ≤ length held → place + left ≡ loaded.filled + 9 + length held
    → ((records : List (List ℕ)) → IsLoadedBy records loaded → Breaks (next_form records) held left found expected) → IsDamaged file place found expected
read_broken file loaded held left found expected place next within at breaks =
    let to = next.to in
    let sized = to_be_bytes w64 (length held) in
    let behind : List ℕ = sized ++ (held ++ next.rest) in
    let here : to.rest ≡ OPEN ∷ behind = next.here ∙ ap (λ l. OPEN ∷ l) (append_assoc sized held next.rest) in
    let whole : length file ≡ loaded.filled + (9 + length held + length next.rest) =
    ap length to.parts ∙ length-append (journal_bytes to.records) to.rest ∙ ap (λ n. length (journal_bytes to.records) + n) (ap length here)
    ∙ (let f = to.by.filled in let a = length-append sized (held ++ next.rest) in let b = length-append held next.rest in omega arith) in
    record {
      records = to.records;
      rest = behind;
      parts = to.parts ∙ ap (λ l. journal_bytes to.records ++ l) here;
      counted = to.counted;
      kept = keeps to.records loaded to.by;
      more = λ none. cc;
      left = left + length next.rest;
      at = omega arith;
      breaks = inr (record { held = held; behind = next.rest; counted = next.small; front = refl; within = left; breaks = breaks to.records to.by; at = refl });
    }

-- its size does
pub read_unsized : (file : List ℕ) (loaded : Loaded) (why : StoreFault) → IsReadTo file loaded → IsReadFault why
    → ((place found expected : ℕ) → why ≡ fault.Damaged place found expected → (left : ℕ) × IsUnsized (drop loaded.filled file) left found expected × (place + left ≡ length file)) → IsUnloaded file why
read_unsized file loaded fault.DiskFault to reads told = tt
read_unsized file loaded (fault.Full needed free) to reads told = absurd reads
read_unsized file loaded (fault.Spent found) to reads told = absurd reads
read_unsized file loaded fault.OtherChain to reads told = absurd reads
read_unsized file loaded fault.NoMemory to reads told = tt
read_unsized file loaded (fault.Damaged place found expected) to reads told =
    let t = told place found expected refl in
    let u : IsUnsized to.rest t.0 found expected = subst (λ l. IsUnsized l t.0 found expected) (rest_is file loaded to) t.1 in
    record {
      records = to.records;
      rest = u.rest;
      parts = to.parts ∙ ap (λ l. journal_bytes to.records ++ l) u.gate;
      counted = to.counted;
      kept = keeps to.records loaded to.by;
      more = u.more;
      left = t.0;
      at = t.2;
      breaks = inl u.breaks;
    }

-- ---- what was read of a record is taken

told_sets : (at : ℕ) (bytes : List ℕ) (found : Numbers) (spots : map.FinMap key_cmp Spot) (meta : Meta) (now : map.FinMap key_cmp Spot) (new : Meta) → IsTold at bytes (told.Sets found) → now ≡ spots → new ≡ with_numbers found meta.tail meta
    → TakesChange at bytes spots meta now new
told_sets at bytes found spots meta now new t same is = go t.change t.allowed t.spelled t.tells
  where
    go : (c : Change) → IsChange c → bytes ≡ change_bytes c → ReadsAs at c (told.Sets found) → TakesChange at bytes spots meta now new
    go (Sets numbers) ok spelled tells =
        record { change = Sets numbers; allowed = ok; spelled = spelled; moves = (same, is ∙ ap (λ n. with_numbers n meta.tail meta) tells) }
    go (Writes is_anew numbers tail items) ok spelled tells = absurd tells

pub sets_taken : (at : ℕ) (bytes : List ℕ) (read : Told) (found : Numbers) (spots : map.FinMap key_cmp Spot) (meta : Meta) (now : map.FinMap key_cmp Spot) (new : Meta) → read ≡ told.Sets found → IsTold at bytes read → now ≡ spots
    → new ≡ with_numbers found meta.tail meta → TakesChange at bytes spots meta now new
sets_taken at bytes read found spots meta now new is t same e = told_sets at bytes found spots meta now new (subst (IsTold at bytes) is t) same e

-- spots are put so for a tail
pub record Places (tail : List ℕ) (is_anew : Bool) (places : List Placed) (spots now : map.FinMap key_cmp Spot) : Type 0 where
  pub dropped : List ℕ
  pub drops : AreDropped tail dropped
  pub is : now ≡ with_spots (spots_left is_anew dropped spots) places

told_writes : (at : ℕ) (bytes : List ℕ) (anew : Bool) (found : Numbers) (tail : Bor (List ℕ)) (places : List Placed) (spots : map.FinMap key_cmp Spot) (meta : Meta) (now : map.FinMap key_cmp Spot) (new : Meta)
    → IsTold at bytes (told.Writes anew found tail places) → Places tail.now anew places spots now → new ≡ with_numbers found tail.now meta → TakesChange at bytes spots meta now new
told_writes at bytes anew found tail places spots meta now new t p is = go t.change t.allowed t.spelled t.tells
  where
    go : (c : Change) → IsChange c → bytes ≡ change_bytes c → ReadsAs at c (told.Writes anew found tail places) → TakesChange at bytes spots meta now new
    go (Sets numbers) ok spelled tells = absurd tells
    go (Writes is_anew numbers bytes_of items) ok spelled tells = record {
      change = Writes is_anew numbers bytes_of items;
      allowed = ok;
      spelled = spelled;
      moves = (
        (
          p.dropped,
          subst (λ l. AreDropped l p.dropped) tells.2 p.drops,
          p.is ∙ ap (λ b. with_spots (spots_left b p.dropped spots) places) tells.0 ∙ ap (with_spots (spots_left is_anew p.dropped spots)) tells.3,
        ),
        is ∙ ap (λ n. with_numbers n tail.now meta) tells.1 ∙ ap (λ l. with_numbers numbers l meta) tells.2,
      );
    }

pub writes_taken : (at : ℕ) (bytes : List ℕ) (read : Told) (anew : Bool) (found : Numbers) (tail : Bor (List ℕ)) (places : List Placed) (spots : map.FinMap key_cmp Spot) (meta : Meta) (now : map.FinMap key_cmp Spot) (new : Meta)
    → read ≡ told.Writes anew found tail places → IsTold at bytes read → Places tail.now anew places spots now → new ≡ with_numbers found tail.now meta → TakesChange at bytes spots meta now new
writes_taken at bytes read anew found tail places spots meta now new is t p e = told_writes at bytes anew found tail places spots meta now new (subst (IsTold at bytes) is t) p e

-- what a `?` hands on
pub handed : {T E : Type 0} (r : Result T E) (why : E) (P : E → Type 0) → IsErrAnd r (λ y. y ≡ why) → P why → IfErr r P
handed (Ok x) why P h p = absurd h
handed (Err y) why P h p = subst P (sym h) p

-- no key of an empty map has room alone
pub none_lead : AllLead map.empty
none_lead q is = absurd (let e : None ≡ Some no_spot = sym (map.get-empty {X = Spot} key_cmp q) ∙ is in cc)
