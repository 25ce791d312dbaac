-- One record more behind those of a store.
use Rattle.std.specs.Prelude.{◌≡◌, ℕ, ◌+◌, List, [], ◌∷◌, ◌++◌, length, refl}
use Rattle.std.specs.List.{AllByRecursion}
use Rattle.std.specs.Int.{w64, to_be_bytes}
use Rattle.std.specs.FinMap as map
use Rattle.std.proofs.Common.{sym, ◌∙◌, ap, subst, arith, length-append}
use Rattle.std.proofs.lemmas.List.{append-nil, map-append}
use Rattle.std.proofs.lemmas.Grind.{flat_map-append}
use Rattle.doc_model.specs.Keys.{key_cmp}
use Rattle.durability_core.specs.declared.chain.Chain.{Chain}
use Rattle.magma_store.specs.declared.meta.Meta.{Meta}
use Rattle.magma_store.specs.declared.spot.Spot.{Spot}
use Rattle.magma_store.specs.Changes.{Change, Sets, Writes, IsChange, change_bytes}
use Rattle.magma_store.specs.Held.{Held, with_numbers, with_items, items_left, AreDropped, Becomes, BecomesBy, records_of, IsHistory}
use Rattle.magma_store.specs.Journal.{record_bytes, journal_bytes}
use Rattle.magma_store.specs.Loading.{LeadIn}
use Rattle.magma_store.specs.Taking.{Moves}
use Rattle.magma_store.proofs.Leading.{lead_more, lead_write}

becomes_more : (changes : List Change) (c : Change) (old mid new : Held) → BecomesBy changes old mid → Becomes c mid new → BecomesBy (changes ++ c ∷ []) old new
becomes_more [] c old mid new by one = (new, subst (λ h. Becomes c h new) by one, refl)
becomes_more (d ∷ ds) c old mid new by one = (by.0, by.1, becomes_more ds c by.0 mid new by.2 one)

pub all_more : {X : Type 0} (P : X → Type 0) (xs : List X) (x : X) → AllByRecursion P xs → P x → AllByRecursion P (xs ++ x ∷ [])
all_more P [] x all one = (one, tt)
all_more P (y ∷ xs) x all one = (all.0, all_more P xs x all.1 one)

pub records_more : (chain : Chain) (place : ℕ) (changes : List Change) (c : Change) → records_of chain place (changes ++ c ∷ []) ≡ records_of chain place changes ++ change_bytes c ∷ []
records_more chain place changes c = ap (λ (l : List (List ℕ)). Rattle.magma_store.specs.Changes.made_bytes chain place ∷ l) (map-append change_bytes changes (c ∷ []))

pub journal_more : (records : List (List ℕ)) (held : List ℕ) → journal_bytes (records ++ held ∷ []) ≡ journal_bytes records ++ record_bytes held
journal_more records held = flat_map-append record_bytes records (held ∷ []) ∙ ap (λ l. journal_bytes records ++ l) (append-nil (record_bytes held))

pub record_len : (held : List ℕ) → length (record_bytes held) ≡ 9 + length held
record_len held = let e = length-append (to_be_bytes w64 (length held)) held in omega arith

pub journal_len : (records : List (List ℕ)) (held : List ℕ) → length (journal_bytes (records ++ held ∷ [])) ≡ length (journal_bytes records) + 9 + length held
journal_len records held =
    ap length (journal_more records held) ∙ length-append (journal_bytes records) (record_bytes held) ∙ (let e = record_len held in omega arith)

pub history_more : (old new : Held) (chain : Chain) (place : ℕ) (changes : List Change) (c : Change) → IsHistory old chain place changes → IsChange c → Becomes c old new → IsHistory new chain place (changes ++ c ∷ [])
history_more old new chain place changes c h ok one = record {
  chain_allowed = h.chain_allowed;
  place_there = h.place_there;
  changes_allowed = all_more IsChange changes c h.changes_allowed ok;
  becomes = becomes_more changes c (Rattle.magma_store.specs.Held.first_held chain place) old new h.becomes one;
}

-- ---- what a change makes of a store and of what is kept of it

-- a store after a change, which the spots and what stands beside the items follow
pub record Follows (at : ℕ) (change : Change) (old : Held) (journal : List ℕ) (now : map.FinMap key_cmp Spot) (new : Meta) : Type 0 where
  pub held : Held
  pub becomes : Becomes change old held
  pub meta_is : new ≡ held.meta
  pub lead : LeadIn now held.items (journal ++ record_bytes (change_bytes change))

pub follows : (change : Change) (old : Held) (journal : List ℕ) (spots : map.FinMap key_cmp Spot) (meta : Meta) (now : map.FinMap key_cmp Spot) (new : Meta) → IsChange change → meta ≡ old.meta → LeadIn spots old.items journal
    → Moves (length journal + 9) change spots meta now new → Follows (length journal + 9) change old journal now new
follows (Sets numbers) old journal spots meta now new ok is lead moves = record {
  held = record { items = old.items; meta = with_numbers numbers old.meta.tail old.meta };
  becomes = refl;
  meta_is = moves.1 ∙ ap (λ (m : Meta). with_numbers numbers m.tail m) is;
  lead =
      subst (λ s. LeadIn s old.items (journal ++ record_bytes (change_bytes (Sets numbers)))) (sym moves.0)
      (lead_more journal (record_bytes (change_bytes (Sets numbers))) (length (journal ++ record_bytes (change_bytes (Sets numbers)))) spots old.items (omega (arith, length-append journal (record_bytes (change_bytes (Sets numbers))))) lead);
}
follows (Writes is_anew numbers tail items) old journal spots meta now new ok is lead moves = record {
  held = record { items = with_items (items_left is_anew moves.0.0 old.items) items; meta = with_numbers numbers tail old.meta };
  becomes = (moves.0.0, moves.0.1, refl);
  meta_is = moves.1 ∙ ap (λ (m : Meta). with_numbers numbers tail m) is;
  lead =
      subst (λ s. LeadIn s (with_items (items_left is_anew moves.0.0 old.items) items) (journal ++ record_bytes (change_bytes (Writes is_anew numbers tail items)))) (sym moves.0.2)
      (lead_write journal is_anew numbers tail items moves.0.0 spots old.items ok.4 lead);
}
