-- The state of a manifest in bytes: its text and the ids that were ever dropped.
use Rattle.std.specs.Prelude.{◌≡◌, ℕ, ◌+◌, ◌*◌, ◌≤◌, ◌<◌, ◌^◌, nat_eq, nat_lt, nat_le, Bool, true, ◌&&◌, not, List, [], ◌∷◌, ◌++◌, length, drop, IsTrue, Option, MatchOption}
use Rattle.std.specs.List.{list_all, list_any, flat_map}
use Rattle.std.specs.Int.{w32, to_be_bytes}
use Rattle.manifest_rules.specs.declared.state.StateFault.{StateFault}
use Rattle.manifest_rules.specs.declared.state.StateFault.TheVariants as fault
use Rattle.manifest_rules.specs.declared.types.TheConstants.{DROPPED_LIMIT}
use Rattle.doc_model.specs.declared.limits.TheConstants.{MANIFEST_LIMIT}
use Rattle.manifest_rules.specs.Catalog.{Catalog, scope_ids, collection_ids, numbers_fit}
use Rattle.manifest_rules.specs.Text.{text_of}
use Rattle.manifest_rules.specs.Rules.{is_small, obeys_alone}

-- ids in rising order
abbrev pub are_rising : List ℕ → Bool
are_rising [] = true
are_rising (x ∷ []) = true
are_rising (x ∷ y ∷ more) = nat_lt x y && are_rising (y ∷ more)

-- a manifest that obeys its own rules
abbrev pub is_sound : Catalog → Bool
is_sound m = numbers_fit m.uid m.scopes && is_small m && obeys_alone m.scopes

-- ids that may have been dropped where these are there: they rise, they aren't too many, and none is there
abbrev pub are_gone : List ℕ → List ℕ → Bool
are_gone ids gone =
    list_all (λ id. nat_lt id (2 ^ 32)) gone && are_rising gone && nat_le (length gone) DROPPED_LIMIT && not (list_any (λ id. list_any (nat_eq id) gone) ids)

-- a manifest that may be kept: it obeys its own rules, and ids were dropped that may have been
abbrev pub is_kept : Catalog → Bool
is_kept m = is_sound m && are_gone (scope_ids m.scopes) m.dropped_scopes && are_gone (collection_ids m.scopes) m.dropped_collections

-- a count and as many ids, of four bytes each
abbrev pub ids_bytes : List ℕ → List ℕ
ids_bytes ids = to_be_bytes w32 (length ids) ++ flat_map (to_be_bytes w32) ids

-- the text behind its length
abbrev pub text_bytes : Catalog → List ℕ
text_bytes m = to_be_bytes w32 (length (text_of m)) ++ text_of m

-- the state: the text, the scope ids ever dropped, the collection ids ever dropped
abbrev pub state_of : Catalog → List ℕ
state_of m = text_bytes m ++ ids_bytes m.dropped_scopes ++ ids_bytes m.dropped_collections

-- ---- reading

-- a manifest was read: its state is this many bytes at the front
pub record IsAt (bytes : List ℕ) (m : Catalog) (size : ℕ) : Type 0 where
  pub kept : IsTrue (is_kept m)
  pub front : bytes ≡ state_of m ++ drop size bytes
  pub len : size ≡ length (state_of m)

-- the manifest that obeys its own rules and has this text, with no dropped ids, where there is one
abbrev pub SoundText : List ℕ → Option Catalog → Type 0
SoundText text found =
    MatchOption found ((m : Catalog) → IsTrue (is_sound m) → text ≡ text_of m → ⊥)
    (λ m. IsTrue (is_sound m) × (text_of m ≡ text) × (m.dropped_scopes ≡ []) × (m.dropped_collections ≡ []))

-- a text of such a manifest is this many bytes at the front
pub record TextAt (bytes : List ℕ) (m : Catalog) (size : ℕ) : Type 0 where
  pub sound : IsTrue (is_sound m)
  pub front : bytes ≡ text_bytes m ++ drop size bytes
  pub len : size ≡ length (text_bytes m)

-- ids that may have been dropped where others are there are this many bytes at the front, behind their count
pub record IdsAt (present bytes gone : List ℕ) (size : ℕ) : Type 0 where
  pub may : IsTrue (are_gone present gone)
  pub front : bytes ≡ ids_bytes gone ++ drop size bytes
  pub len : size ≡ length (ids_bytes gone)

-- no number up to a limit stands at the front, in four bytes
abbrev pub NoCount : ℕ → List ℕ → Type 0
NoCount limit bytes = (count : ℕ) (rest : List ℕ) → count ≤ limit → bytes ≡ to_be_bytes w32 count ++ rest → ⊥

-- a number up to a limit stands at the front, and then the rest
pub record CountAt (limit : ℕ) (bytes : List ℕ) (count : ℕ) (rest : List ℕ) : Type 0 where
  pub few : count ≤ limit
  pub front : bytes ≡ to_be_bytes w32 count ++ rest

-- no id stands at the front that may have been dropped with the ones before it
abbrev pub NoId : List ℕ → List ℕ → List ℕ → Type 0
NoId present before bytes = (id : ℕ) (more : List ℕ) → IsTrue (are_gone present (before ++ id ∷ [])) → bytes ≡ to_be_bytes w32 id ++ more → ⊥

-- such an id stands at the front, and then the rest
pub record IdAt (present before bytes : List ℕ) (id : ℕ) (rest : List ℕ) : Type 0 where
  pub may : IsTrue (are_gone present (before ++ id ∷ []))
  pub front : bytes ≡ to_be_bytes w32 id ++ rest

-- A text breaks off at an offset. Its fields are its length and itself: no length that a text may have stands at the
-- front, or behind it no text of that length, of a manifest that obeys its own rules.
pub data TextBreaks (bytes : List ℕ) (offset : ℕ) : Type 0 where
  at_length : offset ≡ 0 → NoCount MANIFEST_LIMIT bytes → TextBreaks bytes offset
  at_text : (count : ℕ) (rest : List ℕ) → offset ≡ 4 → count ≤ MANIFEST_LIMIT → bytes ≡ to_be_bytes w32 count ++ rest
      → ((m : Catalog) (more : List ℕ) → IsTrue (is_sound m) → length (text_of m) ≡ count → rest ≡ text_of m ++ more → ⊥) → TextBreaks bytes offset

-- Ids that may have been dropped where others are there break off at an offset. Their fields are their count and each of
-- them: no count that they may have stands at the front, or behind it fewer ids than that, and then no further one.
pub data IdsBreak (present bytes : List ℕ) (offset : ℕ) : Type 0 where
  at_count : offset ≡ 0 → NoCount DROPPED_LIMIT bytes → IdsBreak present bytes offset
  at_id : (count : ℕ) (gone rest : List ℕ) → offset ≡ 4 + 4 * length gone → count ≤ DROPPED_LIMIT → length gone < count
      → bytes ≡ to_be_bytes w32 count ++ flat_map (to_be_bytes w32) gone ++ rest → IsTrue (are_gone present gone)
      → NoId present gone rest → IdsBreak present bytes offset

-- why no text was read: it breaks off at the offset
abbrev pub IsTextFault : List ℕ → StateFault → Type 0
IsTextFault bytes (fault.Bad offset) = TextBreaks bytes offset
IsTextFault bytes fault.NoMemory = Unit {0}

-- why no ids were read behind so many bytes: they break off at the place, which counts from the beginning of all bytes
abbrev pub IsIdsFault : List ℕ → List ℕ → ℕ → StateFault → Type 0
IsIdsFault present bytes start (fault.Bad place) = (offset : ℕ) × (place ≡ start + offset) × IdsBreak present (drop start bytes) offset
IsIdsFault present bytes start fault.NoMemory = Unit {0}

-- The bytes break the layout at a place: what stands before it is as it is in the state of a kept manifest, and the field
-- that has to begin there doesn't.
pub data Breaks (bytes : List ℕ) (place : ℕ) : Type 0 where
  in_text : TextBreaks bytes place → Breaks bytes place
  in_scopes : (m : Catalog) (text offset : ℕ) → place ≡ text + offset → TextAt bytes m text → IdsBreak (scope_ids m.scopes) (drop text bytes) offset → Breaks bytes place
  in_collections : (m : Catalog) (text size offset : ℕ) (gone : List ℕ) → place ≡ text + size + offset → TextAt bytes m text
      → IdsAt (scope_ids m.scopes) (drop text bytes) gone size → IdsBreak (collection_ids m.scopes) (drop (text + size) bytes) offset → Breaks bytes place

-- why no manifest was read: the bytes are the front of no kept manifest's state, and break the layout at the place
abbrev pub IsNoState : List ℕ → StateFault → Type 0
IsNoState bytes (fault.Bad place) = Breaks bytes place × ((m : Catalog) (rest : List ℕ) → IsTrue (is_kept m) → bytes ≡ state_of m ++ rest → ⊥)
IsNoState bytes fault.NoMemory = Unit {0}
