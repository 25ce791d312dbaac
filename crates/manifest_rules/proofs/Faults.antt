-- Where bytes break the layout of a state.
use Rattle.std.proofs.Common.{◌≡◌, ℕ, ◌+◌, ◌*◌, ◌^◌, ◌<◌, ◌≤◌, Bool, true, false, nat_eq, nat_lt, nat_le, ◌&&◌, ◌||◌, not, List, [], ◌∷◌, ◌++◌, length, drop, ◌⊎◌, inl, inr, Some, None, refl, sym, ap, ap₂, ◌∙◌, subst, arith, append_assoc, append-nil, true≢false, le-leb, eq-eqb}
use Rattle.std.proofs.lemmas.Bool.{and_parts, and_from, or_parts, leb-true, ltb-true, eqb-true, cases_lt}
use Rattle.std.proofs.lemmas.List.{length-append, length-drop, drop-drop}
use Rattle.std.proofs.lemmas.List.Folds.{list_all-append, list_any-append}
use Rattle.std.proofs.lemmas.List.Sorted.{list_any-IsPermutation}
use Rattle.std.specs.Int.{w32, to_be_bytes}
use Rattle.std.specs.List.Sorted.{IsPermutation}
use Rattle.kv_edge.specs.Fields.{IsBytes, number_at, bytes_at}
use Rattle.kv_edge.proofs.Fields.{wide32, number_takes, number_again, bytes_take, bytes_again}
use Rattle.manifest_rules.specs.declared.state.StateFault.{StateFault}
use Rattle.manifest_rules.specs.declared.state.StateFault.TheVariants as fault
use Rattle.manifest_rules.specs.declared.types.TheConstants.{DROPPED_LIMIT}
use Rattle.doc_model.specs.declared.limits.TheConstants.{MANIFEST_LIMIT}
use Rattle.manifest_rules.specs.Catalog.{Catalog, scope_ids, collection_ids}
use Rattle.manifest_rules.specs.Text.{text_of}
use Rattle.manifest_rules.specs.State.{are_rising, is_sound, are_gone, is_kept, ids_bytes, text_bytes, state_of, IsAt, TextAt, CountAt, NoId, IdAt, IdsAt, TextBreaks, at_length, at_text, IdsBreak, at_count, at_id, IsTextFault, IsIdsFault, Breaks, in_text, in_scopes, in_collections, IsNoState}
use Rattle.manifest_rules.proofs.Gone.{among, share, none_of, from_none, or_none}
use Rattle.manifest_rules.proofs.Runs.{gone_parts, kept_parts}
use Rattle.manifest_rules.proofs.ReadBack.{sound_parts}
use Rattle.manifest_rules.proofs.States.{front_and_rest, pair_is, sound_short, same_text, flat, below, flat-length, below-push, gone_short, same_ids, parted, kept_sound}

-- ---- counts

pub count_found : (limit : ℕ) (bytes : List ℕ) (count : ℕ) (rest : List ℕ) → IsBytes bytes → number_at w32 bytes ≡ Some (count, rest) → count ≤ limit → CountAt limit bytes count rest
count_found limit bytes count rest fits found few = record { few = few; front = (number_takes w32 (2 ^ 32) wide32 bytes count rest fits found).0.parts }

-- two numbers at one front are one
same_number : (a b : ℕ) (r s : List ℕ) → a < 2 ^ 32 → b < 2 ^ 32 → to_be_bytes w32 a ++ r ≡ to_be_bytes w32 b ++ s → (a ≡ b) × (r ≡ s)
same_number a b r s low high e = pair_is a b r s (sym (number_again w32 (2 ^ 32) wide32 a r low) ∙ ap (number_at w32) e ∙ number_again w32 (2 ^ 32) wide32 b s high)

-- ---- text

pub text_cut : (bytes rest : List ℕ) (count : ℕ) → CountAt MANIFEST_LIMIT bytes count rest → bytes_at count rest ≡ None → TextBreaks bytes 4
text_cut bytes rest count at none =
    at_text count rest refl at.few at.front (λ m more h len e.
    let clash : None ≡ Some (let q : List ℕ × List ℕ = (text_of m, more) in q) = sym none ∙ ap₂ bytes_at (sym len) e ∙ bytes_again (text_of m) more in
    absurd (cc))

pub text_other : (bytes rest text after : List ℕ) (count : ℕ) → CountAt MANIFEST_LIMIT bytes count rest → bytes_at count rest ≡ Some (text, after) → ((m : Catalog) → is_sound m ≡ true → text ≡ text_of m → ⊥) → TextBreaks bytes 4
text_other bytes rest text after count at field none =
    at_text count rest refl at.few at.front (λ m more h len e.
    none m h (pair_is text (text_of m) after more (sym field ∙ ap₂ bytes_at (sym len) e ∙ bytes_again (text_of m) more)).0)

pub text_found : (bytes rest text after : List ℕ) (count : ℕ) (m : Catalog) → IsBytes bytes → CountAt MANIFEST_LIMIT bytes count rest → bytes_at count rest ≡ Some (text, after) → is_sound m ≡ true → text_of m ≡ text → TextAt bytes m (4 + count)
text_found bytes rest text after count m fits at field sound is =
    let number = ap (number_at w32) at.front ∙ number_again w32 (2 ^ 32) wide32 count rest (let few = at.few in omega arith) in
    let t = bytes_take count rest text after (number_takes w32 (2 ^ 32) wide32 bytes count rest fits number).0.rest_fits field in
    let long : count ≡ length (text_of m) = sym t.1 ∙ ap length (sym is) in
    let body : rest ≡ text_of m ++ after = t.0.parts ∙ ap (λ l. l ++ after) (sym is) in
    let whole : bytes ≡ text_bytes m ++ after = at.front ∙ ap₂ (λ n l. to_be_bytes w32 n ++ l) long body ∙ sym (append_assoc (to_be_bytes w32 (length (text_of m))) (text_of m) after) in
    let size : 4 + count ≡ length (text_bytes m) = (let all = length-append (to_be_bytes w32 (length (text_of m))) (text_of m) in let front = wide32.len (length (text_of m)) in omega (arith, all, front, long)) in
    record { sound = sound; front = front_and_rest bytes (text_bytes m) after (4 + count) whole size; len = size }

-- no text of a manifest that obeys its own rules stands at the front
abbrev NoText : List ℕ → Type 0
NoText bytes = (m : Catalog) (rest : List ℕ) → is_sound m ≡ true → bytes ≡ text_bytes m ++ rest → ⊥

sound_limit : (m : Catalog) → is_sound m ≡ true → length (text_of m) ≤ MANIFEST_LIMIT
sound_limit m h = let sound = sound_parts m h in sound.short

text_none : (bytes : List ℕ) (offset : ℕ) → TextBreaks bytes offset → NoText bytes
text_none bytes offset (at_length place none) m rest h e =
    none (length (text_of m)) (text_of m ++ rest) (sound_limit m h) (e ∙ append_assoc (to_be_bytes w32 (length (text_of m))) (text_of m) rest)
text_none bytes offset (at_text count after place few front none) m rest h e =
    let same = same_number count (length (text_of m)) after (text_of m ++ rest) (omega arith) (sound_short m h) (sym front ∙ e ∙ append_assoc (to_be_bytes w32 (length (text_of m))) (text_of m) rest) in
    none m rest h (sym same.0) same.1

text_place : (bytes : List ℕ) (first second : ℕ) → TextBreaks bytes first → TextBreaks bytes second → first ≡ second
text_place bytes first second (at_length p none) (at_length q also) = p ∙ sym q
text_place bytes first second (at_length p none) (at_text count rest q few front also) = absurd (none count rest few front)
text_place bytes first second (at_text count rest p few front none) (at_length q also) = absurd (also count rest few front)
text_place bytes first second (at_text count rest p few front none) (at_text number after q low head also) = p ∙ sym q

-- ---- ids that may have been dropped

gone_whole : (present gone : List ℕ) → below gone ≡ true → are_rising gone ≡ true → length gone ≤ DROPPED_LIMIT → share present gone ≡ false → are_gone present gone ≡ true
gone_whole present gone fits rising few apart = and_from _ _ (and_from _ _ (and_from _ _ fits rising) (le-leb (length gone) DROPPED_LIMIT few)) (ap not apart)

rising_front : (a b : List ℕ) → are_rising (a ++ b) ≡ true → are_rising a ≡ true
rising_front [] b h = refl
rising_front (x ∷ []) b h = refl
rising_front (x ∷ y ∷ a) b h = let p = and_parts (nat_lt x y) (are_rising (y ∷ a ++ b)) h in and_from (nat_lt x y) (are_rising (y ∷ a)) p.0 (rising_front (y ∷ a) b p.1)

share_front : (present a b : List ℕ) → share present (a ++ b) ≡ false → share present a ≡ false
share_front present a b h =
    from_none (λ id. among id a) present (λ x here. (or_parts (among x a) (among x b) (sym (list_any-append (nat_eq x) a b) ∙ none_of (λ id. among id (a ++ b)) present h x here)).0)

-- ids that may have been dropped may have been so without the last ones
gone_front : (present a b : List ℕ) → are_gone present (a ++ b) ≡ true → are_gone present a ≡ true
gone_front present a b h =
    let parts = gone_parts present (a ++ b) h in
    let few = leb-true (length (a ++ b)) DROPPED_LIMIT parts.few in
    gone_whole present a (and_parts (below a) (below b) (sym (list_all-append (λ id. nat_lt id (2 ^ 32)) a b) ∙ parts.fits)).0 (rising_front a b parts.rising)
    (omega (arith, few, length-append a b)) (share_front present a b parts.none)

-- each of them fits four bytes
id_fits : (present before after : List ℕ) (id : ℕ) → are_gone present (before ++ id ∷ after) ≡ true → id < 2 ^ 32
id_fits present before after id h =
    let parts = gone_parts present (before ++ id ∷ after) h in
    let rest = and_parts (below before) (below (id ∷ after)) (sym (list_all-append (λ k. nat_lt k (2 ^ 32)) before (id ∷ after)) ∙ parts.fits) in
    ltb-true id (2 ^ 32) (and_parts (nat_lt id (2 ^ 32)) (below after) rest.1).0

among_last : (id : ℕ) (before : List ℕ) → among id (before ++ id ∷ []) ≡ true
among_last id before = list_any-append (nat_eq id) before (id ∷ []) ∙ ap (λ b. among id before || (b || false)) (eq-eqb id id refl) ∙ always (among id before)
  where
    always : (a : Bool) → (a || (true || false)) ≡ true
    always true = refl
    always false = refl

share_push : (present gone : List ℕ) (id : ℕ) → share present gone ≡ false → among id present ≡ false → share present (gone ++ id ∷ []) ≡ false
share_push present gone id apart none =
    from_none (λ k. among k (gone ++ id ∷ [])) present (λ x here.
    list_any-append (nat_eq x) gone (id ∷ []) ∙ or_none (among x gone) (nat_eq x id || false) (none_of (λ k. among k gone) present apart x here) (either x here (nat_eq x id) refl))
  where
    either : (x : ℕ) → among x present ≡ true → (b : Bool) → nat_eq x id ≡ b → (b || false) ≡ false
    either x here true e = absurd (true≢false (sym here ∙ ap (λ k. among k present) (eqb-true x id e) ∙ none))
    either x here false e = refl

-- ---- the next id

pub id_refused : (present before bytes : List ℕ) (id : ℕ) (rest : List ℕ) → number_at w32 bytes ≡ Some (id, rest) → (are_rising (before ++ id ∷ []) ≡ false) ⊎ (among id present ≡ true) → NoId present before bytes
id_refused present before bytes id rest found bad other more h e =
    let p = pair_is id other rest more (sym found ∙ ap (number_at w32) e ∙ number_again w32 (2 ^ 32) wide32 other more (id_fits present before [] other h)) in
    let parts = gone_parts present (before ++ other ∷ []) h in
    elim bad [
      | inl falls ↦ true≢false (sym parts.rising ∙ ap (λ k. are_rising (before ++ k ∷ [])) (sym p.0) ∙ falls)
      | inr there ↦ true≢false (sym (among_last other before) ∙ none_of (λ k. among k (before ++ other ∷ [])) present parts.none other (subst (λ k. among k present ≡ true) p.0 there))
    ]

pub id_found : (present before bytes : List ℕ) (id : ℕ) (rest : List ℕ) → IsBytes bytes → number_at w32 bytes ≡ Some (id, rest) → are_gone present before ≡ true → length before < DROPPED_LIMIT
    → are_rising (before ++ id ∷ []) ≡ true → among id present ≡ false → IdAt present before bytes id rest
id_found present before bytes id rest fits found may few rising none =
    let t = number_takes w32 (2 ^ 32) wide32 bytes id rest fits found in
    let parts = gone_parts present before may in
    record {
      may = gone_whole present (before ++ id ∷ []) (below-push before id parts.fits t.1) rising (omega (arith, length-append before (id ∷ []))) (share_push present before id parts.none none);
      front = t.0.parts;
    }

-- ---- ids one after another

-- ids were read behind their count, as far as to what is left
pub record IdsRead (present bytes : List ℕ) (count : ℕ) (ids left : List ℕ) : Type 0 where
  pub few : count ≤ DROPPED_LIMIT
  pub whole : bytes ≡ to_be_bytes w32 count ++ flat ids ++ left
  pub may : are_gone present ids ≡ true

pub ids_begin : (present bytes rest : List ℕ) (count : ℕ) → CountAt DROPPED_LIMIT bytes count rest → IdsRead present bytes count [] rest
ids_begin present bytes rest count at = record {
  few = at.few;
  whole = at.front ∙ ap (λ l. l ++ rest) (sym (append-nil (to_be_bytes w32 count)));
  may = gone_whole present [] refl refl (omega arith) (from_none (λ k. among k []) present (λ x here. refl));
}

-- ids may have been dropped where the same others are there in another order
same_gone : (present sorted gone : List ℕ) → IsPermutation present sorted → are_gone present gone ≡ are_gone sorted gone
same_gone present sorted gone same = ap (λ b. below gone && are_rising gone && nat_le (length gone) DROPPED_LIMIT && not b) (list_any-IsPermutation (λ id. among id gone) present sorted same)

pub ids_break : (present sorted bytes ids left : List ℕ) (count : ℕ) → IsPermutation present sorted → IdsRead sorted bytes count ids left → length ids < count → NoId sorted ids left → IdsBreak present bytes (4 + 4 * length ids)
ids_break present sorted bytes ids left count same so less none =
    at_id count ids left refl so.few less so.whole (same_gone present sorted ids same ∙ so.may) (λ id more h. none id more (sym (same_gone present sorted (ids ++ id ∷ []) same) ∙ h))

pub ids_all : (present sorted bytes ids left : List ℕ) (count : ℕ) → IsPermutation present sorted → IdsRead sorted bytes count ids left → length ids ≡ count → IdsAt present bytes ids (4 + 4 * count)
ids_all present sorted bytes ids left count same so all =
    let whole : bytes ≡ ids_bytes ids ++ left = so.whole ∙ ap (λ n. to_be_bytes w32 n ++ flat ids ++ left) (sym all) in
    let size : 4 + 4 * count ≡ length (ids_bytes ids) = (let total = length-append (to_be_bytes w32 (length ids)) (flat ids) in let front = wide32.len (length ids) in let wide = flat-length ids in omega (arith, total, front, wide, all)) in
    record { may = same_gone present sorted ids same ∙ so.may; front = front_and_rest bytes (ids_bytes ids) left (4 + 4 * count) whole size; len = size }

-- ---- ids break at one place

-- where more ids can be read than some, one can be read behind these
further : (present done few many r s : List ℕ) → flat few ++ r ≡ flat many ++ s → are_gone present (done ++ few) ≡ true → are_gone present (done ++ many) ≡ true → length few < length many → NoId present (done ++ few) r → ⊥
further present done [] [] r s e h k less none = omega arith
further present done (x ∷ xs) [] r s e h k less none = omega arith
further present done [] (y ∷ ys) r s e h k less none =
    let is : (done ++ []) ++ y ∷ [] ++ ys ≡ done ++ y ∷ ys = ap (λ l. l ++ y ∷ [] ++ ys) (append-nil done) ∙ append_assoc done (y ∷ []) ys in
    none y (flat ys ++ s) (gone_front present ((done ++ []) ++ y ∷ []) ys (ap (are_gone present) is ∙ k)) (e ∙ append_assoc (to_be_bytes w32 y) (flat ys) s)
further present done (x ∷ xs) (y ∷ ys) r s e h k less none =
    let same = same_number x y (flat xs ++ r) (flat ys ++ s) (id_fits present done xs x h) (id_fits present done ys y k) (sym (append_assoc (to_be_bytes w32 x) (flat xs) r) ∙ e ∙ append_assoc (to_be_bytes w32 y) (flat ys) s) in
    let shorter : length xs < length ys = omega arith in
    further present (done ++ x ∷ []) xs ys r s same.1 (ap (are_gone present) (append_assoc done (x ∷ []) xs) ∙ h)
    (ap (are_gone present) (append_assoc done (x ∷ []) ys ∙ ap (λ v. done ++ v ∷ ys) same.0) ∙ k) shorter (subst (λ l. NoId present l r) (sym (append_assoc done (x ∷ []) xs)) none)

-- no ids that may have been dropped where others are there stand at the front
abbrev NoIds : List ℕ → List ℕ → Type 0
NoIds present bytes = (gone rest : List ℕ) → are_gone present gone ≡ true → bytes ≡ ids_bytes gone ++ rest → ⊥

ids_none : (present bytes : List ℕ) (offset : ℕ) → IdsBreak present bytes offset → NoIds present bytes
ids_none present bytes offset (at_count p none) gone rest h e =
    none (length gone) (flat gone ++ rest) (leb-true (length gone) DROPPED_LIMIT (gone_parts present gone h).few) (e ∙ append_assoc (to_be_bytes w32 (length gone)) (flat gone) rest)
ids_none present bytes offset (at_id count before after p few less front may none) gone rest h e =
    let same = same_number count (length gone) (flat before ++ after) (flat gone ++ rest) (omega arith) (gone_short present gone h)
    (sym (append_assoc (to_be_bytes w32 count) (flat before) after) ∙ sym front ∙ e ∙ append_assoc (to_be_bytes w32 (length gone)) (flat gone) rest) in
    further present [] before gone after rest same.1 may h (omega (arith, less, same.0)) none

ids_place : (present bytes : List ℕ) (first second : ℕ) → IdsBreak present bytes first → IdsBreak present bytes second → first ≡ second
ids_place present bytes first second (at_count p none) (at_count q also) = p ∙ sym q
ids_place present bytes first second (at_count p none) (at_id count gone rest q few less front may also) = absurd (none count (flat gone ++ rest) few (front ∙ append_assoc (to_be_bytes w32 count) (flat gone) rest))
ids_place present bytes first second (at_id count gone rest p few less front may none) (at_count q also) = absurd (also count (flat gone ++ rest) few (front ∙ append_assoc (to_be_bytes w32 count) (flat gone) rest))
ids_place present bytes first second (at_id count gone rest p few less front may none) (at_id number others after q low fewer head might also) =
    let same = same_number count number (flat gone ++ rest) (flat others ++ after) (omega arith) (omega arith)
    (sym (append_assoc (to_be_bytes w32 count) (flat gone) rest) ∙ sym front ∙ head ∙ append_assoc (to_be_bytes w32 number) (flat others) after) in
    elim (cases_lt (length gone) (length others)) [
      | inl short ↦ absurd (further present [] gone others rest after same.1 may might short none)
      | inr long ↦ elim (cases_lt (length others) (length gone)) [
        | inl short ↦ absurd (further present [] others gone after rest (sym same.1) might may short also)
        | inr still ↦ (let even : length gone ≡ length others = omega (arith, long, still) in p ∙ ap (λ n. 4 + 4 * n) even ∙ sym q)
      ]
    ]

-- ---- a state breaks at one place

-- two texts at one front are one
record SameHead (m n : Catalog) (text size : ℕ) (bytes : List ℕ) : Type 0 where
  scopes : scope_ids m.scopes ≡ scope_ids n.scopes
  collections : collection_ids m.scopes ≡ collection_ids n.scopes
  text_is : text ≡ size
  rest : drop text bytes ≡ drop size bytes

same_head : (bytes : List ℕ) (m n : Catalog) (text size : ℕ) → TextAt bytes m text → TextAt bytes n size → SameHead m n text size bytes
same_head bytes m n text size t u =
    let same = same_text m n (drop text bytes) (drop size bytes) t.sound u.sound (sym t.front ∙ u.front) in
    record {
      scopes = ap (λ k. scope_ids k.scopes) same.bare;
      collections = ap (λ k. collection_ids k.scopes) same.bare;
      text_is = t.len ∙ ap (λ k. length (text_bytes k)) same.bare ∙ sym u.len;
      rest = same.rest;
    }

-- two runs of ids at one front are one
same_run : (present bytes gone others : List ℕ) (size last : ℕ) → IdsAt present bytes gone size → IdsAt present bytes others last → size ≡ last
same_run present bytes gone others size last i j =
    let same = same_ids present present gone others (drop size bytes) (drop last bytes) i.may j.may (sym i.front ∙ j.front) in
    i.len ∙ ap (λ l. length (ids_bytes l)) same.front ∙ sym j.len

moved : (P : List ℕ → List ℕ → Type 0) (a b r s : List ℕ) → a ≡ b → r ≡ s → P a r → P b s
moved P a b r s p q h = subst (λ l. P l s) p (subst (P a) q h)

-- where ids break off, none stand
broken_off : (present bytes gone : List ℕ) (offset size : ℕ) → IdsBreak present bytes offset → IdsAt present bytes gone size → ⊥
broken_off present bytes gone offset size b i = ids_none present bytes offset b gone (drop size bytes) i.may i.front

pub one_place : (bytes : List ℕ) (first second : ℕ) → Breaks bytes first → Breaks bytes second → first ≡ second
one_place bytes first second (in_text a) (in_text b) = text_place bytes first second a b
one_place bytes first second (in_text a) (in_scopes n u o q t b) = absurd (text_none bytes first a n (drop u bytes) t.sound t.front)
one_place bytes first second (in_text a) (in_collections n u k o gone q t i b) = absurd (text_none bytes first a n (drop u bytes) t.sound t.front)
one_place bytes first second (in_scopes n u o q t b) (in_text a) = absurd (text_none bytes second a n (drop u bytes) t.sound t.front)
one_place bytes first second (in_collections n u k o gone q t i b) (in_text a) = absurd (text_none bytes second a n (drop u bytes) t.sound t.front)
one_place bytes first second (in_scopes m t o p ta a) (in_scopes n u v q ub b) =
    let h = same_head bytes m n t u ta ub in
    let same = ids_place (scope_ids n.scopes) (drop u bytes) o v (moved (λ l r. IdsBreak l r o) (scope_ids m.scopes) (scope_ids n.scopes) (drop t bytes) (drop u bytes) h.scopes h.rest a) b in
    p ∙ ap₂ (λ x y. x + y) h.text_is same ∙ sym q
one_place bytes first second (in_scopes m t o p ta a) (in_collections n u k v gone q ub j b) =
    let h = same_head bytes m n t u ta ub in
    absurd (broken_off (scope_ids n.scopes) (drop u bytes) gone o k (moved (λ l r. IdsBreak l r o) (scope_ids m.scopes) (scope_ids n.scopes) (drop t bytes) (drop u bytes) h.scopes h.rest a) j)
one_place bytes first second (in_collections m t k o gone p ta i a) (in_scopes n u v q ub b) =
    let h = same_head bytes m n t u ta ub in
    absurd (broken_off (scope_ids n.scopes) (drop u bytes) gone v k b (moved (λ l r. IdsAt l r gone k) (scope_ids m.scopes) (scope_ids n.scopes) (drop t bytes) (drop u bytes) h.scopes h.rest i))
one_place bytes first second (in_collections m t k o gone p ta i a) (in_collections n u w v others q ub j b) =
    let h = same_head bytes m n t u ta ub in
    let run = same_run (scope_ids n.scopes) (drop u bytes) gone others k w (moved (λ l r. IdsAt l r gone k) (scope_ids m.scopes) (scope_ids n.scopes) (drop t bytes) (drop u bytes) h.scopes h.rest i) j in
    let start : t + k ≡ u + w = ap₂ (λ x y. x + y) h.text_is run in
    let same = ids_place (collection_ids n.scopes) (drop (u + w) bytes) o v
    (moved (λ l r. IdsBreak l r o) (collection_ids m.scopes) (collection_ids n.scopes) (drop (t + k) bytes) (drop (u + w) bytes) h.collections (ap (λ x. drop x bytes) start) a) b in
    p ∙ ap₂ (λ x y. x + y) start same ∙ sym q

-- ---- and then it is none

no_scopes : (bytes : List ℕ) (m : Catalog) (text : ℕ) → TextAt bytes m text → NoIds (scope_ids m.scopes) (drop text bytes) → (n : Catalog) (rest : List ℕ) → is_kept n ≡ true → bytes ≡ state_of n ++ rest → ⊥
no_scopes bytes m text t none n rest h e =
    let kept = kept_parts n h in
    let after = ids_bytes n.dropped_scopes ++ (ids_bytes n.dropped_collections ++ rest) in
    let same = same_text m n (drop text bytes) after t.sound (kept_sound n h) (sym t.front ∙ e ∙ parted n rest) in
    let ids : scope_ids m.scopes ≡ scope_ids n.scopes = ap (λ k. scope_ids k.scopes) same.bare in
    none n.dropped_scopes (ids_bytes n.dropped_collections ++ rest) (subst (λ l. are_gone l n.dropped_scopes ≡ true) (sym ids) kept.gone_scopes) same.rest

no_collections : (bytes : List ℕ) (m : Catalog) (text size : ℕ) (gone : List ℕ) → TextAt bytes m text → IdsAt (scope_ids m.scopes) (drop text bytes) gone size → NoIds (collection_ids m.scopes) (drop (text + size) bytes)
    → (n : Catalog) (rest : List ℕ) → is_kept n ≡ true → bytes ≡ state_of n ++ rest → ⊥
no_collections bytes m text size gone t i none n rest h e =
    let kept = kept_parts n h in
    let after = ids_bytes n.dropped_scopes ++ (ids_bytes n.dropped_collections ++ rest) in
    let same = same_text m n (drop text bytes) after t.sound (kept_sound n h) (sym t.front ∙ e ∙ parted n rest) in
    let ids : collection_ids m.scopes ≡ collection_ids n.scopes = ap (λ k. collection_ids k.scopes) same.bare in
    let next = same_ids (scope_ids m.scopes) (scope_ids n.scopes) gone n.dropped_scopes (drop size (drop text bytes)) (ids_bytes n.dropped_collections ++ rest) i.may kept.gone_scopes (sym i.front ∙ same.rest) in
    none n.dropped_collections rest (subst (λ l. are_gone l n.dropped_collections ≡ true) (sym ids) kept.gone_collections) (sym (drop-drop size text bytes) ∙ next.rest)

pub breaks_none : (bytes : List ℕ) (place : ℕ) → Breaks bytes place → (n : Catalog) (rest : List ℕ) → is_kept n ≡ true → bytes ≡ state_of n ++ rest → ⊥
breaks_none bytes place (in_text b) n rest h e = text_none bytes place b n (ids_bytes n.dropped_scopes ++ (ids_bytes n.dropped_collections ++ rest)) (kept_sound n h) (e ∙ parted n rest)
breaks_none bytes place (in_scopes m text offset p t b) n rest h e = no_scopes bytes m text t (ids_none (scope_ids m.scopes) (drop text bytes) offset b) n rest h e
breaks_none bytes place (in_collections m text size offset gone p t i b) n rest h e =
    no_collections bytes m text size gone t i (ids_none (collection_ids m.scopes) (drop (text + size) bytes) offset b) n rest h e

pub broken_none : (bytes : List ℕ) (place : ℕ) (m : Catalog) (size : ℕ) → Breaks bytes place → IsAt bytes m size → ⊥
broken_none bytes place m size b at = breaks_none bytes place b m (drop size bytes) at.kept at.front

-- ---- where the next part begins

pub text_within : (bytes : List ℕ) (m : Catalog) (text : ℕ) → TextAt bytes m text → text ≤ length bytes
text_within bytes m text t = omega (arith, ap length t.front, length-append (text_bytes m) (drop text bytes), t.len)

pub ids_within : (present bytes gone : List ℕ) (start size : ℕ) → start ≤ length bytes → IdsAt present (drop start bytes) gone size → start + size ≤ length bytes
ids_within present bytes gone start size within i =
    omega (arith, ap length i.front, length-append (ids_bytes gone) (drop size (drop start bytes)), i.len, length-drop start bytes)

-- ---- why a state isn't read

pub text_fault : (bytes : List ℕ) (f : StateFault) → IsTextFault bytes f → IsNoState bytes f
text_fault bytes (fault.Bad place) b = (in_text b, breaks_none bytes place (in_text b))
text_fault bytes fault.NoMemory b = tt

pub scopes_fault : (bytes present : List ℕ) (m : Catalog) (text : ℕ) (f : StateFault) → TextAt bytes m text → present ≡ scope_ids m.scopes → IsIdsFault present bytes text f → IsNoState bytes f
scopes_fault bytes present m text (fault.Bad place) t is b =
    let broken : Breaks bytes place = in_scopes m text b.0 b.1 t (subst (λ l. IdsBreak l (drop text bytes) b.0) is b.2) in
    (broken, breaks_none bytes place broken)
scopes_fault bytes present m text fault.NoMemory t is b = tt

pub collections_fault : (bytes present gone : List ℕ) (m : Catalog) (text size : ℕ) (f : StateFault) → TextAt bytes m text → IdsAt (scope_ids m.scopes) (drop text bytes) gone size → present ≡ collection_ids m.scopes
    → IsIdsFault present bytes (text + size) f → IsNoState bytes f
collections_fault bytes present gone m text size (fault.Bad place) t i is b =
    let broken : Breaks bytes place = in_collections m text size b.0 gone b.1 t i (subst (λ l. IdsBreak l (drop (text + size) bytes) b.0) is b.2) in
    (broken, breaks_none bytes place broken)
collections_fault bytes present gone m text size fault.NoMemory t i is b = tt
