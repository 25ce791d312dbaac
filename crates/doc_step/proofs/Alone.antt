-- A request of one look-up or of one edit comes to what it does alone.
use Rattle.std.specs.Prelude.{◌≡◌, ℕ, ◌+◌, ◌≤◌, nat_lt, Bool, true, false, ◌&&◌, is_ok, List, [], ◌∷◌, ◌++◌, length, Option, Some, None, Result, Ok, Err, ◌⊎◌, ℤ, if◌then◌else◌, refl}
use Rattle.std.specs.Int.{w16, to_be_bytes}
use Rattle.std.proofs.Common.{inl, inr, ap, subst, arith}
use Rattle.std.proofs.lemmas.List.{append-nil}
use Rattle.std.proofs.lemmas.Bool.{le-ltb}
use Rattle.doc_model.specs.declared.document.Doc.{Doc}
use Rattle.doc_model.specs.declared.status.Status.{Status}
use Rattle.doc_model.specs.declared.status.TheConstants.Status as status
use Rattle.subdoc_step.specs.Answers.{◌>>=◌}
use Rattle.kv_request.specs.declared.reading.TheConstants.{VALUE_LIMIT}
use Rattle.kv_request.specs.declared.request.Request.{Request}
use Rattle.kv_request.specs.declared.request.Spec.{Spec}
use Rattle.doc_step.specs.declared.Change.{Change}
use Rattle.doc_step.specs.declared.Effect.TheVariants as effects
use Rattle.doc_step.specs.Expiry.{Setting}
use Rattle.doc_step.specs.Replies.{changed, changing, storing}
use Rattle.doc_step.specs.Parts.{found_in, look_answered, look_step, look_result, part_failed, multi_look_step, doc_to_edit, EditedDoc, edited_doc, number_text, edit_step, edit_result, and_then, edits_from, edits_answered, multi_edit_step}
use Rattle.doc_step.specs.Laws.{TellsFailure}

-- an answer that is no refusal
abbrev fine : {A : Type 0} → A → Result A Status
fine x = Ok x

-- a refusal
abbrev refuses : Status → Result Change Status
refuses s = Err s

-- ---- edits

-- a change among others is as the one alone, and tells its number in its place
abbrev pub AsMade : Result Change Status → Change → Type 0
AsMade among change =
    (told : Change) × (number : Option ℤ) × (among ≡ Ok told) × (told.effect ≡ change.effect) × (told.reply.status ≡ change.reply.status)
    × (told.reply.cas ≡ change.reply.cas) × (change.reply.value ≡ number_text number) × (told.reply.value ≡ edit_result 0 number)

-- a refusal among others is as the one alone, or is told with these bytes
abbrev pub AsRefused : Result Change Status → Status → List ℕ → Type 0
AsRefused among refusing bytes = (among ≡ Err refusing) ⊎ ((told : Change) × (among ≡ Ok told) × TellsFailure told bytes)

same_ok : (x y : Change) → Ok x ≡ fine y → x ≡ y
same_ok x y e = cc

same_err : (x y : Status) → refuses x ≡ Err y → x ≡ y
same_err x y e = cc

-- the answer to edits of which the first and only one came to this
answered_of : Setting → Request → ℕ → Result EditedDoc Status → Result Change Status
answered_of s among flags r = edits_answered s among (and_then 0 [] r (λ made told. edits_from flags 1 made told []))

made_one : (s : Setting) (alone among : Request) (flags : ℕ) (r : Result EditedDoc Status) (change : Change)
    → (r >>= λ made. storing alone (changed s made.doc) (number_text made.number)) ≡ Ok change → AsMade (answered_of s among flags r) change
unfolding answered_of edits_from
made_one s alone among flags (Ok m) change e =
    let P : Change → Type 0 = λ x. AsMade (storing among (changed s m.doc) (edit_result 0 m.number)) x in
    subst P (same_ok (record { effect = effects.Put (changed s m.doc); reply = changing alone s.draw (number_text m.number) }) change e)
    (record { effect = effects.Put (changed s m.doc); reply = changing among s.draw (edit_result 0 m.number) }, m.number, refl, refl, refl, refl, refl, refl)
made_one s alone among flags (Err refusing) change e = absurd (cc)

made_from : (s : Setting) (alone among : Request) (spec : Spec) (flags : ℕ) (begun : Result Doc Status) (change : Change)
    → (begun >>= λ b. edited_doc spec flags b >>= λ made. storing alone (changed s made.doc) (number_text made.number)) ≡ Ok change
    → AsMade (begun >>= λ b. edits_answered s among (edits_from flags 0 b [] (spec ∷ []))) change
unfolding edits_from answered_of
made_from s alone among spec flags (Ok b) change e = made_one s alone among flags (edited_doc spec flags b) change e
made_from s alone among spec flags (Err refusing) change e = absurd (cc)

-- an edit that is made alone is made among others
pub edit_made_alone : (s : Setting) (alone among : Request) (doc : Option Doc) (change : Change) (spec : Spec) (expiry : Option ℕ) (flags : ℕ)
    → edit_step s alone spec expiry flags doc ≡ Ok change → AsMade (multi_edit_step s among (spec ∷ []) expiry flags doc) change
edit_made_alone s alone among doc change spec expiry flags e = made_from s alone among spec flags (doc_to_edit s expiry flags (spec ∷ []) doc) change e

refused_one : (s : Setting) (alone among : Request) (flags : ℕ) (r : Result EditedDoc Status) (refusing : Status)
    → (r >>= λ made. storing alone (changed s made.doc) (number_text made.number)) ≡ Err refusing → AsRefused (answered_of s among flags r) refusing (0 ∷ to_be_bytes w16 refusing.code)
unfolding answered_of edits_from
refused_one s alone among flags (Ok m) refusing e = absurd (cc)
refused_one s alone among flags (Err x) refusing e =
    let told : Change = record { effect = effects.Nothing; reply = part_failed among (0 ∷ to_be_bytes w16 x.code) } in
    let P : Status → Type 0 = λ y. AsRefused (Ok told) y (0 ∷ to_be_bytes w16 y.code) in
    subst P (same_err x refusing e) (inr (told, refl, record { effect = refl; status = refl; value = refl }))

refused_from : (s : Setting) (alone among : Request) (spec : Spec) (flags : ℕ) (begun : Result Doc Status) (refusing : Status)
    → (begun >>= λ b. edited_doc spec flags b >>= λ made. storing alone (changed s made.doc) (number_text made.number)) ≡ Err refusing
    → AsRefused (begun >>= λ b. edits_answered s among (edits_from flags 0 b [] (spec ∷ []))) refusing (0 ∷ to_be_bytes w16 refusing.code)
unfolding edits_from answered_of
refused_from s alone among spec flags (Ok b) refusing e = refused_one s alone among flags (edited_doc spec flags b) refusing e
refused_from s alone among spec flags (Err x) refusing e = inl e

-- an edit that is refused alone is refused among others
pub edit_refused_alone : (s : Setting) (alone among : Request) (doc : Option Doc) (refusing : Status) (spec : Spec) (expiry : Option ℕ) (flags : ℕ)
    → edit_step s alone spec expiry flags doc ≡ Err refusing → AsRefused (multi_edit_step s among (spec ∷ []) expiry flags doc) refusing (0 ∷ to_be_bytes w16 refusing.code)
edit_refused_alone s alone among doc refusing spec expiry flags e = refused_from s alone among spec flags (doc_to_edit s expiry flags (spec ∷ []) doc) refusing e

-- ---- look-ups

-- a look-up among others is as the one alone, and its result is told
abbrev pub AsFound : Result Change Status → Change → Type 0
AsFound among change =
    (told : Change) × (among ≡ Ok told) × (told.reply.status ≡ change.reply.status) × (told.reply.cas ≡ change.reply.cas)
    × (told.reply.value ≡ look_result (Ok change.reply.value))

-- the answer to look-ups of which the first and only one came to this
looked_of : Request → Doc → Result (List ℕ) Status → Result Change Status
looked_of among doc r =
    if nat_lt VALUE_LIMIT (length (look_result r ++ [])) then Err status.E2BIG
    else Ok (record { effect = effects.Nothing; reply = if is_ok r && true then changing among doc.cas (look_result r ++ []) else part_failed among (look_result r ++ []) })

-- either the results are too many, or they are told
found_when : (b : Bool) (among : Request) (doc : Doc) (found : List ℕ) → b ≡ false
    → AsFound (if b then Err status.E2BIG else Ok (record { effect = effects.Nothing; reply = changing among doc.cas (look_result (Ok found) ++ []) })) (record { effect = effects.Nothing; reply = changing among doc.cas found })
found_when true among doc found e = absurd (cc)
found_when false among doc found e =
    (record { effect = effects.Nothing; reply = changing among doc.cas (look_result (Ok found) ++ []) }, refl, refl, refl, append-nil (look_result (Ok found)))

result_long : (found : List ℕ) → length found + 6 ≤ VALUE_LIMIT → nat_lt VALUE_LIMIT (length (look_result (Ok found) ++ [])) ≡ false
result_long found h =
    le-ltb VALUE_LIMIT (length (look_result (Ok found) ++ [])) (omega (arith, ap length (append-nil (look_result (Ok found))), h))

found_one : (alone among : Request) (doc : Doc) (r : Result (List ℕ) Status) (change : Change)
    → look_answered alone doc r ≡ Ok change → length change.reply.value + 6 ≤ VALUE_LIMIT → AsFound (looked_of among doc r) change
unfolding looked_of
found_one alone among doc (Ok found) change e h =
    let is : record { effect = effects.Nothing; reply = changing alone doc.cas found } ≡ change = same_ok (record { effect = effects.Nothing; reply = changing alone doc.cas found }) change e in
    let P : Change → Type 0 = λ x. AsFound (looked_of among doc (Ok found)) x in
    let short : length found + 6 ≤ VALUE_LIMIT = omega (arith, h, ap (λ (c : Change). length c.reply.value) is) in
    subst P is (found_when (nat_lt VALUE_LIMIT (length (look_result (Ok found) ++ []))) among doc found (result_long found short))
found_one alone among doc (Err refusing) change e h = absurd (cc)

-- a look-up that finds something alone finds it among others
pub look_found_alone : (alone among : Request) (doc : Option Doc) (change : Change) (spec : Spec)
    → look_step alone spec doc ≡ Ok change → length change.reply.value + 6 ≤ VALUE_LIMIT → AsFound (multi_look_step among (spec ∷ []) doc) change
unfolding looked_of
look_found_alone alone among None change spec e h = absurd (cc)
look_found_alone alone among (Some doc) change spec e h = found_one alone among doc (found_in doc spec) change e h
