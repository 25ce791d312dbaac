-- What a request brings: a key that an entry may have, and a manifest's text that isn't too long.
use Rattle.std.specs.Prelude.{◌≡◌, ℕ, ◌≤◌, nat_le, Bool, true, false, List, [], ◌∷◌, length, Option, Some, None, Ok, Err, if◌then◌else◌, refl}
use Rattle.std.specs.List.{AllByRecursion}
use Rattle.std.specs.Option.{option_map_or, IfSome}
use Rattle.std.proofs.Common.{subst, ap, ◌∙◌, arith}
use Rattle.std.proofs.lemmas.Bool.Decides.{nat_tests}
use Rattle.doc_model.specs.declared.key.DocKey.{DocKey}
use Rattle.doc_model.specs.declared.limits.TheConstants.{MANIFEST_LIMIT}
use Rattle.doc_model.specs.declared.status.Status.{Status}
use Rattle.doc_model.specs.declared.status.TheConstants.Status as status
use Rattle.kv_frame.specs.declared.frame.Frame.{Frame}
use Rattle.kv_request.specs.declared.opcode.Command.{Command}
use Rattle.kv_request.specs.declared.opcode.Command.TheVariants as commands
use Rattle.kv_request.specs.declared.request.Features.{Features}
use Rattle.kv_request.specs.declared.request.Request.{Request}
use Rattle.kv_request.specs.declared.request.Body.TheVariants as bodies
use Rattle.kv_request.specs.Opcodes.{command_of, is_of_streams}
use Rattle.kv_request.specs.Tables.{IsRequest, IsSmallKey, key_named, value_limit, checks, first_failing, request_of, checked, body_of}
use Rattle.kv_request.proofs.Small.{none_fails, not_of_streams, request_is_small}
use Rattle.vb_log.specs.Keys.{IsAllowedKey}

-- ---- the key

small_allowed : (key : DocKey) → IsSmallKey key → IsAllowedKey key
small_allowed key h = record { below = h.collection; some = h.not_empty; short = h.within }

-- the key that a request names may be that of an entry
pub key_allowed : (request : Request) (key : DocKey) → IsRequest request → key_named request.body ≡ Some key → IsAllowedKey key
key_allowed request key is named =
    let P : Option DocKey → Type 0 = λ o. IfSome o IsSmallKey in
    small_allowed key (subst P named (request_is_small request is).key)

-- ---- the text of a manifest

passes : (b : Bool) (s : Status) (others : Option Status) → (if b then others else Some s) ≡ None → (b ≡ true) × (others ≡ None)
passes true s others e = (refl, e)
passes false s others e = absurd (cc)

all_pass : (cs : List (Bool × Status)) → first_failing cs ≡ None → AllByRecursion (λ c. c.0 ≡ true) cs
all_pass [] e = tt
all_pass (c ∷ cs) e = let h = passes c.0 c.1 (first_failing cs) e in (h.0, all_pass cs h.1)

text_within : (features : Features) (f : Frame) (command : Command) (text : List ℕ)
    → nat_le (length f.value) (value_limit command) ≡ true → body_of features f command ≡ bodies.SetManifest text
    → length text ≤ MANIFEST_LIMIT
text_within features f commands.SetManifest text v e =
    let same : f.value ≡ text = cc in
    let within : length f.value ≤ MANIFEST_LIMIT = grind (arith, nat_tests) in
    subst (λ (t : List ℕ). length t ≤ MANIFEST_LIMIT) same within
text_within features f command text v e = absurd (cc)

checked_text : (features : Features) (f : Frame) (command : Command) (made : Request) (text : List ℕ)
    → checked features f command ≡ Ok made → made.body ≡ bodies.SetManifest text → length text ≤ MANIFEST_LIMIT
checked_text features f command made text e b =
    let h = none_fails (first_failing (checks features f command)) (request_of features f command) made e in
    let all : AllByRecursion (λ c. c.0 ≡ true) (checks features f command) = all_pass (checks features f command) h.0 in
    text_within features f command text all.1.1.1.1.1.1.1.1.1.0 (ap (λ (r : Request). r.body) h.1 ∙ b)

command_text : (features : Features) (f : Frame) (command : Option Command) (made : Request) (text : List ℕ)
    → option_map_or (checked features f) command (Err status.UNKNOWN_COMMAND) ≡ Ok made → made.body ≡ bodies.SetManifest text
    → length text ≤ MANIFEST_LIMIT
command_text features f None made text e b = absurd (cc)
command_text features f (Some command) made text e b = checked_text features f command made text e b

-- a manifest's text that a request brings is short enough for an entry
pub text_short : (request : Request) (text : List ℕ) → IsRequest request → request.body ≡ bodies.SetManifest text
    → length text ≤ MANIFEST_LIMIT
text_short request text h b =
    command_text h.0 h.1 (command_of h.1.opcode) request text
    (not_of_streams (is_of_streams h.1.opcode) (option_map_or (checked h.0 h.1) (command_of h.1.opcode) (Err status.UNKNOWN_COMMAND))
    request h.3) b
