-- The session's own replies have frames.
use Rattle.std.proofs.Common.{◌≡◌, ℕ, suc, ◌+◌, ◌≤◌, Bool, true, false, nat_eq, List, [], ◌∷◌, length, filter, Option, Some, None, Ok, Err, if◌then◌else◌, refl, ap, subst, ◌∙◌, arith}
use Rattle.std.specs.List.{flat_map, list_any}
use Rattle.std.specs.Option.{option_map_or}
use Rattle.std.specs.Int.{w16, to_be_bytes}
use Rattle.std.proofs.lemmas.List.{length-append}
use Rattle.kv_frame.specs.declared.frame.TheConstants.{BODY_LIMIT}
use Rattle.kv_frame.specs.declared.frame.Frame.{Frame}
use Rattle.kv_frame.specs.Grammar.{Fits}
use Rattle.doc_model.specs.declared.status.TheConstants.Status as status
use Rattle.kv_request.specs.declared.opcode.Command.{Command}
use Rattle.kv_request.specs.declared.opcode.Command.TheVariants as commands
use Rattle.kv_request.specs.declared.request.Features.{Features}
use Rattle.kv_request.specs.declared.request.Request.{Request}
use Rattle.kv_request.specs.declared.request.Body.{Body}
use Rattle.kv_request.specs.declared.request.Body.TheVariants as bodies
use Rattle.kv_request.specs.declared.reply.Reply.{Reply}
use Rattle.kv_request.specs.Opcodes.{command_of, is_of_streams}
use Rattle.kv_request.specs.Tables.{request, checks, first_failing, request_of, checked, body_of, pairs_of, token_bytes, IsReply, IsSmallRequest}
use Rattle.kv_request.proofs.Small.{none_fails, not_of_streams, request_is_small}
use Rattle.kv_session.specs.declared.answers.Made.TheVariants as mades
use Rattle.kv_session.specs.declared.answers.Made.{Made}
use Rattle.kv_session.specs.Answers.{is_granted, each_once, granted, telling, made_of, made_from, made_by}
use Rattle.kv_session.specs.Answers as answers
use Rattle.kv_session.specs.Making.{Makes, Spells}

-- ---- a Hello's list is no longer than its value

pairs_short : (bytes : List ℕ) → length (pairs_of bytes) + length (pairs_of bytes) ≤ length bytes
pairs_short [] = omega arith
pairs_short (last ∷ []) = omega arith
pairs_short (high ∷ low ∷ others) = omega (arith, pairs_short others)

wanted_of : (features : Features) (f : Frame) (command : Command) (wanted : List ℕ) → body_of features f command ≡ bodies.Hello wanted → wanted ≡ pairs_of f.value
wanted_of features f commands.Hello wanted e = cc
wanted_of features f command wanted e = absurd (cc)

of_command : (features : Features) (f : Frame) (command : Option Command) (made : Request) (wanted : List ℕ) → option_map_or (checked features f) command (Err status.UNKNOWN_COMMAND) ≡ Ok made → made.body ≡ bodies.Hello wanted → wanted ≡ pairs_of f.value
of_command features f None made wanted e is = absurd (cc)
of_command features f (Some command) made wanted e is =
    let passed = none_fails (first_failing (checks features f command)) (request_of features f command) made e in
    let same : request_of features f command ≡ made = passed.1 in
    wanted_of features f command wanted (ap (λ (r : Request). r.body) same ∙ is)

wanted_short : (features : Features) (f : Frame) (made : Request) (wanted : List ℕ) → Fits f → request features f ≡ Ok made → made.body ≡ bodies.Hello wanted → length wanted + length wanted ≤ BODY_LIMIT
wanted_short features f made wanted fits e is =
    let same : wanted ≡ pairs_of f.value =
    of_command features f (command_of f.opcode) made wanted (not_of_streams (is_of_streams f.opcode) (option_map_or (checked features f) (command_of f.opcode) (Err status.UNKNOWN_COMMAND)) made e) is in
    omega (arith, ap (λ (l : List ℕ). length l) same, pairs_short f.value, fits.body)

-- ---- what is granted is no longer than what is wanted

choice_short : (b : Bool) (x y : List ℕ) (n : ℕ) → length x ≤ n → length y ≤ n → length (if b then x else y) ≤ n
choice_short true x y n p q = p
choice_short false x y n p q = q

once_short : (before codes : List ℕ) → length (each_once before codes) ≤ length codes
once_short before [] = omega arith
once_short before (code ∷ codes) =
    choice_short (list_any (nat_eq code) before) (each_once before codes) (code ∷ each_once (code ∷ before) codes) (suc (length codes))
    (omega (arith, once_short before codes))
    (omega (arith, once_short (code ∷ before) codes))

filter_short : (codes : List ℕ) → length (filter is_granted codes) ≤ length codes
filter_short [] = omega arith
filter_short (code ∷ codes) =
    choice_short (is_granted code) (code ∷ filter is_granted codes) (filter is_granted codes) (suc (length codes))
    (omega (arith, filter_short codes))
    (omega (arith, filter_short codes))

spelled_long : (codes : List ℕ) → length (flat_map (to_be_bytes w16) codes) ≡ length codes + length codes
spelled_long [] = refl
spelled_long (code ∷ codes) = omega (arith, length-append (to_be_bytes w16 code) (flat_map (to_be_bytes w16) codes), spelled_long codes)

granted_short : (wanted : List ℕ) → length (flat_map (to_be_bytes w16) (granted wanted)) ≤ length wanted + length wanted
granted_short wanted = omega (arith, spelled_long (granted wanted), once_short [] (filter is_granted wanted), filter_short wanted)

-- ---- replies

-- no token, no bytes
no_token : (token : Bool) → length (token_bytes token None) ≡ 0
no_token true = refl
no_token false = refl

-- a reply of these few parts has a frame
telling_fits : (made : Request) (value : List ℕ) → IsSmallRequest made → length value ≤ BODY_LIMIT → IsReply (telling made value)
telling_fits made value small short features =
    let none = no_token features.token in
    record {
      opcode = small.opcode;
      datatype = omega arith;
      word = omega arith;
      opaque = small.opaque;
      cas = omega arith;
      framing = refl;
      extras = omega (arith, none, length-append (token_bytes features.token None) []);
      key = omega arith;
      body = omega (arith, short, none, length-append (token_bytes features.token None) []);
    }

-- a reply that is told is the reply that the session makes
told_spells : (reply : Reply) (features : Features) (quit : Bool) (m : Made) → IsReply reply → Makes (answers.Told reply features quit) m → Spells m
told_spells reply features quit (mades.Passed made) is e = tt
told_spells reply features quit (mades.Told other changed ends) is e = let same : reply ≡ other = cc in subst IsReply same is

passed_spells : (made : Request) (m : Made) → Makes (answers.Passed made) m → Spells m
passed_spells made (mades.Passed other) e = tt
passed_spells made (mades.Told reply features quit) e = absurd (cc)

of_body : (features : Features) (made : Request) (body : Body) (m : Made) → IsSmallRequest made → ((wanted : List ℕ) → body ≡ bodies.Hello wanted → length wanted + length wanted ≤ BODY_LIMIT) → Makes (made_of features made body) m → Spells m
of_body features made (bodies.Hello wanted) m small short e = told_spells _ _ _ m (telling_fits made (flat_map (to_be_bytes w16) (granted wanted)) small (omega (arith, short wanted refl, granted_short wanted))) e
of_body features made bodies.Noop m small short e = told_spells _ _ _ m (telling_fits made [] small (omega arith)) e
of_body features made bodies.Version m small short e = told_spells _ _ _ m (telling_fits made _ small (omega arith)) e
of_body features made bodies.Quit m small short e = told_spells _ _ _ m (telling_fits made [] small (omega arith)) e
of_body features made body m small short e = passed_spells made m e

-- what is made of a frame's request spells its reply
pub made_spells : (features : Features) (f : Frame) (made : Request) (m : Made) → Fits f → request features f ≡ Ok made → Makes (made_of features made made.body) m → Spells m
made_spells features f made m fits e = of_body features made made.body m (request_is_small made (features, f, fits, e)) (λ wanted is. wanted_short features f made wanted fits e is)
