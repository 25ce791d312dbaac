-- What a connection's frames get: the session's own replies, and between them those of whoever is asked what it passes on.
use Rattle.std.specs.Prelude.{◌≡◌, ℕ, Bool, List, [], ◌∷◌, ◌++◌}
use Rattle.kv_frame.specs.declared.frame.Frame.{Frame}
use Rattle.kv_request.specs.declared.request.Request.{Request}
use Rattle.kv_request.specs.declared.reply.Reply.{Reply}
use Rattle.kv_request.specs.Sending.{sent_bytes}
use Rattle.kv_session.specs.Answers.{Made, Passed, Told, made_by}
use Rattle.kv_session.specs.Cutting.{Standing, at_start, behind, behind_all}

-- What a frame gets of which this is made, and how whoever is asked stands before and after: the session's own reply, and
-- nobody is asked; or what is answered to the request that is passed on.
abbrev pub IsTold : {S : Type 0} → (Request → S → Reply → S → Type 0) → Made → S → Reply → S → Type 0
IsTold Answers (Told own features quit) old reply new = (reply ≡ own) × (new ≡ old)
IsTold Answers (Passed made) old reply new = Answers made old reply new

-- The replies to frames that come one after the other, where the connection stands here and whoever is asked is in this
-- state, and his state afterwards.
abbrev pub AreTold : {S : Type 0} → (Request → S → Reply → S → Type 0) → Standing → S → List Frame → List Reply → S → Type 0
AreTold Answers standing old [] [] new = new ≡ old
AreTold {S = S} Answers standing old (f ∷ fs) (reply ∷ replies) new =
    (mid : S) × IsTold Answers (made_by standing.features f) old reply mid
    × AreTold Answers (behind standing (made_by standing.features f)) mid fs replies new
AreTold Answers standing old [] (reply ∷ replies) new = ⊥
AreTold Answers standing old (f ∷ fs) [] new = ⊥

-- The bytes of replies, each under the features granted when its frame was answered; a reply that is left unsent has none.
abbrev pub reply_bytes : Standing → List Frame → List Reply → List ℕ
reply_bytes standing (f ∷ fs) (reply ∷ replies) =
    sent_bytes (behind standing (made_by standing.features f)).features reply ++ reply_bytes (behind standing (made_by standing.features f)) fs replies
reply_bytes standing fs replies = []

-- the bytes of the replies to the frames of a connection
abbrev pub output : List Frame → List Reply → List ℕ
output frames replies = reply_bytes at_start frames replies

-- whether a Quit ended the connection
abbrev pub quit_came : List Frame → Bool
quit_came frames = (behind_all at_start frames).quit
