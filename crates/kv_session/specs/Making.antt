-- What the code's answers for a frame stand for.
use Rattle.std.specs.Prelude.{◌≡◌, ℕ, List, [], Option, Some, None}
use Rattle.kv_frame.specs.declared.frame.Frame.{Frame}
use Rattle.kv_frame.specs.declared.frame.Side.TheVariants.{Requests}
use Rattle.kv_frame.specs.Judging.{BeginsWith, Lacks, IsBad}
use Rattle.kv_request.specs.declared.request.Features.{Features}
use Rattle.kv_request.specs.declared.request.Request.{Request}
use Rattle.kv_request.specs.Tables.{IsReply}
use Rattle.kv_session.specs.declared.answers.Own.{Own}
use Rattle.kv_session.specs.declared.answers.Made.{Made}
use Rattle.kv_session.specs.declared.answers.Made.TheVariants as mades
use Rattle.kv_session.specs.declared.finding.Found.{Found}
use Rattle.kv_session.specs.declared.finding.Found.TheVariants as founds
use Rattle.kv_session.specs.declared.session.Next.{Next}
use Rattle.kv_session.specs.declared.session.Next.TheVariants as nexts
use Rattle.kv_session.specs.Answers as answers
use Rattle.kv_session.specs.Answers.{made_by}
use Rattle.kv_session.specs.Session.{Line}

-- what is made of a request, with the session's own answer to it, where there is one
abbrev pub made_with : Request → Option Own → answers.Made
made_with made None = answers.Passed made
made_with made (Some own) = answers.Told own.reply own.features own.quit

-- it is what the session makes of the frame
abbrev pub Makes : answers.Made → Made → Type 0
Makes made (mades.Passed request) = made ≡ answers.Passed request
Makes made (mades.Told reply features quit) = made ≡ answers.Told reply features quit

-- a reply of the session's own has a frame with a spelling
abbrev pub Spells : Made → Type 0
Spells (mades.Passed request) = Unit {0}
Spells (mades.Told reply features quit) = IsReply reply

-- The bytes begin with a frame of this many bytes, and this is what the session makes of it.
pub record IsMadeOf (features : Features) (bytes : List ℕ) (made : Made) (used : ℕ) : Type 0 where
  pub frame : Frame
  pub begins : BeginsWith Requests bytes frame used
  pub makes : Makes (made_by features frame) made
  pub spells : Spells made

-- what is found at the front of bytes
abbrev pub FindsIn : Features → List ℕ → Found → Type 0
FindsIn features bytes (founds.Frame made used) = IsMadeOf features bytes made used
FindsIn features bytes (founds.More n) = Lacks Requests bytes n
FindsIn features bytes (founds.Bad place fault) = IsBad Requests bytes place fault

-- What was made of a frame is given out, and nothing is held any more.
abbrev pub HandsOut : Line → Made → Line → Next → Type 0
HandsOut old (mades.Passed request) new next = (next ≡ nexts.Request request) × (new ≡ record old { held = [] })
HandsOut old (mades.Told reply features quit) new next = (next ≡ nexts.Refused reply) × (new ≡ record { held = []; features = features; quit = quit })
