-- A session's state, and what its calls do.
use Rattle.std.specs.Prelude.{◌≡◌, ℕ, ◌<◌, ◌≤◌, Bool, true, false, List, [], ◌++◌, length, take, drop, ◌⊎◌, refl}
use Rattle.std.specs.Coded.{Coded, code_by, coded×, coded_ℕ, coded_bool, coded_list}
use Rattle.kv_frame.specs.declared.frame.Frame.{Frame}
use Rattle.kv_frame.specs.declared.frame.Side.TheVariants.{Requests}
use Rattle.kv_frame.specs.Judging.{BeginsWith, Lacks, IsBad}
use Rattle.kv_request.specs.declared.request.Features.{Features}
use Rattle.kv_session.specs.declared.session.Next.{Next}
use Rattle.kv_session.specs.declared.session.Next.TheVariants as nexts
use Rattle.kv_session.specs.Answers.{Passed, Told, made_by}
use Rattle.kv_session.specs.Filling.{Filled}

-- the bytes that were fed and not given out, the features granted so far, and whether the connection ended by a Quit
pub record Line : Type 0 where
  pub held : List ℕ
  pub features : Features
  pub quit : Bool

-- nothing was fed and nothing granted
abbrev pub new_line : Line
new_line = record { held = []; features = record { token = false; json = false; collections = false }; quit = false }

-- a whole frame waits, or no frame can begin so, or the connection ended: nothing more is taken
abbrev pub IsFull : Line → Type 0
IsFull line = (line.quit ≡ true) ⊎ Filled line.held

-- Feeding a piece took n bytes of it: all of them, or as many as fill the line, and none where it was full before.
pub record Feeds (old : Line) (piece : List ℕ) (new : Line) (n : ℕ) : Type 0 where
  pub within : n ≤ length piece
  pub taken : new ≡ record old { held = old.held ++ take n piece }
  pub enough : (n ≡ length piece) ⊎ IsFull new
  pub no_more : (k : ℕ) → k < n → IsFull (record old { held = old.held ++ take k piece }) → ⊥

-- what was held, without the frame that was given out
abbrev pub without : Line → ℕ → Line
without line used = record line { held = drop used line.held }

-- What is to be given out next, and the line afterwards.
abbrev pub Gives : Line → Line → Next → Type 0
Gives old new (nexts.Request made) =
    (old.quit ≡ false) × (f : Frame) × (used : ℕ) × BeginsWith Requests old.held f used × (made_by old.features f ≡ Passed made) × (new ≡ without old used)
Gives old new (nexts.Refused reply) =
    (old.quit ≡ false) × (f : Frame) × (used : ℕ) × (features : Features) × (quit : Bool) × BeginsWith Requests old.held f used
    × (made_by old.features f ≡ Told reply features quit) × (new ≡ record { held = drop used old.held; features = features; quit = quit })
Gives old new (nexts.More n) = (old.quit ≡ false) × Lacks Requests old.held n × (new ≡ old)
Gives old new (nexts.Bad place fault) = (old.quit ≡ false) × IsBad Requests old.held place fault × (new ≡ old)
Gives old new nexts.Quit = (old.quit ≡ true) × (new ≡ old)
Gives old new nexts.NoMemory = (old.quit ≡ false) × (new ≡ old)

-- A piece was offered, of which n bytes were taken, and then this was given out.
abbrev pub Advances : Line → List ℕ → Line → ℕ → Next → Type 0
Advances old piece new n next = (between : Line) × Feeds old piece between n × Gives between new next

-- a line as bytes and bits
abbrev pub coded_line : Coded Line
coded_line =
    code_by (List ℕ × (Bool × (Bool × (Bool × Bool)))) (coded× (coded_list coded_ℕ) (coded× coded_bool (coded× coded_bool (coded× coded_bool coded_bool))))
    (λ l. (l.held, (l.features.token, (l.features.json, (l.features.collections, l.quit)))))
    (λ p. record { held = p.0; features = record { token = p.1.0; json = p.1.1.0; collections = p.1.1.1.0 }; quit = p.1.1.1.1 }) (λ _. refl)
