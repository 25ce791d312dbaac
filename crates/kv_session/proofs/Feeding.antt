-- Feeding a line is filling what it holds.
use Rattle.std.proofs.Common.{◌≡◌, ℕ, Bool, false, List, [], ◌∷◌, ◌++◌, length, take, Result, refl, sym, ap, subst, ◌∙◌, ◌⊎◌, ◌↔◌, inl, inr, IfOk, append-nil, arith}
use Rattle.std.proofs.lemmas.Bool.{cases_lt}
use Rattle.std.proofs.lemmas.Result.{IfOk-weaker}
use Rattle.kv_request.specs.declared.request.Features.{Features}
use Rattle.kv_session.specs.Filling.{Fills}
use Rattle.kv_session.specs.Session.{Line, IsFull, Feeds}

-- a line of these parts
abbrev pub line_of : Features → Bool → List ℕ → Line
line_of features quit held = record { held = held; features = features; quit = quit }

filling_feeds : (features : Features) (quit : Bool) (held piece new : List ℕ) (n : ℕ) → quit ≡ false → Fills held piece new n → Feeds (line_of features quit held) piece (line_of features quit new) n
filling_feeds features quit held piece new n going fills =
    record {
      within = fills.within;
      taken = ap (line_of features quit) fills.taken;
      enough = elim fills.enough [ inl all ↦ inl all | inr filled ↦ inr (inr filled) ];
      no_more = λ k lt full. elim full [ inl quitted ↦ absurd (cc) | inr filled ↦ fills.no_more k lt filled ];
    }

pub feeds_by : {E : Type 0} (r : Result ℕ E) (old : Line) (features : Features) (quit : Bool) (held piece new : List ℕ) → line_of features quit held ≡ old → quit ≡ false
    → IfOk r (λ n. Fills held piece new n) → IfOk r (λ n. Feeds old piece (line_of features quit new) n)
feeds_by r old features quit held piece new is going done =
    IfOk-weaker r (λ n. Fills held piece new n) (λ n. Feeds old piece (line_of features quit new) n)
    (λ n fills. subst (λ (line : Line). Feeds line piece (line_of features quit new) n) is (filling_feeds features quit held piece new n going fills)) done

-- ---- where none is taken

pub none_left : (piece : List ℕ) → length piece ≡ 0 → piece ≡ []
none_left [] e = refl
none_left (byte ∷ piece) e = absurd (omega (arith, e))

-- a line to which nothing was added is as it was
taken_none : (old new : Line) (piece : List ℕ) → new ≡ record old { held = old.held ++ take 0 piece } → new ≡ old
taken_none old new piece e = e ∙ ap (λ (held : List ℕ). record old { held = held }) (append-nil old.held)

full_takes_none : (old new : Line) (piece : List ℕ) (n : ℕ) → Feeds old piece new n → IsFull old → n ≡ 0
full_takes_none old new piece n feeds full =
    elim (cases_lt 0 n) [
      | inl some ↦ absurd (feeds.no_more 0 some (subst IsFull (sym (taken_none old (record old { held = old.held ++ take 0 piece }) piece refl)) full))
      | inr none ↦ omega arith
    ]

pub none_taken : (old new : Line) (piece : List ℕ) (n : ℕ) → Feeds old piece new n → (n ≡ 0) ↔ ((piece ≡ []) ⊎ IsFull old)
none_taken old new piece n feeds = (
  λ none. elim feeds.enough [
    | inl all ↦ inl (none_left piece (sym all ∙ none))
    | inr full ↦ inr (subst IsFull (taken_none old new piece (subst (λ (n : ℕ). new ≡ record old { held = old.held ++ take n piece }) none feeds.taken)) full)
  ],
  λ either. elim either [
    | inl empty ↦ omega (arith, feeds.within, ap (λ (l : List ℕ). length l) empty)
    | inr full ↦ full_takes_none old new piece n feeds full
  ],
)
