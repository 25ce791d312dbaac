-- What stands at the front of a list that grows.
use Rattle.std.proofs.Common.{◌≡◌, ℕ, ◌+◌, ◌<◌, ◌≤◌, List, [], ◌∷◌, ◌++◌, length, take, drop, get_or, refl, sym, ap, ◌∙◌, arith, length-append}
use Rattle.std.proofs.lemmas.List.{take-take, take_at, take_more, take-append-drop}
use Rattle.std.proofs.lemmas.List.Concat.{flat_map-append}
use Rattle.kv_frame.specs.declared.frame.FrameExtra.{FrameExtra}
use Rattle.kv_frame.specs.Grammar.{extra, section}

-- the front of a front
pub kept_behind : (old more new : List ℕ) → take (length (old ++ more)) new ≡ old ++ more → take (length old) new ≡ old
kept_behind old more new kept =
    sym (take-take (length old) (length (old ++ more)) new (omega (arith, length-append old more))) ∙ ap (take (length old)) kept ∙ take_at old more (length old) refl

-- the framing extras before one, and it, are no longer than all
pub section_room : (es : List FrameExtra) (i : ℕ) (d : FrameExtra) → i < length es → length (section (take i es)) + length (extra (get_or es i d)) ≤ length (section es)
section_room es i d lt =
    let here : section (take (i + 1) es) ≡ section (take i es) ++ (extra (get_or es i d) ++ []) = ap section (take_more es i d lt) ∙ flat_map-append extra (take i es) (get_or es i d ∷ []) in
    let all : section (take (i + 1) es) ++ section (drop (i + 1) es) ≡ section es = sym (flat_map-append extra (take (i + 1) es) (drop (i + 1) es)) ∙ ap section (take-append-drop (i + 1) es) in
    omega (
      arith,
      ap (λ (l : List ℕ). length l) here,
      ap (λ (l : List ℕ). length l) all,
      length-append (section (take (i + 1) es)) (section (drop (i + 1) es)),
      length-append (section (take i es)) (extra (get_or es i d) ++ []),
      length-append (extra (get_or es i d)) [],
    )
