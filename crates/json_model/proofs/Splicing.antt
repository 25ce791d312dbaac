-- A change of the tree is a splice of its bytes.
use Rattle.std.proofs.Common.{◌≡◌, ℕ, zero, suc, List, [], ◌∷◌, ◌++◌, Some, refl, sym, ap, ◌∙◌, append_assoc}
use Rattle.json_model.specs.Spelled.{Tree, Parts, last, more, opening, closing, head_text, text, parts_text}
use Rattle.json_model.specs.Follow.{child}
use Rattle.json_model.specs.Moves.{at_part, at_trail}
use Rattle.json_model.specs.Splices.{Reaches, here, there, Around}

part_around : (k : ℕ) (ps : Parts) (t : Tree) → child ps k ≡ Some t → Around (λ f. parts_text (at_part k f ps)) t
part_around zero (last h u g) t e = let same : u ≡ t = cc in record { front = head_text h; back = g; spliced = λ f. ap (λ v. head_text h ++ (text (f v) ++ g)) same }
part_around (suc k) (last h u g) t e = cc
part_around zero (more h u g ps) t e = let same : u ≡ t = cc in record { front = head_text h; back = g ++ 0x2c ∷ parts_text ps; spliced = λ f. ap (λ v. head_text h ++ (text (f v) ++ (g ++ 0x2c ∷ parts_text ps))) same }
part_around (suc k) (more h u g ps) t e =
    let a = part_around k ps t e in
    let before : List ℕ = head_text h ++ (text u ++ (g ++ 0x2c ∷ a.front)) in
    record { front = before; back = a.back; spliced = λ f. ap (λ l. head_text h ++ (text u ++ (g ++ 0x2c ∷ l))) (a.spliced f) ∙ simp append_assoc }

append_none : (l : List ℕ) → l ++ [] ≡ l
append_none [] = refl
append_none (x ∷ l) = ap (λ m. x ∷ m) (append_none l)

-- a change of the value at the end of a trail is a change of the bytes there
pub trail_around : (trail : List ℕ) (root t : Tree) → Reaches trail root t → Around (λ f. text (at_trail trail f root)) t
trail_around trail root t (here u) = record { front = []; back = []; spliced = λ f. sym (append_none (text (f u))) }
trail_around trail root t (there k ks shape ps u v e r) =
    let p = part_around k ps u e in
    let a = trail_around ks u v r in
    record {
      front = opening shape ∷ (p.front ++ a.front);
      back = a.back ++ (p.back ++ closing shape ∷ []);
      spliced = λ f. ap (λ l. opening shape ∷ (l ++ closing shape ∷ [])) (p.spliced (at_trail ks f) ∙ ap (λ l. p.front ++ (l ++ p.back)) (a.spliced f)) ∙ simp append_assoc;
    }
