-- The blanks at both ends of a text, byte by byte.
use Rattle.std.proofs.Common.{◌≡◌, ℕ, ◌+◌, ◌-◌, ◌<◌, ◌≤◌, Bool, true, false, cond, List, [], ◌∷◌, ◌++◌, length, take, drop, get_or, reverse, refl, sym, ap, ◌∙◌, append_assoc, append-nil, arith}
use Rattle.std.proofs.Math.Seq.{drop-append_seam, take-length}
use Rattle.std.proofs.Math.ListN.{drop_of_length-le}
use Rattle.std.proofs.lemmas.List.{take_all, take_more, drop_more, reverse-append}
use Rattle.json_spell.specs.Tokens.{is_blank, gap}
use Rattle.xattr_step.specs.Answers.{blanks_before, blanks_behind}

gap_in : (x : ℕ) (xs : List ℕ) → is_blank x ≡ true → gap (x ∷ xs) ≡ x ∷ gap xs
unfolding gap
gap_in x xs e = ap (λ (b : Bool). cond b (x ∷ gap xs) []) e

gap_out : (x : ℕ) (xs : List ℕ) → is_blank x ≡ false → gap (x ∷ xs) ≡ []
unfolding gap
gap_out x xs e = ap (λ (b : Bool). cond b (x ∷ gap xs) []) e

gap_none : gap [] ≡ []
unfolding gap
gap_none = refl

-- ---- those at the front: all bytes before a place are blanks, and then come those behind it

abbrev pub Leads : List ℕ → ℕ → Type 0
Leads text i = gap text ≡ take i text ++ gap (drop i text)

pub leads_more : (text : List ℕ) (i : ℕ) → i < length text → true ≡ is_blank (get_or text i 0) → Leads text i → Leads text (i + 1)
leads_more text i less e h =
    let x = get_or text i 0 in
    let rest = drop (i + 1) text in
    h ∙ ap (λ (l : List ℕ). take i text ++ gap l) (drop_more text i 0 less) ∙ ap (λ (l : List ℕ). take i text ++ l) (gap_in x rest (sym e))
    ∙ sym (append_assoc (take i text) (x ∷ []) (gap rest)) ∙ ap (λ (l : List ℕ). l ++ gap rest) (sym (take_more text i 0 less))

pub leads_to : (text : List ℕ) (i : ℕ) → i < length text → false ≡ is_blank (get_or text i 0) → Leads text i → take i text ≡ blanks_before text
leads_to text i less e h =
    sym
    (h ∙ ap (λ (l : List ℕ). take i text ++ gap l) (drop_more text i 0 less) ∙ ap (λ (l : List ℕ). take i text ++ l) (gap_out (get_or text i 0) (drop (i + 1) text) (sym e))
    ∙ append-nil (take i text))

pub leads_all : (text : List ℕ) (i : ℕ) → length text ≤ i → Leads text i → text ≡ blanks_before text
leads_all text i past h =
    sym
    (h ∙ ap (λ (l : List ℕ). take i text ++ gap l) (drop_of_length-le text past) ∙ ap (λ (l : List ℕ). take i text ++ l) gap_none ∙ append-nil (take i text)
    ∙ take_all i text past)

-- ---- those at the end: all bytes behind a front are blanks, and before them come those at its end

pub record Trails (text front : List ℕ) : Type 0 where
  pub back : List ℕ
  pub split : text ≡ front ++ back
  pub blanks : blanks_behind text ≡ blanks_behind front ++ back

pub trails_none : (text : List ℕ) → Trails text text
trails_none text = record { back = []; split = sym (append-nil text); blanks = sym (append-nil (blanks_behind text)) }

-- the last byte of a front
behind_in : (before : List ℕ) (x : ℕ) → is_blank x ≡ true → blanks_behind (before ++ x ∷ []) ≡ blanks_behind before ++ x ∷ []
behind_in before x e =
    ap (λ (l : List ℕ). reverse (gap l)) (reverse-append before (x ∷ [])) ∙ ap reverse (gap_in x (reverse before) e) ∙ reverse-append (x ∷ []) (gap (reverse before))

behind_out : (before : List ℕ) (x : ℕ) → is_blank x ≡ false → blanks_behind (before ++ x ∷ []) ≡ []
behind_out before x e = ap (λ (l : List ℕ). reverse (gap l)) (reverse-append before (x ∷ [])) ∙ ap reverse (gap_out x (reverse before) e)

last_apart : (front : List ℕ) → 1 ≤ length front → front ≡ take (length front - 1) front ++ get_or front (length front - 1) 0 ∷ []
last_apart front some =
    let n : length front ≡ (length front - 1) + 1 = omega (arith, some) in
    sym (take-length front) ∙ ap (λ (k : ℕ). take k front) n ∙ take_more front (length front - 1) 0 (omega (arith, some))

pub trails_more : (text front : List ℕ) → 1 ≤ length front → true ≡ is_blank (get_or front (length front - 1) 0) → Trails text front → Trails text (take (length front - 1) front)
trails_more text front some e h =
    let before : List ℕ = take (length front - 1) front in
    let x : ℕ = get_or front (length front - 1) 0 in
    let apart : front ≡ before ++ x ∷ [] = last_apart front some in
    record {
      back = x ∷ h.back;
      split = h.split ∙ ap (λ (l : List ℕ). l ++ h.back) apart ∙ append_assoc before (x ∷ []) h.back;
      blanks = h.blanks ∙ ap (λ (l : List ℕ). blanks_behind l ++ h.back) apart ∙ ap (λ (l : List ℕ). l ++ h.back) (behind_in before x (sym e)) ∙ append_assoc (blanks_behind before) (x ∷ []) h.back;
    }

pub trails_to : (text front : List ℕ) → 1 ≤ length front → false ≡ is_blank (get_or front (length front - 1) 0) → Trails text front → drop (length front) text ≡ blanks_behind text
trails_to text front some e h =
    ap (λ (l : List ℕ). drop (length front) l) h.split ∙ drop-append_seam front h.back
    ∙ sym
    (h.blanks ∙ ap (λ (l : List ℕ). blanks_behind l ++ h.back) (last_apart front some)
    ∙ ap (λ (l : List ℕ). l ++ h.back) (behind_out (take (length front - 1) front) (get_or front (length front - 1) 0) (sym e)))

pub trails_all : (text front : List ℕ) → length front < 1 → Trails text front → text ≡ blanks_behind text
trails_all text [] none h = h.split ∙ sym (h.blanks ∙ ap (λ (l : List ℕ). reverse l ++ h.back) gap_none)
trails_all text (x ∷ xs) none h = absurd (omega arith)
