-- Plans are those of their changes.
use Rattle.std.proofs.Common.{◌≡◌, ℕ, zero, suc, ◌+◌, ◌-◌, ◌<◌, ◌≤◌, max, List, [], ◌∷◌, ◌++◌, length, take, drop, Bool, false, Option, Some, inl, inr, refl, sym, ap, ◌∙◌, arith, append_assoc, ℤ}
use Rattle.json_model.specs.declared.TheConstants.{MOST_DEEP}
use Rattle.std.specs.Fmt.{signed_decimal}
use Rattle.json_model.specs.declared.kinds.Kind.TheVariants as kinds
use Rattle.json_model.specs.declared.kinds.Shape.{Shape}
use Rattle.json_model.specs.declared.kinds.Shape.TheVariants as shapes
use Rattle.json_model.specs.Spelled.{Head, Tree, leaf, empty, group, Parts, last, more, text, parts_text, depth, parts_depth, count, Document}
use Rattle.json_model.specs.Follow.{child}
use Rattle.json_model.specs.Moves.{Change, put, push, insert, remove, changed, gap_before, without, with_pushed, with_inserted, with_removed}
use Rattle.json_model.specs.Splices.{Reaches, here, there}
use Rattle.json_model.specs.Edit.{member, nested}
use Rattle.json_model.proofs.Depths.{Both, trail_depth, led_depth, ended_depth, pushed_depth, inserted_depth}
use Rattle.json_spell.specs.declared.node.Span.{Span}
use Rattle.json_walk.specs.Places.{IsAt}
use Rattle.json_walk.specs.Telling.{tree_end}
use Rattle.subdoc_path.specs.Led.{StandsAt}
use Rattle.subdoc_edit.specs.declared.values.Given.{Given}
use Rattle.subdoc_edit.specs.declared.parents.Around.{Around}
use Rattle.subdoc_edit.specs.declared.places.Gap.{Gap}
use Rattle.subdoc_edit.specs.declared.plan.Plan.{Plan}
use Rattle.subdoc_edit.specs.declared.plan.Content.{Content}
use Rattle.subdoc_edit.specs.Splicing.{Spliced, Holds, IsArray, comma_if, EndsAt, BeginsAt, CutsAt, value_in}
use Rattle.subdoc_edit.specs.Numbers.{IsNumberPlan}
use Rattle.subdoc_edit.specs.Planning.{plan_bytes, changed_text, Plans, IsNew, IsWritten, IsContent, bracket_before, bracket_behind}
use Rattle.subdoc_edit.proofs.Splices.{spliced_as}
use Rattle.subdoc_edit.proofs.Placed.{insert_at}

-- ---- depths

child_depth : (k : ℕ) (ps : Parts) (u : Tree) → child ps k ≡ Some u → depth u ≤ parts_depth ps
child_depth zero (last h t g) u e = let same : t ≡ u = cc in omega (arith, ap depth same)
child_depth (suc k) (last h t g) u e = cc
child_depth zero (more h t g ps) u e = let same : t ≡ u = cc in omega (arith, ap depth same)
child_depth (suc k) (more h t g ps) u e = omega (arith, child_depth k ps u e)

-- a value is less deep than what it stands in, by the length of its trail
pub below : (trail : List ℕ) (root t : Tree) → Reaches trail root t → length trail + depth t ≤ depth root
below trail root t (here u) = omega arith
below trail root t (there k ks shape ps u v e r) = omega (arith, below ks u v r, child_depth k ps u e)

push_deep : (l : ℕ) (new : Parts) (t : Tree) → Holds t → l + depth t ≤ MOST_DEEP → Both (l + depth (with_pushed new t) ≤ MOST_DEEP) (l + 1 + parts_depth new ≤ MOST_DEEP)
push_deep l new (leaf kind s) holds within = absurd holds
push_deep l new (empty shape gap) holds within = record { forth = λ d. omega (arith, d, ended_depth gap new); back = λ d. omega (arith, d, ended_depth gap new) }
push_deep l new (group shape ps) holds within = record { forth = λ d. omega (arith, d, pushed_depth new ps); back = λ d. omega (arith, d, within, pushed_depth new ps) }

insert_deep : (l k : ℕ) (new : Parts) (t : Tree) → IsArray t → l + depth t ≤ MOST_DEEP → Both (l + depth (with_inserted k new t) ≤ MOST_DEEP) (l + 1 + parts_depth new ≤ MOST_DEEP)
insert_deep l k new (leaf kind s) array within = absurd array
insert_deep l k new (empty shape gap) array within = record { forth = λ d. omega (arith, d, ended_depth gap new); back = λ d. omega (arith, d, ended_depth gap new) }
insert_deep l k new (group shape ps) array within = record { forth = λ d. omega (arith, d, inserted_depth k new ps); back = λ d. omega (arith, d, within, inserted_depth k new ps) }

without_deep : (k : ℕ) (h : Head) (t : Tree) (g : List ℕ) (ps : Parts) → parts_depth (without k h t g ps) ≤ max (depth t) (parts_depth ps)
without_deep zero h t g ps = omega (arith, led_depth (gap_before h) ps)
without_deep (suc k) h t g (last o s b) = omega arith
without_deep (suc k) h t g (more o s b ps) = omega (arith, without_deep k o s b ps)

removed_deep : (k : ℕ) (t : Tree) → depth (with_removed k t) ≤ depth t
removed_deep k (leaf kind s) = omega arith
removed_deep k (empty shape gap) = omega arith
removed_deep k (group shape (last h t g)) = omega arith
removed_deep k (group shape (more h t g ps)) = omega (arith, without_deep k h t g ps)

nested_deep : (names : List (List ℕ)) (v : Tree) → depth (nested names v) ≡ length names + depth v
nested_deep [] v = omega arith
nested_deep (name ∷ names) v = omega (arith, nested_deep names v)

-- ---- one plan

-- bytes are those that a plan writes
pub record Puts (bytes value new : List ℕ) (p : Plan) : Type 0 where
  pub spliced : Spliced bytes new (plan_bytes value p) p.from p.to
  pub ordered : p.value_from ≤ p.value_to
  pub within : p.value_to ≤ length value

plan_at : (bytes value : List ℕ) (d : Document) (trail : List ℕ) (t : Tree) (at : ℕ) (c : Change) (p : Plan) → StandsAt bytes d trail t at
    → ((s : IsAt bytes at t) → p.depth ≤ MOST_DEEP → Puts bytes value (s.front ++ (text (changed c t) ++ s.back)) p)
    → (length trail + depth t ≤ MOST_DEEP → Both (length trail + depth (changed c t) ≤ MOST_DEEP) (p.depth ≤ MOST_DEEP)) → Plans bytes value d trail c p
plan_at bytes value d trail t at c p st writes deep =
    let both = trail_depth trail d.tree t (changed c) MOST_DEEP st.reaches st.is.depth in
    let told = deep (omega (arith, below trail d.tree t st.reaches, st.is.depth)) in
    record {
      shallow = λ less. both.back (told.back less);
      only = λ less. told.forth (both.forth less);
      writes = λ less.
          let w = writes st.place less in
          record {
            spliced = spliced_as bytes (st.place.front ++ (text (changed c t) ++ st.place.back)) (plan_bytes value p) bytes (changed_text d trail c) (plan_bytes value p) p.from p.to w.spliced refl (st.spliced (changed c)) refl;
            ordered = w.ordered;
            within = w.within;
          };
    }

no_more : (l : List ℕ) → l ++ [] ≡ l
no_more [] = refl
no_more (x ∷ l) = ap (λ (m : List ℕ). x ∷ m) (no_more l)

abbrev cut : List ℕ → ℕ → ℕ → List ℕ
cut value from to = take (to - from) (drop from value)

-- ---- a value in place of another

bare : (c : Content) (value l m : List ℕ) (v : Tree) → IsWritten value c v → c.listed ≡ false → l ≡ [] → m ≡ [] → l ++ (cut value c.from c.to ++ m) ≡ text v
bare c value l m v w b e f =
    ap (λ (x : List ℕ). x ++ (cut value c.from c.to ++ m)) e ∙ ap (λ (x : List ℕ). cut value c.from c.to ++ x) f
    ∙ sym (w.text_is ∙ ap (λ (x : Bool). bracket_before x ++ (cut value c.from c.to ++ bracket_behind x)) b)

pub put_plan : (bytes value before behind : List ℕ) (d : Document) (trail : List ℕ) (t v : Tree) (at followed : ℕ) (c : Content) (end : ℕ) → before ≡ [] → behind ≡ [] → c.listed ≡ false → ((u : Tree) → IsAt bytes at u → end ≡ tree_end at u)
    → StandsAt bytes d trail t at → followed ≡ length trail → IsContent value c v
    → Plans bytes value d trail (put v) (record { from = at; to = end; before = before; value_from = c.from; value_to = c.to; behind = behind; depth = followed + c.depth; number = c.number })
put_plan bytes value before behind d trail t v at followed c end e f b is st long (inl w) =
    plan_at bytes value d trail t at (put v) (record { from = at; to = end; before = before; value_from = c.from; value_to = c.to; behind = behind; depth = followed + c.depth; number = c.number }) st
    (λ s less.
    record {
      spliced = record {
        front = s.front;
        middle = text t;
        back = s.back;
        was = s.spelled;
        is = ap (λ (l : List ℕ). s.front ++ (l ++ s.back)) (sym (bare c value before behind v w b e f));
        from_is = sym s.at_is;
        to_is = omega (arith, is t s, s.at_is);
      };
      ordered = w.ordered;
      within = w.within;
    })
    (λ less. record { forth = λ h. omega (arith, h, long, w.depth_is); back = λ h. omega (arith, h, long, w.depth_is) })
put_plan bytes value before behind d trail t v at followed c end e f b is st long (inr w) =
    plan_at bytes value d trail t at (put v) (record { from = at; to = end; before = before; value_from = c.from; value_to = c.to; behind = behind; depth = followed + c.depth; number = c.number }) st
    (λ s less. absurd (omega (arith, less, w.1)))
    (λ less. record { forth = λ h. absurd (omega (arith, h, w.0)); back = λ h. absurd (omega (arith, h, w.1)) })

-- a number of its own in place of another value
pub number_plan : (bytes value : List ℕ) (d : Document) (trail : List ℕ) (t : Tree) (at followed end : ℕ) (number : ℤ) (p : Plan) → ((u : Tree) → IsAt bytes at u → end ≡ tree_end at u) → IsNumberPlan (record { from = at; to = end }) followed number p
    → StandsAt bytes d trail t at → followed ≡ length trail → Plans bytes value d trail (put (leaf kinds.Number (signed_decimal number))) p
number_plan bytes value d trail t at followed end number p is same st long =
    let new : List ℕ = signed_decimal number in
    let these : plan_bytes value p ≡ new =
    ap (λ (l : List ℕ). l ++ (take (p.value_to - p.value_from) (drop p.value_from value) ++ p.behind)) same.before_is
    ∙ ap (λ (k : ℕ). new ++ (take (k - p.value_from) (drop p.value_from value) ++ p.behind)) same.value_to_is
    ∙ ap (λ (k : ℕ). new ++ (take (0 - k) (drop k value) ++ p.behind)) same.value_from_is
    ∙ ap (λ (l : List ℕ). new ++ l) same.behind_is ∙ no_more new
    in
    plan_at bytes value d trail t at (put (leaf kinds.Number new)) p st
    (λ s less.
    record {
      spliced = record {
        front = s.front;
        middle = text t;
        back = s.back;
        was = s.spelled;
        is = ap (λ (l : List ℕ). s.front ++ (l ++ s.back)) (sym these);
        from_is = same.from_is ∙ sym s.at_is;
        to_is = omega (arith, same.to_is, is t s, s.at_is);
      };
      ordered = omega (arith, same.value_from_is);
      within = omega (arith, same.value_to_is);
    })
    (λ less. record { forth = λ h. omega (arith, h, long, same.depth_is); back = λ h. omega (arith, h, long, same.depth_is) })

-- ---- elements

push_bytes : (g : Given) (value before behind comma : List ℕ) (new : Parts) → IsNew value g new → before ≡ comma → behind ≡ [] → before ++ (cut value g.from g.to ++ behind) ≡ comma ++ parts_text new
push_bytes g value before behind comma new w e f =
    ap (λ (x : List ℕ). x ++ (cut value g.from g.to ++ behind)) e
    ∙ ap (λ (x : List ℕ). comma ++ (cut value g.from g.to ++ x)) f ∙ ap (λ (x : List ℕ). comma ++ x) (no_more (cut value g.from g.to) ∙ sym w.text_is)

pub push_plan : (bytes value before behind : List ℕ) (d : Document) (trail : List ℕ) (t : Tree) (new : Parts) (at followed : ℕ) (g : Given) (gap : Gap) (number : Option ℤ) → before ≡ comma_if gap.comma → behind ≡ [] → EndsAt bytes at gap
    → StandsAt bytes d trail t at → followed ≡ length trail → Holds t → IsNew value g new
    → Plans bytes value d trail (push new) (record { from = gap.at; to = gap.at; before = before; value_from = g.from; value_to = g.to; behind = behind; depth = followed + 1 + g.depth; number = number })
push_plan bytes value before behind d trail t new at followed g gap number e f ends st long holds w =
    plan_at bytes value d trail t at (push new) (record { from = gap.at; to = gap.at; before = before; value_from = g.from; value_to = g.to; behind = behind; depth = followed + 1 + g.depth; number = number }) st
    (λ s less.
    let new_text : List ℕ = s.front ++ (text (with_pushed new t) ++ s.back) in
    record {
      spliced = spliced_as bytes new_text (comma_if gap.comma ++ parts_text new) bytes new_text (before ++ (cut value g.from g.to ++ behind)) gap.at gap.at (ends t s holds new w.trimmed) refl refl (push_bytes g value before behind (comma_if gap.comma) new w e f);
      ordered = w.cut.ordered;
      within = w.cut.within;
    })
    (λ less.
    let b = push_deep (length trail) new t holds less in
    record { forth = λ h. omega (arith, b.forth h, long, w.depth_is); back = λ h. b.back (omega (arith, h, long, w.depth_is)) })

front_bytes : (g : Given) (value before behind comma : List ℕ) (new : Parts) → IsNew value g new → before ≡ [] → behind ≡ comma → before ++ (cut value g.from g.to ++ behind) ≡ parts_text new ++ comma
front_bytes g value before behind comma new w e f =
    ap (λ (x : List ℕ). x ++ (cut value g.from g.to ++ behind)) e
    ∙ ap (λ (x : List ℕ). cut value g.from g.to ++ x) f ∙ ap (λ (x : List ℕ). x ++ comma) (sym w.text_is)

pub front_plan : (bytes value before behind : List ℕ) (d : Document) (trail : List ℕ) (t : Tree) (new : Parts) (at followed : ℕ) (g : Given) (gap : Gap) (number : Option ℤ) → before ≡ [] → behind ≡ comma_if gap.comma → BeginsAt bytes at gap
    → StandsAt bytes d trail t at → followed ≡ length trail → IsArray t → IsNew value g new
    → Plans bytes value d trail (insert 0 new) (record { from = gap.at; to = gap.at; before = before; value_from = g.from; value_to = g.to; behind = behind; depth = followed + 1 + g.depth; number = number })
front_plan bytes value before behind d trail t new at followed g gap number e f begins st long array w =
    plan_at bytes value d trail t at (insert 0 new) (record { from = gap.at; to = gap.at; before = before; value_from = g.from; value_to = g.to; behind = behind; depth = followed + 1 + g.depth; number = number }) st
    (λ s less.
    let new_text : List ℕ = s.front ++ (text (with_inserted 0 new t) ++ s.back) in
    record {
      spliced = spliced_as bytes new_text (parts_text new ++ comma_if gap.comma) bytes new_text (before ++ (cut value g.from g.to ++ behind)) gap.at gap.at (begins t s array new w.trimmed) refl refl (front_bytes g value before behind (comma_if gap.comma) new w e f);
      ordered = w.cut.ordered;
      within = w.cut.within;
    })
    (λ less.
    let b = insert_deep (length trail) 0 new t array less in
    record { forth = λ h. omega (arith, b.forth h, long, w.depth_is); back = λ h. b.back (omega (arith, h, long, w.depth_is)) })

pub insert_plan : (bytes value before behind : List ℕ) (d : Document) (trail : List ℕ) (ps : Parts) (k whole : ℕ) (new : Parts) (at followed : ℕ) (g : Given) (number : Option ℤ) → before ≡ [] → behind ≡ 0x2c ∷ []
    → StandsAt bytes d trail (group shapes.Array ps) whole → k < count ps → at ≡ whole + 1 + value_in k ps → followed ≡ length trail + 1 → IsNew value g new
    → Plans bytes value d trail (insert k new) (record { from = at; to = at; before = before; value_from = g.from; value_to = g.to; behind = behind; depth = followed + g.depth; number = number })
insert_plan bytes value before behind d trail ps k whole new at followed g number e f st few i long w =
    plan_at bytes value d trail (group shapes.Array ps) whole (insert k new) (record { from = at; to = at; before = before; value_from = g.from; value_to = g.to; behind = behind; depth = followed + g.depth; number = number }) st
    (λ s less.
    let new_text : List ℕ = s.front ++ (text (with_inserted k new (group shapes.Array ps)) ++ s.back) in
    record {
      spliced = spliced_as bytes new_text (parts_text new ++ 0x2c ∷ []) bytes new_text (before ++ (cut value g.from g.to ++ behind)) at at (insert_at bytes whole ps s k at few i new w.trimmed) refl refl (front_bytes g value before behind (0x2c ∷ []) new w e f);
      ordered = w.cut.ordered;
      within = w.cut.within;
    })
    (λ less.
    let b = insert_deep (length trail) k new (group shapes.Array ps) refl less in
    record { forth = λ h. omega (arith, b.forth h, long, w.depth_is); back = λ h. b.back (omega (arith, h, long, w.depth_is)) })

-- ---- a part gone

pub remove_plan : (bytes value before behind : List ℕ) (d : Document) (trail : List ℕ) (shape : Shape) (ps : Parts) (k whole at : ℕ) (span : Span) (number : Option ℤ) → before ≡ [] → behind ≡ [] → CutsAt bytes whole at span
    → StandsAt bytes d trail (group shape ps) whole → k < count ps → at ≡ whole + 1 + value_in k ps
    → Plans bytes value d trail (remove k) (record { from = span.from; to = span.to; before = before; value_from = 0; value_to = 0; behind = behind; depth = 0; number = number })
remove_plan bytes value before behind d trail shape ps k whole at span number e f cuts st few i =
    plan_at bytes value d trail (group shape ps) whole (remove k) (record { from = span.from; to = span.to; before = before; value_from = 0; value_to = 0; behind = behind; depth = 0; number = number }) st
    (λ s less.
    let new_text : List ℕ = s.front ++ (text (with_removed k (group shape ps)) ++ s.back) in
    record {
      spliced = spliced_as bytes new_text [] bytes new_text (before ++ (cut value 0 0 ++ behind)) span.from span.to (cuts shape ps k s few i) refl refl (ap (λ (x : List ℕ). x ++ (cut value 0 0 ++ behind)) e ∙ f);
      ordered = omega arith;
      within = omega arith;
    })
    (λ less. record { forth = λ h. omega arith; back = λ h. omega (arith, removed_deep k (group shape ps), less) })

-- ---- a new member

member_pieces : (comma a o l c b : List ℕ) → (comma ++ (a ++ o)) ++ (l ++ (c ++ b)) ≡ comma ++ (a ++ ((o ++ (l ++ c)) ++ b))
member_pieces comma a o l c b = simp append_assoc

pub member_plan : (bytes value before behind : List ℕ) (d : Document) (trail : List ℕ) (t v : Tree) (name : List ℕ) (names : List (List ℕ)) (at total : ℕ) (a : Around) (c : Content) (gap : Gap) → before ≡ comma_if gap.comma ++ (a.before ++ bracket_before c.listed) → behind ≡ bracket_behind c.listed ++ a.behind → EndsAt bytes at gap
    → StandsAt bytes d trail t at → total ≡ length trail + (1 + length names) → Holds t → IsContent value c v → ((u : Tree) → parts_text (member name (nested names u)) ≡ a.before ++ (text u ++ a.behind))
    → Plans bytes value d trail (push (member name (nested names v))) (record { from = gap.at; to = gap.at; before = before; value_from = c.from; value_to = c.to; behind = behind; depth = total + c.depth; number = c.number })
member_plan bytes value before behind d trail t v name names at total a c gap e f ends st long holds (inl w) round =
    let new : Parts = member name (nested names v) in
    plan_at bytes value d trail t at (push new) (record { from = gap.at; to = gap.at; before = before; value_from = c.from; value_to = c.to; behind = behind; depth = total + c.depth; number = c.number }) st
    (λ s less.
    let new_text : List ℕ = s.front ++ (text (with_pushed new t) ++ s.back) in
    let middle : List ℕ = cut value c.from c.to in
    let same : before ++ (middle ++ behind) ≡ comma_if gap.comma ++ parts_text new =
    ap (λ (x : List ℕ). x ++ (middle ++ behind)) e
    ∙ ap (λ (x : List ℕ). (comma_if gap.comma ++ (a.before ++ bracket_before c.listed)) ++ (middle ++ x)) f
    ∙ member_pieces (comma_if gap.comma) a.before (bracket_before c.listed) middle (bracket_behind c.listed) a.behind
    ∙ ap (λ (x : List ℕ). comma_if gap.comma ++ (a.before ++ (x ++ a.behind))) (sym w.text_is)
    ∙ ap (λ (x : List ℕ). comma_if gap.comma ++ x) (sym (round v))
    in
    record {
      spliced = spliced_as bytes new_text (comma_if gap.comma ++ parts_text new) bytes new_text (before ++ (middle ++ behind)) gap.at gap.at (ends t s holds new (record { led_is = refl; ended_is = refl })) refl refl same;
      ordered = w.ordered;
      within = w.within;
    })
    (λ less.
    let b = push_deep (length trail) new t holds less in
    let deep : parts_depth new ≡ length names + c.depth = nested_deep names v ∙ ap (λ (n : ℕ). length names + n) w.depth_is in
    record { forth = λ h. omega (arith, b.forth h, long, deep); back = λ h. b.back (omega (arith, h, long, deep)) })
member_plan bytes value before behind d trail t v name names at total a c gap e f ends st long holds (inr w) round =
    let new : Parts = member name (nested names v) in
    plan_at bytes value d trail t at (push new) (record { from = gap.at; to = gap.at; before = before; value_from = c.from; value_to = c.to; behind = behind; depth = total + c.depth; number = c.number }) st
    (λ s less. absurd (omega (arith, less, w.1)))
    (λ less.
    let b = push_deep (length trail) new t holds less in
    let deep : parts_depth new ≡ length names + depth v = nested_deep names v in
    record { forth = λ h. absurd (omega (arith, b.forth h, deep, w.0)); back = λ h. absurd (omega (arith, h, w.1)) })
