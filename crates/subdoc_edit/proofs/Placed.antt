-- Where parts stand in a text, and the places at which they change.
use Rattle.std.proofs.Common.{◌≡◌, ℕ, zero, suc, ◌+◌, ◌-◌, ◌<◌, ◌≤◌, List, [], ◌∷◌, ◌++◌, length, Option, None, Some, ◌⊎◌, inl, inr, refl, sym, ap, subst, ◌∙◌, arith, append_assoc, length-append}
use Rattle.std.proofs.lemmas.Bool.{cases_lt}
use Rattle.json_model.specs.declared.kinds.Shape.{Shape}
use Rattle.json_model.specs.declared.kinds.Shape.TheVariants as shapes
use Rattle.json_model.specs.Spelled.{Head, plain, keyed, Tree, leaf, empty, group, Parts, last, more, opening, closing, text, head_text, parts_text, HeadFits, PartsFit, count}
use Rattle.json_model.specs.Moves.{gap_before, ended, pushed, inserted, with_pushed, with_inserted, with_removed, without}
use Rattle.json_walk.specs.declared.places.PartAt.{PartAt}
use Rattle.json_walk.specs.Places.{IsAt, ArePartsAt}
use Rattle.json_walk.specs.Telling.{first_tree, part_at, end_at, parts_behind, told, part_of, last_end_at, last_end_of}
use Rattle.json_walk.proofs.Standing.{first_value, inside, behind_comma}
use Rattle.subdoc_edit.specs.Splicing.{Spliced, IsTrimmed, Holds, IsArray, start_in, value_in, end_in, before_in}
use Rattle.subdoc_edit.proofs.Splices.{spliced_at, spliced_as, between, trimmed_ended, push_parts, insert_parts, cut_before, cut_behind, cut_only}

count_some : (ps : Parts) → 1 ≤ count ps
count_some (last h t g) = omega arith
count_some (more h t g ps) = omega arith

some_part : (p q : PartAt) → Some p ≡ Some q → p ≡ q
some_part p q e = cc

none_part : (p : PartAt) → None ≡ Some p → ⊥
none_part p e = cc

some_none : (p : PartAt) → Some p ≡ None → ⊥
some_none p e = cc

some_end : (n m : ℕ) → Some n ≡ Some m → n ≡ m
some_end n m e = cc

none_end : (n : ℕ) → None ≡ Some n → ⊥
none_end n e = cc

end_none_at : (n : ℕ) → Some n ≡ None → ⊥
end_none_at n e = cc

-- ---- the bytes of a whole value

brackets : (front back l : List ℕ) (o c : ℕ) → front ++ ((o ∷ (l ++ c ∷ [])) ++ back) ≡ (front ++ o ∷ []) ++ (l ++ (c ∷ back))
brackets front back l o c = simp append_assoc

group_splice : (bytes front back : List ℕ) (shape : Shape) (ps : Parts) (q these : List ℕ) (from to : ℕ) → bytes ≡ front ++ (text (group shape ps) ++ back) → Spliced (parts_text ps) q these from to
    → Spliced bytes (front ++ ((opening shape ∷ (q ++ closing shape ∷ [])) ++ back)) these (length front + 1 + from) (length front + 1 + to)
group_splice bytes front back shape ps q these from to was s =
    let a : List ℕ = front ++ opening shape ∷ [] in
    let b : List ℕ = closing shape ∷ back in
    let long : length a ≡ length front + 1 = length-append front (opening shape ∷ []) in
    spliced_at bytes (front ++ ((opening shape ∷ (q ++ closing shape ∷ [])) ++ back)) these (length a + from) (length a + to) (length front + 1 + from) (length front + 1 + to)
    (spliced_as (a ++ (parts_text ps ++ b)) (a ++ (q ++ b)) these bytes (front ++ ((opening shape ∷ (q ++ closing shape ∷ [])) ++ back)) these (length a + from) (length a + to)
    (between a b (parts_text ps) q these from to s)
    (was ∙ brackets front back (parts_text ps) (opening shape) (closing shape)) (brackets front back q (opening shape) (closing shape)) refl)
    (omega (arith, long)) (omega (arith, long))

empty_old : (front back gap : List ℕ) (o c : ℕ) → front ++ ((o ∷ (gap ++ c ∷ [])) ++ back) ≡ (front ++ o ∷ []) ++ ([] ++ (gap ++ c ∷ back))
empty_old front back gap o c = simp append_assoc

empty_new : (front back new gap : List ℕ) (o c : ℕ) → front ++ ((o ∷ ((new ++ gap) ++ c ∷ [])) ++ back) ≡ (front ++ o ∷ []) ++ (new ++ (gap ++ c ∷ back))
empty_new front back new gap o c = simp append_assoc

empty_splice : (bytes front back gap : List ℕ) (shape : Shape) (q new : List ℕ) → bytes ≡ front ++ (text (empty shape gap) ++ back) → q ≡ new ++ gap
    → Spliced bytes (front ++ ((opening shape ∷ (q ++ closing shape ∷ [])) ++ back)) new (length front + 1) (length front + 1)
empty_splice bytes front back gap shape q new was e = record {
  front = front ++ opening shape ∷ [];
  middle = [];
  back = gap ++ closing shape ∷ back;
  was = was ∙ empty_old front back gap (opening shape) (closing shape);
  is = ap (λ (l : List ℕ). front ++ ((opening shape ∷ (l ++ closing shape ∷ [])) ++ back)) e ∙ empty_new front back new gap (opening shape) (closing shape);
  from_is = sym (length-append front (opening shape ∷ []));
  to_is = omega (arith, length-append front (opening shape ∷ []));
}

-- ---- new parts at the end

pub end_none : (bytes : List ℕ) (at : ℕ) (t : Tree) (s : IsAt bytes at t) → Holds t → None ≡ last_end_of at t → (new : Parts) → IsTrimmed new
    → Spliced bytes (s.front ++ (text (with_pushed new t) ++ s.back)) (parts_text new) (at + 1) (at + 1)
end_none bytes at (leaf kind x) s holds none new trim = absurd holds
end_none bytes at (empty shape gap) s holds none new trim =
    spliced_at bytes (s.front ++ (text (with_pushed new (empty shape gap)) ++ s.back)) (parts_text new) (length s.front + 1) (length s.front + 1) (at + 1) (at + 1)
    (empty_splice bytes s.front s.back gap shape (parts_text (ended gap new)) (parts_text new) s.spelled (trimmed_ended gap new trim))
    (omega (arith, s.at_is)) (omega (arith, s.at_is))
end_none bytes at (group shape ps) s holds none new trim = absurd (none_end (last_end_at (at + 1) ps) none)

-- the last part's value ends there
last_end_in : (k at : ℕ) (ps : Parts) → suc k ≡ count ps → last_end_at at ps ≡ at + end_in k ps
last_end_in zero at (last h t g) c = omega arith
last_end_in (suc k) at (last h t g) c = absurd (omega (arith, c))
last_end_in zero at (more h t g ps) c = absurd (omega (arith, c, count_some ps))
last_end_in (suc k) at (more h t g ps) c = omega (arith, last_end_in k (end_at at (more h t g ps) + length g + 1) ps (omega (arith, c)))

pub end_some : (bytes : List ℕ) (at end : ℕ) (t : Tree) (s : IsAt bytes at t) → Some end ≡ last_end_of at t → (new : Parts) → IsTrimmed new
    → Spliced bytes (s.front ++ (text (with_pushed new t) ++ s.back)) (0x2c ∷ parts_text new) end end
end_some bytes at end (leaf kind x) s some new trim = absurd (end_none_at end some)
end_some bytes at end (empty shape gap) s some new trim = absurd (end_none_at end some)
end_some bytes at end (group shape ps) s some new trim =
    let k : ℕ = count ps - 1 in
    let all : suc k ≡ count ps = omega (arith, count_some ps) in
    let place : end ≡ at + 1 + end_in k ps = some_end end (last_end_at (at + 1) ps) some ∙ last_end_in k (at + 1) ps all in
    spliced_at bytes (s.front ++ (text (with_pushed new (group shape ps)) ++ s.back)) (0x2c ∷ parts_text new) (length s.front + 1 + end_in k ps) (length s.front + 1 + end_in k ps) end end
    (group_splice bytes s.front s.back shape ps (parts_text (pushed new ps)) (0x2c ∷ parts_text new) (end_in k ps) (end_in k ps) s.spelled (push_parts k new ps trim all))
    (omega (arith, place, s.at_is)) (omega (arith, place, s.at_is))

-- ---- new elements before others

no_more : (l : List ℕ) → l ++ [] ≡ l
no_more [] = refl
no_more (x ∷ l) = ap (λ (m : List ℕ). x ∷ m) (no_more l)

pub front_none : (bytes : List ℕ) (at : ℕ) (t : Tree) (s : IsAt bytes at t) → IsArray t → None ≡ part_of 0 at t → (new : Parts) → IsTrimmed new
    → Spliced bytes (s.front ++ (text (with_inserted 0 new t) ++ s.back)) (parts_text new ++ []) (at + 1) (at + 1)
front_none bytes at (leaf kind x) s array none new trim = absurd array
front_none bytes at (empty shape gap) s array none new trim =
    let new_text : List ℕ = s.front ++ (text (with_inserted 0 new (empty shape gap)) ++ s.back) in
    spliced_at bytes new_text (parts_text new ++ []) (length s.front + 1) (length s.front + 1) (at + 1) (at + 1)
    (spliced_as bytes new_text (parts_text new) bytes new_text (parts_text new ++ []) (length s.front + 1) (length s.front + 1)
    (empty_splice bytes s.front s.back gap shape (parts_text (ended gap new)) (parts_text new) s.spelled (trimmed_ended gap new trim)) refl refl (no_more (parts_text new)))
    (omega (arith, s.at_is)) (omega (arith, s.at_is))
front_none bytes at (group shape ps) s array none new trim = absurd (none_part (part_at (at + 1) ps) none)

-- before the element of this number
insert_before : (bytes : List ℕ) (at : ℕ) (ps : Parts) (s : IsAt bytes at (group shapes.Array ps)) (k from : ℕ) → k < count ps → from ≡ at + 1 + start_in k ps → (new : Parts) → IsTrimmed new
    → Spliced bytes (s.front ++ (text (with_inserted k new (group shapes.Array ps)) ++ s.back)) (parts_text new ++ 0x2c ∷ []) from from
insert_before bytes at ps s k from few e new trim =
    spliced_at bytes (s.front ++ (text (with_inserted k new (group shapes.Array ps)) ++ s.back)) (parts_text new ++ 0x2c ∷ []) (length s.front + 1 + start_in k ps) (length s.front + 1 + start_in k ps) from from
    (group_splice bytes s.front s.back shapes.Array ps (parts_text (inserted k new ps)) (parts_text new ++ 0x2c ∷ []) (start_in k ps) (start_in k ps) s.spelled (insert_parts k new ps trim few))
    (omega (arith, e, s.at_is)) (omega (arith, e, s.at_is))

plain_start : (h : Head) → HeadFits shapes.Array h → length (head_text h) ≡ length (gap_before h)
plain_start (plain gap) f = refl
plain_start (keyed gap key b v) f = absurd f

-- an element begins with its value
value_start : (ps : Parts) (k : ℕ) → PartsFit shapes.Array ps → k < count ps → value_in k ps ≡ start_in k ps
value_start (last h t g) zero f c = plain_start h f.0
value_start (last h t g) (suc k) f c = absurd (omega (arith, c))
value_start (more h t g ps) zero f c = plain_start h f.0
value_start (more h t g ps) (suc k) f c = omega (arith, value_start ps k f.3 (omega (arith, c)))

pub insert_at : (bytes : List ℕ) (whole : ℕ) (ps : Parts) (s : IsAt bytes whole (group shapes.Array ps)) (k at : ℕ) → k < count ps → at ≡ whole + 1 + value_in k ps → (new : Parts) → IsTrimmed new
    → Spliced bytes (s.front ++ (text (with_inserted k new (group shapes.Array ps)) ++ s.back)) (parts_text new ++ 0x2c ∷ []) at at
insert_at bytes whole ps s k at few e new trim = insert_before bytes whole ps s k at few (omega (arith, e, value_start ps k s.fits few)) new trim

first_start : (at : ℕ) (ps : Parts) → (part_at at ps).start ≡ at + start_in 0 ps
first_start at (last h t g) = refl
first_start at (more h t g ps) = refl

pub front_some : (bytes : List ℕ) (at : ℕ) (t : Tree) (p : PartAt) (s : IsAt bytes at t) → IsArray t → Some p ≡ part_of 0 at t → (new : Parts) → IsTrimmed new
    → Spliced bytes (s.front ++ (text (with_inserted 0 new t) ++ s.back)) (parts_text new ++ 0x2c ∷ []) p.start p.start
front_some bytes at (leaf kind x) p s array some new trim = absurd array
front_some bytes at (empty shape gap) p s array some new trim = absurd (some_none p some)
front_some bytes at (group shapes.Object ps) p s array some new trim = absurd (apart array)
  where
    apart : shapes.Object ≡ shapes.Array → ⊥
    apart e = cc
front_some bytes at (group shapes.Array ps) p s array some new trim =
    let start : p.start ≡ at + 1 + start_in 0 ps = ap (λ (q : PartAt). q.start) (some_part p (part_at (at + 1) ps) some) ∙ first_start (at + 1) ps in
    insert_before bytes at ps s 0 p.start (omega (arith, count_some ps)) start new trim

-- ---- the part of a number

-- the parts from this one on: where they stand, and what follows
pub record Nth (bytes : List ℕ) (shape : Shape) (at : ℕ) (ps : Parts) (k : ℕ) : Type 0 where
  pub from : ℕ
  pub left : Parts
  pub there : ArePartsAt bytes from shape left
  pub value_is : (part_at from left).value ≡ at + value_in k ps
  pub end_is : end_at from left ≡ at + end_in k ps
  pub follows : suc k < count ps → (p : PartAt) × (told (parts_behind from left) ≡ Some p) × (p.start ≡ at + start_in (suc k) ps)
  pub ends : suc k ≡ count ps → told (parts_behind from left) ≡ None

pub nth : (bytes : List ℕ) (shape : Shape) (at : ℕ) (ps : Parts) (k : ℕ) → ArePartsAt bytes at shape ps → k < count ps → Nth bytes shape at ps k
nth bytes shape at (last h t g) zero s c = record {
  from = at;
  left = last h t g;
  there = s;
  value_is = refl;
  end_is = omega arith;
  follows = λ less. absurd (omega (arith, less));
  ends = λ all. refl;
}
nth bytes shape at (last h t g) (suc k) s c = absurd (omega (arith, c))
nth bytes shape at (more h t g ps) zero s c =
    let place : ℕ = end_at at (more h t g ps) + length g + 1 in
    record {
      from = at;
      left = more h t g ps;
      there = s;
      value_is = refl;
      end_is = omega arith;
      follows = λ less. (part_at place ps, refl, omega (arith, first_start place ps));
      ends = λ all. absurd (omega (arith, all, count_some ps));
    }
nth bytes shape at (more h t g ps) (suc k) s c =
    let place : ℕ = end_at at (more h t g ps) + length g + 1 in
    let n = nth bytes shape place ps k (behind_comma bytes at shape h t g ps s) (omega (arith, c)) in
    record {
      from = n.from;
      left = n.left;
      there = n.there;
      value_is = omega (arith, n.value_is);
      end_is = omega (arith, n.end_is);
      follows = λ less. let f = n.follows (omega (arith, less)) in (f.0, f.1, omega (arith, f.2));
      ends = λ all. n.ends (omega (arith, all));
    }

-- ---- a part gone

part_end : (bytes : List ℕ) (shape : Shape) (at end : ℕ) (ps : Parts) (k : ℕ) (n : Nth bytes shape at ps k) → ((t : Tree) → IsAt bytes (at + value_in k ps) t → end ≡ at + value_in k ps + length (text t)) → end ≡ end_at n.from n.left
part_end bytes shape at end ps k n ends =
    let s : IsAt bytes (at + value_in k ps) (first_tree n.left) = subst (λ (i : ℕ). IsAt bytes i (first_tree n.left)) n.value_is (first_value bytes n.from shape n.left n.there) in
    omega (arith, ends (first_tree n.left) s, n.value_is)

-- with another behind it
cut_next : (bytes : List ℕ) (whole : ℕ) (shape : Shape) (ps : Parts) (k from to : ℕ) (s : IsAt bytes whole (group shape ps)) → suc k < count ps → from ≡ whole + 1 + start_in k ps → to ≡ whole + 1 + start_in (suc k) ps
    → Spliced bytes (s.front ++ (text (with_removed k (group shape ps)) ++ s.back)) [] from to
cut_next bytes whole shape (last h t g) k from to s few e f = absurd (omega (arith, few))
cut_next bytes whole shape (more h t g ps) k from to s few e f =
    spliced_at bytes (s.front ++ (text (with_removed k (group shape (more h t g ps))) ++ s.back)) [] (length s.front + 1 + start_in k (more h t g ps)) (length s.front + 1 + start_in (suc k) (more h t g ps)) from to
    (group_splice bytes s.front s.back shape (more h t g ps) (parts_text (without k h t g ps)) [] (start_in k (more h t g ps)) (start_in (suc k) (more h t g ps)) s.spelled (cut_before k h t g ps (omega (arith, few))))
    (omega (arith, e, s.at_is)) (omega (arith, f, s.at_is))

-- the last one, with another before it
cut_last : (bytes : List ℕ) (whole : ℕ) (shape : Shape) (ps : Parts) (k from to : ℕ) (s : IsAt bytes whole (group shape ps)) → suc (suc k) ≡ count ps → from ≡ whole + 1 + end_in k ps → to ≡ whole + 1 + end_in (suc k) ps
    → Spliced bytes (s.front ++ (text (with_removed (suc k) (group shape ps)) ++ s.back)) [] from to
cut_last bytes whole shape (last h t g) k from to s all e f = absurd (omega (arith, all))
cut_last bytes whole shape (more h t g ps) k from to s all e f =
    spliced_at bytes (s.front ++ (text (with_removed (suc k) (group shape (more h t g ps))) ++ s.back)) [] (length s.front + 1 + end_in k (more h t g ps)) (length s.front + 1 + end_in (suc k) (more h t g ps)) from to
    (group_splice bytes s.front s.back shape (more h t g ps) (parts_text (without (suc k) h t g ps)) [] (end_in k (more h t g ps)) (end_in (suc k) (more h t g ps)) s.spelled (cut_behind k h t g ps (omega (arith, all))))
    (omega (arith, e, s.at_is)) (omega (arith, f, s.at_is))

-- the only one
cut_alone : (bytes : List ℕ) (whole : ℕ) (shape : Shape) (ps : Parts) (from to : ℕ) (s : IsAt bytes whole (group shape ps)) → 1 ≡ count ps → from ≡ whole + 1 + start_in 0 ps → to ≡ whole + 1 + end_in 0 ps
    → Spliced bytes (s.front ++ (text (with_removed 0 (group shape ps)) ++ s.back)) [] from to
cut_alone bytes whole shape (more h t g ps) from to s one e f = absurd (omega (arith, one, count_some ps))
cut_alone bytes whole shape (last h t g) from to s one e f =
    spliced_at bytes (s.front ++ (text (with_removed 0 (group shape (last h t g))) ++ s.back)) [] (length s.front + 1 + start_in 0 (last h t g)) (length s.front + 1 + end_in 0 (last h t g)) from to
    (group_splice bytes s.front s.back shape (last h t g) (gap_before h ++ g) [] (start_in 0 (last h t g)) (end_in 0 (last h t g)) s.spelled (cut_only h t g))
    (omega (arith, e, s.at_is)) (omega (arith, f, s.at_is))

-- what is known where a part goes: its value's end, and what was told of the part behind it
pub record Goes (bytes : List ℕ) (shape : Shape) (at end : ℕ) (next : Option PartAt) : Type 0 where
  pub ends : (t : Tree) → IsAt bytes at t → end ≡ at + length (text t)
  pub next_is : (from : ℕ) (ps : Parts) → ArePartsAt bytes from shape ps → end ≡ end_at from ps → next ≡ told (parts_behind from ps)

goes_nth : (bytes : List ℕ) (shape : Shape) (whole at end : ℕ) (next : Option PartAt) (ps : Parts) (k : ℕ) → Goes bytes shape at end next → at ≡ whole + 1 + value_in k ps → (n : Nth bytes shape (whole + 1) ps k) → end ≡ end_at n.from n.left
goes_nth bytes shape whole at end next ps k g e n = part_end bytes shape (whole + 1) end ps k n (λ t s. g.ends t (subst (λ (i : ℕ). IsAt bytes i t) (sym e) s) ∙ ap (λ (i : ℕ). i + length (text t)) e)

pub cut_some : (bytes : List ℕ) (shape : Shape) (whole at end from : ℕ) (p : PartAt) (ps : Parts) (k : ℕ) (s : IsAt bytes whole (group shape ps)) → k < count ps → at ≡ whole + 1 + value_in k ps → from ≡ whole + 1 + start_in k ps → Goes bytes shape at end (Some p)
    → Spliced bytes (s.front ++ (text (with_removed k (group shape ps)) ++ s.back)) [] from p.start
cut_some bytes shape whole at end from p ps k s few e start g = by (cases_lt (suc k) (count ps))
  where
    n : Nth bytes shape (whole + 1) ps k
    n = nth bytes shape (whole + 1) ps k (inside bytes whole shape ps s) few

    next_is : Some p ≡ told (parts_behind n.from n.left)
    next_is = g.next_is n.from n.left n.there (goes_nth bytes shape whole at end (Some p) ps k g e n)

    by : (suc k < count ps) ⊎ (count ps ≤ suc k) → Spliced bytes (s.front ++ (text (with_removed k (group shape ps)) ++ s.back)) [] from p.start
    by (inl less) =
        let f = n.follows less in
        cut_next bytes whole shape ps k from p.start s less start (ap (λ (q : PartAt). q.start) (some_part p f.0 (next_is ∙ f.1)) ∙ f.2)
    by (inr all) = absurd (some_none p (next_is ∙ n.ends (omega (arith, all, few))))

-- no part behind it
no_next : (bytes : List ℕ) (shape : Shape) (whole at end : ℕ) (ps : Parts) (k : ℕ) (s : IsAt bytes whole (group shape ps)) → k < count ps → at ≡ whole + 1 + value_in k ps → Goes bytes shape at end None → suc k ≡ count ps
no_next bytes shape whole at end ps k s few e g = by (cases_lt (suc k) (count ps))
  where
    n : Nth bytes shape (whole + 1) ps k
    n = nth bytes shape (whole + 1) ps k (inside bytes whole shape ps s) few

    by : (suc k < count ps) ⊎ (count ps ≤ suc k) → suc k ≡ count ps
    by (inl less) = let f = n.follows less in absurd (none_part f.0 (g.next_is n.from n.left n.there (goes_nth bytes shape whole at end None ps k g e n) ∙ f.1))
    by (inr all) = omega (arith, all, few)

end_there : (bytes : List ℕ) (shape : Shape) (whole at end : ℕ) (ps : Parts) (k : ℕ) (s : IsAt bytes whole (group shape ps)) → k < count ps → at ≡ whole + 1 + value_in k ps → Goes bytes shape at end None → end ≡ whole + 1 + end_in k ps
end_there bytes shape whole at end ps k s few e g =
    let n = nth bytes shape (whole + 1) ps k (inside bytes whole shape ps s) few in
    goes_nth bytes shape whole at end None ps k g e n ∙ n.end_is

pub cut_previous : (bytes : List ℕ) (shape : Shape) (whole at end previous : ℕ) (ps : Parts) (k : ℕ) (s : IsAt bytes whole (group shape ps)) → k < count ps → at ≡ whole + 1 + value_in k ps → Some previous ≡ before_in (whole + 1) k ps → Goes bytes shape at end None
    → Spliced bytes (s.front ++ (text (with_removed k (group shape ps)) ++ s.back)) [] previous end
cut_previous bytes shape whole at end previous ps zero s few e before g = absurd (end_none_at previous before)
cut_previous bytes shape whole at end previous ps (suc k) s few e before g =
    cut_last bytes whole shape ps k previous end s (no_next bytes shape whole at end ps (suc k) s few e g) (some_end previous (whole + 1 + end_in k ps) before) (end_there bytes shape whole at end ps (suc k) s few e g)

pub cut_whole : (bytes : List ℕ) (shape : Shape) (whole at end from : ℕ) (ps : Parts) (k : ℕ) (s : IsAt bytes whole (group shape ps)) → k < count ps → at ≡ whole + 1 + value_in k ps → from ≡ whole + 1 + start_in k ps → None ≡ before_in (whole + 1) k ps → Goes bytes shape at end None
    → Spliced bytes (s.front ++ (text (with_removed k (group shape ps)) ++ s.back)) [] from end
cut_whole bytes shape whole at end from ps zero s few e start before g =
    cut_alone bytes whole shape ps from end s (no_next bytes shape whole at end ps 0 s few e g) start (end_there bytes shape whole at end ps 0 s few e g)
cut_whole bytes shape whole at end from ps (suc k) s few e start before g = absurd (none_end (whole + 1 + end_in k ps) before)

-- a part stands within the bytes
pub part_within : (bytes : List ℕ) (shape : Shape) (whole at : ℕ) (ps : Parts) (k : ℕ) → IsAt bytes whole (group shape ps) → k < count ps → at ≡ whole + 1 + value_in k ps → (t : Tree) × IsAt bytes at t
part_within bytes shape whole at ps k s few e =
    let n = nth bytes shape (whole + 1) ps k (inside bytes whole shape ps s) few in
    (first_tree n.left, subst (λ (i : ℕ). IsAt bytes i (first_tree n.left)) (n.value_is ∙ sym e) (first_value bytes n.from shape n.left n.there))
