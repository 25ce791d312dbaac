-- Changes of parts are splices of their bytes.
use Rattle.std.proofs.Common.{◌≡◌, ℕ, zero, suc, ◌+◌, ◌<◌, ◌≤◌, List, [], ◌∷◌, ◌++◌, length, take, drop, refl, sym, ap, ◌∙◌, arith, append_assoc, length-append}
use Rattle.std.proofs.lemmas.List.{take_at, drop_at}
use Rattle.json_model.specs.Spelled.{Head, plain, keyed, Tree, Parts, last, more, text, head_text, parts_text, count}
use Rattle.json_model.specs.Moves.{gap_before, led_head, led, ended, joined, pushed, inserted, without}
use Rattle.subdoc_edit.specs.Splicing.{Spliced, IsTrimmed, step, start_in, end_in}

-- ---- splices in general

-- the same splice, its places under other names
pub spliced_at : (old new these : List ℕ) (from to f u : ℕ) → Spliced old new these from to → f ≡ from → u ≡ to → Spliced old new these f u
spliced_at old new these from to f u s a b = record { front = s.front; middle = s.middle; back = s.back; was = s.was; is = s.is; from_is = a ∙ s.from_is; to_is = b ∙ s.to_is }

-- the same splice, its bytes under other names
pub spliced_as : (old new these was is put : List ℕ) (from to : ℕ) → Spliced old new these from to → was ≡ old → is ≡ new → put ≡ these → Spliced was is put from to
spliced_as old new these was is put from to s a b c = record { front = s.front; middle = s.middle; back = s.back; was = a ∙ s.was; is = b ∙ s.is ∙ ap (λ (l : List ℕ). s.front ++ (l ++ s.back)) (sym c); from_is = s.from_is; to_is = s.to_is }

shift : (a b f m k : List ℕ) → a ++ ((f ++ (m ++ k)) ++ b) ≡ (a ++ f) ++ (m ++ (k ++ b))
shift a b f m k = simp append_assoc

-- a splice between other bytes
pub between : (a b old new these : List ℕ) (from to : ℕ) → Spliced old new these from to → Spliced (a ++ (old ++ b)) (a ++ (new ++ b)) these (length a + from) (length a + to)
between a b old new these from to s = record {
  front = a ++ s.front;
  middle = s.middle;
  back = s.back ++ b;
  was = ap (λ (l : List ℕ). a ++ (l ++ b)) s.was ∙ shift a b s.front s.middle s.back;
  is = ap (λ (l : List ℕ). a ++ (l ++ b)) s.is ∙ shift a b s.front these s.back;
  from_is = omega (arith, s.from_is, length-append a s.front);
  to_is = omega (arith, s.to_is, length-append a s.front);
}

-- what a splice leaves, read off the old bytes
pub record Cut (old new these : List ℕ) (from to : ℕ) : Type 0 where
  pub ordered : from ≤ to
  pub within : to ≤ length old
  pub is : new ≡ take from old ++ (these ++ drop to old)

pub cut_is : (old new these : List ℕ) (from to : ℕ) → Spliced old new these from to → Cut old new these from to
cut_is old new these from to s =
    let front : take from old ≡ s.front = ap (λ (l : List ℕ). take from l) s.was ∙ take_at s.front (s.middle ++ s.back) from (sym s.from_is) in
    let long : length (s.front ++ s.middle) ≡ to = omega (arith, length-append s.front s.middle, s.to_is) in
    let back : drop to old ≡ s.back = ap (λ (l : List ℕ). drop to l) (s.was ∙ sym (append_assoc s.front s.middle s.back)) ∙ drop_at (s.front ++ s.middle) s.back to long in
    record {
      ordered = omega (arith, s.from_is, s.to_is);
      within = omega (arith, s.to_is, ap (λ (l : List ℕ). length l) s.was, length-append s.front (s.middle ++ s.back), length-append s.middle s.back);
      is = s.is ∙ ap (λ (l : List ℕ). l ++ (these ++ s.back)) (sym front) ∙ ap (λ (l : List ℕ). take from old ++ (these ++ l)) (sym back);
    }

-- ---- blanks

head_split : (h : Head) → head_text h ≡ gap_before h ++ head_text (led_head [] h)
head_split (plain gap) = sym (none gap)
  where
    none : (l : List ℕ) → l ++ [] ≡ l
    none [] = refl
    none (x ∷ l) = ap (λ (m : List ℕ). x ∷ m) (none l)
head_split (keyed gap key behind before) = refl

head_led : (gap : List ℕ) (h : Head) → head_text (led_head gap h) ≡ gap ++ head_text (led_head [] h)
head_led gap (plain old) = sym (none gap)
  where
    none : (l : List ℕ) → l ++ [] ≡ l
    none [] = refl
    none (x ∷ l) = ap (λ (m : List ℕ). x ∷ m) (none l)
head_led gap (keyed old key behind before) = refl

led_text : (gap : List ℕ) (ps : Parts) → parts_text (led gap ps) ≡ gap ++ parts_text (led [] ps)
led_text gap (last h t g) = ap (λ (l : List ℕ). l ++ (text t ++ g)) (head_led gap h) ∙ append_assoc gap (head_text (led_head [] h)) (text t ++ g)
led_text gap (more h t g ps) = ap (λ (l : List ℕ). l ++ (text t ++ (g ++ 0x2c ∷ parts_text ps))) (head_led gap h) ∙ append_assoc gap (head_text (led_head [] h)) (text t ++ (g ++ 0x2c ∷ parts_text ps))

-- the blanks before the first part
abbrev first_gap : Parts → List ℕ
first_gap (last h t g) = gap_before h
first_gap (more h t g ps) = gap_before h

first_start : (ps : Parts) → start_in 0 ps ≡ length (first_gap ps)
first_start (last h t g) = refl
first_start (more h t g ps) = refl

parts_split : (ps : Parts) → parts_text ps ≡ first_gap ps ++ parts_text (led [] ps)
parts_split (last h t g) = ap (λ (l : List ℕ). l ++ (text t ++ g)) (head_split h) ∙ append_assoc (gap_before h) (head_text (led_head [] h)) (text t ++ g)
parts_split (more h t g ps) = ap (λ (l : List ℕ). l ++ (text t ++ (g ++ 0x2c ∷ parts_text ps))) (head_split h) ∙ append_assoc (gap_before h) (head_text (led_head [] h)) (text t ++ (g ++ 0x2c ∷ parts_text ps))

later_end : (h t r e : List ℕ) → h ++ (t ++ (r ++ e)) ≡ (h ++ (t ++ r)) ++ e
later_end h t r e = simp append_assoc

later_comma : (h t g r e : List ℕ) → h ++ (t ++ (g ++ 0x2c ∷ (r ++ e))) ≡ (h ++ (t ++ (g ++ 0x2c ∷ r))) ++ e
later_comma h t g r e = simp append_assoc

pub ended_text : (gap : List ℕ) (ps : Parts) → parts_text (ended gap ps) ≡ parts_text (ended [] ps) ++ gap
ended_text gap (last h t g) = later_end (head_text h) (text t) [] gap
ended_text gap (more h t g ps) = ap (λ (l : List ℕ). head_text h ++ (text t ++ (g ++ 0x2c ∷ l))) (ended_text gap ps) ∙ later_comma (head_text h) (text t) g (parts_text (ended [] ps)) gap

pub trimmed_ended : (gap : List ℕ) (new : Parts) → IsTrimmed new → parts_text (ended gap new) ≡ parts_text new ++ gap
trimmed_ended gap new trim = ended_text gap new ∙ ap (λ (ps : Parts). parts_text ps ++ gap) trim.ended_is

trimmed_led : (gap : List ℕ) (new : Parts) → IsTrimmed new → parts_text (led gap new) ≡ gap ++ parts_text new
trimmed_led gap new trim = led_text gap new ∙ ap (λ (ps : Parts). gap ++ parts_text ps) trim.led_is

joined_comma : (h t g r e : List ℕ) → h ++ (t ++ (g ++ 0x2c ∷ e)) ≡ (h ++ (t ++ g)) ++ 0x2c ∷ e
joined_comma h t g r e = simp append_assoc

joined_text : (ps qs : Parts) → parts_text (joined ps qs) ≡ parts_text ps ++ 0x2c ∷ parts_text qs
joined_text (last h t g) qs = joined_comma (head_text h) (text t) g [] (parts_text qs)
joined_text (more h t g ps) qs = ap (λ (l : List ℕ). head_text h ++ (text t ++ (g ++ 0x2c ∷ l))) (joined_text ps qs) ∙ later_comma (head_text h) (text t) g (parts_text ps) (0x2c ∷ parts_text qs)

-- ---- one part further

later_bytes : (h t g f m b : List ℕ) → h ++ (t ++ (g ++ 0x2c ∷ (f ++ (m ++ b)))) ≡ (h ++ (t ++ (g ++ 0x2c ∷ f))) ++ (m ++ b)
later_bytes h t g f m b = simp append_assoc

later_long : (h t g f : List ℕ) → length (h ++ (t ++ (g ++ 0x2c ∷ f))) ≡ length h + (length t + (length g + 1)) + length f
later_long h t g f = omega (arith, length-append h (t ++ (g ++ 0x2c ∷ f)), length-append t (g ++ 0x2c ∷ f), length-append g (0x2c ∷ f))

later : (h : Head) (t : Tree) (g : List ℕ) (ps qs : Parts) (these : List ℕ) (from to : ℕ) → Spliced (parts_text ps) (parts_text qs) these from to
    → Spliced (parts_text (more h t g ps)) (parts_text (more h t g qs)) these (step h t g + from) (step h t g + to)
later h t g ps qs these from to s =
    let long : length (head_text h ++ (text t ++ (g ++ 0x2c ∷ s.front))) ≡ step h t g + length s.front = later_long (head_text h) (text t) g s.front in
    record {
      front = head_text h ++ (text t ++ (g ++ 0x2c ∷ s.front));
      middle = s.middle;
      back = s.back;
      was = ap (λ (l : List ℕ). head_text h ++ (text t ++ (g ++ 0x2c ∷ l))) s.was ∙ later_bytes (head_text h) (text t) g s.front s.middle s.back;
      is = ap (λ (l : List ℕ). head_text h ++ (text t ++ (g ++ 0x2c ∷ l))) s.is ∙ later_bytes (head_text h) (text t) g s.front these s.back;
      from_is = omega (arith, s.from_is, long);
      to_is = omega (arith, s.to_is, long);
    }

-- ---- new parts at the end

push_old : (h t g : List ℕ) → h ++ (t ++ g) ≡ (h ++ t) ++ ([] ++ g)
push_old h t g = simp append_assoc

push_new : (h t new g : List ℕ) → h ++ (t ++ ([] ++ 0x2c ∷ (new ++ g))) ≡ (h ++ t) ++ ((0x2c ∷ new) ++ g)
push_new h t new g = simp append_assoc

pub push_parts : (k : ℕ) (new ps : Parts) → IsTrimmed new → suc k ≡ count ps → Spliced (parts_text ps) (parts_text (pushed new ps)) (0x2c ∷ parts_text new) (end_in k ps) (end_in k ps)
push_parts zero new (last h t g) trim c = record {
  front = head_text h ++ text t;
  middle = [];
  back = g;
  was = push_old (head_text h) (text t) g;
  is = ap (λ (l : List ℕ). head_text h ++ (text t ++ ([] ++ 0x2c ∷ l))) (trimmed_ended g new trim) ∙ push_new (head_text h) (text t) (parts_text new) g;
  from_is = omega (arith, length-append (head_text h) (text t));
  to_is = omega (arith, length-append (head_text h) (text t));
}
push_parts (suc k) new (last h t g) trim c = absurd (omega (arith, c))
push_parts zero new (more h t g ps) trim c = absurd (none ps (omega (arith, c)))
  where
    none : (ps : Parts) → count ps ≡ 0 → ⊥
    none (last h t g) e = absurd (omega (arith, e))
    none (more h t g ps) e = absurd (omega (arith, e))
push_parts (suc k) new (more h t g ps) trim c = later h t g ps (pushed new ps) (0x2c ∷ parts_text new) (end_in k ps) (end_in k ps) (push_parts k new ps trim (omega (arith, c)))

-- ---- new parts before another

insert_old : (g l : List ℕ) → g ++ l ≡ g ++ ([] ++ l)
insert_old g l = refl

insert_new : (g new l : List ℕ) → (g ++ new) ++ 0x2c ∷ l ≡ g ++ ((new ++ 0x2c ∷ []) ++ l)
insert_new g new l = simp append_assoc

-- before the first of these parts
insert_first : (new ps : Parts) → IsTrimmed new → Spliced (parts_text ps) (parts_text (joined (led (first_gap ps) new) (led [] ps))) (parts_text new ++ 0x2c ∷ []) (start_in 0 ps) (start_in 0 ps)
insert_first new ps trim = record {
  front = first_gap ps;
  middle = [];
  back = parts_text (led [] ps);
  was = parts_split ps;
  is =
      joined_text (led (first_gap ps) new) (led [] ps)
      ∙ ap (λ (l : List ℕ). l ++ 0x2c ∷ parts_text (led [] ps)) (trimmed_led (first_gap ps) new trim)
      ∙ insert_new (first_gap ps) (parts_text new) (parts_text (led [] ps));
  from_is = first_start ps;
  to_is = omega (arith, first_start ps);
}

pub insert_parts : (k : ℕ) (new ps : Parts) → IsTrimmed new → k < count ps → Spliced (parts_text ps) (parts_text (inserted k new ps)) (parts_text new ++ 0x2c ∷ []) (start_in k ps) (start_in k ps)
insert_parts zero new (last h t g) trim c = insert_first new (last h t g) trim
insert_parts (suc k) new (last h t g) trim c = absurd (omega (arith, c))
insert_parts zero new (more h t g ps) trim c = insert_first new (more h t g ps) trim
insert_parts (suc k) new (more h t g ps) trim c = later h t g ps (inserted k new ps) (parts_text new ++ 0x2c ∷ []) (start_in k ps) (start_in k ps) (insert_parts k new ps trim (omega (arith, c)))

-- ---- a part gone

gone_old : (a h t g f r : List ℕ) → (a ++ h) ++ (t ++ (g ++ 0x2c ∷ (f ++ r))) ≡ a ++ ((h ++ (t ++ (g ++ 0x2c ∷ f))) ++ r)
gone_old a h t g f r = simp append_assoc

-- one with another behind it
pub cut_before : (k : ℕ) (h : Head) (t : Tree) (g : List ℕ) (ps : Parts) → k < count ps → Spliced (parts_text (more h t g ps)) (parts_text (without k h t g ps)) [] (start_in k (more h t g ps)) (start_in (suc k) (more h t g ps))
cut_before zero h t g ps c =
    let inner : List ℕ = head_text (led_head [] h) in
    let middle : List ℕ = inner ++ (text t ++ (g ++ 0x2c ∷ first_gap ps)) in
    let split : length (head_text h) ≡ length (gap_before h) + length inner = ap (λ (l : List ℕ). length l) (head_split h) ∙ length-append (gap_before h) inner in
    record {
      front = gap_before h;
      middle = middle;
      back = parts_text (led [] ps);
      was =
          ap (λ (l : List ℕ). l ++ (text t ++ (g ++ 0x2c ∷ parts_text ps))) (head_split h)
          ∙ ap (λ (l : List ℕ). (gap_before h ++ inner) ++ (text t ++ (g ++ 0x2c ∷ l))) (parts_split ps)
          ∙ gone_old (gap_before h) inner (text t) g (first_gap ps) (parts_text (led [] ps));
      is = led_text (gap_before h) ps;
      from_is = refl;
      to_is = omega (arith, first_start ps, split, later_long inner (text t) g (first_gap ps));
    }
cut_before (suc k) h t g (last o s b) c = absurd (omega (arith, c))
cut_before (suc k) h t g (more o s b ps) c = later h t g (more o s b ps) (without k o s b ps) [] (start_in k (more o s b ps)) (start_in (suc k) (more o s b ps)) (cut_before k o s b ps (omega (arith, c)))

behind_old : (h t g o s b : List ℕ) → h ++ (t ++ (g ++ 0x2c ∷ (o ++ (s ++ b)))) ≡ (h ++ t) ++ ((g ++ 0x2c ∷ (o ++ s)) ++ b)
behind_old h t g o s b = simp append_assoc

behind_new : (h t b : List ℕ) → h ++ (t ++ b) ≡ (h ++ t) ++ ([] ++ b)
behind_new h t b = simp append_assoc

-- the last one, with another before it
pub cut_behind : (k : ℕ) (h : Head) (t : Tree) (g : List ℕ) (ps : Parts) → suc k ≡ count ps → Spliced (parts_text (more h t g ps)) (parts_text (without (suc k) h t g ps)) [] (end_in k (more h t g ps)) (end_in (suc k) (more h t g ps))
cut_behind zero h t g (last o s b) c = record {
  front = head_text h ++ text t;
  middle = g ++ 0x2c ∷ (head_text o ++ text s);
  back = b;
  was = behind_old (head_text h) (text t) g (head_text o) (text s) b;
  is = behind_new (head_text h) (text t) b;
  from_is = omega (arith, length-append (head_text h) (text t));
  to_is = omega (arith, length-append (head_text h) (text t), length-append g (0x2c ∷ (head_text o ++ text s)), length-append (head_text o) (text s));
}
cut_behind (suc k) h t g (last o s b) c = absurd (omega (arith, c))
cut_behind zero h t g (more o s b ps) c = absurd (none ps (omega (arith, c)))
  where
    none : (ps : Parts) → count ps ≡ 0 → ⊥
    none (last h t g) e = absurd (omega (arith, e))
    none (more h t g ps) e = absurd (omega (arith, e))
cut_behind (suc k) h t g (more o s b ps) c = later h t g (more o s b ps) (without (suc k) o s b ps) [] (end_in k (more o s b ps)) (end_in (suc k) (more o s b ps)) (cut_behind k o s b ps (omega (arith, c)))

only_old : (a h t g : List ℕ) → (a ++ h) ++ (t ++ g) ≡ a ++ ((h ++ t) ++ g)
only_old a h t g = simp append_assoc

-- the only one
pub cut_only : (h : Head) (t : Tree) (g : List ℕ) → Spliced (parts_text (last h t g)) (gap_before h ++ g) [] (start_in 0 (last h t g)) (end_in 0 (last h t g))
cut_only h t g =
    let inner : List ℕ = head_text (led_head [] h) in
    let split : length (head_text h) ≡ length (gap_before h) + length inner = ap (λ (l : List ℕ). length l) (head_split h) ∙ length-append (gap_before h) inner in
    record {
      front = gap_before h;
      middle = inner ++ text t;
      back = g;
      was = ap (λ (l : List ℕ). l ++ (text t ++ g)) (head_split h) ∙ only_old (gap_before h) inner (text t) g;
      is = refl;
      from_is = refl;
      to_is = omega (arith, split, length-append inner (text t));
    }
