-- What a tracker knows once it was told how far a place is.
use Rattle.std.specs.Prelude.{◌≡◌, ◌≢◌, ◌<◌, ◌≤◌, ℕ, max, nat_eq, nat_le, nat_lt, Bool, true, false, set, map as list_map, List, [], ◌∷◌, length, refl}
use Rattle.std.specs.List.{AllByRecursion}
use Rattle.std.proofs.Common.{zero, suc, sym, ◌∙◌, ap, subst, arith}
use Rattle.std.proofs.lemmas.Bool.{eqb-true, ltb-true}
use Rattle.std.proofs.lemmas.Bool.Decides.{nat_tests}
use Rattle.std.proofs.lemmas.List.{length-set, get_or-set_same, get_or-set_other}
use Rattle.durability_core.specs.declared.waiting.Waiting.{Waiting}
use Rattle.durability_core.specs.Ready.{Known, unknown}
use Rattle.durability_core.specs.Tracking.{Tracked, known_at, raised, told, is_inherited}
use Rattle.vb_log.specs.Content.{Content}
use Rattle.vb_log.specs.Logs.{folds}
use Rattle.copy_model.specs.Copies.{Copy}
use Rattle.copy_model.specs.Entries.{log_length, disk_length, counting}
use Rattle.copy_memory.specs.Tracks.{prepared_of, KnowsOwn, Tracks}

-- ---- lists

-- nothing is set behind the end
beyond : {A : Type 0} (l : List A) (q : ℕ) (v : A) → length l ≤ q → set l q v ≡ l
beyond [] zero v h = refl
beyond [] (suc q) v h = refl
beyond (x ∷ xs) zero v h = absurd (omega arith)
beyond (x ∷ xs) (suc q) v h = ap (λ l. x ∷ l) (beyond xs q v (omega arith))

-- two lists of one length that have the same at a place have the same there once it is set to the same
set_alike : (l m : List Known) (q : ℕ) (v w : Known) → length l ≡ length m → known_at l q ≡ known_at m q → v ≡ w → known_at (set l q v) q ≡ known_at (set m q w) q
set_alike l m q v w long same alike = by (nat_lt q (length l)) refl
  where
    at_most : (a b : ℕ) → nat_lt a b ≡ false → b ≤ a
    at_most a b e = grind (arith, nat_tests)

    by : (b : Bool) → nat_lt q (length l) ≡ b → known_at (set l q v) q ≡ known_at (set m q w) q
    by true e =
        let below = ltb-true q (length l) e in
        get_or-set_same l q v unknown below ∙ alike ∙ sym (get_or-set_same m q w unknown (omega arith))
    by false e =
        let behind = at_most q (length l) e in
        ap (λ l. known_at l q) (beyond l q v behind) ∙ same ∙ sym (ap (λ l. known_at l q) (beyond m q w (omega arith)))

-- ---- numbers

same_number : (n : ℕ) → nat_eq n n ≡ true
same_number n = grind (arith, nat_tests)

most_of : (a b : ℕ) → a ≤ b → max a b ≡ b
most_of a b l = omega arith

least : (w a b : ℕ) → w ≤ a → w ≤ max a b
least w a b l = omega arith

bound : (a b n : ℕ) → a ≤ n → b ≤ n → max a b ≤ n
bound a b n l m = omega arith

-- each is at most what it was raised to
raise_all : (ws : List Waiting) (a b : ℕ) → AllByRecursion (λ (w : Waiting). w.position ≤ a) ws → AllByRecursion (λ (w : Waiting). w.position ≤ max a b) ws
raise_all [] a b h = h
raise_all (w ∷ ws) a b h = (least w.position a b h.0, raise_all ws a b h.1)

-- all of a list are alike, where one number is another
alike_all : (ws : List Waiting) (a b : ℕ) → a ≡ b → AllByRecursion (λ (w : Waiting). nat_le w.position a ≡ nat_le w.position b) ws
alike_all [] a b e = tt
alike_all (w ∷ ws) a b e = (ap (nat_le w.position) e, alike_all ws a b e)

-- ---- the own place

-- A tracker that was told how far its own copy is goes on with a copy that has more on disk.
pub record HasMore (c d : Copy Content ℕ) : Type 0 where
  pub chain : d.chain ≡ c.chain
  pub place : d.place ≡ c.place
  pub known : d.known ≡ c.known
  pub log_length_is : log_length folds d ≡ log_length folds c
  pub prepares : d.log.prepares ≡ c.log.prepares
  pub deadlines : d.deadlines ≡ c.deadlines
  pub inherited : d.inherited ≡ c.inherited
  pub more : disk_length folds c ≤ disk_length folds d

module _ (t : Tracked) (c d : Copy Content ℕ) (tracks : Tracks t c) (more : HasMore c d) where
  abbrev own_known : Known
  own_known = raised (log_length folds d) (disk_length folds d) (known_at t.known c.place)

  -- what is known of the own place
  own_told : known_at (told c.place (log_length folds d) (disk_length folds d) t).known d.place ≡ own_known
  own_told = ap (known_at (set t.known c.place own_known)) more.place ∙ get_or-set_same t.known c.place own_known unknown tracks.in_range

  mem_all : (known_at t.known c.place).mem ≤ log_length folds d
  mem_all = (let a = tracks.own_mem in let b = more.log_length_is in omega arith)

  disk_all : (known_at t.known c.place).disk ≤ disk_length folds d
  disk_all = (let a = tracks.own_disk in let b = more.more in omega arith)

  pub told_own : Tracks (told c.place (log_length folds d) (disk_length folds d) t) d
  told_own = record {
    chain = tracks.chain ∙ sym more.chain;
    own = tracks.own ∙ sym more.place;
    as_many = length-set t.known c.place own_known ∙ tracks.as_many ∙ ap length (sym more.known);
    in_range = subst (λ n. d.place < n) (sym (length-set t.known c.place own_known)) (subst (λ p. p < length t.known) (sym more.place) tracks.in_range);
    others = λ place apart.
        get_or-set_other t.known c.place place own_known unknown (λ same. apart (same ∙ sym more.place))
        ∙ tracks.others place (λ same. apart (same ∙ sym more.place))
        ∙ ap (λ l. known_at l place) (sym more.known);
    own_mem = subst (λ (k : Known). k.mem ≤ log_length folds d) (sym own_told) (bound (known_at t.known c.place).mem (log_length folds d) (log_length folds d) mem_all (omega arith));
    own_disk = subst (λ (k : Known). k.disk ≤ disk_length folds d) (sym own_told) (bound (known_at t.known c.place).disk (disk_length folds d) (disk_length folds d) disk_all (omega arith));
    knows_own = subst (λ (k : Known). KnowsOwn k (disk_length folds d) t.waiting) (sym own_told) record {
      in_memory = raise_all t.waiting (known_at t.known c.place).mem (log_length folds d) tracks.knows_own.in_memory;
      on_disk_too = alike_all t.waiting (max (known_at t.known c.place).disk (disk_length folds d)) (disk_length folds d) (most_of (known_at t.known c.place).disk (disk_length folds d) disk_all);
    };
    waiting = tracks.waiting ∙ ap (list_map prepared_of) (sym more.prepares);
    deadlines = more.deadlines ∙ tracks.deadlines;
    inherited = subst (λ n. AllByRecursion (λ (w : Waiting). is_inherited w ≡ nat_le w.position n) t.waiting) (sym more.inherited) tracks.inherited;
    base = (let a = tracks.base in let b = more.log_length_is in let e = more.inherited in omega arith);
  }

-- ---- another place

module _ (t : Tracked) (c : Copy Content ℕ) (tracks : Tracks t c) (place mem disk : ℕ) (apart : c.place ≢ place) where
  -- what is known of the own place stays
  own_stays : known_at (told place mem disk t).known c.place ≡ known_at t.known c.place
  own_stays = get_or-set_other t.known place c.place (raised mem disk (known_at t.known place)) unknown apart

  others_told : (q : ℕ) → q ≢ c.place → known_at (told place mem disk t).known q ≡ known_at (counting place mem disk c).known q
  others_told q other = by (nat_eq q place) refl
    where
      differs : nat_eq q place ≡ false → q ≢ place
      differs e same = absurd (let z : true ≡ false = sym (ap (λ n. nat_eq n place) same ∙ same_number place) ∙ e in cc)

      by : (b : Bool) → nat_eq q place ≡ b → known_at (told place mem disk t).known q ≡ known_at (counting place mem disk c).known q
      by false e =
          get_or-set_other t.known place q _ unknown (differs e) ∙ tracks.others q other ∙ sym (get_or-set_other c.known place q _ unknown (differs e))
      by true e =
          let is = eqb-true q place e in
          let known = tracks.others place (λ same. other (is ∙ same)) in
          ap (known_at (told place mem disk t).known) is
          ∙ set_alike t.known c.known place _ _ tracks.as_many known (ap (raised mem disk) known)
          ∙ sym (ap (known_at (counting place mem disk c).known) is)

  pub told_other : Tracks (told place mem disk t) (counting place mem disk c)
  told_other = record {
    chain = tracks.chain;
    own = tracks.own;
    as_many = length-set t.known place _ ∙ tracks.as_many ∙ sym (length-set c.known place _);
    in_range = subst (λ n. c.place < n) (sym (length-set t.known place (raised mem disk (known_at t.known place)))) tracks.in_range;
    others = others_told;
    own_mem = subst (λ (k : Known). k.mem ≤ log_length folds c) (sym own_stays) tracks.own_mem;
    own_disk = subst (λ (k : Known). k.disk ≤ disk_length folds c) (sym own_stays) tracks.own_disk;
    knows_own = subst (λ (k : Known). KnowsOwn k (disk_length folds c) t.waiting) (sym own_stays) tracks.knows_own;
    waiting = tracks.waiting;
    deadlines = tracks.deadlines;
    inherited = tracks.inherited;
    base = tracks.base;
  }

-- ---- the own place, told by another

-- what a message tells of a copy's own place changes nothing that counts
pub told_itself : (t : Tracked) (c : Copy Content ℕ) (mem disk : ℕ) → Tracks t c → Tracks t (counting c.place mem disk c)
told_itself t c mem disk tracks = record {
  chain = tracks.chain;
  own = tracks.own;
  as_many = tracks.as_many ∙ sym (length-set c.known c.place _);
  in_range = tracks.in_range;
  others = λ place apart. tracks.others place apart ∙ sym (get_or-set_other c.known c.place place _ unknown apart);
  own_mem = tracks.own_mem;
  own_disk = tracks.own_disk;
  knows_own = tracks.knows_own;
  waiting = tracks.waiting;
  deadlines = tracks.deadlines;
  inherited = tracks.inherited;
  base = tracks.base;
}
