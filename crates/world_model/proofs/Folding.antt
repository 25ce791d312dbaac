-- Each step of a world is one of what its logs come to.
use Rattle.std.specs.Prelude.{◌≡◌, if◌then◌else◌, ℕ, ◌+◌, Bool, true, false, get_or, map as list_map, List, [], ◌∷◌, ◌++◌, Option, Some, None, option_map, refl}
use Rattle.std.proofs.Common.{inl, inr, zero, suc, sym, ◌∙◌, ap, subst}
use Rattle.std.proofs.lemmas.List.{map-append, map-set}
use Rattle.vb_log.specs.Content.{Content}
use Rattle.vb_log.specs.Logs.{LogKind, IsFaithful, folds}
use Rattle.durability_core.specs.declared.chain.Chain.{Chain}
use Rattle.copy_model.specs.Copies.{Sent, Pair, Copy, Chance, Fine, ReadFails, DiskFails, NoMemory, LayoutKind, Luck}
use Rattle.copy_model.specs.Events.{Event, Requests, Polls, Forgets, Hears, Speaks, TellsChange, Ticks, Flushes, Cleans, Fences, Promotes, SetsState, Told, Answered, PolledTo, Spoke, ToldChange, FlushedTo, CleanedTo, FencedWith, Ended, Quietly}
use Rattle.copy_model.specs.Folded.{folded_sent, folded_pair, folded, folded_event, folded_told}
use Rattle.copy_model.specs.Laying.{IsOpened}
use Rattle.copy_model.specs.Openings.{MayHold, Spent, Opened, copy_on, is_spent, spent_number, raised, new_copy, opening, opened_by}
use Rattle.copy_model.proofs.Laying.{may_fold}
use Rattle.world_model.specs.Worlds.{Seat, Up, Down, Nobody, Post, World, seat_at, IsAmong, posted, answers_in, with_seat, with_copy, MayHappen, seat_after, Step, Happens, Crashes, Opens, Run, Start, Then, first_seats, first_world}
use Rattle.world_model.specs.Folded.{folded_seat, folded_post, folded_world}

among_folds : {L : Type 0} (k : LogKind L) (post : Post L) (posts : List (Post L))
    → IsAmong post posts → IsAmong (folded_post k post) (list_map (folded_post k) posts)
among_folds k post [] h = absurd h
among_folds k post (p ∷ ps) (inl e) = inl (ap (folded_post k) e)
among_folds k post (p ∷ ps) (inr h) = inr (among_folds k post ps h)

said_fold : {L : Type 0} (k : LogKind L) (incarnation : ℕ) (sents : List (Sent L))
    → list_map (folded_post k)
    (list_map (λ sent. record { sent = sent; incarnation = incarnation }) sents)
    ≡ list_map (λ sent. record { sent = sent; incarnation = incarnation })
    (list_map (folded_sent k) sents)
said_fold k incarnation [] = refl
said_fold k incarnation (s ∷ ss) =
    ap (λ (ps : List (Post Content)). record { sent = folded_sent k s; incarnation = incarnation } ∷ ps)
    (said_fold k incarnation ss)

answers_fold : {L : Type 0} (k : LogKind L) (told : Told L) → answers_in (folded_told k told) ≡ answers_in told
answers_fold k (Answered outcome) = refl
answers_fold k (PolledTo polled) = refl
answers_fold k (Spoke sent) = refl
answers_fold k (ToldChange seen) = refl
answers_fold k (FlushedTo result) = refl
answers_fold k (CleanedTo result) = refl
answers_fold k (FencedWith result) = refl
answers_fold k (Ended result) = refl
answers_fold k Quietly = refl

module _ {L Y : Type 0} (k : LogKind L) where
  seat_in : (seats : List (Seat L Y)) (x : ℕ)
      → get_or (list_map (folded_seat k) seats) x Nobody ≡ folded_seat k (get_or seats x Nobody)
  seat_in [] x = refl
  seat_in (s ∷ seats) zero = refl
  seat_in (s ∷ seats) (suc x) = seat_in seats x

  -- who is at a place
  seat_folds : (w : World L Y) (x : ℕ) (s : Seat L Y) → seat_at w x ≡ s
      → seat_at (folded_world k w) x ≡ folded_seat k s
  seat_folds w x s e = seat_in w.seats x ∙ ap (folded_seat k) e

  -- what may happen
  may_happen : (w : World L Y) (x : ℕ) (e : Event L) → MayHappen w x e
      → MayHappen (folded_world k w) x (folded_event k e)
  may_happen w x (Requests request now) h = h
  may_happen w x (Polls ticket) h = h
  may_happen w x (Forgets ticket) h = h
  may_happen w x (Hears sent) h =
      (h.0, h.1, among_folds k (record { sent = sent; incarnation = h.0 }) w.posts h.2)
  may_happen w x Speaks h = h
  may_happen w x TellsChange h = h
  may_happen w x (Ticks now) h = h
  may_happen w x Flushes h = h
  may_happen w x (Cleans most) h = h
  may_happen w x (Fences term) h = h
  may_happen w x (Promotes term answers weak) h = h
  may_happen w x (SetsState state) h = h

  -- a place is taken
  seat_set : (x : ℕ) (s : Seat L Y) (w : World L Y)
      → with_seat x (folded_seat k s) (folded_world k w) ≡ folded_world k (with_seat x s w)
  seat_set x s w =
      let e = sym (map-set (folded_seat k) w.seats x s) in
      λ i. record (folded_world k w) { seats = e i }

  -- a copy becomes another
  copy_set : (x : ℕ) (c : Copy L Y) (told : Told L) (w : World L Y)
      → with_copy x (folded k c) (folded_told k told) (folded_world k w)
      ≡ folded_world k (with_copy x c told w)
  copy_set x c told w =
      let seats = sym (map-set (folded_seat k) w.seats x (Up (record c { unspoken = []; untold = [] }))) in
      let posts =
      ap (λ ps. list_map (folded_post k) w.posts ++ ps) (sym (said_fold k c.incarnation c.unspoken))
      ∙ sym (map-append (folded_post k) w.posts (posted c)) in
      let answers = ap (λ l. w.answers ++ l) (answers_fold k told) in
      λ i. record (folded_world k w) { seats = seats i; posts = posts i; answers = answers i }

  -- ---- openings

  opened_folds : (chance : Chance) (chain : Chain) (place number : ℕ) (layout : Y) (d : Pair L Y)
      → seat_after (folded_pair k d)
      (opened_by chance chain place number layout (folded_pair k d))
      ≡ folded_seat k (seat_after d (opened_by chance chain place number layout d))
  opened_folds Fine chain place number layout d = go (is_spent d)
    where
      go : (b : Bool)
          → seat_after (folded_pair k d)
          (if b then Spent (spent_number d)
          else Opened (copy_on chain place number false (raised layout (folded_pair k d))))
          ≡ folded_seat k (seat_after d
          (if b then Spent (spent_number d)
          else Opened (copy_on chain place number false (raised layout d))))
      go true = refl
      go false = refl
  opened_folds ReadFails chain place number layout d = refl
  opened_folds DiskFails chain place number layout d = refl
  opened_folds NoMemory chain place number layout d = refl

  holds_folds : (disk d : Pair L Y) (torn : Option (Pair L Y)) → MayHold disk torn d
      → MayHold (folded_pair k disk) (option_map (folded_pair k) torn) (folded_pair k d)
  holds_folds disk d torn (inl e) = inl (ap (folded_pair k) e)
  holds_folds disk d torn (inr e) = inr (ap (option_map (folded_pair k)) e)

  laid_folds : (y : LayoutKind Y) (luck : Luck Y) (d : Pair L Y) → IsOpened y luck d
      → IsOpened y luck (folded_pair k d)
  laid_folds y luck d h = go luck.chance h
    where
      go : (c : Chance) → IsOpened y (record { chance = c; layout = luck.layout }) d
          → IsOpened y (record { chance = c; layout = luck.layout }) (folded_pair k d)
      go Fine h = h
      go ReadFails h = h
      go DiskFails h = h
      go NoMemory h = h

  -- ---- steps

  pub step_folds : IsFaithful k → (y : LayoutKind Y) (v w : World L Y) → Step k y v w
      → Step folds y (folded_world k v) (folded_world k w)
  step_folds f y v _ (Happens x c new told e up may goes) =
      subst (Step folds y (folded_world k v)) (copy_set x new told v)
      (Happens x (folded k c) (folded k new) (folded_told k told) (folded_event k e)
      (seat_folds v x (Up c) up) (may_happen v x e may) (may_fold k f y e c new told goes))
  step_folds f y v _ (Crashes x c up) =
      subst (Step folds y (folded_world k v)) (seat_set x (Down c.disk c.torn) v)
      (Crashes x (folded k c) (seat_folds v x (Up c) up))
  step_folds f y v _ (Opens x disk d torn luck down may laid) =
      subst (Step folds y (folded_world k v))
      (ap (λ s. with_seat x s (folded_world k v))
      (opened_folds luck.chance v.chain x v.number luck.layout d)
      ∙ seat_set x (seat_after d (opening luck v.chain x v.number d)) v)
      (Opens x (folded_pair k disk) (folded_pair k d) (option_map (folded_pair k) torn) luck
      (seat_folds v x (Down disk torn) down) (holds_folds disk d torn may)
      (laid_folds y luck d laid))

  pub run_folds : IsFaithful k → (y : LayoutKind Y) (s w : World L Y) → Run k y s w
      → Run folds y (folded_world k s) (folded_world k w)
  run_folds f y s _ Start = Start
  run_folds f y s w (Then {v = v} run last) =
      Then (run_folds f y s v run) (step_folds f y v w last)

  -- ---- the beginning

  seats_begin : IsFaithful k → (layout : Y) (chain : Chain) (number at : ℕ)
      (names : List (Option (List ℕ)))
      → list_map (folded_seat k) (first_seats k layout chain number at names)
      ≡ first_seats folds layout chain number at names
  seats_begin f layout chain number at [] = refl
  seats_begin f layout chain number at (None ∷ names) =
      ap (λ l. Nobody ∷ l) (seats_begin f layout chain number (at + 1) names)
  seats_begin f layout chain number at (Some name ∷ names) =
      let begun : folded k (new_copy k chain at number layout)
      ≡ new_copy folds chain at number layout =
      λ i. copy_on chain at number true (record { promise = 0; accepted = 0; log = f.empty i; incarnation = 1; layout = layout }) in
      ap (λ (c : Copy Content Y). Up c ∷ list_map (folded_seat k) (first_seats k layout chain number (at + 1) names)) begun
      ∙ ap (λ l. Up (new_copy folds chain at number layout) ∷ l)
      (seats_begin f layout chain number (at + 1) names)

  pub world_begins : IsFaithful k → (layout : Y) (chain : Chain) (number : ℕ)
      → folded_world k (first_world k layout chain number)
      ≡ first_world folds layout chain number
  world_begins f layout chain number =
      let e = seats_begin f layout chain number 0 chain.names in
      λ i. record (first_world folds layout chain number) { seats = e i }
