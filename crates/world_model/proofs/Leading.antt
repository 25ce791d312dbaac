-- What is known of a term, and what a world adds to it.
use Rattle.std.specs.Prelude.{◌≡◌, ℕ, nat_eq, Bool, true, false, ◌&&◌, refl, if◌then◌else◌}
use Rattle.std.proofs.Common.{◌∙◌, ap, arith}
use Rattle.std.proofs.lemmas.Bool.Decides.{nat_tests}
use Rattle.replica_core.specs.Terms.{is_active, is_term}
use Rattle.copy_model.specs.Copies.{Copy}
use Rattle.world_model.specs.Worlds.{Seat, Up, Down, Nobody}
use Rattle.world_model.specs.Terms.{Term, accepted_by, led_by, term_by}

same_number : (n : ℕ) → nat_eq n n ≡ true
same_number n = grind (arith, nat_tests)

module _ {L Y : Type 0} where
  -- what a copy adds to a term that is accepted
  led_had : (r : Bool) (c : Copy L Y) (t : Term L) → t.had ≡ true
      → (led_by r c (accepted_by c t)).had ≡ true
  led_had true c t e = ap (λ h. (if h then t else record { had = true; base = c.disk.log; lead = c.disk.log }).had) e ∙ e
  led_had false c t e = ap (λ h. (if h then t else record { had = true; base = c.disk.log; lead = c.disk.log }).had) e ∙ e

  led_base : (r : Bool) (c : Copy L Y) (t : Term L) → t.had ≡ true
      → (led_by r c (accepted_by c t)).base ≡ t.base
  led_base true c t e = ap (λ h. (if h then t else record { had = true; base = c.disk.log; lead = c.disk.log }).base) e
  led_base false c t e = ap (λ h. (if h then t else record { had = true; base = c.disk.log; lead = c.disk.log }).base) e

  -- a term that is accepted stays so
  pub stays_had : (term : ℕ) (s : Seat L Y) (t : Term L) → t.had ≡ true
      → (term_by term s t).had ≡ true
  stays_had term (Up c) t e = go (is_term term && nat_eq c.accepted term)
    where
      go : (b : Bool)
          → (if b then led_by (is_active c.role) c (accepted_by c t) else t).had ≡ true
      go true = led_had (is_active c.role) c t e
      go false = e
  stays_had term (Down disk torn) t e = e
  stays_had term Nobody t e = e

  -- with its base
  pub stays_base : (term : ℕ) (s : Seat L Y) (t : Term L) → t.had ≡ true
      → (term_by term s t).base ≡ t.base
  stays_base term (Up c) t e = go (is_term term && nat_eq c.accepted term)
    where
      go : (b : Bool)
          → (if b then led_by (is_active c.role) c (accepted_by c t) else t).base ≡ t.base
      go true = led_base (is_active c.role) c t e
      go false = refl
  stays_base term (Down disk torn) t e = refl
  stays_base term Nobody t e = refl

  -- ---- an active at its term

  active_is : (c : Copy L Y) (s : Seat L Y) (t : Term L) → s ≡ Up c → is_active c.role ≡ true
      → is_term c.accepted ≡ true
      → term_by c.accepted s t ≡ led_by true c (accepted_by c t)
  active_is c s t up active term =
      ap (λ s. term_by c.accepted s t) up
      ∙ ap (λ b. if b && nat_eq c.accepted c.accepted then led_by (is_active c.role) c (accepted_by c t) else t) term
      ∙ ap (λ b. if b then led_by (is_active c.role) c (accepted_by c t) else t) (same_number c.accepted)
      ∙ ap (λ r. led_by r c (accepted_by c t)) active

  accepted_had : (c : Copy L Y) (t : Term L) → (accepted_by c t).had ≡ true
  accepted_had c t = go t.had refl
    where
      go : (h : Bool) → t.had ≡ h
          → (if h then t else record { had = true; base = c.disk.log; lead = c.disk.log }).had ≡ true
      go true e = e
      go false e = refl

  -- has accepted it
  pub active_had : (c : Copy L Y) (s : Seat L Y) (t : Term L) → s ≡ Up c
      → is_active c.role ≡ true → is_term c.accepted ≡ true
      → (term_by c.accepted s t).had ≡ true
  active_had c s t up active term =
      ap (λ (u : Term L). u.had) (active_is c s t up active term) ∙ accepted_had c t

  -- and its log is the lead
  pub active_lead : (c : Copy L Y) (s : Seat L Y) (t : Term L) → s ≡ Up c
      → is_active c.role ≡ true → is_term c.accepted ≡ true
      → (term_by c.accepted s t).lead ≡ c.log
  active_lead c s t up active term =
      ap (λ (u : Term L). u.lead) (active_is c s t up active term)
