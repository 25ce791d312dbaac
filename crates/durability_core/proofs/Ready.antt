-- When a prepare is ready, by what is known.
use Rattle.std.specs.Prelude.{nat_eq, nat_le, ◌||◌, if◌then◌else◌}
use Rattle.std.proofs.Common.{◌≡◌, ◌≢◌, ℕ, ◌≤◌, Bool, true, false, refl, sym, ◌∙◌, arith}
use Rattle.std.proofs.lemmas.Bool.{and_parts, and_from, true≢false, false_from_ne_true}
use Rattle.std.proofs.lemmas.Bool.{leb-true, le-leb}
use Rattle.std.proofs.lemmas.Bool.Decides.{nat_tests}
use Rattle.durability_core.specs.declared.chain.Chain.{Chain}
use Rattle.durability_core.specs.Ready.{Known, KnowsMore, most_pass, most_have, most_keep}
use Rattle.durability_core.specs.Ready.{can_commit, is_ready}
use Rattle.durability_core.proofs.Counts.{most_more, most_can}

-- ---- tests

either_more : (b u v x y : Bool) → (u ≡ true → x ≡ true) → (v ≡ true → y ≡ true)
    → (if b then u else v) ≡ true → (if b then x else y) ≡ true
either_more true u v x y h k e = h e
either_more false u v x y h k e = k e

or_more : (b u v : Bool) → (u ≡ true → v ≡ true) → (b || u) ≡ true → (b || v) ≡ true
or_more true u v h e = refl
or_more false u v h e = h e

reaches_more : (position a b : ℕ) → a ≤ b → nat_le position a ≡ true → nat_le position b ≡ true
reaches_more position a b l e = le-leb position b (omega (arith, l, leb-true position a e))

own_of : (level position disk : ℕ) → 2 ≤ level
    → (nat_eq level 1 || nat_le position disk) ≡ true → position ≤ disk
own_of level position disk l e = go (nat_eq level 1) refl e
  where
    go : (b : Bool) → nat_eq level 1 ≡ b → (b || nat_le position disk) ≡ true → position ≤ disk
    go true f e = absurd (grind (arith, nat_tests))
    go false f e = leb-true position disk e

-- ---- chains

module _ (chain : Chain) where
  pub own_has : (own level position : ℕ) (known : ℕ → Known) → 2 ≤ level
      → is_ready chain own known level position ≡ true → position ≤ (known own).disk
  own_has own level position known l e =
      own_of level position (known own).disk l (and_parts _ _ e).1

  have_more : (position : ℕ) (before after : ℕ → Known) → KnowsMore before after
      → most_have chain before position ≡ true → most_have chain after position ≡ true
  have_more position before after more =
      most_more chain (λ y. nat_le position (before y).mem) (λ y. nat_le position (after y).mem)
      (λ y. reaches_more position (before y).mem (after y).mem (more.mem y))

  keep_more : (position : ℕ) (before after : ℕ → Known) → KnowsMore before after
      → most_keep chain before position ≡ true → most_keep chain after position ≡ true
  keep_more position before after more =
      most_more chain (λ y. nat_le position (before y).disk) (λ y. nat_le position (after y).disk)
      (λ y. reaches_more position (before y).disk (after y).disk (more.disk y))

  pub lasts : (own level position : ℕ) (before after : ℕ → Known) → KnowsMore before after
      → is_ready chain own before level position ≡ true
      → is_ready chain own after level position ≡ true
  lasts own level position before after more e =
      let p = and_parts _ _ e in
      let b = (before own).disk in
      let a = (after own).disk in
      and_from _ _
      (either_more _ _ _ _ _
      (keep_more position before after more) (have_more position before after more) p.0)
      (or_more _ _ _ (reaches_more position b a (more.disk own)) p.1)

  -- ---- levels

  pub two_of_three : (own position : ℕ) (known : ℕ → Known)
      → ((place : ℕ) → (known place).disk ≤ (known place).mem)
      → is_ready chain own known 3 position ≡ true → is_ready chain own known 2 position ≡ true
  two_of_three own position known l e =
      let p = and_parts _ _ e in
      and_from _ _
      (most_more chain (λ y. nat_le position (known y).disk) (λ y. nat_le position (known y).mem)
      (λ y. reaches_more position (known y).disk (known y).mem (l y)) p.0) p.1

  pub one_of_two : (own position : ℕ) (known : ℕ → Known)
      → is_ready chain own known 2 position ≡ true → is_ready chain own known 1 position ≡ true
  one_of_two own position known e = and_from _ _ (and_parts _ _ e).0 refl

  pub disks_have : (own position : ℕ) (known : ℕ → Known)
      → is_ready chain own known 3 position ≡ true → most_keep chain known position ≡ true
  disks_have own position known e = (and_parts _ _ e).0

  below_three : (level : ℕ) (u v : Bool) → level ≢ 3
      → (if nat_eq level 3 then u else v) ≡ true → v ≡ true
  below_three level u v n e = go (nat_eq level 3) refl e
    where
      go : (b : Bool) → nat_eq level 3 ≡ b → (if b then u else v) ≡ true → v ≡ true
      go true f e = absurd (n (grind (arith, nat_tests)))
      go false f e = e

  pub memories_have : (own level position : ℕ) (known : ℕ → Known) → level ≢ 3
      → is_ready chain own known level position ≡ true → most_have chain known position ≡ true
  memories_have own level position known n e = below_three level _ _ n (and_parts _ _ e).0

  -- ---- too few names

  ready_can : (b : Bool) (p q : ℕ → Bool)
      → (if b then most_pass chain p else most_pass chain q) ≡ true → can_commit chain ≡ true
  ready_can true p q e = most_can chain p e
  ready_can false p q e = most_can chain q e

  pub none_ready : (own level position : ℕ) (known : ℕ → Known)
      → can_commit chain ≡ false → is_ready chain own known level position ≡ false
  none_ready own level position known f =
      let disk : ℕ → Bool = λ y. nat_le position (known y).disk in
      let mem : ℕ → Bool = λ y. nat_le position (known y).mem in
      false_from_ne_true (is_ready chain own known level position) (λ e.
      true≢false (sym (ready_can (nat_eq level 3) disk mem (and_parts _ _ e).0) ∙ f))

  -- ---- where a position is makes its prepare ready

  pub had_ready : (own position : ℕ) (known : ℕ → Known)
      → most_have chain known position ≡ true → is_ready chain own known 1 position ≡ true
  had_ready own position known e = and_from (most_have chain known position) true e refl

  pub had_and_kept_ready : (own position : ℕ) (known : ℕ → Known)
      → most_have chain known position ≡ true → position ≤ (known own).disk
      → is_ready chain own known 2 position ≡ true
  had_and_kept_ready own position known e l =
      and_from (most_have chain known position) (nat_le position (known own).disk) e
      (le-leb position (known own).disk l)

  pub kept_ready : (own position : ℕ) (known : ℕ → Known)
      → most_keep chain known position ≡ true → position ≤ (known own).disk
      → is_ready chain own known 3 position ≡ true
  kept_ready own position known e l =
      and_from (most_keep chain known position) (nat_le position (known own).disk) e
      (le-leb position (known own).disk l)
