use Rattle.std.specs.Prelude.{◌≡◌, ℕ, ◌<◌, ◌≤◌, ◌^◌, suc, nat_lt, nat_le, nat_eq, not, Bool, true, ◌&&◌, List, [], ◌∷◌, length, refl}
use Rattle.std.specs.List.{list_all, list_any}
use Rattle.std.proofs.Common.{◌∙◌, ap, sym, get_or, lt-ltb, le-leb, arith}
use Rattle.std.proofs.lemmas.Bool.{and_from}
use Rattle.manifest_rules.specs.declared.types.TheConstants.{DROPPED_LIMIT}
use Rattle.manifest_rules.specs.State.{are_rising, are_gone}
use Rattle.manifest_rules.proofs.state.are_gone.Goals as goal

all_below : (ids : List ℕ) → ((i : ℕ) → get_or ids i 0 < 2 ^ 32) → list_all (λ id. nat_lt id (2 ^ 32)) ids ≡ true
all_below [] h = refl
all_below (id ∷ ids) h = and_from (nat_lt id (2 ^ 32)) _ (lt-ltb id (2 ^ 32) (h 0)) (all_below ids (λ i. h (suc i)))

gone_by : (ids gone : List ℕ) (share : Bool) → share ≡ list_any (λ id. list_any (nat_eq id) gone) ids → ((i : ℕ) → get_or gone i 0 < 2 ^ 32) → are_rising gone ≡ true → length gone ≤ DROPPED_LIMIT → not share ≡ are_gone ids gone
gone_by ids gone share is fits rising few =
    let front = and_from _ _ (and_from _ _ (all_below gone fits) rising) (le-leb (length gone) DROPPED_LIMIT few) in
    ap not is ∙ sym (ap (λ b. b && not (list_any (λ id. list_any (nat_eq id) gone) ids)) front)

pub returns-then-gone-le-DROPPED_LIMIT : goal.returns-then-gone-le-DROPPED_LIMIT
returns-then-gone-le-DROPPED_LIMIT c = gone_by c.args.present.now c.args.gone.now c.share_id.result c.share_id.ensures (λ i. omega (arith, c.type_inv.gone i)) c.requires c.if-gone-le-DROPPED_LIMIT.true
