use Rattle.std.specs.FinMap as map
use Rattle.std.proofs.Common.{◌≡◌, ◌<◌, ◌+◌, ◌^◌, refl, sym, ap, ◌∙◌, subst, true≢false}
use Rattle.vb_log.specs.Contents.{IsWhole}
use Rattle.vb_log.specs.Held.{waiting_size, positions_rise, IsHeld}
use Rattle.vb_log.specs.Wholes.{AreParts, GoTogether, by_keys, listed_size}
use Rattle.vb_log.proofs.Wholes.{made_of, made_is, countable, waiting_rise, none_whole, held_made, parts_made, whole_made}
use Rattle.vb_log.proofs.whole.whole_of.Goals as goal

pub go_together-requires-clause-room : goal.go_together-requires-clause-room
go_together-requires-clause-room c =
    let b = c.args.body in
    subst (λ l. listed_size l + waiting_size c.as_slice-2.result.now < 2 ^ 64) (sym c.as_slice.ensures)
    (subst (λ l. listed_size b.items + waiting_size l < 2 ^ 64) (sym c.as_slice-2.ensures) (countable b.items b.prepares b.manifest c.args.bounds c.requires))

pub returns-then-not-branch-clause-broken : goal.returns-then-not-branch-clause-broken
returns-then-not-branch-clause-broken c =
    let b = c.args.body in (
      refl,
      none_whole b.items b.prepares b.manifest c.args.bounds c.requires (λ t.
          true≢false (sym (c.in_ok-go_together.ensures.1 (subst (λ l. GoTogether l c.as_slice-2.result.now c.args.bounds.last) (sym c.as_slice.ensures)
          (subst (λ l. GoTogether b.items l c.args.bounds.last) (sym c.as_slice-2.ensures) t))) ∙ c.if-not-branch.true)),
    )

pub from_vec-requires-2-clause-rise : goal.from_vec-requires-2-clause-rise
from_vec-requires-2-clause-rise c =
    let w = c.requires.waiting in
    ap positions_rise c.into_vec-2.ensures ∙ waiting_rise c.args.bounds 0 c.args.body.prepares w.waiting

-- the parts go together
together : (c : goal.After-from_vec-2) → GoTogether c.args.body.items c.args.body.prepares c.args.bounds.last
together c =
    subst (λ l. GoTogether c.args.body.items l c.args.bounds.last) c.as_slice-2.ensures
    (subst (λ l. GoTogether l c.as_slice-2.result.now c.args.bounds.last) c.as_slice.ensures (c.in_ok-go_together.ensures.0 c.if-not-branch.false))

-- what was made is the content that has them
made : (c : goal.After-from_vec-2) → made_of c.args.body.items c.args.body.prepares c.args.body.manifest c.args.bounds.cas c.args.bounds.last
    ≡ record { items = c.in_ok-from_vec.field-0; prepares = c.from_vec-2.result; manifest = c.args.body.manifest; greatest_cas = c.args.bounds.cas; length = c.args.bounds.last }
made c =
    let b = c.args.body in
    made_is b.items b.prepares b.manifest c.args.bounds.cas c.args.bounds.last c.in_ok-from_vec.field-0 c.from_vec-2.result
    (c.in_ok-from_vec.ensures ∙ ap (λ l. map.from_entries (by_keys l)) c.into_vec.ensures) (c.from_vec-2.ensures ∙ c.into_vec-2.ensures)

pub invariant_of-result : goal.invariant_of-result
invariant_of-result c = let b = c.args.body in subst IsHeld (made c) (held_made b.items b.prepares b.manifest c.args.bounds c.requires (together c))

pub returns-clause-found : goal.returns-clause-found
returns-clause-found c =
    let b = c.args.body in
    subst (AreParts b.items b.prepares b.manifest c.args.bounds.cas c.args.bounds.last) (made c) (parts_made b.items b.prepares b.manifest c.args.bounds c.requires)

pub returns-clause-whole : goal.returns-clause-whole
returns-clause-whole c = let b = c.args.body in subst IsWhole (made c) (whole_made b.items b.prepares b.manifest c.args.bounds c.requires (together c))
