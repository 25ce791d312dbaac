use Rattle.std.specs.Prelude.{IfOk, IfErr}
use Rattle.std.proofs.Common.{List, refl, sym, ◌∙◌, subst, true≢false}
use Rattle.doc_model.specs.declared.document.Item.{Item}
use Rattle.vb_log.specs.declared.entry.Pending.{Pending}
use Rattle.vb_log.specs.Wholes.{AreParts, IsNoWhole, KeepLimits, AreOrdered}
use Rattle.vb_log.proofs.Wholes.{limits_kept, in_order}
use Rattle.vb_log.proofs.WholeBytes.{only_made, found_moved, none_moved}
use Rattle.vb_log.proofs.whole.of_parts.Goals as goal

pub returns-then-not-branch-clause-only : goal.returns-then-not-branch-clause-only
returns-then-not-branch-clause-only c = λ m p w.
    absurd (true≢false (sym (c.in_ok-keep_limits.ensures.1
    (subst (λ (l : List Item). KeepLimits l c.as_slice-2.result.now c.args.manifest (record { last = c.args.length; cas = c.args.greatest_cas })) (sym c.as_slice.ensures.value)
    (subst (λ (l : List Pending). KeepLimits c.args.items.items l c.args.manifest (record { last = c.args.length; cas = c.args.greatest_cas })) (sym c.as_slice-2.ensures.value)
    (limits_kept c.args.items.items c.args.pending.items c.args.manifest c.args.greatest_cas c.args.length m p w)))) ∙ c.if-not-branch.true))

pub returns-then-not-branch-clause-broken : goal.returns-then-not-branch-clause-broken
returns-then-not-branch-clause-broken c = (
  refl,
  λ m p w.
      true≢false (sym (c.in_ok-keep_limits.ensures.1
      (subst (λ (l : List Item). KeepLimits l c.as_slice-2.result.now c.args.manifest (record { last = c.args.length; cas = c.args.greatest_cas })) (sym c.as_slice.ensures.value)
      (subst (λ (l : List Pending). KeepLimits c.args.items.items l c.args.manifest (record { last = c.args.length; cas = c.args.greatest_cas })) (sym c.as_slice-2.ensures.value)
      (limits_kept c.args.items.items c.args.pending.items c.args.manifest c.args.greatest_cas c.args.length m p w)))) ∙ c.if-not-branch.true),
)

pub whole_of-requires : goal.whole_of-requires
whole_of-requires c =
    let limits = subst (λ (l : List Pending). KeepLimits c.args.items.items l c.args.manifest (record { last = c.args.length; cas = c.args.greatest_cas })) c.as_slice-2.ensures.value
    (subst (λ (l : List Item). KeepLimits l c.as_slice-2.result.now c.args.manifest (record { last = c.args.length; cas = c.args.greatest_cas })) c.as_slice.ensures.value (c.in_ok-keep_limits.ensures.0 c.if-not-branch.false)) in
    subst (λ (l : List Item). AreOrdered l c.from_vec-in-Some.result c.args.manifest (record { last = c.args.length; cas = c.args.greatest_cas })) (sym c.from_vec.ensures)
    (subst (λ (l : List Pending). AreOrdered c.in-Some.items.items l c.args.manifest (record { last = c.args.length; cas = c.args.greatest_cas })) (sym c.from_vec-in-Some.ensures)
    (in_order c.args.items.items c.in-Some.items.items c.args.pending.items c.args.manifest (record { last = c.args.length; cas = c.args.greatest_cas }) limits c.in-Some.ensures.0 c.in-Some.ensures.1))

-- what was made has the parts
found : (c : goal.After-whole_of) → IfOk c.whole_of.result (AreParts c.args.items.items c.args.pending.items c.args.manifest c.args.greatest_cas c.args.length)
found c =
    found_moved c.args.items.items c.in-Some.items.items c.args.pending.items c.args.manifest c.args.greatest_cas c.args.length c.whole_of.result c.in-Some.ensures.0
    (subst (λ (l : List Pending). IfOk c.whole_of.result (AreParts c.in-Some.items.items l c.args.manifest c.args.greatest_cas c.args.length)) c.from_vec-in-Some.ensures
    (subst (λ (l : List Item). IfOk c.whole_of.result (AreParts l c.from_vec-in-Some.result c.args.manifest c.args.greatest_cas c.args.length)) c.from_vec.ensures c.whole_of.ensures.found))

-- or there is nothing that has
none : (c : goal.After-whole_of) → IfErr c.whole_of.result (IsNoWhole c.args.items.items c.args.pending.items c.args.manifest c.args.greatest_cas c.args.length)
none c =
    none_moved c.args.items.items c.in-Some.items.items c.args.pending.items c.args.manifest c.args.greatest_cas c.args.length c.whole_of.result c.in-Some.ensures.0
    (subst (λ (l : List Pending). IfErr c.whole_of.result (IsNoWhole c.in-Some.items.items l c.args.manifest c.args.greatest_cas c.args.length)) c.from_vec-in-Some.ensures
    (subst (λ (l : List Item). IfErr c.whole_of.result (IsNoWhole l c.from_vec-in-Some.result c.args.manifest c.args.greatest_cas c.args.length)) c.from_vec.ensures c.whole_of.ensures.broken))

pub returns-in-Some-clause-found : goal.returns-in-Some-clause-found
returns-in-Some-clause-found c = found c

pub returns-in-Some-clause-only : goal.returns-in-Some-clause-only
returns-in-Some-clause-only c = only_made c.args.items.items c.args.pending.items c.args.manifest c.args.greatest_cas c.args.length c.whole_of.result (found c) (none c)

pub returns-in-Some-clause-broken : goal.returns-in-Some-clause-broken
returns-in-Some-clause-broken c = none c
