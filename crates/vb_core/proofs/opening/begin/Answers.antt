use Rattle.std.specs.Prelude.{◌≡◌, List, Option, is_some}
use Rattle.std.specs.Option.{IfSome}
use Rattle.std.proofs.Common.{◌∙◌, sym, ap, subst, true, false, Some, None}
use Rattle.magma_store.specs.declared.meta.Meta.{Meta}
use Rattle.magma_store.specs.Whole.{bare_of, content_of}
use Rattle.vb_log.specs.declared.entry.Pending.{Pending}
use Rattle.vb_log.specs.Content.{Content}
use Rattle.vb_log.specs.Contents.{IsWhole}
use Rattle.vb_core.specs.Beginning.{TailRead}
use Rattle.vb_core.proofs.Begins.{anew_begins, untold_on, broken_on, found_on}
use Rattle.vb_core.proofs.opening.begin.Goals as goal

pub returns-in-None-clause-begins : goal.returns-in-None-clause-begins
returns-in-None-clause-begins g c = λ held is.
    let states = g.D.Disk.states in
    let store = c.args.store.now in
    let tail : c.as_slice.result.now ≡ store.meta.tail = c.as_slice.ensures ∙ ap (λ (m : Meta). m.tail) c.meta.ensures in
    let read : TailRead store.meta.tail None = subst (λ l. TailRead l None) tail (subst (TailRead c.as_slice.result.now) c.in-None.is c.in_ok-parts.ensures) in
    anew_begins held c.begin_anew.result c.begin_anew.ensures.none c.begin_anew.ensures.anew (untold_on states held store (record { is_open = is; read = read }))

pub returns-in-Some-2-clause-begins : goal.returns-in-Some-2-clause-begins
returns-in-Some-2-clause-begins g c = λ held is.
    let states = g.D.Disk.states in
    let store = c.args.store.now in
    let parts = c.in-Some.parts in
    let content = c.in-Some-2.content in
    let tail : c.as_slice.result.now ≡ store.meta.tail = c.as_slice.ensures ∙ ap (λ (m : Meta). m.tail) c.meta.ensures in
    let read : TailRead store.meta.tail (Some parts) = subst (λ l. TailRead l (Some parts)) tail (subst (TailRead c.as_slice.result.now) c.in-Some.is c.in_ok-parts.ensures) in
    let waits : c.into_vec.result.items ≡ parts.1 = c.into_vec.ensures in
    let rest : content ≡ bare_of store.meta parts.0 c.into_vec.result.items =
    subst (λ (o : Option Content). IfSome o (λ r. r ≡ bare_of store.meta parts.0 c.into_vec.result.items)) c.in-Some-2.is c.in_ok-content.ensures.rest in
    let whole : IsWhole (content_of held parts.0 c.into_vec.result.items) = (c.in_ok-content.ensures.whole held is).0 (ap is_some c.in-Some-2.is) in
    found_on states held store parts content (record { is_open = is; read = read })
    (rest ∙ ap (λ (ps : List Pending). bare_of store.meta parts.0 ps) waits)
    (subst (λ (ps : List Pending). IsWhole (content_of held parts.0 ps)) waits whole)

pub returns-in-None-2-clause-begins : goal.returns-in-None-2-clause-begins
returns-in-None-2-clause-begins g c = λ held is.
    let states = g.D.Disk.states in
    let store = c.args.store.now in
    let parts = c.in-Some.parts in
    let tail : c.as_slice.result.now ≡ store.meta.tail = c.as_slice.ensures ∙ ap (λ (m : Meta). m.tail) c.meta.ensures in
    let read : TailRead store.meta.tail (Some parts) = subst (λ l. TailRead l (Some parts)) tail (subst (TailRead c.as_slice.result.now) c.in-Some.is c.in_ok-parts.ensures) in
    let waits : c.into_vec.result.items ≡ parts.1 = c.into_vec.ensures in
    let none : IsWhole (content_of held parts.0 parts.1) → ⊥ = λ whole.
    let there : is_some c.in_ok-content.field-0 ≡ true = (c.in_ok-content.ensures.whole held is).1 (subst (λ (ps : List Pending). IsWhole (content_of held parts.0 ps)) (sym waits) whole) in
    let gone : is_some c.in_ok-content.field-0 ≡ false = ap is_some c.in-None-2.is in
    absurd (cc) in
    anew_begins held c.begin_anew-in-None-2.result c.begin_anew-in-None-2.ensures.none c.begin_anew-in-None-2.ensures.anew
    (broken_on states held store parts (record { is_open = is; read = read }) none)
