use Rattle.std.proofs.Common.{[], ◌∷◌, List, sym, ◌∙◌, subst}
use Rattle.magma_disk.specs.Device.{Device}
use Rattle.magma_disk.specs.Moments.{IsSettled}
use Rattle.magma_store.specs.declared.journal.TheConstants.{SHUT}
use Rattle.magma_store.proofs.Appending.{Written, Done}
use Rattle.magma_store.proofs.Closing.{close_moments, close_rests, kept_moments, kept_rests}
use Rattle.magma_store.proofs.Counts.{read_counts, call_counts, counts_on}
use Rattle.magma_store.proofs.journal.close.Goals as goal

pub returns-in-None-clause-any_moment : goal.returns-in-None-clause-any_moment
returns-in-None-clause-any_moment g c =
    λ file records is j len. kept_moments file records j c.args.end len _ _ is c.is_shut_at.ensures.states

pub returns-then-shut-clause-any_moment : goal.returns-then-shut-clause-any_moment
returns-then-shut-clause-any_moment g c =
    λ file records is j len. kept_moments file records j c.args.end len _ _ is c.is_shut_at.ensures.states

pub returns-then-shut-clause-closed : goal.returns-then-shut-clause-closed
returns-then-shut-clause-closed g c =
    λ file records is j len did.
    kept_rests file records j c.args.end len _ _ is (sym (c.in-Some.ensures.shut file is) ∙ c.if-shut.true)
    c.is_shut_at.ensures.states

pub returns-else-shut-clause-any_moment : goal.returns-else-shut-clause-any_moment
returns-else-shut-clause-any_moment g c =
    λ file records is j len.
    let old = g.D.Disk.states c.args.disk.now in
    let mid = g.D.Disk.states c.is_shut_at.new.disk in
    let now = g.D.Disk.states c.write_synced.new.disk in
    let w : Written c.args.end (SHUT ∷ []) mid now = record { moments = c.write_synced.ensures.any_moment } in
    close_moments file records j c.args.end len old now is (sym (c.in-Some.ensures.shut file is) ∙ c.if-shut.false)
    (subst (λ (h : List Device). Written c.args.end (SHUT ∷ []) h now) c.is_shut_at.ensures.states w)

pub returns-else-shut-clause-closed : goal.returns-else-shut-clause-closed
returns-else-shut-clause-closed g c =
    λ file records is j len did.
    let old = g.D.Disk.states c.args.disk.now in
    let mid = g.D.Disk.states c.is_shut_at.new.disk in
    let now = g.D.Disk.states c.write_synced.new.disk in
    let w : Written c.args.end (SHUT ∷ []) mid now = record { moments = c.write_synced.ensures.any_moment } in
    let done : Done c.args.end (SHUT ∷ []) mid now =
    record { settled = λ f at. c.write_synced.ensures.done f at did } in
    close_rests file records j c.args.end len old now is
    (subst (λ (h : List Device). Written c.args.end (SHUT ∷ []) h now) c.is_shut_at.ensures.states w)
    (subst (λ (h : List Device). Done c.args.end (SHUT ∷ []) h now) c.is_shut_at.ensures.states done)

pub returns-else-shut-clause-counts : goal.returns-else-shut-clause-counts
returns-else-shut-clause-counts g c =
    counts_on _ _ _ (read_counts _ _ c.is_shut_at.ensures.counts) (call_counts _ _ c.write_synced.ensures.counts)

pub returns-else-shut-clause-silent : goal.returns-else-shut-clause-silent
returns-else-shut-clause-silent g c = λ none.
    let before = c.is_shut_at.ensures.states ∙ none in
    (c.write_synced.ensures.any_moment [] (subst (IsSettled []) (sym before) tt)).silent before
