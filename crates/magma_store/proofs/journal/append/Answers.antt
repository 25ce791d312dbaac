use Rattle.std.proofs.Common.{[], ◌∷◌, ◌+◌, List, ℕ, refl, sym, subst}
use Rattle.magma_disk.specs.Moments.{IsSettled}
use Rattle.magma_store.specs.declared.journal.TheConstants.{OPEN}
use Rattle.magma_store.proofs.Appending.{Written, Done, first_moments, both_moments, added}
use Rattle.magma_store.proofs.Counts.{calls_on}
use Rattle.magma_store.proofs.journal.append.Goals as goal

pub returns-in-Failed-clause-any_moment : goal.returns-in-Failed-clause-any_moment
returns-in-Failed-clause-any_moment g c =
    λ records held rests len small is.
    let old = g.D.Disk.states c.args.disk.now in
    let mid = g.D.Disk.states c.write_synced.new.disk in
    let w : Written (c.args.end + 1) c.args.piece.now old mid =
    record { moments = c.write_synced.ensures.any_moment } in
    first_moments records held c.args.end len small c.args.piece.now old mid rests w

pub returns-in-Done-clause-any_moment : goal.returns-in-Done-clause-any_moment
returns-in-Done-clause-any_moment g c =
    λ records held rests len small is.
    let old = g.D.Disk.states c.args.disk.now in
    let mid = g.D.Disk.states c.write_synced.new.disk in
    let now = g.D.Disk.states c.write_synced-in-Done.new.disk in
    let w : Written (c.args.end + 1) c.args.piece.now old mid =
    record { moments = c.write_synced.ensures.any_moment } in
    let done : Done (c.args.end + 1) c.args.piece.now old mid =
    record { settled = λ file at. c.in-Done.ensures.done file at refl } in
    let v : Written c.args.end (OPEN ∷ []) mid now = record { moments = c.write_synced-in-Done.ensures.any_moment } in
    both_moments records held c.args.end len small old mid now rests
    (subst (λ (p : List ℕ). Written (c.args.end + 1) p old mid) is w)
    (subst (λ (p : List ℕ). Done (c.args.end + 1) p old mid) is done) v

pub returns-in-Done-clause-added : goal.returns-in-Done-clause-added
returns-in-Done-clause-added g c =
    λ records held rests len small is did.
    let old = g.D.Disk.states c.args.disk.now in
    let mid = g.D.Disk.states c.write_synced.new.disk in
    let now = g.D.Disk.states c.write_synced-in-Done.new.disk in
    let w : Written (c.args.end + 1) c.args.piece.now old mid =
    record { moments = c.write_synced.ensures.any_moment } in
    let done : Done (c.args.end + 1) c.args.piece.now old mid =
    record { settled = λ file at. c.in-Done.ensures.done file at refl } in
    let v : Written c.args.end (OPEN ∷ []) mid now = record { moments = c.write_synced-in-Done.ensures.any_moment } in
    let last : Done c.args.end (OPEN ∷ []) mid now =
    record { settled = λ file at. c.write_synced-in-Done.ensures.done file at did } in
    added records held c.args.end len small old mid now rests
    (subst (λ (p : List ℕ). Written (c.args.end + 1) p old mid) is w)
    (subst (λ (p : List ℕ). Done (c.args.end + 1) p old mid) is done) v last

pub returns-in-Done-clause-counts : goal.returns-in-Done-clause-counts
returns-in-Done-clause-counts g c = calls_on _ _ _ c.in-Done.ensures.counts c.write_synced-in-Done.ensures.counts

pub returns-in-Failed-clause-silent : goal.returns-in-Failed-clause-silent
returns-in-Failed-clause-silent g c = λ none.
    (c.write_synced.ensures.any_moment [] (subst (IsSettled []) (sym none) tt)).silent none

pub returns-in-Done-clause-silent : goal.returns-in-Done-clause-silent
returns-in-Done-clause-silent g c = λ none.
    let after = (c.write_synced.ensures.any_moment [] (subst (IsSettled []) (sym none) tt)).silent none in
    (c.write_synced-in-Done.ensures.any_moment [] (subst (IsSettled []) (sym after) tt)).silent after
