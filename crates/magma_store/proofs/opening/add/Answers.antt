use Rattle.std.proofs.Common.{◌⊎◌, ◌++◌, ◌∷◌, [], inl, List, ℕ, refl}
use Rattle.magma_disk.proofs.Moments.{weaker, onward}
use Rattle.magma_store.specs.Journal.{IsJournal}
use Rattle.magma_store.proofs.opening.add.Goals as goal

pub returns-in-Done-clause-any_moment : goal.returns-in-Done-clause-any_moment
returns-in-Done-clause-any_moment g c = λ file records held is j at small piece.
    let P : List ℕ → Type 0 = λ image. IsJournal records image ⊎ IsJournal (records ++ held ∷ []) image in
    onward P _ _ _ (weaker (IsJournal records) P _ _ (λ image l. inl l) (c.close.ensures.any_moment file records is j at))
    (c.append.ensures.any_moment records held (c.in-Done.ensures.closed file records is j at refl) at small piece)

pub returns-in-Done-clause-added : goal.returns-in-Done-clause-added
returns-in-Done-clause-added g c = λ file records held is j at small piece done.
    c.append.ensures.added records held (c.in-Done.ensures.closed file records is j at refl) at small piece done

pub returns-in-Failed-clause-any_moment : goal.returns-in-Failed-clause-any_moment
returns-in-Failed-clause-any_moment g c = λ file records held is j at small piece.
    let P : List ℕ → Type 0 = λ image. IsJournal records image ⊎ IsJournal (records ++ held ∷ []) image in
    weaker (IsJournal records) P _ _ (λ image l. inl l) (c.close.ensures.any_moment file records is j at)
