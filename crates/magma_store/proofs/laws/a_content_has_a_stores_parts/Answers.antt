use Rattle.magma_store.proofs.Going.{parts_are, leads_stand}
use Rattle.magma_store.proofs.laws.a_content_has_a_stores_parts.Goals as goal

pub returns-clause-parts : goal.returns-clause-parts
returns-clause-parts c = parts_are

pub returns-clause-stand : goal.returns-clause-stand
returns-clause-stand c = λ spots held layout states lead. leads_stand spots held.items layout states lead
