use Rattle.std.proofs.Common.{sym, subst}
use Rattle.copy_laws.proofs.Guarding.{IsNewer, newer_now, none_e, old_adds_nothing, old_is_refused}
use Rattle.copy_laws.proofs.guards.the_cas_of_before_is_refused.Goals as goal

pub returns-clause-adds_nothing : goal.returns-clause-adds_nothing
returns-clause-adds_nothing g m = λ y a b c d e f get change request first second now key told done reply before since none within body t success u named v differs w asks same some x.
    old_adds_nothing y e f request now key reply
    (none_e y a b c d e get change request first second key told done before since none within body t success u named v differs w).none asks some
    (subst (λ n. IsNewer n key e.log) (sym same)
    (newer_now y a b c d e get change request first second key told done before since none within body t success u named v differs w)) x

pub returns-clause-refused : goal.returns-clause-refused
returns-clause-refused g m = λ y a b c d e f get change request first second now key told done reply before since none within body t success u named v differs w asks same some x.
    old_is_refused y e f request now key reply
    (none_e y a b c d e get change request first second key told done before since none within body t success u named v differs w).none asks some
    (subst (λ n. IsNewer n key e.log) (sym same)
    (newer_now y a b c d e get change request first second key told done before since none within body t success u named v differs w)) x
