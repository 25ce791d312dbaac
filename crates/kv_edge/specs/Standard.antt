-- What an adapter of a reader or a writer of std takes from it and gives to it, as far as that tells its bytes.
use Rattle.std.specs.Prelude.{ℕ, List, take, Option, refl}
use Rattle.std.specs.Coded.{Coded, code_by, coded×, coded_ℕ, coded_list, coded_option}
use Rattle.std.specs.Io.KnownBytes.{Keeps, Appends, Consumes, IsAtEnd}
use Rattle.kv_edge.specs.declared.traits.Taken.{Taken}
use Rattle.kv_edge.specs.declared.traits.Taken.TheVariants as taken
use Rattle.kv_edge.specs.declared.traits.Put.{Put}
use Rattle.kv_edge.specs.declared.traits.Put.TheVariants as put

-- The bytes that the reader knows to have left or the writer knows to hold, and how many calls failed.
pub record Adapter : Type 0 where
  pub known : Option (List ℕ)
  pub faults : ℕ

-- `Got(n)` took the first n of the reader's bytes into the buffer's front; at `End` it has none left; `Failed` took none.
abbrev pub TakesOf : Option (List ℕ) → Option (List ℕ) → Taken → List ℕ → Type 0
TakesOf before now (taken.Got n) buf = Consumes before now (take n buf)
TakesOf before now taken.End buf = IsAtEnd before
TakesOf before now taken.Failed buf = Keeps before now

-- `Wrote(n)` added the first n bytes of the piece to the writer's; `Failed` added none.
abbrev pub PutsTo : Option (List ℕ) → Option (List ℕ) → Put → List ℕ → Type 0
PutsTo before now (put.Wrote n) piece = Appends before now (take n piece)
PutsTo before now put.Failed piece = Keeps before now

-- an adapter as the parts that it has
abbrev pub coded_adapter : Coded Adapter
coded_adapter =
    code_by (Option (List ℕ) × ℕ) (coded× (coded_option (coded_list coded_ℕ)) coded_ℕ)
    (λ a. (a.known, a.faults)) (λ p. record { known = p.0; faults = p.1 }) (λ _. refl)
