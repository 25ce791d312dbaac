-- What takings, puttings and counts of faults, one after the other, come to.
use Rattle.std.proofs.Common.{◌≡◌, ℕ, ◌^◌, ◌<◌, ◌≤◌, List, [], ◌++◌, Option, None, Some, IfSome, refl, sym, ap, ◌∙◌, append_assoc, append-nil, arith}
use Rattle.std.specs.Io.KnownBytes.{prepend_known, append_known, IsAtEnd}
use Rattle.kv_edge.specs.Edge.{Rose, TookAll, PutAll}

prepend_known-append : (xs ys : List ℕ) (c : Option (List ℕ)) → prepend_known xs (prepend_known ys c) ≡ prepend_known (xs ++ ys) c
prepend_known-append xs ys None = refl
prepend_known-append xs ys (Some zs) = ap Some (sym (append_assoc xs ys zs))

append_known-append : (a : Option (List ℕ)) (xs ys : List ℕ) → append_known (append_known a xs) ys ≡ append_known a (xs ++ ys)
append_known-append None xs ys = refl
append_known-append (Some zs) xs ys = ap Some (append_assoc zs xs ys)

-- two takings, one after the other, are one
pub took_more : (a b c : Option (List ℕ)) (xs ys : List ℕ) → TookAll a b xs → TookAll b c ys → TookAll a c (xs ++ ys)
took_more a b c xs ys first second = first ∙ ap (prepend_known xs) second ∙ prepend_known-append xs ys c

-- two puttings, one after the other, are one
pub put_more : (a b c : Option (List ℕ)) (xs ys : List ℕ) → PutAll a b xs → PutAll b c ys → PutAll a c (xs ++ ys)
put_more a b c xs ys first second = second ∙ ap (λ known. append_known known ys) first ∙ append_known-append a xs ys

-- where nothing is taken, what is left stays
pub took_nothing : (a : Option (List ℕ)) → TookAll a a []
took_nothing None = refl
took_nothing (Some xs) = refl

-- where nothing is put, what was written stays
pub put_nothing : (a : Option (List ℕ)) → PutAll a a []
put_nothing None = refl
put_nothing (Some xs) = ap Some (sym (append-nil xs))

-- a count that rose, and doesn't fall after, rose
pub rose_then : (a b c : ℕ) → Rose a b → b ≤ c → Rose a c
rose_then a b c rose kept = omega arith

-- a count that doesn't fall, and then rises, rose
pub then_rose : (a b c : ℕ) → a ≤ b → Rose b c → Rose a c
then_rose a b c kept rose = omega arith

-- a source that is at its end gave all that it had
pub took_whole : (a b : Option (List ℕ)) (xs : List ℕ) → TookAll a b xs → IsAtEnd b → IfSome a (λ all. all ≡ xs)
took_whole None b xs taken end = tt
took_whole (Some all) None xs taken end = absurd (cc)
took_whole (Some all) (Some rest) xs taken end =
    let whole : all ≡ xs ++ rest = cc in
    whole ∙ ap (λ l. xs ++ l) end ∙ append-nil xs

-- a source that tells its bytes goes on telling them
pub took_known : (all : List ℕ) (b : Option (List ℕ)) (xs : List ℕ) → TookAll (Some all) b xs → (rest : List ℕ) × (b ≡ Some rest) × (all ≡ xs ++ rest)
took_known all None xs taken = absurd (cc)
took_known all (Some rest) xs taken = (rest, refl, cc)

-- a count that rose doesn't fall, as long as it is a number of 64 bits
pub rose_kept : (a b : ℕ) → a < 2 ^ 64 → Rose a b → a ≤ b
rose_kept a b fits rose = omega arith
