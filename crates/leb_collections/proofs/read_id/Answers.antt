use Rattle.std.proofs.Common.{◌≡◌, ◌+◌, ◌≤◌, get_or, sym, take, arith}
use Rattle.leb_collections.specs.Leb128.{value_of, IsLong, IsNotShortest}
use Rattle.leb_collections.proofs.Values.{value_more}
use Rattle.leb_collections.proofs.Ends.{Ends, Ends-not_padded}
use Rattle.leb_collections.proofs.Functions.{id_at_end, id_at_none}
use Rattle.leb_collections.proofs.Reading.{read_fits, read_found, only_end, not_padded, not_long}
use Rattle.leb_collections.proofs.read_id.Goals as goal

pub returns-then-byte-gt-LAST_MOST-clause-only : goal.returns-then-byte-gt-LAST_MOST-clause-only
returns-then-byte-gt-LAST_MOST-clause-only c n spelling rest is parts =
    let long : IsLong c.args.bytes.now = grind arith in
    absurd (not_long c.args.bytes.now n spelling rest long is parts)

pub overflow_add-id : goal.overflow_add-id
overflow_add-id c =
    let fits : c.loop-place.place ≡ 4 → get_or c.args.bytes.now c.loop-place.place 0 ≤ 15 = grind arith in
    let below = read_fits c.args.bytes.now c.loop-place.place c.loop-place.id c.loop-place.invariant c.loop-place-test.true fits in
    rw c.weighed-id.ensures (omega arith)

pub returns-then-place-gt0-clause-only : goal.returns-then-place-gt0-clause-only
returns-then-place-gt0-clause-only c n spelling rest is parts =
    let padded : IsNotShortest c.args.bytes.now = grind arith in
    absurd (not_padded c.args.bytes.now n spelling rest padded is parts)

pub returns-then-byte-lt-TOP_BIT-clause-found : goal.returns-then-byte-lt-TOP_BIT-clause-found
returns-then-byte-lt-TOP_BIT-clause-found c =
    let e : Ends c.args.bytes.now c.loop-place.place = grind arith in
    (omega arith, rw c.weighed-id.ensures (read_found c.args.bytes.now c.loop-place.place c.loop-place.id (λ k. omega (arith, c.type_inv.bytes k)) c.loop-place.invariant e))

pub returns-then-byte-lt-TOP_BIT-clause-only : goal.returns-then-byte-lt-TOP_BIT-clause-only
returns-then-byte-lt-TOP_BIT-clause-only c n spelling rest is parts =
    let e : Ends c.args.bytes.now c.loop-place.place = grind arith in
    let only = only_end c.args.bytes.now c.loop-place.place n spelling rest e is parts in
    let value : c.loop-place.id + c.weighed-id.result ≡ n = rw (c.weighed-id.ensures, c.loop-place.invariant.valued, only.0) (sym (value_more c.args.bytes.now c.loop-place.place e.there)) in
    cc (value, only.1)

pub returns-then-byte-lt-TOP_BIT-clause-reads : goal.returns-then-byte-lt-TOP_BIT-clause-reads
returns-then-byte-lt-TOP_BIT-clause-reads c =
    let e : Ends c.args.bytes.now c.loop-place.place = grind arith in
    let value : c.loop-place.id + c.weighed-id.result ≡ value_of (take (c.loop-place.place + 1) c.args.bytes.now) = rw (c.weighed-id.ensures, c.loop-place.invariant.valued) (sym (value_more c.args.bytes.now c.loop-place.place e.there)) in
    rw value (id_at_end c.args.bytes.now c.loop-place.place e)

pub returns-then-place-gt0-clause-fails : goal.returns-then-place-gt0-clause-fails
returns-then-place-gt0-clause-fails c =
    let padded : IsNotShortest c.args.bytes.now = grind arith in
    id_at_none c.args.bytes.now (λ p e. Ends-not_padded c.args.bytes.now p e padded)
