use Rattle.std.proofs.Common.{◌≡◌, sym, drop, ◌+◌, arith, [], subst}
use Rattle.std.proofs.lemmas.List.{drop_all}
use Rattle.stream_type.specs.StreamType.{type_of}
use Rattle.stream_prefix.specs.Tree.{prefix_of}
use Rattle.stream_prefix.proofs.Joins.{der-emp}
use Rattle.event_word.proofs.Coming.{Comes, comes_at, comes_first, comes_next, comes_last, comes_after, admits_next, leaves_next}
use Rattle.event_word.proofs.word.prefix_of.Goals as goal

pub loop-x-init : goal.loop-x-init
loop-x-init c =
    let s = type_of c.args.t.now in
    rw (c.in_ok-came.ensures, c.in_ok-left.ensures) record { comes = comes_first s c.args.word.now c.requires; is_left = sym (der-emp s) }

pub one-requires : goal.one-requires
one-requires c =
    let s = type_of c.args.t.now in
    let word = c.args.word.now in
    let i = c.loop-x.x-index in
    let came = prefix_of c.loop-x.came in
    let x = c.x-item.result in
    rw c.loop-x.invariant.is_left (admits_next s came x (drop (i + 1) word) word (comes_at s came word i x c.loop-x-test.true c.x-item.is c.loop-x.invariant.comes))

pub join-requires : goal.join-requires
join-requires c =
    let s = type_of c.args.t.now in
    let word = c.args.word.now in
    let i = c.loop-x.x-index in
    let came = prefix_of c.loop-x.came in
    let x = c.x-item.result in
    rw (c.in_ok-next.ensures.value, c.loop-x.invariant.is_left) (comes_after s came x (drop (i + 1) word) word (comes_at s came word i x c.loop-x-test.true c.x-item.is c.loop-x.invariant.comes))

pub loop-x-preserved : goal.loop-x-preserved
loop-x-preserved c =
    let s = type_of c.args.t.now in
    let word = c.args.word.now in
    let i = c.loop-x.x-index in
    let came = prefix_of c.loop-x.came in
    let x = c.x-item.result in
    let here = comes_at s came word i x c.loop-x-test.true c.x-item.is c.loop-x.invariant.comes in
    rw (c.in_ok-came-2.ensures, c.in_ok-left-2.ensures, c.in_ok-next.ensures.value, c.loop-x.invariant.is_left) record { comes = comes_next s came x (drop (i + 1) word) word here; is_left = leaves_next s came x (drop (i + 1) word) word here }

pub returns : goal.returns
returns c =
    let s = type_of c.args.t.now in
    let word = c.args.word.now in
    let came = prefix_of c.loop-x.came in
    let gone : drop c.loop-x.x-index word ≡ [] = drop_all c.loop-x.x-index word (omega arith) in
    let value = comes_last s came word (subst (λ rest. Comes s came rest word) gone c.loop-x.invariant.comes) in
    record { value = value; prefix = c.loop-x.invariant.comes.came_is_prefix }
