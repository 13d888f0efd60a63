-- Item by item.
use Rattle.std.proofs.Common.{◌≡◌, drop}
use Rattle.std.proofs.lemmas.Result.{err_from_is_err_and}
use Rattle.kept_state.specs.KeptForm.{known_item}
use Rattle.std.proofs.Common.{◌<◌, arith}
use Rattle.delta_keep.proofs.ReadLists.{none_read, list_pushed, list_ended, count_stops, list_read}
use Rattle.delta_keep.proofs.read_values.read_past.Goals as goal

pub returns-in_err-count : goal.returns-in_err-count
returns-in_err-count c =
    let exit = err_from_is_err_and c.from_residual.result c.from_residual.ensures.1 in
    record { reads = rw (exit.1, exit.2) (count_stops known_item (drop c.args.start c.args.bytes.now) c.in_err-count.field-0.0 c.in_err-count.ensures.reads) }

pub returns-in-Err : goal.returns-in-Err
returns-in-Err c =
    let lt : c.items.counter < c.in_ok-count.count = omega arith in
    record { reads = list_ended known_item c.added.new.items.items c.read_known.result c.in-Err.halt (λ x. x.0) (λ x. drop x.1 c.args.bytes.now) (λ n. drop n c.args.bytes.now) c.in_ok-count.ensures.reads c.items.invariant lt (c.in-Err.ensures (λ n. drop n c.args.bytes.now)) c.read_known.ensures.reads }

pub items-init : goal.items-init
items-init c = none_read _ _ _ _ c.in_ok-count.count (drop c.in_ok-count.next c.args.bytes.now) c.new-items.result.items c.new-items.ensures.items

pub items-preserved : goal.items-preserved
items-preserved c =
    let lt : c.items.counter < c.in_ok-count.count = omega arith in
    list_pushed c.read_known.result c.in-Ok.behind (λ x. x.0) (λ x. drop x.1 c.args.bytes.now) (λ n. drop n c.args.bytes.now) c.items.invariant lt (c.in-Ok.ensures (λ n. drop n c.args.bytes.now)) c.read_known.ensures.reads

pub returns : goal.returns
returns c =
    let all : c.items.counter ≡ c.in_ok-count.count = omega arith in
    record { reads = list_read c.in_ok-count.ensures.reads c.items.invariant all }
