-- They are distinct, and apart from those that are taken.
use Rattle.std.proofs.Common.{◌≡◌, ◌∙◌, sym}
use Rattle.bunch.specs.Names.{numbers_of}
use Rattle.core_term.specs.FreeNames.{is_distinct}
use Rattle.delta_keep.specs.KeptView.{later_of}
use Rattle.kept_check.proofs.LaterRules.{not_once, apart_told}
use Rattle.kept_check.proofs.laters.are_names_apart.Goals as goal

pub returns-then-are_distinct : goal.returns-then-are_distinct
returns-then-are_distinct c =
    let names = numbers_of c.in_ok-names.names.items in
    let test : c.are_distinct.result ≡ is_distinct names = rw c.deref-2.ensures.value at c.are_distinct.ensures in
    apart_told (numbers_of c.args.others.now) (later_of c.args.l.now) names (rw c.deref.ensures.value at c.in_ok-names.ensures) c.are_apart.result (numbers_of c.in_ok-taken.taken.items) c.in_ok-taken.ensures
    (sym test ∙ c.if-are_distinct.true) (rw (c.deref-then-are_distinct.ensures.value, c.deref-then-are_distinct-2.ensures.value) at c.are_apart.ensures)

pub returns : goal.returns
returns c =
    let names = numbers_of c.in_ok-names.names.items in
    let test : c.are_distinct.result ≡ is_distinct names = rw c.deref-2.ensures.value at c.are_distinct.ensures in
    not_once (numbers_of c.args.others.now) (later_of c.args.l.now) names (rw c.deref.ensures.value at c.in_ok-names.ensures) (sym test ∙ c.if-are_distinct.false)
