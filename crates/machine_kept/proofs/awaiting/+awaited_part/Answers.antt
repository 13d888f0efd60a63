-- What is awaited of two parts in a row.
use Rattle.std.proofs.Common.{◌∙◌, List, Bool, ap, refl, drop, map}
use Rattle.std.proofs.lemmas.Result.{IfOk-weaker}
use Rattle.stream_type.specs.StreamType.{type_of, eps}
use Rattle.bunch.specs.Names.{value_at, numbers_of}
use Rattle.bunch.specs.BunchTree.{tree_of}
use Rattle.kept_state.specs.KeptPlace.{semi_count}
use Rattle.machine_kept.specs.KeptAwaiting.{awaited_left}
use Rattle.machine_kept.proofs.Marks.{both_are, turns_are, drop_both}
use Rattle.machine_kept.proofs.awaiting.+awaited_part.Goals as goal

pub awaited_part-returns-in-Empty : goal.awaited_part-returns-in-Empty
awaited_part-returns-in-Empty t c = rw c.in-Empty.is (c.before-in-Empty.ensures _ c.made.ensures)

pub awaited_part-returns-in-Leaf : goal.awaited_part-returns-in-Leaf
awaited_part-returns-in-Leaf t c = rw c.in-Leaf.is (c.before-in-Leaf.ensures _ c.stream.ensures)

pub awaited_part-returns-in-Comma : goal.awaited_part-returns-in-Comma
awaited_part-returns-in-Comma t c =
    let T = value_at eps (numbers_of c.args.params.now) (map type_of c.args.ins.now) in
    let parts = rw (c.deref.ensures, c.deref-in-Comma.ensures) at c.both_parts.ensures in
    rw c.in-Comma.is (IfOk-weaker c.at_once.result _ _ (λ r e. (e.0 ∙ both_are (tree_of c.in-Comma.a.value) (tree_of c.in-Comma.b.value) T c.args.cuts.now _ _ _ refl refl refl, e.1)) (c.at_once.ensures _ _ _ parts))

pub awaited_part-returns-in-Some : goal.awaited_part-returns-in-Some
awaited_part-returns-in-Some t c =
    let T = value_at eps (numbers_of c.args.params.now) (map type_of c.args.ins.now) in
    let parts = rw (c.deref-in-Some.ensures, c.deref-in-Some-2.ensures) at c.both_parts-in-Some.ensures in
    rw (c.in-Semi.is, c.in-Some.ensures.cases.0)
    (IfOk-weaker c.in_turn.result _ _ (λ r e. (e.0 ∙ turns_are (tree_of c.in-Semi.a.value) (tree_of c.in-Semi.b.value) T c.in-Some.cut.now c.in-Some.rest.now _ _ _ refl refl refl, e.1)) (c.in_turn.ensures _ _ _ parts))

pub both_parts-returns-in-Ok : goal.both_parts-returns-in-Ok
both_parts-returns-in-Ok t c =
    let T = value_at eps (numbers_of c.args.params.now) (map type_of c.args.ins.now) in
    let n = semi_count (tree_of c.args.a.now) in
    let m = semi_count (tree_of c.args.b.now) in
    IfOk-weaker c.beside.result _ _
    (λ r e.
    (e.0 ∙ c.in-Ok.ensures.0, (e.1.0 ∙ ap (λ (l : List Bool). awaited_left (tree_of c.args.b.now) T l) c.in-Ok.ensures.1, e.1.1 ∙ (ap (λ (l : List Bool). drop m l) c.in-Ok.ensures.1 ∙ drop_both n m c.args.cuts.now))))
    (c.beside.ensures _ _ c.awaited_part-in-Ok.ensures)
