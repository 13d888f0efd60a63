-- The mark of the next function is kept where its body is inert.
use Rattle.std.proofs.Common.{◌≡◌, ◌<◌, ◌∙◌, ◌&&◌, false, length, get_or, ap, sym}
use Rattle.std.specs.Prelude.{slice_index_or}
use Rattle.stream_type.specs.StreamType.{type_of}
use Rattle.core_term.specs.CoreTerm.{CoreBody, term_of, core_of, fun_at}
use Rattle.core_term.specs.Inert.{is_inert}
use Rattle.delta_check.specs.Counting.{counts_in, stays_inert}
use Rattle.delta_check.proofs.InertForms.{second_decides, first_decides}
use Rattle.delta_check.proofs.Marked.{body_there, marks_more}
use Rattle.delta_check.proofs.inertness.next_round.Goals as goal
use Rattle.delta_check.proofs.inertness.next_round.Goals.{then-is_marked, else-is_marked}

pub loop-f-preserved : goal.loop-f-preserved
loop-f-preserved c =
    let funs = (core_of c.args.c.now).funs in
    let marks = c.args.marks.now in
    let f = c.loop-f.f in
    let b = c.b-item.result in
    let less : f < length c.args.c.now.funs.items = rw c.deref-b-items.ensures.value at c.loop-f-test.true in
    let is : b ≡ get_or c.args.c.now.funs.items f b = rw c.deref-b-items.ensures.value at c.b-item.is in
    let marked = slice_index_or marks f false in
    let still = is_inert (fun_at funs) (counts_in funs marks) (term_of b.body) (type_of b.result) in
    let own : c.if-is_marked.push ≡ (marked && still) =
    elim c.if-is_marked.branch [
      | then-is_marked w ↦ second_decides marked still c.is_marked.result c.if-is_marked.push c.is_marked.ensures w.if-is_marked.true (w.push-is ∙ w.inert.ensures)
      | else-is_marked w ↦ w.push-is ∙ first_decides marked still c.is_marked.result c.is_marked.ensures w.if-is_marked.false
    ] in
    let mine : c.if-is_marked.push ≡ stays_inert funs marks f =
    own ∙ sym (ap (λ (i : CoreBody). marked && is_inert (fun_at funs) (counts_in funs marks) i.body i.result) (body_there c.args.c.now.funs.items f b less is)) in
    let more = marks_more funs marks c.loop-f.kept.items c.push.new.self.items f c.if-is_marked.push c.in_ok-push.ensures.items c.loop-f.invariant.has_each c.loop-f.invariant.keeps_inert mine in
    record { has_each = more.0; keeps_inert = more.1 }
