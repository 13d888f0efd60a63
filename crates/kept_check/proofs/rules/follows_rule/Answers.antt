-- Each form, and its rule; a frame's arguments are a list.
use Rattle.std.proofs.Common.{◌≡◌, ap}
use Rattle.delta_state.specs.StateTree.{frame_state}
use Rattle.delta_keep.specs.KeptView.{state_of, arguments_from}
use Rattle.delta_keep.proofs.ArgumentRows.{arguments_of-hidden}
use Rattle.kept_check.proofs.rules.follows_rule.Goals as goal

pub returns-in-Sink : goal.returns-in-Sink
returns-in-Sink c = rw c.in-Sink.is (rw c.deref.ensures at c.is_finished.ensures)

pub returns-in-Var : goal.returns-in-Var
returns-in-Var c = rw c.in-Var.is c.is_stream.ensures

pub returns-in-Par : goal.returns-in-Par
returns-in-Par c = rw c.in-Par.is c.has_form.ensures

pub returns-in-Cat : goal.returns-in-Cat
returns-in-Cat c = rw c.in-Cat.is (rw (c.deref-in-Cat.ensures, c.deref-in-Cat-2.ensures) at c.cat_rule.ensures)

pub returns-in-LetPar : goal.returns-in-LetPar
returns-in-LetPar c = rw c.in-LetPar.is c.is_of_form.ensures

pub returns-in-LetCat : goal.returns-in-LetCat
returns-in-LetCat c = rw c.in-LetCat.is c.is_of_form-in-LetCat.ensures

pub returns-in-CaseSum : goal.returns-in-CaseSum
returns-in-CaseSum c = c.held_rule-in-CaseSum.ensures

pub returns-in-Wait : goal.returns-in-Wait
returns-in-Wait c = c.held_rule.ensures

pub returns-in-Frame : goal.returns-in-Frame
returns-in-Frame c =
    let body = state_of c.in-Frame.field-1.value in
    let whole : state_of c.args.s.now ≡ frame_state (arguments_from c.in-Frame.args.items) body = rw c.in-Frame.is (ap (λ args. frame_state args body) (arguments_of-hidden c.in-Frame.args)) in
    rw whole (rw c.deref-in-Frame.ensures.value at c.frame_rule.ensures)
