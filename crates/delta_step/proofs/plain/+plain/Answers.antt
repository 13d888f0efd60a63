-- Each form, without its marks.
use Rattle.std.proofs.Common.{◌≡◌, ◌∷◌, List, ℕ, sym, ap, ◌∙◌, arith}
use Rattle.delta_state.specs.PlainState.{PlainState, without_marks}
use Rattle.delta_state.specs.StateTree.{ArgumentTrees, frame_state}
use Rattle.machine_parts.specs.Heft.{heft, heft_of_all}
use Rattle.delta_step.specs.declared.marked.Marked.{Marked}
use Rattle.delta_step.specs.declared.marked.Argument.{Argument}
use Rattle.delta_step.specs.Marked.{state_in, arguments_from}
use Rattle.delta_step.proofs.Rows.{arguments_in-hidden}
use Rattle.delta_step.proofs.Making.{makes_same}
use Rattle.delta_step.proofs.plain.+plain.Goals as goal

-- what is made of a state
abbrev plain_of : Marked → PlainState
plain_of s = without_marks (state_in s)

-- how heavy a state is
abbrev heft_in : Marked → ℕ
heft_in s = heft (state_in s)

pub plain-returns-in-Sink : goal.plain-returns-in-Sink
plain-returns-in-Sink t c = makes_same c.sink.result _ _ (sym (ap plain_of c.in-Sink.is)) c.sink.ensures

pub plain-returns-in-Var : goal.plain-returns-in-Var
plain-returns-in-Var t c = makes_same c.boxed.result _ _ (sym (ap plain_of c.in-Var.is)) c.boxed.ensures

pub plain-returns-in-Par : goal.plain-returns-in-Par
plain-returns-in-Par t c = makes_same c.par_of.result _ _ (sym (ap plain_of c.in-Par.is)) (c.par_of.ensures _ _ (rw c.deref.ensures at c.plain.ensures) (rw c.deref-in-Par.ensures at c.plain-in-Par.ensures))

pub plain-returns-in-Cat : goal.plain-returns-in-Cat
plain-returns-in-Cat t c = makes_same c.cat.result _ _ (sym (ap plain_of c.in-Cat.is)) (c.cat.ensures _ (rw c.deref-in-Cat.ensures at c.plain-in-Cat.ensures))

pub plain-returns-in-Let : goal.plain-returns-in-Let
plain-returns-in-Let t c = makes_same c.let_of.result _ _ (sym (ap plain_of c.in-Let.is)) (c.let_of.ensures _ _ (rw c.deref-in-Let.ensures at c.plain-in-Let.ensures) (rw c.deref-in-Let-2.ensures at c.plain-in-Let-2.ensures))

pub plain-returns-in-LetPar : goal.plain-returns-in-LetPar
plain-returns-in-LetPar t c = makes_same c.let_par_of.result _ _ (sym (ap plain_of c.in-LetPar.is)) (c.let_par_of.ensures _ (rw c.deref-in-LetPar.ensures at c.plain-in-LetPar.ensures))

pub plain-returns-in-LetCat : goal.plain-returns-in-LetCat
plain-returns-in-LetCat t c = makes_same c.let_cat_of.result _ _ (sym (ap plain_of c.in-LetCat.is)) (c.let_cat_of.ensures _ (rw c.deref-in-LetCat.ensures at c.plain-in-LetCat.ensures))

pub plain-returns-in-CaseSum : goal.plain-returns-in-CaseSum
plain-returns-in-CaseSum t c = makes_same c.sum.result _ _ (sym (ap plain_of c.in-CaseSum.is)) (rw c.deref-in-CaseSum.ensures.value at c.sum.ensures)

pub plain-returns-in-CaseStar : goal.plain-returns-in-CaseStar
plain-returns-in-CaseStar t c = makes_same c.star.result _ _ (sym (ap plain_of c.in-CaseStar.is)) (rw c.deref-in-CaseStar.ensures.value at c.star.ensures)

pub plain-returns-in-Wait : goal.plain-returns-in-Wait
plain-returns-in-Wait t c = makes_same c.wait.result _ _ (sym (ap plain_of c.in-Wait.is)) (rw c.deref-in-Wait.ensures.value at c.wait.ensures)

pub plain-returns-in-Frame : goal.plain-returns-in-Frame
plain-returns-in-Frame t c =
    let is : state_in c.args.s.now ≡ frame_state (arguments_from c.in-Frame.args.items) (state_in c.in-Frame.a.value) =
    ap state_in c.in-Frame.is ∙ ap (λ (l : ArgumentTrees). frame_state l (state_in c.in-Frame.a.value)) (arguments_in-hidden c.in-Frame.args) in
    makes_same c.frame.result _ _ (sym (ap without_marks is)) (c.frame.ensures _ _ (rw c.deref-in-Frame.ensures.value at c.plain_all.ensures) (rw c.deref-in-Frame-2.ensures at c.plain-in-Frame.ensures))

pub plain_all-returns-in-Some : goal.plain_all-returns-in-Some
plain_all-returns-in-Some t c =
    let all : c.args.args.now ≡ c.in-Some.arg.now ∷ c.in-Some.others.now = c.in-Some.ensures.cases.0 in
    rw all (c.one_more.ensures _ _ (rw c.deref.ensures at c.plain-state.ensures) c.plain_all.ensures)

pub plain-plain-requires : goal.plain-plain-requires
plain-plain-requires t c =
    let heavier = ap heft_in c.in-Par.is in
    let part = ap heft_in c.deref.ensures in
    (omega (arith, heavier, part), tt)

pub plain-plain-requires-in-Par : goal.plain-plain-requires-in-Par
plain-plain-requires-in-Par t c =
    let heavier = ap heft_in c.in-Par.is in
    let part = ap heft_in c.deref-in-Par.ensures in
    (omega (arith, heavier, part), tt)

pub plain-plain-requires-in-Cat : goal.plain-plain-requires-in-Cat
plain-plain-requires-in-Cat t c =
    let heavier = ap heft_in c.in-Cat.is in
    let part = ap heft_in c.deref-in-Cat.ensures in
    (omega (arith, heavier, part), tt)

pub plain-plain-requires-in-Let : goal.plain-plain-requires-in-Let
plain-plain-requires-in-Let t c =
    let heavier = ap heft_in c.in-Let.is in
    let part = ap heft_in c.deref-in-Let.ensures in
    (omega (arith, heavier, part), tt)

pub plain-plain-requires-in-Let-2 : goal.plain-plain-requires-in-Let-2
plain-plain-requires-in-Let-2 t c =
    let heavier = ap heft_in c.in-Let.is in
    let part = ap heft_in c.deref-in-Let-2.ensures in
    (omega (arith, heavier, part), tt)

pub plain-plain-requires-in-LetPar : goal.plain-plain-requires-in-LetPar
plain-plain-requires-in-LetPar t c =
    let heavier = ap heft_in c.in-LetPar.is in
    let part = ap heft_in c.deref-in-LetPar.ensures in
    (omega (arith, heavier, part), tt)

pub plain-plain-requires-in-LetCat : goal.plain-plain-requires-in-LetCat
plain-plain-requires-in-LetCat t c =
    let heavier = ap heft_in c.in-LetCat.is in
    let part = ap heft_in c.deref-in-LetCat.ensures in
    (omega (arith, heavier, part), tt)

pub plain-plain_all-requires : goal.plain-plain_all-requires
plain-plain_all-requires t c =
    let is : state_in c.args.s.now ≡ frame_state (arguments_from c.in-Frame.args.items) (state_in c.in-Frame.a.value) =
    ap state_in c.in-Frame.is ∙ ap (λ (l : ArgumentTrees). frame_state l (state_in c.in-Frame.a.value)) (arguments_in-hidden c.in-Frame.args) in
    let heavier = ap heft is in
    let part = ap (λ (l : List Argument). heft_of_all (arguments_from l)) c.deref-in-Frame.ensures.value in
    (omega (arith, heavier, part), tt)

pub plain-plain-requires-in-Frame : goal.plain-plain-requires-in-Frame
plain-plain-requires-in-Frame t c =
    let is : state_in c.args.s.now ≡ frame_state (arguments_from c.in-Frame.args.items) (state_in c.in-Frame.a.value) =
    ap state_in c.in-Frame.is ∙ ap (λ (l : ArgumentTrees). frame_state l (state_in c.in-Frame.a.value)) (arguments_in-hidden c.in-Frame.args) in
    let heavier = ap heft is in
    let part = ap heft_in c.deref-in-Frame-2.ensures in
    (omega (arith, heavier, part), tt)

pub plain_all-plain-state-requires : goal.plain_all-plain-state-requires
plain_all-plain-state-requires t c =
    let heavier = ap (λ (l : List Argument). heft_of_all (arguments_from l)) c.in-Some.ensures.cases.0 in
    let part = ap heft_in c.deref.ensures in
    (omega (arith, heavier, part), tt)

pub plain_all-plain_all-requires : goal.plain_all-plain_all-requires
plain_all-plain_all-requires t c =
    let heavier = ap (λ (l : List Argument). heft_of_all (arguments_from l)) c.in-Some.ensures.cases.0 in
    (omega (arith, heavier), tt)
