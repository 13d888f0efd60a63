-- What stands round, from the inside out.
use Rattle.std.proofs.Common.{◌∙◌, ap, sym}
use Rattle.std.proofs.lemmas.Result.{IfOk-weaker}
use Rattle.template_state.specs.Readers.{state_in}
use Rattle.delta_code.specs.declared.way.Layers.{Layers}
use Rattle.delta_code.specs.Way.{within}
use Rattle.delta_code.proofs.way.+around.Goals as goal

pub returns-in-None : goal.returns-in-None
returns-in-None t c = ap (λ (l : Layers). within l (state_in c.args.s.value)) (sym c.in-None.is)

pub returns-in_ok-inner-in-Let : goal.returns-in_ok-inner-in-Let
returns-in_ok-inner-in-Let t c =
    IfOk-weaker c.around.result _ _
    (λ r h. h ∙ ((λ j. within (c.into_inner.ensures j) (state_in (c.in_ok-inner-in-Let.ensures.ok j))) ∙ ap (λ (l : Layers). within l (state_in c.args.s.value)) (sym c.in-Let.is)))
    c.around.ensures

pub returns-in_ok-inner-in-Pair : goal.returns-in_ok-inner-in-Pair
returns-in_ok-inner-in-Pair t c =
    IfOk-weaker c.around-in-Pair.result _ _
    (λ r h. h ∙ ((λ j. within (c.into_inner-in-Pair.ensures j) (state_in (c.in_ok-inner-in-Pair.ensures.ok j))) ∙ ap (λ (l : Layers). within l (state_in c.args.s.value)) (sym c.in-Pair.is)))
    c.around-in-Pair.ensures

pub returns-in_ok-inner-in-Row : goal.returns-in_ok-inner-in-Row
returns-in_ok-inner-in-Row t c =
    IfOk-weaker c.around-in-Row.result _ _
    (λ r h. h ∙ ((λ j. within (c.into_inner-in-Row.ensures j) (state_in (c.in_ok-inner-in-Row.ensures.ok j))) ∙ ap (λ (l : Layers). within l (state_in c.args.s.value)) (sym c.in-Row.is)))
    c.around-in-Row.ensures

pub returns-in_ok-inner-in-Frame : goal.returns-in_ok-inner-in-Frame
returns-in_ok-inner-in-Frame t c =
    IfOk-weaker c.around-in-Frame.result _ _
    (λ r h. h ∙ ((λ j. within (c.into_inner-in-Frame.ensures j) (state_in (c.in_ok-inner-in-Frame.ensures.ok j))) ∙ ap (λ (l : Layers). within l (state_in c.args.s.value)) (sym c.in-Frame.is)))
    c.around-in-Frame.ensures
