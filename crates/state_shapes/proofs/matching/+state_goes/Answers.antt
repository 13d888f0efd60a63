-- Each form of a state, laid on its shape.
use Rattle.std.proofs.Common.{ap₂}
use Rattle.delta_state.specs.StateTree.{par_state, cat_state, frame_state}
use Rattle.state_shapes.proofs.Growing.{goes_where, goes_first, goes_then, goes_two}
use Rattle.state_shapes.proofs.SameForms.{let_same, let_par_same, let_cat_same, before_same}
use Rattle.state_shapes.proofs.matching.+state_goes.Goals as goal

pub state_goes-returns-in-Par-Par : goal.state_goes-returns-in-Par-Par
state_goes-returns-in-Par-Par t c =
    rw (c.in-Par-Par.is-0, c.in-Par-Par.is-1)
    (goes_then _ (goes_first (c.goes_on.ensures.0 c.if-not-goes_on.false) (rw (c.deref.ensures, c.deref-in-Par-Par.ensures) at c.state_goes.ensures))
    (rw (c.deref-in-Par-Par-2.ensures, c.deref-in-Par-Par-3.ensures) at c.state_goes-in-Par-Par.ensures) (λ x e f. ap₂ par_state e f))

pub state_goes-returns-in-Cat-Cat : goal.state_goes-returns-in-Cat-Cat
state_goes-returns-in-Cat-Cat t c =
    rw (c.in-Cat-Cat.is-0, c.in-Cat-Cat.is-1)
    (goes_then _ (goes_first (c.goes_on.ensures.0 c.if-not-goes_on.false) c.later_goes.ensures)
    (rw (c.deref-in-Cat-Cat.ensures, c.deref-in-Cat-Cat-2.ensures) at c.state_goes-in-Cat-Cat.ensures) (λ x e f. ap₂ cat_state f e))

pub state_goes-returns-in-Let-Let : goal.state_goes-returns-in-Let-Let
state_goes-returns-in-Let-Let t c =
    rw (c.in-Let-Let.is-0, c.in-Let-Let.is-1)
    (goes_two _ (c.goes_on.ensures.0 c.if-not-goes_on.false) (rw (c.deref-in-Let-Let.ensures, c.deref-in-Let-Let-2.ensures) at c.state_goes-first.ensures)
    (rw (c.deref-in-Let-Let-3.ensures, c.deref-in-Let-Let-4.ensures) at c.state_goes-in-Let-Let.ensures) (λ e x f g. let_same (c.same_typed.ensures e) f g))

pub state_goes-returns-in-LetPar-LetPar : goal.state_goes-returns-in-LetPar-LetPar
state_goes-returns-in-LetPar-LetPar t c =
    rw (c.in-LetPar-LetPar.is-0, c.in-LetPar-LetPar.is-1)
    (goes_where _ (c.goes_on.ensures.0 c.if-not-goes_on.false) (rw (c.deref-in-LetPar-LetPar.ensures, c.deref-in-LetPar-LetPar-2.ensures) at c.state_goes-in-LetPar-LetPar.ensures)
    (λ e x f. let_par_same (c.same_three.ensures e) f))

pub state_goes-returns-in-LetCat-LetCat : goal.state_goes-returns-in-LetCat-LetCat
state_goes-returns-in-LetCat-LetCat t c =
    rw (c.in-LetCat-LetCat.is-0, c.in-LetCat-LetCat.is-1)
    (goes_where _ (c.goes_on.ensures.0 c.if-not-goes_on.false) (rw (c.deref-in-LetCat-LetCat.ensures, c.deref-in-LetCat-LetCat-2.ensures) at c.state_goes-in-LetCat-LetCat.ensures)
    (λ e x f. let_cat_same (c.same_three-in-LetCat-LetCat.ensures e) f))

pub state_goes-returns-in-Frame-Frame : goal.state_goes-returns-in-Frame-Frame
state_goes-returns-in-Frame-Frame t c =
    rw (c.in-Frame-Frame.is-0, c.in-Frame-Frame.is-1)
    (goes_then _ (goes_first (c.goes_on.ensures.0 c.if-not-goes_on.false) (rw (c.deref-in-Frame-Frame.ensures, c.deref-in-Frame-Frame-2.ensures) at c.arguments_go.ensures))
    (rw (c.deref-in-Frame-Frame-3.ensures, c.deref-in-Frame-Frame-4.ensures) at c.state_goes-in-Frame-Frame.ensures) (λ x e f. ap₂ frame_state e f))

pub arguments_go-returns-in-Before-Before : goal.arguments_go-returns-in-Before-Before
arguments_go-returns-in-Before-Before t c =
    rw (c.in-Before-Before.is-0, c.in-Before-Before.is-1)
    (goes_two _ (c.goes_on.ensures.0 c.if-not-goes_on.false) (rw (c.deref.ensures, c.deref-in-Before-Before.ensures) at c.state_goes-first.ensures)
    (rw (c.deref-in-Before-Before-2.ensures, c.deref-in-Before-Before-3.ensures) at c.arguments_go.ensures) (λ e x f g. before_same (c.same_typed.ensures e) f g))
