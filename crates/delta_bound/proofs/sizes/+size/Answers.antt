-- The size of each form from those of its parts.
use Rattle.std.proofs.Common.{rules, ◌∙◌, ap, ap₂, refl}
use Rattle.std.specs.Prelude.{Some}
use Rattle.state_bounds.specs.Bounds.{both, greater}
use Rattle.delta_bound.proofs.sizes.+size.Goals as goal

pub returns-in-Par : goal.returns-in-Par
returns-in-Par t c = search rules

pub returns-in-Cat : goal.returns-in-Cat
returns-in-Cat t c =
    rw c.in-Cat.is
    (c.both-in-Cat-2.ensures
    ∙ ap (λ b. both b (Some 1)) (c.both-in-Cat.ensures ∙ ap₂ both (rw c.deref-in-Cat.ensures at c.size-in-Cat.ensures) (rw c.deref-in-Cat-2.ensures at c.size-in-Cat-2.ensures)))

pub returns-in-Sum : goal.returns-in-Sum
returns-in-Sum t c =
    rw c.in-Sum.is
    (c.both-in-Sum.ensures
    ∙ ap (both (Some 1)) (c.greater.ensures ∙ ap₂ greater (rw c.deref-in-Sum.ensures at c.size-in-Sum.ensures) (rw c.deref-in-Sum-2.ensures at c.size-in-Sum-2.ensures)))

pub returns-in-Star : goal.returns-in-Star
returns-in-Star t c = rw c.in-Star.is refl
