-- The line of the bound, or what refuses it, is told of each text that has this program.
use Rattle.std.proofs.Common.{ℕ, [], inl, refl, sym, subst}
use Rattle.std.proofs.lemmas.Result.{IfOk-weaker, IfErr-weaker}
use Rattle.delta_end.specs.declared.end.End.{End}
use Rattle.delta_end.specs.End.{WriteCause}
use Rattle.commands.specs.Bounding.{Tells}
use Rattle.commands.proofs.BoundTexts.{bounded}
use Rattle.commands.proofs.bounding.line_of_program.Goals as goal

pub returns-in-Ok-clause-told : goal.returns-in-Ok-clause-told
returns-in-Ok-clause-told c text p accepted places =
    IfOk-weaker c.line.result _ _ (λ told is. record { number = c.in-Ok.n; bounded = bounded text p _ accepted places c.in-Ok.n c.in-Ok.ensures.bound; all = is }) c.line.ensures.told

pub returns-in-Ok-clause-ended : goal.returns-in-Ok-clause-ended
returns-in-Ok-clause-ended c text p accepted places =
    IfErr-weaker c.line.result _ _ (λ end is. subst (λ (e : End). Tells text [] e) (sym is) (inl refl)) c.line.ensures.ended

pub returns-in-Ok-clause-written : goal.returns-in-Ok-clause-written
returns-in-Ok-clause-written c =
    IfErr-weaker c.line.result _ _ (λ end is. subst (λ (e : End). (count : ℕ) → WriteCause e count count) (sym is) (λ count. refl)) c.line.ensures.ended

pub returns-in-Err-clause-ended : goal.returns-in-Err-clause-ended
returns-in-Err-clause-ended c text p accepted places = c.end_of.ensures.ended text p _ accepted places c.in-Err.ensures.refused
