-- The run goes on with the text's program.
use Rattle.std.proofs.Common.{inl, refl, sym, subst, Some}
use Rattle.delta_tree.specs.Tree.{program_of}
use Rattle.program_refusal.specs.declared.refusal.Refusal.{Refusal}
use Rattle.delta_end.specs.declared.end.End.TheVariants.{Refused, Memory}
use Rattle.delta_elab.proofs.Whole.{elaborate-fits}
use Rattle.commands.specs.Saving.{SavesTextFrom}
use Rattle.commands.proofs.Leaving.{changes_nothing}
use Rattle.commands.proofs.SaveTexts.{saves_text_from}
use Rattle.commands.proofs.saving.save_source_from.Goals as goal

pub save_checked_from-end-requires-clause-fits : goal.save_checked_from-end-requires-clause-fits
save_checked_from-end-requires-clause-fits g c = elaborate-fits (program_of c.in-Ok.accepted.program) _ c.in-Ok.ensures.accepted.accepted.accepted.elaborated

pub returns-in-Ok-clause-saved : goal.returns-in-Ok-clause-saved
returns-in-Ok-clause-saved g c = saves_text_from _ _ _ _ _ _ _ _ _ c.in-Ok.ensures.accepted _ c.save_checked_from-end.ensures.saved

pub returns-in-Err-Memory-clause-saved : goal.returns-in-Err-Memory-clause-saved
returns-in-Err-Memory-clause-saved g c = record { behind = Memory; is_behind = inl refl; ended = inl (refl, refl); leaves = λ p d accepted told there k typed. tt; changes = changes_nothing _ _; still = λ ill. refl }

pub returns-in-Err-Refused-clause-saved : goal.returns-in-Err-Refused-clause-saved
returns-in-Err-Refused-clause-saved g c =
    let log = g.L.Link.log c.args.link.now in
    let left = g.L.Link.left c.args.link.now in
    let files = g.S.Shelf.holds c.args.shelf.now in
    let refused = rw c.in-Err-Refused.field-0-is at c.in-Err-Refused.ensures.refused in
    subst (λ (why : Refusal). SavesTextFrom log log left left c.args.text.now c.args.budget c.args.version c.args.from.now c.args.name.now files files (Refused (Some why))) (sym c.in-Err-Refused.why-is)
    (record { behind = Refused (Some c.in-Err-Refused.why); is_behind = refl; ended = (refused, (refl, refl)); leaves = λ p d accepted told there k typed. tt; changes = refl; still = λ ill. refl })
