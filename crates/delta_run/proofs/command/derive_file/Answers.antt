-- The derivation is of the program of the text that the shelf told.
use Rattle.std.proofs.Common.{◌∙◌, ℕ, List, take, subst}
use Rattle.commands.specs.Deriving.{DerivesText}
use Rattle.delta_run.proofs.command.derive_file.Goals as goal

pub returns-in-Ok-clause-derived : goal.returns-in-Ok-clause-derived
returns-in-Ok-clause-derived g c files tells more again =
    subst (λ (text : List ℕ). DerivesText text (take 1048577 (more c.args.proof.now)) c.derive_source.result) (c.deref.ensures.value ∙ c.in-Ok.ensures.bytes files tells)
    (c.derive_source.ensures.derived more (c.in-Ok.ensures.same ∙ again))
