-- A fault of a derivation is told by its name, at its line.
use Rattle.std.proofs.Common.{rules, subst}
use Rattle.delta_derive.specs.declared.fault.DeriveFault.{DeriveFault}
use Rattle.delta_derive.specs.FirstFault.{first_fault, IsValidText, TellsFirst, Denies}
use Rattle.delta_end.specs.declared.objection.DerivationName.TheVariants as name
use Rattle.commands.proofs.Faults.{refutes}
use Rattle.commands.proofs.derivation.end_of.Goals as goal

pub returns-in-Memory : goal.returns-in-Memory
returns-in-Memory c = search rules

pub returns-in-BadLine : goal.returns-in-BadLine
returns-in-BadLine c core proof short denies first text elaborated =
    c.refused.ensures core proof
    (refutes core proof name.BadLine c.in-BadLine.line (subst (λ (f : DeriveFault). Denies f (IsValidText core proof)) c.in-BadLine.is denies)
    (short, subst (λ (f : DeriveFault). TellsFirst f (first_fault core proof)) c.in-BadLine.is first))
    text elaborated

pub returns-in-BadStep : goal.returns-in-BadStep
returns-in-BadStep c core proof short denies first text elaborated =
    c.refused-in-BadStep.ensures core proof
    (refutes core proof name.BadStep c.in-BadStep.line (subst (λ (f : DeriveFault). Denies f (IsValidText core proof)) c.in-BadStep.is denies)
    (short, subst (λ (f : DeriveFault). TellsFirst f (first_fault core proof)) c.in-BadStep.is first))
    text elaborated

pub returns-in-BadRule : goal.returns-in-BadRule
returns-in-BadRule c core proof short denies first text elaborated =
    c.refused-in-BadRule.ensures core proof
    (refutes core proof name.BadRule c.in-BadRule.line (subst (λ (f : DeriveFault). Denies f (IsValidText core proof)) c.in-BadRule.is denies)
    (short, subst (λ (f : DeriveFault). TellsFirst f (first_fault core proof)) c.in-BadRule.is first))
    text elaborated

pub returns-in-Short : goal.returns-in-Short
returns-in-Short c core proof short denies first text elaborated =
    c.refused-in-Short.ensures core proof
    (refutes core proof name.Short c.in-Short.lines (subst (λ (f : DeriveFault). Denies f (IsValidText core proof)) c.in-Short.is denies)
    (short, subst (λ (f : DeriveFault). TellsFirst f (first_fault core proof)) c.in-Short.is first))
    text elaborated

pub returns-in-Long : goal.returns-in-Long
returns-in-Long c core proof short denies first text elaborated =
    c.refused-in-Long.ensures core proof
    (refutes core proof name.Long c.in-Long.line (subst (λ (f : DeriveFault). Denies f (IsValidText core proof)) c.in-Long.is denies)
    (short, subst (λ (f : DeriveFault). TellsFirst f (first_fault core proof)) c.in-Long.is first))
    text elaborated
