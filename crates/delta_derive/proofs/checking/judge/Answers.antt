-- The claims and the inert functions are the program's.
use mathlib.Core.Path.{fun_ext}
use Rattle.std.proofs.Common.{◌≡◌, ◌∙◌, ℕ, Bool, List, ap, ap₂, subst}
use Rattle.std.specs.Prelude.{Option, None, IfOk, IfErr}
use Rattle.core_term.specs.CoreTerm.{core_of}
use Rattle.delta_check.specs.Counting.{counts_in}
use Rattle.delta_derive.specs.declared.fault.DeriveFault.{DeriveFault}
use Rattle.delta_derive.specs.LineText.{lines_in}
use Rattle.delta_derive.specs.Claims.{Claim}
use Rattle.delta_derive.specs.FirstFault.{first_from, TellsFirst}
use Rattle.delta_derive.proofs.checking.judge.Goals as goal

pub returns-clause-none : goal.returns-clause-none
returns-clause-none c =
    let funs = (core_of c.args.c.now).funs in
    let same = ap₂ (λ (counts : ℕ → Bool) (gs : List Claim). first_from funs counts 0 gs (lines_in c.args.text.now)) (ap (counts_in funs) c.deref.ensures.value ∙ fun_ext c.in_ok-marks.ensures.inert) c.in-Ok.ensures in
    subst (λ (o : Option DeriveFault). IfOk c.take_lines-judged.result (λ _. o ≡ None)) same c.take_lines-judged.ensures.none

pub returns-clause-first : goal.returns-clause-first
returns-clause-first c =
    let funs = (core_of c.args.c.now).funs in
    let same = ap₂ (λ (counts : ℕ → Bool) (gs : List Claim). first_from funs counts 0 gs (lines_in c.args.text.now)) (ap (counts_in funs) c.deref.ensures.value ∙ fun_ext c.in_ok-marks.ensures.inert) c.in-Ok.ensures in
    subst (λ (o : Option DeriveFault). IfErr c.take_lines-judged.result (λ f. TellsFirst f o)) same c.take_lines-judged.ensures.first
