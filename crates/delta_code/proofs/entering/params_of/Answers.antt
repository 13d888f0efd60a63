-- The parameters of the template that stands there, or none.
use Rattle.std.proofs.Common.{◌∙◌, ap, sym}
use Rattle.std.proofs.lemmas.Result.{IfOk-weaker}
use Rattle.bunch.specs.BunchTree.{leaf_names}
use Rattle.core_term.specs.CoreTerm.{CoreBody, leaf_types}
use Rattle.machine_parts.specs.Parameters.{names_in, types_listed}
use Rattle.machine_parts.proofs.Entering.{missing_is}
use Rattle.template_state.specs.Templates.{bodies_in}
use Rattle.delta_code.proofs.entering.params_of.Goals as goal

pub returns-in-Some-clause-names : goal.returns-in-Some-clause-names
returns-in-Some-clause-names c = IfOk-weaker c.leaves.result _ _ (λ v h. h ∙ ap (λ (b : CoreBody). leaf_names b.params) c.in-Some.ensures.body) c.leaves.ensures.names

pub returns-in-Some-clause-types : goal.returns-in-Some-clause-types
returns-in-Some-clause-types c = IfOk-weaker c.leaves.result _ _ (λ v h. h ∙ ap (λ (b : CoreBody). leaf_types b.params) c.in-Some.ensures.body) c.leaves.ensures.types

pub returns-in-None-clause-names : goal.returns-in-None-clause-names
returns-in-None-clause-names c =
    ap names_in c.new.ensures.items ∙ ap (λ (b : CoreBody). leaf_names b.params) (sym (missing_is (bodies_in c.args.code.now) c.args.f c.in-None.ensures.none))

pub returns-in-None-clause-types : goal.returns-in-None-clause-types
returns-in-None-clause-types c =
    ap types_listed c.new.ensures.items ∙ ap (λ (b : CoreBody). leaf_types b.params) (sym (missing_is (bodies_in c.args.code.now) c.args.f c.in-None.ensures.none))
