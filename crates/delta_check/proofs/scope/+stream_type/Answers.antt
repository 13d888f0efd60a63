-- What a scope's form gives, or else the scope around it.
use Rattle.std.proofs.Common.{◌∙◌, ap, sym}
use Rattle.delta_check.specs.declared.scope.Scope.{Scope}
use Rattle.delta_check.specs.Scopes.{context_in}
use Rattle.delta_check.proofs.scope.+stream_type.Goals as goal

pub returns-in-Params : goal.returns-in-Params
returns-in-Params t c = c.type_of_name.ensures ∙ sym (ap (λ (s : Scope). (context_in s).types c.args.x.0) c.in-Params.is)

pub returns-in-Given : goal.returns-in-Given
returns-in-Given t c = c.given_type.ensures ∙ sym (ap (λ (s : Scope). (context_in s).types c.args.x.0) c.in-Given.is)

pub returns-in-Among : goal.returns-in-Among
returns-in-Among t c = c.given_type-in-Among.ensures ∙ sym (ap (λ (s : Scope). (context_in s).types c.args.x.0) c.in-Among.is)

pub returns-in-Fact : goal.returns-in-Fact
returns-in-Fact t c = c.stream_type.ensures ∙ sym (ap (λ (s : Scope). (context_in s).types c.args.x.0) c.in-Fact.is)

pub returns-in-Valued : goal.returns-in-Valued
returns-in-Valued t c = c.stream_type-in-Valued.ensures ∙ sym (ap (λ (s : Scope). (context_in s).types c.args.x.0) c.in-Valued.is)
