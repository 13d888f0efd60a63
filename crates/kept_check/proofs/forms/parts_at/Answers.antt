-- The type of the stream has the form and these parts, or there is none.
use Rattle.std.proofs.Common.{sym}
use Rattle.stream_type.specs.StreamType.{type_of}
use Rattle.core_term.specs.Typing.{type_at}
use Rattle.delta_check.specs.Scopes.{context_in}
use Rattle.kept_check.specs.Forms.{in_form}
use Rattle.kept_check.proofs.StateForms.{form_none}
use Rattle.kept_check.proofs.FormParts.{parts_at, no_parts_at}
use Rattle.kept_check.proofs.forms.parts_at.Goals as goal

pub returns-in-Some-clause-some : goal.returns-in-Some-clause-some
returns-in-Some-clause-some c = parts_at c.args.form (context_in c.args.scope.now) c.args.z.0 (type_of c.in-Some.t.now) c.parts_in.result (sym c.in-Some.ensures) c.parts_in.ensures.some

pub returns-in-Some-clause-none : goal.returns-in-Some-clause-none
returns-in-Some-clause-none c = no_parts_at c.args.form (context_in c.args.scope.now) c.args.z.0 (type_of c.in-Some.t.now) c.parts_in.result (sym c.in-Some.ensures) c.parts_in.ensures.none

pub returns-in-None-clause-none : goal.returns-in-None-clause-none
returns-in-None-clause-none c =
    let d = context_in c.args.scope.now in
    λ h. form_none d c.args.z.0 (in_form c.args.form (type_at d c.args.z.0)) (sym c.in-None.ensures) h
