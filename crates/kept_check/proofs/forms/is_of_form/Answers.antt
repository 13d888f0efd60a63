-- The type of the stream has the form, or there is no stream.
use Rattle.std.proofs.Common.{true≢false, sym}
use Rattle.stream_type.specs.StreamType.{type_of}
use Rattle.core_term.specs.Typing.{type_at}
use Rattle.delta_check.specs.Scopes.{context_in}
use Rattle.kept_check.specs.Forms.{in_form}
use Rattle.kept_check.proofs.StateForms.{form_at, form_none}
use Rattle.kept_check.proofs.forms.is_of_form.Goals as goal

pub returns-in-Some : goal.returns-in-Some
returns-in-Some c =
    let whole = form_at (context_in c.args.scope.now) c.args.z.0 (type_of c.in-Some.t.now) (in_form c.args.form) (sym c.in-Some.ensures) in
    (λ t. whole.0 (c.has_form.ensures.0 t), λ h. c.has_form.ensures.1 (whole.1 h))

pub returns-in-None : goal.returns-in-None
returns-in-None c =
    let d = context_in c.args.scope.now in
    (λ t. absurd (true≢false (sym t)), λ h. absurd (form_none d c.args.z.0 (in_form c.args.form (type_at d c.args.z.0)) (sym c.in-None.ensures) h))
