-- The names after the first are hidden, and then the first.
use Rattle.std.proofs.Common.{◌≡◌, ◌∷◌, sym, ap, ◌∙◌}
use Rattle.bunch.specs.Names.{put}
use Rattle.hist_value.specs.declared.history.Value.TheVariants.{Unit as NoValue}
use Rattle.hist_value.specs.HistValue.{unit_value}
use Rattle.hist_value.specs.Environment.{environment_of}
use Rattle.core_term.specs.Environment.{by_side}
use Rattle.core_term.specs.Meaning.{no_past}
use Rattle.core_term.specs.Params.{names_in}
use Rattle.core_term.proofs.ValueEntries.{environment-push}
use Rattle.delta_meaning.proofs.Scopes.{by_side-more}
use Rattle.delta_meaning.proofs.scope.+hide.Goals as goal

pub returns-in_ok-push-in-Some : goal.returns-in_ok-push-in-Some
returns-in_ok-push-in-Some t c =
    let n : c.args.params.now ≡ c.in-Some.param.now ∷ c.in-Some.rest.now = c.in-Some.ensures.cases.0 in
    let h : environment_of c.in_ok-hidden-in-Some.hidden.items ≡ by_side (names_in c.in-Some.rest.now) no_past (environment_of c.args.entries.items) = c.in_ok-hidden-in-Some.ensures in
    let e : environment_of c.push.new.self.items ≡ put c.in-Some.param.now.0.0 unit_value (environment_of c.in_ok-hidden-in-Some.hidden.items) =
    rw c.in_ok-push-in-Some.ensures.items (environment-push c.in_ok-hidden-in-Some.hidden.items (c.in-Some.param.now.0, NoValue)) in
    rw n (e ∙ (ap (put c.in-Some.param.now.0.0 unit_value) h ∙ sym (by_side-more c.in-Some.param.now.0.0 (names_in c.in-Some.rest.now) (environment_of c.args.entries.items))))
