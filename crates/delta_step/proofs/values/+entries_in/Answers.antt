-- The first name with its value comes last.
use Rattle.std.proofs.Common.{◌≡◌, ◌∷◌, map, ap₂, ◌∙◌}
use Rattle.bunch.specs.Names.{put}
use Rattle.hist_value.specs.HistValue.{hist_value_of}
use Rattle.hist_value.specs.Environment.{environment_of}
use Rattle.delta_state.specs.StateMeaning.{past_in}
use Rattle.delta_step.specs.Marked.{known_in}
use Rattle.machine_parts.proofs.Past.{environment-push}
use Rattle.delta_step.proofs.values.+entries_in.Goals as goal

pub returns-in_ok-push-in-Some : goal.returns-in_ok-push-in-Some
returns-in_ok-push-in-Some t c =
    let x = c.in-Some.first.now in
    let w = c.in_ok-copy_value-in-Some.field-0 in
    let es = c.in_ok-entries-in-Some.entries.items in
    let n : c.args.past.now ≡ c.in-Some.first.now ∷ c.in-Some.rest.now = c.in-Some.ensures.cases.0 in
    let v : hist_value_of w ≡ hist_value_of x.value = c.in_ok-copy_value-in-Some.ensures in
    let h : environment_of es ≡ past_in (map known_in c.in-Some.rest.now) = c.in_ok-entries-in-Some.ensures in
    let e : environment_of c.push.new.self.items ≡ put x.name.0 (hist_value_of w) (environment_of es) = rw c.in_ok-push-in-Some.ensures.items (environment-push es (x.name, w)) in
    rw n (e ∙ ap₂ (put x.name.0) v h)
