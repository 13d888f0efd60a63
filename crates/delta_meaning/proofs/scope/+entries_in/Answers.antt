-- The innermost name comes last.
use Rattle.std.proofs.Common.{◌≡◌, ap, ap₂, ◌∙◌}
use Rattle.bunch.specs.Names.{put}
use Rattle.hist_value.specs.declared.history.Value.TheVariants.{Unit as NoValue}
use Rattle.hist_value.specs.HistValue.{unit_value, hist_value_of}
use Rattle.hist_value.specs.Environment.{environment_of}
use Rattle.delta_meaning.specs.Scope.{past_in}
use Rattle.core_term.proofs.ValueEntries.{environment-push}
use Rattle.delta_meaning.proofs.scope.+entries_in.Goals as goal

pub returns-in_ok-push-in-Stream : goal.returns-in_ok-push-in-Stream
returns-in_ok-push-in-Stream t c =
    let x = c.in-Stream.x in
    let es = c.in_ok-entries-in-Stream.entries.items in
    let h : environment_of es ≡ past_in c.in-Stream.outer.now = c.in_ok-entries-in-Stream.ensures in
    let e : environment_of c.push.new.self.items ≡ put x.0 unit_value (environment_of es) = rw c.in_ok-push-in-Stream.ensures.items (environment-push es (x, NoValue)) in
    rw c.in-Stream.is (e ∙ ap (put x.0 unit_value) h)

pub returns-in_ok-push-in-Waited : goal.returns-in_ok-push-in-Waited
returns-in_ok-push-in-Waited t c =
    let x = c.in-Waited.x in
    let w = c.in_ok-copy_value-in-Waited.field-0 in
    let es = c.in_ok-entries-in-Waited.entries.items in
    let h : environment_of es ≡ past_in c.in-Waited.outer.now = c.in_ok-entries-in-Waited.ensures in
    let v : hist_value_of w ≡ hist_value_of c.in-Waited.v.now = c.in_ok-copy_value-in-Waited.ensures in
    let e : environment_of c.push-in-Waited.new.self.items ≡ put x.0 (hist_value_of w) (environment_of es) = rw c.in_ok-push-in-Waited.ensures.items (environment-push es (x, w)) in
    rw c.in-Waited.is (e ∙ ap₂ (put x.0) v h)
