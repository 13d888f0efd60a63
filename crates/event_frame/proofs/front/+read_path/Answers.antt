-- What stands behind a byte of steps, with those steps in front.
use Rattle.std.proofs.Common.{◌≡◌, ◌+◌, ℕ, ◌∙◌, ap, sym, subst}
use Rattle.event_frame.specs.declared.version.Version.{Version}
use Rattle.event_frame.specs.declared.front.Front.TheVariants.{Part, Fault}
use Rattle.event_frame.specs.Reading.{parts}
use Rattle.event_frame.specs.Front.{IsTail, IsAtPath}
use Rattle.event_frame.proofs.Fronts.{tail_grows, part_grows, fault_grows}
use Rattle.event_frame.proofs.front.+read_path.Goals as goal
use Rattle.event_frame.proofs.front.+read_path.Goals.{in-V1, in-V2, In-Frame, In-Part, In-Fault}

pub returns-in-Some-with_steps : goal.returns-in-Some-with_steps
returns-in-Some-with_steps t c =
    let are : c.match-version.parts.now ≡ parts c.args.version c.in-Some.byte.now
    = elim c.match-version.branch [
      | in-V1 w ↦ ap (λ (r : _). r.now) w.parts-is ∙ sym (ap (λ (v : Version). parts v c.in-Some.byte.now) w.in-V1.is)
      | in-V2 w ↦ ap (λ (r : _). r.now) w.parts-is ∙ sym (ap (λ (v : Version). parts v c.in-Some.byte.now) w.in-V2.is)
    ] in
    tail_grows c.args.version c.args.left c.args.bytes.now c.in-Some.byte.now c.in-Some.rest.now c.match-version.parts.now c.in-Frame.event c.in-Some-with_steps.longer c.in-Frame.used
    c.if-left-eq0.false c.in-Some.ensures.cases.0 are (sym c.with_steps.ensures ∙ c.in-Some-with_steps.is)
    (subst (λ (n : ℕ). IsTail c.args.version n c.in-Some.rest.now c.in-Frame.event c.in-Frame.used) c.saturating_sub.ensures c.in-Frame.ensures)

pub returns-in-Part : goal.returns-in-Part
returns-in-Part t c =
    let are : c.match-version.parts.now ≡ parts c.args.version c.in-Some.byte.now
    = elim c.match-version.branch [
      | in-V1 w ↦ ap (λ (r : _). r.now) w.parts-is ∙ sym (ap (λ (v : Version). parts v c.in-Some.byte.now) w.in-V1.is)
      | in-V2 w ↦ ap (λ (r : _). r.now) w.parts-is ∙ sym (ap (λ (v : Version). parts v c.in-Some.byte.now) w.in-V2.is)
    ] in
    part_grows c.args.version c.args.left c.args.at c.args.bytes.now c.in-Some.byte.now c.in-Some.rest.now c.match-version.parts.now
    c.if-left-eq0.false c.in-Some.ensures.cases.0 are (sym c.if-not-holds_steps.ensures)
    (subst (λ (n : ℕ). IsAtPath c.args.version n (c.args.at + 1) c.in-Some.rest.now Part) c.saturating_sub.ensures c.in-Part.ensures)

pub returns-in-Fault : goal.returns-in-Fault
returns-in-Fault t c =
    let are : c.match-version.parts.now ≡ parts c.args.version c.in-Some.byte.now
    = elim c.match-version.branch [
      | in-V1 w ↦ ap (λ (r : _). r.now) w.parts-is ∙ sym (ap (λ (v : Version). parts v c.in-Some.byte.now) w.in-V1.is)
      | in-V2 w ↦ ap (λ (r : _). r.now) w.parts-is ∙ sym (ap (λ (v : Version). parts v c.in-Some.byte.now) w.in-V2.is)
    ] in
    fault_grows c.args.version c.args.left c.args.at c.args.bytes.now c.in-Some.byte.now c.in-Some.rest.now c.match-version.parts.now c.in-Fault.fault
    c.if-left-eq0.false c.in-Some.ensures.cases.0 are (sym c.if-not-holds_steps.ensures)
    (subst (λ (n : ℕ). IsAtPath c.args.version n (c.args.at + 1) c.in-Some.rest.now (Fault c.in-Fault.fault)) c.saturating_sub.ensures c.in-Fault.ensures)
