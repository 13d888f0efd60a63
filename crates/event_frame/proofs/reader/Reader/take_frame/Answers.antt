-- What stands at the front of the kept bytes is the next of all bytes pushed.
use Rattle.std.proofs.Common.{◌+◌, ◌∙◌, ℕ, List, drop, ap, sym, subst}
use Rattle.std.proofs.lemmas.List.{drop-drop}
use Rattle.event_frame.specs.Front.{IsFrame, part_ending}
use Rattle.event_frame.specs.FrameReader.{FrameReader}
use Rattle.event_frame.proofs.Readers.{placed, takes, no_more, a_fault, part_is_good}
use Rattle.event_frame.proofs.reader.Reader.take_frame.Goals as goal

pub returns-in-Frame-clause-event : goal.returns-in-Frame-clause-event
returns-in-Frame-clause-event c =
    let same_version = ap (λ (r : FrameReader). r.version) c.self.view_is in
    let same_taken = ap (λ (r : FrameReader). r.taken) c.self.view_is in
    let same_kept = ap (λ (r : FrameReader). r.kept) c.self.view_is in
    takes c.args.self.now _ c.args.version c.in-Frame.event c.in-Frame.count c.requires (same_version ∙ c.requires)
    (subst (λ (bs : List ℕ). IsFrame c.args.version bs c.in-Frame.event c.in-Frame.count) c.kept.ensures c.in-Frame.ensures)
    (ap (λ (n : ℕ). n + c.in-Frame.count) same_taken)
    (sym (drop-drop c.in-Frame.count c.self.inside.at c.self.inside.bytes.items) ∙ ap (drop c.in-Frame.count) same_kept)

pub returns-in-Part-clause-none : goal.returns-in-Part-clause-none
returns-in-Part-clause-none c e =
    no_more c.args.self.now (part_ending c.kept.result.now)
    (placed c.args.self.now c.args.version c.self.inside.taken c.kept.result.now c.requires (ap (λ (r : FrameReader). r.taken) c.self.view_is) c.kept.ensures ∙ c.in-Part.ensures.1)
    (part_is_good c.kept.result.now)

pub returns-in-Fault-clause-bad : goal.returns-in-Fault-clause-bad
returns-in-Fault-clause-bad c =
    a_fault c.args.self.now c.in-Fault.fault
    (placed c.args.self.now c.args.version c.self.inside.taken c.kept.result.now c.requires (ap (λ (r : FrameReader). r.taken) c.self.view_is) c.kept.ensures ∙ c.in-Fault.ensures)
