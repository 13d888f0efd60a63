-- The fault of all bytes pushed is that of the kept ones.
use Rattle.std.proofs.Common.{◌+◌, ◌∙◌, ℕ, List, length, ap, sym}
use Rattle.event_frame.specs.Reading.{Between, Reading, reading_from}
use Rattle.event_frame.specs.FrameReader.{FrameReader}
use Rattle.event_frame.proofs.Readers.{placed, fault_is}
use Rattle.event_frame.proofs.reader.Reader.finish.Goals as goal

pub returns-in-Some : goal.returns-in-Some
returns-in-Some c all word reads =
    let same_version = ap (λ (r : FrameReader). r.version) c.self.view_is in
    let same_taken = ap (λ (r : FrameReader). r.taken) c.self.view_is in
    let at = placed c.args.self.now c.in-Some.version c.self.inside.taken c.kept-kept.result.now (sym same_version ∙ c.in-Some.is) same_taken c.kept-kept.ensures in
    fault_is c.args.self.now all word (reading_from (Between c.in-Some.version) c.self.inside.taken c.kept-kept.result.now).ending (c.self.inside.taken + length c.kept-kept.result.now)
    c.finish_frames.result reads (ap (λ (r : Reading). r.ending) at)
    (sym (ap (λ (n : ℕ). n + length c.args.self.now.kept) same_taken) ∙ sym (ap (λ (bs : List ℕ). c.self.inside.taken + length bs) c.kept-kept.ensures)) c.finish_frames.ensures
