-- A frame is passed.
use Rattle.std.proofs.Common.{◌+◌, ◌∙◌, ℕ, List, length, ap, sym, arith, length-drop}
use Rattle.std.proofs.lemmas.List.{take_rest}
use Rattle.event_frame.specs.Reading.{Between, reading_from}
use Rattle.event_frame.proofs.Readers.{frame_passed}
use Rattle.event_frame.proofs.reader.finish_frames.Goals as goal

pub frames-preserved : goal.frames-preserved
frames-preserved c =
    let passed = frame_passed c.args.version c.frames.rest.now c.in-Frame.field-0 c.in-Frame.count c.frames.place c.in-Frame.ensures in
    let rest = take_rest c.frames.rest.now c.in-Frame.count in (
      ap (λ (bs : List ℕ). (reading_from (Between c.args.version) (c.frames.place + c.in-Frame.count) bs).ending) rest ∙ sym passed ∙ c.frames.invariant.0,
      ap (λ (bs : List ℕ). c.frames.place + c.in-Frame.count + length bs) rest ∙ omega (arith, c.frames.invariant.1, length-drop c.in-Frame.count c.frames.rest.now, c.in-Frame.ensures.within),
    )
