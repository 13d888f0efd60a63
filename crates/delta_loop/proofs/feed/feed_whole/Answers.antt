use Rattle.std.proofs.Common.{ℕ, arith, max, [], ◌∷◌, ◌++◌, ◌∙◌, ap, Ok}
use Rattle.delta_loop.proofs.Findings.{ended_bad, event_place}
use Rattle.delta_loop.proofs.Counts.{live_takes, live_stays, live_stands, took}
use Rattle.delta_loop.proofs.feed.feed_whole.Goals as goal

pub returns-in-Err-clause-err : goal.returns-in-Err-clause-err
returns-in-Err-clause-err g c P start input before =
    let now = c.frames.invariant.0 P start input before in
    let bad = c.in-Err.ensures.bad input now.word (c.in-Err.ensures.stays input now.word now.reads) in
    ended_bad g.M.Stepper.stands P start _ _ input now.word _ now.serves bad.0 bad.1

pub returns-in-Ok-None-clause-ok : goal.returns-in-Ok-None-clause-ok
returns-in-Ok-None-clause-ok g c P start input before =
    let now = c.frames.invariant.0 P start input before in
    let is = c.in-Ok-None.is ∙ ap Ok c.in-Ok-None.field-0-is in
    let stays = rw c.in-Ok-None.field-0-is at c.in-Ok-None.ensures.stays in
    let reads = stays input now.word now.reads in
    let nothing = c.next.ensures.none is input now.word reads in
    record { word = now.word; serves = now.serves; reads = reads; all = nothing.0; sound = nothing.1 }

pub feed_one-requires : goal.feed_one-requires
feed_one-requires g c = live_stands g.M.Stepper.stands _ _ c.frames.invariant.1 (omega (arith, c.frames.invariant.2, c.requires.bound))

pub returns-in-Ok-None-clause-live : goal.returns-in-Ok-None-clause-live
returns-in-Ok-None-clause-live g c = live_stays g.M.Stepper.stands _ _ _ c.frames.invariant.1 (rw c.in-Ok-None.field-0-is at c.in-Ok-None.ensures.stays)

pub frames-preserved : goal.frames-preserved
frames-preserved g c = (
  λ P start input before.
      let now = c.frames.invariant.0 P start input before in
      let event = rw c.in-Ok-Some.field-0-is at c.in-Ok-Some.ensures.event in
      record { word = now.word ++ c.in-Ok-Some.event ∷ []; serves = c.in-Ok.ensures.ok P start input now.word now.serves; reads = (event input now.word now.reads).0 },
  live_takes g.M.Stepper.stands _ _ _ _ c.in-Ok-Some.event c.frames.invariant.1 c.in-Ok.ensures.stepped (took (rw c.in-Ok-Some.field-0-is at c.in-Ok-Some.ensures.event)),
  c.next.ensures.pushed ∙ c.frames.invariant.2,
  c.next.ensures.room ∙ c.frames.invariant.3,
  c.feed_one.ensures.left ∙ c.frames.invariant.4,
  c.in-Ok.ensures.read ∙ c.frames.invariant.5,
  c.in-Ok.ensures.write ∙ c.frames.invariant.6,
  g.met.M.Stepper.same_throughout _ _ _ c.frames.invariant.7 c.feed_one.ensures.program,
)

pub returns-in-Err-feed_one-clause-err : goal.returns-in-Err-feed_one-clause-err
returns-in-Err-feed_one-clause-err g c P start input before =
    let now = c.frames.invariant.0 P start input before in
    let event = rw c.in-Ok-Some.field-0-is at c.in-Ok-Some.ensures.event in
    let taken = event input now.word now.reads in
    c.in-Err-feed_one.ensures.err P start input now.word taken.1.0 now.serves taken.1.1
    (c.max-place.ensures ∙ ap (λ (n : ℕ). max n 4) c.taken.ensures ∙ event_place c.frames.reader c.next.new.self input now.word c.in-Ok-Some.event now.reads taken.0)
