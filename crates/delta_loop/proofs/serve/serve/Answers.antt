use Rattle.std.proofs.Common.{rules, ◌≡◌, ◌+◌, ◌<◌, ◌≤◌, ◌^◌, ℕ, length, take, drop, ◌∙◌, subst, arith, length-take, length-append, length-drop}
use Rattle.delta_loop.specs.Loop.{Goes}
use Rattle.delta_loop.proofs.Serving.{feeds_more, goes_more, ended_in_piece, ran_to_end, ended_in_pull}
use Rattle.delta_loop.proofs.Counts.{live_gets}
use Rattle.delta_loop.proofs.serve.serve.Goals as goal

pub returns-in-Ok-eq0-clause-ran : goal.returns-in-Ok-eq0-clause-ran
returns-in-Ok-eq0-clause-ran g c P start before =
    let now = c.pieces.invariant.0 P start before in
    let none : c.in-Ok-eq0.field-0 ≡ 0 = omega (arith, c.in-Ok-eq0.field-0-test, c.in-Ok-eq0.field-0-is) in
    let pulls = rw none at c.in-Ok-eq0.ensures.pulled in
    ran_to_end g.M.Stepper.stands P start _ _ _ _ _ _ now _ _ _ _ (omega (arith, c.pieces.invariant.5)) pulls (c.finish.ensures.end P)

pub returns-in-Ok-eq0-clause-read : goal.returns-in-Ok-eq0-clause-read
returns-in-Ok-eq0-clause-read g c = search rules

pub returns-in-Err-clause-ran : goal.returns-in-Err-clause-ran
returns-in-Err-clause-ran g c P start before =
    let now = c.pieces.invariant.0 P start before in
    ended_in_pull g.M.Stepper.stands P start _ _ _ _ _ _ now _ _ _ (omega (arith, c.pieces.invariant.5)) c.in-Err.ensures.ended

pub feed_whole-requires-clause-live : goal.feed_whole-requires-clause-live
feed_whole-requires-clause-live g c = live_gets g.M.Stepper.stands _ _ _ _ c.pieces.invariant.1 c.in-Ok.ensures.pulled.reads

pub pieces-preserved : goal.pieces-preserved
pieces-preserved g c =
    let some : 0 < c.in-Ok.count = omega (arith, c.in-Ok.count-test) in
    let within : c.in-Ok.count ≤ length c.pull.new.into = omega (arith, c.in-Ok.ensures.bound, c.pull.auto.into) in
    let long : length (take c.in-Ok.count c.pull.new.into) ≡ c.in-Ok.count = omega (arith, length-take c.in-Ok.count c.pull.new.into) in (
      λ P start before.
          let now = c.pieces.invariant.0 P start before in
          let feeds = feeds_more g.M.Stepper.stands P start _ _ _ _ _ _ now _ _ _ _ c.in-Ok.ensures.pulled (omega arith) in
          goes_more g.M.Stepper.stands P start _ _ _ _ _ _ now _ _ _ _ _ _ _ _ _ c.in-Ok.ensures.pulled c.feed_whole.ensures.left long (c.in-Ok-feed_whole.ensures.ok P start _ feeds),
      c.in-Ok-feed_whole.ensures.live,
      c.feed_whole.ensures.given ∙ (omega (arith, c.in-Ok.ensures.given, c.pieces.invariant.2)),
      c.in-Ok-feed_whole.ensures.little,
      omega (arith, c.feed_whole.ensures.room, c.in-Ok.ensures.room, c.pieces.invariant.4),
      omega (arith, c.in-Ok.ensures.bound, length-take c.min-room.result c.pieces.buffer, c.pieces.invariant.5, c.min-room.ensures),
      omega (arith, length-append c.pull.new.into (drop c.min-room.result c.pieces.buffer), length-drop c.min-room.result c.pieces.buffer, length-take c.min-room.result c.pieces.buffer, c.pull.auto.into, c.pieces.invariant.6, c.min-room.ensures),
      c.in-Ok-feed_whole.ensures.read ∙ c.in-Ok.ensures.read ∙ c.pieces.invariant.7,
      c.in-Ok-feed_whole.ensures.write ∙ c.pull.ensures.write ∙ c.pieces.invariant.8,
      g.met.M.Stepper.same_throughout _ _ _ c.pieces.invariant.9 c.feed_whole.ensures.program,
    )

pub pieces-smaller : goal.pieces-smaller
pieces-smaller g c = search rules

pub returns-in-Err-feed_whole-clause-ran : goal.returns-in-Err-feed_whole-clause-ran
returns-in-Err-feed_whole-clause-ran g c P start before =
    let some : 0 < c.in-Ok.count = omega (arith, c.in-Ok.count-test) in
    let within : c.in-Ok.count ≤ length c.pull.new.into = omega (arith, c.in-Ok.ensures.bound, c.pull.auto.into) in
    let now = c.pieces.invariant.0 P start before in
    let feeds = feeds_more g.M.Stepper.stands P start _ _ _ _ _ _ now _ _ _ _ c.in-Ok.ensures.pulled (omega (arith, length-take c.in-Ok.count c.pull.new.into)) in
    let fits : c.pieces.total + length (take c.in-Ok.count c.pull.new.into) ≤ 2 ^ 40 =
    omega (arith, c.in-Ok.ensures.bound, length-take c.in-Ok.count c.pull.new.into, length-take c.min-room.result c.pieces.buffer, c.pieces.invariant.5, c.min-room.ensures) in
    ended_in_piece g.M.Stepper.stands P start _ _ _ _ _ _ now _ _ _ _ _ _ _ _ c.in-Ok.ensures.pulled c.feed_whole.ensures.left fits (c.in-Err-feed_whole.ensures.err P start _ feeds)

pub returns-clause-ran : goal.returns-clause-ran
returns-clause-ran g c P start before =
    let now = c.pieces.invariant.0 P start before in
    let full : c.pieces.total ≡ 2 ^ 40 = omega (arith, c.pieces.invariant.5) in
    c.probe.ensures.ran P start _ (subst (λ (n : ℕ). Goes g.M.Stepper.stands P start (g.L.Link.log c.pieces.link) (g.L.Link.left c.args.link.now) (g.L.Link.left c.pieces.link) c.pieces.machine c.pieces.reader n) full now)
