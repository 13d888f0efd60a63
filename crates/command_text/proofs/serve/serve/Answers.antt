-- A piece that was read, and the ends of the run.
use Rattle.std.proofs.Common.{◌≡◌, ◌+◌, ◌++◌, ◌<◌, ◌≤◌, ◌^◌, ℕ, List, length, take, drop, ◌∙◌, sym, refl, subst, arith, length-take, length-append, length-drop}
use Rattle.std.proofs.lemmas.List.{take-append-le}
use Rattle.command_text.specs.Loop.{Goes, Pulls}
use Rattle.command_text.proofs.Serving.{feeds_more, goes_more, ended_in_piece, ran_to_end, ended_in_pull}
use Rattle.command_text.proofs.serve.serve.Goals as goal

pub returns-in-Ok-eq0-clause-ran : goal.returns-in-Ok-eq0-clause-ran
returns-in-Ok-eq0-clause-ran g c start before =
    let none : c.in-Ok-eq0.field-0 ≡ 0 = omega (arith, c.in-Ok-eq0.field-0-test, c.in-Ok-eq0.field-0-is) in
    let pulls = rw none at c.in-Ok-eq0.ensures.pulled in
    ran_to_end c.args.version start _ _ _ _ _ (c.pieces.invariant.0 start before) _ _ _ _ _ c.pieces.invariant.2 pulls c.finish.ensures.left (c.finish.ensures.ended start _)

pub returns-in-Err-clause-ran : goal.returns-in-Err-clause-ran
returns-in-Err-clause-ran g c start before =
    ended_in_pull c.args.version start _ _ _ _ _ (c.pieces.invariant.0 start before) _ _ _ c.pieces.invariant.2 c.in-Err.ensures.ended

-- the piece that is fed is the one that was read
piece_is : (n : ℕ) (into rest : List ℕ) → n ≤ length into → take n (into ++ rest) ≡ take n into
piece_is n into rest within = rw take-append-le refl

pub pieces-preserved : goal.pieces-preserved
pieces-preserved g c =
    let some : 0 < c.in-Ok.count = omega (arith, c.in-Ok.count-test) in
    let within : c.in-Ok.count ≤ length c.pull.new.into = omega (arith, c.in-Ok.ensures.bound, c.pull.auto.into) in
    let piece : take c.in-Ok.count (c.pull.new.into ++ drop c.min-room.result c.pieces.buffer) ≡ take c.in-Ok.count c.pull.new.into = piece_is c.in-Ok.count c.pull.new.into _ within in
    let pulls = subst (λ (bs : List ℕ). Pulls (g.L.Link.log c.pieces.link) (g.L.Link.log c.pull.new.link) (g.L.Link.left c.pieces.link) (g.L.Link.left c.pull.new.link) bs) (sym piece) c.in-Ok.ensures.pulled in
    let long : length (take c.in-Ok.count (c.pull.new.into ++ drop c.min-room.result c.pieces.buffer)) ≡ c.in-Ok.count =
    rw piece (omega (arith, length-take c.in-Ok.count c.pull.new.into)) in (
      λ start before.
          let now = c.pieces.invariant.0 start before in
          let feeds = feeds_more c.args.version start _ _ _ _ _ now _ _ _ pulls (omega arith) in
          goes_more c.args.version start _ _ _ _ _ now _ _ _ _ _ _ _ pulls c.feed.ensures.left long (c.in-Ok-feed.ensures.ok start _ feeds),
      c.in-Ok-feed.ensures.given ∙ (omega (arith, long, c.pieces.invariant.1)),
      omega (arith, c.in-Ok.ensures.bound, length-take c.min-room.result c.pieces.buffer, c.pieces.invariant.2, c.min-room.ensures),
      omega (arith, length-append c.pull.new.into (drop c.min-room.result c.pieces.buffer), length-drop c.min-room.result c.pieces.buffer, length-take c.min-room.result c.pieces.buffer, c.pull.auto.into, c.pieces.invariant.3, c.min-room.ensures),
      c.in-Ok-feed.ensures.read ∙ c.in-Ok.ensures.read ∙ c.pieces.invariant.4,
      c.in-Ok-feed.ensures.write ∙ c.pull.ensures.write ∙ c.pieces.invariant.5,
    )

pub returns-in-Err-feed-clause-ran : goal.returns-in-Err-feed-clause-ran
returns-in-Err-feed-clause-ran g c start before =
    let some : 0 < c.in-Ok.count = omega (arith, c.in-Ok.count-test) in
    let within : c.in-Ok.count ≤ length c.pull.new.into = omega (arith, c.in-Ok.ensures.bound, c.pull.auto.into) in
    let piece : take c.in-Ok.count (c.pull.new.into ++ drop c.min-room.result c.pieces.buffer) ≡ take c.in-Ok.count c.pull.new.into = piece_is c.in-Ok.count c.pull.new.into _ within in
    let pulls = subst (λ (bs : List ℕ). Pulls (g.L.Link.log c.pieces.link) (g.L.Link.log c.pull.new.link) (g.L.Link.left c.pieces.link) (g.L.Link.left c.pull.new.link) bs) (sym piece) c.in-Ok.ensures.pulled in
    let long : length (take c.in-Ok.count (c.pull.new.into ++ drop c.min-room.result c.pieces.buffer)) ≡ c.in-Ok.count =
    rw piece (omega (arith, length-take c.in-Ok.count c.pull.new.into)) in
    let now = c.pieces.invariant.0 start before in
    let feeds = feeds_more c.args.version start _ _ _ _ _ now _ _ _ pulls (omega arith) in
    let fits : c.pieces.total + length (take c.in-Ok.count (c.pull.new.into ++ drop c.min-room.result c.pieces.buffer)) ≤ 2 ^ 40 =
    omega (arith, long, c.in-Ok.ensures.bound, length-take c.min-room.result c.pieces.buffer, c.pieces.invariant.2, c.min-room.ensures) in
    ended_in_piece c.args.version start _ _ _ _ _ now _ _ _ _ _ _ pulls c.feed.ensures.left fits (c.in-Err-feed.ensures.err start _ feeds)

pub returns-clause-ran : goal.returns-clause-ran
returns-clause-ran g c start before =
    let now = c.pieces.invariant.0 start before in
    let full : c.pieces.total ≡ 2 ^ 40 = omega (arith, c.pieces.invariant.2) in
    c.probe.ensures.ran start _ (subst (λ (n : ℕ). Goes c.args.version start (g.L.Link.log c.pieces.link) (g.L.Link.left c.args.link.now) (g.L.Link.left c.pieces.link) c.pieces.reader n) full now)
