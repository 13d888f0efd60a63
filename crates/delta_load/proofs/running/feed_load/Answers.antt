use Rattle.std.proofs.Common.{List, take, refl, ap, sym, ◌∙◌, arith}
use Rattle.std.proofs.lemmas.Result.{err_from_is_err_and}
use Rattle.event_word.specs.StreamEvent.{StreamEvent}
use Rattle.delta_session.specs.OneShot.{IsCostly, IsDeep}
use Rattle.delta_output.specs.Spoken.{spoken}
use Rattle.delta_session.specs.Programs.{one_shot, course_of}
use Rattle.delta_load.specs.Load.{load}
use Rattle.delta_load.specs.Counting.{totals_of}
use Rattle.delta_load.proofs.OnTheLoad.{goes_on, long_here, meets, open_here, admitted_here, room_here, load_whole}
use Rattle.delta_load.proofs.running.feed_load.Goals as goal
use Rattle.delta_load.proofs.running.feed_load.Goals.{in-Some+in_ok-totals-in-Some, in-None}

pub loop-i-init : goal.loop-i-init
loop-i-init g c = record { on_load = c.requires.begun; stands_on = λ p s. s; counted = λ p s e. e }

pub feed_one-requires-clause-open : goal.feed_one-requires-clause-open
feed_one-requires-clause-open g c =
    open_here c.args.start c.args.items c.loop-i.i c.in-Some.x (sym c.in-Some.ensures.event) g.A.Answers.stands c.loop-i.session c.loop-i.invariant.on_load

pub feed_one-requires-clause-admitted : goal.feed_one-requires-clause-admitted
feed_one-requires-clause-admitted g c =
    admitted_here c.args.start c.args.items c.loop-i.i c.in-Some.x (sym c.in-Some.ensures.event) g.A.Answers.stands c.loop-i.session c.loop-i.invariant.on_load

pub feed_one-requires-clause-room : goal.feed_one-requires-clause-room
feed_one-requires-clause-room g c =
    room_here c.args.start c.args.items c.loop-i.i c.in-Some.x (sym c.in-Some.ensures.event) g.A.Answers.stands c.loop-i.session c.loop-i.invariant.on_load c.requires.items

pub returns-in_err-totals-in-Some-clause-costly : goal.returns-in_err-totals-in-Some-clause-costly
returns-in_err-totals-in-Some-clause-costly g c =
    let exit = err_from_is_err_and c.from_residual.result c.from_residual.ensures.1 in
    rw (exit.1, exit.2) (λ stopped p s. meets c.args.start c.args.items c.loop-i.i c.in-Some.x (sym c.in-Some.ensures.event) (IsCostly (one_shot p) 1000000)
    (c.in_err-totals-in-Some.ensures.costly stopped (course_of p 1000000) (take c.loop-i.i (load c.args.start c.args.items)) (c.loop-i.invariant.stands_on p s)))

pub returns-in_err-totals-in-Some-clause-deep : goal.returns-in_err-totals-in-Some-clause-deep
returns-in_err-totals-in-Some-clause-deep g c =
    let exit = err_from_is_err_and c.from_residual.result c.from_residual.ensures.1 in
    rw (exit.1, exit.2) (λ stopped p s. meets c.args.start c.args.items c.loop-i.i c.in-Some.x (sym c.in-Some.ensures.event) (IsDeep (one_shot p) 1000)
    (c.in_err-totals-in-Some.ensures.deep stopped (course_of p 1000000) (take c.loop-i.i (load c.args.start c.args.items)) (c.loop-i.invariant.stands_on p s)))

pub returns-in_err-totals-in-Some-clause-long : goal.returns-in_err-totals-in-Some-clause-long
returns-in_err-totals-in-Some-clause-long g c =
    let exit = err_from_is_err_and c.from_residual.result c.from_residual.ensures.1 in
    rw (exit.1, exit.2) (λ stopped. long_here c.args.start c.args.items c.loop-i.i c.in-Some.x (sym c.in-Some.ensures.event) g.A.Answers.stands c.args.session.now c.args.first c.loop-i.session c.loop-i.totals c.loop-i.invariant
    (c.in_err-totals-in-Some.ensures.long stopped))

pub loop-i-preserved : goal.loop-i-preserved
loop-i-preserved g c =
    elim c.match-gen_event.branch [
      | in-Some+in_ok-totals-in-Some w ↦
          rw (w.session-is, w.totals-is)
          (goes_on c.args.start c.args.items c.loop-i.i w.in-Some.x (sym w.in-Some.ensures.event) g.A.Answers.stands c.args.session.now c.args.first c.loop-i.session c.loop-i.totals c.loop-i.invariant
          _ w.in_ok-totals-in-Some.totals w.in_ok-totals-in-Some.ensures.stands w.in_ok-totals-in-Some.ensures.counted)
      | in-None w ↦ absurd (let behind = w.in-None.ensures.past.0 refl in omega (arith, behind, c.loop-i-test.true))
    ]

pub returns-clause-counted : goal.returns-clause-counted
returns-clause-counted g c p s e =
    c.loop-i.invariant.counted p s e ∙ ap (λ (w : List StreamEvent). totals_of (spoken (one_shot p) w)) (load_whole c.args.start c.args.items c.loop-i.i c.loop-i-test.false)
