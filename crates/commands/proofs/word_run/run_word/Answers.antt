-- What stands at each answer to a word.
use Rattle.std.proofs.Common.{◌≡◌, List, [], take, IsErrOf, Err, inr, ap, ap₂, sym, subst, ◌∙◌}
use Rattle.std.proofs.lemmas.List.{take_all}
use Rattle.std.proofs.lemmas.Result.{err_from_is_err_and}
use Rattle.stream_type.specs.StreamType.{type_of}
use Rattle.event_word.specs.StreamEvent.{StreamEvent}
use Rattle.event_word.specs.Word.{pre}
use Rattle.core_term.specs.CoreTerm.{core_of}
use Rattle.core_term.specs.Meaning.{mean}
use Rattle.delta_state.specs.MachineView.{input_of, IsCostly, IsDeep}
use Rattle.delta_session.specs.Programs.{IsRunning, course_of, one_shot}
use Rattle.delta_session.specs.Standing.{Stands}
use Rattle.commands.specs.Stopping.{StopsForCallsAt, StopsForLevelAt}
use Rattle.commands.proofs.OnTheWord.{Says, says_first, admitted_here, says_on, stands_on, met_at, said_whole}
use Rattle.commands.proofs.word_run.run_word.Goals as goal

-- the fault of an event is that of the run
still_stopped : {A B E : Type 0} (fault told : E) → IsErrOf {T = A} (Err fault) told → IsErrOf {T = B} (Err fault) told
still_stopped fault told is = let same : fault ≡ told = cc in ap Err same

pub loop-at-init : goal.loop-at-init
loop-at-init g c =
    let core = core_of c.args.checked.now in
    record {
      stands = c.in-Ok.ensures.stands;
      says = subst (Says (one_shot core) []) (sym c.in-Ok.ensures.answer) (says_first (one_shot core) c.in-Ok.ensures.stands.at.state.goes_on.grows);
    }

pub feed_one-requires-clause-admitted : goal.feed_one-requires-clause-admitted
feed_one-requires-clause-admitted g c =
    admitted_here c.args.word.now c.loop-at.at c.index-word-at.result c.loop-at-test.true c.index-word-at.is (IsRunning g.M.Machine.seen g.M.Machine.stands) c.loop-at.session (course_of (core_of c.args.checked.now) c.args.budget) c.loop-at.invariant.stands
    c.requires.word

pub returns-in_err-feed_one-in-Ok-clause-costly : goal.returns-in_err-feed_one-in-Ok-clause-costly
returns-in_err-feed_one-in-Ok-clause-costly g c =
    let core = core_of c.args.checked.now in
    let exit = err_from_is_err_and c.from_residual.result c.from_residual.ensures.1 in
    rw (exit.1, exit.2) (λ n stopped.
    let costly = c.in_err-feed_one-in-Ok.ensures.costly n (still_stopped _ _ stopped) in
    subst (StopsForCallsAt core c.args.budget c.args.word.now) (sym costly.0)
    (inr (met_at c.args.word.now c.loop-at.at c.index-word-at.result c.loop-at-test.true c.index-word-at.is (IsCostly core c.args.budget)
    (costly.1 (course_of core c.args.budget) (take c.loop-at.at c.args.word.now) c.loop-at.invariant.stands))))

pub returns-in_err-feed_one-in-Ok-clause-deep : goal.returns-in_err-feed_one-in-Ok-clause-deep
returns-in_err-feed_one-in-Ok-clause-deep g c =
    let core = core_of c.args.checked.now in
    let exit = err_from_is_err_and c.from_residual.result c.from_residual.ensures.1 in
    rw (exit.1, exit.2) (λ n stopped.
    let deep = c.in_err-feed_one-in-Ok.ensures.deep n (still_stopped _ _ stopped) in
    subst (StopsForLevelAt core 1000 c.args.word.now) (sym deep.0)
    (inr (met_at c.args.word.now c.loop-at.at c.index-word-at.result c.loop-at-test.true c.index-word-at.is (IsDeep core 1000)
    (deep.1 (course_of core c.args.budget) (take c.loop-at.at c.args.word.now) c.loop-at.invariant.stands))))

pub loop-at-preserved : goal.loop-at-preserved
loop-at-preserved g c =
    let core = core_of c.args.checked.now in
    let before = take c.loop-at.at c.args.word.now in
    let here = c.loop-at.invariant in
    record {
      stands = stands_on c.args.word.now c.loop-at.at c.index-word-at.result c.loop-at-test.true c.index-word-at.is (IsRunning g.M.Machine.seen g.M.Machine.stands) c.loop-at.session (course_of core c.args.budget) here.stands _
          (c.in_ok-feed_one-in-Ok.ensures.stands (course_of core c.args.budget) before here.stands);
      says = says_on c.args.word.now c.loop-at.at c.index-word-at.result c.loop-at-test.true c.index-word-at.is (IsRunning g.M.Machine.seen g.M.Machine.stands) c.loop-at.session (course_of core c.args.budget) here.stands c.requires.word here.stands.at.state.goes_on.grows _ _ here.says
          (c.in_ok-feed_one-in-Ok.ensures.said (course_of core c.args.budget) before here.stands);
    }

pub returns-in_ok-prefix_of-in-Ok-clause-means : goal.returns-in_ok-prefix_of-in-Ok-clause-means
returns-in_ok-prefix_of-in-Ok-clause-means g c =
    let core = core_of c.args.checked.now in
    let word = c.args.word.now in
    let all : take c.loop-at.at word ≡ word = take_all c.loop-at.at word c.loop-at-test.false in
    let says = subst (λ (w : List StreamEvent). Says (one_shot core) w c.loop-at.said.items) all c.loop-at.invariant.says in
    let read : pre (type_of c.output.result.now) c.deref.result.now ≡ mean core (input_of core word) = ap₂ pre c.output.ensures c.deref.ensures.value ∙ says.means in
    c.in_ok-prefix_of-in-Ok.ensures.value ∙ read

pub returns-in_ok-prefix_of-in-Ok-clause-whole : goal.returns-in_ok-prefix_of-in-Ok-clause-whole
returns-in_ok-prefix_of-in-Ok-clause-whole g c ended =
    let core = core_of c.args.checked.now in
    let word = c.args.word.now in
    let all : take c.loop-at.at word ≡ word = take_all c.loop-at.at word c.loop-at-test.false in
    let standing = subst (λ (w : List StreamEvent). Stands (IsRunning g.M.Machine.seen g.M.Machine.stands) c.loop-at.session (course_of core c.args.budget) w) all c.loop-at.invariant.stands in
    said_whole (IsRunning g.M.Machine.seen g.M.Machine.stands) (λ m course word running. running.goes_on) c.loop-at.session (course_of core c.args.budget) word standing _ (returns-in_ok-prefix_of-in-Ok-clause-means g c) ended
