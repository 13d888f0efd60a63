-- What the machine holds after an event is what it has to keep, what it gives is the answer, and what it stops
-- for is the kept state's.
use Rattle.std.proofs.lemmas.Result.{IfOk-weaker}
use Rattle.stream_type.specs.StreamType.{type_of}
use Rattle.stream_prefix.specs.declared.prefix.Prefix.{Prefix}
use Rattle.stream_prefix.specs.Tree.{prefix_of}
use Rattle.machine_parts.specs.AwaitedTree.{awaited_in}
use Rattle.machine_kept.proofs.SinceSteps.{is_costly_since, is_deep_since}
use Rattle.template_state.specs.Readers.{state_in}
use Rattle.delta_code.specs.CodedView.{program_of}
use Rattle.delta_code.proofs.Taking.{admitted_since, ready_since, stands_with_event_since, answers_event_since}
use Rattle.delta_code.proofs.keeping.CodedKeeping.step_since.Goals as goal

pub take-requires-clause-admitted : goal.take-requires-clause-admitted
take-requires-clause-admitted c = admitted_since c.args.self.now c.args.x.now c.requires.kept c.requires.word c.requires.awaits

pub take-requires-clause-ready : goal.take-requires-clause-ready
take-requires-clause-ready c = ready_since c.args.self.now c.args.x.now c.requires.kept c.requires.word c.requires.awaits

pub returns-clause-program : goal.returns-clause-program
returns-clause-program c = IfOk-weaker c.take.result _ _ (λ (p : Prefix) t. t.program) c.take.ensures.taken

pub returns-clause-budget : goal.returns-clause-budget
returns-clause-budget c = IfOk-weaker c.take.result _ _ (λ (p : Prefix) t. t.budget) c.take.ensures.taken

pub returns-clause-stands : goal.returns-clause-stands
returns-clause-stands c = IfOk-weaker c.take.result _ _ (λ (p : Prefix) t k word w. stands_with_event_since c.args.self.now c.take.new.machine c.args.x.now (prefix_of p) c.requires.has_room t k word w) c.take.ensures.taken

pub returns-clause-answer : goal.returns-clause-answer
returns-clause-answer c = IfOk-weaker c.take.result _ _ (λ (p : Prefix) t k word w. answers_event_since c.args.self.now c.take.new.machine c.args.x.now (prefix_of p) c.requires.has_room t k word w) c.take.ensures.taken

pub returns-clause-costly : goal.returns-clause-costly
returns-clause-costly c n q =
    let m = c.args.self.now in
    let given = c.take.ensures.costly n q in
    (given.0, λ k word w. is_costly_since (program_of m) m.budget (state_in m.state.value) (awaited_in m.awaited.value) (type_of m.input.value) (type_of m.output.value) m.events m.spent k word c.args.x.now w.stands_since w.admits n given.1)

pub returns-clause-deep : goal.returns-clause-deep
returns-clause-deep c n q =
    let m = c.args.self.now in
    let given = c.take.ensures.deep n q in
    (given.0, λ k word w. is_deep_since (program_of m) m.budget (state_in m.state.value) (awaited_in m.awaited.value) (type_of m.input.value) (type_of m.output.value) m.events m.spent k word c.args.x.now w.stands_since w.admits given.1)
