-- It isn't decided, has its type, holds what it should, and may go on.
use Rattle.std.proofs.Common.{◌∙◌, true≢false, map, sym}
use Rattle.std.proofs.lemmas.Bool.{iff_false}
use Rattle.stream_type.specs.StreamType.{type_of}
use Rattle.delta_check.specs.Scopes.{context_in}
use Rattle.delta_keep.specs.KeptView.{state_of, held_of}
use Rattle.kept_check.specs.Judging.{funs_of}
use Rattle.kept_check.proofs.StateForms.{not_asked, asked_last}
use Rattle.kept_check.proofs.rules.held_rule.Goals as goal

pub returns-then-decided : goal.returns-then-decided
returns-then-decided c =
    not_asked (funs_of c.args.judge.now) c.args.judge.now.depth (context_in c.args.scope.now) (type_of c.args.t.now) (map held_of c.args.held.now) (type_of c.args.r.now) (state_of c.args.s.now) c.requires.holding
    (λ a. true≢false (sym c.if-decided.true ∙ c.requires.decided ∙ a.2))

pub returns-then-not-same : goal.returns-then-not-same
returns-then-not-same c =
    not_asked (funs_of c.args.judge.now) c.args.judge.now.depth (context_in c.args.scope.now) (type_of c.args.t.now) (map held_of c.args.held.now) (type_of c.args.r.now) (state_of c.args.s.now) c.requires.holding
    (λ a. iff_false c.same.ensures c.if-not-same.true a.0)

pub returns-in-Ok-false : goal.returns-in-Ok-false
returns-in-Ok-false c =
    not_asked (funs_of c.args.judge.now) c.args.judge.now.depth (context_in c.args.scope.now) (type_of c.args.t.now) (map held_of c.args.held.now) (type_of c.args.r.now) (state_of c.args.s.now) c.requires.holding
    (λ a. iff_false c.in-Ok-false.ensures c.in-Ok-false.field-0-test a.1)

pub returns-in-Ok-true : goal.returns-in-Ok-true
returns-in-Ok-true c =
    asked_last (funs_of c.args.judge.now) c.args.judge.now.depth (context_in c.args.scope.now) (type_of c.args.t.now) (map held_of c.args.held.now) (type_of c.args.r.now) c.goes_on.result (state_of c.args.s.now) c.requires.holding
    (c.same.ensures.0 c.if-not-same.false) (c.in-Ok-true.ensures.0 c.in-Ok-true.field-0-test) (sym c.requires.decided ∙ c.if-decided.false) c.goes_on.ensures
