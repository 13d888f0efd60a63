-- Of names one after the other the next decides, or the rest. What a scope's form adds is looked at; else the scope
-- around it decides.
use Rattle.std.proofs.Common.{◌∙◌, ap, sym, refl}
use Rattle.std.specs.List.{list_all}
use Rattle.bunch.specs.Names.{numbers_of}
use Rattle.bunch.specs.Facts.{before_let, after_let}
use Rattle.delta_check.specs.declared.scope.Scope.{Scope}
use Rattle.delta_check.specs.Scopes.{context_in, known_at}
use Rattle.delta_check.proofs.Seen.{all_more, all_not, all_end, kept_after, kept_before, none_after, none_before, never_before}
use Rattle.delta_check.proofs.scope.+before.Goals as goal

pub all_before-loop-name-init : goal.all_before-loop-name-init
all_before-loop-name-init t c =
    refl

pub all_before-returns-then-not-before : goal.all_before-returns-then-not-before
all_before-returns-then-not-before t c =
    all_not (λ x. (context_in c.args.scope.now).order x c.args.y.0) c.args.names.now c.loop-name.name-index _ c.before-in-loop-name.result (list_all (λ x. (context_in c.args.scope.now).order x c.args.y.0) (numbers_of c.args.names.now)) c.loop-name-test.true c.before-in-loop-name.ensures c.if-not-before.true c.loop-name.invariant

pub all_before-loop-name-preserved : goal.all_before-loop-name-preserved
all_before-loop-name-preserved t c =
    all_more (λ x. (context_in c.args.scope.now).order x c.args.y.0) c.args.names.now c.loop-name.name-index _ c.before-in-loop-name.result (list_all (λ x. (context_in c.args.scope.now).order x c.args.y.0) (numbers_of c.args.names.now)) c.loop-name-test.true c.before-in-loop-name.ensures c.if-not-before.false c.loop-name.invariant

pub all_before-returns : goal.all_before-returns
all_before-returns t c =
    all_end (λ x. (context_in c.args.scope.now).order x c.args.y.0) c.args.names.now c.loop-name.name-index (list_all (λ x. (context_in c.args.scope.now).order x c.args.y.0) (numbers_of c.args.names.now)) c.loop-name-test.false c.loop-name.invariant

pub before_all-loop-name-init : goal.before_all-loop-name-init
before_all-loop-name-init t c =
    refl

pub before_all-returns-then-not-before : goal.before_all-returns-then-not-before
before_all-returns-then-not-before t c =
    all_not (λ y. (context_in c.args.scope.now).order c.args.x.0 y) c.args.names.now c.loop-name.name-index _ c.before-in-loop-name.result (list_all (λ y. (context_in c.args.scope.now).order c.args.x.0 y) (numbers_of c.args.names.now)) c.loop-name-test.true c.before-in-loop-name.ensures c.if-not-before.true c.loop-name.invariant

pub before_all-loop-name-preserved : goal.before_all-loop-name-preserved
before_all-loop-name-preserved t c =
    all_more (λ y. (context_in c.args.scope.now).order c.args.x.0 y) c.args.names.now c.loop-name.name-index _ c.before-in-loop-name.result (list_all (λ y. (context_in c.args.scope.now).order c.args.x.0 y) (numbers_of c.args.names.now)) c.loop-name-test.true c.before-in-loop-name.ensures c.if-not-before.false c.loop-name.invariant

pub before_all-returns : goal.before_all-returns
before_all-returns t c =
    all_end (λ y. (context_in c.args.scope.now).order c.args.x.0 y) c.args.names.now c.loop-name.name-index (list_all (λ y. (context_in c.args.scope.now).order c.args.x.0 y) (numbers_of c.args.names.now)) c.loop-name-test.false c.loop-name.invariant

pub before-returns-in-Params : goal.before-returns-in-Params
before-returns-in-Params t c =
    c.before-in-Params.ensures ∙ sym (ap (λ (s : Scope). (context_in s).order c.args.x.0 c.args.y.0) c.in-Params.is)

pub before-returns-in-Given : goal.before-returns-in-Given
before-returns-in-Given t c =
    c.before-in-Given.ensures ∙ sym (ap (λ (s : Scope). (context_in s).order c.args.x.0 c.args.y.0) c.in-Given.is)

pub before-returns-in-Among : goal.before-returns-in-Among
before-returns-in-Among t c =
    c.has_fact.ensures ∙ sym (ap (λ (s : Scope). (context_in s).order c.args.x.0 c.args.y.0) c.in-Among.is)

pub before-returns-in-Waited : goal.before-returns-in-Waited
before-returns-in-Waited t c =
    c.before-in-Waited.ensures ∙ sym (ap (λ (s : Scope). (context_in s).order c.args.x.0 c.args.y.0) c.in-Waited.is)

pub before-returns-in-Valued : goal.before-returns-in-Valued
before-returns-in-Valued t c =
    c.before-in-Valued.ensures ∙ sym (ap (λ (s : Scope). (context_in s).order c.args.x.0 c.args.y.0) c.in-Valued.is)

pub is_after-returns-in-Some : goal.is_after-returns-in-Some
is_after-returns-in-Some t c =
    kept_after c.known_at.result (known_at c.args.placed.now.known.items c.args.y.0) c.in-Some.known (after_let (numbers_of c.args.placed.now.free.items) (context_in c.args.scope.now).order c.args.y.0) c.in-Some.is (c.known_at.ensures ∙ ap (λ l. known_at l c.args.y.0) c.deref.ensures.value)

pub is_before-returns-in-Some : goal.is_before-returns-in-Some
is_before-returns-in-Some t c =
    kept_before c.known_at.result (known_at c.args.placed.now.known.items c.args.y.0) c.in-Some.known (before_let (numbers_of c.args.placed.now.free.items) c.args.placed.now.inert (context_in c.args.scope.now).order c.args.y.0) c.in-Some.is (c.known_at.ensures ∙ ap (λ l. known_at l c.args.y.0) c.deref.ensures.value)

pub is_after-returns-in-None : goal.is_after-returns-in-None
is_after-returns-in-None t c =
    none_after c.known_at.result (known_at c.args.placed.now.known.items c.args.y.0) (after_let (numbers_of c.args.placed.now.free.items) (context_in c.args.scope.now).order c.args.y.0) c.all_before.result c.in-None.is (c.known_at.ensures ∙ ap (λ l. known_at l c.args.y.0) c.deref.ensures.value) (c.all_before.ensures ∙ ap (λ l. after_let (numbers_of l) (context_in c.args.scope.now).order c.args.y.0) c.deref-in-None.ensures.value)

pub is_before-returns-then-placed : goal.is_before-returns-then-placed
is_before-returns-then-placed t c =
    none_before c.known_at.result (known_at c.args.placed.now.known.items c.args.y.0) c.args.placed.now.inert (list_all (λ z. (context_in c.args.scope.now).order c.args.y.0 z) (numbers_of c.args.placed.now.free.items)) c.before_all.result c.in-None.is (c.known_at.ensures ∙ ap (λ l. known_at l c.args.y.0) c.deref.ensures.value) c.if-placed.true
    (c.before_all.ensures ∙ ap (λ l. list_all (λ z. (context_in c.args.scope.now).order c.args.y.0 z) (numbers_of l)) c.deref-then-placed.ensures.value)

pub is_before-returns-else-placed : goal.is_before-returns-else-placed
is_before-returns-else-placed t c = never_before c.known_at.result (known_at c.args.placed.now.known.items c.args.y.0) c.args.placed.now.inert (list_all (λ z. (context_in c.args.scope.now).order c.args.y.0 z) (numbers_of c.args.placed.now.free.items)) c.in-None.is (c.known_at.ensures ∙ ap (λ l. known_at l c.args.y.0) c.deref.ensures.value) c.if-placed.false
