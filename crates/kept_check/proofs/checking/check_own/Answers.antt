-- It is good, or it isn't, and its names stand behind those before.
use Rattle.std.proofs.Common.{◌≡◌, ◌∙◌, ℕ, List, length, ap, refl, rules, subst, sym}
use Rattle.std.proofs.lemmas.Bool.{iff_false}
use Rattle.stream_type.specs.StreamType.{type_of}
use Rattle.core_term.specs.FreeNames.{is_distinct}
use Rattle.delta_check.specs.Scopes.{context_in}
use Rattle.delta_keep.specs.KeptView.{state_of}
use Rattle.kept_rules.specs.InTurn.{own_names, state_at}
use Rattle.kept_rules.specs.StateRules.{IsGood}
use Rattle.kept_check.specs.Judging.{funs_of}
use Rattle.kept_check.proofs.DistinctNames.{before_own, own_behind}
use Rattle.kept_check.proofs.checking.check_own.Goals as goal

pub is_good-requires-clause-once : goal.is_good-requires-clause-once
is_good-requires-clause-once c =
    let old = c.args.bound.now.items in
    let new = c.add_own.new.bound.items in
    let own = own_names (state_of c.args.s.now) in
    let count : c.args.bound.now.len ≡ length old = search rules in
    rw (c.len-before.ensures, c.deref.ensures.value) (ap is_distinct (before_own old new own c.args.bound.now.len count c.in-Ok.ensures) ∙ c.requires.once)

pub is_good-requires-clause-own : goal.is_good-requires-clause-own
is_good-requires-clause-own c =
    let old = c.args.bound.now.items in
    let new = c.add_own.new.bound.items in
    let own = own_names (state_of c.args.s.now) in
    let count : c.args.bound.now.len ≡ length old = search rules in
    rw (c.len-before.ensures, c.deref.ensures.value) (own_behind old new own c.args.bound.now.len count c.in-Ok.ensures)

pub returns-in-Ok-true : goal.returns-in-Ok-true
returns-in-Ok-true c =
    let old = c.args.bound.now.items in
    let new = c.add_own.new.bound.items in
    let own = own_names (state_of c.args.s.now) in
    let count : c.args.bound.now.len ≡ length old = search rules in
    let told = rw (c.len-before.ensures, c.deref.ensures.value) at c.in-Ok-true.ensures in
    (subst (λ (l : List ℕ). IsGood (funs_of c.args.judge.now) c.args.judge.now.depth (state_at (context_in c.args.scope.now) (type_of c.args.r.now) l (state_of c.args.s.now))) (before_own old new own c.args.bound.now.len count c.in-Ok.ensures) (told.0 c.in-Ok-true.field-0-test), c.in-Ok.ensures)

pub returns-in-Ok-false : goal.returns-in-Ok-false
returns-in-Ok-false c =
    let old = c.args.bound.now.items in
    let new = c.add_own.new.bound.items in
    let own = own_names (state_of c.args.s.now) in
    let count : c.args.bound.now.len ≡ length old = search rules in
    let told = rw (c.len-before.ensures, c.deref.ensures.value) at c.in-Ok-false.ensures in
    (refl, λ g. iff_false told c.in-Ok-false.field-0-test (subst (λ (l : List ℕ). IsGood (funs_of c.args.judge.now) c.args.judge.now.depth (state_at (context_in c.args.scope.now) (type_of c.args.r.now) l (state_of c.args.s.now))) (sym (before_own old new own c.args.bound.now.len count c.in-Ok.ensures)) g))
