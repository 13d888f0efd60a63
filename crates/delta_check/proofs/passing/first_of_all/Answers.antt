-- What is found at a name is found, and else the names after it decide.
use Rattle.std.proofs.Common.{ℕ, map, refl}
use Rattle.std.specs.Prelude.{Option}
use Rattle.bunch.specs.declared.name.Name.{Name}
use Rattle.bunch.specs.Names.{numbers_of}
use Rattle.bunch.specs.BunchTree.{tree_of}
use Rattle.core_term.specs.CoreTerm.{term_of, terms_from}
use Rattle.core_term.specs.TypeFaults.{first_found}
use Rattle.delta_check.specs.Passing.{pair_at}
use Rattle.delta_check.specs.Scopes.{context_in}
use Rattle.delta_check.proofs.Seen.{found_more, found_here, found_end}
use Rattle.delta_check.proofs.passing.first_of_all.Goals as goal

pub loop-u-init : goal.loop-u-init
loop-u-init c = refl

pub returns-in-Some : goal.returns-in-Some
returns-in-Some c =
    let both : Name × Name → ℕ × ℕ = λ p. (p.0.0, p.1.0) in
    let at : ℕ → Option (ℕ × ℕ) = λ u. first_found {B = ℕ × ℕ} (pair_at (context_in c.args.scope.now) (tree_of c.args.params.now) (numbers_of c.args.names.now) (terms_from (map term_of c.args.arguments.now)) u) (numbers_of c.args.names.now) in
    found_here both at c.args.names.now c.loop-u.u-index _ c.in_ok-found.field-0 c.in-Some.found (first_found at (numbers_of c.args.names.now)) c.loop-u-test.true c.in_ok-found.ensures c.in-Some.is c.loop-u.invariant

pub loop-u-preserved : goal.loop-u-preserved
loop-u-preserved c =
    let both : Name × Name → ℕ × ℕ = λ p. (p.0.0, p.1.0) in
    let at : ℕ → Option (ℕ × ℕ) = λ u. first_found {B = ℕ × ℕ} (pair_at (context_in c.args.scope.now) (tree_of c.args.params.now) (numbers_of c.args.names.now) (terms_from (map term_of c.args.arguments.now)) u) (numbers_of c.args.names.now) in
    found_more both at c.args.names.now c.loop-u.u-index _ c.in_ok-found.field-0 (first_found at (numbers_of c.args.names.now)) c.loop-u-test.true c.in_ok-found.ensures c.in_default.is c.loop-u.invariant

pub returns : goal.returns
returns c =
    let at : ℕ → Option (ℕ × ℕ) = λ u. first_found {B = ℕ × ℕ} (pair_at (context_in c.args.scope.now) (tree_of c.args.params.now) (numbers_of c.args.names.now) (terms_from (map term_of c.args.arguments.now)) u) (numbers_of c.args.names.now) in
    found_end at c.args.names.now c.loop-u.u-index (first_found at (numbers_of c.args.names.now)) c.loop-u-test.false c.loop-u.invariant
