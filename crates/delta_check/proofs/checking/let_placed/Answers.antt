-- The name stands where the let places it.
use Rattle.std.proofs.Common.{◌≡◌, ℕ, ap}
use Rattle.stream_type.specs.StreamType.{type_of}
use Rattle.bunch.specs.Names.{numbers_of}
use Rattle.core_term.specs.CoreTerm.{core_of, fun_at, term_of}
use Rattle.core_term.specs.FreeNames.{free_names}
use Rattle.core_term.specs.Inert.{is_inert}
use Rattle.core_term.specs.Typing.{with_name, with_let}
use Rattle.delta_check.specs.Counting.{counts_in}
use Rattle.delta_check.specs.Scopes.{context_in, place_known, IsKnown}
use Rattle.delta_check.proofs.Known.{placed-is, if_ok-three}
use Rattle.delta_check.proofs.checking.let_placed.Goals as goal

pub returns : goal.returns
returns c =
    let funs = (core_of c.args.c.now).funs in
    let counts = counts_in funs c.args.marks.now in
    let context = context_in c.args.scope.now in
    let s = type_of c.args.s.now in
    let a = term_of c.args.a.now in
    let names = c.in_ok-free.field-0.items in
    let inert = c.inert-inert.result in
    if_ok-three c.place_of_let.result (λ p. p.free.items ≡ names) (λ p. p.inert ≡ inert) (λ p. IsKnown p.known.items (numbers_of names) inert context.order)
    (λ p. (x : ℕ) → with_name x s (place_known x p context.order) context ≡ with_let funs counts x s a context)
    (λ p e i k x. ap (λ o. with_name x s o context)
    (placed-is x p names (free_names a) inert (is_inert (fun_at funs) counts a s) context.order e c.in_ok-free.ensures i c.inert-inert.ensures k))
    c.place_of_let.ensures.free c.place_of_let.ensures.inert c.place_of_let.ensures.known
