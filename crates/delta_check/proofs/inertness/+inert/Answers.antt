-- What stands for a call is a call of what stands for its arguments. A sequence is inert where its first part is,
-- at a type that isn't null.
use Rattle.std.proofs.Common.{◌≡◌, ◌∙◌, map, refl, ap, sym, rules}
use Rattle.stream_type.specs.declared.ty.Ty.{Ty, Eps}
use Rattle.stream_type.specs.StreamType.{type_of}
use Rattle.bunch.specs.BunchTree.{tree_of}
use Rattle.hist_value.specs.HistExpr.{expr_of}
use Rattle.core_term.specs.declared.term.Node.{Node}
use Rattle.core_term.specs.declared.term.Term.{Term}
use Rattle.core_term.specs.CoreTerm.{call_term, term_of, term_in, terms_from, core_of, fun_at, leaf_types}
use Rattle.core_term.specs.Parts.{par_left, par_right, cat_first}
use Rattle.core_term.specs.Inert.{is_inert, are_inert}
use Rattle.core_term.proofs.Rows.{term_in-call, rows}
use Rattle.delta_check.specs.Counting.{counts_in}
use Rattle.delta_check.proofs.InertForms.{no_cat, no_par, at_there, at_past, parts_still, moves, rests, par_still, par_moves, cat_moves, cat_null, let_still, let_moves, are_still-then, are_still-not, are_still-end}
use Rattle.delta_check.proofs.inertness.+inert.Goals as goal

pub is_still-returns-in-Call : goal.is_still-returns-in-Call
is_still-returns-in-Call t c =
    let whole : term_of c.args.n.now ≡ call_term c.in-Call.f (map expr_of c.in-Call.past.items) (terms_from (map term_of c.in-Call.arguments.items)) =
    rw c.in-Call.is (term_in-call c.in-Call.f c.in-Call.past c.in-Call.arguments) in
    rw whole (rw (c.deref-in-Call.ensures.value, c.deref-in-Call-2.ensures.value) at c.is_still_call.ensures)

pub is_still-returns-then-is_still-3 : goal.is_still-returns-then-is_still-3
is_still-returns-then-is_still-3 t c = search (rules, rows)

pub is_still-returns-then-is_still : goal.is_still-returns-then-is_still
is_still-returns-then-is_still t c =
    let funs = fun_at (core_of c.args.c.now).funs in
    let counts = counts_in (core_of c.args.c.now).funs c.args.funs.now in
    par_still funs counts (term_of c.args.n.now) (type_of c.args.r.now) c.deref.result.now c.deref-then-is_still.result.now c.in-Par.a.value c.in-Par.b.value c.deref-in-Par-r.result.now c.deref-then-is_still-2.result.now c.in-Par-r.s.value c.in-Par-r.t.value c.is_still.result c.is_still-then-is_still.result
    (ap term_in c.in-Par.is) (ap (λ (x : Ty). par_left (type_of x)) c.in-Par-r.is) (ap (λ (x : Ty). par_right (type_of x)) c.in-Par-r.is) c.deref.ensures c.deref-then-is_still.ensures c.deref-in-Par-r.ensures c.deref-then-is_still-2.ensures c.is_still.ensures c.if-is_still.true c.is_still-then-is_still.ensures

pub is_still-returns-else-is_still : goal.is_still-returns-else-is_still
is_still-returns-else-is_still t c =
    let funs = fun_at (core_of c.args.c.now).funs in
    let counts = counts_in (core_of c.args.c.now).funs c.args.funs.now in
    par_moves funs counts (term_of c.args.n.now) (type_of c.args.r.now) c.deref.result.now c.in-Par.a.value c.in-Par.b.value c.deref-in-Par-r.result.now c.in-Par-r.s.value c.is_still.result
    (ap term_in c.in-Par.is) (ap (λ (x : Ty). par_left (type_of x)) c.in-Par-r.is) c.deref.ensures c.deref-in-Par-r.ensures c.is_still.ensures c.if-is_still.false

pub is_still-returns-else-is_still-3 : goal.is_still-returns-else-is_still-3
is_still-returns-else-is_still-3 t c =
    let funs = fun_at (core_of c.args.c.now).funs in
    let counts = counts_in (core_of c.args.c.now).funs c.args.funs.now in
    cat_moves funs counts (term_of c.args.n.now) (type_of c.args.r.now) c.deref-in-Cat-r.result.now c.in-Cat.a.value c.in-Cat.field-1.value c.deref-in-Cat-r-2.result.now c.in-Cat-r.s.value c.is_still-in-Cat-r.result
    (ap term_in c.in-Cat.is) (ap (λ (x : Ty). cat_first (type_of x)) c.in-Cat-r.is) c.deref-in-Cat-r.ensures c.deref-in-Cat-r-2.ensures c.is_still-in-Cat-r.ensures c.if-is_still-3.false

pub is_still-returns-in-Eps-r : goal.is_still-returns-in-Eps-r
is_still-returns-in-Eps-r t c =
    let funs = fun_at (core_of c.args.c.now).funs in
    let counts = counts_in (core_of c.args.c.now).funs c.args.funs.now in
    cat_null funs counts (term_of c.args.n.now) (type_of c.args.r.now) c.in-Cat.a.value c.in-Cat.field-1.value (ap term_in c.in-Cat.is) (no_cat c.args.r.now c.in-Eps-r.is)

pub is_still-returns-in-Eps-r-2 : goal.is_still-returns-in-Eps-r-2
is_still-returns-in-Eps-r-2 t c =
    let funs = fun_at (core_of c.args.c.now).funs in
    let counts = counts_in (core_of c.args.c.now).funs c.args.funs.now in
    cat_null funs counts (term_of c.args.n.now) (type_of c.args.r.now) c.in-Cat.a.value c.in-Cat.field-1.value (ap term_in c.in-Cat.is) (no_cat c.args.r.now c.in-Eps-r.is)

pub is_still-returns-in-Eps-r-3 : goal.is_still-returns-in-Eps-r-3
is_still-returns-in-Eps-r-3 t c =
    let funs = fun_at (core_of c.args.c.now).funs in
    let counts = counts_in (core_of c.args.c.now).funs c.args.funs.now in
    cat_null funs counts (term_of c.args.n.now) (type_of c.args.r.now) c.in-Cat.a.value c.in-Cat.field-1.value (ap term_in c.in-Cat.is) (no_cat c.args.r.now c.in-Eps-r.is)

pub is_still-returns-in-Eps-r-4 : goal.is_still-returns-in-Eps-r-4
is_still-returns-in-Eps-r-4 t c =
    let funs = fun_at (core_of c.args.c.now).funs in
    let counts = counts_in (core_of c.args.c.now).funs c.args.funs.now in
    cat_null funs counts (term_of c.args.n.now) (type_of c.args.r.now) c.in-Cat.a.value c.in-Cat.field-1.value (ap term_in c.in-Cat.is) (no_cat c.args.r.now c.in-Eps-r.is)

pub is_still-returns-in-Eps-r-5 : goal.is_still-returns-in-Eps-r-5
is_still-returns-in-Eps-r-5 t c =
    let funs = fun_at (core_of c.args.c.now).funs in
    let counts = counts_in (core_of c.args.c.now).funs c.args.funs.now in
    cat_null funs counts (term_of c.args.n.now) (type_of c.args.r.now) c.in-Cat.a.value c.in-Cat.field-1.value (ap term_in c.in-Cat.is) (no_cat c.args.r.now c.in-Eps-r.is)

pub is_still-returns-in-Eps-r-6 : goal.is_still-returns-in-Eps-r-6
is_still-returns-in-Eps-r-6 t c =
    let funs = fun_at (core_of c.args.c.now).funs in
    let counts = counts_in (core_of c.args.c.now).funs c.args.funs.now in
    cat_null funs counts (term_of c.args.n.now) (type_of c.args.r.now) c.in-Cat.a.value c.in-Cat.field-1.value (ap term_in c.in-Cat.is) (no_cat c.args.r.now c.in-Eps-r.is)

pub is_still-returns-then-is_still-4 : goal.is_still-returns-then-is_still-4
is_still-returns-then-is_still-4 t c =
    let funs = fun_at (core_of c.args.c.now).funs in
    let counts = counts_in (core_of c.args.c.now).funs c.args.funs.now in
    let_still funs counts (term_of c.args.n.now) c.in-Let.field-0.0 (type_of c.in-Let.s) (type_of c.args.r.now) c.deref-in-Let.result.now c.deref-then-is_still-4.result.now c.in-Let.a.value c.in-Let.b.value c.is_still-in-Let.result c.is_still-then-is_still-4.result
    (ap term_in c.in-Let.is) c.deref-in-Let.ensures c.deref-then-is_still-4.ensures c.is_still-in-Let.ensures c.if-is_still-4.true c.is_still-then-is_still-4.ensures

pub is_still-returns-else-is_still-4 : goal.is_still-returns-else-is_still-4
is_still-returns-else-is_still-4 t c =
    let funs = fun_at (core_of c.args.c.now).funs in
    let counts = counts_in (core_of c.args.c.now).funs c.args.funs.now in
    let_moves funs counts (term_of c.args.n.now) c.in-Let.field-0.0 (type_of c.in-Let.s) (type_of c.args.r.now) c.deref-in-Let.result.now c.in-Let.a.value c.in-Let.b.value c.is_still-in-Let.result
    (ap term_in c.in-Let.is) c.deref-in-Let.ensures c.is_still-in-Let.ensures c.if-is_still-4.false

pub is_still-returns-in-Unit : goal.is_still-returns-in-Unit
is_still-returns-in-Unit t c =
    let funs = fun_at (core_of c.args.c.now).funs in
    let counts = counts_in (core_of c.args.c.now).funs c.args.funs.now in
    moves funs counts (type_of c.args.r.now) c.args.n.now.term c.in-Unit.is

pub is_still-returns-in-Unit-2 : goal.is_still-returns-in-Unit-2
is_still-returns-in-Unit-2 t c =
    let funs = fun_at (core_of c.args.c.now).funs in
    let counts = counts_in (core_of c.args.c.now).funs c.args.funs.now in
    moves funs counts (type_of c.args.r.now) c.args.n.now.term c.in-Unit.is

pub is_still-returns-in-Unit-3 : goal.is_still-returns-in-Unit-3
is_still-returns-in-Unit-3 t c =
    let funs = fun_at (core_of c.args.c.now).funs in
    let counts = counts_in (core_of c.args.c.now).funs c.args.funs.now in
    moves funs counts (type_of c.args.r.now) c.args.n.now.term c.in-Unit.is

pub is_still-returns-in-Unit-4 : goal.is_still-returns-in-Unit-4
is_still-returns-in-Unit-4 t c =
    let funs = fun_at (core_of c.args.c.now).funs in
    let counts = counts_in (core_of c.args.c.now).funs c.args.funs.now in
    moves funs counts (type_of c.args.r.now) c.args.n.now.term c.in-Unit.is

pub is_still-returns-in-Unit-5 : goal.is_still-returns-in-Unit-5
is_still-returns-in-Unit-5 t c =
    let funs = fun_at (core_of c.args.c.now).funs in
    let counts = counts_in (core_of c.args.c.now).funs c.args.funs.now in
    moves funs counts (type_of c.args.r.now) c.args.n.now.term c.in-Unit.is

pub is_still-returns-in-Var : goal.is_still-returns-in-Var
is_still-returns-in-Var t c =
    let funs = fun_at (core_of c.args.c.now).funs in
    let counts = counts_in (core_of c.args.c.now).funs c.args.funs.now in
    rests funs counts (type_of c.args.r.now) c.args.n.now.term c.in-Var.is

pub is_still-returns-in-Var-2 : goal.is_still-returns-in-Var-2
is_still-returns-in-Var-2 t c =
    let funs = fun_at (core_of c.args.c.now).funs in
    let counts = counts_in (core_of c.args.c.now).funs c.args.funs.now in
    rests funs counts (type_of c.args.r.now) c.args.n.now.term c.in-Var.is

pub is_still-returns-in-Var-3 : goal.is_still-returns-in-Var-3
is_still-returns-in-Var-3 t c =
    let funs = fun_at (core_of c.args.c.now).funs in
    let counts = counts_in (core_of c.args.c.now).funs c.args.funs.now in
    rests funs counts (type_of c.args.r.now) c.args.n.now.term c.in-Var.is

pub is_still-returns-in-Var-4 : goal.is_still-returns-in-Var-4
is_still-returns-in-Var-4 t c =
    let funs = fun_at (core_of c.args.c.now).funs in
    let counts = counts_in (core_of c.args.c.now).funs c.args.funs.now in
    rests funs counts (type_of c.args.r.now) c.args.n.now.term c.in-Var.is

pub is_still-returns-in-Var-5 : goal.is_still-returns-in-Var-5
is_still-returns-in-Var-5 t c =
    let funs = fun_at (core_of c.args.c.now).funs in
    let counts = counts_in (core_of c.args.c.now).funs c.args.funs.now in
    rests funs counts (type_of c.args.r.now) c.args.n.now.term c.in-Var.is

pub is_still-returns-in-Past : goal.is_still-returns-in-Past
is_still-returns-in-Past t c =
    let funs = fun_at (core_of c.args.c.now).funs in
    let counts = counts_in (core_of c.args.c.now).funs c.args.funs.now in
    c.null.ensures ∙ sym (ap (λ (x : Term). is_inert funs counts (term_in x) (type_of c.args.r.now)) c.in-Past.is)

pub are_still-loop-i-init : goal.are_still-loop-i-init
are_still-loop-i-init t c =
    refl

pub are_still-returns-then-not-is_still_at : goal.are_still-returns-then-not-is_still_at
are_still-returns-then-not-is_still_at t c =
    let funs = fun_at (core_of c.args.c.now).funs in
    let counts = counts_in (core_of c.args.c.now).funs c.args.funs.now in
    let ts = leaf_types (tree_of c.args.params.now) in
    let whole = are_inert funs counts (terms_from (map term_of c.args.arguments.now)) ts in
    are_still-not funs counts c.args.arguments.now ts c.loop-i.i c.index-arguments-i.result c.is_still_at.result whole c.loop-i-test.true c.index-arguments-i.is c.is_still_at.ensures c.if-not-is_still_at.true c.loop-i.invariant

pub are_still-loop-i-preserved : goal.are_still-loop-i-preserved
are_still-loop-i-preserved t c =
    let funs = fun_at (core_of c.args.c.now).funs in
    let counts = counts_in (core_of c.args.c.now).funs c.args.funs.now in
    let ts = leaf_types (tree_of c.args.params.now) in
    let whole = are_inert funs counts (terms_from (map term_of c.args.arguments.now)) ts in
    are_still-then funs counts c.args.arguments.now ts c.loop-i.i c.index-arguments-i.result c.is_still_at.result whole c.loop-i-test.true c.index-arguments-i.is c.is_still_at.ensures c.if-not-is_still_at.false c.loop-i.invariant

pub are_still-returns : goal.are_still-returns
are_still-returns t c =
    let funs = fun_at (core_of c.args.c.now).funs in
    let counts = counts_in (core_of c.args.c.now).funs c.args.funs.now in
    let ts = leaf_types (tree_of c.args.params.now) in
    let whole = are_inert funs counts (terms_from (map term_of c.args.arguments.now)) ts in
    are_still-end funs counts c.args.arguments.now ts c.loop-i.i whole c.loop-i-test.false c.loop-i.invariant

pub is_still-returns-then-is_still-2 : goal.is_still-returns-then-is_still-2
is_still-returns-then-is_still-2 t c =
    let funs = fun_at (core_of c.args.c.now).funs in
    let counts = counts_in (core_of c.args.c.now).funs c.args.funs.now in
    let other = no_par c.args.r.now c.in-Eps.is in
    par_still funs counts (term_of c.args.n.now) (type_of c.args.r.now) c.deref-in-Eps.result.now c.deref-then-is_still-2-2.result.now c.in-Par.a.value c.in-Par.b.value Eps Eps Eps Eps c.is_still-in-Eps.result c.is_still-then-is_still-2.result
    (ap term_in c.in-Par.is) other.0 other.1 c.deref-in-Eps.ensures c.deref-then-is_still-2-2.ensures refl refl c.is_still-in-Eps.ensures c.if-is_still-2.true c.is_still-then-is_still-2.ensures

pub is_still-returns-else-is_still-2 : goal.is_still-returns-else-is_still-2
is_still-returns-else-is_still-2 t c =
    let funs = fun_at (core_of c.args.c.now).funs in
    let counts = counts_in (core_of c.args.c.now).funs c.args.funs.now in
    let other = no_par c.args.r.now c.in-Eps.is in
    par_moves funs counts (term_of c.args.n.now) (type_of c.args.r.now) c.deref-in-Eps.result.now c.in-Par.a.value c.in-Par.b.value Eps Eps c.is_still-in-Eps.result
    (ap term_in c.in-Par.is) other.0 c.deref-in-Eps.ensures refl c.is_still-in-Eps.ensures c.if-is_still-2.false

pub is_still-returns-in-LetPar : goal.is_still-returns-in-LetPar
is_still-returns-in-LetPar t c =
    let funs = fun_at (core_of c.args.c.now).funs in
    let counts = counts_in (core_of c.args.c.now).funs c.args.funs.now in
    c.is_still-in-LetPar.ensures ∙ ap (λ (i : Node). is_inert funs counts (term_of i) (type_of c.args.r.now)) c.deref-in-LetPar.ensures ∙ sym (parts_still funs counts (type_of c.args.r.now) c.args.n.now.term c.in-LetPar.a c.in-LetPar.is)

pub is_still_at-returns-in-Ok : goal.is_still_at-returns-in-Ok
is_still_at-returns-in-Ok t c =
    let funs = fun_at (core_of c.args.c.now).funs in
    let counts = counts_in (core_of c.args.c.now).funs c.args.funs.now in
    c.is_still.ensures ∙ ap (is_inert funs counts (term_of c.args.argument.now)) (sym (at_there (leaf_types (tree_of c.args.params.now)) c.args.i (type_of c.in-Ok.t.now) c.in-Ok.ensures.there))

pub is_still_at-returns-in-Err : goal.is_still_at-returns-in-Err
is_still_at-returns-in-Err t c =
    let funs = fun_at (core_of c.args.c.now).funs in
    let counts = counts_in (core_of c.args.c.now).funs c.args.funs.now in
    c.is_still-in-Err.ensures ∙ ap (is_inert funs counts (term_of c.args.argument.now)) (sym (at_past (leaf_types (tree_of c.args.params.now)) c.args.i c.in-Err.field-0 c.in-Err.ensures.past))
