-- What an argument and the others give, and where one of the others stops.
use Rattle.std.proofs.Common.{ap, sym, arith}
use Rattle.stream_prefix.specs.StreamPrefix.{der}
use Rattle.stream_prefix.specs.Tree.{prefix_of}
use Rattle.stream_type.specs.StreamType.{type_of}
use Rattle.core_term.specs.Run.{Run, run_before}
use Rattle.delta_state.specs.StateTree.{argument_before}
use Rattle.delta_code.specs.Begun.{rest_of, rests_of}
use Rattle.delta_code.proofs.Easing.{before_eased}
use Rattle.delta_code.proofs.Giving.{as_many, before_those, rest_stops}
use Rattle.delta_code.proofs.parts_done.argument_done.Goals as goal

pub returns-in-Ok : goal.returns-in-Ok
returns-in-Ok c x y s u n m l h e k =
    let a = c.args in
    let same = as_many h in
    let out = ap (λ (z : Run). argument_before a.name.0 (der z.out (type_of a.t.now)) s u) (sym h.run) in
    before_those (run_before a.is_name) (argument_before a.name.0 (der (prefix_of a.a.output.value) (type_of a.t.now)) (rest_of a.a) (rests_of c.in-Ok.b)) _ _ _ _ _ x y s u (argument_before a.name.0 (der x.out (type_of a.t.now)) s u) n m l c.in-Ok.is c.before_others.ensures.runs c.before_others.ensures.rests
    (λ one others args is. before_eased one others out is) (λ p q f d. (omega (arith, same, e, q), omega (arith, f, d))) c.all_made.ensures h k

pub returns-in-Err : goal.returns-in-Err
returns-in-Err c x y s u n m l h e k =
    let a = c.args in
    let same = as_many h in
    rest_stops _ _ y (run_before a.is_name x y) u (argument_before a.name.0 (der x.out (type_of a.t.now)) s u) m n l l c.in-Err.is (λ f. omega (arith, same, e, f)) (λ f. omega (arith, f)) k
