-- One function more, and all functions.
use Rattle.std.proofs.Common.{◌≡◌, ◌∙◌, ℕ, map, length, ap, ap₂, sym}
use Rattle.std.specs.Prelude.{None, if◌then◌else◌}
use Rattle.core_term.specs.CoreTerm.{core_of, core_body_of, fun_at}
use Rattle.core_term.specs.Inert.{is_inert_fun}
use Rattle.state_bounds.specs.TermBounds.{body_bound}
use Rattle.state_bounds.specs.ProgramBound.{is_marked, number_at}
use Rattle.delta_bound.proofs.Tables.{table-next, table-whole}
use Rattle.delta_bound.proofs.rounds.next_of.Goals as goal
use Rattle.delta_check.proofs.Marked.{body_there}

pub loop-f-preserved : goal.loop-f-preserved
loop-f-preserved c =
    let funs = (core_of c.args.c.now).funs in
    let f = c.loop-f.f in
    let b = c.b-item.result in
    let number = body_bound (fun_at funs) (is_inert_fun funs) (number_at c.args.numbers.now) in
    let there : fun_at funs f ≡ core_body_of b = ap (λ l. fun_at (map core_body_of l) f) (sym c.deref-b-items.ensures.value) ∙ body_there c.deref-b-items.result.now f b c.loop-f-test.true c.b-item.is in
    table-next (λ (g : ℕ). if is_marked c.args.reached.now g then number (fun_at funs g) else None) f c.loop-f.next.items c.push.new.self.items c.in_ok-next_number.field-0 c.in_ok-push.ensures.items c.loop-f.invariant
    (c.in_ok-next_number.ensures ∙ ap₂ (λ m d. if m then number d else None) c.marked.ensures (sym there))

pub returns : goal.returns
returns c =
    let core = core_of c.args.c.now in
    let number = body_bound (fun_at core.funs) (is_inert_fun core.funs) (number_at c.args.numbers.now) in
    table-whole (λ (g : ℕ). if is_marked c.args.reached.now g then number (fun_at core.funs g) else None) c.loop-f.f (length c.deref-b-items.result.now) c.args.c.now.funs.items c.loop-f.next.items c.loop-f.invariant c.loop-f.auto.f-end c.loop-f-test.false
    (ap length c.deref-b-items.ensures.value)
