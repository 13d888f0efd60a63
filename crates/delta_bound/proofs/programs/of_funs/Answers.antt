-- One body more, of which the first name is found, and no body more.
use Rattle.std.proofs.Common.{◌≡◌, ◌∙◌, ◌<◌, ◌≤◌, get_or, List, length, if◌then◌else◌, ap, subst, sym}
use Rattle.std.specs.Prelude.{Some, None, option_map}
use Rattle.core_term.specs.declared.program.Body.{Body}
use Rattle.core_term.specs.CoreTerm.{core_of}
use Rattle.core_term.specs.Inert.{is_inert_fun}
use Rattle.delta_bound.specs.Unsized.{told, unsized_in, unsized_from}
use Rattle.delta_bound.proofs.FirstBodies.{own, from-found, from-none, from-end}
use Rattle.delta_bound.proofs.programs.of_funs.Goals as goal

pub returns-in-Some : goal.returns-in-Some
returns-in-Some c =
    let funs = (core_of c.args.c.now).funs in
    let counts = is_inert_fun funs in
    let marks = c.args.reached.now in
    let bs = c.args.c.now.funs.items in
    let i = c.loop-f.f in
    let b = c.b-item.result in
    let found : own funs counts marks bs i b ≡ Some (told c.in-Some.found) = sym (c.in_ok-found.ensures ∙ ap (λ m. if m then unsized_in funs counts b else None) c.marked.ensures) ∙ ap (option_map told) c.in-Some.is in
    from-found funs counts marks bs i b (told c.in-Some.found) (unsized_from funs counts marks 0 bs)
    (subst (λ (l : List Body). i < length l) c.deref-b-items.ensures.value c.loop-f-test.true) (subst (λ (l : List Body). b ≡ get_or l i b) c.deref-b-items.ensures.value c.b-item.is) found c.loop-f.invariant

pub loop-f-preserved : goal.loop-f-preserved
loop-f-preserved c =
    let funs = (core_of c.args.c.now).funs in
    let counts = is_inert_fun funs in
    let marks = c.args.reached.now in
    let bs = c.args.c.now.funs.items in
    let i = c.loop-f.f in
    let b = c.b-item.result in
    let nothing : own funs counts marks bs i b ≡ None = sym (c.in_ok-found.ensures ∙ ap (λ m. if m then unsized_in funs counts b else None) c.marked.ensures) ∙ ap (option_map told) c.in_default.is in
    from-none funs counts marks bs i b (unsized_from funs counts marks 0 bs)
    (subst (λ (l : List Body). i < length l) c.deref-b-items.ensures.value c.loop-f-test.true) (subst (λ (l : List Body). b ≡ get_or l i b) c.deref-b-items.ensures.value c.b-item.is) nothing c.loop-f.invariant

pub returns : goal.returns
returns c =
    let funs = (core_of c.args.c.now).funs in
    let bs = c.args.c.now.funs.items in
    from-end funs (is_inert_fun funs) c.args.reached.now bs c.loop-f.f (unsized_from funs (is_inert_fun funs) c.args.reached.now 0 bs) (subst (λ (l : List Body). length l ≤ c.loop-f.f) c.deref-b-items.ensures.value c.loop-f-test.false) c.loop-f.invariant
