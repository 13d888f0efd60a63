-- A body that counts a name without a size has no bound.
use Rattle.std.proofs.Common.{ℕ, List, refl, subst}
use Rattle.core_term.specs.declared.program.Body.{Body}
use Rattle.core_term.specs.CoreTerm.{CoreBody, core_body_of, fun_at}
use Rattle.core_term.specs.Inert.{is_inert_fun}
use Rattle.core_term.specs.Typing.{context_of}
use Rattle.state_bounds.specs.Bounds.{Bound}
use Rattle.state_bounds.specs.TermBounds.{body_bound}
use Rattle.delta_bound.specs.Unsized.{unsized_in}
use Rattle.delta_bound.proofs.Bodies.{body-is}
use Rattle.delta_bound.proofs.LargeTerms.{IsLarge, term_large}

pub body_large : (funs : List CoreBody) (numbers : ℕ → Bound) (b : Body) → IsLarge (unsized_in funs (is_inert_fun funs) b) (body_bound (fun_at funs) (is_inert_fun funs) numbers (core_body_of b))
body_large funs numbers b =
    subst (λ (x : Bound). IsLarge (unsized_in funs (is_inert_fun funs) b) x) (body-is funs (is_inert_fun funs) numbers (core_body_of b) (λ f. refl))
    (term_large funs (is_inert_fun funs) numbers b.body.at b.body.term (context_of (core_body_of b)))
