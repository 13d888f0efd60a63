-- The first name without a size, one node more.
use mathlib.Core.Former.{Count}
use Rattle.std.proofs.Common.{◌≡◌, ◌∙◌, ◌<◌, ◌+◌, ℕ, Bool, List, drop, get_or, length, refl, ap}
use Rattle.std.specs.declared.vec.Vec.{Vec}
use Rattle.std.specs.declared.alloc.Global.{Global}
use Rattle.core_term.specs.declared.term.Node.{Node}
use Rattle.core_term.specs.declared.term.Term.{Row_of-Node, end_of-Node, more_of-Node, items-the_row-Node, items_hidden-the_row-Node-0}
use Rattle.core_term.specs.declared.term.Term.TheBlock.{hidden-the_row-Node-0}
use Rattle.core_term.specs.declared.term.Term.TheVariants.{Call}
use Rattle.core_term.specs.declared.program.Body.{Body}
use Rattle.hist_value.specs.declared.expr.Expr.{Expr}
use Rattle.core_term.specs.CoreTerm.{CoreBody}
use Rattle.core_term.specs.Inert.{is_inert_fun}
use Rattle.core_term.specs.TypeFaults.{first_some}
use Rattle.core_term.specs.Typing.{Context}
use Rattle.delta_bound.specs.Unsized.{unsized_at, unsized_row, unsized_of, unsized_among, unsized_in}
use Rattle.delta_bound.proofs.ListPlaces.{drop-next}

module _ (funs : List CoreBody) (counts : ℕ → Bool) where
  row-list : (m : Count) (k : Row_of-Node m) (c : Context) → unsized_row funs counts k c ≡ unsized_among funs counts (items-the_row-Node m k) c
  row-list m end_of-Node c = refl
  row-list m (more_of-Node i a k) c = ap (first_some (unsized_at funs counts i a c)) (row-list _ k c)

  -- that of a call is that of its arguments
  pub call-is : (at f : ℕ) (ms : Vec Expr Global) (es : Vec Node Global) (c : Context) → unsized_at funs counts at (Call f ms es) c ≡ unsized_among funs counts es.items c
  call-is at f ms es c = row-list _ (hidden-the_row-Node-0 es) c ∙ ap (λ l. unsized_among funs counts l c) (items_hidden-the_row-Node-0 es)

  -- that of terms from a place on is that of the first, or else of the others
  pub among-next : (es : List Node) (i : ℕ) (e : Node) (c : Context) → i < length es → e ≡ get_or es i e
      → unsized_among funs counts (drop i es) c ≡ first_some (unsized_of funs counts e c) (unsized_among funs counts (drop (i + 1) es) c)
  among-next es i e c h k = ap (λ l. unsized_among funs counts l c) (drop-next es i e h k)

-- the marks of the inert functions count them
pub body-is : (funs : List CoreBody) (counts : ℕ → Bool) (b : Body) → ((f : ℕ) → counts f ≡ is_inert_fun funs f) → unsized_in funs counts b ≡ unsized_in funs (is_inert_fun funs) b
body-is funs counts b h = ap (λ k. unsized_in funs k b) (λ i f. h f i)
