-- What the arguments of a call stand for, one by one.
use mathlib.Core.Former.{Count}
use Rattle.std.proofs.Common.{◌≡◌, ℕ, map, refl, ap, ◌∙◌}
use Rattle.std.specs.List.{concat}
use Rattle.std.specs.declared.vec.Vec.{Vec}
use Rattle.std.specs.declared.alloc.Global.{Global}
use Rattle.core_term.specs.declared.term.Node.{Node}
use Rattle.core_term.specs.declared.term.Term.{Row_of-Node, end_of-Node, more_of-Node, items-the_row-Node, items_hidden-the_row-Node-0}
use Rattle.core_term.specs.declared.term.Term.TheBlock.{hidden-the_row-Node-0}
use Rattle.core_term.specs.declared.term.Term.TheVariants.{Call}
use Rattle.hist_value.specs.declared.expr.Expr.{Expr}
use Rattle.hist_value.specs.HistExpr.{expr_of}
use Rattle.core_term.specs.CoreTerm.{call_term, term_of, term_in, terms_of, terms_from, places_of, places_in, places_among}

-- what a row of nodes stands for
terms_of-list : (m : Count) (k : Row_of-Node m) → terms_of k ≡ terms_from (map term_of (items-the_row-Node m k))
terms_of-list m end_of-Node = refl
terms_of-list m (more_of-Node i a k) = cc (terms_of-list _ k)

-- the places of a row of nodes
places_among-list : (m : Count) (k : Row_of-Node m) → places_among k ≡ concat (map places_of (items-the_row-Node m k))
places_among-list m end_of-Node = refl
places_among-list m (more_of-Node i a k) = cc (places_among-list _ k)

-- what the arguments stand for
pub terms_of-hidden : (v : Vec Node Global) → terms_of (hidden-the_row-Node-0 v) ≡ terms_from (map term_of v.items)
terms_of-hidden v = terms_of-list _ (hidden-the_row-Node-0 v) ∙ ap (λ l. terms_from (map term_of l)) (items_hidden-the_row-Node-0 v)

-- their places
pub places_among-hidden : (v : Vec Node Global) → places_among (hidden-the_row-Node-0 v) ≡ concat (map places_of v.items)
places_among-hidden v = places_among-list _ (hidden-the_row-Node-0 v) ∙ ap (λ l. concat (map places_of l)) (items_hidden-the_row-Node-0 v)

-- what a call stands for
pub term_in-call : (f : ℕ) (ms : Vec Expr Global) (es : Vec Node Global) → term_in (Call f ms es) ≡ call_term f (map expr_of ms.items) (terms_from (map term_of es.items))
term_in-call f ms es = ap (call_term f (map expr_of ms.items)) (terms_of-hidden es)

-- the places inside a call
pub places_in-call : (f : ℕ) (ms : Vec Expr Global) (es : Vec Node Global) → places_in (Call f ms es) ≡ concat (map places_of es.items)
places_in-call f ms es = places_among-hidden es

-- for functions over the trees, here and in the crates above
pub ruleset rows = (terms_of-hidden, places_among-hidden)
