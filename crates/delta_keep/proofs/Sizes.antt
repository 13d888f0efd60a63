-- The sizes of the numbers of trees that hold rows of trees.
use mathlib.Core.Former.{Count}
use Rattle.std.proofs.Common.{Box, ◌≡◌, ◌∙◌, ℕ, suc, List, [], ◌∷◌, map, length, ap, refl, sym, subst, arith}
use Rattle.std.specs.Prelude.{⊤}
use Rattle.std.specs.List.{AllByRecursion}
use Rattle.std.specs.declared.vec.Vec.{Vec}
use Rattle.std.specs.declared.alloc.Global.{Global}
use Rattle.stream_type.specs.StreamType.{type_of}
use Rattle.stream_prefix.specs.declared.prefix.Prefix.{Prefix}
use Rattle.stream_prefix.specs.declared.prefix.Prefix.TheVariants.{Star}
use Rattle.stream_prefix.specs.declared.prefix.StarEnd.{StarEnd}
use Rattle.stream_prefix.specs.StreamPrefix.{StreamPrefix}
use Rattle.stream_prefix.specs.Tree.{prefix_of, end_of, star_of}
use Rattle.stream_prefix.proofs.Rows.{prefix_of-star}
use Rattle.hist_value.specs.declared.history.Value.{Value, items_hidden-the_row-Value-0}
use Rattle.hist_value.specs.declared.history.Value.TheBlock.{hidden-the_row-Value-0}
use Rattle.hist_value.specs.declared.history.Value.TheVariants.{List as ListValue}
use Rattle.hist_value.specs.HistValue.{HistValue, hist_value_of, list_of}
use Rattle.hist_value.specs.declared.expr.Expr.{Expr}
use Rattle.hist_value.specs.HistExpr.{expr_of}
use Rattle.hist_value.proofs.Rows.{row_of-list}
use Rattle.core_term.specs.declared.term.Node.{Node}
use Rattle.core_term.specs.declared.term.Term.{Row_of-Node, end_of-Node, more_of-Node, items-the_row-Node, items_hidden-the_row-Node-0}
use Rattle.core_term.specs.declared.term.Term.TheBlock.{hidden-the_row-Node-0}
use Rattle.core_term.specs.declared.term.Term.TheVariants.{Call}
use Rattle.core_term.specs.CoreTerm.{term_in, terms_of, term_count}
use Rattle.delta_state.specs.StateTree.{argument_names}
use Rattle.kept_state.specs.KeptSizes.{FitsShort, FitsPrefix, FitsValue, FitsExprs, FitsTerm, FitsTerms, FitsState, FitsArguments, FitsLong, HasSizes}
use Rattle.kept_state.proofs.SpelledParts.{count-list_of}
use Rattle.delta_keep.specs.declared.kept.Argument.{Argument}
use Rattle.delta_keep.specs.declared.kept.Kept.{Kept}
use Rattle.delta_keep.specs.declared.kept.KeptState.{KeptState, Row_of-Argument, end_of-Argument, more_of-Argument, items-the_row-Argument, items_hidden-the_row-Argument-0}
use Rattle.delta_keep.specs.declared.kept.KeptState.TheBlock.{hidden-the_row-Argument-0}
use Rattle.delta_keep.specs.declared.kept.KeptState.TheVariants.{Frame}
use Rattle.delta_keep.specs.KeptView.{kept_of, state_of, arguments_of}
use Rattle.delta_keep.specs.Reads.{FitsList, FitsNode, FitsArgument}
use Rattle.delta_keep.proofs.Trees.{whole-star_of}

-- fewer can be counted too
one_less : (n : ℕ) → FitsShort (suc n) → FitsShort n
one_less n h = omega (arith, h)

-- a star's items, and what stands after them
fits-star_of : (ps : List StreamPrefix) (e : StarEnd) → FitsList FitsPrefix ps → FitsPrefix (end_of e) → FitsPrefix (star_of ps (end_of e))
fits-star_of [] e h k = k
fits-star_of (p ∷ ps) e (n, (h, hs)) k = (h, fits-star_of ps e (one_less (length ps) n, hs) k, subst FitsShort (ap suc (sym (whole-star_of ps e))) n)

pub star_fits : (v : Vec Prefix Global) (e : StarEnd) → FitsList FitsPrefix (map prefix_of v.items) × FitsPrefix (end_of e) → FitsPrefix (prefix_of (Star v e))
star_fits v e (h, k) = subst FitsPrefix (sym (prefix_of-star v e)) (fits-star_of (map prefix_of v.items) e h k)

-- the items of a list's value
fits-list_of : (vs : List HistValue) → FitsList FitsValue vs → FitsValue (list_of vs)
fits-list_of [] h = tt
fits-list_of (v ∷ vs) (n, (h, hs)) = (h, fits-list_of vs (one_less (length vs) n, hs), subst FitsShort (ap suc (sym (count-list_of vs))) n)

pub list_fits : (v : Vec Value Global) → FitsList FitsValue (map hist_value_of v.items) → FitsValue (hist_value_of (ListValue v))
list_fits v h =
    subst (λ vs. FitsValue (list_of vs)) (sym (row_of-list _ (hidden-the_row-Value-0 v) ∙ ap (map hist_value_of) (items_hidden-the_row-Value-0 v)))
    (fits-list_of (map hist_value_of v.items) h)

-- a row of nodes
count-terms : (m : Count) (k : Row_of-Node m) → term_count (terms_of k) ≡ length (items-the_row-Node m k)
count-terms m end_of-Node = refl
count-terms m (more_of-Node i a k) = let e = count-terms _ k in omega (arith, e)

fits-terms : (m : Count) (k : Row_of-Node m) → AllByRecursion FitsNode (items-the_row-Node m k) → FitsTerms (terms_of k)
fits-terms m end_of-Node h = tt
fits-terms m (more_of-Node i a k) (h, hs) = (h, fits-terms _ k hs)

pub call_fits : (f : ℕ) (ms : Vec Expr Global) (es : Vec Node Global) → FitsShort f × (FitsExprs (map expr_of ms.items) × FitsList FitsNode es.items) → FitsTerm (term_in (Call f ms es))
call_fits f ms es (h, (k, (n, l))) = (
  h,
  k,
  subst FitsShort (sym (count-terms _ (hidden-the_row-Node-0 es) ∙ ap length (items_hidden-the_row-Node-0 es))) n,
  fits-terms _ (hidden-the_row-Node-0 es) (subst (AllByRecursion FitsNode) (sym (items_hidden-the_row-Node-0 es)) l),
)

-- a row of arguments
count-names : (m : Count) (k : Row_of-Argument m) → length (argument_names (arguments_of k)) ≡ length (items-the_row-Argument m k)
count-names m end_of-Argument = refl
count-names m (more_of-Argument x t p s k) = ap suc (count-names _ k)

fits-arguments : (m : Count) (k : Row_of-Argument m) → AllByRecursion FitsArgument (items-the_row-Argument m k) → FitsArguments (arguments_of k)
fits-arguments m end_of-Argument h = tt
fits-arguments m (more_of-Argument x t p s k) ((n, h), hs) = (n, h, fits-arguments _ k hs)

pub frame_fits : (args : Vec Argument Global) (s : Box KeptState Global) → FitsList FitsArgument args.items × FitsState (state_of s.value) → FitsState (state_of (Frame args s))
frame_fits args s ((n, h), k) = (
  subst FitsShort (sym (count-names _ (hidden-the_row-Argument-0 args) ∙ ap length (items_hidden-the_row-Argument-0 args))) n,
  fits-arguments _ (hidden-the_row-Argument-0 args) (subst (AllByRecursion FitsArgument) (sym (items_hidden-the_row-Argument-0 args)) h),
  k,
)

-- a kept state
pub kept_fits : (k : Kept) → ⊤ × (FitsLong k.events × (FitsShort (length (map type_of k.ins.items)) × (FitsShort (length k.cuts.items) × (⊤ × FitsState (state_of k.state.value))))) → HasSizes (kept_of k)
kept_fits k (a, (events, (types, (cuts, (b, state))))) = record { events = events; types = types; cuts = cuts; state = state }
