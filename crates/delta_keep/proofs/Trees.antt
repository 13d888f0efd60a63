-- The bytes of trees that hold rows of trees.
use mathlib.Core.Former.{Count}
use Rattle.std.proofs.Common.{Box, ◌≡◌, ◌∙◌, ℕ, suc, List, [], ◌∷◌, ◌++◌, map, length, ap, ap₂, refl, sym, append_assoc}
use Rattle.std.specs.List.{concat}
use Rattle.std.specs.declared.vec.Vec.{Vec}
use Rattle.std.specs.declared.alloc.Global.{Global}
use Rattle.stream_prefix.specs.declared.prefix.Prefix.{Prefix}
use Rattle.stream_prefix.specs.declared.prefix.Prefix.TheVariants.{Star}
use Rattle.stream_prefix.specs.declared.prefix.StarEnd.{StarEnd}
use Rattle.stream_prefix.specs.declared.prefix.StarEnd.TheVariants.{Emp, Done, First'}
use Rattle.stream_prefix.specs.StreamPrefix.{StreamPrefix}
use Rattle.stream_prefix.specs.Tree.{prefix_of, end_of, star_of}
use Rattle.stream_prefix.proofs.Rows.{prefix_of-star}
use Rattle.hist_value.specs.declared.history.Value.{Value, items_hidden-the_row-Value-0}
use Rattle.hist_value.specs.declared.history.Value.TheBlock.{hidden-the_row-Value-0}
use Rattle.hist_value.specs.declared.history.Value.TheVariants.{List as ListValue}
use Rattle.hist_value.specs.HistValue.{hist_value_of, list_of}
use Rattle.hist_value.specs.declared.expr.Expr.{Expr}
use Rattle.hist_value.specs.HistExpr.{expr_of}
use Rattle.hist_value.proofs.Rows.{row_of-list}
use Rattle.core_term.specs.declared.term.Node.{Node}
use Rattle.core_term.specs.declared.term.Term.{Row_of-Node, end_of-Node, more_of-Node, items-the_row-Node, items_hidden-the_row-Node-0}
use Rattle.core_term.specs.declared.term.Term.TheBlock.{hidden-the_row-Node-0}
use Rattle.core_term.specs.declared.term.Term.TheVariants.{Call}
use Rattle.kept_state.specs.KeptBytes.{short_bytes, list_bytes, whole_items, prefix_bytes, rest_bytes, value_bytes, expr_bytes}
use Rattle.kept_state.proofs.SpelledParts.{bytes-list_of}
use Rattle.delta_keep.specs.declared.kept.Argument.{Argument}
use Rattle.delta_keep.specs.declared.kept.KeptState.{KeptState, Row_of-Argument, end_of-Argument, more_of-Argument, items-the_row-Argument, items_hidden-the_row-Argument-0}
use Rattle.delta_keep.specs.declared.kept.KeptState.TheBlock.{hidden-the_row-Argument-0}
use Rattle.delta_keep.specs.declared.kept.KeptState.TheVariants.{Frame}
use Rattle.delta_keep.specs.Written.{written_term, written_nodes, nodes_of, written_node, written_state, written_arguments, arguments_in, written_argument}

-- a star's items, and what stands after them
pub whole-star_of : (ps : List StreamPrefix) (e : StarEnd) → whole_items (star_of ps (end_of e)) ≡ length ps
whole-star_of [] Emp = refl
whole-star_of [] Done = refl
whole-star_of [] (First' x p) = refl
whole-star_of (p ∷ ps) e = ap suc (whole-star_of ps e)

rest-star_of : (ps : List StreamPrefix) (e : StarEnd) → rest_bytes (star_of ps (end_of e)) ≡ concat (map prefix_bytes ps) ++ rest_bytes (end_of e)
rest-star_of [] e = refl
rest-star_of (p ∷ ps) e = ap (λ bs. prefix_bytes p ++ bs) (rest-star_of ps e) ∙ sym (append_assoc (prefix_bytes p) (concat (map prefix_bytes ps)) (rest_bytes (end_of e)))

-- the bytes of a star's prefix
bytes-star_of : (ps : List StreamPrefix) (e : StarEnd) → prefix_bytes (star_of ps (end_of e)) ≡ 11 ∷ list_bytes prefix_bytes ps ++ rest_bytes (end_of e)
bytes-star_of [] Emp = refl
bytes-star_of [] Done = refl
bytes-star_of [] (First' x p) = refl
bytes-star_of (p ∷ ps) e = ap₂ (λ n bs. 11 ∷ short_bytes n ++ bs) (whole-star_of (p ∷ ps) e) (rest-star_of (p ∷ ps) e) ∙ ap (λ bs. 11 ∷ bs) (sym (append_assoc (short_bytes (length (p ∷ ps))) (concat (map prefix_bytes (p ∷ ps))) (rest_bytes (end_of e))))

pub star_bytes : (v : Vec Prefix Global) (e : StarEnd) → prefix_bytes (prefix_of (Star v e)) ≡ 11 ∷ list_bytes prefix_bytes (map prefix_of v.items) ++ rest_bytes (end_of e)
star_bytes v e = ap prefix_bytes (prefix_of-star v e) ∙ bytes-star_of (map prefix_of v.items) e

pub list_value_bytes : (v : Vec Value Global) → value_bytes (hist_value_of (ListValue v)) ≡ 5 ∷ list_bytes value_bytes (map hist_value_of v.items)
list_value_bytes v =
    ap (λ vs. value_bytes (list_of vs)) (row_of-list _ (hidden-the_row-Value-0 v) ∙ ap (map hist_value_of) (items_hidden-the_row-Value-0 v))
    ∙ bytes-list_of (map hist_value_of v.items)

-- a row of nodes
nodes-list : (m : Count) (k : Row_of-Node m) → written_nodes k ≡ concat (map written_node (items-the_row-Node m k))
nodes-list m end_of-Node = refl
nodes-list m (more_of-Node i a k) = ap (λ bs. (short_bytes i ++ written_term a) ++ bs) (nodes-list _ k)

pub count-nodes : (m : Count) (k : Row_of-Node m) → nodes_of k ≡ length (items-the_row-Node m k)
count-nodes m end_of-Node = refl
count-nodes m (more_of-Node i a k) = ap suc (count-nodes _ k)

pub call_bytes : (f : ℕ) (ms : Vec Expr Global) (es : Vec Node Global) → written_term (Call f ms es) ≡ 16 ∷ short_bytes f ++ (list_bytes expr_bytes (map expr_of ms.items) ++ list_bytes written_node es.items)
call_bytes f ms es =
    ap₂ (λ n bs. 16 ∷ short_bytes f ++ (list_bytes expr_bytes (map expr_of ms.items) ++ (short_bytes n ++ bs)))
    (count-nodes _ (hidden-the_row-Node-0 es) ∙ ap length (items_hidden-the_row-Node-0 es)) (nodes-list _ (hidden-the_row-Node-0 es) ∙ ap (λ ns. concat (map written_node ns)) (items_hidden-the_row-Node-0 es))

-- a row of arguments
arguments-list : (m : Count) (k : Row_of-Argument m) → written_arguments k ≡ concat (map written_argument (items-the_row-Argument m k))
arguments-list m end_of-Argument = refl
arguments-list m (more_of-Argument x t p s k) = cc (arguments-list _ k)

pub count-arguments : (m : Count) (k : Row_of-Argument m) → arguments_in k ≡ length (items-the_row-Argument m k)
count-arguments m end_of-Argument = refl
count-arguments m (more_of-Argument x t p s k) = ap suc (count-arguments _ k)

-- the bytes of a frame's arguments
pub arguments_bytes_are : (v : Vec Argument Global) → short_bytes (arguments_in (hidden-the_row-Argument-0 v)) ++ written_arguments (hidden-the_row-Argument-0 v) ≡ list_bytes written_argument v.items
arguments_bytes_are v =
    ap₂ (λ n bs. short_bytes n ++ bs)
    (count-arguments _ (hidden-the_row-Argument-0 v) ∙ ap length (items_hidden-the_row-Argument-0 v)) (arguments-list _ (hidden-the_row-Argument-0 v) ∙ ap (λ ns. concat (map written_argument ns)) (items_hidden-the_row-Argument-0 v))

-- a frame's bytes
pub frame_bytes : (args : Vec Argument Global) (s : Box KeptState Global) → written_state (Frame args s) ≡ 10 ∷ list_bytes written_argument args.items ++ written_state s.value
frame_bytes args s = ap (λ bs. 10 ∷ bs ++ written_state s.value) (arguments_bytes_are args)
