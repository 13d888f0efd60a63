-- What is true of all code that isn't reached in a state is true of that in a simpler one.
use Rattle.std.proofs.Common.{◌≡◌, ℕ, Bool, true, false, true≢false, List, [], ◌∷◌, ◌++◌, if◌then◌else◌, eqb, sym}
use Rattle.std.specs.List.{All}
use Rattle.std.proofs.lemmas.List.Elements.{All-nil, All-append}
use Rattle.stream_type.specs.StreamType.{StreamType}
use Rattle.delta_state.specs.StateTree.{LaterTree, StateTree, ArgumentTrees, sink, var_state, no_arguments, argument_before, argument_at, laters_of, laters_in}
use Rattle.delta_state.proofs.WholeStates.{all_left, all_right}
use Rattle.state_rewriting.specs.Rewriting.{Replaced, ReplacedArgument, here, in_left, in_right, in_first, in_bound, in_let, in_let_par, in_let_cat, in_arguments, in_body, at_first, at_other, IsAlias, IsPair, alias_for, pair_for, are_plain, composed, without_argument, Rewritten, finished, unused, unused_pair, unused_row, unused_argument, alias, pair, renamed, frames, returned, row}

module _ (P : LaterTree → Type 0) where
  -- of two lists in a row the first may give way to another one,
  keep_left : (xs zs ys : List LaterTree) → (All P xs → All P zs) → All P (xs ++ ys) → All P (zs ++ ys)
  keep_left xs zs ys f k = All-append P zs ys (f (all_left P xs ys k)) (all_right P xs ys k)

  -- and so may the second
  keep_right : (xs ys zs : List LaterTree) → (All P ys → All P zs) → All P (xs ++ ys) → All P (xs ++ zs)
  keep_right xs ys zs f k = All-append P xs zs (all_left P xs ys k) (f (all_right P xs ys k))

  module _ (names : List ℕ) (R : StreamType → StateTree → StateTree → Type 0) (local : (r : StreamType) (a b : StateTree) → R r a b → All P (laters_of a) → All P (laters_of b)) where
    mutual
      -- the whole has no other code if a part has none once it is replaced
      pub replaced_laters : {r : StreamType} {a b : StateTree} → Replaced names R r a b → All P (laters_of a) → All P (laters_of b)
      replaced_laters (here {r = r} {a = a} {b = b} h) k = local r a b h k
      replaced_laters (in_left {a = a} {b = b} {e = e} h) k = keep_left (laters_of a) (laters_of b) (laters_of e) (replaced_laters h) k
      replaced_laters (in_right {a = a} {b = b} {e = e} h) k = keep_right (laters_of e) (laters_of a) (laters_of b) (replaced_laters h) k
      replaced_laters (in_first {a = a} {b = b} {l = l} h) k = keep_left (laters_of a) (laters_of b) (l ∷ []) (replaced_laters h) k
      replaced_laters (in_bound {a = a} {b = b} {e = e} h) k = keep_left (laters_of a) (laters_of b) (laters_of e) (replaced_laters h) k
      replaced_laters (in_let {a = a} {b = b} {e = e} n h) k = keep_right (laters_of e) (laters_of a) (laters_of b) (replaced_laters h) k
      replaced_laters (in_let_par n m o h) k = replaced_laters h k
      replaced_laters (in_let_cat n m o h) k = replaced_laters h k
      replaced_laters (in_arguments {args = args} {others = others} {a = a} h) k = keep_left (laters_in args) (laters_in others) (laters_of a) (replaced_laters_in h) k
      replaced_laters (in_body {args = args} {a = a} {b = b} n h) k = keep_right (laters_in args) (laters_of a) (laters_of b) (replaced_laters h) k

      -- nor have arguments
      replaced_laters_in : {args others : ArgumentTrees} → ReplacedArgument names R args others → All P (laters_in args) → All P (laters_in others)
      replaced_laters_in (at_first {a = a} {b = b} {args = args} h) k = keep_left (laters_of a) (laters_of b) (laters_in args) (replaced_laters h) k
      replaced_laters_in (at_other {a = a} {args = args} {others = others} h) k = keep_right (laters_of a) (laters_in args) (laters_in others) (replaced_laters_in h) k

  -- a name has no code,
  alias_laters : (y z : ℕ) (r : StreamType) (a b : StateTree) → IsAlias y z r a b → All P (laters_of a) → All P (laters_of b)
  alias_laters y z r a b alias_for k = k

  -- nor has the pair of two names
  pair_laters : (x y z : ℕ) (r : StreamType) (a b : StateTree) → IsPair x y z r a b → All P (laters_of a) → All P (laters_of b)
  pair_laters x y z r a b pair_for k = k

  -- fewer arguments have no other code,
  without_laters : (u : ℕ) (args : ArgumentTrees) → All P (laters_in args) → All P (laters_in (without_argument u args))
  without_laters u no_arguments k = k
  without_laters u (argument_before x t s args) k = go (eqb x u) (without_laters u args (all_right P (laters_of s) (laters_in args) k))
    where
      go : (b : Bool) → All P (laters_in (without_argument u args)) → All P (laters_in (if b then without_argument u args else argument_before x t s (without_argument u args)))
      go true h = h
      go false h = All-append P (laters_of s) (laters_in (without_argument u args)) (all_left P (laters_of s) (laters_in args) k) h

  -- nor has one of them
  argument_laters : (args : ArgumentTrees) (u : ℕ) → All P (laters_in args) → All P (laters_of (argument_at args u))
  argument_laters no_arguments u k = All-nil P
  argument_laters (argument_before x t s args) u k = go (eqb u x) (argument_laters args u (all_right P (laters_of s) (laters_in args) k))
    where
      go : (b : Bool) → All P (laters_of (argument_at args u)) → All P (laters_of (if b then s else argument_at args u))
      go true h = all_left P (laters_of s) (laters_in args) k
      go false h = h

  -- nor have composed ones
  composed_laters : (args inner : ArgumentTrees) → are_plain inner ≡ true → All P (laters_in args) → All P (laters_in (composed args inner))
  composed_laters args no_arguments p k = All-nil P
  composed_laters args (argument_before x t (sink q) inner) p k = composed_laters args inner p k
  composed_laters args (argument_before x t (var_state u) inner) p k = All-append P (laters_of (argument_at args u)) (laters_in (composed args inner)) (argument_laters args u k) (composed_laters args inner p k)
  composed_laters args (argument_before x t _ inner) p k = absurd (true≢false (sym p))

  -- and so no rewriting brings any in
  pub rewritten_laters : (r : StreamType) (a b : StateTree) → Rewritten r a b → All P (laters_of a) → All P (laters_of b)
  rewritten_laters r a b (finished n) k = All-nil P
  rewritten_laters r a b (unused {a = q} n) k = all_right P (laters_of q) (laters_of b) k
  rewritten_laters r a b (unused_pair n m) k = k
  rewritten_laters r a b (unused_row n m) k = k
  rewritten_laters r a b (unused_argument {args = args} {a = q} u n) k = keep_left (laters_in args) (laters_in (without_argument u args)) (laters_of q) (without_laters u args) k
  rewritten_laters r a b (alias {y = y} {z = z} h) k = replaced_laters (y ∷ z ∷ []) (IsAlias y z) (alias_laters y z) h k
  rewritten_laters r a b (pair {x = x} {y = y} {z = z} n m h) k = replaced_laters (x ∷ y ∷ z ∷ []) (IsPair x y z) (pair_laters x y z) h k
  rewritten_laters r a b renamed k = all_left P (laters_of b) [] k
  rewritten_laters r a b (row {l = l} e n m) k = all_left P (laters_of b) (l ∷ []) k
  rewritten_laters r a b (frames {args = args} {inner = inner} {a = q} p o) k =
      All-append P (laters_in (composed args inner)) (laters_of q) (composed_laters args inner p (all_left P (laters_in args) (laters_in inner ++ laters_of q) k))
      (all_right P (laters_in inner) (laters_of q) (all_right P (laters_in args) (laters_in inner ++ laters_of q) k))
  rewritten_laters r a b (returned {args = args} {u = u} m) k = argument_laters args u (all_left P (laters_in args) [] k)
