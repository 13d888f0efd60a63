-- Rewritings of parts are rewritings of the whole, any number of them. This is what code needs that rewrites a
-- state in place.
use Rattle.std.proofs.Common.{◌≡◌, ◌≢◌, ℕ, false, List, [], ◌∷◌, refl, subst}
use Rattle.stream_type.specs.StreamType.{StreamType}
use Rattle.bunch.specs.Names.{holds}
use Rattle.core_term.specs.Parts.{par_left, par_right, cat_first}
use Rattle.delta_state.specs.StateTree.{LaterTree, StateTree, ArgumentTrees, par_state, cat_state, let_state, let_par_state, let_cat_state, frame_state, argument_before, var_state}
use Rattle.state_rewriting.specs.Rewriting.{Replaced, in_left, in_right, in_first, in_bound, in_let, in_let_par, in_let_cat, in_arguments, in_body, at_first, at_other, ReplacedBy, as_it_is, one_more, ReplacedArgumentsBy, as_they_are, one_more_of, IsAlias, IsPair, here, alias, pair, SimplerBy}

module _ {names : List ℕ} {R : StreamType → StateTree → StateTree → Type 0} where
  -- no rewriting
  pub by_same : {r : StreamType} {a b : StateTree} → a ≡ b → ReplacedBy names R r a b
  by_same {r = r} {a = a} e = subst (λ q. ReplacedBy names R r a q) e as_it_is

  -- some after others
  pub by_then : {r : StreamType} {a b e : StateTree} → ReplacedBy names R r a b → ReplacedBy names R r b e → ReplacedBy names R r a e
  by_then h as_it_is = h
  by_then h (one_more k i) = one_more (by_then h k) i

  -- in the left side of a pair. The type of a side is kept as a variable while the rewritings are gone through
  pub by_left : {r : StreamType} {a b e : StateTree} → ReplacedBy names R (par_left r) a b → ReplacedBy names R r (par_state a e) (par_state b e)
  by_left {r = r} {e = e} h = go r refl h
    where
      go : {s : StreamType} {a b : StateTree} (q : StreamType) → s ≡ par_left q → ReplacedBy names R s a b → ReplacedBy names R q (par_state a e) (par_state b e)
      go q k as_it_is = as_it_is
      go q k (one_more {b = b} {e = c} i j) = one_more (go q k i) (in_left (subst (λ t. Replaced names R t b c) k j))

  -- in the right one
  pub by_right : {r : StreamType} {a b e : StateTree} → ReplacedBy names R (par_right r) a b → ReplacedBy names R r (par_state e a) (par_state e b)
  by_right {r = r} {e = e} h = go r refl h
    where
      go : {s : StreamType} {a b : StateTree} (q : StreamType) → s ≡ par_right q → ReplacedBy names R s a b → ReplacedBy names R q (par_state e a) (par_state e b)
      go q k as_it_is = as_it_is
      go q k (one_more {b = b} {e = c} i j) = one_more (go q k i) (in_right (subst (λ t. Replaced names R t b c) k j))

  -- in both
  pub by_par : {r : StreamType} {a b e f : StateTree} → ReplacedBy names R (par_left r) a b → ReplacedBy names R (par_right r) e f → ReplacedBy names R r (par_state a e) (par_state b f)
  by_par h k = by_then (by_left h) (by_right k)

  -- in the first part of a sequence
  pub by_cat : {r : StreamType} {a b : StateTree} {l : LaterTree} → ReplacedBy names R (cat_first r) a b → ReplacedBy names R r (cat_state a l) (cat_state b l)
  by_cat {r = r} {l = l} h = go r refl h
    where
      go : {s : StreamType} {a b : StateTree} (q : StreamType) → s ≡ cat_first q → ReplacedBy names R s a b → ReplacedBy names R q (cat_state a l) (cat_state b l)
      go q k as_it_is = as_it_is
      go q k (one_more {b = b} {e = c} i j) = one_more (go q k i) (in_first (subst (λ t. Replaced names R t b c) k j))

  -- in what a let binds
  pub by_bound : {r s : StreamType} {x : ℕ} {a b e : StateTree} → ReplacedBy names R s a b → ReplacedBy names R r (let_state x s a e) (let_state x s b e)
  by_bound as_it_is = as_it_is
  by_bound (one_more h i) = one_more (by_bound h) (in_bound i)

  -- in its body
  pub by_body_of : {r s : StreamType} {x : ℕ} {a b e : StateTree} → holds x names ≡ false → ReplacedBy names R r a b → ReplacedBy names R r (let_state x s e a) (let_state x s e b)
  by_body_of n as_it_is = as_it_is
  by_body_of n (one_more h i) = one_more (by_body_of n h) (in_let n i)

  -- in both
  pub by_let : {r s : StreamType} {x : ℕ} {a b e f : StateTree} → holds x names ≡ false → ReplacedBy names R s a b → ReplacedBy names R r e f → ReplacedBy names R r (let_state x s a e) (let_state x s b f)
  by_let n h k = by_then (by_bound h) (by_body_of n k)

  -- in the body of a destructuring of a pair
  pub by_let_par : {r : StreamType} {x y z : ℕ} {a b : StateTree} → holds x names ≡ false → holds y names ≡ false → holds z names ≡ false → ReplacedBy names R r a b → ReplacedBy names R r (let_par_state x y z a) (let_par_state x y z b)
  by_let_par n m o as_it_is = as_it_is
  by_let_par n m o (one_more h i) = one_more (by_let_par n m o h) (in_let_par n m o i)

  -- of a sequence
  pub by_let_cat : {r : StreamType} {x y z : ℕ} {a b : StateTree} → holds x names ≡ false → holds y names ≡ false → holds z names ≡ false → ReplacedBy names R r a b → ReplacedBy names R r (let_cat_state x y z a) (let_cat_state x y z b)
  by_let_cat n m o as_it_is = as_it_is
  by_let_cat n m o (one_more h i) = one_more (by_let_cat n m o h) (in_let_cat n m o i)

  -- in the arguments of a frame
  pub by_arguments : {r : StreamType} {args others : ArgumentTrees} {a : StateTree} → ReplacedArgumentsBy names R args others → ReplacedBy names R r (frame_state args a) (frame_state others a)
  by_arguments as_they_are = as_it_is
  by_arguments (one_more_of h i) = one_more (by_arguments h) (in_arguments i)

  -- in the body of a frame
  pub by_body : {r : StreamType} {args : ArgumentTrees} {a b : StateTree} → names ≡ [] → ReplacedBy names R r a b → ReplacedBy names R r (frame_state args a) (frame_state args b)
  by_body n as_it_is = as_it_is
  by_body n (one_more h i) = one_more (by_body n h) (in_body n i)

  -- in the first argument
  pub by_first : {x : ℕ} {t : StreamType} {a b : StateTree} {args : ArgumentTrees} → ReplacedBy names R t a b → ReplacedArgumentsBy names R (argument_before x t a args) (argument_before x t b args)
  by_first as_it_is = as_they_are
  by_first (one_more h i) = one_more_of (by_first h) (at_first i)

  -- in the others
  pub by_others : {x : ℕ} {t : StreamType} {a : StateTree} {args others : ArgumentTrees} → ReplacedArgumentsBy names R args others → ReplacedArgumentsBy names R (argument_before x t a args) (argument_before x t a others)
  by_others as_they_are = as_they_are
  by_others (one_more_of h i) = one_more_of (by_others h) (at_other i)

  -- some after others, of arguments
  all_then : {args others rest : ArgumentTrees} → ReplacedArgumentsBy names R args others → ReplacedArgumentsBy names R others rest → ReplacedArgumentsBy names R args rest
  all_then h as_they_are = h
  all_then h (one_more_of k i) = one_more_of (all_then h k) i

  -- in all arguments
  pub by_before : {x : ℕ} {t : StreamType} {a b : StateTree} {args others : ArgumentTrees} → ReplacedBy names R t a b → ReplacedArgumentsBy names R args others → ReplacedArgumentsBy names R (argument_before x t a args) (argument_before x t b others)
  by_before h k = all_then (by_first h) (by_others k)

-- an alias may be put in at some places, one after the other,
pub alias_by : {y z : ℕ} {s r : StreamType} {a b : StateTree} → ReplacedBy (y ∷ (z ∷ [])) (IsAlias y z) r a b → SimplerBy r (let_state y s (var_state z) a) (let_state y s (var_state z) b)
alias_by as_it_is = as_it_is
alias_by (one_more h i) = one_more (alias_by h) (here (alias i))

-- and the subject for pairs of its parts
pub pair_by : {x y z : ℕ} {r : StreamType} {a b : StateTree} → x ≢ y → y ≢ z → ReplacedBy (x ∷ (y ∷ (z ∷ []))) (IsPair x y z) r a b → SimplerBy r (let_par_state x y z a) (let_par_state x y z b)
pair_by n m as_it_is = as_it_is
pair_by n m (one_more h i) = one_more (pair_by n m h) (here (pair n m i))
