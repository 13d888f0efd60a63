-- Where the depths of what is left of a form come from, if those of its parts come from some depths.
use Rattle.std.proofs.Common.{◌≡◌, ℕ, ◌+◌, ◌≤◌, Bool, true, false, List, [], ◌∷◌, ◌++◌, if◌then◌else◌, arith}
use Rattle.std.specs.List.{All}
use Rattle.std.proofs.lemmas.List.Elements.{All-nil, All-cons, All-append, All-weaker}
use Rattle.stream_type.specs.StreamType.{StreamType}
use Rattle.stream_prefix.specs.StreamPrefix.{StreamPrefix, cat_both, in_left, in_right, star_emp, star_done, star_first, star_rest, is_maximal}
use Rattle.bunch.specs.Names.{holds}
use Rattle.core_term.specs.Run.{Run, cat_run, cat_run_at, sum_run, star_run, wait_run}
use Rattle.delta_state.specs.StateTree.{LaterTree, StateTree, laters_of}
use Rattle.delta_state.specs.Rest.{cut_state, sum_rest, star_rest_state}
use Rattle.other_depths.specs.Suits.{ComesFrom}

module _ (depths : List ℕ) where
  -- the depth of each code comes from these, with some of n calls
  abbrev pub AllFrom : ℕ → List LaterTree → Type 0
  AllFrom n ls = All (λ l. ComesFrom depths n l.depth) ls

  -- no code
  pub none_from : (n : ℕ) → AllFrom n []
  none_from n = All-nil (λ l. ComesFrom depths n l.depth)

  -- where more calls are made
  pub more_from : (n m : ℕ) → n ≤ m → (ls : List LaterTree) → AllFrom n ls → AllFrom m ls
  more_from n m le ls h =
      All-weaker (λ l. ComesFrom depths n l.depth) (λ l. ComesFrom depths m l.depth)
      (λ l w. record { before = w.before; is_there = w.is_there; steps = w.steps; in_calls = omega (arith, w.in_calls); is_less = w.is_less }) ls h

  -- of two parts, each with calls of its own
  pub both_from : (n m : ℕ) (xs ys : List LaterTree) → AllFrom n xs → AllFrom m ys → AllFrom (n + m) (xs ++ ys)
  both_from n m xs ys h k =
      All-append (λ l. ComesFrom depths (n + m) l.depth) xs ys (more_from n (n + m) (omega arith) xs h) (more_from m (n + m) (omega arith) ys k)

  -- code that stays as it is
  pub kept_from : (n k : ℕ) → holds k depths ≡ true → ComesFrom depths n k
  kept_from n k there = record { before = k; is_there = there; steps = 0; in_calls = omega arith; is_less = omega arith }

  pub last_from : (n : ℕ) (xs : List LaterTree) (l : LaterTree) → AllFrom n xs → holds l.depth depths ≡ true → AllFrom n (xs ++ (l ∷ []))
  last_from n xs l h there =
      All-append (λ l. ComesFrom depths n l.depth) xs (l ∷ []) h (All-cons (λ l. ComesFrom depths n l.depth) l [] (kept_from n l.depth there) (none_from n))

  pub one_from : (n : ℕ) (l : LaterTree) → holds l.depth depths ≡ true → AllFrom n (l ∷ [])
  one_from n l there = last_from n [] l (none_from n) there

  pub two_from : (n : ℕ) (l m : LaterTree) → holds l.depth depths ≡ true → holds m.depth depths ≡ true → AllFrom n (l ∷ (m ∷ []))
  two_from n l m there other = last_from n (l ∷ []) m (one_from n l there) other

  -- of a part that is whole what is left of the second, and else what waits
  pub cat_from : (a b : Run) (s t : StateTree) → AllFrom b.calls (laters_of s) → AllFrom a.calls (laters_of t) → AllFrom (cat_run a b).calls (laters_of (if is_maximal a.out then s else t))
  cat_from a b s t h k = go (is_maximal a.out)
    where
      go : (w : Bool) → AllFrom (cat_run_at w a b).calls (laters_of (if w then s else t))
      go true = more_from b.calls (a.calls + b.calls) (omega arith) (laters_of s) h
      go false = k

  -- what follows a wait
  pub wait_from : (r : StreamType) (w : Bool) (a : Run) (s t : StateTree) → AllFrom a.calls (laters_of s) → AllFrom 0 (laters_of t) → AllFrom (wait_run r w a).calls (laters_of (if w then s else t))
  wait_from r true a s t h k = h
  wait_from r false a s t h k = k

  -- a destructuring of a sequence
  pub cut_from : (n x y z : ℕ) (s : StreamType) (p : StreamPrefix) (a : StateTree) → AllFrom n (laters_of a) → AllFrom n (laters_of (cut_state x y z s p a))
  cut_from n x y z s (cat_both u v) a h = h
  cut_from n x y z s _ a h = h

  -- a case on a sum
  pub sum_from : (z x y : ℕ) (s r : StreamType) (p : StreamPrefix) (a b : StreamPrefix → Run) (w : StateTree) (i j : StreamPrefix → StateTree) → AllFrom 0 (laters_of w)
      → ((u : StreamPrefix) → AllFrom (a u).calls (laters_of (i u))) → ((u : StreamPrefix) → AllFrom (b u).calls (laters_of (j u))) → AllFrom (sum_run r p a b).calls (laters_of (sum_rest z x y s p w i j))
  sum_from z x y s r (in_left u) a b w i j h f k = f u
  sum_from z x y s r (in_right u) a b w i j h f k = k u
  sum_from z x y s r _ a b w i j h f k = h

  -- a case on a star
  pub star_from : (z y ys : ℕ) (s r : StreamType) (p : StreamPrefix) (a : Run) (b : StreamPrefix → StreamPrefix → Run) (w i : StateTree) (j : StreamPrefix → StreamPrefix → StateTree) → AllFrom 0 (laters_of w)
      → AllFrom a.calls (laters_of i) → ((u v : StreamPrefix) → AllFrom (b u v).calls (laters_of (j u v))) → AllFrom (star_run r p a b).calls (laters_of (star_rest_state z y ys s p w i j))
  star_from z y ys s r star_done a b w i j h f k = f
  star_from z y ys s r (star_first u) a b w i j h f k = k u star_emp
  star_from z y ys s r (star_rest u v) a b w i j h f k = k u v
  star_from z y ys s r _ a b w i j h f k = h
