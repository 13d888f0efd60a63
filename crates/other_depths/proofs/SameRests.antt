-- What is left of a form at other depths, where what is left of its parts is the same at these where they make few
-- calls.
use Rattle.std.proofs.Common.{◌≡◌, ◌∙◌, ℕ, ◌≤◌, Bool, true, false, if◌then◌else◌, arith, ap, refl}
use Rattle.stream_type.specs.StreamType.{StreamType}
use Rattle.stream_prefix.specs.StreamPrefix.{StreamPrefix, cat_both, in_left, in_right, star_emp, star_done, star_first, star_rest, is_maximal, der}
use Rattle.core_term.specs.Parts.{sum_left, sum_right, star_item}
use Rattle.core_term.specs.Run.{Run, cat_run, cat_run_at, sum_run, star_run, wait_run}
use Rattle.delta_state.specs.StateTree.{StateTree, sink, var_state, let_state, let_cat_state}
use Rattle.delta_state.specs.Rest.{cut_state, sum_rest, star_rest_state}
use Rattle.other_depths.specs.Depths.{deepened}

-- where a run makes at most n calls, another state is this one at g's depths
pub record SameRest (g : ℕ → ℕ) (n : ℕ) (a : Run) (s other : StateTree) : Type 0 where
  pub same : a.calls ≤ n → other ≡ deepened g s

module _ (g : ℕ → ℕ) (n : ℕ) where
  -- of a part that is whole what is left of the second, and else what waits
  pub cat_rest_same : (a a' b : Run) → a' ≡ a → (cat_run a b).calls ≤ n → (s s' t t' : StateTree) → SameRest g n b s s' → t' ≡ deepened g t
      → (if is_maximal a'.out then s' else t') ≡ deepened g (if is_maximal a.out then s else t)
  cat_rest_same a a' b e h s s' t t' x y = ap (λ (c : Run). if is_maximal c.out then s' else t') e ∙ go (is_maximal a.out) h
    where
      go : (w : Bool) → (cat_run_at w a b).calls ≤ n → (if w then s' else t') ≡ deepened g (if w then s else t)
      go true h = x.same (omega (arith, h))
      go false h = y

  -- what follows a wait
  pub wait_rest_same : (r : StreamType) (w : Bool) (a : Run) → (wait_run r w a).calls ≤ n → (s s' t t' : StateTree) → SameRest g n a s s' → t' ≡ deepened g t
      → (if w then s' else t') ≡ deepened g (if w then s else t)
  wait_rest_same r true a h s s' t t' x y = x.same h
  wait_rest_same r false a h s s' t t' x y = y

  -- a destructuring of a sequence
  pub cut_same : (x y z : ℕ) (s : StreamType) (p : StreamPrefix) (a a' : StateTree) → a' ≡ deepened g a → cut_state x y z s p a' ≡ deepened g (cut_state x y z s p a)
  cut_same x y z s p a a' e = ap (cut_state x y z s p) e ∙ go p
    where
      go : (p : StreamPrefix) → cut_state x y z s p (deepened g a) ≡ deepened g (cut_state x y z s p a)
      go (cat_both u v) = refl
      go _ = refl

  -- a case on a sum
  pub sum_rest_same : (z x y : ℕ) (s r : StreamType) (p : StreamPrefix) (a b : StreamPrefix → Run) → (sum_run r p a b).calls ≤ n
      → (w w' : StateTree) (i i' j j' : StreamPrefix → StateTree) → w' ≡ deepened g w → ((u : StreamPrefix) → SameRest g n (a u) (i u) (i' u)) → ((u : StreamPrefix) → SameRest g n (b u) (j u) (j' u))
      → sum_rest z x y s p w' i' j' ≡ deepened g (sum_rest z x y s p w i j)
  sum_rest_same z x y s r (in_left u) a b h w w' i i' j j' e f k = ap (let_state x (der u (sum_left s)) (var_state z)) ((f u).same h)
  sum_rest_same z x y s r (in_right u) a b h w w' i i' j j' e f k = ap (let_state y (der u (sum_right s)) (var_state z)) ((k u).same h)
  sum_rest_same z x y s r _ a b h w w' i i' j j' e f k = e

  -- a case on a star
  pub star_rest_same : (z y ys : ℕ) (s r : StreamType) (p : StreamPrefix) (a : Run) (b : StreamPrefix → StreamPrefix → Run) → (star_run r p a b).calls ≤ n
      → (w w' i i' : StateTree) (j j' : StreamPrefix → StreamPrefix → StateTree) → w' ≡ deepened g w → SameRest g n a i i' → ((u v : StreamPrefix) → SameRest g n (b u v) (j u v) (j' u v))
      → star_rest_state z y ys s p w' i' j' ≡ deepened g (star_rest_state z y ys s p w i j)
  star_rest_same z y ys s r star_done a b h w w' i i' j j' e f k = f.same h
  star_rest_same z y ys s r (star_first u) a b h w w' i i' j j' e f k = ap (let_cat_state y ys z) ((k u star_emp).same h)
  star_rest_same z y ys s r (star_rest u v) a b h w w' i i' j j' e f k =
      ap (λ c. let_state y (der u (star_item s)) (sink (der u (star_item s))) (let_state ys (der v s) (var_state z) c)) ((k u v).same h)
  star_rest_same z y ys s r _ a b h w w' i i' j j' e f k = e
