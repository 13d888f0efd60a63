-- Runs of parts that are the same where they make few calls: how those of a form are then.
use Rattle.std.proofs.Common.{◌≡◌, ◌∙◌, ℕ, ◌≤◌, Bool, true, false, arith, ap, refl}
use Rattle.stream_type.specs.StreamType.{StreamType}
use Rattle.stream_prefix.specs.StreamPrefix.{StreamPrefix, in_left, in_right, star_emp, star_done, star_first, star_rest, is_maximal}
use Rattle.core_term.specs.Run.{Run, cat_run, cat_run_at, sum_run, star_run, wait_run}
use Rattle.core_term.proofs.WholeRuns.{cat_calls_first}

-- where a run makes at most n calls, another one is the same
pub record Same (n : ℕ) (a other : Run) : Type 0 where
  pub same : a.calls ≤ n → other ≡ a

-- one part after the other: the second counts once the first is whole
pub cat_same : (n : ℕ) (a a' b b' : Run) → Same n a a' → Same n b b' → (cat_run a b).calls ≤ n → cat_run a' b' ≡ cat_run a b
cat_same n a a' b b' x y h = ap (λ c. cat_run c b') (x.same (cat_calls_first a b n h)) ∙ go (is_maximal a.out) h
  where
    go : (w : Bool) → (cat_run_at w a b).calls ≤ n → cat_run_at w a b' ≡ cat_run_at w a b
    go true h = ap (cat_run_at true a) (y.same (omega (arith, h)))
    go false h = refl

-- by the side of a prefix of a sum
pub sum_same : (n : ℕ) (r : StreamType) (p : StreamPrefix) (a a' b b' : StreamPrefix → Run) → ((u : StreamPrefix) → Same n (a u) (a' u)) → ((u : StreamPrefix) → Same n (b u) (b' u))
    → (sum_run r p a b).calls ≤ n → sum_run r p a' b' ≡ sum_run r p a b
sum_same n r (in_left u) a a' b b' x y h = (x u).same h
sum_same n r (in_right u) a a' b b' x y h = (y u).same h
sum_same n r _ a a' b b' x y h = refl

-- by the first mark of a prefix of a star
pub star_same : (n : ℕ) (r : StreamType) (p : StreamPrefix) (a a' : Run) (b b' : StreamPrefix → StreamPrefix → Run) → Same n a a' → ((u v : StreamPrefix) → Same n (b u v) (b' u v))
    → (star_run r p a b).calls ≤ n → star_run r p a' b' ≡ star_run r p a b
star_same n r star_done a a' b b' x y h = x.same h
star_same n r (star_first u) a a' b b' x y h = (y u star_emp).same h
star_same n r (star_rest u v) a a' b b' x y h = (y u v).same h
star_same n r _ a a' b b' x y h = refl

-- what follows a wait
pub wait_same : (n : ℕ) (r : StreamType) (w : Bool) (a a' : Run) → Same n a a' → (wait_run r w a).calls ≤ n → wait_run r w a' ≡ wait_run r w a
wait_same n r true a a' x h = x.same h
wait_same n r false a a' x h = refl
