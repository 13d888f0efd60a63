-- Runs with other numbers, and what they ask: how those of the parts of a form make those of the whole.
use Rattle.std.proofs.Common.{◌≡◌, ◌∙◌, ℤ, ◌+◌, max, ◌&&◌, ◌||◌, Bool, true, false, List, [], ◌∷◌, ◌++◌, map, ap, ap₂, refl, sym, subst}
use Rattle.std.proofs.lemmas.List.{map-append}
use Rattle.stream_type.specs.StreamType.{StreamType}
use Rattle.stream_prefix.specs.StreamPrefix.{StreamPrefix, in_left, in_right, star_emp, star_done, star_first, star_rest, emp, is_maximal, cat_fst}
use Rattle.hist_value.specs.HistExpr.{HistExpr}
use Rattle.core_term.specs.Run.{Run, Runs, deeper, quiet, relabel, par_run, cat_run, cat_run_at, let_run, sum_run, star_run, wait_run, no_runs, run_before, frame_run, call_run, one_call}
use Rattle.core_term.specs.Meaning.{Past}
use Rattle.other_numbers.specs.Numbers.{exchanged, exchanged_run, exchanged_runs, exchanged_past}
use Rattle.other_numbers.specs.Asked.{Asked, asked_each, once_whole, sum_asked, star_asked}
use Rattle.other_numbers.specs.Commutes.{exchanged_asked, AllCommute}
use Rattle.other_numbers.proofs.PrefixNumbers.{emp_stays, maximal_stays}

-- one list after another, where g makes each of another one
pub append_goes : {A : Type 0} (g : A → A) (xs ys xs' ys' : List A) → xs' ≡ map g xs → ys' ≡ map g ys → xs' ++ ys' ≡ map g (xs ++ ys)
append_goes g xs ys xs' ys' h k = ap₂ ◌++◌ h k ∙ sym (map-append g xs ys)

-- the same expressions at other values
pub each_goes : (f : ℤ → ℤ) (ms : List HistExpr) (p p' : Past) → p' ≡ exchanged_past f p → asked_each ms p' ≡ map (exchanged_asked f) (asked_each ms p)
each_goes f [] p p' e = refl
each_goes f (m ∷ ms) p p' e = ap₂ ◌∷◌ (ap (λ q. record { expr = m; past = q }) e) (each_goes f ms p p' e)

-- a second run is the first with the other numbers, and so is what it asks
pub record Goes (f : ℤ → ℤ) (a other : Run) (asks others : List Asked) : Type 0 where
  pub same_run : other ≡ exchanged_run f a
  pub same_asks : others ≡ map (exchanged_asked f) asks

-- so are the runs of arguments
pub record GoAll (f : ℤ → ℤ) (as' others : Runs) (asks other_asks : List Asked) : Type 0 where
  pub same_runs : others ≡ exchanged_runs f as'
  pub same_asks : other_asks ≡ map (exchanged_asked f) asks

module _ (f : ℤ → ℤ) where
  -- a prefix without a call
  pub quiet_goes : (p p' : StreamPrefix) → p' ≡ exchanged f p → Goes f (quiet p) (quiet p') [] []
  quiet_goes p p' e = record { same_run = ap quiet e; same_asks = refl }

  pub empty_goes : (s : StreamType) → Goes f (quiet (emp s)) (quiet (emp s)) [] []
  empty_goes s = quiet_goes (emp s) (emp s) (sym (emp_stays f s))

  -- the same run with another prefix
  pub relabel_goes : (g : StreamPrefix → StreamPrefix) → ((p : StreamPrefix) → g (exchanged f p) ≡ exchanged f (g p)) → {a a' : Run} {q q' : List Asked} → Goes f a a' q q' → Goes f (relabel g a) (relabel g a') q q'
  relabel_goes g h {a = a} x =
      record { same_run = ap (relabel g) x.same_run ∙ ap (λ p. record { out = p; calls = a.calls; level = a.level }) (h a.out); same_asks = x.same_asks }

  -- both at once
  pub par_goes : {a a' b b' : Run} {q q' o o' : List Asked} → Goes f a a' q q' → Goes f b b' o o' → Goes f (par_run a b) (par_run a' b') (q ++ o) (q' ++ o')
  par_goes {q = q} {q' = q'} {o = o} {o' = o'} x y =
      record { same_run = ap₂ par_run x.same_run y.same_run; same_asks = append_goes (exchanged_asked f) q o q' o' x.same_asks y.same_asks }

  -- a run is whole where the other one is
  pub whole_stays : {a a' : Run} {q q' : List Asked} → Goes f a a' q q' → is_maximal a'.out ≡ is_maximal a.out
  whole_stays {a = a} x = ap (λ r. is_maximal r.out) x.same_run ∙ maximal_stays f a.out

  -- one after the other: the second asks once the first is whole
  pub cat_goes : (a a' b b' : Run) (q q' o o' : List Asked) → Goes f a a' q q' → (AllCommute f o → Goes f b b' o o') → AllCommute f (once_whole (is_maximal a.out) o)
      → Goes f (cat_run a b) (cat_run a' b') (q ++ once_whole (is_maximal a.out) o) (q' ++ once_whole (is_maximal a'.out) o')
  cat_goes a a' b b' q q' o o' x k h =
      subst (λ w. Goes f (cat_run a b) (cat_run_at w a' b') (q ++ once_whole (is_maximal a.out) o) (q' ++ once_whole w o')) (sym (whole_stays x)) (go (is_maximal a.out) h)
    where
      go : (w : Bool) → AllCommute f (once_whole w o) → Goes f (cat_run_at w a b) (cat_run_at w a' b') (q ++ once_whole w o) (q' ++ once_whole w o')
      go true h = let y = k h in record { same_run = ap₂ (cat_run_at true) x.same_run y.same_run; same_asks = append_goes (exchanged_asked f) q o q' o' x.same_asks y.same_asks }
      go false h = record { same_run = ap (relabel cat_fst) x.same_run; same_asks = append_goes (exchanged_asked f) q [] q' [] x.same_asks refl }

  -- b with a bound
  pub let_goes : (n : Bool) {a a' b b' : Run} {q q' o o' : List Asked} → Goes f a a' q q' → Goes f b b' o o' → Goes f (let_run n a b) (let_run n a' b') (q ++ o) (q' ++ o')
  let_goes n {a = a} {b = b} {q = q} {q' = q'} {o = o} {o' = o'} x y = record {
    same_run =
        ap₂ (let_run n) x.same_run y.same_run
        ∙ ap (λ w. record { out = exchanged f b.out; calls = a.calls + b.calls; level = max (deeper false a.level) (deeper (n || w) b.level) }) (maximal_stays f a.out);
    same_asks = append_goes (exchanged_asked f) q o q' o' x.same_asks y.same_asks;
  }

  -- by the side of a prefix of a sum
  pub sum_goes : (r : StreamType) (p p' : StreamPrefix) → p' ≡ exchanged f p → (a a' b b' : StreamPrefix → Run) (q q' o o' : StreamPrefix → List Asked)
      → ((u : StreamPrefix) → AllCommute f (q u) → Goes f (a u) (a' (exchanged f u)) (q u) (q' (exchanged f u)))
      → ((u : StreamPrefix) → AllCommute f (o u) → Goes f (b u) (b' (exchanged f u)) (o u) (o' (exchanged f u)))
      → AllCommute f (sum_asked p q o) → Goes f (sum_run r p a b) (sum_run r p' a' b') (sum_asked p q o) (sum_asked p' q' o')
  sum_goes r p p' e a a' b b' q q' o o' ha hb h = subst (λ u. Goes f (sum_run r p a b) (sum_run r u a' b') (sum_asked p q o) (sum_asked u q' o')) (sym e) (go p h)
    where
      go : (p : StreamPrefix) → AllCommute f (sum_asked p q o) → Goes f (sum_run r p a b) (sum_run r (exchanged f p) a' b') (sum_asked p q o) (sum_asked (exchanged f p) q' o')
      go (in_left u) h = ha u h
      go (in_right u) h = hb u h
      go _ h = empty_goes r

  -- by the first mark of a prefix of a star
  pub star_goes : (r : StreamType) (p p' : StreamPrefix) → p' ≡ exchanged f p → (a a' : Run) (b b' : StreamPrefix → StreamPrefix → Run) (q q' : List Asked) (o o' : StreamPrefix → StreamPrefix → List Asked)
      → (AllCommute f q → Goes f a a' q q')
      → ((u v : StreamPrefix) → AllCommute f (o u v) → Goes f (b u v) (b' (exchanged f u) (exchanged f v)) (o u v) (o' (exchanged f u) (exchanged f v)))
      → AllCommute f (star_asked p q o) → Goes f (star_run r p a b) (star_run r p' a' b') (star_asked p q o) (star_asked p' q' o')
  star_goes r p p' e a a' b b' q q' o o' ha hb h = subst (λ u. Goes f (star_run r p a b) (star_run r u a' b') (star_asked p q o) (star_asked u q' o')) (sym e) (go p h)
    where
      go : (p : StreamPrefix) → AllCommute f (star_asked p q o) → Goes f (star_run r p a b) (star_run r (exchanged f p) a' b') (star_asked p q o) (star_asked (exchanged f p) q' o')
      go star_done h = ha h
      go (star_first u) h = hb u star_emp h
      go (star_rest u v) h = hb u v h
      go _ h = empty_goes r

  -- what follows a wait
  pub wait_goes : (r : StreamType) (p p' : StreamPrefix) → p' ≡ exchanged f p → (a a' : Run) (q q' : List Asked) → (AllCommute f q → Goes f a a' q q') → AllCommute f (once_whole (is_maximal p) q)
      → Goes f (wait_run r (is_maximal p) a) (wait_run r (is_maximal p') a') (once_whole (is_maximal p) q) (once_whole (is_maximal p') q')
  wait_goes r p p' e a a' q q' k h =
      subst (λ w. Goes f (wait_run r (is_maximal p) a) (wait_run r w a') (once_whole (is_maximal p) q) (once_whole w q')) (sym (ap is_maximal e ∙ maximal_stays f p)) (go (is_maximal p) h)
    where
      go : (w : Bool) → AllCommute f (once_whole w q) → Goes f (wait_run r w a) (wait_run r w a') (once_whole w q) (once_whole w q')
      go true h = k h
      go false h = empty_goes r

  pub no_runs_go : GoAll f no_runs no_runs [] []
  no_runs_go = record { same_runs = refl; same_asks = refl }

  -- one more argument in front of others
  pub before_goes : (n : Bool) {a a' : Run} {b b' : Runs} {q q' o o' : List Asked} → Goes f a a' q q' → GoAll f b b' o o' → GoAll f (run_before n a b) (run_before n a' b') (q ++ o) (q' ++ o')
  before_goes n {a = a} {b = b} {q = q} {q' = q'} {o = o} {o' = o'} x y = record {
    same_runs =
        ap₂ (run_before n) x.same_run y.same_runs
        ∙ ap (λ w. record { outs = exchanged f a.out ∷ map (exchanged f) b.outs; calls = a.calls + b.calls; level = max a.level b.level; are_shut = (n || w) && b.are_shut }) (maximal_stays f a.out);
    same_asks = append_goes (exchanged_asked f) q o q' o' x.same_asks y.same_asks;
  }

  -- a body on its arguments
  pub frame_goes : {a a' : Runs} {b b' : Run} {q q' o o' : List Asked} → GoAll f a a' q q' → Goes f b b' o o' → Goes f (frame_run a b) (frame_run a' b') (q ++ o) (q' ++ o')
  frame_goes {q = q} {q' = q'} {o = o} {o' = o'} x y =
      record { same_run = ap₂ frame_run x.same_runs y.same_run; same_asks = append_goes (exchanged_asked f) q o q' o' x.same_asks y.same_asks }

  -- a call
  pub call_goes : {a a' : Runs} {b b' : Run} {q q' o o' : List Asked} → GoAll f a a' q q' → Goes f b b' o o' → Goes f (call_run a b) (call_run a' b') (q ++ o) (q' ++ o')
  call_goes {q = q} {q' = q'} {o = o} {o' = o'} x y =
      record { same_run = ap₂ call_run x.same_runs y.same_run; same_asks = append_goes (exchanged_asked f) q o q' o' x.same_asks y.same_asks }

  -- one call more
  pub one_call_goes : {a a' : Run} {q q' : List Asked} → Goes f a a' q q' → Goes f (one_call a) (one_call a') q q'
  one_call_goes x = record { same_run = ap one_call x.same_run; same_asks = x.same_asks }
