-- What an evaluation gives, and how the runs of the parts of a form make that of the whole.
--
-- A run has the level of its calls from below: 0 where no call is made, and else one more than the
-- greatest level at which a call is made, counted from the part's own level. `Level.antt` says what
-- levels are, from above.
use Rattle.std.specs.Prelude.{ℕ, ◌+◌, max, min, Bool, true, false, ◌&&◌, ◌||◌, if◌then◌else◌, List, [], ◌∷◌}
use Rattle.stream_type.specs.StreamType.{StreamType}
use Rattle.stream_prefix.specs.StreamPrefix.{StreamPrefix, par_both, cat_fst, cat_both, in_left, in_right, star_emp, star_done, star_first, star_rest, emp, is_maximal}

-- what a term gives: its prefix, the number of calls made, and their level
pub record Run : Type 0 where
  pub out : StreamPrefix
  pub calls : ℕ
  pub level : ℕ

-- what the arguments of a call give: their prefixes, the calls made, their level, and whether each
-- argument is a name or whole
pub record Runs : Type 0 where
  pub outs : List StreamPrefix
  pub calls : ℕ
  pub level : ℕ
  pub are_shut : Bool

-- the level of a part that stands one deeper, unless it stands still
abbrev pub deeper : Bool → ℕ → ℕ
deeper still level = if still then level else level + min level 1

-- a prefix without a call
abbrev pub quiet : StreamPrefix → Run
quiet p = record { out = p; calls = 0; level = 0 }

-- the same run with another prefix
abbrev pub relabel : (StreamPrefix → StreamPrefix) → Run → Run
relabel f a = record { out = f a.out; calls = a.calls; level = a.level }

-- both at once
abbrev pub par_run : Run → Run → Run
par_run a b = record { out = par_both a.out b.out; calls = a.calls + b.calls; level = max a.level b.level }

-- one after the other: the second runs once the first is whole
abbrev pub cat_run_at : Bool → Run → Run → Run
cat_run_at whole a b = if whole then record { out = cat_both a.out b.out; calls = a.calls + b.calls; level = max a.level b.level } else relabel cat_fst a

abbrev pub cat_run : Run → Run → Run
cat_run a b = cat_run_at (is_maximal a.out) a b

-- b with a bound: a stands one deeper, and b does where a is no name and isn't whole
abbrev pub let_run : Bool → Run → Run → Run
let_run is_name a b =
    record { out = b.out; calls = a.calls + b.calls; level = max (deeper false a.level) (deeper (is_name || is_maximal a.out) b.level) }

-- by the side of a prefix of a sum, the branch with what stands on it; r is the result's type
abbrev pub sum_run : StreamType → StreamPrefix → (StreamPrefix → Run) → (StreamPrefix → Run) → Run
sum_run r (in_left p) a b = a p
sum_run r (in_right p) a b = b p
sum_run r _ a b = quiet (emp r)

-- by the first mark of a prefix of a star, the branch of its end, or that of an item with what came of
-- the item and of the rest
abbrev pub star_run : StreamType → StreamPrefix → Run → (StreamPrefix → StreamPrefix → Run) → Run
star_run r star_done a b = a
star_run r (star_first p) a b = b p star_emp
star_run r (star_rest p q) a b = b p q
star_run r _ a b = quiet (emp r)

-- what follows a wait, once its subject is whole
abbrev pub wait_run : StreamType → Bool → Run → Run
wait_run r whole a = if whole then a else quiet (emp r)

-- no arguments
abbrev pub no_runs : Runs
no_runs = record { outs = []; calls = 0; level = 0; are_shut = true }

-- one more argument in front of others
abbrev pub run_before : Bool → Run → Runs → Runs
run_before is_name a as' =
    record { outs = a.out ∷ as'.outs; calls = a.calls + as'.calls; level = max a.level as'.level; are_shut = (is_name || is_maximal a.out) && as'.are_shut }

-- a body on its arguments: they stand one deeper, and it does where one is no name and isn't whole
abbrev pub frame_run : Runs → Run → Run
frame_run as' b =
    record { out = b.out; calls = as'.calls + b.calls; level = max (deeper false as'.level) (deeper as'.are_shut b.level) }

-- a call, which b, the run of the body, counts
abbrev pub call_run : Runs → Run → Run
call_run as' b =
    record { out = b.out; calls = as'.calls + b.calls; level = max 1 (max (deeper false as'.level) (deeper as'.are_shut b.level)) }

-- one call more
abbrev pub one_call : Run → Run
one_call a = record { out = a.out; calls = 1 + a.calls; level = a.level }
