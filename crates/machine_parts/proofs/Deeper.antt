-- Where a part has a call at a level that is too great, so has the whole.
use Rattle.std.proofs.Common.{◌≡◌, ℕ, ◌-◌, ◌<◌, ◌≤◌, max, Bool, true, false, true≢false, ◌||◌, sym, subst, arith}
use Rattle.stream_prefix.specs.StreamPrefix.{is_maximal}
use Rattle.core_term.specs.Run.{Run, Runs, deeper, cat_run, cat_run_at, let_run, frame_run, call_run}
use Rattle.machine_parts.specs.Levels.{below}

deeper_below : (still : Bool) (n m : ℕ) → below still n < m → n < deeper still m
deeper_below true n m h = h
deeper_below false n m h = omega (arith, h)

greater_right : (n m l : ℕ) → n < l → n < max m l
greater_right n m l h = omega (arith, h)

greater_last : (n m l : ℕ) → n < l → n < max 1 (max m l)
greater_last n m l h = omega (arith, h)

-- the head of a let, and what follows it
pub let_deep_head : (is_name : Bool) (a b : Run) (n m : ℕ) → m ≡ n - 1 → m < a.level → n < (let_run is_name a b).level
let_deep_head is_name a b n m e h = omega (arith, e, h)

pub let_deep_body : (is_name : Bool) (a x b : Run) (n m : ℕ) → a ≡ x → m ≡ below (is_name || is_maximal a.out) n → m < b.level → n < (let_run is_name x b).level
let_deep_body is_name a x b n m e f h =
    subst (λ (z : Run). n < (let_run is_name z b).level) e
    (greater_right n _ _ (deeper_below (is_name || is_maximal a.out) n b.level (subst (λ (k : ℕ). k < b.level) f h)))

-- the arguments of a frame, and its body
pub frame_deep_arguments : (as' : Runs) (b : Run) (n m : ℕ) → m ≡ n - 1 → m < as'.level → n < (frame_run as' b).level
frame_deep_arguments as' b n m e h = omega (arith, e, h)

pub frame_deep_body : (as' xs : Runs) (b : Run) (n m : ℕ) → as' ≡ xs → m ≡ below as'.are_shut n → m < b.level → n < (frame_run xs b).level
frame_deep_body as' xs b n m e f h =
    subst (λ (z : Runs). n < (frame_run z b).level) e
    (greater_right n _ _ (deeper_below as'.are_shut n b.level (subst (λ (k : ℕ). k < b.level) f h)))

-- those of a call
pub call_deep_arguments : (as' : Runs) (b : Run) (n m : ℕ) → m ≡ n - 1 → m < as'.level → n < (call_run as' b).level
call_deep_arguments as' b n m e h = omega (arith, e, h)

pub call_deep_body : (as' xs : Runs) (b : Run) (n m : ℕ) → as' ≡ xs → m ≡ below as'.are_shut n → m < b.level → n < (call_run xs b).level
call_deep_body as' xs b n m e f h =
    subst (λ (z : Runs). n < (call_run z b).level) e
    (greater_last n _ _ (deeper_below as'.are_shut n b.level (subst (λ (k : ℕ). k < b.level) f h)))

-- the first of two, and the second, once the first is whole
pub cat_deep_first : (x y : Run) (n : ℕ) → n < x.level → n < (cat_run x y).level
cat_deep_first x y n h = go (is_maximal x.out)
  where
    go : (w : Bool) → n < (cat_run_at w x y).level
    go true = omega (arith, h)
    go false = h

pub cat_deep_second : (a x y : Run) (n : ℕ) → a ≡ x → is_maximal a.out ≡ true → n < y.level → n < (cat_run x y).level
cat_deep_second a x y n e m h = subst (λ (z : Run). n < (cat_run z y).level) e (go (is_maximal a.out) m)
  where
    go : (w : Bool) → w ≡ true → n < (cat_run_at w a y).level
    go true q = omega (arith, h)
    go false q = absurd (true≢false (sym q))

-- where no part has a call at a level that is too great, neither has the whole
deeper_within : (still : Bool) (n m : ℕ) → m ≤ below still n → deeper still m ≤ n
deeper_within true n m h = h
deeper_within false n m h = omega (arith, h)

both_within : (n x y : ℕ) → x ≤ n → y ≤ n → max x y ≤ n
both_within n x y h k = omega (arith, h, k)

pub let_within : (is_name : Bool) (r a b : Run) (n m l : ℕ) → r ≡ let_run is_name a b → m ≡ n - 1 → l ≡ below (is_name || is_maximal a.out) n → a.level ≤ m → b.level ≤ l → r.level ≤ n
let_within is_name r a b n m l e f g h k =
    let one = deeper_within false n a.level (subst (λ (x : ℕ). a.level ≤ x) f h) in
    let two = deeper_within (is_name || is_maximal a.out) n b.level (subst (λ (x : ℕ). b.level ≤ x) g k) in
    subst (λ (z : Run). z.level ≤ n) (sym e) (both_within n _ _ one two)

pub frame_within : (as' : Runs) (r b : Run) (n m l : ℕ) → r ≡ frame_run as' b → m ≡ n - 1 → l ≡ below as'.are_shut n → as'.level ≤ m → b.level ≤ l → r.level ≤ n
frame_within as' r b n m l e f g h k =
    let one = deeper_within false n as'.level (subst (λ (x : ℕ). as'.level ≤ x) f h) in
    let two = deeper_within as'.are_shut n b.level (subst (λ (x : ℕ). b.level ≤ x) g k) in
    subst (λ (z : Run). z.level ≤ n) (sym e) (both_within n _ _ one two)

pub call_within : (as' : Runs) (r b : Run) (n m l : ℕ) → r ≡ call_run as' b → 0 < n → m ≡ n - 1 → l ≡ below as'.are_shut n → as'.level ≤ m → b.level ≤ l → r.level ≤ n
call_within as' r b n m l e p f g h k =
    let one = deeper_within false n as'.level (subst (λ (x : ℕ). as'.level ≤ x) f h) in
    let two = deeper_within as'.are_shut n b.level (subst (λ (x : ℕ). b.level ≤ x) g k) in
    subst (λ (z : Run). z.level ≤ n) (sym e) (both_within n 1 _ p (both_within n _ _ one two))

-- for functions over lets, frames, calls, and one after the other
pub ruleset let_deep = (let_deep_head, let_deep_body)

pub ruleset frame_deep = (frame_deep_arguments, frame_deep_body)

pub ruleset call_deep = (call_deep_arguments, call_deep_body)

pub ruleset turn_deep = (cat_deep_first, cat_deep_second)
