-- What a form gives, by what its parts gave: one lemma for a form with one part, one for a form with two, and one for
-- a form whose part stops.
use Rattle.std.proofs.Common.{ℕ, ◌≡◌, ◌<◌, ◌≤◌, sym, ap, subst, IfOk, Ok, Err}
use Rattle.std.specs.Prelude.{Result}
use Rattle.stream_type.specs.declared.memory.Memory.{Memory as Refused}
use Rattle.core_term.specs.Run.{Run, Runs}
use Rattle.delta_state.specs.StateTree.{StateTree, ArgumentTrees}
use Rattle.machine_parts.specs.declared.stop.Stop.{Stop}
use Rattle.machine_parts.specs.declared.stop.Stop.TheVariants.{Memory, Spent, Deep}
use Rattle.delta_step.specs.declared.reached.Reached.{Reached}
use Rattle.delta_step.specs.declared.reached.Arguments.{Arguments}
use Rattle.delta_step.specs.Reached.{run_of, rest_of, runs_of, rests_of}
use Rattle.delta_step.specs.Gives.{Gives, GivesAll}

-- a step stops, and says of the run what is so
pub stopped : (stop : Stop) (x : Run) (s : StateTree) (n l : ℕ) → (stop ≡ Spent → n < x.calls) → (stop ≡ Deep → l < x.level) → Gives (Err stop) x s n l
stopped stop x s n l f g = record { run = tt; rest = tt; counted = tt; shallow = tt; spent = f; deep = g }

pub all_stopped : (stop : Stop) (x : Runs) (s : ArgumentTrees) (n l : ℕ) → (stop ≡ Spent → n < x.calls) → (stop ≡ Deep → l < x.level) → GivesAll (Err stop) x s n l
all_stopped stop x s n l f g = record { runs = tt; rests = tt; counted = tt; shallow = tt; spent = f; deep = g }

-- memory was refused
pub refused : (x : Run) (s : StateTree) (n l : ℕ) → Gives (Err Memory) x s n l
refused x s n l = stopped Memory x s n l (λ q. cc) (λ q. cc)

-- a step gives something
pub given : (a : Reached) (x : Run) (s : StateTree) (n l : ℕ) → run_of a ≡ x → rest_of a ≡ s → x.calls ≤ n → x.level ≤ l → Gives (Ok a) x s n l
given a x s n l e f h k =
    record {
      run = e;
      rest = f;
      counted = subst (λ (z : Run). z.calls ≤ n) (sym e) h;
      shallow = subst (λ (z : Run). z.level ≤ l) (sym e) k;
      spent = tt;
      deep = tt;
    }

-- what was given has as many calls as were left, and no greater level
pub few : (a : Reached) (x : Run) (s : StateTree) (n l : ℕ) → Gives (Ok a) x s n l → x.calls ≤ n
few a x s n l h = subst (λ (z : Run). z.calls ≤ n) h.run h.counted

pub low : (a : Reached) (x : Run) (s : StateTree) (n l : ℕ) → Gives (Ok a) x s n l → x.level ≤ l
low a x s n l h = subst (λ (z : Run). z.level ≤ l) h.run h.shallow

pub as_many : (a : Reached) (x : Run) (s : StateTree) (n l : ℕ) → Gives (Ok a) x s n l → a.calls ≡ x.calls
as_many a x s n l h = ap (λ (z : Run). z.calls) h.run

pub all_few : (a : Arguments) (x : Runs) (s : ArgumentTrees) (n l : ℕ) → GivesAll (Ok a) x s n l → x.calls ≤ n
all_few a x s n l h = subst (λ (z : Runs). z.calls ≤ n) h.runs h.counted

pub all_low : (a : Arguments) (x : Runs) (s : ArgumentTrees) (n l : ℕ) → GivesAll (Ok a) x s n l → x.level ≤ l
all_low a x s n l h = subst (λ (z : Runs). z.level ≤ l) h.runs h.shallow

pub all_as_many : (a : Arguments) (x : Runs) (s : ArgumentTrees) (n l : ℕ) → GivesAll (Ok a) x s n l → a.calls ≡ x.calls
all_as_many a x s n l h = ap (λ (z : Runs). z.calls) h.runs

-- a form with one part, which counts no call and lies no deeper
pub one_part : (f : Run → Run) (g : StateTree → StateTree) (inside : Result Reached Stop) (a : Reached) (whole : Result Reached Refused) (q : Result Reached Stop) (x : Run) (s : StateTree) (n l : ℕ)
    → inside ≡ Ok a
    → IfOk whole (λ b. run_of b ≡ f (run_of a))
    → IfOk whole (λ b. rest_of b ≡ g (rest_of a))
    → (f x).calls ≡ x.calls
    → (f x).level ≡ x.level
    → ((y : Run) (t : StateTree) (i j : ℕ) → IfOk whole (λ b. run_of b ≡ y) → IfOk whole (λ b. rest_of b ≡ t) → y.calls ≤ i → y.level ≤ j → Gives q y t i j)
    → Gives inside x s n l
    → Gives q (f x) (g s) n l
one_part f g inside a whole q x s n l is run rest same_calls same_level made h =
    let k = subst (λ (r : Result Reached Stop). Gives r x s n l) is h in
    made (f x) (g s) n l (subst (λ (z : Run). IfOk whole (λ b. run_of b ≡ f z)) k.run run) (subst (λ (z : StateTree). IfOk whole (λ b. rest_of b ≡ g z)) k.rest rest)
    (subst (λ (i : ℕ). i ≤ n) (sym same_calls) (few a x s n l k)) (subst (λ (i : ℕ). i ≤ l) (sym same_level) (low a x s n l k))

-- a form with two parts, of which the second gave b
pub two_parts : (f : Run → Run → Run) (g : StateTree → StateTree → StateTree) (one : Reached) (two : Result Reached Stop) (b : Reached) (whole : Result Reached Refused) (q : Result Reached Stop) (x y : Run) (s t : StateTree) (n m l i j : ℕ)
    → two ≡ Ok b
    → IfOk whole (λ r. run_of r ≡ f (run_of one) (run_of b))
    → IfOk whole (λ r. rest_of r ≡ g (rest_of one) (rest_of b))
    → (x.calls ≤ n → y.calls ≤ m → x.level ≤ i → y.level ≤ j → ((f x y).calls ≤ n) × ((f x y).level ≤ l))
    → ((z : Run) (u : StateTree) (i j : ℕ) → IfOk whole (λ r. run_of r ≡ z) → IfOk whole (λ r. rest_of r ≡ u) → z.calls ≤ i → z.level ≤ j → Gives q z u i j)
    → Gives (Ok one) x s n i
    → Gives two y t m j
    → Gives q (f x y) (g s t) n l
two_parts f g one two b whole q x y s t n m l i j is run rest fits made h k' =
    let k = subst (λ (r : Result Reached Stop). Gives r y t m j) is k' in
    let fit = fits (few one x s n i h) (few b y t m j k) (low one x s n i h) (low b y t m j k) in
    made (f x y) (g s t) n l
    (subst (λ (z : Run). IfOk whole (λ r. run_of r ≡ f z y)) h.run (subst (λ (z : Run). IfOk whole (λ r. run_of r ≡ f (run_of one) z)) k.run run))
    (subst (λ (z : StateTree). IfOk whole (λ r. rest_of r ≡ g z t)) h.rest (subst (λ (z : StateTree). IfOk whole (λ r. rest_of r ≡ g (rest_of one) z)) k.rest rest))
    fit.0 fit.1

-- a part stops
pub part_stops : (part : Result Reached Stop) (stop : Stop) (y z : Run) (t u : StateTree) (m n j l : ℕ) → part ≡ Err stop → (m < y.calls → n < z.calls) → (j < y.level → l < z.level) → Gives part y t m j → Gives (Err stop) z u n l
part_stops part stop y z t u m n j l is f g h =
    let k = subst (λ (r : Result Reached Stop). Gives r y t m j) is h in
    stopped stop z u n l (λ q. f (k.spent q)) (λ q. g (k.deep q))

pub rest_stops : (part : Result Arguments Stop) (stop : Stop) (y z : Runs) (t u : ArgumentTrees) (m n j l : ℕ) → part ≡ Err stop → (m < y.calls → n < z.calls) → (j < y.level → l < z.level) → GivesAll part y t m j → GivesAll (Err stop) z u n l
rest_stops part stop y z t u m n j l is f g h =
    let k = subst (λ (r : Result Arguments Stop). GivesAll r y t m j) is h in
    all_stopped stop z u n l (λ q. f (k.spent q)) (λ q. g (k.deep q))

-- arguments, and a body that gave b
pub on_those : (f : Runs → Run → Run) (g : ArgumentTrees → StateTree → StateTree) (args : Arguments) (two : Result Reached Stop) (b : Reached) (whole : Result Reached Refused) (q : Result Reached Stop) (x : Runs) (y : Run) (s : ArgumentTrees) (t : StateTree) (n m l i j : ℕ)
    → two ≡ Ok b
    → IfOk whole (λ r. run_of r ≡ f (runs_of args) (run_of b))
    → IfOk whole (λ r. rest_of r ≡ g (rests_of args) (rest_of b))
    → (x.calls ≤ n → y.calls ≤ m → x.level ≤ i → y.level ≤ j → ((f x y).calls ≤ n) × ((f x y).level ≤ l))
    → ((z : Run) (u : StateTree) (i j : ℕ) → IfOk whole (λ r. run_of r ≡ z) → IfOk whole (λ r. rest_of r ≡ u) → z.calls ≤ i → z.level ≤ j → Gives q z u i j)
    → GivesAll (Ok args) x s n i
    → Gives two y t m j
    → Gives q (f x y) (g s t) n l
on_those f g args two b whole q x y s t n m l i j is run rest fits made h k' =
    let k = subst (λ (r : Result Reached Stop). Gives r y t m j) is k' in
    let fit = fits (all_few args x s n i h) (few b y t m j k) (all_low args x s n i h) (low b y t m j k) in
    made (f x y) (g s t) n l
    (subst (λ (z : Runs). IfOk whole (λ r. run_of r ≡ f z y)) h.runs (subst (λ (z : Run). IfOk whole (λ r. run_of r ≡ f (runs_of args) z)) k.run run))
    (subst (λ (z : ArgumentTrees). IfOk whole (λ r. rest_of r ≡ g z t)) h.rests (subst (λ (z : StateTree). IfOk whole (λ r. rest_of r ≡ g (rests_of args) z)) k.rest rest))
    fit.0 fit.1

-- an argument, and others that gave b
pub before_those : (f : Run → Runs → Runs) (g : StateTree → ArgumentTrees → ArgumentTrees) (one : Reached) (two : Result Arguments Stop) (b : Arguments) (whole : Result Arguments Refused) (q : Result Arguments Stop) (x : Run) (y : Runs) (s : StateTree) (t : ArgumentTrees) (n m l : ℕ)
    → two ≡ Ok b
    → IfOk whole (λ r. runs_of r ≡ f (run_of one) (runs_of b))
    → IfOk whole (λ r. rests_of r ≡ g (rest_of one) (rests_of b))
    → (x.calls ≤ n → y.calls ≤ m → x.level ≤ l → y.level ≤ l → ((f x y).calls ≤ n) × ((f x y).level ≤ l))
    → ((z : Runs) (u : ArgumentTrees) (i j : ℕ) → IfOk whole (λ r. runs_of r ≡ z) → IfOk whole (λ r. rests_of r ≡ u) → z.calls ≤ i → z.level ≤ j → GivesAll q z u i j)
    → Gives (Ok one) x s n l
    → GivesAll two y t m l
    → GivesAll q (f x y) (g s t) n l
before_those f g one two b whole q x y s t n m l is run rest fits made h k' =
    let k = subst (λ (r : Result Arguments Stop). GivesAll r y t m l) is k' in
    let fit = fits (few one x s n l h) (all_few b y t m l k) (low one x s n l h) (all_low b y t m l k) in
    made (f x y) (g s t) n l
    (subst (λ (z : Run). IfOk whole (λ r. runs_of r ≡ f z y)) h.run (subst (λ (z : Runs). IfOk whole (λ r. runs_of r ≡ f (run_of one) z)) k.runs run))
    (subst (λ (z : StateTree). IfOk whole (λ r. rests_of r ≡ g z t)) h.rest (subst (λ (z : ArgumentTrees). IfOk whole (λ r. rests_of r ≡ g (rest_of one) z)) k.rests rest))
    fit.0 fit.1
