-- What a form gives, by what its parts gave: one lemma for a form with one part, one for a form with two, and one for
-- a form whose part stops.
use Rattle.std.proofs.Common.{ℕ, ◌≡◌, ◌∙◌, ◌<◌, ◌≤◌, Bool, true, false, if◌then◌else◌, sym, ap, subst, IfOk, Ok, Err}
use Rattle.std.proofs.lemmas.Result.{IfOk-weaker}
use Rattle.std.specs.Prelude.{Result}
use Rattle.stream_type.specs.declared.memory.Memory.{Memory as Refused}
use Rattle.stream_prefix.specs.StreamPrefix.{cat_fst, is_maximal}
use Rattle.core_term.specs.Run.{Run, Runs, relabel, cat_run, cat_run_at}
use Rattle.delta_state.specs.StateTree.{LaterTree, StateTree, ArgumentTrees, cat_state}
use Rattle.machine_parts.specs.declared.stop.Stop.{Stop}
use Rattle.machine_parts.specs.declared.stop.Stop.TheVariants.{Memory, Spent, Deep}
use Rattle.delta_code.specs.declared.begun.Begun.{Begun}
use Rattle.delta_code.specs.declared.begun.Passed.{Passed}
use Rattle.delta_code.specs.Begun.{run_of, rest_of, runs_of, rests_of}
use Rattle.delta_code.specs.Eased.{Eased, EasedArguments}
use Rattle.delta_code.specs.Gives.{Gives, GivesAll}
use Rattle.delta_code.proofs.Easing.{eased_same, eased_then, eased_cat}

-- a step stops, and says of the run what is so
pub stopped : (stop : Stop) (x : Run) (s : StateTree) (n l : ℕ) → (stop ≡ Spent → n < x.calls) → (stop ≡ Deep → l < x.level) → Gives (Err stop) x s n l
stopped stop x s n l f g = record { run = tt; rest = tt; counted = tt; shallow = tt; spent = f; deep = g }

pub all_stopped : (stop : Stop) (x : Runs) (s : ArgumentTrees) (n l : ℕ) → (stop ≡ Spent → n < x.calls) → (stop ≡ Deep → l < x.level) → GivesAll (Err stop) x s n l
all_stopped stop x s n l f g = record { runs = tt; rests = tt; counted = tt; shallow = tt; spent = f; deep = g }

-- memory was refused
pub refused : (x : Run) (s : StateTree) (n l : ℕ) → Gives (Err Memory) x s n l
refused x s n l = stopped Memory x s n l (λ q. cc) (λ q. cc)

pub all_refused : (x : Runs) (s : ArgumentTrees) (n l : ℕ) → GivesAll (Err Memory) x s n l
all_refused x s n l = all_stopped Memory x s n l (λ q. cc) (λ q. cc)

-- a step gives something
pub gave : (a : Begun) (x : Run) (s : StateTree) (n l : ℕ) → run_of a ≡ x → Eased s (rest_of a) → a.calls ≤ n → a.level ≤ l → Gives (Ok a) x s n l
gave a x s n l e f h k = record { run = e; rest = f; counted = h; shallow = k; spent = tt; deep = tt }

pub all_gave : (a : Passed) (x : Runs) (s : ArgumentTrees) (n l : ℕ) → runs_of a ≡ x → EasedArguments s (rests_of a) → a.calls ≤ n → a.level ≤ l → GivesAll (Ok a) x s n l
all_gave a x s n l e f h k = record { runs = e; rests = f; counted = h; shallow = k; spent = tt; deep = tt }

-- what was given has as many calls as were left, and no greater level
pub few : {a : Begun} {x : Run} {s : StateTree} {n l : ℕ} → Gives (Ok a) x s n l → x.calls ≤ n
few {n = n} h = subst (λ (z : Run). z.calls ≤ n) h.run h.counted

pub low : {a : Begun} {x : Run} {s : StateTree} {n l : ℕ} → Gives (Ok a) x s n l → x.level ≤ l
low {l = l} h = subst (λ (z : Run). z.level ≤ l) h.run h.shallow

pub as_many : {a : Begun} {x : Run} {s : StateTree} {n l : ℕ} → Gives (Ok a) x s n l → a.calls ≡ x.calls
as_many h = ap (λ (z : Run). z.calls) h.run

pub all_few : {a : Passed} {x : Runs} {s : ArgumentTrees} {n l : ℕ} → GivesAll (Ok a) x s n l → x.calls ≤ n
all_few {n = n} h = subst (λ (z : Runs). z.calls ≤ n) h.runs h.counted

pub all_low : {a : Passed} {x : Runs} {s : ArgumentTrees} {n l : ℕ} → GivesAll (Ok a) x s n l → x.level ≤ l
all_low {l = l} h = subst (λ (z : Runs). z.level ≤ l) h.runs h.shallow

pub all_as_many : {a : Passed} {x : Runs} {s : ArgumentTrees} {n l : ℕ} → GivesAll (Ok a) x s n l → a.calls ≡ x.calls
all_as_many h = ap (λ (z : Runs). z.calls) h.runs

-- what `made` says of what was made
abbrev pub Made : Result Begun Refused → Result Begun Stop → Type 0
Made whole q = (z : Run) (u : StateTree) (i j : ℕ) → IfOk whole (λ r. run_of r ≡ z) → IfOk whole (λ r. Eased u (rest_of r)) → IfOk whole (λ r. r.calls ≤ i) → IfOk whole (λ r. r.level ≤ j) → Gives q z u i j

abbrev pub AllMade : Result Passed Refused → Result Passed Stop → Type 0
AllMade whole q = (z : Runs) (u : ArgumentTrees) (i j : ℕ) → IfOk whole (λ r. runs_of r ≡ z) → IfOk whole (λ r. EasedArguments u (rests_of r)) → IfOk whole (λ r. r.calls ≤ i) → IfOk whole (λ r. r.level ≤ j) → GivesAll q z u i j

-- this run and this state were made
pub made_so : (whole : Result Begun Refused) (q : Result Begun Stop) (x z : Run) (s u : StateTree) (n l : ℕ)
    → IfOk whole (λ r. run_of r ≡ x) → IfOk whole (λ r. rest_of r ≡ s) → Made whole q → x ≡ z → Eased u s → z.calls ≤ n → z.level ≤ l → Gives q z u n l
made_so whole q x z s u n l run rest made same eased calls level =
    made z u n l (IfOk-weaker whole _ _ (λ r e. e ∙ same) run) (IfOk-weaker whole _ _ (λ r e. eased_then eased (eased_same (sym e))) rest)
    (IfOk-weaker whole _ _ (λ r e. subst (λ (y : Run). y.calls ≤ n) (sym (e ∙ same)) calls) run) (IfOk-weaker whole _ _ (λ r e. subst (λ (y : Run). y.level ≤ l) (sym (e ∙ same)) level) run)

-- a form with one part, which counts no call and lies no deeper, and whose state is that of the part
pub one_part : (f : Run → Run) (inside : Result Begun Stop) (a : Begun) (whole : Result Begun Refused) (q : Result Begun Stop) (x : Run) (s : StateTree) (n l : ℕ)
    → inside ≡ Ok a
    → IfOk whole (λ b. run_of b ≡ f (run_of a))
    → IfOk whole (λ b. rest_of b ≡ rest_of a)
    → (f x).calls ≡ x.calls
    → (f x).level ≡ x.level
    → Made whole q
    → Gives inside x s n l
    → Gives q (f x) s n l
one_part f inside a whole q x s n l is run rest same_calls same_level made h =
    let k = subst (λ (r : Result Begun Stop). Gives r x s n l) is h in
    made_so whole q (f (run_of a)) (f x) (rest_of a) s n l run rest made (ap f k.run) k.rest
    (subst (λ (i : ℕ). i ≤ n) (sym same_calls) (few k)) (subst (λ (i : ℕ). i ≤ l) (sym same_level) (low k))

-- a form with one part, whose run is that of the part
pub part_within : (g : StateTree → StateTree) (inside : Result Begun Stop) (a : Begun) (whole : Result Begun Refused) (q : Result Begun Stop) (x : Run) (s : StateTree) (n l : ℕ)
    → inside ≡ Ok a
    → IfOk whole (λ b. run_of b ≡ run_of a)
    → IfOk whole (λ b. rest_of b ≡ g (rest_of a))
    → (Eased s (rest_of a) → Eased (g s) (g (rest_of a)))
    → Made whole q
    → Gives inside x s n l
    → Gives q x (g s) n l
part_within g inside a whole q x s n l is run rest eases made h =
    let k = subst (λ (r : Result Begun Stop). Gives r x s n l) is h in
    made_so whole q (run_of a) x (g (rest_of a)) (g s) n l run rest made k.run (eases k.rest) (few k) (low k)

-- a form with two parts, of which the second gave b
pub two_parts : (f : Run → Run → Run) (g : StateTree → StateTree → StateTree) (one : Begun) (two : Result Begun Stop) (b : Begun) (whole : Result Begun Refused) (q : Result Begun Stop) (x y : Run) (s t : StateTree) (n m l i j : ℕ)
    → two ≡ Ok b
    → IfOk whole (λ r. run_of r ≡ f (run_of one) (run_of b))
    → IfOk whole (λ r. rest_of r ≡ g (rest_of one) (rest_of b))
    → (Eased s (rest_of one) → Eased t (rest_of b) → Eased (g s t) (g (rest_of one) (rest_of b)))
    → (x.calls ≤ n → y.calls ≤ m → x.level ≤ i → y.level ≤ j → ((f x y).calls ≤ n) × ((f x y).level ≤ l))
    → Made whole q
    → Gives (Ok one) x s n i
    → Gives two y t m j
    → Gives q (f x y) (g s t) n l
two_parts f g one two b whole q x y s t n m l i j is run rest eases fits made h k' =
    let k = subst (λ (r : Result Begun Stop). Gives r y t m j) is k' in
    let fit = fits (few h) (few k) (low h) (low k) in
    let same : f (run_of one) (run_of b) ≡ f x y = λ i. f (h.run i) (k.run i) in
    made_so whole q (f (run_of one) (run_of b)) (f x y) (g (rest_of one) (rest_of b)) (g s t) n l run rest made same (eases h.rest k.rest) fit.0 fit.1

-- a part stops
pub part_stops : (part : Result Begun Stop) (stop : Stop) (y z : Run) (t u : StateTree) (m n j l : ℕ) → part ≡ Err stop → (m < y.calls → n < z.calls) → (j < y.level → l < z.level) → Gives part y t m j → Gives (Err stop) z u n l
part_stops part stop y z t u m n j l is f g h =
    let k = subst (λ (r : Result Begun Stop). Gives r y t m j) is h in
    stopped stop z u n l (λ q. f (k.spent q)) (λ q. g (k.deep q))

pub rest_stops : (part : Result Passed Stop) (stop : Stop) (y z : Runs) (t u : ArgumentTrees) (m n j l : ℕ) → part ≡ Err stop → (m < y.calls → n < z.calls) → (j < y.level → l < z.level) → GivesAll part y t m j → GivesAll (Err stop) z u n l
rest_stops part stop y z t u m n j l is f g h =
    let k = subst (λ (r : Result Passed Stop). GivesAll r y t m j) is h in
    all_stopped stop z u n l (λ q. f (k.spent q)) (λ q. g (k.deep q))

-- the first part stops, or an argument does
pub part_ends : {stop : Stop} {y z : Run} {t u : StateTree} {m n j l : ℕ} → (m < y.calls → n < z.calls) → (j < y.level → l < z.level) → Gives (Err stop) y t m j → Gives (Err stop) z u n l
part_ends {stop} {y} {z} {t} {u} {m} {n} {j} {l} f g h = stopped stop z u n l (λ q. f (h.spent q)) (λ q. g (h.deep q))

pub argument_ends : {stop : Stop} {y : Run} {z : Runs} {t : StateTree} {u : ArgumentTrees} {m n j l : ℕ} → (m < y.calls → n < z.calls) → (j < y.level → l < z.level) → Gives (Err stop) y t m j → GivesAll (Err stop) z u n l
argument_ends {stop} {y} {z} {t} {u} {m} {n} {j} {l} f g h = all_stopped stop z u n l (λ q. f (h.spent q)) (λ q. g (h.deep q))

-- arguments, and a body that gave b
pub on_those : (f : Runs → Run → Run) (g : ArgumentTrees → StateTree → StateTree) (args : Passed) (two : Result Begun Stop) (b : Begun) (whole : Result Begun Refused) (q : Result Begun Stop) (x : Runs) (y : Run) (s : ArgumentTrees) (t : StateTree) (n m l i j : ℕ)
    → two ≡ Ok b
    → IfOk whole (λ r. run_of r ≡ f (runs_of args) (run_of b))
    → IfOk whole (λ r. rest_of r ≡ g (rests_of args) (rest_of b))
    → (EasedArguments s (rests_of args) → Eased t (rest_of b) → Eased (g s t) (g (rests_of args) (rest_of b)))
    → (x.calls ≤ n → y.calls ≤ m → x.level ≤ i → y.level ≤ j → ((f x y).calls ≤ n) × ((f x y).level ≤ l))
    → Made whole q
    → GivesAll (Ok args) x s n i
    → Gives two y t m j
    → Gives q (f x y) (g s t) n l
on_those f g args two b whole q x y s t n m l i j is run rest eases fits made h k' =
    let k = subst (λ (r : Result Begun Stop). Gives r y t m j) is k' in
    let fit = fits (all_few h) (few k) (all_low h) (low k) in
    let same : f (runs_of args) (run_of b) ≡ f x y = λ i. f (h.runs i) (k.run i) in
    made_so whole q (f (runs_of args) (run_of b)) (f x y) (g (rests_of args) (rest_of b)) (g s t) n l run rest made same (eases h.rests k.rest) fit.0 fit.1

-- these arguments were made of an argument and others that gave b
pub before_those : (f : Run → Runs → Runs) (left : ArgumentTrees) (one : Begun) (two : Result Passed Stop) (b : Passed) (whole : Result Passed Refused) (q : Result Passed Stop) (x : Run) (y : Runs) (s : StateTree) (t kept : ArgumentTrees) (n m l : ℕ)
    → two ≡ Ok b
    → IfOk whole (λ r. runs_of r ≡ f (run_of one) (runs_of b))
    → IfOk whole (λ r. rests_of r ≡ left)
    → (Eased s (rest_of one) → EasedArguments t (rests_of b) → (args : ArgumentTrees) → args ≡ left → EasedArguments kept args)
    → (x.calls ≤ n → y.calls ≤ m → x.level ≤ l → y.level ≤ l → ((f x y).calls ≤ n) × ((f x y).level ≤ l))
    → AllMade whole q
    → Gives (Ok one) x s n l
    → GivesAll two y t m l
    → GivesAll q (f x y) kept n l
before_those f left one two b whole q x y s t kept n m l is run rest eases fits made h k' =
    let k = subst (λ (r : Result Passed Stop). GivesAll r y t m l) is k' in
    let fit = fits (few h) (all_few k) (low h) (all_low k) in
    let same : f (run_of one) (runs_of b) ≡ f x y = λ i. f (h.run i) (k.runs i) in
    made (f x y) kept n l (IfOk-weaker whole _ _ (λ r e. e ∙ same) run) (IfOk-weaker whole _ _ (λ r e. eases h.rest k.rests (rests_of r) e) rest)
    (IfOk-weaker whole _ _ (λ r e. subst (λ (z : Runs). z.calls ≤ n) (sym (e ∙ same)) fit.0) run) (IfOk-weaker whole _ _ (λ r e. subst (λ (z : Runs). z.level ≤ l) (sym (e ∙ same)) fit.1) run)

-- the first of two, which isn't whole: the second waits
pub turn_waits : (one : Begun) (whole : Result Begun Refused) (q : Result Begun Stop) (x y : Run) (s u : StateTree) (later : LaterTree) (n l : ℕ)
    → is_maximal x.out ≡ false
    → IfOk whole (λ b. run_of b ≡ relabel cat_fst (run_of one))
    → IfOk whole (λ b. rest_of b ≡ cat_state (rest_of one) later)
    → Made whole q
    → Gives (Ok one) x s n l
    → Gives q (cat_run x y) (if is_maximal x.out then u else cat_state s later) n l
turn_waits one whole q x y s u later n l waits run rest made h =
    subst (λ (w : Bool). Gives q (cat_run_at w x y) (if w then u else cat_state s later) n l) (sym waits)
    (made_so whole q (relabel cat_fst (run_of one)) (relabel cat_fst x) (cat_state (rest_of one) later) (cat_state s later) n l run rest made (ap (relabel cat_fst) h.run) (eased_cat h.rest) (few h) (low h))

-- the first of two, which is whole: what is left is what is left of the second
pub turn_goes : (q : Result Begun Stop) (x y : Run) (u v : StateTree) (n l : ℕ) → is_maximal x.out ≡ true → Gives q (cat_run x y) u n l → Gives q (cat_run x y) (if is_maximal x.out then u else v) n l
turn_goes q x y u v n l goes h = subst (λ (w : Bool). Gives q (cat_run x y) (if w then u else v) n l) (sym goes) h

pub same_gives_all : {r : Result Passed Stop} {x y : Runs} {s t : ArgumentTrees} {n l : ℕ} → x ≡ y → s ≡ t → GivesAll r x s n l → GivesAll r y t n l
same_gives_all {r} {x} {y} {s} {t} {n} {l} e f h = subst (λ (z : Runs). GivesAll r z t n l) e (subst (λ (z : ArgumentTrees). GivesAll r x z n l) f h)
