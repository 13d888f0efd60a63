-- What a form of a state gives, by what its parts gave: one lemma for a form with one part, one for a form with two,
-- and one for a form whose part stops.
use Rattle.std.proofs.Common.{ℕ, ◌≡◌, ◌∙◌, ◌+◌, ◌-◌, ◌<◌, ◌≤◌, ◌++◌, Bool, true, false, List, [], ◌∷◌, if◌then◌else◌, refl, sym, ap, subst, append_assoc, append-nil, IfOk, Ok, Err, arith}
use Rattle.std.proofs.lemmas.Result.{IfOk-weaker}
use Rattle.std.specs.Prelude.{Result, OnOk}
use Rattle.stream_type.specs.declared.memory.Memory.{Memory as Refused}
use Rattle.stream_type.specs.StreamType.{StreamType, eps}
use Rattle.stream_prefix.specs.StreamPrefix.{cat_fst, is_maximal, der}
use Rattle.core_term.specs.Run.{Run, Runs, relabel, cat_run, cat_run_at, frame_run, no_runs, run_before}
use Rattle.delta_state.specs.StateTree.{HeldName, LaterTree, StateTree, ArgumentTrees, var_state, cat_state, let_par_state, frame_state, no_arguments, argument_before}
use Rattle.state_rewriting.specs.Rewriting.{as_they_are}
use Rattle.machine_parts.specs.Levels.{below}
use Rattle.machine_parts.proofs.Deeper.{frame_within, frame_deep_body}
use Rattle.machine_parts.specs.declared.stop.Stop.{Stop}
use Rattle.machine_parts.specs.declared.stop.Stop.TheVariants.{Memory, Spent, Deep}
use Rattle.delta_code.specs.declared.begun.Begun.{Begun}
use Rattle.delta_code.specs.declared.told.Told.{Told}
use Rattle.delta_code.specs.declared.told.Gone.{Gone}
use Rattle.delta_code.specs.declared.told.AllTold.{AllTold}
use Rattle.delta_code.specs.Begun.{run_of, rest_of}
use Rattle.delta_code.specs.Eased.{Eased}
use Rattle.delta_code.specs.Gives.{Gives}
use Rattle.delta_code.specs.GivenBack.{given_back}
use Rattle.delta_code.specs.GoesOn.{GoesOn, GoesOnAs, AllGoOn}
use Rattle.delta_code.specs.Told.{told, left_after}
use Rattle.delta_code.proofs.Easing.{eased_same, eased_then, eased_cat, eased_let_par, eased_none, frame_eased, before_eased, same_arguments}

-- a state stops, and says of the run what is so
pub halts : {stop : Stop} {x : Run} {s v : StateTree} {n l : ℕ} → (stop ≡ Spent → n < x.calls) → (stop ≡ Deep → l < x.level) → GoesOn (Err stop) x s v n l
halts f g = record { run = tt; rest = tt; counted = tt; shallow = tt; spent = f; deep = g }

pub halts_as : {stop : Stop} {x : Run} {s v : StateTree} {n l : ℕ} → (stop ≡ Spent → n < x.calls) → (stop ≡ Deep → l < x.level) → GoesOnAs (Err stop) x s v n l
halts_as f g = record { run = tt; rest = tt; counted = tt; shallow = tt; spent = f; deep = g }

pub all_halt : {stop : Stop} {x : Runs} {s v : ArgumentTrees} {lent before found : List HeldName} {n l : ℕ} → (stop ≡ Spent → n < x.calls) → (stop ≡ Deep → l < x.level) → AllGoOn (Err stop) x s v lent before found n l
all_halt f g = record { calls = tt; level = tt; are_shut = tt; entries = tt; rests = tt; counted = tt; shallow = tt; spent = f; deep = g }

-- memory was refused
pub lacks : {x : Run} {s v : StateTree} {n l : ℕ} → GoesOn (Err Memory) x s v n l
lacks = halts (λ q. cc) (λ q. cc)

pub lacks_as : {x : Run} {s v : StateTree} {n l : ℕ} → GoesOnAs (Err Memory) x s v n l
lacks_as = halts_as (λ q. cc) (λ q. cc)

-- a state gives something, and is then this one
pub went : (a : Told) (x : Run) (s v : StateTree) (n l : ℕ) → told a ≡ x → Eased s v → a.calls ≤ n → a.level ≤ l → GoesOn (Ok a) x s v n l
went a x s v n l e f h k = record { run = e; rest = f; counted = h; shallow = k; spent = tt; deep = tt }

pub went_as : (a : Gone) (x : Run) (s v : StateTree) (n l : ℕ) → told a.told ≡ x → Eased s (left_after a.state v) → x.calls ≤ n → x.level ≤ l → GoesOnAs (Ok a) x s v n l
went_as a x s v n l e f h k =
    record {
      run = e;
      rest = f;
      counted = subst (λ (z : Run). z.calls ≤ n) (sym e) h;
      shallow = subst (λ (z : Run). z.level ≤ l) (sym e) k;
      spent = tt;
      deep = tt;
    }

-- what was given has as many calls as were left, and no greater level
pub few : {a : Told} {x : Run} {s v : StateTree} {n l : ℕ} → GoesOn (Ok a) x s v n l → x.calls ≤ n
few {n = n} h = subst (λ (z : Run). z.calls ≤ n) h.run h.counted

pub low : {a : Told} {x : Run} {s v : StateTree} {n l : ℕ} → GoesOn (Ok a) x s v n l → x.level ≤ l
low {l = l} h = subst (λ (z : Run). z.level ≤ l) h.run h.shallow

pub as_many : {a : Told} {x : Run} {s v : StateTree} {n l : ℕ} → GoesOn (Ok a) x s v n l → a.calls ≡ x.calls
as_many h = ap (λ (z : Run). z.calls) h.run

-- what `made` says of what was made
abbrev pub Made : Result Told Refused → Result Told Stop → Type 0
Made whole q = (z : Run) (u w : StateTree) (i j : ℕ) → IfOk whole (λ r. told r ≡ z) → OnOk whole (Eased u w) → IfOk whole (λ r. r.calls ≤ i) → IfOk whole (λ r. r.level ≤ j) → GoesOn q z u w i j

abbrev pub Followed : Result Gone Refused → Result Gone Stop → Type 0
Followed whole q = (z : Run) (u w : StateTree) (i j : ℕ) → IfOk whole (λ r. told r.told ≡ z) → IfOk whole (λ r. Eased u (left_after r.state w)) → IfOk whole (λ r. r.told.calls ≤ i) → IfOk whole (λ r. r.told.level ≤ j) → GoesOnAs q z u w i j

-- this run was made, and then this state
pub made_on : (whole : Result Told Refused) (q : Result Told Stop) (z : Run) (u w : StateTree) (n l : ℕ) → Made whole q → IfOk whole (λ r. told r ≡ z) → OnOk whole (Eased u w) → z.calls ≤ n → z.level ≤ l → GoesOn q z u w n l
made_on whole q z u w n l made run rest calls level =
    made z u w n l run rest (IfOk-weaker whole _ _ (λ r e. subst (λ (y : Run). y.calls ≤ n) (sym e) calls) run) (IfOk-weaker whole _ _ (λ r e. subst (λ (y : Run). y.level ≤ l) (sym e) level) run)

pub followed_on : (whole : Result Gone Refused) (q : Result Gone Stop) (z : Run) (u w : StateTree) (n l : ℕ) → Followed whole q → IfOk whole (λ r. told r.told ≡ z) → IfOk whole (λ r. Eased u (left_after r.state w)) → z.calls ≤ n → z.level ≤ l → GoesOnAs q z u w n l
followed_on whole q z u w n l made run rest calls level =
    made z u w n l run rest (IfOk-weaker whole _ _ (λ r e. subst (λ (y : Run). y.calls ≤ n) (sym e) calls) run) (IfOk-weaker whole _ _ (λ r e. subst (λ (y : Run). y.level ≤ l) (sym e) level) run)

-- a form with two parts, of which the second gave b
pub two_go : (f : Run → Run → Run) (one : Told) (two : Result Told Stop) (b : Told) (whole : Result Told Refused) (q : Result Told Stop) (x y : Run) (s v u w a z : StateTree) (n m l i j : ℕ)
    → two ≡ Ok b
    → IfOk whole (λ r. told r ≡ f (told one) (told b))
    → (Eased s v → Eased u w → OnOk whole (Eased a z))
    → (x.calls ≤ n → y.calls ≤ m → x.level ≤ i → y.level ≤ j → ((f x y).calls ≤ n) × ((f x y).level ≤ l))
    → Made whole q
    → GoesOn (Ok one) x s v n i
    → GoesOn two y u w m j
    → GoesOn q (f x y) a z n l
two_go f one two b whole q x y s v u w a z n m l i j is run eases fits made h k' =
    let k = subst (λ (r : Result Told Stop). GoesOn r y u w m j) is k' in
    let fit = fits (few h) (few k) (low h) (low k) in
    let same : f (told one) (told b) ≡ f x y = λ i. f (h.run i) (k.run i) in
    made_on whole q (f x y) a z n l made (IfOk-weaker whole _ _ (λ r e. e ∙ same) run) (eases h.rest k.rest) fit.0 fit.1

-- a part stops
pub part_halts : (part : Result Told Stop) (stop : Stop) (y z : Run) (s v u w : StateTree) (m n j l : ℕ) → part ≡ Err stop → (m < y.calls → n < z.calls) → (j < y.level → l < z.level) → GoesOn part y s v m j → GoesOn (Err stop) z u w n l
part_halts part stop y z s v u w m n j l is f g h =
    let k = subst (λ (r : Result Told Stop). GoesOn r y s v m j) is h in
    halts (λ q. f (k.spent q)) (λ q. g (k.deep q))

pub part_ends : {stop : Stop} {y z : Run} {s v u w : StateTree} {m n j l : ℕ} → (m < y.calls → n < z.calls) → (j < y.level → l < z.level) → GoesOn (Err stop) y s v m j → GoesOn (Err stop) z u w n l
part_ends f g h = halts (λ q. f (h.spent q)) (λ q. g (h.deep q))

pub part_ends_as : {stop : Stop} {y z : Run} {s v u w : StateTree} {m n j l : ℕ} → (m < y.calls → n < z.calls) → (j < y.level → l < z.level) → GoesOn (Err stop) y s v m j → GoesOnAs (Err stop) z u w n l
part_ends_as f g h = halts_as (λ q. f (h.spent q)) (λ q. g (h.deep q))

pub arguments_end : {stop : Stop} {y : Runs} {z : Run} {s v : ArgumentTrees} {u w : StateTree} {lent before found : List HeldName} {m n j l : ℕ} → (m < y.calls → n < z.calls) → (j < y.level → l < z.level) → AllGoOn (Err stop) y s v lent before found m j → GoesOn (Err stop) z u w n l
arguments_end f g h = halts (λ q. f (h.spent q)) (λ q. g (h.deep q))

-- the first of two, which isn't whole: the second waits
pub turn_waits : (one : Told) (a : Gone) (x y : Run) (s v u : StateTree) (later : LaterTree) (n l : ℕ)
    → is_maximal x.out ≡ false
    → told a.told ≡ relabel cat_fst (told one)
    → left_after a.state (cat_state v later) ≡ cat_state v later
    → GoesOn (Ok one) x s v n l
    → GoesOnAs (Ok a) (cat_run x y) (if is_maximal x.out then u else cat_state s later) (cat_state v later) n l
turn_waits one a x y s v u later n l waits run state h =
    subst (λ (w : Bool). GoesOnAs (Ok a) (cat_run_at w x y) (if w then u else cat_state s later) (cat_state v later) n l) (sym waits)
    (went_as a (relabel cat_fst x) (cat_state s later) (cat_state v later) n l (run ∙ ap (relabel cat_fst) h.run) (eased_then (eased_cat h.rest) (eased_same (sym state))) (few h) (low h))

-- the first of two, which is whole, and the second, which gave b
pub turn_goes : (one : Told) (two : Result Begun Stop) (b : Begun) (whole : Result Gone Refused) (q : Result Gone Stop) (x y : Run) (s v u w z : StateTree) (n m l : ℕ)
    → is_maximal x.out ≡ true
    → two ≡ Ok b
    → one.calls + m ≡ n
    → IfOk whole (λ r. told r.told ≡ cat_run_at true (told one) (run_of b))
    → IfOk whole (λ r. (t : StateTree) → left_after r.state t ≡ rest_of b)
    → Followed whole q
    → GoesOn (Ok one) x s v n l
    → Gives two y u m l
    → GoesOnAs q (cat_run x y) (if is_maximal x.out then u else w) z n l
turn_goes one two b whole q x y s v u w z n m l goes is left run rest made h k' =
    let k = subst (λ (r : Result Begun Stop). Gives r y u m l) is k' in
    let same : cat_run_at true (told one) (run_of b) ≡ cat_run_at true x y = λ i. cat_run_at true (h.run i) (k.run i) in
    let first = as_many h in
    let second : y.calls ≤ m = subst (λ (e : Run). e.calls ≤ m) k.run k.counted in
    let low_first = low h in
    let low_second : y.level ≤ l = subst (λ (e : Run). e.level ≤ l) k.run k.shallow in
    subst (λ (t : Bool). GoesOnAs q (cat_run_at t x y) (if t then u else w) z n l) (sym goes)
    (followed_on whole q (cat_run_at true x y) u z n l made (IfOk-weaker whole _ _ (λ r e. e ∙ same) run) (IfOk-weaker whole _ _ (λ r e. eased_then k.rest (eased_same (sym (e z)))) rest) (omega (arith, first, left, second)) (omega (arith, low_first, low_second)))

pub turn_halts : (two : Result Begun Stop) (stop : Stop) (x y : Run) (u w z : StateTree) (n m l i : ℕ)
    → is_maximal x.out ≡ true
    → two ≡ Err stop
    → i ≡ x.calls
    → i + m ≡ n
    → Gives two y u m l
    → GoesOnAs (Err stop) (cat_run x y) (if is_maximal x.out then u else w) z n l
turn_halts two stop x y u w z n m l i goes is first left h =
    let k = subst (λ (r : Result Begun Stop). Gives r y u m l) is h in
    subst (λ (t : Bool). GoesOnAs (Err stop) (cat_run_at t x y) (if t then u else w) z n l) (sym goes)
    (halts_as (λ q. let more : m < y.calls = k.spent q in omega (arith, first, left, more)) (λ q. let above : l < y.level = k.deep q in omega (arith, above)))

-- `let (x, y) = z`
pub pair_goes : {q : Result Told Stop} {e : Run} {s v : StateTree} {n l x y z : ℕ} → GoesOn q e s v n l → GoesOn q e (let_par_state x y z s) (let_par_state x y z v) n l
pair_goes {q} h =
    record {
      run = h.run;
      rest = IfOk-weaker q _ _ (λ r p. eased_let_par p) h.rest;
      counted = h.counted;
      shallow = h.shallow;
      spent = h.spent;
      deep = h.deep;
    }

-- a body on arguments, which gave b
pub frame_goes : (args : AllTold) (body : Result Told Stop) (b : Told) (whole : Result Told Refused) (q : Result Told Stop) (x : Runs) (y : Run) (s v new : ArgumentTrees) (u w : StateTree) (lent found : List HeldName) (n m l j : ℕ)
    → body ≡ Ok b
    → args.calls + m ≡ n
    → j ≡ below args.are_shut l
    → IfOk whole (λ r. (runs : Runs) → runs.calls ≡ args.calls → runs.level ≡ args.level → runs.are_shut ≡ args.are_shut → told r ≡ frame_run runs (told b))
    → OnOk whole (new ≡ given_back found v)
    → Made whole q
    → AllGoOn (Ok args) x s v lent [] found n (l - 1)
    → GoesOn body y u w m j
    → GoesOn q (frame_run x y) (frame_state s u) (frame_state new w) n l
frame_goes args body b whole q x y s v new u w lent found n m l j is left below_those run back made h k' =
    let k = subst (λ (r : Result Told Stop). GoesOn r y u w m j) is k' in
    let first = h.calls in
    let second = few k in
    let after : j ≡ below x.are_shut l = below_those ∙ ap (λ (t : Bool). below t l) h.are_shut in
    let low_first : x.level ≤ l - 1 = subst (λ (i : ℕ). i ≤ l - 1) h.level h.shallow in
    made_on whole q (frame_run x y) (frame_state s u) (frame_state new w) n l made
    (IfOk-weaker whole _ _ (λ r e. e x (sym h.calls) (sym h.level) (sym h.are_shut) ∙ ap (frame_run x) k.run) run)
    (IfOk-weaker whole _ _ (λ r e. frame_eased h.rests k.rest refl (ap (λ (t : ArgumentTrees). frame_state t w) (e ∙ ap (λ (es : List HeldName). given_back es v) h.entries))) back)
    (omega (arith, first, left, second)) (frame_within x (frame_run x y) y l (l - 1) j refl refl after low_first (low k))

pub frame_halts : (args : AllTold) (body : Result Told Stop) (stop : Stop) (x : Runs) (y : Run) (s v : ArgumentTrees) (t z u w : StateTree) (lent found : List HeldName) (n m l j : ℕ)
    → body ≡ Err stop
    → args.calls + m ≡ n
    → j ≡ below args.are_shut l
    → AllGoOn (Ok args) x s v lent [] found n (l - 1)
    → GoesOn body y u w m j
    → GoesOn (Err stop) (frame_run x y) t z n l
frame_halts args body stop x y s v t z u w lent found n m l j is left below_those h k =
    let first = h.calls in
    let after : j ≡ below x.are_shut l = below_those ∙ ap (λ (b : Bool). below b l) h.are_shut in
    part_halts body stop y (frame_run x y) u w t z m n j l is (λ f. omega (arith, first, left, f)) (λ f. frame_deep_body x x y l j refl after f) k

-- a body on one name, which gave b
pub named_goes : (body : Result Told Stop) (b : Told) (whole : Result Told Refused) (q : Result Told Stop) (x z : ℕ) (runs : Runs) (y : Run) (t new : StreamType) (u w : StateTree) (n l : ℕ)
    → body ≡ Ok b
    → runs.calls ≡ 0 → runs.level ≡ 0 → runs.are_shut ≡ true
    → IfOk whole (λ r. told r ≡ frame_run runs (told b))
    → OnOk whole (new ≡ t)
    → Made whole q
    → GoesOn body y u w n l
    → GoesOn q (frame_run runs y) (frame_state (argument_before x t (var_state z) no_arguments) u) (frame_state (argument_before x new (var_state z) no_arguments) w) n l
named_goes body b whole q x z runs y t new u w n l is calls level shut run back made k' =
    let k = subst (λ (r : Result Told Stop). GoesOn r y u w n l) is k' in
    let second = few k in
    let after : l ≡ below runs.are_shut l = ap (λ (e : Bool). below e l) (sym shut) in
    let moved = λ (e : new ≡ t). same_arguments (record { by = as_they_are }) refl (ap (λ (r : StreamType). argument_before x r (var_state z) no_arguments) e) in
    made_on whole q (frame_run runs y) (frame_state (argument_before x t (var_state z) no_arguments) u) (frame_state (argument_before x new (var_state z) no_arguments) w) n l made
    (IfOk-weaker whole _ _ (λ r e. e ∙ ap (frame_run runs) k.run) run) (IfOk-weaker whole _ _ (λ r e. frame_eased (moved e) k.rest refl refl) back)
    (omega (arith, calls, second)) (frame_within runs (frame_run runs y) y l (l - 1) l refl refl after (omega (arith, level)) (low k))

pub named_halts : (body : Result Told Stop) (stop : Stop) (runs : Runs) (y : Run) (t z u w : StateTree) (n l : ℕ)
    → body ≡ Err stop
    → runs.are_shut ≡ true
    → GoesOn body y u w n l
    → GoesOn (Err stop) (frame_run runs y) t z n l
named_halts body stop runs y t z u w n l is shut k =
    let after : l ≡ below runs.are_shut l = ap (λ (e : Bool). below e l) (sym shut) in
    part_halts body stop y (frame_run runs y) u w t z n n l l is (λ f. omega (arith, f)) (λ f. frame_deep_body runs runs y l l refl after f) k

-- no arguments
pub none_go : (a : AllTold) (es : List HeldName) (n l : ℕ) → a.calls ≡ 0 → a.level ≡ 0 → a.are_shut ≡ true → AllGoOn (Ok a) no_runs no_arguments no_arguments [] es es n l
none_go a es n l calls level shut =
    record {
      calls = calls;
      level = level;
      are_shut = shut;
      entries = sym (append-nil es);
      rests = eased_none;
      counted = omega (arith, calls);
      shallow = omega (arith, level);
      spent = tt;
      deep = tt;
    }

-- an argument in front of others, which gave b
pub all_go : (all b : AllTold) (is_name : Bool) (name : ℕ) (t : StreamType) (x : Run) (y : Runs) (s v : StateTree) (u w : ArgumentTrees) (lent before found : List HeldName) (n m l : ℕ)
    → all.calls ≡ (run_before is_name x y).calls
    → all.level ≡ (run_before is_name x y).level
    → all.are_shut ≡ (run_before is_name x y).are_shut
    → (run_before is_name x y).calls ≤ n
    → (run_before is_name x y).level ≤ l
    → Eased s v
    → AllGoOn (Ok b) y u w lent (before ++ record { name = name; type = t; prefix = x.out } ∷ []) found m l
    → AllGoOn (Ok all) (run_before is_name x y) (argument_before name (der x.out t) s u) (argument_before name eps v w) (record { name = name; type = t; prefix = x.out } ∷ lent) before found n l
all_go all b is_name name t x y s v u w lent before found n m l calls level shut fit low_all eased k =
    record {
      calls = calls;
      level = level;
      are_shut = shut;
      entries = k.entries ∙ append_assoc before (record { name = name; type = t; prefix = x.out } ∷ []) lent;
      rests = before_eased eased k.rests refl refl;
      counted = subst (λ (i : ℕ). i ≤ n) (sym calls) fit;
      shallow = subst (λ (i : ℕ). i ≤ l) (sym level) low_all;
      spent = tt;
      deep = tt;
    }

-- the same run and the same state under other names
pub same_goes : {q : Result Told Stop} {x y : Run} {s u v : StateTree} {n l : ℕ} → x ≡ y → s ≡ u → GoesOn q x s v n l → GoesOn q y u v n l
same_goes {q} {x} {y} {s} {u} {v} {n} {l} e f h = subst (λ (z : Run). GoesOn q z u v n l) e (subst (λ (z : StateTree). GoesOn q x z v n l) f h)

pub same_goes_as : {q : Result Gone Stop} {x y : Run} {s u v : StateTree} {n l : ℕ} → x ≡ y → s ≡ u → GoesOnAs q x s v n l → GoesOnAs q y u v n l
same_goes_as {q} {x} {y} {s} {u} {v} {n} {l} e f h = subst (λ (z : Run). GoesOnAs q z u v n l) e (subst (λ (z : StateTree). GoesOnAs q x z v n l) f h)

pub found_go : {q : Result AllTold Stop} {x : Runs} {s v : ArgumentTrees} {lent before others found : List HeldName} {n l : ℕ} → before ≡ others → AllGoOn q x s v lent before found n l → AllGoOn q x s v lent others found n l
found_go {q} {x} {s} {v} {lent} {before} {others} {found} {n} {l} e h = subst (λ (es : List HeldName). AllGoOn q x s v lent es found n l) e h
