-- What a form gives where its first part stops, or where the second part waits for its end.
use Rattle.std.proofs.Common.{ℕ, ◌≡◌, ◌<◌, ◌≤◌, Bool, true, false, if◌then◌else◌, refl, sym, subst, IfOk, IfErr, Ok, Err}
use Rattle.std.specs.Prelude.{Result}
use Rattle.stream_type.specs.declared.memory.Memory.{Memory as Refused}
use Rattle.stream_prefix.specs.StreamPrefix.{cat_fst, is_maximal}
use Rattle.core_term.specs.Run.{Run, Runs, relabel, cat_run, cat_run_at}
use Rattle.delta_state.specs.StateTree.{LaterTree, StateTree, ArgumentTrees, cat_state}
use Rattle.machine_parts.specs.declared.stop.Stop.{Stop}
use Rattle.machine_parts.specs.declared.stop.Stop.TheVariants.{Spent, Deep}
use Rattle.delta_step.specs.declared.reached.Reached.{Reached}
use Rattle.delta_step.specs.declared.reached.Arguments.{Arguments}
use Rattle.delta_step.specs.Reached.{run_of, rest_of}
use Rattle.delta_step.specs.Gives.{Gives, GivesAll}
use Rattle.delta_step.proofs.Giving.{stopped, one_part}

-- the same run and the same state under other names
pub same_gives : {r : Result Reached Stop} {x y : Run} {s t : StateTree} {n l : ℕ} → x ≡ y → s ≡ t → Gives r x s n l → Gives r y t n l
same_gives {r} {x} {y} {s} {t} {n} {l} e f h = subst (λ (z : Run). Gives r z t n l) e (subst (λ (z : StateTree). Gives r x z n l) f h)

-- the first part stops
pub part_ends : {stop : Stop} {y z : Run} {t u : StateTree} {m n j l : ℕ} → (m < y.calls → n < z.calls) → (j < y.level → l < z.level) → Gives (Err stop) y t m j → Gives (Err stop) z u n l
part_ends {stop} {y} {z} {t} {u} {m} {n} {j} {l} f g h = stopped stop z u n l (λ q. f (h.spent q)) (λ q. g (h.deep q))

-- the first of two, which isn't whole: the second waits
pub turn_waits : (one : Reached) (whole : Result Reached Refused) (q : Result Reached Stop) (x y : Run) (s u : StateTree) (later : LaterTree) (n l : ℕ)
    → is_maximal x.out ≡ false
    → IfOk whole (λ b. run_of b ≡ relabel cat_fst (run_of one))
    → IfOk whole (λ b. rest_of b ≡ cat_state (rest_of one) later)
    → ((z : Run) (t : StateTree) (i j : ℕ) → IfOk whole (λ b. run_of b ≡ z) → IfOk whole (λ b. rest_of b ≡ t) → z.calls ≤ i → z.level ≤ j → Gives q z t i j)
    → Gives (Ok one) x s n l
    → Gives q (cat_run x y) (if is_maximal x.out then u else cat_state s later) n l
turn_waits one whole q x y s u later n l waits run rest made h =
    subst (λ (w : Bool). Gives q (cat_run_at w x y) (if w then u else cat_state s later) n l) (sym waits)
    (one_part (relabel cat_fst) (λ t. cat_state t later) (Ok one) one whole q x s n l refl run rest refl refl made h)

-- the first of two, which is whole: what is left is what is left of the second
pub turn_goes : (q : Result Reached Stop) (x y : Run) (u v : StateTree) (n l : ℕ) → is_maximal x.out ≡ true → Gives q (cat_run x y) u n l → Gives q (cat_run x y) (if is_maximal x.out then u else v) n l
turn_goes q x y u v n l goes h = subst (λ (w : Bool). Gives q (cat_run x y) (if w then u else v) n l) (sym goes) h

-- the same of arguments
pub same_gives_all : {r : Result Arguments Stop} {x y : Runs} {s t : ArgumentTrees} {n l : ℕ} → x ≡ y → s ≡ t → GivesAll r x s n l → GivesAll r y t n l
same_gives_all {r} {x} {y} {s} {t} {n} {l} e f h = subst (λ (z : Runs). GivesAll r z t n l) e (subst (λ (z : ArgumentTrees). GivesAll r x z n l) f h)

-- six facts as one
pub gives_of : (r : Result Reached Stop) (x : Run) (s : StateTree) (n l : ℕ) → IfOk r (λ a. run_of a ≡ x) → IfOk r (λ a. rest_of a ≡ s) → IfOk r (λ a. a.calls ≤ n) → IfOk r (λ a. a.level ≤ l) → IfErr r (λ stop. stop ≡ Spent → n < x.calls) → IfErr r (λ stop. stop ≡ Deep → l < x.level) → Gives r x s n l
gives_of r x s n l e f h k p q = record { run = e; rest = f; counted = h; shallow = k; spent = p; deep = q }
