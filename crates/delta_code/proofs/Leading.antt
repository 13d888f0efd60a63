-- What a term leads to, by what stands at the end of its way.
use Rattle.std.proofs.Common.{ℕ, ◌≡◌, ◌∙◌, ◌+◌, ◌<◌, ◌≤◌, max, sym, ap, subst, IfErr, Ok, Err, arith}
use Rattle.std.proofs.lemmas.Result.{IfOk-weaker, MatchResult-weaker}
use Rattle.std.specs.Prelude.{Result}
use Rattle.core_term.specs.Run.{Run}
use Rattle.delta_state.specs.StateTree.{StateTree}
use Rattle.machine_parts.specs.declared.stop.Stop.{Stop}
use Rattle.machine_parts.specs.declared.stop.Stop.TheVariants.{Memory, Spent, Deep}
use Rattle.template_state.specs.declared.code.Code.{Code}
use Rattle.delta_code.specs.declared.begun.Begun.{Begun}
use Rattle.delta_code.specs.declared.way.Way.{Way}
use Rattle.delta_code.specs.declared.way.Reached.{Reached}
use Rattle.delta_code.specs.declared.way.Reached.TheVariants.{Given}
use Rattle.delta_code.specs.Begun.{run_of, rest_of}
use Rattle.delta_code.specs.Eased.{Eased}
use Rattle.delta_code.specs.Gives.{Gives, Leads}
use Rattle.delta_code.specs.Way.{within, after, reached_run, reached_rest}
use Rattle.delta_code.proofs.Easing.{eased_same, eased_then, within_eased}
use Rattle.delta_code.proofs.Giving.{stopped}

-- one stops on the way, and says of the run what is so
pub lost : (stop : Stop) (c : Code) (k : ℕ) (v w : Way) (x : Run) (s : StateTree) (n l : ℕ) → (stop ≡ Spent → n < x.calls) → (stop ≡ Deep → l < x.level) → Leads (Err stop) c k v w x s n l
lost stop c k v w x s n l f g = record { run = tt; rest = tt; counted = tt; shallow = tt; spent = f; deep = g }

-- memory was refused
pub lead_refused : (c : Code) (k : ℕ) (v w : Way) (x : Run) (s : StateTree) (n l : ℕ) → Leads (Err Memory) c k v w x s n l
lead_refused c k v w x s n l = lost Memory c k v w x s n l (λ q. cc) (λ q. cc)

-- a part stops, or the arguments of a call do
pub lead_stops : {stop : Stop} {c : Code} {k : ℕ} {v w : Way} {y z : Run} {t u : StateTree} {m n j l : ℕ} → (m < y.calls → n < z.calls) → (j < y.level → l < z.level) → Gives (Err stop) y t m j → Leads (Err stop) c k v w z u n l
lead_stops {stop} {c} {k} {v} {w} {y} {z} {t} {u} {m} {n} {j} {l} f g h = lost stop c k v w z u n l (λ q. f (h.spent q)) (λ q. g (h.deep q))

-- one stops on the way that began where one stands
pub way_stops : {stop : Stop} {c : Code} {k : ℕ} {v w : Way} {x : Run} {s : StateTree} {n l : ℕ} → Leads (Err stop) c k v w x s n l → Gives (Err stop) x s n l
way_stops {stop} {c} {k} {v} {w} {x} {s} {n} {l} h = stopped stop x s n l h.spent h.deep

-- what is given at the end of a way that began where one stands
pub arrives : {q : Result Begun Stop} {e : Reached} {c : Code} {k : ℕ} {v w : Way} {x : Run} {s : StateTree} {n l : ℕ}
    → ((a : Run) → after v a ≡ a) → ((t : StateTree) → within v.layers t ≡ t)
    → Leads (Ok e) c k v w x s n l
    → Gives q (after w (reached_run c k e)) (within w.layers (reached_rest c k e)) n l
    → Gives q x s n l
arrives {q} {e} {c} {k} {v} {w} {x} {s} {n} {l} here there h g =
    let same : after w (reached_run c k e) ≡ x = h.run ∙ here x in
    record {
      run = IfOk-weaker q _ _ (λ a p. p ∙ same) g.run;
      rest = IfOk-weaker q _ _ (λ a p. eased_then (eased_same (sym (there s))) (eased_then h.rest p)) g.rest;
      counted = g.counted;
      shallow = g.shallow;
      spent = subst (λ (z : Run). IfErr q (λ stop. stop ≡ Spent → n < z.calls)) same g.spent;
      deep = subst (λ (z : Run). IfErr q (λ stop. stop ≡ Deep → l < z.level)) same g.deep;
    }

-- what is led to from further on the way
pub onward : {q : Result Reached Stop} {c : Code} {k : ℕ} {v mid w : Way} {x y : Run} {s t : StateTree} {n m l j : ℕ}
    → Leads q c k mid w y t m j
    → after mid y ≡ after v x
    → Eased (within v.layers s) (within mid.layers t)
    → mid.calls + m ≤ v.calls + n
    → max mid.level j ≤ max v.level l
    → (m < y.calls → n < x.calls)
    → (j < y.level → l < x.level)
    → Leads q c k v w x s n l
onward {q} h same eased counted shallow spent deep =
    record {
      run = IfOk-weaker q _ _ (λ e p. p ∙ same) h.run;
      rest = IfOk-weaker q _ _ (λ e p. eased_then eased p) h.rest;
      counted = IfOk-weaker q _ _ (λ e p. omega (arith, p, counted)) h.counted;
      shallow = IfOk-weaker q _ _ (λ e p. omega (arith, p, shallow)) h.shallow;
      spent = MatchResult-weaker q h.spent (λ e u. u) (λ stop p z. spent (p z));
      deep = MatchResult-weaker q h.deep (λ e u. u) (λ stop p z. deep (p z));
    }

-- the same run, with more round the place alone
pub further_in : {q : Result Reached Stop} {c : Code} {k : ℕ} {v mid w : Way} {x : Run} {s t : StateTree} {n l : ℕ}
    → mid.items ≡ v.items → mid.calls ≡ v.calls → mid.level ≡ v.level
    → within mid.layers t ≡ within v.layers s
    → Leads q c k mid w x t n l
    → Leads q c k v w x s n l
further_in {v = v} {x = x} items calls level layers h =
    onward h (λ i. after (record { items = items i; calls = calls i; level = level i; layers = v.layers }) x) (eased_same (sym layers)) (omega (arith, calls)) (omega (arith, level)) (λ f. f) (λ f. f)

-- the same run and the same state under other names
pub same_leads : {q : Result Reached Stop} {c : Code} {k : ℕ} {v w : Way} {x y : Run} {s t : StateTree} {n l : ℕ} → x ≡ y → s ≡ t → Leads q c k v w x s n l → Leads q c k v w y t n l
same_leads {q} {c} {k} {v} {w} {x} {y} {s} {t} {n} {l} e f h = subst (λ (z : Run). Leads q c k v w z t n l) e (subst (λ (z : StateTree). Leads q c k v w x z n l) f h)

-- something is given where one stands
pub lead_given : (a : Begun) (c : Code) (k : ℕ) (w : Way) (x : Run) (s : StateTree) (n l : ℕ) → run_of a ≡ x → Eased s (rest_of a) → a.calls ≤ n → a.level ≤ l → Leads (Ok (Given a)) c k w w x s n l
lead_given a c k w x s n l e f h i =
    record {
      run = ap (after w) e;
      rest = within_eased w.layers f;
      counted = omega (arith, h);
      shallow = omega (arith, i);
      spent = tt;
      deep = tt;
    }
