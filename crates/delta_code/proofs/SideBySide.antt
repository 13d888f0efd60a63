-- States that stand beside each other: on which names something comes, which state stays as it is, and that a state
-- goes on by the entries alone whose names it uses.
use Rattle.std.proofs.Common.{ℕ, ◌≡◌, ◌∙◌, ◌+◌, ◌<◌, ◌++◌, Bool, true, false, true≢false, List, [], ◌∷◌, eqb, if◌then◌else◌, refl, sym, ap, Ok, Err, arith}
use Rattle.std.proofs.lemmas.Bool.{eqb-true}
use Rattle.std.proofs.lemmas.List.Elements.{All-head, All-tail}
use Rattle.std.specs.Prelude.{max}
use Rattle.stream_type.specs.StreamType.{StreamType, par}
use Rattle.stream_prefix.specs.StreamPrefix.{emp, der}
use Rattle.stream_prefix.proofs.Joins.{der-emp}
use Rattle.bunch.specs.Names.{holds}
use Rattle.bunch.proofs.Tests.{and_first, and_second}
use Rattle.core_term.specs.CoreTerm.{CoreBody, fun_at}
use Rattle.core_term.specs.Environment.{NameTypes}
use Rattle.core_term.specs.Inert.{is_inert_fun}
use Rattle.core_term.specs.Run.{Run, par_run, quiet}
use Rattle.core_term.proofs.FreeRuns.{Alike}
use Rattle.core_term.proofs.InertRuns.{EmptyOn}
use Rattle.delta_state.specs.StateTree.{HeldName, StateTree, par_state, free_in_state}
use Rattle.delta_state.specs.StateMeaning.{types_held, prefixes_held, run_state}
use Rattle.delta_state.specs.Rest.{rest_of}
use Rattle.delta_state.specs.Laws.{GivesNothing}
use Rattle.delta_state.specs.Settled.{is_settled}
use Rattle.delta_state.proofs.SettledStates.{settled_nothing}
use Rattle.state_steps.proofs.FreeStateRuns.{state_same}
use Rattle.state_rewriting.specs.Rewriting.{SimplerBy}
use Rattle.state_rewriting.proofs.RewritingsInside.{by_same, by_then, by_par}
use Rattle.state_rewriting.proofs.StillStates.{stays}
use Rattle.machine_parts.specs.declared.stop.Stop.{Stop}
use Rattle.machine_parts.specs.declared.stop.Stop.TheVariants.{Spent, Deep}
use Rattle.delta_code.specs.declared.told.Told.{Told}
use Rattle.delta_code.specs.Beside.{UntouchedBut, used_of, IsReady, IsBeside, Advances}
use Rattle.delta_code.specs.GoesOn.{GoesOn}
use Rattle.delta_code.specs.Told.{told}
use Rattle.delta_code.proofs.FreeStateRests.{state_rest_same, typed_holds_free}

-- a name other than that one has nothing on it
untouched_at : (x : ℕ) (entries : List HeldName) → UntouchedBut x entries → (y : ℕ) → eqb y x ≡ false → prefixes_held entries y ≡ emp (types_held entries y)
untouched_at x [] h y n = refl
untouched_at x (e ∷ entries) h y n = go (untouched_at x entries (record { at = All-tail (λ (f : HeldName). eqb f.name x ≡ false → f.prefix ≡ emp f.type) e entries h.at }) y n) (eqb y e.name) refl
  where
    go : prefixes_held entries y ≡ emp (types_held entries y) → (b : Bool) → eqb y e.name ≡ b → (if b then e.prefix else prefixes_held entries y) ≡ emp (if b then e.type else types_held entries y)
    go rest true m = All-head (λ (f : HeldName). eqb f.name x ≡ false → f.prefix ≡ emp f.type) e entries h.at (ap (λ z. eqb z x) (sym (eqb-true y e.name m)) ∙ n)
    go rest false m = rest

-- so nothing comes on names among which that one isn't
pub untouched_on : (x : ℕ) (entries : List HeldName) (names : List ℕ) → UntouchedBut x entries → holds x names ≡ false → EmptyOn names (types_held entries) (prefixes_held entries)
untouched_on x entries names h none = record { at = λ y m. untouched_at x entries h y (other y m (eqb y x) refl) }
  where
    other : (y : ℕ) → holds y names ≡ true → (b : Bool) → eqb y x ≡ b → eqb y x ≡ false
    other y m true e = absurd (true≢false (sym m ∙ (ap (λ z. holds z names) (eqb-true y x e) ∙ none)))
    other y m false e = e

-- at names that are used, the entries with these names have what all have
used_types : (names : List ℕ) (entries : List HeldName) (y : ℕ) → holds y names ≡ true → types_held (used_of names entries) y ≡ types_held entries y
used_types names [] y m = refl
used_types names (e ∷ entries) y m = go (used_types names entries y m) (holds e.name names) refl (eqb y e.name) refl
  where
    go : types_held (used_of names entries) y ≡ types_held entries y → (b : Bool) → holds e.name names ≡ b → (c : Bool) → eqb y e.name ≡ c → types_held (if b then e ∷ used_of names entries else used_of names entries) y ≡ (if c then e.type else types_held entries y)
    go rest true i true n = ap (λ d. if d then e.type else types_held (used_of names entries) y) n
    go rest true i false n = ap (λ d. if d then e.type else types_held (used_of names entries) y) n ∙ rest
    go rest false i true n = absurd (true≢false (sym m ∙ (ap (λ z. holds z names) (eqb-true y e.name n) ∙ i)))
    go rest false i false n = rest

used_prefixes : (names : List ℕ) (entries : List HeldName) (y : ℕ) → holds y names ≡ true → prefixes_held (used_of names entries) y ≡ prefixes_held entries y
used_prefixes names [] y m = refl
used_prefixes names (e ∷ entries) y m = go (used_prefixes names entries y m) (holds e.name names) refl (eqb y e.name) refl
  where
    go : prefixes_held (used_of names entries) y ≡ prefixes_held entries y → (b : Bool) → holds e.name names ≡ b → (c : Bool) → eqb y e.name ≡ c → prefixes_held (if b then e ∷ used_of names entries else used_of names entries) y ≡ (if c then e.prefix else prefixes_held entries y)
    go rest true i true n = ap (λ d. if d then e.prefix else prefixes_held (used_of names entries) y) n
    go rest true i false n = ap (λ d. if d then e.prefix else prefixes_held (used_of names entries) y) n ∙ rest
    go rest false i true n = absurd (true≢false (sym m ∙ (ap (λ z. holds z names) (eqb-true y e.name n) ∙ i)))
    go rest false i false n = rest

used_alike : (names : List ℕ) (entries : List HeldName) → Alike names (types_held (used_of names entries)) (types_held entries) (prefixes_held (used_of names entries)) (prefixes_held entries)
used_alike names entries = record { at = λ y m. (used_types names entries y m, used_prefixes names entries y m) }

-- those of two lists are those of each
pub used_append : (names : List ℕ) (entries more : List HeldName) → used_of names (entries ++ more) ≡ used_of names entries ++ used_of names more
used_append names [] more = refl
used_append names (e ∷ entries) more = go (used_append names entries more) (holds e.name names)
  where
    go : used_of names (entries ++ more) ≡ used_of names entries ++ used_of names more → (b : Bool) → (if b then e ∷ used_of names (entries ++ more) else used_of names (entries ++ more)) ≡ (if b then e ∷ used_of names entries else used_of names entries) ++ used_of names more
    go rest true = ap (λ es. e ∷ es) rest
    go rest false = rest

-- each of two states beside each other is ready where both are
pub ready_left : {funs : List CoreBody} {T : NameTypes} {a b : StateTree} {t u : StreamType} → IsReady funs T (par_state a b) (par t u) → IsReady funs T a t
ready_left {a = a} {b = b} {t = t} {u = u} h = record { context = h.context; in_context = h.in_context; typed = h.typed.0; settled = and_first (is_settled a t) (is_settled b u) h.settled }

pub ready_right : {funs : List CoreBody} {T : NameTypes} {a b : StateTree} {t u : StreamType} → IsReady funs T (par_state a b) (par t u) → IsReady funs T b u
ready_right {a = a} {b = b} {t = t} {u = u} h = record { context = h.context; in_context = h.in_context; typed = h.typed.1; settled = and_second (is_settled a t) (is_settled b u) h.settled }

pub beside_left : {x : ℕ} {entries : List HeldName} {funs : List CoreBody} {a b : StateTree} {t u : StreamType} → IsBeside x entries funs (par_state a b) (par t u) → IsBeside x entries funs a t
beside_left h = record { touched = h.touched; ready = ready_left h.ready }

pub beside_right : {x : ℕ} {entries : List HeldName} {funs : List CoreBody} {a b : StateTree} {t u : StreamType} → IsBeside x entries funs (par_state a b) (par t u) → IsBeside x entries funs b u
beside_right h = record { touched = h.touched; ready = ready_right h.ready }

module _ (funs : List CoreBody) (entries : List HeldName) where
  -- a state that is ready gives nothing where nothing comes on its free names, and stays as it is,
  pub gives_nothing : (s : StateTree) (r : StreamType) → IsReady funs (types_held entries) s r → EmptyOn (free_in_state s) (types_held entries) (prefixes_held entries)
      → GivesNothing r (run_state (fun_at funs) s (types_held entries) r (prefixes_held entries))
  gives_nothing s r h e = settled_nothing funs (is_inert_fun funs) s h.context (types_held entries) h.context.past r (record { stream = h.in_context; historical = λ x t i. i }) h.typed h.settled (prefixes_held entries) e

  pub stays_as_it_is : (s : StateTree) (r : StreamType) → IsReady funs (types_held entries) s r → EmptyOn (free_in_state s) (types_held entries) (prefixes_held entries)
      → rest_of (fun_at funs) s (types_held entries) r (prefixes_held entries) ≡ s
  stays_as_it_is s r h e = stays funs (is_inert_fun funs) s h.context (types_held entries) h.context.past r (record { stream = h.in_context; historical = λ x t i. i }) h.typed h.settled (prefixes_held entries) e

  -- it goes on by the entries alone whose names it uses
  pub used_run : (s : StateTree) (r : StreamType)
      → run_state (fun_at funs) s (types_held (used_of (free_in_state s) entries)) r (prefixes_held (used_of (free_in_state s) entries)) ≡ run_state (fun_at funs) s (types_held entries) r (prefixes_held entries)
  used_run s r = state_same (fun_at funs) s _ _ r _ _ (used_alike (free_in_state s) entries)

  pub used_rest : (s : StateTree) (r : StreamType) → IsReady funs (types_held entries) s r
      → rest_of (fun_at funs) s (types_held (used_of (free_in_state s) entries)) r (prefixes_held (used_of (free_in_state s) entries)) ≡ rest_of (fun_at funs) s (types_held entries) r (prefixes_held entries)
  used_rest s r h = state_rest_same (fun_at funs) s _ _ r _ _ (typed_holds_free funs (is_inert_fun funs) s h.context r h.typed) (used_alike (free_in_state s) entries)

-- a step stops, and says of the run what is so
pub ends : {stop : Stop} {x : Run} {s v : StateTree} {t u : StreamType} {n l : ℕ} → (stop ≡ Spent → n < x.calls) → (stop ≡ Deep → l < x.level) → Advances (Err stop) x s v t u n l
ends f g = record { run = tt; rest = tt; output = tt; counted = tt; shallow = tt; spent = f; deep = g }

-- the first of two sides stops
pub side_ends : (y : Run) {stop : Stop} {x : Run} {s v w z : StateTree} {t t' u u' : StreamType} {n l : ℕ} → Advances (Err stop) x s v t t' n l → Advances (Err stop) (par_run x y) w z u u' n l
side_ends y {x = x} h = ends (λ q. let few = h.spent q in omega (arith, few)) (λ q. let low = h.deep q in omega (arith, low))

-- or the second
pub other_ends : (a : Told) (stop : Stop) (x y : Run) (s v w z : StateTree) (t t' u u' : StreamType) (n m l : ℕ) → Advances (Ok a) x s v t t' n l → a.calls + m ≡ n → Advances (Err stop) y w z u u' m l → Advances (Err stop) (par_run x y) (par_state s w) (par_state v z) (par t u) (par t' u') n l
other_ends a stop x y s v w z t t' u u' n m l h e k =
    let same : a.calls ≡ x.calls = ap (λ (r : Run). r.calls) h.run in
    ends (λ q. let more = k.spent q in omega (arith, more, e, same)) (λ q. let high = k.deep q in omega (arith, high))

-- both go on
pub sides_go : (a b whole : Told) (x y : Run) (s v w z : StateTree) (t t' u u' : StreamType) (n m l : ℕ) → told whole ≡ par_run (told a) (told b) → Advances (Ok a) x s v t t' n l → a.calls + m ≡ n → Advances (Ok b) y w z u u' m l → Advances (Ok whole) (par_run x y) (par_state s w) (par_state v z) (par t u) (par t' u') n l
sides_go a b whole x y s v w z t t' u u' n m l made h e k =
    let calls : whole.calls ≡ a.calls + b.calls = ap (λ (r : Run). r.calls) made in
    let level : whole.level ≡ max a.level b.level = ap (λ (r : Run). r.level) made in
    let few = k.counted in
    let low = h.shallow in
    let lower = k.shallow in
    record {
      run = made ∙ (λ i. par_run (h.run i) (k.run i));
      rest = by_par h.rest k.rest;
      output = λ i. par (h.output i) (k.output i);
      counted = omega (arith, calls, few, e);
      shallow = omega (arith, level, low, lower);
      spent = tt;
      deep = tt;
    }

-- a state that rests
pub rests : (a : Told) (r : StreamType) (x : Run) (s v : StateTree) (n l : ℕ) → told a ≡ quiet (emp r) → GivesNothing r x → s ≡ v → Advances (Ok a) x s v r r n l
rests a r x s v n l is nothing same =
    let calls : a.calls ≡ 0 = ap (λ (q : Run). q.calls) is in
    let level : a.level ≡ 0 = ap (λ (q : Run). q.level) is in
    let same_run : x ≡ quiet (emp r) = λ i. record { out = nothing.out i; calls = nothing.calls i; level = nothing.level i } in
    record {
      run = is ∙ sym same_run;
      rest = by_same same;
      output = sym (ap (λ p. der p r) nothing.out ∙ der-emp r);
      counted = omega (arith, calls);
      shallow = omega (arith, level);
      spent = tt;
      deep = tt;
    }

-- a state goes on, its type is moved on, and it is put into a simpler form
pub goes_right : (a : Told) (x : Run) (s v w : StateTree) (before after : StreamType) (n l : ℕ) → GoesOn (Ok a) x s v n l → after ≡ der (told a).out before → SimplerBy after v w → Advances (Ok a) x s w before after n l
goes_right a x s v w before after n l h moved simpler =
    record {
      run = h.run;
      rest = by_then (h.rest.at after) simpler;
      output = moved ∙ ap (λ (r : Run). der r.out before) h.run;
      counted = h.counted;
      shallow = h.shallow;
      spent = tt;
      deep = tt;
    }

-- it stops
pub goes_wrong : {stop : Stop} {x : Run} {s v w : StateTree} {before after : StreamType} {n l : ℕ} → GoesOn (Err stop) x s v n l → Advances (Err stop) x s w before after n l
goes_wrong h = ends h.spent h.deep
