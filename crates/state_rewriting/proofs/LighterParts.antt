-- Where a part is replaced by one whose runs are lighter, so are the runs of the whole: once for any
-- replacement.
--
-- A state is looked at on one input and on a longer one at once. On both the lighter one gives the same, and
-- makes no call at a greater level; on the first it makes no more calls, and from the one to the other its
-- calls rise no more. So it makes no more calls on the longer one too.
use Rattle.std.proofs.Common.{◌≡◌, ◌∙◌, ◌≤◌, ◌+◌, ℕ, Bool, true, false, ◌&&◌, ◌||◌, List, [], ◌∷◌, ap, ap₂, refl, subst, sym, arith}
use Rattle.std.specs.List.{All}
use Rattle.stream_type.specs.StreamType.{StreamType, cat, par}
use Rattle.stream_prefix.specs.StreamPrefix.{StreamPrefix, eps_emp, par_both, is_maximal, IsPart}
use Rattle.stream_prefix.proofs.Derivations.{Derives}
use Rattle.bunch.specs.Names.{put, holds, value_at}
use Rattle.bunch.specs.Facts.{place_like, place_let}
use Rattle.core_term.specs.CoreTerm.{CoreBody, fun_at}
use Rattle.core_term.specs.Environment.{Environment, NameTypes}
use Rattle.core_term.specs.Inert.{is_inert_fun}
use Rattle.core_term.specs.Parts.{par_left, par_right, cat_first, cat_second, left_part, right_part, first_part, second_part}
use Rattle.core_term.specs.Run.{Run, Runs, deeper, par_run, cat_run_at, cat_run, let_run, run_before, frame_run}
use Rattle.core_term.specs.Typing.{Context, IsTypedBody}
use Rattle.core_term.proofs.TypedTerms.{Extends, type_in, extends_name}
use Rattle.core_term.proofs.GrowingRuns.{Streams, Continues, par_parts, cat_parts, par_parts_grow, cat_parts_grow, streams_put, streams_put_two, continues_put, continues_put_two}
use Rattle.delta_state.specs.StateTree.{StateTree, ArgumentTrees, is_var_state, argument_names, free_in_state}
use Rattle.delta_state.specs.StateMeaning.{types_of_arguments, run_later, run_state, run_arguments}
use Rattle.delta_state.specs.StateTyping.{HasStateType, HaveArgumentTypes, context_of_arguments, no_pasts}
use Rattle.delta_state.proofs.HeldNames.{arguments_extend}
use Rattle.delta_state.proofs.GrowingStates.{state_run_grows, arguments_run_grow}
use Rattle.state_rewriting.specs.Rewriting.{Replaced, ReplacedArgument, here, in_left, in_right, in_first, in_bound, in_let, in_let_par, in_let_cat, in_arguments, in_body, at_first, at_other}
use Rattle.state_rewriting.proofs.FittingParts.{par_form, cat_form}

-- runs a and a' of a state on an input and on a longer one, and x and x' of a lighter one; v and w say whether
-- the states are names. A body on a name, or on what is whole, stands no deeper than its caller: if that is so of
-- the state, it is so of the lighter one
pub record Lighter (v w : Bool) (a a' x x' : Run) : Type 0 where
  pub out : a.out ≡ x.out
  pub next : a'.out ≡ x'.out
  pub calls : x.calls ≤ a.calls
  pub rise : x'.calls + a.calls ≤ a'.calls + x.calls
  pub level : x.level ≤ a.level
  pub next_level : x'.level ≤ a'.level
  pub shut : (v || is_maximal a.out) ≡ true → (w || is_maximal x.out) ≡ true
  pub next_shut : (v || is_maximal a'.out) ≡ true → (w || is_maximal x'.out) ≡ true

-- runs of all arguments of a frame, and of others that cost no more, whatever they give
pub record CostLess (a a' x x' : Runs) : Type 0 where
  pub calls : x.calls ≤ a.calls
  pub rise : x'.calls + a.calls ≤ a'.calls + x.calls
  pub level : x.level ≤ a.level
  pub next_level : x'.level ≤ a'.level
  pub shut : a.are_shut ≡ true → x.are_shut ≡ true
  pub next_shut : a'.are_shut ≡ true → x'.are_shut ≡ true

-- and give the same
pub record LighterAll (a a' x x' : Runs) : Type 0 where
  pub outs : a.outs ≡ x.outs
  pub next : a'.outs ≡ x'.outs
  pub costs : CostLess a a' x x'

-- a run may give way to an equal one, on the lighter side
pub lighter_to : {v w : Bool} {a a' x x' y y' : Run} → x ≡ y → x' ≡ y' → Lighter v w a a' x x' → Lighter v w a a' y y'
lighter_to {v = v} {w = w} {a = a} {a' = a'} {x = x} {y' = y'} e e' h = subst (λ q. Lighter v w a a' q y') e (subst (λ q. Lighter v w a a' x q) e' h)

-- and on the other
pub lighter_from : {v w : Bool} {a a' b b' x x' : Run} → a ≡ b → a' ≡ b' → Lighter v w a a' x x' → Lighter v w b b' x x'
lighter_from {v = v} {w = w} {a = a} {b' = b'} {x = x} {x' = x'} e e' h = subst (λ q. Lighter v w q b' x x') e (subst (λ q. Lighter v w a q x x') e' h)

-- what gives the same is whole where the other is
still_shut : (v : Bool) (p q : StreamPrefix) → p ≡ q → (v || is_maximal p) ≡ true → (v || is_maximal q) ≡ true
still_shut v p q e h = sym (ap (λ u. v || is_maximal u) e) ∙ h

-- a lower level, in a call that is at its caller's level if the other is, stays lower
pub deeper_less : (c c' : Bool) (l l' : ℕ) → l' ≤ l → (c ≡ true → c' ≡ true) → deeper c' l' ≤ deeper c l
deeper_less true true l l' h f = h
deeper_less true false l l' h f = absurd (let no : false ≡ true = f refl in let none : ⊥ = cc in none)
deeper_less false true l l' h f = omega (arith, h)
deeper_less false false l l' h f = omega (arith, h)

-- a lighter side makes a lighter pair
lighter_left : {v w : Bool} {a a' x x' : Run} → Lighter v w a a' x x' → (b b' : Run) → Lighter false false (par_run a b) (par_run a' b') (par_run x b) (par_run x' b')
lighter_left h b b' =
    let o = ap (λ p. par_both p b.out) h.out in
    let n = ap (λ p. par_both p b'.out) h.next in
    record {
      out = o;
      next = n;
      calls = omega (arith, h.calls);
      rise = omega (arith, h.rise);
      level = omega (arith, h.level);
      next_level = omega (arith, h.next_level);
      shut = still_shut false _ _ o;
      next_shut = still_shut false _ _ n;
    }

-- so does a lighter right side
lighter_right : {v w : Bool} {a a' x x' : Run} → Lighter v w a a' x x' → (b b' : Run) → Lighter false false (par_run b a) (par_run b' a') (par_run b x) (par_run b' x')
lighter_right h b b' =
    let o = ap (λ p. par_both b.out p) h.out in
    let n = ap (λ p. par_both b'.out p) h.next in
    record {
      out = o;
      next = n;
      calls = omega (arith, h.calls);
      rise = omega (arith, h.rise);
      level = omega (arith, h.level);
      next_level = omega (arith, h.next_level);
      shut = still_shut false _ _ o;
      next_shut = still_shut false _ _ n;
    }

-- a lighter first part makes a lighter sequence: it gives the same. c says whether the first part is whole, so
-- that the second runs
cat_out : (c : Bool) (a x b : Run) → a.out ≡ x.out → (cat_run_at c a b).out ≡ (cat_run_at c x b).out
cat_out true a x b e = cc e
cat_out false a x b e = cc e

-- no more calls
cat_calls : (c : Bool) (a x b : Run) → x.calls ≤ a.calls → (cat_run_at c x b).calls ≤ (cat_run_at c a b).calls
cat_calls true a x b h = omega (arith, h)
cat_calls false a x b h = h

-- none at a greater level
cat_level : (c : Bool) (a x b : Run) → x.level ≤ a.level → (cat_run_at c x b).level ≤ (cat_run_at c a b).level
cat_level true a x b h = omega (arith, h)
cat_level false a x b h = h

-- and their rise
cat_rise : (c c' : Bool) (a a' x x' b b' : Run) → x'.calls + a.calls ≤ a'.calls + x.calls → (cat_run_at c' x' b').calls + (cat_run_at c a b).calls ≤ (cat_run_at c' a' b').calls + (cat_run_at c x b).calls
cat_rise true true a a' x x' b b' h = omega (arith, h)
cat_rise true false a a' x x' b b' h = omega (arith, h)
cat_rise false true a a' x x' b b' h = omega (arith, h)
cat_rise false false a a' x x' b b' h = h

-- all of it, for given answers of the first parts
lighter_cat_at : (c c' : Bool) {v w : Bool} {a a' x x' : Run} → Lighter v w a a' x x' → (b b' : Run) → Lighter false false (cat_run_at c a b) (cat_run_at c' a' b') (cat_run_at c x b) (cat_run_at c' x' b')
lighter_cat_at c c' {a = a} {a' = a'} {x = x} {x' = x'} h b b' =
    let o = cat_out c a x b h.out in
    let n = cat_out c' a' x' b' h.next in
    record {
      out = o;
      next = n;
      calls = cat_calls c a x b h.calls;
      rise = cat_rise c c' a a' x x' b b' h.rise;
      level = cat_level c a x b h.level;
      next_level = cat_level c' a' x' b' h.next_level;
      shut = still_shut false _ _ o;
      next_shut = still_shut false _ _ n;
    }

-- both first parts are whole or neither is
lighter_cat : {v w : Bool} {a a' x x' : Run} → Lighter v w a a' x x' → (b b' : Run) → Lighter false false (cat_run a b) (cat_run a' b') (cat_run x b) (cat_run x' b')
lighter_cat {a = a} {a' = a'} {x = x} {x' = x'} h b b' =
    lighter_to (ap (λ p. cat_run_at (is_maximal p) x b) h.out) (ap (λ p. cat_run_at (is_maximal p) x' b') h.next) (lighter_cat_at (is_maximal a.out) (is_maximal a'.out) h b b')

-- as parts of other states they are no names, and what they give decides
pub lighter_inside : {v w : Bool} {a a' x x' : Run} → Lighter v w a a' x x' → Lighter false false a a' x x'
lighter_inside {a = a} {a' = a'} {x = x} {x' = x'} h = record {
  out = h.out;
  next = h.next;
  calls = h.calls;
  rise = h.rise;
  level = h.level;
  next_level = h.next_level;
  shut = still_shut false a.out x.out h.out;
  next_shut = still_shut false a'.out x'.out h.next;
}

-- one after the other
pub lighter_then : {u v w : Bool} {a a' x x' y y' : Run} → Lighter u v a a' x x' → Lighter v w x x' y y' → Lighter u w a a' y y'
lighter_then h k = record {
  out = h.out ∙ k.out;
  next = h.next ∙ k.next;
  calls = omega (arith, h.calls, k.calls);
  rise = omega (arith, h.rise, k.rise);
  level = omega (arith, h.level, k.level);
  next_level = omega (arith, h.next_level, k.next_level);
  shut = λ e. k.shut (h.shut e);
  next_shut = λ e. k.next_shut (h.next_shut e);
}

-- arguments that cost no more, and on which the body gives the same, make a lighter frame
pub less_frame : {a a' x x' : Runs} → CostLess a a' x x' → (b b' : Run) → Lighter false false (frame_run a b) (frame_run a' b') (frame_run x b) (frame_run x' b')
less_frame {a = a} {a' = a'} {x = x} {x' = x'} h b b' =
    let l = deeper_less a.are_shut x.are_shut b.level b.level (omega arith) h.shut in
    let n = deeper_less a'.are_shut x'.are_shut b'.level b'.level (omega arith) h.next_shut in
    let l' = deeper_less false false a.level x.level h.level (λ e. e) in
    let n' = deeper_less false false a'.level x'.level h.next_level (λ e. e) in
    record {
      out = refl;
      next = refl;
      calls = omega (arith, h.calls);
      rise = omega (arith, h.rise);
      level = omega (arith, l, l');
      next_level = omega (arith, n, n');
      shut = λ e. e;
      next_shut = λ e. e;
    }

-- so do lighter arguments
lighter_arguments : {a a' x x' : Runs} → LighterAll a a' x x' → (b b' : List StreamPrefix → Run) → Lighter false false (frame_run a (b a.outs)) (frame_run a' (b' a'.outs)) (frame_run x (b x.outs)) (frame_run x' (b' x'.outs))
lighter_arguments {a = a} {a' = a'} {x = x} {x' = x'} h b b' =
    lighter_to (ap (λ os. frame_run x (b os)) h.outs) (ap (λ os. frame_run x' (b' os)) h.next) (less_frame h.costs (b a.outs) (b' a'.outs))

-- and so does a lighter body
pub lighter_body : {v w : Bool} {a a' x x' : Run} → Lighter v w a a' x x' → (b b' : Runs) → Lighter false false (frame_run b a) (frame_run b' a') (frame_run b x) (frame_run b' x')
lighter_body {a = a} {a' = a'} {x = x} {x' = x'} h b b' =
    let l = deeper_less b.are_shut b.are_shut a.level x.level h.level (λ e. e) in
    let n = deeper_less b'.are_shut b'.are_shut a'.level x'.level h.next_level (λ e. e) in
    record {
      out = h.out;
      next = h.next;
      calls = omega (arith, h.calls);
      rise = omega (arith, h.rise);
      level = omega (arith, l);
      next_level = omega (arith, n);
      shut = still_shut false _ _ h.out;
      next_shut = still_shut false _ _ h.next;
    }

-- a let costs what a frame does whose one argument is what it binds
abbrev alone : Bool → Run → Runs
alone v a = record { outs = a.out ∷ []; calls = a.calls; level = a.level; are_shut = v || is_maximal a.out }

-- so a lighter bound part makes a lighter let,
lighter_bound : {v w : Bool} {a a' x x' : Run} → Lighter v w a a' x x' → (b b' : StreamPrefix → Run) → Lighter false false (let_run v a (b a.out)) (let_run v a' (b' a'.out)) (let_run w x (b x.out)) (let_run w x' (b' x'.out))
lighter_bound {v = v} {w = w} {a = a} {a' = a'} {x = x} {x' = x'} h b b' =
    lighter_to (ap (λ p. let_run w x (b p)) h.out) (ap (λ p. let_run w x' (b' p)) h.next)
    (less_frame {a = alone v a} {a' = alone v a'} {x = alone w x} {x' = alone w x'} (record { calls = h.calls; rise = h.rise; level = h.level; next_level = h.next_level; shut = h.shut; next_shut = h.next_shut }) (b a.out) (b' a'.out))

-- and so does a lighter body
pub lighter_let : {v w : Bool} {a a' x x' : Run} → Lighter v w a a' x x' → (u : Bool) (b b' : Run) → Lighter false false (let_run u b a) (let_run u b' a') (let_run u b x) (let_run u b' x')
lighter_let h u b b' = lighter_body h (alone u b) (alone u b')

-- both of two tests follow from both of two others
and_of : (v v' w w' : Bool) → (v ≡ true → v' ≡ true) → (w ≡ true → w' ≡ true) → (v && w) ≡ true → (v' && w') ≡ true
and_of true v' true w' f g h = cc (f refl, g refl)
and_of true v' false w' f g h = absurd (let no : false ≡ true = h in let none : ⊥ = cc in none)
and_of false v' w w' f g h = absurd (let no : false ≡ true = h in let none : ⊥ = cc in none)

-- a lighter argument makes lighter arguments, at the front
lighter_first : {v w : Bool} {a a' x x' : Run} → Lighter v w a a' x x' → (b b' : Runs) → LighterAll (run_before v a b) (run_before v a' b') (run_before w x b) (run_before w x' b')
lighter_first {v = v} {w = w} {a = a} {a' = a'} {x = x} {x' = x'} h b b' = record {
  outs = ap (λ p. p ∷ b.outs) h.out;
  next = ap (λ p. p ∷ b'.outs) h.next;
  costs = record {
    calls = omega (arith, h.calls);
    rise = omega (arith, h.rise);
    level = omega (arith, h.level);
    next_level = omega (arith, h.next_level);
    shut = and_of (v || is_maximal a.out) (w || is_maximal x.out) b.are_shut b.are_shut h.shut (λ e. e);
    next_shut = and_of (v || is_maximal a'.out) (w || is_maximal x'.out) b'.are_shut b'.are_shut h.next_shut (λ e. e);
  };
}

-- arguments that cost no more still do behind another one
pub less_behind : {a a' x x' : Runs} → CostLess a a' x x' → (v : Bool) (b b' : Run) → CostLess (run_before v b a) (run_before v b' a') (run_before v b x) (run_before v b' x')
less_behind {a = a} {a' = a'} {x = x} {x' = x'} h v b b' = record {
  calls = omega (arith, h.calls);
  rise = omega (arith, h.rise);
  level = omega (arith, h.level);
  next_level = omega (arith, h.next_level);
  shut = and_of (v || is_maximal b.out) (v || is_maximal b.out) a.are_shut x.are_shut (λ e. e) h.shut;
  next_shut = and_of (v || is_maximal b'.out) (v || is_maximal b'.out) a'.are_shut x'.are_shut (λ e. e) h.next_shut;
}

-- so lighter ones are lighter behind another one
lighter_other : {a a' x x' : Runs} → LighterAll a a' x x' → (v : Bool) (b b' : Run) → LighterAll (run_before v b a) (run_before v b' a') (run_before v b x) (run_before v b' x')
lighter_other h v b b' = record { outs = ap (λ ps. b.out ∷ ps) h.outs; next = ap (λ ps. b'.out ∷ ps) h.next; costs = less_behind h.costs v b b' }

-- replaced arguments have the same parameters
replaced_names : {names : List ℕ} {R : StreamType → StateTree → StateTree → Type 0} {args others : ArgumentTrees} → ReplacedArgument names R args others → argument_names args ≡ argument_names others
replaced_names (at_first h) = refl
replaced_names (at_other {x = x} h) = ap (λ ns. x ∷ ns) (replaced_names h)

-- and the same types
replaced_types : {names : List ℕ} {R : StreamType → StateTree → StateTree → Type 0} {args others : ArgumentTrees} → ReplacedArgument names R args others → types_of_arguments args ≡ types_of_arguments others
replaced_types (at_first h) = refl
replaced_types (at_other {x = x} {t = t} h) = ap (put x t) (replaced_types h)

-- the runs of b over the types T on d and on e, which goes on from d, are lighter than those of a
abbrev pub LighterState : List CoreBody → NameTypes → StreamType → Environment → Environment → StateTree → StateTree → Type 0
LighterState funs T r d e a b = Lighter (is_var_state a) (is_var_state b) (run_state (fun_at funs) a T r d) (run_state (fun_at funs) a T r e) (run_state (fun_at funs) b T r d) (run_state (fun_at funs) b T r e)

-- what a replacement R of parts needs, outside bindings of the names. Known says what is known there of what
-- comes
pub record LightensLocally (funs : List CoreBody) (names : List ℕ) (R : StreamType → StateTree → StateTree → Type 0) (Known : Environment → Type 0) : Type 0 where
  -- it still is under bindings of other names, and nothing need be known where there are no names
  pub known_put : (d : Environment) (x : ℕ) (p : StreamPrefix) → Known d → holds x names ≡ false → Known (put x p d)
  pub known_any : (d : Environment) → names ≡ [] → Known d
  -- and with it what R puts in is lighter
  pub local : (r : StreamType) (a b : StateTree) → R r a b → (c : Context) (T : NameTypes) → Extends c T no_pasts → HasStateType funs (is_inert_fun funs) c a r → (d e : Environment) → Streams T d → Continues T d e → Known d → Known e → LighterState funs T r d e a b

module _ {funs : List CoreBody} (typed : All (IsTypedBody funs) funs) {names : List ℕ} {R : StreamType → StateTree → StateTree → Type 0} {Known : Environment → Type 0} (q : LightensLocally funs names R Known) where
  mutual
    -- the runs of the whole are lighter
    pub lightens : {r : StreamType} {a b : StateTree} → Replaced names R r a b → (c : Context) (T : NameTypes) → Extends c T no_pasts → HasStateType funs (is_inert_fun funs) c a r → (d e : Environment) → Streams T d → Continues T d e → Known d → Known e → LighterState funs T r d e a b
    lightens (here {r = r} {a = a} {b = b} h) c T w t d e s g k k' = q.local r a b h c T w t d e s g k k'
    lightens (in_left {r = r} {a = a} {b = b} {e = o} h) c T w t d e s g k k' =
        let f = par_form funs (is_inert_fun funs) a o c r t in
        lighter_left (lightens h c T w f.left d e s g k k') (run_state (fun_at funs) o T (par_right r) d) (run_state (fun_at funs) o T (par_right r) e)
    lightens (in_right {r = r} {a = a} {b = b} {e = o} h) c T w t d e s g k k' =
        let f = par_form funs (is_inert_fun funs) o a c r t in
        lighter_right (lightens h c T w f.right d e s g k k') (run_state (fun_at funs) o T (par_left r) d) (run_state (fun_at funs) o T (par_left r) e)
    lightens (in_first {r = r} {a = a} {b = b} {l = l} h) c T w t d e s g k k' =
        let f = cat_form funs (is_inert_fun funs) a l c r t in
        lighter_cat (lightens h c T w f.first d e s g k k') (run_later (fun_at funs) l T (cat_second r) d) (run_later (fun_at funs) l T (cat_second r) e)
    lightens (in_bound {r = r} {s = u} {x = x} {a = a} {b = b} {e = o} h) c T w t d e s g k k' =
        lighter_bound (lightens h c T w t.0 d e s g k k') (λ p. run_state (fun_at funs) o (put x u T) r (put x p d)) (λ p. run_state (fun_at funs) o (put x u T) r (put x p e))
    lightens (in_let {r = r} {s = u} {x = x} {a = a} {b = b} {e = o} nx h) c T w t d e s g k k' =
        let i = state_run_grows funs typed o c T u w t.0 d e s g in
        lighter_let
        (lightens h _ (put x u T) (extends_name c T no_pasts x u u (place_let x (free_in_state o) true c.order) w refl) t.1 (put x (run_state (fun_at funs) o T u d).out d) (put x (run_state (fun_at funs) o T u e).out e)
        (streams_put x u _ T d i.first s) (continues_put x u _ _ T d e i.part g) (q.known_put d x _ k nx) (q.known_put e x _ k' nx)) (is_var_state o) (run_state (fun_at funs) o T u d) (run_state (fun_at funs) o T u e)
    lightens (in_let_par {r = r} {x = x} {y = y} {z = z} {a = a} {b = b} nx ny nz h) c T w t d e s g k k' =
        let same = type_in c T no_pasts w z _ t.1 in
        let form : T z ≡ par (par_left (T z)) (par_right (T z)) = subst (λ t. T z ≡ par (par_left t) (par_right t)) same (w.stream z _ t.1) in
        let hz = subst (λ t. Derives t (d z)) form (s.at z) in
        let i = par_parts hz in
        let j = par_parts_grow hz (subst (λ t. IsPart t (d z) (e z)) form (g.at z)) in
        lighter_inside
        (lightens h _ _ (extends_name _ _ no_pasts y _ _ (place_like y z (place_like x z c.order)) (extends_name c T no_pasts x _ _ (place_like x z c.order) w (ap par_left same)) (ap par_right same)) t.2
        (put y (right_part (d z)) (put x (left_part (d z)) d)) (put y (right_part (e z)) (put x (left_part (e z)) e))
        (streams_put_two x y (par_left (T z)) (par_right (T z)) _ _ T d i.0 i.1 s) (continues_put_two x y (par_left (T z)) (par_right (T z)) _ _ _ _ T d e j.0 j.1 g)
        (q.known_put _ y _ (q.known_put d x _ k nx) ny) (q.known_put _ y _ (q.known_put e x _ k' nx) ny))
    lightens (in_let_cat {r = r} {x = x} {y = y} {z = z} {a = a} {b = b} nx ny nz h) c T w t d e s g k k' =
        let same = type_in c T no_pasts w z _ t.1 in
        let form : T z ≡ cat (cat_first (T z)) (cat_second (T z)) = subst (λ t. T z ≡ cat (cat_first t) (cat_second t)) same (w.stream z _ t.1) in
        let hz = subst (λ t. Derives t (d z)) form (s.at z) in
        let i = cat_parts hz in
        let j = cat_parts_grow hz (subst (λ t. IsPart t (d z) (e z)) form (g.at z)) in
        let both = extends_name _ _ no_pasts y _ _ (place_like y z (place_like x z c.order)) (extends_name c T no_pasts x _ _ (place_like x z c.order) w (ap cat_first same)) (ap cat_second same) in
        lighter_inside
        (lightens h _ _ (record { stream = both.stream; historical = both.historical }) t.2
        (put y (second_part (cat_second (T z)) (d z)) (put x (first_part (d z)) d)) (put y (second_part (cat_second (T z)) (e z)) (put x (first_part (e z)) e))
        (streams_put_two x y (cat_first (T z)) (cat_second (T z)) _ _ T d i.0 i.1 s) (continues_put_two x y (cat_first (T z)) (cat_second (T z)) _ _ _ _ T d e j.0 j.1 g)
        (q.known_put _ y _ (q.known_put d x _ k nx) ny) (q.known_put _ y _ (q.known_put e x _ k' nx) ny))
    lightens (in_arguments {r = r} {args = args} {others = others} {a = a} h) c T w t d e s g k k' =
        let i = lighten_arguments h c T w t.0 d e s g k k' in
        let body : List ℕ → NameTypes → List StreamPrefix → Run = λ ns U os. run_state (fun_at funs) a U r (value_at eps_emp ns os) in
        let same : (X : Runs) → frame_run X (body (argument_names args) (types_of_arguments args) X.outs) ≡ frame_run X (body (argument_names others) (types_of_arguments others) X.outs)
        = λ X. ap₂ (λ ns U. frame_run X (body ns U X.outs)) (replaced_names h) (replaced_types h) in
        lighter_to (same (run_arguments (fun_at funs) others T d)) (same (run_arguments (fun_at funs) others T e)) (lighter_arguments i (body (argument_names args) (types_of_arguments args)) (body (argument_names args) (types_of_arguments args)))
    lightens (in_body {r = r} {args = args} {a = a} {b = b} none h) c T w t d e s g k k' =
        let i = arguments_run_grow funs typed args c T w t.0 d e s g in
        lighter_body (lightens h (context_of_arguments c args) (types_of_arguments args) (arguments_extend c args) t.1 _ _ i.streams i.continues (q.known_any _ none) (q.known_any _ none)) (run_arguments (fun_at funs) args T d) (run_arguments (fun_at funs) args T e)

    -- and those of arguments
    pub lighten_arguments : {args others : ArgumentTrees} → ReplacedArgument names R args others → (c : Context) (T : NameTypes) → Extends c T no_pasts → HaveArgumentTypes funs (is_inert_fun funs) c args → (d e : Environment) → Streams T d → Continues T d e → Known d → Known e
        → LighterAll (run_arguments (fun_at funs) args T d) (run_arguments (fun_at funs) args T e) (run_arguments (fun_at funs) others T d) (run_arguments (fun_at funs) others T e)
    lighten_arguments (at_first {x = x} {t = u} {a = a} {b = b} {args = args} h) c T w t d e s g k k' =
        lighter_first (lightens h c T w t.0 d e s g k k') (run_arguments (fun_at funs) args T d) (run_arguments (fun_at funs) args T e)
    lighten_arguments (at_other {x = x} {t = u} {a = a} {args = args} {others = others} h) c T w t d e s g k k' =
        lighter_other (lighten_arguments h c T w t.1 d e s g k k') (is_var_state a) (run_state (fun_at funs) a T u d) (run_state (fun_at funs) a T u e)
