-- What is kept of a kept state is typed, and goes on just as that state; and where that was kept of a program, it goes
-- on just as the program.
use Rattle.std.proofs.Common.{◌≡◌, ◌∙◌, ◌≤◌, ◌+◌, ◌^◌, ℕ, ap, ap₂, refl, subst, sym, arith}
use Rattle.std.proofs.lemmas.List.{length-map}
use Rattle.std.specs.Prelude.{pred}
use Rattle.stream_prefix.specs.StreamPrefix.{StreamPrefix, der, join}
use Rattle.stream_prefix.proofs.Derivations.{Derives, derives, is_prefix}
use Rattle.stream_prefix.proofs.Joins.{der-join, join_assoc, join_is_prefix, reach_of-der}
use Rattle.bunch.specs.BunchTree.{as_type, leaf_names}
use Rattle.core_term.specs.CoreTerm.{CoreProgram, fun_at}
use Rattle.core_term.specs.Inert.{is_inert_fun}
use Rattle.core_term.specs.Meaning.{mean, calls_of, level_of}
use Rattle.core_term.specs.Run.{Run}
use Rattle.delta_state.specs.StateTree.{StateTree}
use Rattle.delta_state.specs.StateMeaning.{run_state}
use Rattle.delta_state.specs.StateTyping.{HasStateType}
use Rattle.delta_state.specs.Stands.{input_type, output_left, depth_after}
use Rattle.state_steps.specs.Laws.{IsRunnable}
use Rattle.state_steps.proofs.RunnablePrograms.{distinct_params, mean_derives}
use Rattle.kept_state.specs.KeptTree.{KeptTree}
use Rattle.kept_state.specs.KeptNames.{IsTidy}
use Rattle.kept_state.specs.KeptPlace.{rest_bunch, IsPlace, split_rest, context_over}
use Rattle.kept_state.specs.KeptTyping.{types_kept, IsTypedKept}
use Rattle.kept_state.specs.KeptMeaning.{input_kept, split_kept, split_kept_after, run_kept, mean_kept, calls_kept, level_kept, types_since, output_since, rest_run_kept, StandsForKept}
use Rattle.kept_state.specs.KeptSince.{cuts_since, kept_since}
use Rattle.kept_state.specs.Laws.{IsKept, IsKeptSince, KeepsAgain, KeptThrough}
use Rattle.kept_state.proofs.KeptSteps.{kept_derives}
use Rattle.kept_state.proofs.RestAgain.{since_length, place_again, types_again, input_again, split_again}

module _ (c : CoreProgram) (runnable : IsRunnable c) (k : KeptTree) (typed : IsTypedKept c k) (p : StreamPrefix) (h : Derives (input_kept c k) p) (events : ℕ) (s : StateTree) where
  -- the types that are kept again are those that p leaves,
  types_same : types_kept c (kept_since c k p events s) ≡ types_since c k p
  types_same = types_again c.main.params k.ins k.cuts p

  -- the input of what is kept again is what is left of the kept state's,
  pub again_input : input_kept c (kept_since c k p events s) ≡ der p (input_kept c k)
  again_input = ap (λ U. as_type (rest_bunch c.main.params U (cuts_since c.main.params k.cuts p))) types_same ∙ input_again c.main.params k.ins k.cuts p (distinct_params c runnable) typed.is_placed.has_cuts h

  -- it is split over the parameters as the kept state's,
  split_same : {q : StreamPrefix} → Derives (der p (input_kept c k)) q → split_kept c (kept_since c k p events s) q ≡ split_kept_after c k p q
  split_same {q = q} j = ap (λ U. split_rest c.main.params U (cuts_since c.main.params k.cuts p) q) types_same ∙ split_again c.main.params k.ins k.cuts p (distinct_params c runnable) typed.is_placed.has_cuts h j

  -- and what is kept again runs as the state does after p
  run_same : {q : StreamPrefix} → Derives (der p (input_kept c k)) q → run_kept c (kept_since c k p events s) q ≡ rest_run_kept c k p s q
  run_same {q = q} j = ap₂ (λ U e. run_state (fun_at c.funs) s U (output_since c k p) e) types_same (split_same j)

  -- the types and marks that p leaves are a place,
  place_same : IsPlace c.main.params (types_since c k p) (cuts_since c.main.params k.cuts p)
  place_same = place_again c.main.params (distinct_params c runnable) (types_kept c k) (types_since c k p) k.cuts typed.is_placed.has_cuts typed.is_placed.is_place h (record { at = λ x m. refl })

  -- so what is kept again goes on just as the kept state
  pub is_kept_since : events ≤ 2 ^ 41 → StandsForKept c k (depth_after events) p s → IsTidy (leaf_names c.main.params) s → IsKeptSince c k p (kept_since c k p events s)
  is_kept_since few stands tidy = record {
    is_typed = record {
      is_placed = record {
        are_few = few;
        reaches = let a = reach_of-der (kept_derives c runnable k typed h) in let b = typed.is_placed.reaches in omega (arith, a, b);
        has_types = length-map (leaf_names c.main.params) (types_since c k p);
        has_cuts = since_length c.main.params (types_kept c k) k.cuts typed.is_placed.has_cuts h;
        is_place = subst (λ U. IsPlace c.main.params U (cuts_since c.main.params k.cuts p)) (sym types_same) place_same;
      };
      is_typed = subst (λ U. HasStateType c.funs (is_inert_fun c.funs) (context_over c.main.params U) s (output_since c k p)) (sym types_same) stands.is_typed;
      are_apart = tidy.are_apart;
      settled = stands.settled;
      is_deep = stands.is_deep;
    };
    has_input = again_input;
    gives = λ q i. stands.gives_rest q i ∙ ap (join (mean_kept c k p)) (ap (λ a. a.out) (sym (run_same (derives _ q i))));
    calls = λ q i. let e = ap (λ a. a.calls) (run_same (derives _ q i)) in let o = stands.calls_rest q i in omega (arith, e, o);
    calls_rise = λ q r i j.
        let l = derives _ q i in
        let e = ap (λ a. a.calls) (run_same l) in
        let f = ap (λ a. a.calls) (run_same (join_is_prefix l (derives _ r j))) in
        let o = stands.calls_rise q r i j in
        omega (arith, e, f, o);
    levels = λ q i. let e = ap (λ a. pred (Run.level a)) (run_same (derives _ q i)) in let o = stands.levels_below q i in omega (arith, e, o);
  }

module _ (c : CoreProgram) (runnable : IsRunnable c) (p q : StreamPrefix) (h : Derives (input_type c) p) (i : Derives (der p (input_type c)) q)
    (k l : KeptTree) (kept : IsKept c p k) (out : k.out ≡ output_left c p) (again : IsKeptSince c k q l) (out_again : l.out ≡ output_since c k q) where
  -- what comes after p and q comes after q, once p has come,
  behind : {v : StreamPrefix} → Derives (der (join p q) (input_type c)) v → Derives (der q (der p (input_type c))) v
  behind {v = v} j = subst (λ u. Derives u v) (der-join h i) j

  -- so of the first kept state,
  at_first : {v : StreamPrefix} → Derives (der q (der p (input_type c))) v → Derives (der q (input_kept c k)) v
  at_first {v = v} j = subst (λ u. Derives (der q u) v) (sym kept.has_input) j

  -- of whose input q is a prefix,
  first_input : Derives (input_kept c k) q
  first_input = subst (λ u. Derives u q) (sym kept.has_input) i

  -- and it is all that comes of the second
  at_second : {v : StreamPrefix} → Derives (der q (der p (input_type c))) v → Derives (input_kept c l) v
  at_second {v = v} j = subst (λ u. Derives u v) (sym again.has_input) (at_first j)

  -- the first gives on q a prefix of what p left of the output,
  first_gives : Derives (output_left c p) (mean_kept c k q)
  first_gives = subst (λ u. Derives u (mean_kept c k q)) out (kept_derives c runnable k kept.is_typed first_input)

  -- and the second gives a prefix of what is left then
  second_gives : {v : StreamPrefix} → Derives (der q (der p (input_type c))) v → Derives (der (mean_kept c k q) (output_left c p)) (mean_kept c l v)
  second_gives {v = v} j = subst (λ u. Derives u (mean_kept c l v)) (out_again ∙ ap (der (mean_kept c k q)) out) (kept_derives c runnable l again.is_typed (at_second j))

  -- of the output the second has just what both leave
  pub output_through : l.out ≡ output_left c (join p q)
  output_through =
      out_again ∙ (ap (der (mean_kept c k q)) out
      ∙ (sym (der-join (mean_derives c runnable p h) first_gives) ∙ ap (λ w. der w c.main.result) (sym (kept.gives q (is_prefix i)))))

  -- and it goes on just as the program after both
  pub is_kept_through : IsKept c (join p q) l
  is_kept_through = record {
    is_typed = again.is_typed;
    has_input = again.has_input ∙ (ap (der q) kept.has_input ∙ sym (der-join h i));
    gives = λ v j.
        let o = behind (derives _ v j) in
        ap (mean c) (join_assoc h i o)
        ∙ (kept.gives (join q v) (is_prefix (join_is_prefix i o))
        ∙ (ap (join (mean c p)) (again.gives v (is_prefix (at_first o)))
        ∙ (sym (join_assoc (mean_derives c runnable p h) first_gives (second_gives o)) ∙ ap (λ w. join w (mean_kept c l v)) (sym (kept.gives q (is_prefix i))))));
    calls = λ v j.
        let o = behind (derives _ v j) in
        let a = again.calls v (is_prefix (at_first o)) in
        let b = kept.calls_rise q v (is_prefix i) (is_prefix o) in
        subst (λ w. calls_of c (join p q) + calls_kept c l v ≤ calls_of c w) (sym (join_assoc h i o)) (omega (arith, a, b));
    calls_rise = λ v r j m.
        let d = derives _ v j in
        let o = behind d in
        let o' = behind (join_is_prefix d (derives _ r m)) in
        let u : Derives (der v (der q (der p (input_type c)))) r = subst (λ w. Derives (der v w) r) (der-join h i) (derives _ r m) in
        let a = again.calls_rise v r (is_prefix (at_first o)) (is_prefix (subst (λ w. Derives (der v (der q w)) r) (sym kept.has_input) u)) in
        let b = subst (λ w. calls_of c (join p (join q v)) + calls_kept c k w ≤ calls_of c (join p w) + calls_kept c k (join q v)) (join_assoc i o u)
        (kept.calls_rise (join q v) r (is_prefix (join_is_prefix i o)) (is_prefix (subst (λ w. Derives w r) (sym (der-join i o)) u))) in
        subst (λ w. calls_of c w + calls_kept c l (join v r) ≤ calls_of c (join (join p q) (join v r)) + calls_kept c l v) (sym (join_assoc h i o))
        (subst (λ w. calls_of c (join p (join q v)) + calls_kept c l (join v r) ≤ calls_of c w + calls_kept c l v) (sym (join_assoc h i o')) (omega (arith, a, b)));
    levels = λ v j.
        let o = behind (derives _ v j) in
        let a = again.levels v (is_prefix (at_first o)) in
        let b = kept.levels (join q v) (is_prefix (join_is_prefix i o)) in
        subst (λ w. level_kept c l v ≤ level_of c w) (sym (join_assoc h i o)) (omega (arith, a, b));
  }

-- the laws
pub keeps_again : KeepsAgain
keeps_again c k p events s runnable typed h few stands tidy = is_kept_since c runnable k typed p (derives _ p h) events s few stands tidy

pub kept_through : KeptThrough
kept_through c p q k l runnable h i kept out again out_again =
    let j = derives _ p h in
    let o = derives _ q i in
    (is_kept_through c runnable p q j o k l kept out again out_again, output_through c runnable p q j o k l kept out again out_again)
