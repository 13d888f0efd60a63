-- The rewriting of a let whose name is taken apart and put together again: the type is kept, and the runs are lighter.
use Rattle.std.proofs.Common.{◌≡◌, ◌∙◌, ℕ, Bool, true, false, List, [], ◌++◌, eqb, ap, ap₂, subst, sym}
use Rattle.std.proofs.lemmas.Bool.{ne_eqb}
use Rattle.std.specs.Prelude.{Some, unwrap_or}
use Rattle.std.specs.List.{All}
use Rattle.stream_type.specs.StreamType.{StreamType, eps, cat, null_of}
use Rattle.stream_prefix.specs.StreamPrefix.{StreamPrefix, emp}
use Rattle.stream_prefix.proofs.Derivations.{Derives, cat_has_fst, cat_has_both}
use Rattle.bunch.specs.Names.{put}
use Rattle.bunch.specs.Facts.{place_let}
use Rattle.bunch.proofs.Tests.{and_first}
use Rattle.core_term.specs.CoreTerm.{CoreBody, var_term, fun_at}
use Rattle.core_term.specs.FreeNames.{without}
use Rattle.core_term.specs.Environment.{Environment, NameTypes}
use Rattle.core_term.specs.Inert.{is_inert_fun}
use Rattle.core_term.specs.Meaning.{run_at}
use Rattle.core_term.specs.Parts.{cat_first, cat_second, first_part, second_part}
use Rattle.core_term.specs.Run.{quiet, cat_run_at, cat_run}
use Rattle.core_term.specs.Typing.{Context, HasType, IsTypedBody, type_at, with_name, with_parts, with_fact}
use Rattle.core_term.proofs.Sides.{put-same}
use Rattle.core_term.proofs.TypedTerms.{Extends}
use Rattle.core_term.proofs.GrowingRuns.{Streams, Continues}
use Rattle.core_term.proofs.Retyping.{among_same}
use Rattle.delta_state.specs.StateTree.{LaterTree, StateTree, var_state, cat_state, let_state, let_cat_state, is_var_state, free_in_state}
use Rattle.delta_state.specs.StateMeaning.{past_in, run_state}
use Rattle.delta_state.specs.StateTyping.{HasStateType, with_past, no_pasts}
use Rattle.delta_state.specs.Settled.{is_settled}
use Rattle.delta_state.proofs.GrowingStates.{state_run_grows}
use Rattle.state_steps.proofs.NamesAmong.{among_left}
use Rattle.state_steps.proofs.KnownNames.{past_types-same}
use Rattle.state_rewriting.specs.MarksAtOnce.{marks_at_once}
use Rattle.state_rewriting.proofs.OtherNames.{at_other_name}
use Rattle.state_rewriting.proofs.FittingParts.{served_fewer, Fits, IsCatTyped, cat_form}
use Rattle.state_rewriting.proofs.LighterParts.{Lighter, LighterState}
use Rattle.state_rewriting.proofs.BindingsLeftOut.{NoOther, bound_alone}
use Rattle.state_rewriting.proofs.MarksGiven.{lacks_mark, state_has_mark}

-- the state: w is bound to a, and its parts x and y are put together by the code l, which is y
abbrev pub row_of : ℕ → ℕ → ℕ → StreamType → StateTree → LaterTree → StateTree
row_of w x y s a l = let_state w s a (let_cat_state x y w (cat_state (var_state x) l))

-- both parts of a prefix of a sequence make it up again, unless the first is whole and the mark hasn't come
parts_again : {s t : StreamType} {p : StreamPrefix} → Derives (cat s t) p → lacks_mark p ≡ false → cat_run (quiet (first_part p)) (quiet (second_part t p)) ≡ quiet p
parts_again {t = t} (cat_has_fst {p = p} h) k = ap (λ c. cat_run_at c (quiet p) (quiet (emp t))) k
parts_again (cat_has_both {p = p} {q = q} h m i) k = ap (λ c. cat_run_at c (quiet p) (quiet q)) m

-- what the typing of the state tells
record IsRowTyped (x y : ℕ) (r s : StreamType) : Type 0 where
  apart : eqb x y ≡ false
  form : s ≡ cat (cat_first s) (cat_second s)
  same : s ≡ r

module _ (funs : List CoreBody) (counts : ℕ → Bool) where
  -- the whole has the type of what is bound, which is a sequence
  row_typed : (c : Context) (r s : StreamType) (w x y : ℕ) (a : StateTree) (l : LaterTree) → l.term ≡ var_term y → HasStateType funs counts c (row_of w x y s a l) r → IsRowTyped x y r s
  row_typed c r s w x y a l k t = record { apart = apart; form = form; same = form ∙ (ap₂ cat firsts seconds ∙ sym parts.form) }
    where
      inside : Context
      inside = with_name w s (place_let w (free_in_state a) true c.order) c

      taken : Context
      taken = with_fact x y (with_parts x (cat_first (type_at inside w)) y (cat_second (type_at inside w)) w inside)

      apart : eqb x y ≡ false
      apart = ne_eqb x y t.1.0.from_second

      bound : inside.types w ≡ Some s
      bound = put-same w (Some s) c.types

      bound_type : type_at inside w ≡ s
      bound_type = ap (λ o. unwrap_or o eps) bound

      form : s ≡ cat (cat_first s) (cat_second s)
      form = let e : Some s ≡ Some (cat (cat_first s) (cat_second s)) = sym bound ∙ (t.1.1 ∙ ap (λ u. Some (cat (cat_first u) (cat_second u))) bound_type) in cc e

      parts : IsCatTyped funs counts taken (var_state x) l r
      parts = cat_form funs counts (var_state x) l taken r t.1.2

      firsts : cat_first s ≡ cat_first r
      firsts =
          let there : taken.types x ≡ Some (cat_first (type_at inside w)) = at_other_name y x (Some (cat_second (type_at inside w))) (put x (Some (cat_first (type_at inside w))) inside.types) apart ∙ put-same x (Some (cat_first (type_at inside w))) inside.types in
          let e : Some (cat_first s) ≡ Some (cat_first r) = ap (λ u. Some (cat_first u)) (sym bound_type) ∙ (sym there ∙ parts.first) in
          cc e

      seconds : cat_second s ≡ cat_second r
      seconds =
          let there : taken.types y ≡ Some (cat_second (type_at inside w)) = put-same y (Some (cat_second (type_at inside w))) (put x (Some (cat_first (type_at inside w))) inside.types) in
          let known : (with_past l.past taken).types y ≡ Some (cat_second r) = subst (λ u. HasType funs counts (with_past l.past taken) u (cat_second r)) k parts.second.has_type in
          let e : Some (cat_second s) ≡ Some (cat_second r) = ap (λ u. Some (cat_second u)) (sym bound_type) ∙ (sym there ∙ (sym (ap (λ f. f y) (past_types-same l.past taken)) ∙ known)) in
          cc e

  -- so what is bound fits in its place
  pub row_fits : (c : Context) (r s : StreamType) (w x y : ℕ) (a : StateTree) (l : LaterTree) → l.term ≡ var_term y → HasStateType funs counts c (row_of w x y s a l) r → is_settled (row_of w x y s a l) r ≡ true
      → Fits funs counts NoOther c r (row_of w x y s a l) a
  row_fits c r s w x y a l k t i =
      let e = (row_typed c r s w x y a l k t).same in
      let b = let_cat_state x y w (cat_state (var_state x) l) in
      record {
        typed = subst (HasStateType funs counts c a) e t.0;
        settled = subst (λ u. is_settled a u ≡ true) e (and_first (is_settled a s) (is_settled b r) i);
        free = served_fewer NoOther (free_in_state a ++ without w (free_in_state b)) (free_in_state a) (among_left (without w (free_in_state b)) (among_same (free_in_state a)));
      }

module _ (funs : List CoreBody) where
  -- on a prefix of a sequence the parts of its name make it up again, without a call
  again : (r s : StreamType) (w x y : ℕ) (l : LaterTree) (T : NameTypes) (d : Environment) (p : StreamPrefix) → l.term ≡ var_term y → IsRowTyped x y r s → Derives s p → lacks_mark p ≡ false
      → run_state (fun_at funs) (let_cat_state x y w (cat_state (var_state x) l)) (put w s T) r (put w p d) ≡ quiet p
  again r s w x y l T d p k t h m = ap₂ cat_run (ap quiet first) (code ∙ ap quiet second) ∙ parts_again (subst (λ u. Derives u p) t.form h) m
    where
      types : NameTypes
      types = put w s T

      bound : Environment
      bound = put w p d

      taken_types : NameTypes
      taken_types = put y (cat_second (types w)) (put x (cat_first (types w)) types)

      taken : Environment
      taken = put y (second_part (cat_second (types w)) (bound w)) (put x (first_part (bound w)) bound)

      first : taken x ≡ first_part p
      first = at_other_name y x (second_part (cat_second (types w)) (bound w)) (put x (first_part (bound w)) bound) t.apart ∙ (put-same x (first_part (bound w)) bound ∙ ap first_part (put-same w p d))

      second : taken y ≡ second_part (cat_second s) p
      second = put-same y (second_part (cat_second (types w)) (bound w)) (put x (first_part (bound w)) bound) ∙ ap₂ (λ u q. second_part (cat_second u) q) (put-same w s T) (put-same w p d)

      code : run_at (fun_at funs) l.depth l.term taken_types (cat_second r) taken (past_in l.past) ≡ quiet (taken y)
      code = ap (λ e. run_at (fun_at funs) l.depth e taken_types (cat_second r) taken (past_in l.past)) k

  module _ (typed : All (IsTypedBody funs) funs) where
    -- so what is bound is lighter
    pub row_lighter : (r s : StreamType) (w x y : ℕ) (a : StateTree) (l : LaterTree) → l.term ≡ var_term y → null_of (cat_first s) ≡ false → marks_at_once a ≡ true → (c : Context) (T : NameTypes) → Extends c T no_pasts
        → HasStateType funs (is_inert_fun funs) c (row_of w x y s a l) r → (d e : Environment) → Streams T d → Continues T d e → LighterState funs T r d e (row_of w x y s a l) a
    row_lighter r s w x y a l k n m c T h t d e st g =
        let i = row_typed funs (is_inert_fun funs) c r s w x y a l k t in
        let j = state_run_grows funs typed a c T s h t.0 d e st g in
        subst (λ u. Lighter false (is_var_state a) (run_state (fun_at funs) (row_of w x y s a l) T r d) (run_state (fun_at funs) (row_of w x y s a l) T r e) (run_state (fun_at funs) a T u d) (run_state (fun_at funs) a T u e)) i.same
        (bound_alone (is_var_state a) (run_state (fun_at funs) a T s d) (run_state (fun_at funs) a T s e) _ _
        (again r s w x y l T d (run_state (fun_at funs) a T s d).out k i j.first (state_has_mark s n (fun_at funs) a m T d))
        (again r s w x y l T e (run_state (fun_at funs) a T s e).out k i j.next (state_has_mark s n (fun_at funs) a m T e)))
