-- The rules of a call on its historical arguments and on the arguments behind others, as relations and as functions.
use Rattle.std.proofs.Common.{◌≡◌, ◌∙◌, ℕ, suc, Bool, true, false, ◌&&◌, List, [], ◌∷◌, length, ap, refl, sym, arith}
use Rattle.std.specs.Prelude.{None, option_map, not}
use Rattle.std.specs.List.{list_any}
use Rattle.stream_type.specs.StreamType.{StreamType}
use Rattle.bunch.specs.BunchTree.{stands_before, leaf_names}
use Rattle.bunch.proofs.Bunches.{first_is_there, second_is_there}
use Rattle.hist_value.specs.HistType.{past}
use Rattle.hist_value.specs.HistExpr.{HistExpr}
use Rattle.core_term.specs.CoreTerm.{CoreTerms, CoreBody, fun_at}
use Rattle.core_term.specs.Agreement.{types_in}
use Rattle.core_term.specs.Inert.{is_inert}
use Rattle.core_term.specs.Typing.{HavePasts, passed}
use Rattle.core_term.specs.TypeFaults.{found_where, expr_refusal, of_pasts, first_jumpy, history_fault}
use Rattle.core_term.proofs.Causes.{found_where-kept, first_some-none, first_some-both, option_map-none, first_found-none, first_found-all, list_any-there, list_any-found}
use Rattle.core_term.proofs.Unbroken.{expr_refusal_is_exact}
use Rattle.bunch_rules.specs.Derivation.{Known, WaitTheirTurn}

pub pasts_there : (known : Known) (ms : List HistExpr) (ts : List StreamType) → length ms ≡ length ts → of_pasts [] (λ _. false) expr_refusal known ms ts ≡ None → HavePasts known ms ts
pasts_there known [] [] n h = tt
pasts_there known [] (t ∷ ts) n h = absurd (omega (arith, n))
pasts_there known (m ∷ ms) [] n h = absurd (omega (arith, n))
pasts_there known (m ∷ ms) (t ∷ ts) n h =
    let s = first_some-none (option_map history_fault (expr_refusal known m (past t))) (of_pasts [] (λ _. false) expr_refusal known ms ts) h in
    ((expr_refusal_is_exact known m (past t)).0 (option_map-none history_fault (expr_refusal known m (past t)) s.0), pasts_there known ms ts (omega (arith, n)) s.1)

pub pasts_good : (known : Known) (ms : List HistExpr) (ts : List StreamType) → HavePasts known ms ts → (length ms ≡ length ts) × (of_pasts [] (λ _. false) expr_refusal known ms ts ≡ None)
pasts_good known [] [] h = (refl, refl)
pasts_good known [] (t ∷ ts) h = absurd h
pasts_good known (m ∷ ms) [] h = absurd h
pasts_good known (m ∷ ms) (t ∷ ts) h =
    let r = pasts_good known ms ts h.1 in
    (ap suc r.0, first_some-both (option_map history_fault (expr_refusal known m (past t))) (of_pasts [] (λ _. false) expr_refusal known ms ts) (ap (option_map history_fault) ((expr_refusal_is_exact known m (past t)).1 h.0)) r.1)

module _ (funs : List CoreBody) (counts : ℕ → Bool) where
  pub still_there : (b : CoreBody) (es : CoreTerms) → first_jumpy funs counts b es ≡ None → WaitTheirTurn funs counts b es
  still_there b es h u v o =
      let late : list_any (λ u. stands_before b.params u v) (leaf_names b.params) ≡ true = list_any-there (λ u. stands_before b.params u v) (leaf_names b.params) u (first_is_there b.params u v o) o in
      let inert = is_inert (fun_at funs) counts (passed b es v) (types_in b.params v) in
      let at = first_found-none (λ v. found_where (list_any (λ u. stands_before b.params u v) (leaf_names b.params) && not (is_inert (fun_at funs) counts (passed b es v) (types_in b.params v))) v) (leaf_names b.params) h v (second_is_there b.params u v o) in
      found_where-kept inert v (sym (ap (λ t. found_where (t && not inert) v) late) ∙ at)

  pub still_good : (b : CoreBody) (es : CoreTerms) → WaitTheirTurn funs counts b es → first_jumpy funs counts b es ≡ None
  still_good b es h =
      first_found-all (λ v. found_where (list_any (λ u. stands_before b.params u v) (leaf_names b.params) && not (is_inert (fun_at funs) counts (passed b es v) (types_in b.params v))) v) (leaf_names b.params)
      (λ v mv. go v (list_any (λ u. stands_before b.params u v) (leaf_names b.params)) refl)
    where
      go : (v : ℕ) (t : Bool) → list_any (λ u. stands_before b.params u v) (leaf_names b.params) ≡ t → found_where (t && not (is_inert (fun_at funs) counts (passed b es v) (types_in b.params v))) v ≡ None
      go v true o = let u = list_any-found (λ u. stands_before b.params u v) (leaf_names b.params) o in ap (λ i. found_where (not i) v) (h u.0 v u.2)
      go v false o = refl
