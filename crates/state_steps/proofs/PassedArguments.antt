-- What the arguments of a call give to the parameters agrees with the order of the parameters.
use Rattle.std.proofs.Common.{◌≡◌, ◌∙◌, ◌≤◌, ◌⊎◌, inl, inr, ⊎_elim, ℕ, Bool, true, false, List, [], ◌∷◌, eqb, if◌then◌else◌, ap, refl, arith}
use Rattle.std.specs.List.{All}
use Rattle.std.specs.Prelude.{IsTrue}
use Rattle.stream_type.specs.StreamType.{StreamType, eps}
use Rattle.stream_prefix.specs.StreamPrefix.{eps_emp, emp, is_maximal}
use Rattle.bunch.specs.BunchTree.{leaf_names, stands_before}
use Rattle.bunch.specs.Facts.{Facts}
use Rattle.bunch.specs.Names.{value_at}
use Rattle.hist_value.specs.HistExpr.{HistExpr}
use Rattle.hist_value.specs.Laws.{HasTypes}
use Rattle.core_term.specs.Agreement.{Agrees, types_in}
use Rattle.core_term.specs.CoreTerm.{CoreTerms, CoreBody, call_term, leaf_types, fun_at}
use Rattle.core_term.specs.Environment.{Environment, NameTypes}
use Rattle.core_term.specs.FreeNames.{free_names}
use Rattle.core_term.specs.Inert.{is_inert, is_inert_fun}
use Rattle.core_term.specs.Meaning.{Past, call_at, run_all, run_at}
use Rattle.core_term.specs.Typing.{argument_of, passed, IsTypedBody}
use Rattle.core_term.proofs.Agreements.{whole_or_empty}
use Rattle.core_term.proofs.GrowingRuns.{Streams}
use Rattle.core_term.proofs.InertFunctions.{inert_bodies}
use Rattle.core_term.proofs.InertRuns.{EmptyOn, run_at_nothing}
use Rattle.core_term.proofs.Parameters.{value_at-leaf_types}
use Rattle.core_term.proofs.TypedRuns.{Any, typed_bodies}
use Rattle.core_term.proofs.TypedTerms.{PastTypes, StandBefore, Typed, TypedAll, call_typed, none_typed, more_typed}
use Rattle.core_term.proofs.WholeRuns.{WholeOn, run_at_whole}

-- of names that stand before others, all are whole, or nothing has come on any of the others
pub split_before : (T : NameTypes) (O : Facts) (d : Environment) (xs ys : List ℕ) → Agrees T O d → StandBefore O xs ys → WholeOn xs d ⊎ EmptyOn ys T d
split_before T O d xs ys h o = ⊎_elim (λ w. inl (record { at = w })) (λ e. inr (record { at = e })) (whole_or_empty T d xs ys (λ x y m n. h x y (o.at x y m n)))

module _ (funs : List CoreBody) (all_typed : All (IsTypedBody funs) funs) (k : ℕ) where
  -- the functions by their numbers, and which of them are inert
  abbrev F : ℕ → CoreBody
  F = fun_at funs

  abbrev I : ℕ → Bool
  I = is_inert_fun funs

  -- an argument is whole where its free names are,
  argument_whole : (us : List ℕ) {T : NameTypes} {O : Facts} {H : PastTypes} {es : CoreTerms} {ts : List StreamType} → TypedAll F I Any T O H es ts → (d : Environment) (p : Past) → Streams T d → HasTypes H p → (run_all F (call_at F k) es ts T d p).calls ≤ k
      → (u : ℕ) → WholeOn (free_names (argument_of us es u)) d → IsTrue (is_maximal (value_at eps_emp us (run_all F (call_at F k) es ts T d p).outs u))
  argument_whole [] i d p s f le u h = refl
  argument_whole (v ∷ us) none_typed d p s f le u h = refl
  argument_whole (v ∷ us) (more_typed {T = T} {e = e} {es = es} {t = t} {ts = ts} i j) d p s f le u h = go (eqb u v) (argument_whole us j d p s f (omega (arith, le)) u) h
    where
      go : (b : Bool) → (WholeOn (free_names (argument_of us es u)) d → IsTrue (is_maximal (value_at eps_emp us (run_all F (call_at F k) es ts T d p).outs u))) → WholeOn (free_names (if b then e else argument_of us es u)) d
          → IsTrue (is_maximal (if b then (run_at F k e T t d p).out else value_at eps_emp us (run_all F (call_at F k) es ts T d p).outs u))
      go true g h = run_at_whole F I Any (typed_bodies funs all_typed) k i d p s f h (omega (arith, le))
      go false g h = g h

  -- and empty where those are and it is inert,
  argument_nothing : (us : List ℕ) {T : NameTypes} {O : Facts} {H : PastTypes} {es : CoreTerms} {ts : List StreamType} → TypedAll F I Any T O H es ts → (d : Environment) (p : Past) → HasTypes H p
      → (u : ℕ) → is_inert F I (argument_of us es u) (value_at eps us ts u) ≡ true → EmptyOn (free_names (argument_of us es u)) T d → value_at eps_emp us (run_all F (call_at F k) es ts T d p).outs u ≡ emp (value_at eps us ts u)
  argument_nothing [] i d p f u n h = refl
  argument_nothing (v ∷ us) none_typed d p f u n h = refl
  argument_nothing (v ∷ us) (more_typed {T = T} {e = e} {es = es} {t = t} {ts = ts} i j) d p f u n h = go (eqb u v) (argument_nothing us j d p f u) n h
    where
      go : (b : Bool) → (is_inert F I (argument_of us es u) (value_at eps us ts u) ≡ true → EmptyOn (free_names (argument_of us es u)) T d → value_at eps_emp us (run_all F (call_at F k) es ts T d p).outs u ≡ emp (value_at eps us ts u))
          → is_inert F I (if b then e else argument_of us es u) (if b then t else value_at eps us ts u) ≡ true → EmptyOn (free_names (if b then e else argument_of us es u)) T d
          → (if b then (run_at F k e T t d p).out else value_at eps_emp us (run_all F (call_at F k) es ts T d p).outs u) ≡ emp (if b then t else value_at eps us ts u)
      go true g n h = run_at_nothing F I Any (typed_bodies funs all_typed) (inert_bodies funs) k i n d p f h
      go false g n h = g n h

  -- so what the arguments of a typed call give agrees with the order of the parameters
  pub passed_agree : {T : NameTypes} {O : Facts} {H : PastTypes} {f : ℕ} {ms : List HistExpr} {es : CoreTerms} {r : StreamType} → Typed F I Any T O H (call_term f ms es) r → (d : Environment) (p : Past) → Streams T d → Agrees T O d → HasTypes H p
      → (run_all F (call_at F k) es (leaf_types (F f).params) T d p).calls ≤ k
      → Agrees (types_in (F f).params) (stands_before (F f).params) (value_at eps_emp (leaf_names (F f).params) (run_all F (call_at F k) es (leaf_types (F f).params) T d p).outs)
  passed_agree (call_typed {T = T} {O = O} {f = f} {es = es} e h i o) d p s agrees g le u v b =
      let us = leaf_names (F f).params in
      let type = value_at-leaf_types (F f).params v in
      ⊎_elim (λ w. inl (argument_whole us i d p s g le u w))
      (λ n. inr (argument_nothing us i d p g v (ap (is_inert F I (passed (F f) es v)) type ∙ (o u v b).is_still) n ∙ ap emp type))
      (split_before T O d (free_names (passed (F f) es u)) (free_names (passed (F f) es v)) agrees (o u v b).in_order)
