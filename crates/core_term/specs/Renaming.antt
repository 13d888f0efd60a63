-- Core terms that are alike but for names.
--
-- A scope gives names of the first term numbers in the second. There is one for the stream names and one
-- for the historical names, since a name that a term binds hides one of its own kind alone: only a wait
-- binds a historical name, and leaves its subject among the stream names. A bound name may become any
-- number that the scope gives to no other name.
use Rattle.std.specs.Prelude.{ℕ, ◌≡◌, List, [], ◌∷◌, map, Option, Some, None}
use Rattle.std.specs.List.{AllZip}
use Rattle.stream_type.specs.StreamType.{StreamType}
use Rattle.bunch.specs.Names.{put, value_at}
use Rattle.bunch.specs.BunchTree.{BunchTree, empty, leaf, comma, semi, leaf_names}
use Rattle.hist_value.specs.HistExpr.{HistExpr}
use Rattle.hist_value.specs.Renaming.{IsFreeFor, IsRenaming}
use Rattle.core_term.specs.CoreTerm.{CoreTerm, CoreTerms, CoreBody, CoreProgram, past_names, past_types, var_term, eps_term, unit_term, nil_term, past_term, par_term, cat_term, cons_term, inl_term, inr_term, let_term, let_par_term, let_cat_term, case_sum_term, case_star_term, wait_term, call_term, no_terms, term_before}

-- the number of each name that has one
abbrev pub Scope : Type 0
Scope = ℕ → Option ℕ

-- each name of the first list has the number beside it in the second
abbrev pub numbered : List ℕ → List ℕ → Scope
numbered xs ns = value_at None xs (map Some ns)

-- bunches of one form and with the same types
pub data IsRenamedBunch : BunchTree → BunchTree → Type 0 where
  empty_renamed : IsRenamedBunch empty empty
  leaf_renamed : {x n : ℕ} {t : StreamType} → IsRenamedBunch (leaf x t) (leaf n t)
  comma_renamed : {a b c d : BunchTree} → IsRenamedBunch a c → IsRenamedBunch b d → IsRenamedBunch (comma a b) (comma c d)
  semi_renamed : {a b c d : BunchTree} → IsRenamedBunch a c → IsRenamedBunch b d → IsRenamedBunch (semi a b) (semi c d)

-- expressions that are alike but for names, one by one
pub data AreRenamings : Scope → List HistExpr → List HistExpr → Type 0 where
  none_renamed : {past : Scope} → AreRenamings past [] []
  more_renamed : {past : Scope} {m n : HistExpr} {ms ns : List HistExpr} → IsRenaming past m n → AreRenamings past ms ns → AreRenamings past (m ∷ ms) (n ∷ ns)

mutual
  -- the second term is the first one under the scopes of stream names and of historical names
  pub data IsRenamedTerm : Scope → Scope → CoreTerm → CoreTerm → Type 0 where
    var_renamed : {names past : Scope} {x n : ℕ} → names x ≡ Some n → IsRenamedTerm names past (var_term x) (var_term n)
    eps_renamed : {names past : Scope} → IsRenamedTerm names past eps_term eps_term
    unit_renamed : {names past : Scope} → IsRenamedTerm names past unit_term unit_term
    nil_renamed : {names past : Scope} → IsRenamedTerm names past nil_term nil_term
    past_renamed : {names past : Scope} {m n : HistExpr} → IsRenaming past m n → IsRenamedTerm names past (past_term m) (past_term n)
    par_renamed : {names past : Scope} {a b c d : CoreTerm} → IsRenamedTerm names past a c → IsRenamedTerm names past b d
        → IsRenamedTerm names past (par_term a b) (par_term c d)
    cat_renamed : {names past : Scope} {a b c d : CoreTerm} → IsRenamedTerm names past a c → IsRenamedTerm names past b d
        → IsRenamedTerm names past (cat_term a b) (cat_term c d)
    cons_renamed : {names past : Scope} {a b c d : CoreTerm} → IsRenamedTerm names past a c → IsRenamedTerm names past b d
        → IsRenamedTerm names past (cons_term a b) (cons_term c d)
    inl_renamed : {names past : Scope} {a c : CoreTerm} → IsRenamedTerm names past a c → IsRenamedTerm names past (inl_term a) (inl_term c)
    inr_renamed : {names past : Scope} {a c : CoreTerm} → IsRenamedTerm names past a c → IsRenamedTerm names past (inr_term a) (inr_term c)
    let_renamed : {names past : Scope} {x m : ℕ} {s : StreamType} {a b c d : CoreTerm} → IsRenamedTerm names past a c → IsFreeFor names x m
        → IsRenamedTerm (put x (Some m) names) past b d
        → IsRenamedTerm names past (let_term x s a b) (let_term m s c d)
    let_par_renamed : {names past : Scope} {x y z l m n : ℕ} {a c : CoreTerm} → names z ≡ Some l → IsFreeFor names x m
        → IsFreeFor (put x (Some m) names) y n → IsRenamedTerm (put y (Some n) (put x (Some m) names)) past a c
        → IsRenamedTerm names past (let_par_term x y z a) (let_par_term m n l c)
    let_cat_renamed : {names past : Scope} {x y z l m n : ℕ} {a c : CoreTerm} → names z ≡ Some l → IsFreeFor names x m
        → IsFreeFor (put x (Some m) names) y n → IsRenamedTerm (put y (Some n) (put x (Some m) names)) past a c
        → IsRenamedTerm names past (let_cat_term x y z a) (let_cat_term m n l c)
    case_sum_renamed : {names past : Scope} {x y z l m n : ℕ} {t : StreamType} {a b c d : CoreTerm} → names z ≡ Some l → IsFreeFor names x m
        → IsRenamedTerm (put x (Some m) names) past a c
        → IsFreeFor names y n → IsRenamedTerm (put y (Some n) names) past b d → IsRenamedTerm names past (case_sum_term z t x a y b) (case_sum_term l t m c n d)
    case_star_renamed : {names past : Scope} {y ys z l m n : ℕ} {t : StreamType} {a b c d : CoreTerm} → names z ≡ Some l → IsRenamedTerm names past a c
        → IsFreeFor names y m → IsFreeFor (put y (Some m) names) ys n → IsRenamedTerm (put ys (Some n) (put y (Some m) names)) past b d
        → IsRenamedTerm names past (case_star_term z t a y ys b) (case_star_term l t c m n d)
    wait_renamed : {names past : Scope} {x n : ℕ} {t : StreamType} {a c : CoreTerm} → names x ≡ Some n → IsFreeFor past x n
        → IsRenamedTerm names (put x (Some n) past) a c
        → IsRenamedTerm names past (wait_term x t a) (wait_term n t c)
    call_renamed : {names past : Scope} {f : ℕ} {ms ns : List HistExpr} {es os : CoreTerms} → AreRenamings past ms ns
        → IsRenamedTerms names past es os → IsRenamedTerm names past (call_term f ms es) (call_term f ns os)

  -- so are arguments, one by one
  pub data IsRenamedTerms : Scope → Scope → CoreTerms → CoreTerms → Type 0 where
    no_terms_renamed : {names past : Scope} → IsRenamedTerms names past no_terms no_terms
    before_renamed : {names past : Scope} {a c : CoreTerm} {es os : CoreTerms} → IsRenamedTerm names past a c → IsRenamedTerms names past es os
        → IsRenamedTerms names past (term_before a es) (term_before c os)

-- bodies with the same types whose terms are alike, where each parameter of the first has the number of
-- the one in its place
pub record IsRenamedBody (b o : CoreBody) : Type 0 where
  pub same_past : past_types b ≡ past_types o
  pub like_params : IsRenamedBunch b.params o.params
  pub same_result : b.result ≡ o.result
  pub like_body : IsRenamedTerm (numbered (leaf_names b.params) (leaf_names o.params)) (numbered (past_names b) (past_names o)) b.body o.body

-- programs whose bodies are alike, one by one
pub record IsRenamedProgram (c d : CoreProgram) : Type 0 where
  pub like_funs : AllZip IsRenamedBody c.funs d.funs
  pub like_main : IsRenamedBody c.main d.main
