-- The functions with a mark after some rounds are those that are left then.
use mathlib.Core.Path.{fun_ext}
use Rattle.std.proofs.Common.{◌≡◌, ℕ, suc, arith, ◌+◌, Bool, true, false, ◌&&◌, List, length, refl, ap, sym, ◌∙◌}
use Rattle.std.specs.Prelude.{slice_index_or}
use Rattle.std.proofs.lemmas.Bool.{ltb-true}
use Rattle.core_term.specs.CoreTerm.{CoreBody, fun_at, is_there}
use Rattle.core_term.specs.Inert.{is_inert, inert_after, is_inert_fun}
use Rattle.delta_check.specs.Counting.{counts_in, IsRound}
use Rattle.delta_check.proofs.Once.{and_assoc}

-- marks that stand for the functions left after n rounds
pub record IsAfter (funs : List CoreBody) (marks : List Bool) (n : ℕ) : Type 0 where
  pub has_each : length marks ≡ length funs
  pub counts_left : (f : ℕ) → counts_in funs marks f ≡ inert_after funs n f

-- one more round
pub next : (funs : List CoreBody) (marks kept : List Bool) (n : ℕ) → IsAfter funs marks n → IsRound funs marks kept → IsAfter funs kept (n + 1)
next funs marks kept n h k = record { has_each = k.has_each; counts_left = λ f. go f (is_there funs f) refl ∙ ap (λ m. inert_after funs m f) one }
  where
    one : suc n ≡ n + 1
    one = omega arith

    same : counts_in funs marks ≡ inert_after funs n
    same = fun_ext (λ f. h.counts_left f)

    step : (f : ℕ) → (counts_in funs marks f && is_inert (fun_at funs) (counts_in funs marks) (fun_at funs f).body (fun_at funs f).result) ≡ inert_after funs (suc n) f
    step f = ap (λ counts. counts f && is_inert (fun_at funs) counts (fun_at funs f).body (fun_at funs f).result) same

    go : (f : ℕ) (b : Bool) → is_there funs f ≡ b → counts_in funs kept f ≡ inert_after funs (suc n) f
    go f true e =
        ap (λ v. is_there funs f && v) (k.keeps_inert f (ltb-true f (length funs) e))
        ∙ and_assoc (is_there funs f) (slice_index_or marks f false) (is_inert (fun_at funs) (counts_in funs marks) (fun_at funs f).body (fun_at funs f).result) ∙ step f
    go f false e =
        ap (λ b. b && slice_index_or kept f false) e
        ∙ sym (ap (λ b. (b && slice_index_or marks f false) && is_inert (fun_at funs) (counts_in funs marks) (fun_at funs f).body (fun_at funs f).result) e) ∙ step f

-- after as many rounds as there are functions
pub last : (funs : List CoreBody) (marks : List Bool) (n : ℕ) → IsAfter funs marks n → n ≡ length funs → (f : ℕ) → counts_in funs marks f ≡ is_inert_fun funs f
last funs marks n h e f = h.counts_left f ∙ ap (λ m. inert_after funs m f) e
