-- Agreement with an order, after a part of what came was taken, and for what comes in two parts.
use Rattle.std.proofs.Common.{◌≡◌, ◌∙◌, inl, inr, ⊎_elim, ap, sym}
use Rattle.stream_type.specs.StreamType.{StreamType}
use Rattle.stream_prefix.specs.StreamPrefix.{StreamPrefix, emp, is_maximal, der, join}
use Rattle.stream_prefix.proofs.Derivations.{Derives, derives}
use Rattle.stream_prefix.proofs.Joins.{emp_is_prefix, is_maximal-join, join-emp-der, join_cancel, emp-join}
use Rattle.stream_prefix.proofs.MaximalPrefixes.{join_maximal, null_after_maximal, null_is_maximal}
use Rattle.core_term.specs.Laws.{RestAgrees, JoinAgrees, StepAgrees}

-- where both together are empty, nothing came later
rest_is_empty : (t : StreamType) (p r : StreamPrefix) → Derives t p → Derives (der p t) r → join p r ≡ emp t → r ≡ emp (der p t)
rest_is_empty t p r h k e = join_cancel h k (emp_is_prefix (der p t)) (e ∙ (sym (emp-join h k e) ∙ sym (join-emp-der h)))

-- where both are empty, so is their join
join_is_empty : (t : StreamType) (p r : StreamPrefix) → Derives t p → p ≡ emp t → r ≡ emp (der p t) → join p r ≡ emp t
join_is_empty t p r h e f = ap (join p) f ∙ (join-emp-der h ∙ e)

pub rest_agrees : RestAgrees
rest_agrees types before env more h k agrees x y o =
    ⊎_elim (λ m. inl (sym (is_maximal-join (derives (types x) (env x) (h x)) (derives (der (env x) (types x)) (more x) (k x))) ∙ m))
    (λ e. inr (rest_is_empty (types y) (env y) (more y) (derives (types y) (env y) (h y)) (derives (der (env y) (types y)) (more y) (k y)) e))
    (agrees x y o)

pub join_agrees : JoinAgrees
join_agrees types before env more h k agrees later x y o =
    ⊎_elim (λ m. inl (ap is_maximal (join_maximal (derives (types x) (env x) (h x)) m (derives (der (env x) (types x)) (more x) (k x))) ∙ m))
    (λ e. ⊎_elim (λ m. inl (is_maximal-join (derives (types x) (env x) (h x)) (derives (der (env x) (types x)) (more x) (k x)) ∙ m))
    (λ f. inr (join_is_empty (types y) (env y) (more y) (derives (types y) (env y) (h y)) e f)) (later x y o))
    (agrees x y o)

pub step_agrees : StepAgrees
step_agrees types before env more h k agrees step =
    join_agrees types before env more h k agrees
    (λ x y o. ⊎_elim (λ m. inl (null_is_maximal (derives (der (env x) (types x)) (more x) (k x)) (null_after_maximal (derives (types x) (env x) (h x)) m))) (λ e. inr e) (step x y o))
