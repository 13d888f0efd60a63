-- The increment from a prefix to its join with another is that other one.
use Rattle.std.proofs.Common.{◌≡◌, refl, sym, ap, ◌∙◌}
use Rattle.stream_type.specs.StreamType.{StreamType}
use Rattle.stream_prefix.specs.StreamPrefix.{StreamPrefix, der, join}
use Rattle.stream_prefix.specs.Increment.{increment}
use Rattle.stream_prefix.specs.Laws.{IncrementIsRest}
use Rattle.stream_prefix.proofs.Derivations.{Derives, derives, eps_has_emp, one_has_emp, one_has_full, int_has_emp, int_has_full, par_has_both, cat_has_fst, cat_has_both, sum_has_emp, sum_has_left, sum_has_right, star_has_emp, star_has_done, star_has_first, star_has_rest}

pub increment-join : {s : StreamType} {p q : StreamPrefix} → Derives s p → Derives (der p s) q → increment p (join p q) ≡ q
increment-join eps_has_emp eps_has_emp = refl
increment-join one_has_emp k = refl
increment-join one_has_full eps_has_emp = refl
increment-join int_has_emp k = refl
increment-join int_has_full eps_has_emp = refl
increment-join (par_has_both h1 h2) (par_has_both k1 k2) = cc (increment-join h1 k1, increment-join h2 k2)
increment-join (cat_has_fst h) (cat_has_fst k) = cc (increment-join h k)
increment-join (cat_has_fst h) (cat_has_both k m k2) = cc (increment-join h k)
increment-join (cat_has_both h m h2) k = increment-join h2 k
increment-join sum_has_emp k = refl
increment-join (sum_has_left h) k = increment-join h k
increment-join (sum_has_right h) k = increment-join h k
increment-join star_has_emp k = refl
increment-join star_has_done eps_has_emp = refl
increment-join (star_has_first h) (cat_has_fst k) = cc (increment-join h k)
increment-join (star_has_first h) (cat_has_both k m k2) = cc (increment-join h k)
increment-join (star_has_rest h m h2) k = increment-join h2 k

pub increment_is_rest : IncrementIsRest
increment_is_rest s p q h part =
    ap (increment p) (sym part.joins) ∙ increment-join (derives s p h) (derives (der p s) part.rest part.comes)
