-- A prefix of a type has no more events than the type's size says.
use Rattle.std.proofs.Common.{◌≡◌, ◌∙◌, ◌≤◌, ◌<◌, ◌+◌, ℕ, true, true≢false, ◌∷◌, ◌++◌, ap₂, refl, subst, sym, arith}
use Rattle.std.proofs.lemmas.List.{length-map, length-append}
use Rattle.std.specs.Prelude.{min, Some, None, map, length}
use Rattle.stream_type.specs.StreamType.{StreamType, sum}
use Rattle.stream_prefix.specs.StreamPrefix.{StreamPrefix, eps_emp, one_emp, int_emp, par_both, cat_fst, sum_emp, star_emp}
use Rattle.stream_prefix.proofs.Derivations.{Derives, eps_has_emp, one_has_emp, one_has_full, int_has_emp, int_has_full, par_has_both, cat_has_fst, cat_has_both, sum_has_emp, sum_has_left, sum_has_right, star_has_emp, star_has_done, star_has_first, star_has_rest}
use Rattle.event_word.specs.Canon.{canon}
use Rattle.event_word.specs.StreamEvent.{leaf_of, under}
use Rattle.event_word.specs.declared.event.Leaf.TheVariants.{Cut}
use Rattle.event_word.specs.declared.event.Step.TheVariants.{Left, Right, First}
use Rattle.delta_state.specs.StateTyping.{is_empty}
use Rattle.state_bounds.specs.Bounds.{Bound, both, greater, ◌⊑◌, size_of, limit}
use Rattle.state_bounds.proofs.BoundOrder.{at_most_left, at_most_right, nothing_at_most}
use Rattle.bunch.proofs.Tests.{and_first, and_second}

-- so many events, as sums stop
abbrev pub counted : ℕ → Bound
counted n = Some (min n limit)

-- events of two kinds are at most both bounds together,
pub counted_both : (i j : ℕ) (a b : Bound) → counted i ⊑ a → counted j ⊑ b → counted (i + j) ⊑ both a b
counted_both i j None b h k = tt
counted_both i j (Some m) None h k = tt
counted_both i j (Some m) (Some n) h k = omega (arith, h, k)

-- and fewer events are at most what more are
pub counted_fewer : (i j : ℕ) (a : Bound) → i ≤ j → counted j ⊑ a → counted i ⊑ a
counted_fewer i j None le h = tt
counted_fewer i j (Some m) le h = omega (arith, le, h)

-- below the limit the bound is a number of events
pub below_limit : (e n : ℕ) (b : Bound) → counted e ⊑ b → b ⊑ Some n → n < limit → e ≤ n
below_limit e n None h k l = absurd k
below_limit e n (Some m) h k l = omega (arith, h, k, l)

-- a prefix of a type has no more events than the type can have
pub word_fits : {t : StreamType} {p : StreamPrefix} → Derives t p → counted (length (canon p)) ⊑ size_of t
word_fits eps_has_emp = omega arith
word_fits one_has_emp = omega arith
word_fits one_has_full = omega arith
word_fits int_has_emp = omega arith
word_fits int_has_full = omega arith
word_fits (par_has_both {s = s} {t = t} {p = p} {q = q} h k) =
    subst (λ n. counted n ⊑ both (size_of s) (size_of t)) (sym (length-append (map (under Left) (canon p)) (map (under Right) (canon q)) ∙ ap₂ ◌+◌ (length-map (canon p) (under Left)) (length-map (canon q) (under Right))))
    (counted_both (length (canon p)) (length (canon q)) (size_of s) (size_of t) (word_fits h) (word_fits k))
word_fits (cat_has_fst {s = s} {t = t} {p = p} h) =
    counted_fewer (length (map (under First) (canon p))) ((length (canon p) + 0) + 0) _ (let e = length-map (canon p) (under First) in omega (arith, e))
    (counted_both (length (canon p) + 0) 0 (both (size_of s) (size_of t)) (Some 1) (counted_both (length (canon p)) 0 (size_of s) (size_of t) (word_fits h) (nothing_at_most (size_of t))) (omega arith))
word_fits (cat_has_both {s = s} {t = t} {p = p} {q = q} h m k) =
    counted_fewer (length (map (under First) (canon p) ++ leaf_of Cut ∷ canon q)) ((length (canon p) + length (canon q)) + 1) _
    (let e = length-append (map (under First) (canon p)) (leaf_of Cut ∷ canon q) in let f = length-map (canon p) (under First) in omega (arith, e, f))
    (counted_both (length (canon p) + length (canon q)) 1 (both (size_of s) (size_of t)) (Some 1) (counted_both (length (canon p)) (length (canon q)) (size_of s) (size_of t) (word_fits h) (word_fits k)) (omega arith))
word_fits (sum_has_emp {s = s} {t = t}) = nothing_at_most (size_of (sum s t))
word_fits (sum_has_left {s = s} {t = t} {p = p} h) =
    counted_fewer _ (1 + length (canon p)) _ (omega arith) (counted_both 1 (length (canon p)) (Some 1) (greater (size_of s) (size_of t)) (omega arith) (at_most_left (counted (length (canon p))) (size_of s) (size_of t) (word_fits h)))
word_fits (sum_has_right {s = s} {t = t} {p = p} h) =
    counted_fewer _ (1 + length (canon p)) _ (omega arith) (counted_both 1 (length (canon p)) (Some 1) (greater (size_of s) (size_of t)) (omega arith) (at_most_right (counted (length (canon p))) (size_of s) (size_of t) (word_fits h)))
word_fits star_has_emp = tt
word_fits star_has_done = tt
word_fits (star_has_first h) = tt
word_fits (star_has_rest h m k) = tt

-- where nothing has come there is no event
pub empty_word : (p : StreamPrefix) → is_empty p ≡ true → length (canon p) ≡ 0
empty_word eps_emp h = refl
empty_word one_emp h = refl
empty_word int_emp h = refl
empty_word (par_both p q) h =
    length-append (map (under Left) (canon p)) (map (under Right) (canon q)) ∙ ap₂ ◌+◌ (length-map (canon p) (under Left) ∙ empty_word p (and_first (is_empty p) (is_empty q) h)) (length-map (canon q) (under Right) ∙ empty_word q (and_second (is_empty p) (is_empty q) h))
empty_word (cat_fst p) h = length-map (canon p) (under First) ∙ empty_word p h
empty_word sum_emp h = refl
empty_word star_emp h = refl
empty_word _ h = absurd (true≢false (sym h))
