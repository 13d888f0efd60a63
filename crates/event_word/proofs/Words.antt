-- Words, and the prefixes that they stand for.
use Rattle.std.proofs.Common.{◌≡◌, List, [], ◌∷◌, ◌++◌, refl, sym, ap, ◌∙◌}
use Rattle.std.specs.Prelude.{IsTrue}
use Rattle.stream_type.specs.StreamType.{StreamType, eps, one, int, cat, par, sum, star, null_of}
use Rattle.stream_prefix.specs.StreamPrefix.{StreamPrefix, emp, is_maximal, der, join, IsPrefix}
use Rattle.stream_prefix.proofs.Derivations.{Derives, is_prefix, eps_has_emp, one_has_emp, one_has_full, int_has_emp, int_has_full, par_has_both, cat_has_fst, cat_has_both, sum_has_emp, sum_has_left, sum_has_right, star_has_emp, star_has_done, star_has_first, star_has_rest}
use Rattle.stream_prefix.proofs.Joins.{emp_is_prefix, der-emp, join-emp, join-emp-der, der-join, join_is_prefix, join_assoc, null_of-der}
use Rattle.event_word.specs.declared.event.Step.{Step}
use Rattle.event_word.specs.declared.event.Leaf.{Leaf}
use Rattle.event_word.specs.StreamEvent.{StreamEvent}
use Rattle.event_word.specs.Admits.{Admits}
use Rattle.event_word.specs.Word.{one_at, one_of, after, after_word, IsWord, pre}
use Rattle.event_word.proofs.Standing.{Stands, stands, at_left, at_right, at_first, at_cut, at_one, at_int, at_inl, at_inr, at_item, at_end}

-- the empty prefix of a null type is whole
is_maximal-emp : (s : StreamType) → IsTrue (null_of s) → IsTrue (is_maximal (emp s))
is_maximal-emp s m = sym (null_of-der (emp_is_prefix s)) ∙ ap null_of (der-emp s) ∙ m

one_derives : {s : StreamType} {ps : List Step} {x : Leaf} → Stands s ps x → Derives s (one_at ps x s)
one_derives (at_left h) = par_has_both (one_derives h) (emp_is_prefix _)
one_derives (at_right h) = par_has_both (emp_is_prefix _) (one_derives h)
one_derives (at_first h) = cat_has_fst (one_derives h)
one_derives (at_cut {s = s} {t = t} m) = cat_has_both (emp_is_prefix s) (is_maximal-emp s m) (emp_is_prefix t)
one_derives at_one = one_has_full
one_derives at_int = int_has_full
one_derives at_inl = sum_has_left (emp_is_prefix _)
one_derives at_inr = sum_has_right (emp_is_prefix _)
one_derives at_item = star_has_first (emp_is_prefix _)
one_derives at_end = star_has_done

-- an admitted event is a prefix
pub one_of_derives : (s : StreamType) (x : StreamEvent) → Admits s x → Derives s (one_of x s)
one_of_derives s x h = one_derives (stands s x h)

pub one_of_is_prefix : (s : StreamType) (x : StreamEvent) → Admits s x → IsPrefix s (one_of x s)
one_of_is_prefix s x h = is_prefix (one_of_derives s x h)

-- a word stands for a prefix
pub word_derives : (s : StreamType) (w : List StreamEvent) → IsWord s w → Derives s (pre s w)
word_derives s [] h = emp_is_prefix s
word_derives s (x ∷ w) h = join_is_prefix (one_of_derives s x h.0) (word_derives (after x s) w h.1)

-- the front of a word is a word
pub word_front : (s : StreamType) (v w : List StreamEvent) → IsWord s (v ++ w) → IsWord s v
word_front s [] w h = tt
word_front s (x ∷ v) w h = (h.0, word_front (after x s) v w h.1)

-- what an event and a word after it leave
pub der-pre : (s : StreamType) (x : StreamEvent) (v : List StreamEvent) → Admits s x → IsWord (after x s) v → der (pre s (x ∷ v)) s ≡ der (pre (after x s) v) (after x s)
der-pre s x v h k = der-join (one_of_derives s x h) (word_derives (after x s) v k)

-- what a word leaves is what is left after it event by event
pub after_word-pre : (s : StreamType) (w : List StreamEvent) → IsWord s w → after_word w s ≡ der (pre s w) s
after_word-pre s [] h = sym (der-emp s)
after_word-pre s (x ∷ w) h = after_word-pre (after x s) w h.1 ∙ sym (der-pre s x w h.0 h.1)

-- the back of a word is a word of what the front leaves
pub word_back : (s : StreamType) (v w : List StreamEvent) → IsWord s (v ++ w) → IsWord (der (pre s v) s) w
word_back s [] w h = rw (der-emp s) h
word_back s (x ∷ v) w h =
    rw (der-pre s x v h.0 (word_front (after x s) v w h.1)) (word_back (after x s) v w h.1)

-- a word and then a word of what it leaves are a word
pub word_join : (s : StreamType) (v w : List StreamEvent) → IsWord s v → IsWord (der (pre s v) s) w → IsWord s (v ++ w)
word_join s [] w h k = rw (der-emp s) at k
word_join s (x ∷ v) w h k =
    (h.0, word_join (after x s) v w h.1 (rw (der-pre s x v h.0 h.1) at k))

-- the prefix of a word in two parts
pub pre-append : (s : StreamType) (v w : List StreamEvent) → IsWord s (v ++ w) → pre s (v ++ w) ≡ join (pre s v) (pre (der (pre s v) s) w)
pre-append s [] w h = rw (der-emp s) (sym (join-emp (word_derives s w h)))
pre-append s (x ∷ v) w h =
    let s1 = after x s in
    let front = word_front s1 v w h.1 in
    let e = der-pre s x v h.0 front in
    rw (e, pre-append s1 v w h.1) (sym (join_assoc (one_of_derives s x h.0) (word_derives s1 v front) (word_derives (der (pre s1 v) s1) w (word_back s1 v w h.1))))

-- words that stand for one prefix leave one type
pub after_word-same : (s : StreamType) (v w : List StreamEvent) → IsWord s v → IsWord s w → pre s v ≡ pre s w → after_word v s ≡ after_word w s
after_word-same s v w h k e = after_word-pre s v h ∙ ap (λ p. der p s) e ∙ sym (after_word-pre s w k)

-- a word and one event more
pub word_push : (s : StreamType) (w : List StreamEvent) (x : StreamEvent) → IsWord s w → Admits (der (pre s w) s) x → IsWord s (w ++ x ∷ [])
word_push s w x h k = word_join s w (x ∷ []) h (k, tt)

-- the prefix of a word and one event more
pub pre-push : (s : StreamType) (w : List StreamEvent) (x : StreamEvent) → IsWord s w → Admits (der (pre s w) s) x → pre s (w ++ x ∷ []) ≡ join (pre s w) (one_of x (der (pre s w) s))
pre-push s w x h k =
    pre-append s w (x ∷ []) (word_push s w x h k) ∙ ap (join (pre s w)) (join-emp-der (one_of_derives (der (pre s w) s) x k))

-- what a word and one event more leave
pub after_word-push : (s : StreamType) (w : List StreamEvent) (x : StreamEvent) → after_word (w ++ x ∷ []) s ≡ after x (after_word w s)
after_word-push s [] x = refl
after_word-push s (y ∷ w) x = after_word-push (after y s) w x
