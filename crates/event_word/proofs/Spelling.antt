-- The canonical word of a prefix is a word that stands for it.
use Rattle.std.proofs.Common.{◌≡◌, ◌↔◌, List, [], ◌∷◌, ◌++◌, map, refl, sym, ap, ◌∙◌}
use Rattle.std.specs.Prelude.{IsTrue}
use Rattle.stream_type.specs.StreamType.{StreamType, eps, one, int, cat, par, sum, star}
use Rattle.stream_prefix.specs.StreamPrefix.{StreamPrefix, par_both, cat_fst, cat_both, emp, is_maximal, der, join, IsPrefix}
use Rattle.stream_prefix.proofs.Derivations.{Derives, derives, eps_has_emp, one_has_emp, one_has_full, int_has_emp, int_has_full, par_has_both, cat_has_fst, cat_has_both, sum_has_emp, sum_has_left, sum_has_right, star_has_emp, star_has_done, star_has_first, star_has_rest}
use Rattle.stream_prefix.proofs.Joins.{emp_is_prefix, join-emp, null_of-der, der-emp, join-emp-der}
use Rattle.event_word.specs.declared.event.Step.TheVariants.{Left, Right, First}
use Rattle.event_word.specs.declared.event.Leaf.TheVariants.{Inl, Inr, Cut, Item}
use Rattle.event_word.specs.StreamEvent.{StreamEvent, under, leaf_of}
use Rattle.event_word.specs.Admits.{Admits}
use Rattle.event_word.specs.Word.{one_of, after, IsWord, pre}
use Rattle.event_word.specs.Canon.{canon}
use Rattle.event_word.proofs.Words.{word_join, pre-append}

-- events on one side of a pair, or in the first part of a sequence
left_word : (s t : StreamType) (w : List StreamEvent) → IsWord s w → IsWord (par s t) (map (under Left) w)
left_word s t [] h = tt
left_word s t (x ∷ w) h = (h.0, rw (der-emp t) (left_word (after x s) t w h.1))

-- what they stand for
left_pre : (s t : StreamType) (w : List StreamEvent) → IsWord s w → pre (par s t) (map (under Left) w) ≡ par_both (pre s w) (emp t)
left_pre s t [] h = refl
left_pre s t (x ∷ w) h =
    rw (der-emp t, left_pre (after x s) t w h.1) (ap (par_both (pre s (x ∷ w))) (join-emp (emp_is_prefix t)))

right_word : (s t : StreamType) (w : List StreamEvent) → IsWord t w → IsWord (par s t) (map (under Right) w)
right_word s t [] h = tt
right_word s t (x ∷ w) h = (h.0, rw (der-emp s) (right_word s (after x t) w h.1))

pub right_pre : (s t : StreamType) (w : List StreamEvent) → IsWord t w → pre (par s t) (map (under Right) w) ≡ par_both (emp s) (pre t w)
right_pre s t [] h = refl
right_pre s t (x ∷ w) h =
    rw (der-emp s, right_pre s (after x t) w h.1) (ap (λ p. par_both p (pre t (x ∷ w))) (join-emp (emp_is_prefix s)))

first_word : (s t : StreamType) (w : List StreamEvent) → IsWord s w → IsWord (cat s t) (map (under First) w)
first_word s t [] h = tt
first_word s t (x ∷ w) h = (h.0, first_word (after x s) t w h.1)

first_pre : (s t : StreamType) (w : List StreamEvent) → IsWord s w → pre (cat s t) (map (under First) w) ≡ cat_fst (pre s w)
first_pre s t [] h = refl
first_pre s t (x ∷ w) h = rw (first_pre (after x s) t w h.1)

-- a word of a type, and the prefix for which it stands
record Spells (s : StreamType) (w : List StreamEvent) (p : StreamPrefix) : Type 0 where
  word : IsWord s w
  means : pre s w ≡ p

spells_append : (s s1 : StreamType) (v w : List StreamEvent) (p q : StreamPrefix) → Spells s v p → der p s ≡ s1 → Spells s1 w q → Spells s (v ++ w) (join p q)
spells_append s s1 v w p q a e b =
    let left : der (pre s v) s ≡ s1 = rw a.means e in
    let whole = word_join s v w a.word (rw left b.word) in
    record { word = whole; means = pre-append s v w whole ∙ rw (left, a.means, b.means) }

-- one event more in front
spells_more : (s s1 : StreamType) (x : StreamEvent) (w : List StreamEvent) (q : StreamPrefix) → Admits s x → after x s ≡ s1 → Spells s1 w q → Spells s (x ∷ w) (join (one_of x s) q)
spells_more s s1 x w q h e b = record { word = (h, rw e b.word); means = rw (e, b.means) }

-- the first part, Cut and the second part
spells_both : {s t : StreamType} {p q : StreamPrefix} (v w : List StreamEvent) → Derives s p → IsTrue (is_maximal p) → Derives t q → Spells s v p → Spells t w q → Spells (cat s t) (map (under First) v ++ leaf_of Cut ∷ w) (cat_both p q)
spells_both {s = s} {t = t} {p = p} {q = q} v w h m k a b =
    let front : Spells (cat s t) (map (under First) v) (cat_fst p) =
    record { word = first_word s t v a.word; means = first_pre s t v a.word ∙ ap cat_fst a.means } in
    let back = spells_more (cat (der p s) t) t (leaf_of Cut) w q (null_of-der h ∙ m) (der-emp t) b in
    let whole = spells_append (cat s t) (cat (der p s) t) _ _ _ _ front refl back in
    rw (join-emp-der h, join-emp k) at whole

-- the canonical word is a word and stands for its prefix
canon_spells : {s : StreamType} {p : StreamPrefix} → Derives s p → Spells s (canon p) p
canon_spells eps_has_emp = record { word = tt; means = refl }
canon_spells one_has_emp = record { word = tt; means = refl }
canon_spells one_has_full = record { word = (tt, tt); means = refl }
canon_spells int_has_emp = record { word = tt; means = refl }
canon_spells int_has_full = record { word = (tt, tt); means = refl }
canon_spells (par_has_both {s = s} {t = t} {p = p} {q = q} h k) =
    let a = canon_spells h in
    let b = canon_spells k in
    let front : Spells (par s t) (map (under Left) (canon p)) (par_both p (emp t)) =
    record { word = left_word s t (canon p) a.word; means = left_pre s t (canon p) a.word ∙ ap (λ r. par_both r (emp t)) a.means } in
    let back : Spells (par (der p s) t) (map (under Right) (canon q)) (par_both (emp (der p s)) q) =
    record { word = right_word (der p s) t (canon q) b.word; means = right_pre (der p s) t (canon q) b.word ∙ ap (par_both (emp (der p s))) b.means } in
    let whole = spells_append (par s t) (par (der p s) t) _ _ _ _ front (ap (par (der p s)) (der-emp t)) back in
    rw (join-emp-der h, join-emp k) at whole
canon_spells (cat_has_fst {s = s} {t = t} {p = p} h) =
    let a = canon_spells h in
    record { word = first_word s t (canon p) a.word; means = first_pre s t (canon p) a.word ∙ ap cat_fst a.means }
canon_spells (cat_has_both h m k) = spells_both _ _ h m k (canon_spells h) (canon_spells k)
canon_spells sum_has_emp = record { word = tt; means = refl }
canon_spells (sum_has_left {s = s} {t = t} {p = p} h) =
    let whole = spells_more (sum s t) s (leaf_of Inl) (canon p) p tt (der-emp s) (canon_spells h) in
    rw (join-emp h) at whole
canon_spells (sum_has_right {s = s} {t = t} {p = p} h) =
    let whole = spells_more (sum s t) t (leaf_of Inr) (canon p) p tt (der-emp t) (canon_spells h) in
    rw (join-emp h) at whole
canon_spells star_has_emp = record { word = tt; means = refl }
canon_spells star_has_done = record { word = (tt, tt); means = refl }
canon_spells (star_has_first {s = s} {p = p} h) =
    let a = canon_spells h in
    let inner : Spells (cat s (star s)) (map (under First) (canon p)) (cat_fst p) =
    record { word = first_word s (star s) (canon p) a.word; means = first_pre s (star s) (canon p) a.word ∙ ap cat_fst a.means } in
    let whole = spells_more (star s) (cat s (star s)) (leaf_of Item) _ _ tt (ap (λ r. cat r (star s)) (der-emp s)) inner in
    rw (join-emp h) at whole
canon_spells (star_has_rest {s = s} {p = p} {q = q} h m k) =
    let inner = spells_both (canon p) (canon q) h m k (canon_spells h) (canon_spells k) in
    let whole = spells_more (star s) (cat s (star s)) (leaf_of Item) _ _ tt (ap (λ r. cat r (star s)) (der-emp s)) inner in
    rw (join-emp h) at whole

pub canon_is_word : (s : StreamType) (p : StreamPrefix) → IsPrefix s p → IsWord s (canon p)
canon_is_word s p h = (canon_spells (derives s p h)).word

pub pre-canon : (s : StreamType) (p : StreamPrefix) → IsPrefix s p → pre s (canon p) ≡ p
pre-canon s p h = (canon_spells (derives s p h)).means

-- nothing has come, so nothing is said
pub canon-emp : (s : StreamType) → canon (emp s) ≡ []
canon-emp eps = refl
canon-emp one = refl
canon-emp int = refl
canon-emp (cat s t) = rw (canon-emp s)
canon-emp (par s t) = rw (canon-emp s, canon-emp t)
canon-emp (sum s t) = refl
canon-emp (star s) = refl

-- nothing is said of the empty prefix alone
pub canon-is-empty : (s : StreamType) (p : StreamPrefix) → IsPrefix s p → (canon p ≡ []) ↔ (p ≡ emp s)
canon-is-empty s p h = (λ e. sym (pre-canon s p h) ∙ ap (pre s) e, λ e. ap canon e ∙ canon-emp s)
