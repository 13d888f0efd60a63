-- More input gives more output of the right type and no fewer calls: form by form, from the parts' runs.
use Rattle.std.proofs.Common.{◌≡◌, ◌∙◌, ◌≤◌, ℕ, Bool, true, false, true≢false, List, ◌∷◌, eqb, if◌then◌else◌, ap, refl, subst, sym, arith}
use Rattle.std.specs.Prelude.{IsTrue}
use Rattle.stream_type.specs.StreamType.{StreamType, cat, par, sum, star}
use Rattle.stream_prefix.specs.StreamPrefix.{StreamPrefix, cat_both, in_left, in_right, star_emp, emp, is_maximal, der, join, IsPart}
use Rattle.stream_prefix.proofs.Derivations.{Derives, eps_has_emp, par_has_both, cat_has_fst, cat_has_both, sum_has_emp, sum_has_left, sum_has_right, star_has_emp, star_has_done, star_has_first, star_has_rest}
use Rattle.stream_prefix.proofs.Joins.{emp_is_prefix}
use Rattle.stream_prefix.proofs.Parts.{part, rest_derives, part_is_prefix, part_refl, part_emp, part_of_maximal, maximal_part, part_par, part_fst, part_cut, part_both, part_left, part_right}
use Rattle.bunch.specs.Names.{put}
use Rattle.bunch.proofs.Tests.{and_first, and_second}
use Rattle.core_term.specs.Environment.{Environment, NameTypes}
use Rattle.core_term.specs.Parts.{left_part, right_part, first_part, second_part, as_star}
use Rattle.core_term.specs.Run.{Run, Runs, quiet, relabel, par_run, cat_run_at, cat_run, let_run, sum_run, star_run, wait_run, run_before, frame_run, call_run}
use Rattle.core_term.proofs.Parameters.{Longer, one_longer}
use Rattle.core_term.proofs.Sides.{put_both}

-- a part of a whole first part of `s . t` is that part
part_row : {s t : StreamType} {p p' q q' : StreamPrefix} → Derives s p → IsTrue (is_maximal p) → IsPart s p p' → IsPart t q q' → IsPart (cat s t) (cat_both p q) (cat_both p' q')
part_row {s = s} {t = t} {p = p} {q = q} {q' = q'} h m g k = subst (λ w. IsPart (cat s t) (cat_both p q) (cat_both w q')) (sym (part_of_maximal h m g)) (part_both k)

-- a prefix of `s . s*`, read as one of `s*`
pub as_star-derives : {s : StreamType} {p : StreamPrefix} → Derives (cat s (star s)) p → Derives (star s) (as_star p)
as_star-derives (cat_has_fst h) = star_has_first h
as_star-derives (cat_has_both h m k) = star_has_rest h m k

pub is_maximal-as_star : {s : StreamType} {p : StreamPrefix} → Derives (cat s (star s)) p → is_maximal (as_star p) ≡ is_maximal p
is_maximal-as_star (cat_has_fst h) = refl
is_maximal-as_star (cat_has_both h m k) = refl

pub as_star-join : {s : StreamType} {p q : StreamPrefix} → Derives (cat s (star s)) p → Derives (der p (cat s (star s))) q → as_star (join p q) ≡ join (as_star p) q
as_star-join (cat_has_fst h) (cat_has_fst k) = refl
as_star-join (cat_has_fst h) (cat_has_both k m l) = refl
as_star-join (cat_has_both h m k) l = refl

pub der-as_star : {s : StreamType} {p : StreamPrefix} → Derives (cat s (star s)) p → der (as_star p) (star s) ≡ der p (cat s (star s))
der-as_star (cat_has_fst h) = refl
der-as_star (cat_has_both h m k) = refl

as_star-part : {s : StreamType} {p q : StreamPrefix} → Derives (cat s (star s)) p → IsPart (cat s (star s)) p q → IsPart (star s) (as_star p) (as_star q)
as_star-part {s = s} {p = p} h g =
    let k = rest_derives g in part (subst (λ t. Derives t g.rest) (sym (der-as_star h)) k) (sym (as_star-join h k) ∙ ap as_star g.joins)

-- the parts of prefixes, and of longer ones
pub par_parts : {s t : StreamType} {p : StreamPrefix} → Derives (par s t) p → Derives s (left_part p) × Derives t (right_part p)
par_parts (par_has_both h k) = (h, k)

pub cat_parts : {s t : StreamType} {p : StreamPrefix} → Derives (cat s t) p → Derives s (first_part p) × Derives t (second_part t p)
cat_parts {t = t} (cat_has_fst h) = (h, emp_is_prefix t)
cat_parts (cat_has_both h m k) = (h, k)

par_parts_join : {s t : StreamType} {p r : StreamPrefix} → Derives (par s t) p → Derives (der p (par s t)) r → IsPart s (left_part p) (left_part (join p r)) × IsPart t (right_part p) (right_part (join p r))
par_parts_join (par_has_both h k) (par_has_both i l) = (part i refl, part l refl)

pub par_parts_grow : {s t : StreamType} {p q : StreamPrefix} → Derives (par s t) p → IsPart (par s t) p q → IsPart s (left_part p) (left_part q) × IsPart t (right_part p) (right_part q)
par_parts_grow {s = s} {t = t} {p = p} h g = subst (λ w. IsPart s (left_part p) (left_part w) × IsPart t (right_part p) (right_part w)) g.joins (par_parts_join h (rest_derives g))

cat_parts_join : {s t : StreamType} {p r : StreamPrefix} → Derives (cat s t) p → Derives (der p (cat s t)) r → IsPart s (first_part p) (first_part (join p r)) × IsPart t (second_part t p) (second_part t (join p r))
cat_parts_join {t = t} (cat_has_fst h) (cat_has_fst i) = (part i refl, part_refl (emp_is_prefix t))
cat_parts_join {t = t} (cat_has_fst h) (cat_has_both i m l) = (part i refl, part_emp l)
cat_parts_join (cat_has_both h m k) i = (part_refl h, part i refl)

pub cat_parts_grow : {s t : StreamType} {p q : StreamPrefix} → Derives (cat s t) p → IsPart (cat s t) p q → IsPart s (first_part p) (first_part q) × IsPart t (second_part t p) (second_part t q)
cat_parts_grow {s = s} {t = t} {p = p} h g = subst (λ w. IsPart s (first_part p) (first_part w) × IsPart t (second_part t p) (second_part t w)) g.joins (cat_parts_join h (rest_derives g))

-- the parts of whole ones are whole
pub par_parts_whole : {s t : StreamType} {p : StreamPrefix} → Derives (par s t) p → IsTrue (is_maximal p) → IsTrue (is_maximal (left_part p)) × IsTrue (is_maximal (right_part p))
par_parts_whole (par_has_both {p = p} {q = q} h k) m = (and_first (is_maximal p) (is_maximal q) m, and_second (is_maximal p) (is_maximal q) m)

pub cat_parts_whole : {s t : StreamType} {p : StreamPrefix} → Derives (cat s t) p → IsTrue (is_maximal p) → IsTrue (is_maximal (first_part p)) × IsTrue (is_maximal (second_part t p))
cat_parts_whole (cat_has_fst h) m = absurd (true≢false (sym m))
cat_parts_whole (cat_has_both {p = p} {q = q} h n k) m = (n, and_second (is_maximal p) (is_maximal q) m)

-- two runs of one part, of type r, the second on more input
pub record Grows (r : StreamType) (a b : Run) : Type 0 where
  pub first : Derives r a.out
  pub next : Derives r b.out
  pub part : IsPart r a.out b.out
  pub calls : a.calls ≤ b.calls

pub quiet_grows : {r : StreamType} {p q : StreamPrefix} → Derives r p → IsPart r p q → Grows r (quiet p) (quiet q)
quiet_grows h g = record { first = h; next = part_is_prefix h g; part = g; calls = omega arith }

pub quiet_same : {r : StreamType} {p : StreamPrefix} → Derives r p → Grows r (quiet p) (quiet p)
quiet_same h = quiet_grows h (part_refl h)

-- at first nothing was given
pub nothing_grows : {r : StreamType} {a : Run} → Derives r a.out → Grows r (quiet (emp r)) a
nothing_grows {r = r} h = record { first = emp_is_prefix r; next = h; part = part_emp h; calls = omega arith }

pub par_grows : {s t : StreamType} {a a' b b' : Run} → Grows s a a' → Grows t b b' → Grows (par s t) (par_run a b) (par_run a' b')
par_grows x y = record { first = par_has_both x.first y.first; next = par_has_both x.next y.next; part = part_par x.part y.part; calls = omega (arith, x.calls, y.calls) }

pub cat_grows : {s t : StreamType} {a a' b b' : Run} → Grows s a a' → Grows t b b' → Grows (cat s t) (cat_run a b) (cat_run a' b')
cat_grows {s = s} {t = t} {a = a} {a' = a'} {b = b} {b' = b'} x y = go (is_maximal a.out) refl (is_maximal a'.out) refl
  where
    go : (c : Bool) → is_maximal a.out ≡ c → (c' : Bool) → is_maximal a'.out ≡ c' → Grows (cat s t) (cat_run_at c a b) (cat_run_at c' a' b')
    go true m true m' = record { first = cat_has_both x.first m y.first; next = cat_has_both x.next m' y.next; part = part_row x.first m x.part y.part; calls = omega (arith, x.calls, y.calls) }
    go true m false m' = absurd (true≢false (sym (maximal_part x.first m x.part) ∙ m'))
    go false m true m' = record { first = cat_has_fst x.first; next = cat_has_both x.next m' y.next; part = part_cut x.first x.part m' y.next; calls = omega (arith, x.calls, y.calls) }
    go false m false m' = record { first = cat_has_fst x.first; next = cat_has_fst x.next; part = part_fst x.part; calls = x.calls }

pub cons_grows : {s : StreamType} {a a' : Run} → Grows (cat s (star s)) a a' → Grows (star s) (relabel as_star a) (relabel as_star a')
cons_grows x = record { first = as_star-derives x.first; next = as_star-derives x.next; part = as_star-part x.first x.part; calls = x.calls }

pub inl_grows : {s t : StreamType} {a a' : Run} → Grows s a a' → Grows (sum s t) (relabel in_left a) (relabel in_left a')
inl_grows x = record { first = sum_has_left x.first; next = sum_has_left x.next; part = part_left x.part; calls = x.calls }

pub inr_grows : {s t : StreamType} {a a' : Run} → Grows t a a' → Grows (sum s t) (relabel in_right a) (relabel in_right a')
inr_grows x = record { first = sum_has_right x.first; next = sum_has_right x.next; part = part_right x.part; calls = x.calls }

pub let_grows : (v : Bool) {s r : StreamType} {a a' b b' : Run} → Grows s a a' → Grows r b b' → Grows r (let_run v a b) (let_run v a' b')
let_grows v x y = record { first = y.first; next = y.next; part = y.part; calls = omega (arith, x.calls, y.calls) }

-- cases whose branches grow
module _ {s t r : StreamType} {a a' b b' : StreamPrefix → Run} (ha : (u v : StreamPrefix) → Derives s u → IsPart s u v → Grows r (a u) (a' v)) (hb : (u v : StreamPrefix) → Derives t u → IsPart t u v → Grows r (b u) (b' v)) where
  sum_join_grows : {p x : StreamPrefix} → Derives (sum s t) p → Derives (der p (sum s t)) x → Grows r (sum_run r p a b) (sum_run r (join p x) a' b')
  sum_join_grows sum_has_emp sum_has_emp = quiet_same (emp_is_prefix r)
  sum_join_grows sum_has_emp (sum_has_left {p = u} h) = nothing_grows (ha u u h (part_refl h)).next
  sum_join_grows sum_has_emp (sum_has_right {p = u} h) = nothing_grows (hb u u h (part_refl h)).next
  sum_join_grows (sum_has_left {p = u} h) k = ha u (join u _) h (part k refl)
  sum_join_grows (sum_has_right {p = u} h) k = hb u (join u _) h (part k refl)

  pub sum_grows : {p q : StreamPrefix} → Derives (sum s t) p → IsPart (sum s t) p q → Grows r (sum_run r p a b) (sum_run r q a' b')
  sum_grows {p = p} h g = subst (λ w. Grows r (sum_run r p a b) (sum_run r w a' b')) g.joins (sum_join_grows h (rest_derives g))

module _ {s r : StreamType} {a a' : Run} {b b' : StreamPrefix → StreamPrefix → Run} (ha : Grows r a a')
    (hb : (u u' v v' : StreamPrefix) → Derives s u → Derives (star s) v → IsPart s u u' → IsPart (star s) v v' → Grows r (b u v) (b' u' v')) where
  star_join_grows : {p x : StreamPrefix} → Derives (star s) p → Derives (der p (star s)) x → Grows r (star_run r p a b) (star_run r (join p x) a' b')
  star_join_grows star_has_emp star_has_emp = quiet_same (emp_is_prefix r)
  star_join_grows star_has_emp star_has_done = nothing_grows ha.next
  star_join_grows star_has_emp (star_has_first {p = u} h) = nothing_grows (hb u u star_emp star_emp h star_has_emp (part_refl h) (part_refl star_has_emp)).next
  star_join_grows star_has_emp (star_has_rest {p = u} {q = v} h m k) = nothing_grows (hb u u v v h k (part_refl h) (part_refl k)).next
  star_join_grows star_has_done eps_has_emp = ha
  star_join_grows (star_has_first {p = u} h) (cat_has_fst {p = x} k) = hb u (join u x) star_emp star_emp h star_has_emp (part k refl) (part_refl star_has_emp)
  star_join_grows (star_has_first {p = u} h) (cat_has_both {p = x} {q = v} k m l) = hb u (join u x) star_emp v h star_has_emp (part k refl) (part_emp l)
  star_join_grows (star_has_rest {p = u} {q = v} h m k) x = hb u u v (join v _) h k (part_refl h) (part x refl)

  pub star_grows : {p q : StreamPrefix} → Derives (star s) p → IsPart (star s) p q → Grows r (star_run r p a b) (star_run r q a' b')
  star_grows {p = p} h g = subst (λ w. Grows r (star_run r p a b) (star_run r w a' b')) g.joins (star_join_grows h (rest_derives g))

pub wait_grows : {s r : StreamType} {p q : StreamPrefix} (a b : StreamPrefix → Run) → Derives s p → IsPart s p q → (IsTrue (is_maximal p) → Grows r (a p) (b p)) → (IsTrue (is_maximal q) → Derives r (b q).out)
    → Grows r (wait_run r (is_maximal p) (a p)) (wait_run r (is_maximal q) (b q))
wait_grows {r = r} {p = p} {q = q} a b h g f n = go (is_maximal p) refl (is_maximal q) refl
  where
    go : (c : Bool) → is_maximal p ≡ c → (c' : Bool) → is_maximal q ≡ c' → Grows r (wait_run r c (a p)) (wait_run r c' (b q))
    go true m true m' = subst (λ w. Grows r (a p) (b w)) (sym (part_of_maximal h m g)) (f m)
    go true m false m' = absurd (true≢false (sym (maximal_part h m g) ∙ m'))
    go false m true m' = nothing_grows (n m')
    go false m false m' = quiet_same (emp_is_prefix r)

-- two runs of arguments of these types, the second on more input
pub record GrowAll (ts : List StreamType) (a b : Runs) : Type 0 where
  pub outs : Longer ts a.outs b.outs
  pub calls : a.calls ≤ b.calls

pub before_grows : (v : Bool) {t : StreamType} {ts : List StreamType} {a a' : Run} {b b' : Runs} → Grows t a a' → GrowAll ts b b' → GrowAll (t ∷ ts) (run_before v a b) (run_before v a' b')
before_grows v x y = record { outs = one_longer x.first x.part y.outs; calls = omega (arith, x.calls, y.calls) }

pub frame_grows : {ts : List StreamType} {r : StreamType} {a a' : Runs} {b b' : Run} → GrowAll ts a a' → Grows r b b' → Grows r (frame_run a b) (frame_run a' b')
frame_grows x y = record { first = y.first; next = y.next; part = y.part; calls = omega (arith, x.calls, y.calls) }

pub call_grows : {ts : List StreamType} {r : StreamType} {a a' : Runs} {b b' : Run} → GrowAll ts a a' → Grows r b b' → Grows r (call_run a b) (call_run a' b')
call_grows x y = record { first = y.first; next = y.next; part = y.part; calls = omega (arith, x.calls, y.calls) }

-- each name has a prefix of its type
pub record Streams (T : NameTypes) (d : Environment) : Type 0 where
  pub at : (x : ℕ) → Derives (T x) (d x)

-- and a longer one in the other environment
pub record Continues (T : NameTypes) (d e : Environment) : Type 0 where
  pub at : (x : ℕ) → IsPart (T x) (d x) (e x)

pub streams_put : (x : ℕ) (s : StreamType) (p : StreamPrefix) (T : NameTypes) (d : Environment) → Derives s p → Streams T d → Streams (put x s T) (put x p d)
streams_put x s p T d h k = record { at = λ y. put_both Derives x s p T d y h (k.at y) }

pub streams_put_two : (x y : ℕ) (s t : StreamType) (p q : StreamPrefix) (T : NameTypes) (d : Environment) → Derives s p → Derives t q → Streams T d → Streams (put y t (put x s T)) (put y q (put x p d))
streams_put_two x y s t p q T d h k i = streams_put y t q (put x s T) (put x p d) k (streams_put x s p T d h i)

three_at : {A : Type 0} (R : A → StreamPrefix → StreamPrefix → Type 0) (x : ℕ) (a : A) (b c : StreamPrefix) (T : ℕ → A) (g h : Environment) (y : ℕ) → R a b c → R (T y) (g y) (h y) → R (put x a T y) (put x b g y) (put x c h y)
three_at R x a b c T g h y k l = go (eqb y x)
  where
    go : (o : Bool) → R (if o then a else T y) (if o then b else g y) (if o then c else h y)
    go true = k
    go false = l

pub continues_put : (x : ℕ) (s : StreamType) (p q : StreamPrefix) (T : NameTypes) (d e : Environment) → IsPart s p q → Continues T d e → Continues (put x s T) (put x p d) (put x q e)
continues_put x s p q T d e g h = record { at = λ y. three_at IsPart x s p q T d e y g (h.at y) }

pub continues_put_two : (x y : ℕ) (s t : StreamType) (p p' q q' : StreamPrefix) (T : NameTypes) (d e : Environment) → IsPart s p p' → IsPart t q q' → Continues T d e
    → Continues (put y t (put x s T)) (put y q (put x p d)) (put y q' (put x p' e))
continues_put_two x y s t p p' q q' T d e g k h = continues_put y t q q' (put x s T) (put x p d) (put x p' e) k (continues_put x s p p' T d e g h)

pub continued_streams : (T : NameTypes) (d e : Environment) → Streams T d → Continues T d e → Streams T e
continued_streams T d e h g = record { at = λ x. part_is_prefix (h.at x) (g.at x) }

pub continues_same : (T : NameTypes) (d : Environment) → Streams T d → Continues T d d
continues_same T d h = record { at = λ x. part_refl (h.at x) }
