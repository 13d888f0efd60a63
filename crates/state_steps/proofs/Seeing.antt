-- Contexts that have as much of some names as another context has, through each form that binds names.
use Rattle.std.proofs.Common.{◌≡◌, ◌∙◌, ℕ, true, true≢false, List, [], ◌∷◌, ap, ap₂, refl, sym, Bool, false, eqb, ◌&&◌, if◌then◌else◌, ◌++◌}
use Rattle.std.specs.Prelude.{Some, unwrap_or, Option, None, is_some}
use Rattle.stream_type.specs.StreamType.{StreamType, eps}
use Rattle.bunch.specs.Facts.{Facts, place_like}
use Rattle.bunch.specs.Names.{holds}
use Rattle.bunch.proofs.Tests.{and_first, and_second}
use Rattle.hist_value.specs.HistType.{HistType, past}
use Rattle.core_term.specs.FreeNames.{without}
use Rattle.core_term.specs.Typing.{Context, type_at, with_name, with_fact, with_parts, is_before, AllBefore, with_name_like, waited}
use Rattle.core_term.proofs.Retyping.{Among, among_same}
use Rattle.core_term.proofs.Without.{holds-without}
use Rattle.delta_state.specs.StateTree.{Known}
use Rattle.delta_state.specs.StateTyping.{with_past, with_known}
use Rattle.state_steps.proofs.NamesAmong.{among_tail, among_left, among_right, among_under}
use Rattle.state_steps.proofs.FactsWithin.{WithinOn, within_fewer, within_on_like, within_on_before}

-- of the names of the list the second context has what the first has
pub record Sees (xs : List ℕ) (c e : Context) : Type 0 where
  pub types : (x : ℕ) (s : StreamType) → holds x xs ≡ true → c.types x ≡ Some s → e.types x ≡ Some s
  pub order : WithinOn xs c.order e.order
  pub past : (x : ℕ) (h : HistType) → c.past x ≡ Some h → e.past x ≡ Some h

-- fewer names ask for less
pub sees_fewer : (xs ys : List ℕ) (c e : Context) → Among ys xs → Sees xs c e → Sees ys c e
sees_fewer xs ys c e a h = record { types = λ x s m k. h.types x s (a.at x m) k; order = within_fewer xs ys c.order e.order a h.order; past = h.past }

-- from one context to the next
pub sees_next : (xs : List ℕ) (c d e : Context) → Sees xs c d → Sees xs d e → Sees xs c e
sees_next xs c d e h k = record { types = λ x s m i. k.types x s m (h.types x s m i); order = record { at = λ x y m n i. k.order.at x y m n (h.order.at x y m n i) }; past = λ x t i. k.past x t (h.past x t i) }

-- the names of two lists in a row: those of the first,
pub sees_left : (xs ys : List ℕ) (c e : Context) → Sees (xs ++ ys) c e → Sees xs c e
sees_left xs ys c e h = sees_fewer (xs ++ ys) xs c e (among_left ys (among_same xs)) h

-- those of the second,
pub sees_right : (xs ys : List ℕ) (c e : Context) → Sees (xs ++ ys) c e → Sees ys c e
sees_right xs ys c e h = sees_fewer (xs ++ ys) ys c e (among_right xs (among_same ys)) h

-- and those behind a name
pub sees_tail : (z : ℕ) (xs : List ℕ) (c e : Context) → Sees (z ∷ xs) c e → Sees xs c e
sees_tail z xs c e h = sees_fewer (z ∷ xs) xs c e (among_tail z (among_same xs)) h

-- a new name, whose place has as many facts in the second order
pub sees_name : (x : ℕ) (s : StreamType) (o q : Facts) (ys : List ℕ) (c e : Context) → Sees (without x ys) c e → WithinOn ys o q → Sees ys (with_name x s o c) (with_name x s q e)
sees_name x s o q ys c e h w = record { types = λ y u m k. types y u m (eqb y x) refl k; order = w; past = λ y u k. kept y u (eqb y x) k }
  where
    types : (y : ℕ) (u : StreamType) → holds y ys ≡ true → (b : Bool) → eqb y x ≡ b → (if b then Some s else c.types y) ≡ Some u → (if b then Some s else e.types y) ≡ Some u
    types y u m true n k = k
    types y u m false n k = h.types y u (holds-without y x ys n m) k

    kept : (y : ℕ) (u : HistType) (b : Bool) → (if b then None else c.past y) ≡ Some u → (if b then None else e.past y) ≡ Some u
    kept y u true k = k
    kept y u false k = h.past y u k

-- a new name that is placed like z
pub sees_like : (x : ℕ) (s : StreamType) (z : ℕ) (ys : List ℕ) (c e : Context) → Sees (z ∷ without x ys) c e → Sees ys (with_name_like x s z c) (with_name_like x s z e)
sees_like x s z ys c e h = sees_name x s (place_like x z c.order) (place_like x z e.order) ys c e (sees_tail z (without x ys) c e h) (within_on_like x z ys c.order e.order h.order)

-- the names of z's parts
pub sees_parts : (x : ℕ) (s : StreamType) (y : ℕ) (t : StreamType) (z : ℕ) (ys : List ℕ) (c e : Context) → Sees (z ∷ without x (without y ys)) c e → Sees ys (with_parts x s y t z c) (with_parts x s y t z e)
sees_parts x s y t z ys c e h =
    sees_like y t z ys (with_name_like x s z c) (with_name_like x s z e)
    (sees_like x s z (z ∷ without y ys) c e (sees_fewer (z ∷ without x (without y ys)) (z ∷ without x (z ∷ without y ys)) c e (among_under x z (without y ys)) h))

-- the first of two names is put before the second
pub sees_fact : (x y : ℕ) (ys : List ℕ) (c e : Context) → Sees ys c e → Sees ys (with_fact x y c) (with_fact x y e)
sees_fact x y ys c e h = record { types = h.types; order = within_on_before x y ys c.order e.order h.order; past = h.past }

-- a name that is waited for, of one type in both
pub sees_waited : (x : ℕ) (ys : List ℕ) (c e : Context) → type_at c x ≡ type_at e x → Sees ys c e → Sees ys (waited x c) (waited x e)
sees_waited x ys c e t h = record { types = λ y u m k. types y u m (eqb y x) k; order = h.order; past = λ y u k. kept y u (eqb y x) k }
  where
    types : (y : ℕ) (u : StreamType) → holds y ys ≡ true → (b : Bool) → (if b then None else c.types y) ≡ Some u → (if b then None else e.types y) ≡ Some u
    types y u m true k = k
    types y u m false k = h.types y u m k

    kept : (y : ℕ) (u : HistType) (b : Bool) → (if b then Some (past (type_at c x)) else c.past y) ≡ Some u → (if b then Some (past (type_at e x)) else e.past y) ≡ Some u
    kept y u true k = ap (λ w. Some (past w)) (sym t) ∙ k
    kept y u false k = h.past y u k

-- a name that has a value
pub sees_known : (x : ℕ) (t : StreamType) (ys : List ℕ) (c e : Context) → Sees ys c e → Sees ys (with_known x t c) (with_known x t e)
sees_known x t ys c e h = record { types = h.types; order = h.order; past = λ y u k. kept y u (eqb y x) k }
  where
    kept : (y : ℕ) (u : HistType) (b : Bool) → (if b then Some (past t) else c.past y) ≡ Some u → (if b then Some (past t) else e.past y) ≡ Some u
    kept y u true k = k
    kept y u false k = h.past y u k

-- names that have values
pub sees_past : (es : List Known) (ys : List ℕ) (c e : Context) → Sees ys c e → Sees ys (with_past es c) (with_past es e)
sees_past [] ys c e h = h
sees_past (k ∷ es) ys c e h = sees_known k.name k.type ys (with_past es c) (with_past es e) (sees_past es ys c e h)

-- whether a name is a stream variable
some_seen : (o : Option StreamType) (q : Option StreamType) → ((s : StreamType) → o ≡ Some s → q ≡ Some s) → is_some o ≡ true → is_some q ≡ true
some_seen (Some s) q f m = ap is_some (f s refl)
some_seen None q f m = absurd (true≢false (sym m))

-- what stands before another name does so in the second context too
pub before_seen : (xs : List ℕ) (c e : Context) → Sees xs c e → (x y : ℕ) → holds x xs ≡ true → holds y xs ≡ true → is_before c x y ≡ true → is_before e x y ≡ true
before_seen xs c e h x y m n k =
    let both = and_first (is_some (c.types x) && is_some (c.types y)) (c.order x y) k in
    ap₂ ◌&&◌
    (ap₂ ◌&&◌ (some_seen (c.types x) (e.types x) (λ s i. h.types x s m i) (and_first (is_some (c.types x)) (is_some (c.types y)) both))
    (some_seen (c.types y) (e.types y) (λ s i. h.types y s n i) (and_second (is_some (c.types x)) (is_some (c.types y)) both)))
    (h.order.at x y m n (and_second (is_some (c.types x) && is_some (c.types y)) (c.order x y) k))

-- and so do all names of a list before all of another
pub all_seen : (zs xs ys : List ℕ) (c e : Context) → Sees zs c e → Among xs zs → Among ys zs → AllBefore c xs ys → AllBefore e xs ys
all_seen zs xs ys c e h a b k x y m n = before_seen zs c e h x y (a.at x m) (b.at y n) (k x y m n)

-- the two parts of a sequence
pub both_seen : (xs ys : List ℕ) (c e : Context) → Sees (xs ++ ys) c e → AllBefore c xs ys → AllBefore e xs ys
both_seen xs ys c e h k = all_seen (xs ++ ys) xs ys c e h (among_left ys (among_same xs)) (among_right xs (among_same ys)) k

-- the type of a name that both have
pub type_seen : (c e : Context) (z : ℕ) (s : StreamType) → c.types z ≡ Some s → e.types z ≡ Some s → type_at c z ≡ type_at e z
type_seen c e z s k i = ap (λ o. unwrap_or o eps) (k ∙ sym i)
