-- Depths at which a step was learned, far apart, and those that are there now: each is moved with what is a little below
-- it, and they suit the calls for which what is there now is deep enough.
use Rattle.std.proofs.Common.{◌≡◌, ◌∙◌, ◌+◌, ◌-◌, ◌*◌, ◌<◌, ◌≤◌, ℕ, zero, suc, Bool, true, false, true≢false, not, ◌&&◌, ◌||◌, List, [], ◌∷◌, map, length, get_or, eqb, leb, if◌then◌else◌, ap, ap₂, refl, sym, subst, arith}
use Rattle.std.specs.List.{All}
use Rattle.std.proofs.Math.Nat.{suc-mul}
use Rattle.std.proofs.lemmas.Bool.{eqb-true, eq-eqb, le-leb, lt-leb, or_left, or_right}
use Rattle.std.proofs.lemmas.List.Elements.{All-nil, All-cons, All-head, All-tail, All-same, All-map, All-weaker}
use Rattle.bunch.specs.Names.{holds}
use Rattle.delta_state.specs.StateTree.{LaterTree, laters_of}
use Rattle.other_numbers.specs.StateNumbers.{exchanged_later}
use Rattle.other_depths.specs.Depths.{deepened_later}
use Rattle.other_depths.specs.Suits.{SuitsAt}
use Rattle.filled_states.specs.Registers.{number_at, depth_or, depth_at}
use Rattle.filled_states.specs.Shifts.{IsAbove, AreSpread, spread_from, shift}
use Rattle.filled_states.specs.Laws.{ShiftMoves, ShiftByPlace, ShiftsAll, ShiftSuits, SpreadIsDistinct, SpreadDown}
use Rattle.filled_states.proofs.Found.{depths_found, depths_in_turn, depths_by_place}
use Rattle.filled_states.proofs.FilledStates.{laters_filled}

-- all that follow the first are more than m below it
below_first : (m c b : ℕ) (bs : List ℕ) → IsAbove m c bs → AreSpread m bs → holds b bs ≡ true → b + m < c
below_first m c b [] a s h = absurd (true≢false (sym h))
below_first m c b (d ∷ bs) a s h = go (below_first m d b bs s.0 s.1) (eqb b d) refl h
  where
    go : (holds b bs ≡ true → b + m < d) → (t : Bool) → eqb b d ≡ t → (t || holds b bs) ≡ true → b + m < c
    go rest true e i = let same : b ≡ d = eqb-true b d e in omega (arith, a, same)
    go rest false e i = let next : b + m < d = rest i in omega (arith, a, next)

-- so none stands twice
not_behind : (m b : ℕ) (bs : List ℕ) → IsAbove m b bs → AreSpread m bs → holds b bs ≡ false
not_behind m b bs a s = go (holds b bs) refl
  where
    go : (t : Bool) → holds b bs ≡ t → t ≡ false
    go false e = refl
    go true e = let below : b + m < b = below_first m b b bs a s e in absurd (omega (arith, below))

pub spread_is_distinct : SpreadIsDistinct
spread_is_distinct m [] s = refl
spread_is_distinct m (b ∷ bs) s = ap₂ (λ t u. not t && u) (not_behind m b bs s.0 s.1) (spread_is_distinct m bs s.1)

-- the test for the depth that is meant
is_meant : (m b j : ℕ) → j ≤ m → (leb (b - j) b && leb b (b - j + m)) ≡ true
is_meant m b j h = ap₂ ◌&&◌ (le-leb (b - j) b (omega arith)) (le-leb b (b - j + m) (omega (arith, h)))

-- and for one that stands before it
not_meant : (m c b j : ℕ) → b + m < c → (leb (b - j) c && leb c (b - j + m)) ≡ false
not_meant m c b j h = ap₂ ◌&&◌ (le-leb (b - j) c (omega (arith, h))) (lt-leb c (b - j + m) (omega (arith, h)))

moves_or : (bs es : List ℕ) (m b j d : ℕ) → AreSpread m bs → length bs ≡ length es → holds b bs ≡ true → j ≤ m → j ≤ b → shift bs es m (b - j) ≡ depth_or d bs es b - j
moves_or [] es m b j d s l h few deep = absurd (true≢false (sym h))
moves_or (c ∷ bs) [] m b j d s l h few deep = absurd (omega (arith, l))
moves_or (c ∷ bs) (e ∷ es) m b j d s l h few deep = go (λ i. moves_or bs es m b j d s.1 (omega (arith, l)) i few deep) (eqb b c) refl h
  where
    other : b + m < c → eqb c b ≡ false
    other k = at (eqb c b) refl
      where
        at : (t : Bool) → eqb c b ≡ t → t ≡ false
        at false x = refl
        at true x = let same : c ≡ b = eqb-true c b x in absurd (omega (arith, k, same))

    go : (holds b bs ≡ true → shift bs es m (b - j) ≡ depth_or d bs es b - j) → (t : Bool) → eqb b c ≡ t → (t || holds b bs) ≡ true → shift (c ∷ bs) (e ∷ es) m (b - j) ≡ depth_or d (c ∷ bs) (e ∷ es) b - j
    go rest true t i =
        let same : b ≡ c = eqb-true b c t in
        let less : c - (b - j) ≡ j = omega (arith, same, deep) in
        ap (λ u. if u then e - (c - (b - j)) else shift bs es m (b - j)) (subst (λ x. (leb (b - j) x && leb x (b - j + m)) ≡ true) same (is_meant m b j few))
        ∙ (ap (λ x. e - x) less
        ∙ sym (ap (λ u. (if u then e else depth_or d bs es b) - j) (eq-eqb c b (sym same))))
    go rest false t i =
        let below : b + m < c = below_first m c b bs s.0 s.1 i in
        ap (λ u. if u then e - (c - (b - j)) else shift bs es m (b - j)) (not_meant m c b j below)
        ∙ (rest i
        ∙ sym (ap (λ u. (if u then e else depth_or d bs es b) - j) (other below)))

pub shift_moves : ShiftMoves
shift_moves [] es m b j s l h few deep = absurd (true≢false (sym h))
shift_moves (c ∷ bs) [] m b j s l h few deep = absurd (omega (arith, l))
shift_moves bs (e ∷ es) m b j s l h few deep = moves_or bs (e ∷ es) m b j e s l h few deep

-- a depth itself
pub shift_at : (bs es : List ℕ) (m b : ℕ) → AreSpread m bs → length bs ≡ length es → holds b bs ≡ true → shift bs es m b ≡ depth_at bs es b
shift_at bs es m b s l h =
    let there : b - 0 ≡ b = omega arith in
    let beside : depth_at bs es b - 0 ≡ depth_at bs es b = omega arith in
    sym (ap (shift bs es m) there) ∙ (shift_moves bs es m b 0 s l h (omega arith) (omega arith) ∙ beside)

-- what stands at a place is there
there_at : (xs : List ℕ) (i d : ℕ) → i < length xs → holds (get_or xs i d) xs ≡ true
there_at [] i d h = absurd (omega (arith, h))
there_at (x ∷ xs) zero d h = or_left (eqb x x) (holds x xs) (eq-eqb x x refl)
there_at (x ∷ xs) (suc i) d h = or_right (eqb (get_or xs i d) x) (holds (get_or xs i d) xs) (there_at xs i d (omega (arith, h)))

pub shift_by_place : ShiftByPlace
shift_by_place bs es m i j b e s l there few deep =
    shift_moves bs es m (get_or bs i b) j s l (there_at bs i b there) few deep ∙ ap (λ x. x - j) (depths_by_place bs es i b e (spread_is_distinct m bs s) l there)

-- two functions that are the same on all that is held
same_on : (f g : ℕ → ℕ) (xs : List ℕ) → ((x : ℕ) → holds x xs ≡ true → f x ≡ g x) → map f xs ≡ map g xs
same_on f g [] h = refl
same_on f g (x ∷ xs) h = ap₂ ◌∷◌ (h x (or_left (eqb x x) (holds x xs) (eq-eqb x x refl))) (same_on f g xs (λ y i. h y (or_right (eqb y x) (holds y xs) i)))

pub shifts_all : ShiftsAll
shifts_all bs es m s l = same_on (shift bs es m) (depth_at bs es) bs (λ b h. shift_at bs es m b s l h) ∙ depths_in_turn bs es (spread_is_distinct m bs s) l

-- what is found is there
depth_or_there : (d : ℕ) (ds bs all : List ℕ) (n : ℕ) → holds d all ≡ true → ((x : ℕ) → holds x bs ≡ true → holds x all ≡ true) → holds (depth_or d ds bs n) all ≡ true
depth_or_there d [] bs all n h i = h
depth_or_there d (k ∷ ds) [] all n h i = h
depth_or_there d (k ∷ ds) (b ∷ bs) all n h i = go (depth_or_there d ds bs all n h (λ x j. i x (or_right (eqb x b) (holds x bs) j))) (eqb k n)
  where
    go : holds (depth_or d ds bs n) all ≡ true → (t : Bool) → holds (if t then b else depth_or d ds bs n) all ≡ true
    go rest true = i b (or_left (eqb b b) (holds b bs) (eq-eqb b b refl))
    go rest false = rest

pub depth_there : (ds bs : List ℕ) (n : ℕ) → 0 < length bs → holds (depth_at ds bs n) bs ≡ true
depth_there ds [] n h = absurd (omega (arith, h))
depth_there ds (b ∷ bs) n h = depth_or_there b ds (b ∷ bs) (b ∷ bs) n (or_left (eqb b b) (holds b bs) (eq-eqb b b refl)) (λ x i. i)

-- what holds of all holds of one
of_one : (P : ℕ → Type 0) (bs : List ℕ) (b : ℕ) → All P bs → holds b bs ≡ true → P b
of_one P [] b w h = absurd (true≢false (sym h))
of_one P (c ∷ bs) b w h = go (of_one P bs b (All-tail P c bs w)) (eqb b c) refl h
  where
    go : (holds b bs ≡ true → P b) → (t : Bool) → eqb b c ≡ t → (t || holds b bs) ≡ true → P b
    go rest true e i = subst P (sym (eqb-true b c e)) (All-head P c bs w)
    go rest false e i = rest i

-- and of all before they are changed
before_map : {X Y : Type 0} (P : X → Type 0) (f : Y → X) (ys : List Y) → All P (map f ys) → All (λ y. P (f y)) ys
before_map P f [] w = All-nil (λ y. P (f y))
before_map P f (y ∷ ys) w = All-cons (λ y. P (f y)) y ys (All-head P (f y) (map f ys) w) (before_map P f ys (All-tail P (f y) (map f ys) w))

module _ (ds bs es : List ℕ) (m n : ℕ) (s : AreSpread m bs) (deep : All (λ b. m ≤ b) bs) (some : 0 < length bs) (l : length bs ≡ length es) (few : n ≤ m) where
  -- what stands now where a key is
  now : (d : ℕ) → shift bs es m (depth_at ds bs d) ≡ depth_at ds es d
  now d =
      shift_at bs es m (depth_at ds bs d) s l (depth_there ds bs d some)
      ∙ (sym (depths_found (depth_at bs es) ds bs d some) ∙ ap (λ xs. depth_at ds xs d) (depths_in_turn bs es (spread_is_distinct m bs s) l))

  suits_at : (d : ℕ) → n ≤ depth_at ds es d → SuitsAt (shift bs es m) n (depth_at ds bs d)
  suits_at d h =
      let there = depth_there ds bs d some in
      let is_deep : m ≤ depth_at ds bs d = of_one (λ b. m ≤ b) bs (depth_at ds bs d) deep there in
      record {
        is_deep = omega (arith, few, is_deep);
        other_is_deep = subst (λ x. n ≤ x) (sym (now d)) h;
        keeps_steps = λ j le. shift_moves bs es m (depth_at ds bs d) j s l there (omega (arith, few, le)) (omega (arith, few, le, is_deep)) ∙ ap (λ x. x - j) (sym (shift_at bs es m (depth_at ds bs d) s l there));
      }

pub shift_suits : ShiftSuits
shift_suits ks vs us ds bs es m n t s deep some l few h =
    let P : LaterTree → Type 0 = λ x. SuitsAt (shift bs es m) n x.depth in
    let Q : LaterTree → Type 0 = λ x. n ≤ x.depth in
    let there = before_map (λ x. Q (deepened_later (depth_at ds es) x)) (exchanged_later (number_at ks us)) (laters_of t)
    (before_map Q (deepened_later (depth_at ds es)) (map (exchanged_later (number_at ks us)) (laters_of t)) (All-same Q _ _ (sym (laters_filled ks us ds es t)) h)) in
    All-same P _ _ (laters_filled ks vs ds bs t)
    (All-map P (deepened_later (depth_at ds bs)) (map (exchanged_later (number_at ks vs)) (laters_of t))
    (All-map (λ x. P (deepened_later (depth_at ds bs) x)) (exchanged_later (number_at ks vs)) (laters_of t)
    (All-weaker (λ x. n ≤ depth_at ds es x.depth) (λ x. SuitsAt (shift bs es m) n (depth_at ds bs x.depth)) (λ x i. suits_at ds bs es m n s deep some l few x.depth i) (laters_of t) there)))

-- the next is far enough below
below : (m b n : ℕ) → suc n * (m + 1) ≤ b + 1 → IsAbove m b (spread_from m (b - (m + 1)) n)
below m b zero h = tt
below m b (suc n) h =
    let more = suc-mul (suc n) (m + 1) in
    let once = suc-mul n (m + 1) in omega (arith, h, more, once)

pub spread_down : SpreadDown
spread_down m b zero h = (tt, (All-nil (λ d. m ≤ d), refl))
spread_down m b (suc n) h =
    let more = suc-mul n (m + 1) in
    let rest = spread_down m (b - (m + 1)) n (omega (arith, h, more)) in
    let first : m ≤ b = omega (arith, h, more) in
    ((below m b n h, rest.0), (All-cons (λ d. m ≤ d) b (spread_from m (b - (m + 1)) n) first rest.1.0, ap suc rest.1.1))
