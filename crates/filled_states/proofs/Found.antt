-- What registers have at a key: what is done to all is done to it, distinct keys find what is theirs, and what stands
-- first stays when others follow.
use Rattle.std.proofs.Common.{◌≡◌, ◌∙◌, ℕ, ℤ, suc, Bool, true, false, true≢false, not, ◌||◌, List, [], ◌∷◌, ◌++◌, map, length, get_or, eqb, int_eq, if◌then◌else◌, ap, ap₂, refl, sym, arith}
use Rattle.std.proofs.lemmas.List.{get_or-map}
use Rattle.std.proofs.lemmas.Bool.{eqb-true, eq-eqb, or_parts, not-true}
use Rattle.std.proofs.lemmas.Bool.Decides.{Decides-int_eq}
use Rattle.bunch.specs.Names.{holds}
use Rattle.bunch.proofs.Tests.{and_first, and_second}
use Rattle.core_term.specs.FreeNames.{is_distinct}
use Rattle.filled_states.specs.Registers.{number_or, number_at, is_key, are_distinct, depth_or, depth_at}
use Rattle.filled_states.specs.Laws.{NumbersFound, DepthsFound, NumbersInTurn, DepthsInTurn, NumbersByPlace, DepthsByPlace, NumbersFirst, DepthsFirst}

-- f of what a test picks
picked : {A : Type 0} (f : A → A) (b : Bool) (v y z : A) → y ≡ f z → (if b then f v else y) ≡ f (if b then v else z)
picked f true v y z h = refl
picked f false v y z h = h

-- two lists of one length go on together
shorter : (m n : ℕ) → suc m ≡ suc n → m ≡ n
shorter m n h = omega (arith, h)

-- a number that isn't another, both ways
other_number : (k m : ℤ) → int_eq m k ≡ false → int_eq k m ≡ false
other_number k m h = go (int_eq k m) refl
  where
    go : (b : Bool) → int_eq k m ≡ b → b ≡ false
    go false e = refl
    go true e = absurd (true≢false (sym ((Decides-int_eq m k).1 (sym ((Decides-int_eq k m).0 e))) ∙ h))

number_or_found : (f : ℤ → ℤ) (d : ℤ) (ks vs : List ℤ) (n : ℤ) → number_or (f d) ks (map f vs) n ≡ f (number_or d ks vs n)
number_or_found f d [] vs n = refl
number_or_found f d (k ∷ ks) [] n = refl
number_or_found f d (k ∷ ks) (v ∷ vs) n = picked f (int_eq k n) v _ _ (number_or_found f d ks vs n)

pub numbers_found : NumbersFound
numbers_found f ks [] n h = absurd (omega (arith, h))
numbers_found f ks (v ∷ vs) n h = number_or_found f v ks (v ∷ vs) n

depth_or_found : (g : ℕ → ℕ) (d : ℕ) (ks vs : List ℕ) (n : ℕ) → depth_or (g d) ks (map g vs) n ≡ g (depth_or d ks vs n)
depth_or_found g d [] vs n = refl
depth_or_found g d (k ∷ ks) [] n = refl
depth_or_found g d (k ∷ ks) (v ∷ vs) n = picked g (eqb k n) v _ _ (depth_or_found g d ks vs n)

pub depths_found : DepthsFound
depths_found g ds [] d h = absurd (omega (arith, h))
depths_found g ds (e ∷ es) d h = depth_or_found g e ds (e ∷ es) d

-- behind a key that isn't among these
numbers_behind : (d k v : ℤ) (ks vs ms : List ℤ) → is_key k ms ≡ false → map (number_or d (k ∷ ks) (v ∷ vs)) ms ≡ map (number_or d ks vs) ms
numbers_behind d k v ks vs [] h = refl
numbers_behind d k v ks vs (m ∷ ms) h =
    let parts = or_parts (int_eq m k) (is_key k ms) h in
    ap₂ ◌∷◌ (ap (λ b. if b then v else number_or d ks vs m) (other_number k m parts.0)) (numbers_behind d k v ks vs ms parts.1)

numbers_or_in_turn : (d : ℤ) (ks vs : List ℤ) → are_distinct ks ≡ true → length ks ≡ length vs → map (number_or d ks vs) ks ≡ vs
numbers_or_in_turn d [] [] h e = refl
numbers_or_in_turn d [] (v ∷ vs) h e = absurd (omega (arith, e))
numbers_or_in_turn d (k ∷ ks) [] h e = absurd (omega (arith, e))
numbers_or_in_turn d (k ∷ ks) (v ∷ vs) h e =
    ap₂ ◌∷◌ (ap (λ b. if b then v else number_or d ks vs k) ((Decides-int_eq k k).1 refl))
    (numbers_behind d k v ks vs ks (not-true (is_key k ks) (and_first (not (is_key k ks)) (are_distinct ks) h))
    ∙ numbers_or_in_turn d ks vs (and_second (not (is_key k ks)) (are_distinct ks) h) (shorter _ _ e))

pub numbers_in_turn : NumbersInTurn
numbers_in_turn [] [] h e = refl
numbers_in_turn (k ∷ ks) [] h e = absurd (omega (arith, e))
numbers_in_turn ks (v ∷ vs) h e = numbers_or_in_turn v ks (v ∷ vs) h e

depths_behind : (d k v : ℕ) (ks vs ms : List ℕ) → holds k ms ≡ false → map (depth_or d (k ∷ ks) (v ∷ vs)) ms ≡ map (depth_or d ks vs) ms
depths_behind d k v ks vs [] h = refl
depths_behind d k v ks vs (m ∷ ms) h =
    let parts = or_parts (eqb k m) (holds k ms) h in ap₂ ◌∷◌ (ap (λ b. if b then v else depth_or d ks vs m) parts.0) (depths_behind d k v ks vs ms parts.1)

depths_or_in_turn : (d : ℕ) (ks vs : List ℕ) → is_distinct ks ≡ true → length ks ≡ length vs → map (depth_or d ks vs) ks ≡ vs
depths_or_in_turn d [] [] h e = refl
depths_or_in_turn d [] (v ∷ vs) h e = absurd (omega (arith, e))
depths_or_in_turn d (k ∷ ks) [] h e = absurd (omega (arith, e))
depths_or_in_turn d (k ∷ ks) (v ∷ vs) h e =
    ap₂ ◌∷◌ (ap (λ b. if b then v else depth_or d ks vs k) (eq-eqb k k refl))
    (depths_behind d k v ks vs ks (not-true (holds k ks) (and_first (not (holds k ks)) (is_distinct ks) h))
    ∙ depths_or_in_turn d ks vs (and_second (not (holds k ks)) (is_distinct ks) h) (shorter _ _ e))

pub depths_in_turn : DepthsInTurn
depths_in_turn [] [] h e = refl
depths_in_turn (k ∷ ks) [] h e = absurd (omega (arith, e))
depths_in_turn ds (v ∷ vs) h e = depths_or_in_turn v ds (v ∷ vs) h e

number_or_first : (d : ℤ) (ks vs others numbers : List ℤ) (n : ℤ) → length ks ≡ length vs → is_key n ks ≡ true → number_or d (ks ++ others) (vs ++ numbers) n ≡ number_or d ks vs n
number_or_first d [] vs others numbers n e h = absurd (true≢false (sym h))
number_or_first d (k ∷ ks) [] others numbers n e h = absurd (omega (arith, e))
number_or_first d (k ∷ ks) (v ∷ vs) others numbers n e h = go (number_or_first d ks vs others numbers n (shorter _ _ e)) (int_eq k n) h
  where
    go : (is_key n ks ≡ true → number_or d (ks ++ others) (vs ++ numbers) n ≡ number_or d ks vs n) → (b : Bool) → (b || is_key n ks) ≡ true → (if b then v else number_or d (ks ++ others) (vs ++ numbers) n) ≡ (if b then v else number_or d ks vs n)
    go next true i = refl
    go next false i = next i

pub numbers_first : NumbersFirst
numbers_first [] [] others numbers n e h = absurd (true≢false (sym h))
numbers_first (k ∷ ks) [] others numbers n e h = absurd (omega (arith, e))
numbers_first ks (v ∷ vs) others numbers n e h = number_or_first v ks (v ∷ vs) others numbers n e h

depth_or_first : (d : ℕ) (ks vs others depths : List ℕ) (n : ℕ) → length ks ≡ length vs → holds n ks ≡ true → depth_or d (ks ++ others) (vs ++ depths) n ≡ depth_or d ks vs n
depth_or_first d [] vs others depths n e h = absurd (true≢false (sym h))
depth_or_first d (k ∷ ks) [] others depths n e h = absurd (omega (arith, e))
depth_or_first d (k ∷ ks) (v ∷ vs) others depths n e h = go (depth_or_first d ks vs others depths n (shorter _ _ e)) (eqb n k) refl h
  where
    go : (holds n ks ≡ true → depth_or d (ks ++ others) (vs ++ depths) n ≡ depth_or d ks vs n) → (b : Bool) → eqb n k ≡ b → (b || holds n ks) ≡ true → (if eqb k n then v else depth_or d (ks ++ others) (vs ++ depths) n) ≡ (if eqb k n then v else depth_or d ks vs n)
    go next true t i =
        let same = eq-eqb k n (sym (eqb-true n k t)) in
        ap (λ c. if c then v else depth_or d (ks ++ others) (vs ++ depths) n) same ∙ sym (ap (λ c. if c then v else depth_or d ks vs n) same)
    go next false t i = ap (λ x. if eqb k n then v else x) (next i)

pub depths_first : DepthsFirst
depths_first [] [] others depths d e h = absurd (true≢false (sym h))
depths_first (k ∷ ks) [] others depths d e h = absurd (omega (arith, e))
depths_first ds (v ∷ vs) others depths d e h = depth_or_first v ds (v ∷ vs) others depths d e h

pub numbers_by_place : NumbersByPlace
numbers_by_place ks vs i k v h e there = sym (get_or-map (number_at ks vs) ks i k v there) ∙ ap (λ xs. get_or xs i v) (numbers_in_turn ks vs h e)

pub depths_by_place : DepthsByPlace
depths_by_place ds es i d e h l there = sym (get_or-map (depth_at ds es) ds i d e there) ∙ ap (λ xs. get_or xs i e) (depths_in_turn ds es h l)
