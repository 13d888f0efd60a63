-- What is found beside keys.
use Rattle.std.proofs.Common.{◌≡◌, ℕ, ℤ, ◌==◌, Bool, true, false, if◌then◌else◌, List, [], ◌∷◌, ◌++◌, length, Option, Some, None, refl, ap, sym, subst, ◌∙◌, arith}
use Rattle.std.proofs.lemmas.Bool.Decides.{Decides-int_eq}
use Rattle.std.specs.Prelude.{unwrap_or, nat_eq, Result, Ok, Err, MatchResult}
use Rattle.std.specs.Ordering.{int_eq}
use Rattle.filled_states.specs.Registers.{number_or, number_at, depth_or, depth_at}
use Rattle.state_shapes.specs.Beside.{beside}
use Rattle.state_shapes.specs.RegisterLists.{RegisterLists, IsParallel, behind, Longer}
use Rattle.state_shapes.specs.Goes.{Goes}
use Rattle.state_shapes.proofs.Growing.{longer_still, no_memory}
use Rattle.stream_type.specs.declared.memory.Memory.{Memory}
use Rattle.std.proofs.lemmas.List.{append-nil}

-- each number is itself
int_eq_same : (n : ℤ) → int_eq n n ≡ true
int_eq_same n = grind (arith, Decides-int_eq n n)

nat_eq_same : (n : ℕ) → nat_eq n n ≡ true
nat_eq_same n = grind arith

-- by whether a key is the one
either_or : {A : Type 0} (b : Bool) (v : A) (o : Option A) (d : A) → unwrap_or (if b then Some v else o) d ≡ (if b then v else unwrap_or o d)
either_or true v o d = refl
either_or false v o d = refl

-- the number beside a key is what is found, or the other one
pub number_or_first : (d : ℤ) (ks vs : List ℤ) (n : ℤ) → number_or d ks vs n ≡ unwrap_or (beside int_eq ks vs n) d
number_or_first d [] vs n = refl
number_or_first d (k ∷ ks) [] n = refl
number_or_first d (k ∷ ks) (v ∷ vs) n = ap (λ m. if int_eq k n then v else m) (number_or_first d ks vs n) ∙ sym (either_or (int_eq k n) v (beside int_eq ks vs n) d)

-- so the depth
pub depth_or_first : (d : ℕ) (ks vs : List ℕ) (n : ℕ) → depth_or d ks vs n ≡ unwrap_or (beside nat_eq ks vs n) d
depth_or_first d [] vs n = refl
depth_or_first d (k ∷ ks) [] n = refl
depth_or_first d (k ∷ ks) (v ∷ vs) n = ap (λ m. if k == n then v else m) (depth_or_first d ks vs n) ∙ sym (either_or (k == n) v (beside nat_eq ks vs n) d)

-- by whether a key is the one, what is found stays
found_stays : {A : Type 0} (b : Bool) (v w : A) (o p : Option A) → (o ≡ Some w → p ≡ Some w) → (if b then Some v else o) ≡ Some w → (if b then Some v else p) ≡ Some w
found_stays true v w o p h e = e
found_stays false v w o p h e = h e

-- and what is new is found
found_new : {A : Type 0} (b : Bool) (v w : A) (o p : Option A) → (o ≡ None → p ≡ Some w) → (if b then Some v else o) ≡ None → (if b then Some v else p) ≡ Some w
found_new true v w o p h e = absurd (cc e)
found_new false v w o p h e = h e

-- what is found stays where more stands behind
beside_stays : {A : Type 0} (eq : A → A → Bool) (ks vs ls ws : List A) (n w : A) → beside eq ks vs n ≡ Some w → beside eq (ks ++ ls) (vs ++ ws) n ≡ Some w
beside_stays eq [] vs ls ws n w e = absurd (cc e)
beside_stays eq (k ∷ ks) [] ls ws n w e = absurd (cc e)
beside_stays eq (k ∷ ks) (v ∷ vs) ls ws n w e = found_stays (eq k n) v w (beside eq ks vs n) (beside eq (ks ++ ls) (vs ++ ws) n) (beside_stays eq ks vs ls ws n w) e

-- what is put behind is found, where the key wasn't there before
beside_new : {A : Type 0} (eq : A → A → Bool) (ks vs ls ws : List A) (n w : A) → eq n n ≡ true → length ks ≡ length vs → beside eq ks vs n ≡ None → beside eq (ks ++ n ∷ ls) (vs ++ w ∷ ws) n ≡ Some w
beside_new eq [] [] ls ws n w same h e = ap (λ b. if b then Some w else beside eq ls ws n) same
beside_new eq [] (v ∷ vs) ls ws n w same h e = absurd (omega (arith, h))
beside_new eq (k ∷ ks) [] ls ws n w same h e = absurd (omega (arith, h))
beside_new eq (k ∷ ks) (v ∷ vs) ls ws n w same h e =
    let shorter : length ks ≡ length vs = omega (arith, h) in
    found_new (eq k n) v w (beside eq ks vs n) (beside eq (ks ++ n ∷ ls) (vs ++ w ∷ ws) n) (beside_new eq ks vs ls ws n w same shorter) e

-- the number of a key is what stands beside it
pub number_at_beside : (ks vs : List ℤ) (n w : ℤ) → beside int_eq ks vs n ≡ Some w → number_at ks vs n ≡ w
number_at_beside [] [] n w e = absurd (cc e)
number_at_beside (k ∷ ks) [] n w e = absurd (cc e)
number_at_beside ks (v ∷ vs) n w e = number_or_first v ks (v ∷ vs) n ∙ ap (λ o. unwrap_or o v) e

-- so the depth
pub depth_at_beside : (ks vs : List ℕ) (n w : ℕ) → beside nat_eq ks vs n ≡ Some w → depth_at ks vs n ≡ w
depth_at_beside [] [] n w e = absurd (cc e)
depth_at_beside (k ∷ ks) [] n w e = absurd (cc e)
depth_at_beside ks (v ∷ vs) n w e = depth_or_first v ks (v ∷ vs) n ∙ ap (λ o. unwrap_or o v) e

-- it stays where more is found
pub number_stays : (l : RegisterLists) (n w : ℤ) → beside int_eq l.keys l.numbers n ≡ Some w → (x : RegisterLists) → Longer l x → w ≡ number_at x.keys x.numbers n
number_stays l n w e x h =
    subst (λ y. w ≡ number_at y.keys y.numbers n) (sym h.is_behind) (sym (number_at_beside _ _ n w (beside_stays int_eq l.keys l.numbers h.more.keys h.more.numbers n w e)))

pub depth_stays : (l : RegisterLists) (n w : ℕ) → beside nat_eq l.depth_keys l.depths n ≡ Some w → (x : RegisterLists) → Longer l x → w ≡ depth_at x.depth_keys x.depths n
depth_stays l n w e x h =
    subst (λ y. w ≡ depth_at y.depth_keys y.depths n) (sym h.is_behind) (sym (depth_at_beside _ _ n w (beside_stays nat_eq l.depth_keys l.depths h.more.depth_keys h.more.depths n w e)))

-- a number beside a new key, put behind
abbrev pub with_number : RegisterLists → ℤ → ℤ → RegisterLists
with_number l n w = behind l (record { keys = n ∷ []; numbers = w ∷ []; depth_keys = []; depths = [] })

abbrev pub with_depth : RegisterLists → ℕ → ℕ → RegisterLists
with_depth l n w = behind l (record { keys = []; numbers = []; depth_keys = n ∷ []; depths = w ∷ [] })

-- it is found there
pub number_is_new : (l : RegisterLists) (n w : ℤ) → IsParallel l → beside int_eq l.keys l.numbers n ≡ None → (x : RegisterLists) → Longer (with_number l n w) x → w ≡ number_at x.keys x.numbers n
number_is_new l n w p e x h =
    number_stays (with_number l n w) n w (beside_new int_eq l.keys l.numbers [] [] n w (int_eq_same n) p.numbers e) x h

pub depth_is_new : (l : RegisterLists) (n w : ℕ) → IsParallel l → beside nat_eq l.depth_keys l.depths n ≡ None → (x : RegisterLists) → Longer (with_depth l n w) x → w ≡ depth_at x.depth_keys x.depths n
depth_is_new l n w p e x h =
    depth_stays (with_depth l n w) n w (beside_new nat_eq l.depth_keys l.depths [] [] n w (nat_eq_same n) p.depths e) x h

-- where it is put, or isn't
pub number_put : (before result : Result Bool Memory) (l : RegisterLists) (n w : ℤ) (ks vs : List ℤ) → before ≡ Ok true → beside int_eq l.keys l.numbers n ≡ None
    → MatchResult result (λ y. (y ≡ true) × (ks ≡ l.keys ++ n ∷ []) × (vs ≡ l.numbers ++ w ∷ [])) (λ e. (ks ≡ l.keys) × (vs ≡ l.numbers))
    → Goes before l (record { keys = ks; numbers = vs; depth_keys = l.depth_keys; depths = l.depths }) result (λ x. w ≡ number_at x.keys x.numbers n)
number_put before (Ok y) l n w ks vs b absent h =
    let put : record { keys = ks; numbers = vs; depth_keys = l.depth_keys; depths = l.depths } ≡ with_number l n w = rw (h.1, h.2, append-nil l.depth_keys, append-nil l.depths) refl in
    record {
      grown = record { more = record { keys = n ∷ []; numbers = w ∷ []; depth_keys = []; depths = [] }; are_parallel = record { numbers = refl; depths = refl }; is_behind = put };
      went = λ p e. b;
      holds = λ p e x k. number_is_new l n w p absent x (subst (λ m. Longer m x) put k);
    }
number_put before (Err e) l n w ks vs b absent h = no_memory e (rw (h.0, h.1) (longer_still l))

pub depth_put : (before result : Result Bool Memory) (l : RegisterLists) (n w : ℕ) (ks vs : List ℕ) → before ≡ Ok true → beside nat_eq l.depth_keys l.depths n ≡ None
    → MatchResult result (λ y. (y ≡ true) × (ks ≡ l.depth_keys ++ n ∷ []) × (vs ≡ l.depths ++ w ∷ [])) (λ e. (ks ≡ l.depth_keys) × (vs ≡ l.depths))
    → Goes before l (record { keys = l.keys; numbers = l.numbers; depth_keys = ks; depths = vs }) result (λ x. w ≡ depth_at x.depth_keys x.depths n)
depth_put before (Ok y) l n w ks vs b absent h =
    let put : record { keys = l.keys; numbers = l.numbers; depth_keys = ks; depths = vs } ≡ with_depth l n w = rw (h.1, h.2, append-nil l.keys, append-nil l.numbers) refl in
    record {
      grown = record { more = record { keys = []; numbers = []; depth_keys = n ∷ []; depths = w ∷ [] }; are_parallel = record { numbers = refl; depths = refl }; is_behind = put };
      went = λ p e. b;
      holds = λ p e x k. depth_is_new l n w p absent x (subst (λ m. Longer m x) put k);
    }
depth_put before (Err e) l n w ks vs b absent h = no_memory e (rw (h.0, h.1) (longer_still l))
