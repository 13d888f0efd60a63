-- What is made of a part that is handed on as its `Result`.
use Rattle.std.proofs.Common.{◌≡◌, subst}
use Rattle.std.specs.Prelude.{Result, Ok, Err, IfOk, IsOkAnd}

-- where G is so of what was made, by what the part is, and it is known what that is where it is there
pub given : {A C X E F : Type 0} (r : Result A E) (s : Result C F) (p : A → X) (x : X) (G : X → C → Type 0) → IfOk r (λ a. p a ≡ x) → IfOk s (λ c. IsOkAnd r (λ a. G (p a) c)) → IfOk s (G x)
given (Ok a) (Ok c) p x G h k = subst (λ y. G y c) h k
given (Err e) (Ok c) p x G h k = absurd k
given (Ok a) (Err e) p x G h k = tt
given (Err d) (Err e) p x G h k = tt

pub given_two : {A B C X Y E F : Type 0} (r : Result A E) (q : Result B E) (s : Result C F) (p : A → X) (x : X) (o : B → Y) (y : Y) (G : X → Y → C → Type 0) → IfOk r (λ a. p a ≡ x) → IfOk q (λ b. o b ≡ y) → IfOk s (λ c. IsOkAnd r (λ a. IsOkAnd q (λ b. G (p a) (o b) c))) → IfOk s (G x y)
given_two r q s p x o y G h k g = given q s o y (G x) k (given r s p x (λ u c. IsOkAnd q (λ b. G u (o b) c)) h g)

-- the same where it is known by what it was made of
pub passed_on : {A B C Y E F : Type 0} (part : Result A E) (r : Result B E) (s : Result C F) (q : B → Y) (f : A → Y) (G : Y → C → Type 0) → IfOk r (λ b. IsOkAnd part (λ a. q b ≡ f a)) → IfOk s (λ c. IsOkAnd r (λ b. G (q b) c)) → IfOk s (λ c. IsOkAnd part (λ a. G (f a) c))
passed_on (Ok a) (Ok b) (Ok c) q f G h k = subst (λ y. G y c) h k
passed_on (Err d) (Ok b) (Ok c) q f G h k = absurd h
passed_on (Ok a) (Err e) (Ok c) q f G h k = absurd k
passed_on (Err d) (Err e) (Ok c) q f G h k = absurd k
passed_on (Ok a) (Ok b) (Err e) q f G h k = tt
passed_on (Err d) (Ok b) (Err e) q f G h k = tt
passed_on (Ok a) (Err d) (Err e) q f G h k = tt
passed_on (Err c) (Err d) (Err e) q f G h k = tt

-- where something else is known of both parts
pub made_of : {A B C E F : Type 0} (r : Result A E) (q : Result B E) (s : Result C F) (P : A → Type 0) (Q : B → Type 0) (G : A → B → C → Type 0) (R : C → Type 0) → IfOk r P → IfOk q Q → IfOk s (λ c. IsOkAnd r (λ a. IsOkAnd q (λ b. G a b c))) → ((a : A) (b : B) (c : C) → P a → Q b → G a b c → R c) → IfOk s R
made_of (Ok a) (Ok b) (Ok c) P Q G R h k g f = f a b c h k g
made_of (Err e) q (Ok c) P Q G R h k g f = absurd g
made_of (Ok a) (Err e) (Ok c) P Q G R h k g f = absurd g
made_of r q (Err e) P Q G R h k g f = tt

-- where what was handed on is there
pub there : {A E : Type 0} (r : Result A E) (P Q : A → Type 0) (R : Type 0) → IfOk r P → IsOkAnd r Q → ((a : A) → P a → Q a → R) → R
there (Ok a) P Q R p q f = f a p q
there (Err e) P Q R p q f = absurd q
