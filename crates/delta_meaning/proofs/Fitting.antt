-- When the environments of a tree and of its core agree, and what keeps them so.
use Rattle.std.proofs.Common.{◌≡◌, ◌≢◌, ℕ, ◌≤◌, ◌<◌, Bool, true, false, eqb, if◌then◌else◌, refl, sym, ap, ◌∙◌, true≢false, arith}
use Rattle.std.proofs.lemmas.Bool.{eqb-true, eq-eqb}
use Rattle.stream_type.specs.StreamType.{StreamType}
use Rattle.stream_prefix.specs.StreamPrefix.{StreamPrefix}
use Rattle.bunch.specs.Names.{put}
use Rattle.hist_value.specs.HistValue.{HistValue, unit_value}
use Rattle.core_term.specs.Environment.{Environment, NameTypes}
use Rattle.core_term.specs.Meaning.{Past}
use Rattle.core_term.proofs.Sides.{put-same, put-other}
use Rattle.delta_meaning.specs.Elaboration.{Numbers}

-- bound names have the same values in the tree and, by their numbers, in the core; the numbers are below n
pub record Reads (bound : ℕ → Bool) (numbers : Numbers) (n : ℕ) (past core_past : Past) : Type 0 where
  pub value_is : (x : ℕ) → bound x ≡ true → past x ≡ core_past (numbers x)
  pub is_below : (x : ℕ) → bound x ≡ true → numbers x < n

-- and those whose numbers are stream names in the core have the same types and prefixes; no two names have one
-- number, and from n on no number has a value
pub record Fits (bound : ℕ → Bool) (numbers : Numbers) (streams : ℕ → Bool) (n : ℕ) (types : NameTypes) (env : Environment) (past : Past) (core_types : NameTypes) (core_env : Environment) (core_past : Past) : Type 0 where
  pub type_is : (x : ℕ) → bound x ≡ true → streams (numbers x) ≡ true → types x ≡ core_types (numbers x)
  pub prefix_is : (x : ℕ) → bound x ≡ true → streams (numbers x) ≡ true → env x ≡ core_env (numbers x)
  pub value_is : (x : ℕ) → bound x ≡ true → past x ≡ core_past (numbers x)
  pub is_below : (x : ℕ) → bound x ≡ true → numbers x < n
  pub is_apart : (x y : ℕ) → bound x ≡ true → bound y ≡ true → numbers x ≡ numbers y → x ≡ y
  pub is_fresh : (m : ℕ) → n ≤ m → core_past m ≡ unit_value

pub reads_of : {bound : ℕ → Bool} {numbers : Numbers} {streams : ℕ → Bool} {n : ℕ} {types : NameTypes} {env : Environment} {past : Past} {core_types : NameTypes} {core_env : Environment} {core_past : Past}
    → Fits bound numbers streams n types env past core_types core_env core_past → Reads bound numbers n past core_past
reads_of f = record { value_is = f.value_is; is_below = f.is_below }

-- a number that is put is there
pub put_at : {A : Type 0} (x y : ℕ) (a : A) (f : ℕ → A) → y ≡ x → put x a f y ≡ a
put_at x y a f e = ap (λ b. if b then a else f y) (eq-eqb y x e)

-- a name that gets a number, and a thing that stands at it
new_thing : {A : Type 0} (bound : ℕ → Bool) (numbers : Numbers) (x m : ℕ) (a b : A) (f g : ℕ → A) → a ≡ b → ((y : ℕ) → bound y ≡ true → m ≢ numbers y)
    → ((y : ℕ) → bound y ≡ true → f y ≡ g (numbers y)) → (y : ℕ) → put x true bound y ≡ true → put x a f y ≡ put m b g (put x m numbers y)
new_thing bound numbers x m a b f g e new old y h = go (eqb y x) h
  where
    go : (c : Bool) → (if c then true else bound y) ≡ true → (if c then a else f y) ≡ put m b g (if c then m else numbers y)
    go true h = e ∙ sym (put-same m b g)
    go false h = old y h ∙ sym (put-other m (numbers y) b g (new y h))

new_below : (bound : ℕ → Bool) (numbers : Numbers) (x m n k : ℕ) → ((y : ℕ) → bound y ≡ true → numbers y < n) → n ≤ m → m < k → (y : ℕ) → put x true bound y ≡ true → put x m numbers y < k
new_below bound numbers x m n k below le lt y h = go (eqb y x) h
  where
    go : (c : Bool) → (if c then true else bound y) ≡ true → (if c then m else numbers y) < k
    go true h = lt
    go false h = let b = below y h in omega (arith, b, le, lt)

is_new : (bound : ℕ → Bool) (numbers : Numbers) (m n : ℕ) → ((y : ℕ) → bound y ≡ true → numbers y < n) → n ≤ m → (y : ℕ) → bound y ≡ true → m ≢ numbers y
is_new bound numbers m n below le y h e = let b = below y h in absurd (omega (arith, b, le, e))

new_apart : (bound : ℕ → Bool) (numbers : Numbers) (x m : ℕ) → ((y : ℕ) → bound y ≡ true → m ≢ numbers y) → ((y z : ℕ) → bound y ≡ true → bound z ≡ true → numbers y ≡ numbers z → y ≡ z)
    → (y z : ℕ) → put x true bound y ≡ true → put x true bound z ≡ true → put x m numbers y ≡ put x m numbers z → y ≡ z
new_apart bound numbers x m new apart y z h k e = go (eqb y x) (eqb z x) refl refl h k e
  where
    go : (c d : Bool) → eqb y x ≡ c → eqb z x ≡ d → (if c then true else bound y) ≡ true → (if d then true else bound z) ≡ true → (if c then m else numbers y) ≡ (if d then m else numbers z) → y ≡ z
    go true true p q h k e = eqb-true y x p ∙ sym (eqb-true z x q)
    go true false p q h k e = absurd (new z k e)
    go false true p q h k e = absurd (new y h (sym e))
    go false false p q h k e = apart y z h k e

-- a new historical name
pub reads_new : {bound : ℕ → Bool} {numbers : Numbers} {n : ℕ} {past core_past : Past} → Reads bound numbers n past core_past → (x m k : ℕ) (v : HistValue) → n ≤ m → m < k
    → Reads (put x true bound) (put x m numbers) k (put x v past) (put m v core_past)
reads_new {bound = bound} {numbers = numbers} {n = n} {past = past} {core_past = core_past} f x m k v le lt = record {
  value_is = new_thing bound numbers x m v v past core_past refl (is_new bound numbers m n f.is_below le) f.value_is;
  is_below = new_below bound numbers x m n k f.is_below le lt;
}

-- more numbers are taken
pub reads_later : {bound : ℕ → Bool} {numbers : Numbers} {n : ℕ} {past core_past : Past} → Reads bound numbers n past core_past → (k : ℕ) → n ≤ k → Reads bound numbers k past core_past
reads_later f k le = record { value_is = f.value_is; is_below = λ x h. let b = f.is_below x h in omega (arith, b, le) }

-- a new name is a stream name, and so is each other that was one
old_stream : (streams : ℕ → Bool) (m k : ℕ) → m ≢ k → put m true streams k ≡ true → streams k ≡ true
old_stream streams m k ne h = sym (put-other m k true streams ne) ∙ h

-- a new stream name
pub fits_new : {bound : ℕ → Bool} {numbers : Numbers} {streams : ℕ → Bool} {n : ℕ} {types : NameTypes} {env : Environment} {past : Past} {core_types : NameTypes} {core_env : Environment} {core_past : Past}
    → Fits bound numbers streams n types env past core_types core_env core_past → (x m k : ℕ) (s t : StreamType) (p q : StreamPrefix) → n ≤ m → m < k → s ≡ t → p ≡ q
    → Fits (put x true bound) (put x m numbers) (put m true streams) k (put x s types) (put x p env) (put x unit_value past) (put m t core_types) (put m q core_env) core_past
fits_new {bound = bound} {numbers = numbers} {streams = streams} {n = n} {types = types} {env = env} {past = past} {core_types = core_types} {core_env = core_env} {core_past = core_past} f x m k s t p q le lt es ep = record {
  type_is = λ y h i. stream_thing s t types core_types es f.type_is y h i;
  prefix_is = λ y h i. stream_thing p q env core_env ep f.prefix_is y h i;
  value_is = λ y h. value y (eqb y x) h;
  is_below = new_below bound numbers x m n k f.is_below le lt;
  is_apart = new_apart bound numbers x m (is_new bound numbers m n f.is_below le) f.is_apart;
  is_fresh = λ j l. f.is_fresh j (omega (arith, l, le, lt));
}
  where
    stream_thing : {A : Type 0} (a b : A) (g h : ℕ → A) → a ≡ b → ((y : ℕ) → bound y ≡ true → streams (numbers y) ≡ true → g y ≡ h (numbers y))
        → (y : ℕ) → put x true bound y ≡ true → put m true streams (put x m numbers y) ≡ true → put x a g y ≡ put m b h (put x m numbers y)
    stream_thing a b g h e old y i j = go (eqb y x) i j
      where
        go : (c : Bool) → (if c then true else bound y) ≡ true → put m true streams (if c then m else numbers y) ≡ true → (if c then a else g y) ≡ put m b h (if c then m else numbers y)
        go true i j = e ∙ sym (put-same m b h)
        go false i j =
            let new = is_new bound numbers m n f.is_below le y i in
            old y i (old_stream streams m (numbers y) new j) ∙ sym (put-other m (numbers y) b h new)

    value : (y : ℕ) (c : Bool) → (if c then true else bound y) ≡ true → (if c then unit_value else past y) ≡ core_past (if c then m else numbers y)
    value y true h = sym (f.is_fresh m le)
    value y false h = f.value_is y h

-- a stream name of the core alone
pub fits_extra : {bound : ℕ → Bool} {numbers : Numbers} {streams : ℕ → Bool} {n : ℕ} {types : NameTypes} {env : Environment} {past : Past} {core_types : NameTypes} {core_env : Environment} {core_past : Past}
    → Fits bound numbers streams n types env past core_types core_env core_past → (m : ℕ) (t : StreamType) (q : StreamPrefix) → n ≤ m
    → Fits bound numbers (put m true streams) n types env past (put m t core_types) (put m q core_env) core_past
fits_extra {bound = bound} {numbers = numbers} {streams = streams} {n = n} {core_types = core_types} {core_env = core_env} f m t q le = record {
  type_is = λ y h i. f.type_is y h (old_stream streams m (numbers y) (new y h) i) ∙ sym (put-other m (numbers y) t core_types (new y h));
  prefix_is = λ y h i. f.prefix_is y h (old_stream streams m (numbers y) (new y h) i) ∙ sym (put-other m (numbers y) q core_env (new y h));
  value_is = f.value_is;
  is_below = f.is_below;
  is_apart = f.is_apart;
  is_fresh = f.is_fresh;
}
  where
    new : (y : ℕ) → bound y ≡ true → m ≢ numbers y
    new y h = is_new bound numbers m n f.is_below le y h

-- more numbers are taken
pub fits_later : {bound : ℕ → Bool} {numbers : Numbers} {streams : ℕ → Bool} {n : ℕ} {types : NameTypes} {env : Environment} {past : Past} {core_types : NameTypes} {core_env : Environment} {core_past : Past}
    → Fits bound numbers streams n types env past core_types core_env core_past → (k : ℕ) → n ≤ k → Fits bound numbers streams k types env past core_types core_env core_past
fits_later f k le = record {
  type_is = f.type_is;
  prefix_is = f.prefix_is;
  value_is = f.value_is;
  is_below = λ x h. let b = f.is_below x h in omega (arith, b, le);
  is_apart = f.is_apart;
  is_fresh = λ m l. f.is_fresh m (omega (arith, l, le));
}

-- a name that isn't hidden was a stream name
shown : (streams : ℕ → Bool) (m k : ℕ) → put m false streams k ≡ true → (m ≢ k) × (streams k ≡ true)
shown streams m k h = go (eqb k m) refl h
  where
    go : (c : Bool) → eqb k m ≡ c → (if c then false else streams k) ≡ true → (m ≢ k) × (streams k ≡ true)
    go true e h = absurd (true≢false (sym h))
    go false e h = ((λ q. true≢false (sym (eq-eqb k m (sym q)) ∙ e)), h)

-- a stream name becomes historical: the tree has no stream there, and in the core it counts as none
pub fits_wait : {bound : ℕ → Bool} {numbers : Numbers} {streams : ℕ → Bool} {n : ℕ} {types : NameTypes} {env : Environment} {past : Past} {core_types : NameTypes} {core_env : Environment} {core_past : Past}
    → Fits bound numbers streams n types env past core_types core_env core_past → (x : ℕ) (s : StreamType) (p : StreamPrefix) (v w : HistValue) → bound x ≡ true → v ≡ w
    → Fits bound numbers (put (numbers x) false streams) n (put x s types) (put x p env) (put x v past) core_types core_env (put (numbers x) w core_past)
fits_wait {bound = bound} {numbers = numbers} {streams = streams} {n = n} {types = types} {env = env} {past = past} {core_types = core_types} {core_env = core_env} {core_past = core_past} f x s p v w hx ev = record {
  type_is = λ y h i. let o = shown streams (numbers x) (numbers y) i in put-other x y s types (other y o.0) ∙ f.type_is y h o.1;
  prefix_is = λ y h i. let o = shown streams (numbers x) (numbers y) i in put-other x y p env (other y o.0) ∙ f.prefix_is y h o.1;
  value_is = λ y h. value y h (eqb y x) refl;
  is_below = f.is_below;
  is_apart = f.is_apart;
  is_fresh = λ m l. let b = f.is_below x hx in put-other (numbers x) m w core_past (λ e. absurd (omega (arith, e, b, l))) ∙ f.is_fresh m l;
}
  where
    other : (y : ℕ) → numbers x ≢ numbers y → x ≢ y
    other y ne e = ne (ap numbers e)

    value : (y : ℕ) → bound y ≡ true → (c : Bool) → eqb y x ≡ c → (if c then v else past y) ≡ put (numbers x) w core_past (numbers y)
    value y h true e = ev ∙ sym (put_at (numbers x) (numbers y) w core_past (ap numbers (eqb-true y x e)))
    value y h false e = f.value_is y h ∙ sym (put-other (numbers x) (numbers y) w core_past (λ q. true≢false (sym (eq-eqb y x (f.is_apart y x h hx (sym q))) ∙ e)))
