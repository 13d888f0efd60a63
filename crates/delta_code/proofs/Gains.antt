-- What is gained on a way, form by form.
use Rattle.std.proofs.Common.{◌≡◌, ◌∙◌, ℕ, ◌+◌, ◌-◌, ◌<◌, ◌≤◌, max, Bool, true, false, ◌||◌, ◌++◌, List, [], ◌∷◌, map, ap, refl, sym, arith}
use Rattle.stream_prefix.specs.StreamPrefix.{StreamPrefix, star_rest, is_maximal}
use Rattle.stream_prefix.specs.declared.prefix.Prefix.{Prefix}
use Rattle.stream_prefix.specs.Tree.{prefix_of, star_of}
use Rattle.stream_prefix.proofs.Follow.{star_of-append}
use Rattle.core_term.specs.Parts.{as_star}
use Rattle.core_term.specs.Run.{Run, Runs, deeper, relabel, cat_run, cat_run_at, let_run, call_run, one_call}
use Rattle.machine_parts.proofs.Runs.{cat_run_both}
use Rattle.delta_code.specs.Way.{gained}

-- runs with the same parts are the same
same_parts : (a b : Run) → a.out ≡ b.out → a.calls ≡ b.calls → a.level ≡ b.level → a ≡ b
same_parts a b e f g = λ i. record { out = e i; calls = f i; level = g i }

three : (l d x : ℕ) → max (max l d) x ≡ max l (max d x)
three l d x = omega arith

sum_of : (n c a b : ℕ) → n ≡ c + a → n + b ≡ c + (a + b)
sum_of n c a b e = omega (arith, e)

-- nothing is gained where one stands
pub gained_none : (a : Run) → gained [] 0 0 a ≡ a
unfolding gained
gained_none a = same_parts (record { out = a.out; calls = 0 + a.calls; level = max 0 a.level }) a refl (omega arith) (omega arith)

-- the parts of what was gained
pub gained_is : (items : List StreamPrefix) (c l : ℕ) (a r : Run) → r.out ≡ star_of items a.out → r.calls ≡ c + a.calls → r.level ≡ max l a.level → r ≡ gained items c l a
unfolding gained
gained_is items c l a r e f g = same_parts r (record { out = star_of items a.out; calls = c + a.calls; level = max l a.level }) e f g

pub gained_calls : (items : List StreamPrefix) (c l : ℕ) (a : Run) → (gained items c l a).calls ≡ c + a.calls
unfolding gained
gained_calls items c l a = refl

pub gained_level : (items : List StreamPrefix) (c l : ℕ) (a : Run) → (gained items c l a).level ≡ max l a.level
unfolding gained
gained_level items c l a = refl

-- the head of a let, which is a name or whole
pub gained_let : (items : List StreamPrefix) (c l n m : ℕ) (is_name : Bool) (a b : Run) → (is_name || is_maximal a.out) ≡ true → n ≡ c + a.calls → m ≡ max l (deeper false a.level) → gained items n m b ≡ gained items c l (let_run is_name a b)
unfolding gained
gained_let items c l n m is_name a b w e f =
    same_parts (record { out = star_of items b.out; calls = n + b.calls; level = max m b.level })
    (record { out = star_of items b.out; calls = c + (a.calls + b.calls); level = max l (max (deeper false a.level) (deeper (is_name || is_maximal a.out) b.level)) })
    refl (sum_of n c a.calls b.calls e)
    (ap (λ q. max q b.level) f ∙ (three l (deeper false a.level) b.level ∙ ap (λ v. max l (max (deeper false a.level) (deeper v b.level))) (sym w)))

-- the arguments of a call, which are names or whole
pub gained_call : (items : List StreamPrefix) (c l n m : ℕ) (a : Runs) (b : Run) → a.are_shut ≡ true → n ≡ c + a.calls → m ≡ max l (max 1 (deeper false a.level)) → gained items n m b ≡ gained items c l (call_run a b)
unfolding gained
gained_call items c l n m a b w e f =
    same_parts (record { out = star_of items b.out; calls = n + b.calls; level = max m b.level })
    (record { out = star_of items b.out; calls = c + (a.calls + b.calls); level = max l (max 1 (max (deeper false a.level) (deeper a.are_shut b.level))) })
    refl (sum_of n c a.calls b.calls e)
    (ap (λ q. max q b.level) f ∙ (four l (deeper false a.level) b.level ∙ ap (λ v. max l (max 1 (max (deeper false a.level) (deeper v b.level)))) (sym w)))
  where
    four : (l d x : ℕ) → max (max l (max 1 d)) x ≡ max l (max 1 (max d x))
    four l d x = omega arith

-- items before one that is behind others
star_snoc : (items : List StreamPrefix) (p q : StreamPrefix) → star_of (items ++ p ∷ []) q ≡ star_of items (star_rest p q)
star_snoc [] p q = refl
star_snoc (x ∷ items) p q = ap (star_rest x) (star_snoc items p q)

-- an item, which is whole
pub gained_item : (items : List StreamPrefix) (c l n m : ℕ) (a b : Run) → n ≡ c + a.calls → m ≡ max l a.level → gained (items ++ a.out ∷ []) n m b ≡ gained items c l (relabel as_star (cat_run_at true a b))
unfolding gained
gained_item items c l n m a b e f =
    same_parts (record { out = star_of (items ++ a.out ∷ []) b.out; calls = n + b.calls; level = max m b.level })
    (record { out = star_of items (star_rest a.out b.out); calls = c + (a.calls + b.calls); level = max l (max a.level b.level) })
    (star_snoc items a.out b.out) (sum_of n c a.calls b.calls e)
    (ap (λ q. max q b.level) f ∙ three l a.level b.level)

-- one call
pub gained_one : (items : List StreamPrefix) (c l n : ℕ) (b : Run) → n ≡ c + 1 → gained items n l b ≡ gained items c l (one_call b)
unfolding gained
gained_one items c l n b e =
    same_parts (record { out = star_of items b.out; calls = n + b.calls; level = max l b.level })
    (record { out = star_of items b.out; calls = c + (1 + b.calls); level = max l b.level })
    refl (sum_of n c 1 b.calls e) refl

-- the same of the prefixes that code has
pub gained_nothing : (v : List Prefix) (a : Run) → v ≡ [] → gained (map prefix_of v) 0 0 a ≡ a
gained_nothing v a e = ap (λ (l : List Prefix). gained (map prefix_of l) 0 0 a) e ∙ gained_none a

map_append : (xs ys : List Prefix) → map prefix_of (xs ++ ys) ≡ map prefix_of xs ++ map prefix_of ys
map_append [] ys = refl
map_append (x ∷ xs) ys = ap (λ (l : List StreamPrefix). prefix_of x ∷ l) (map_append xs ys)

pub gained_behind : (xs news : List Prefix) (p : Prefix) (c l n m : ℕ) (a b : Run) → news ≡ xs ++ p ∷ [] → prefix_of p ≡ a.out → n ≡ c + a.calls → m ≡ max l a.level
    → gained (map prefix_of news) n m b ≡ gained (map prefix_of xs) c l (relabel as_star (cat_run_at true a b))
gained_behind xs news p c l n m a b e h f g =
    ap (λ (v : List Prefix). gained (map prefix_of v) n m b) e
    ∙ (ap (λ (v : List StreamPrefix). gained v n m b) (map_append xs (p ∷ []) ∙ ap (λ (q : StreamPrefix). map prefix_of xs ++ q ∷ []) h) ∙ gained_item (map prefix_of xs) c l n m a b f g)

-- items before those of a star
pub star_more : (xs ys zs : List Prefix) (q : StreamPrefix) → zs ≡ xs ++ ys → star_of (map prefix_of zs) q ≡ star_of (map prefix_of xs) (star_of (map prefix_of ys) q)
star_more xs ys zs q e = ap (λ (v : List Prefix). star_of (map prefix_of v) q) e ∙ (ap (λ (v : List StreamPrefix). star_of v q) (map_append xs ys) ∙ star_of-append (map prefix_of xs) (map prefix_of ys) q)

-- an item that is whole, and the items after it
pub cons_runs : (a b x y : Run) → a ≡ x → b ≡ y → is_maximal a.out ≡ true → relabel as_star (cat_run_at true a b) ≡ relabel as_star (cat_run x y)
cons_runs a b x y e f m = ap (λ (r : Run). relabel as_star r) (cat_run_both a b x y e f m)

-- more calls, or one at a greater level, at the end of a way than are left there
pub gained_spent : (items : List StreamPrefix) (c l n : ℕ) (a x : Run) → gained items c l a ≡ x → c ≤ n → n - c < a.calls → n < x.calls
gained_spent items c l n a x e h k =
    let one : x.calls ≡ c + a.calls = ap (λ (r : Run). r.calls) (sym e) ∙ gained_calls items c l a in
    omega (arith, one, h, k)

pub gained_deep : (items : List StreamPrefix) (c l n : ℕ) (a x : Run) → gained items c l a ≡ x → n < a.level → n < x.level
gained_deep items c l n a x e h =
    let one : x.level ≡ max l a.level = ap (λ (r : Run). r.level) (sym e) ∙ gained_level items c l a in
    omega (arith, one, h)
