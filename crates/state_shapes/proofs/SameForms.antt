-- Forms of which all parts are equal.
use Rattle.std.proofs.Common.{◌≡◌, ℕ, List, ◌∷◌, refl}
use Rattle.stream_type.specs.StreamType.{StreamType}
use Rattle.stream_prefix.specs.StreamPrefix.{StreamPrefix}
use Rattle.hist_value.specs.HistValue.{HistValue}
use Rattle.core_term.specs.CoreTerm.{CoreTerm}
use Rattle.delta_state.specs.StateTree.{Known, HeldName, LaterTree, StateTree, ArgumentTrees, let_state, let_par_state, let_cat_state, sum_state, star_state, wait_state, argument_before}

pub let_same : {x y : ℕ} {t u : StreamType} {a b c d : StateTree} → (x ≡ y) × (t ≡ u) → c ≡ a → d ≡ b → let_state y u c d ≡ let_state x t a b
let_same n e f = let x = n.0 in let t = n.1 in cc

pub let_par_same : {x y z u v w : ℕ} {a b : StateTree} → (x ≡ u) × (y ≡ v) × (z ≡ w) → b ≡ a → let_par_state u v w b ≡ let_par_state x y z a
let_par_same n e = let x = n.0 in let y = n.1 in let z = n.2 in cc

pub let_cat_same : {x y z u v w : ℕ} {a b : StateTree} → (x ≡ u) × (y ≡ v) × (z ≡ w) → b ≡ a → let_cat_state u v w b ≡ let_cat_state x y z a
let_cat_same n e = let x = n.0 in let y = n.1 in let z = n.2 in cc

pub before_same : {x y : ℕ} {t u : StreamType} {a b : StateTree} {as' bs : ArgumentTrees} → (x ≡ y) × (t ≡ u) → b ≡ a → bs ≡ as' → argument_before y u b bs ≡ argument_before x t a as'
before_same n e f = let x = n.0 in let t = n.1 in cc

pub sum_same : {z w x a y b : ℕ} {t u : StreamType} {hs ks : List HeldName} {k l m n : LaterTree} → (z ≡ w) × (t ≡ u) × (x ≡ a) × (y ≡ b) → ks ≡ hs → k ≡ l → n ≡ m
    → sum_state w u ks a k b n ≡ sum_state z t hs x l y m
sum_same h e f g = let z = h.0 in let t = h.1 in let x = h.2 in let y = h.3 in cc

pub star_same : {z w x a y b : ℕ} {t u : StreamType} {hs ks : List HeldName} {k l m n : LaterTree} → (z ≡ w) × (t ≡ u) × (x ≡ a) × (y ≡ b) → ks ≡ hs → k ≡ l → n ≡ m
    → star_state w u ks k a b n ≡ star_state z t hs l x y m
star_same h e f g = let z = h.0 in let t = h.1 in let x = h.2 in let y = h.3 in cc

pub wait_same : {x y : ℕ} {t u : StreamType} {hs ks : List HeldName} {l m : LaterTree} → (x ≡ y) × (t ≡ u) → ks ≡ hs → m ≡ l → wait_state y u ks m ≡ wait_state x t hs l
wait_same n e f = let x = n.0 in let t = n.1 in cc

pub known_same : {x y : ℕ} {t u : StreamType} {v w : HistValue} {es fs : List Known} → (x ≡ y) × (t ≡ u) → w ≡ v → fs ≡ es
    → record { name = y; type = u; value = w } ∷ fs ≡ record { name = x; type = t; value = v } ∷ es
known_same n e f = rw (n.0, n.1, e, f) refl

pub held_same : {x y : ℕ} {t u : StreamType} {p q : StreamPrefix} → (x ≡ y) × (t ≡ u) → q ≡ p → ◌≡◌ {A = HeldName} (record { name = y; type = u; prefix = q }) (record { name = x; type = t; prefix = p })
held_same n e = rw (n.0, n.1, e) refl

pub later_same : {a b : CoreTerm} {es fs : List Known} {k n : ℕ} → a ≡ b → n ≡ k → fs ≡ es → ◌≡◌ {A = LaterTree} (record { term = b; past = fs; depth = n }) (record { term = a; past = es; depth = k })
later_same h e f = rw (h, e, f) refl
