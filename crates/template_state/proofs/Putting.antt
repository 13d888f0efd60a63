-- A name that is put in at parts of a state, for any type that is left.
use Rattle.std.proofs.Common.{◌≡◌, ℕ, true, false, true≢false, ◌&&◌, ◌||◌, List, [], ◌∷◌, eqb, ap, ap₂, subst, sym}
use Rattle.std.proofs.lemmas.Bool.{eqb-true}
use Rattle.stream_type.specs.StreamType.{StreamType}
use Rattle.bunch.specs.Names.{holds}
use Rattle.bunch.proofs.Tests.{and_first, and_second}
use Rattle.core_term.specs.Parts.{par_left, par_right, cat_first}
use Rattle.delta_state.specs.StateTree.{LaterTree, StateTree, ArgumentTrees, par_state, cat_state, let_state, let_par_state, let_cat_state, frame_state, no_arguments, argument_before, var_state}
use Rattle.state_rewriting.specs.Rewriting.{ReplacedBy, ReplacedArgumentsBy, as_it_is, as_they_are, one_more, here, IsAlias, IsPair, alias_for, pair_for}
use Rattle.state_rewriting.proofs.RewritingsInside.{by_same, by_then, by_par, by_cat, by_let, by_bound, by_let_par, by_let_cat, by_arguments, by_before}
use Rattle.template_state.specs.Rows.{is_name}

pub put_nothing : {names : List ℕ} {R : StreamType → StateTree → StateTree → Type 0} {a b : StateTree} → a ≡ b → (r : StreamType) → ReplacedBy names R r a b
put_nothing e r = by_same e

pub put_par : {names : List ℕ} {R : StreamType → StateTree → StateTree → Type 0} {a b e f : StateTree} → ((r : StreamType) → ReplacedBy names R r a b) → ((r : StreamType) → ReplacedBy names R r e f) → (r : StreamType) → ReplacedBy names R r (par_state a e) (par_state b f)
put_par h k r = by_par (h (par_left r)) (k (par_right r))

pub put_cat : {names : List ℕ} {R : StreamType → StateTree → StateTree → Type 0} {a b : StateTree} {l : LaterTree} → ((r : StreamType) → ReplacedBy names R r a b) → (r : StreamType) → ReplacedBy names R r (cat_state a l) (cat_state b l)
put_cat h r = by_cat (h (cat_first r))

pub put_let : {names : List ℕ} {R : StreamType → StateTree → StateTree → Type 0} {x : ℕ} {s : StreamType} {a b e f : StateTree} → holds x names ≡ false → ((r : StreamType) → ReplacedBy names R r a b) → ((r : StreamType) → ReplacedBy names R r e f)
    → (r : StreamType) → ReplacedBy names R r (let_state x s a e) (let_state x s b f)
put_let {s = s} n h k r = by_let n (h s) (k r)

pub put_bound : {names : List ℕ} {R : StreamType → StateTree → StateTree → Type 0} {x : ℕ} {s : StreamType} {a b e : StateTree} → ((r : StreamType) → ReplacedBy names R r a b) → (r : StreamType) → ReplacedBy names R r (let_state x s a e) (let_state x s b e)
put_bound {s = s} h r = by_bound (h s)

pub put_let_par : {names : List ℕ} {R : StreamType → StateTree → StateTree → Type 0} {x y z : ℕ} {a b : StateTree} → (holds x names ≡ false) × (holds y names ≡ false) × (holds z names ≡ false) → ((r : StreamType) → ReplacedBy names R r a b)
    → (r : StreamType) → ReplacedBy names R r (let_par_state x y z a) (let_par_state x y z b)
put_let_par n h r = by_let_par n.0 n.1 n.2 (h r)

pub put_let_cat : {names : List ℕ} {R : StreamType → StateTree → StateTree → Type 0} {x y z : ℕ} {a b : StateTree} → (holds x names ≡ false) × (holds y names ≡ false) × (holds z names ≡ false) → ((r : StreamType) → ReplacedBy names R r a b)
    → (r : StreamType) → ReplacedBy names R r (let_cat_state x y z a) (let_cat_state x y z b)
put_let_cat n h r = by_let_cat n.0 n.1 n.2 (h r)

pub put_frame : {names : List ℕ} {R : StreamType → StateTree → StateTree → Type 0} {args others : ArgumentTrees} {a : StateTree} → ReplacedArgumentsBy names R args others → (r : StreamType) → ReplacedBy names R r (frame_state args a) (frame_state others a)
put_frame h r = by_arguments h

pub put_none : {names : List ℕ} {R : StreamType → StateTree → StateTree → Type 0} → ReplacedArgumentsBy names R no_arguments no_arguments
put_none = as_they_are

pub put_before : {names : List ℕ} {R : StreamType → StateTree → StateTree → Type 0} {x : ℕ} {t : StreamType} {a b : StateTree} {args others : ArgumentTrees} → ((r : StreamType) → ReplacedBy names R r a b) → ReplacedArgumentsBy names R args others
    → ReplacedArgumentsBy names R (argument_before x t a args) (argument_before x t b others)
put_before {t = t} h k = by_before (h t) k

-- one after the other
pub put_in_turn : {names : List ℕ} {R : StreamType → StateTree → StateTree → Type 0} {a b e : StateTree} → ((r : StreamType) → ReplacedBy names R r a b) → ((r : StreamType) → ReplacedBy names R r b e) → (r : StreamType) → ReplacedBy names R r a e
put_in_turn h k r = by_then (h r) (k r)

-- y itself
pub put_alias : (x y z : ℕ) → x ≡ y → (r : StreamType) → ReplacedBy (y ∷ (z ∷ [])) (IsAlias y z) r (var_state x) (var_state z)
put_alias x y z e r = subst (λ u. ReplacedBy (y ∷ (z ∷ [])) (IsAlias y z) r (var_state u) (var_state z)) (sym e) (one_more as_it_is (here alias_for))

-- a name apart from two, and from three
pub apart_two : (x y z : ℕ) → eqb x y ≡ false → eqb x z ≡ false → holds x (y ∷ (z ∷ [])) ≡ false
apart_two x y z f g = ap₂ (λ a b. a || (b || false)) f g

pub apart_three : (u x y z : ℕ) → eqb u x ≡ false → eqb u y ≡ false → eqb u z ≡ false → holds u (x ∷ (y ∷ (z ∷ []))) ≡ false
apart_three u x y z f g h = ap₂ (λ a b. a || b) f (ap₂ (λ a b. a || (b || false)) g h)

-- a state that passes the test is the name
pub named_state : (s : StateTree) (x : ℕ) → is_name s x ≡ true → s ≡ var_state x
named_state (var_state u) x h = ap var_state (eqb-true u x h)
named_state _ x h = absurd (true≢false (sym h))

-- the pair itself
pub put_pair_name : {x y z : ℕ} {a b : StateTree} → true ≡ (is_name a x && is_name b y) → (r : StreamType) → ReplacedBy (x ∷ (y ∷ (z ∷ []))) (IsPair x y z) r (par_state a b) (var_state z)
put_pair_name {x = x} {y = y} {z = z} {a = a} {b = b} e r =
    let one : a ≡ var_state x = named_state a x (and_first (is_name a x) (is_name b y) (sym e)) in
    let two : b ≡ var_state y = named_state b y (and_second (is_name a x) (is_name b y) (sym e)) in
    subst (λ q. ReplacedBy (x ∷ (y ∷ (z ∷ []))) (IsPair x y z) r q (var_state z)) (sym (ap₂ par_state one two)) (one_more as_it_is (here pair_for))

pub ruleset apart_names = (apart_two, apart_three)

pub ruleset putting = (put_pair_name, put_nothing, put_par, put_cat, put_let, put_bound, put_let_par, put_let_cat, put_frame, put_none, put_before, put_alias)
