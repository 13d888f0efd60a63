-- Rewritings that are made in place, one after the other.
use Rattle.std.proofs.Common.{Result, Ok, Err, ◌≡◌, ◌≢◌, ◌∙◌, ℕ, true, false, [], ◌∷◌, eqb, ap, refl, subst, sym}
use Rattle.std.specs.Prelude.{IsOk, OnOk}
use Rattle.stream_type.specs.StreamType.{StreamType, null_of}
use Rattle.bunch.specs.Names.{holds}
use Rattle.core_term.specs.Parts.{par_left, par_right, cat_first}
use Rattle.core_term.proofs.Sides.{eqb-same}
use Rattle.delta_state.specs.StateTree.{LaterTree, StateTree, ArgumentTrees, sink, var_state, par_state, cat_state, let_state, let_par_state, let_cat_state, frame_state, no_arguments, argument_before, free_in_state}
use Rattle.state_rewriting.specs.Rewriting.{ReplacedBy, ReplacedArgumentsBy, as_it_is, as_they_are, one_more, here, IsAlias, IsPair, Rewritten, finished, unused, unused_pair, unused_row, renamed, SimplerBy}
use Rattle.state_rewriting.proofs.RewritingsInside.{by_same, by_then, by_par, by_cat, by_let, by_let_par, by_let_cat, by_arguments, by_body, by_before, alias_by, pair_by}
use Rattle.template_state.proofs.Joining.{kept_at_all}

-- a type that is the one asked for
pub at_type : {s r : StreamType} {a b : StateTree} → s ≡ r → SimplerBy s a b → SimplerBy r a b
at_type {a = a} {b = b} e h = subst (λ t. SimplerBy t a b) e h

pub simpler_same : {r : StreamType} {a b : StateTree} → a ≡ b → SimplerBy r a b
simpler_same e = by_same e

pub simpler_finished : {r : StreamType} {a b : StateTree} → true ≡ null_of r → b ≡ sink r → SimplerBy r a b
simpler_finished {r = r} {a = a} n e = subst (λ q. SimplerBy r a q) (sym e) (one_more as_it_is (here (finished (sym n))))

pub simpler_par : {r s t : StreamType} {a b e f : StateTree} → s ≡ par_left r → t ≡ par_right r → SimplerBy s a b → SimplerBy t e f → SimplerBy r (par_state a e) (par_state b f)
simpler_par p q h k = by_par (at_type p h) (at_type q k)

pub simpler_cat : {r s : StreamType} {a b : StateTree} {l : LaterTree} → s ≡ cat_first r → SimplerBy s a b → SimplerBy r (cat_state a l) (cat_state b l)
simpler_cat p h = by_cat (at_type p h)

pub simpler_let : {r s : StreamType} {x : ℕ} {a b e f g : StateTree} → SimplerBy s a b → SimplerBy r e f → ((q : StreamType) → SimplerBy q (let_state x s b f) g) → SimplerBy r (let_state x s a e) g
simpler_let {r = r} h k l = by_then (by_let refl h k) (l r)

pub simpler_let_par : {r : StreamType} {x y z : ℕ} {a b g : StateTree} → SimplerBy r a b → ((q : StreamType) → SimplerBy q (let_par_state x y z b) g) → SimplerBy r (let_par_state x y z a) g
simpler_let_par {r = r} h l = by_then (by_let_par refl refl refl h) (l r)

pub simpler_let_cat : {r : StreamType} {x y z : ℕ} {a b g : StateTree} → SimplerBy r a b → ((q : StreamType) → SimplerBy q (let_cat_state x y z b) g) → SimplerBy r (let_cat_state x y z a) g
simpler_let_cat {r = r} h l = by_then (by_let_cat refl refl refl h) (l r)

pub simpler_frame : {r : StreamType} {args others : ArgumentTrees} {a b g : StateTree} → ReplacedArgumentsBy [] Rewritten args others → SimplerBy r a b → ((q : StreamType) → SimplerBy q (frame_state others b) g) → SimplerBy r (frame_state args a) g
simpler_frame {r = r} h k l = by_then (by_then (by_arguments h) (by_body refl k)) (l r)

pub simpler_none : ReplacedArgumentsBy [] Rewritten no_arguments no_arguments
simpler_none = as_they_are

pub simpler_before : {x : ℕ} {t : StreamType} {a b : StateTree} {args others : ArgumentTrees} → SimplerBy t a b → ReplacedArgumentsBy [] Rewritten args others → ReplacedArgumentsBy [] Rewritten (argument_before x t a args) (argument_before x t b others)
simpler_before h k = by_before h k

-- what holds where it was made, where it was
pub made_ok : {T E P : Type 0} (r : Result T E) → IsOk r → OnOk r P → P
made_ok (Ok x) e h = h
made_ok (Err x) e h = absurd (cc e)

-- two and four in turn
pub in_turn : {a b e : StateTree} → ((q : StreamType) → SimplerBy q a b) → ((q : StreamType) → SimplerBy q b e) → (q : StreamType) → SimplerBy q a e
in_turn h k q = by_then (h q) (k q)

pub four_in_turn : {a b e f g : StateTree} → ((q : StreamType) → SimplerBy q a b) → ((q : StreamType) → SimplerBy q b e) → ((q : StreamType) → SimplerBy q e f) → ((q : StreamType) → SimplerBy q f g) → (q : StreamType) → SimplerBy q a g
four_in_turn h k l m q = by_then (by_then (by_then (h q) (k q)) (l q)) (m q)

pub alias_at_all : {y z : ℕ} {s : StreamType} {p a b : StateTree} → p ≡ var_state z → ((r : StreamType) → ReplacedBy (y ∷ (z ∷ [])) (IsAlias y z) r a b) → (q : StreamType) → SimplerBy q (let_state y s p a) (let_state y s p b)
alias_at_all {y = y} {z = z} {s = s} {a = a} {b = b} e h q = subst (λ u. SimplerBy q (let_state y s u a) (let_state y s u b)) (sym e) (alias_by (h q))

pub pair_at_all : {x y z : ℕ} {a b : StateTree} → eqb x y ≡ false → eqb y z ≡ false → ((r : StreamType) → ReplacedBy (x ∷ (y ∷ (z ∷ []))) (IsPair x y z) r a b) → (q : StreamType) → SimplerBy q (let_par_state x y z a) (let_par_state x y z b)
pair_at_all {x = x} {y = y} {z = z} n m h q = pair_by (differ x y n) (differ y z m) (h q)
  where
    differ : (u v : ℕ) → eqb u v ≡ false → u ≢ v
    differ u v f e = absurd (let k : true ≡ false = sym (eqb-same v) ∙ (ap (λ w. eqb w v) (sym e) ∙ f) in let none : ⊥ = cc k in none)

pub unused_at_all : {x : ℕ} {s : StreamType} {a b : StateTree} → false ≡ holds x (free_in_state b) → (q : StreamType) → SimplerBy q (let_state x s a b) b
unused_at_all n q = one_more as_it_is (here (unused (sym n)))

pub unused_pair_at_all : {x y z : ℕ} {a : StateTree} → false ≡ holds x (free_in_state a) → false ≡ holds y (free_in_state a) → (q : StreamType) → SimplerBy q (let_par_state x y z a) a
unused_pair_at_all n m q = one_more as_it_is (here (unused_pair (sym n) (sym m)))

pub unused_row_at_all : {x y z : ℕ} {a : StateTree} → false ≡ holds x (free_in_state a) → false ≡ holds y (free_in_state a) → (q : StreamType) → SimplerBy q (let_cat_state x y z a) a
unused_row_at_all n m q = one_more as_it_is (here (unused_row (sym n) (sym m)))

pub renamed_at_all : {x y : ℕ} {s : StreamType} {a p : StateTree} → p ≡ var_state y → y ≡ x → (q : StreamType) → SimplerBy q (let_state x s a p) a
renamed_at_all {x = x} {s = s} {a = a} e f q = subst (λ u. SimplerBy q (let_state x s a u) a) (sym (e ∙ ap var_state f)) (one_more as_it_is (here renamed))

pub ruleset settling = (simpler_same, simpler_finished, simpler_par, simpler_cat, simpler_let, simpler_let_par, simpler_let_cat, simpler_frame, simpler_none, simpler_before, in_turn, four_in_turn, kept_at_all, alias_at_all, pair_at_all, unused_at_all, unused_pair_at_all, unused_row_at_all, renamed_at_all)
