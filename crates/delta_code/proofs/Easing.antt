-- Rewritings that ask for no type: those of parts are rewritings of the whole, and which bindings and frames go.
use Rattle.std.proofs.Common.{◌≡◌, ℕ, true, false, ◌||◌, ◌&&◌, List, [], ◌∷◌, ap, ap₂, refl, subst, sym}
use Rattle.stream_type.specs.StreamType.{StreamType}
use Rattle.stream_prefix.specs.StreamPrefix.{StreamPrefix, eps_emp, one_emp, one_full, int_emp, int_full, par_both, cat_fst, cat_both, sum_emp, in_left, in_right, star_emp, star_done, star_first, star_rest}
use Rattle.bunch.specs.Names.{holds}
use Rattle.bunch.proofs.Tests.{and_first, and_second}
use Rattle.core_term.specs.FreeNames.{without}
use Rattle.core_term.specs.Parts.{par_left, par_right, cat_first}
use Rattle.delta_state.specs.StateTree.{LaterTree, StateTree, ArgumentTrees, sink, var_state, par_state, cat_state, let_state, let_par_state, let_cat_state, frame_state, no_arguments, argument_before, free_in_state}
use Rattle.delta_state.specs.Rest.{cut_state}
use Rattle.state_rewriting.specs.Rewriting.{ReplacedBy, ReplacedArgumentsBy, SimplerBy, as_it_is, as_they_are, one_more, here, IsAlias, unused, unused_pair, unused_row, frames, is_plain, are_plain, at_most_once, stand_once, names_passed, composed, Rewritten}
use Rattle.state_rewriting.proofs.RewritingsInside.{by_same, by_then, by_par, by_cat, by_let, by_let_par, by_let_cat, by_arguments, by_body, by_before, alias_by}
use Rattle.delta_code.specs.Eased.{Eased, EasedArguments}
use Rattle.delta_code.specs.declared.way.Layers.{Layers}
use Rattle.delta_code.specs.declared.way.Layers.TheVariants.{None, Let', Pair', Row', Frame'}
use Rattle.delta_code.specs.Way.{within}

pub eased_same : {a b : StateTree} → a ≡ b → Eased a b
eased_same e = record { at = λ q. by_same e }

pub eased_then : {a b e : StateTree} → Eased a b → Eased b e → Eased a e
eased_then h k = record { at = λ q. by_then (h.at q) (k.at q) }

pub eased_par : {a b e f : StateTree} → Eased a b → Eased e f → Eased (par_state a e) (par_state b f)
eased_par h k = record { at = λ q. by_par (h.at (par_left q)) (k.at (par_right q)) }

pub eased_cat : {a b : StateTree} {l : LaterTree} → Eased a b → Eased (cat_state a l) (cat_state b l)
eased_cat h = record { at = λ q. by_cat (h.at (cat_first q)) }

pub eased_let : {x : ℕ} {s : StreamType} {a b e f : StateTree} → Eased a b → Eased e f → Eased (let_state x s a e) (let_state x s b f)
eased_let {s = s} h k = record { at = λ q. by_let refl (h.at s) (k.at q) }

pub eased_let_par : {x y z : ℕ} {a b : StateTree} → Eased a b → Eased (let_par_state x y z a) (let_par_state x y z b)
eased_let_par h = record { at = λ q. by_let_par refl refl refl (h.at q) }

pub eased_let_cat : {x y z : ℕ} {a b : StateTree} → Eased a b → Eased (let_cat_state x y z a) (let_cat_state x y z b)
eased_let_cat h = record { at = λ q. by_let_cat refl refl refl (h.at q) }

pub eased_frame : {args others : ArgumentTrees} {a b : StateTree} → EasedArguments args others → Eased a b → Eased (frame_state args a) (frame_state others b)
eased_frame h k = record { at = λ q. by_then (by_arguments h.by) (by_body refl (k.at q)) }

pub eased_none : EasedArguments no_arguments no_arguments
eased_none = record { by = as_they_are }

pub eased_before : {x : ℕ} {t : StreamType} {a b : StateTree} {args others : ArgumentTrees} → SimplerBy t a b → EasedArguments args others → EasedArguments (argument_before x t a args) (argument_before x t b others)
eased_before h k = record { by = by_before h k.by }

-- a destructuring of a sequence
pub eased_cut : (x y z : ℕ) (s : StreamType) {a b : StateTree} (p : StreamPrefix) → Eased a b → Eased (cut_state x y z s p a) (cut_state x y z s p b)
eased_cut x y z s (cat_both p q) h = eased_let (eased_same refl) (eased_let (eased_same refl) h)
eased_cut x y z s eps_emp h = eased_let_cat h
eased_cut x y z s one_emp h = eased_let_cat h
eased_cut x y z s one_full h = eased_let_cat h
eased_cut x y z s int_emp h = eased_let_cat h
eased_cut x y z s (int_full n) h = eased_let_cat h
eased_cut x y z s (par_both p q) h = eased_let_cat h
eased_cut x y z s (cat_fst p) h = eased_let_cat h
eased_cut x y z s sum_emp h = eased_let_cat h
eased_cut x y z s (in_left p) h = eased_let_cat h
eased_cut x y z s (in_right p) h = eased_let_cat h
eased_cut x y z s star_emp h = eased_let_cat h
eased_cut x y z s star_done h = eased_let_cat h
eased_cut x y z s (star_first p) h = eased_let_cat h
eased_cut x y z s (star_rest p q) h = eased_let_cat h

-- what stands round
pub within_eased : {a b : StateTree} (l : Layers) → Eased a b → Eased (within l a) (within l b)
within_eased None h = h
within_eased (Let' x t a q outer) h = within_eased outer (eased_let (eased_same refl) h)
within_eased (Pair' x y z q outer) h = within_eased outer (eased_let_par h)
within_eased (Row' x y z q outer) h = within_eased outer (eased_let_cat h)
within_eased (Frame' args q outer) h = within_eased outer (eased_frame (record { by = as_they_are }) h)

-- a frame that doesn't use the names round it
pub eased_unused : {x : ℕ} {s : StreamType} {a b : StateTree} → holds x (free_in_state b) ≡ false → Eased (let_state x s a b) b
eased_unused n = record { at = λ q. one_more as_it_is (here (unused n)) }

pub eased_unused_pair : {x y z : ℕ} {a : StateTree} → holds x (free_in_state a) ≡ false → holds y (free_in_state a) ≡ false → Eased (let_par_state x y z a) a
eased_unused_pair n m = record { at = λ q. one_more as_it_is (here (unused_pair n m)) }

pub eased_unused_row : {x y z : ℕ} {a : StateTree} → holds x (free_in_state a) ≡ false → holds y (free_in_state a) ≡ false → Eased (let_cat_state x y z a) a
eased_unused_row n m = record { at = λ q. one_more as_it_is (here (unused_row n m)) }

-- a name that stands for another one, in the arguments of a frame
pub eased_alias : {y z : ℕ} {t : StreamType} {args others : ArgumentTrees} {s : StateTree} → ReplacedArgumentsBy (y ∷ (z ∷ [])) (IsAlias y z) args others → Eased (let_state y t (var_state z) (frame_state args s)) (let_state y t (var_state z) (frame_state others s))
eased_alias h = record { at = λ q. alias_by (by_arguments h) }

pub alias_put : {y z : ℕ} {p : StateTree} {args others : ArgumentTrees} → ReplacedArgumentsBy (y ∷ (z ∷ [])) (IsAlias y z) args others → p ≡ var_state z
    → (r : StreamType) (s : StateTree) → Eased (let_state y r p (frame_state args s)) (let_state y r p (frame_state others s))
alias_put {y = y} {args = args} {others = others} h e r s = subst (λ (u : StateTree). Eased (let_state y r u (frame_state args s)) (let_state y r u (frame_state others s))) (sym e) (eased_alias h)

pub alias_none : {y : ℕ} {p : StateTree} {args others : ArgumentTrees} → others ≡ args → (r : StreamType) (s : StateTree) → Eased (let_state y r p (frame_state args s)) (let_state y r p (frame_state others s))
alias_none {y = y} {p = p} e r s = eased_same (ap (λ (a : ArgumentTrees). let_state y r p (frame_state a s)) (sym e))

-- the same of equal states and arguments
pub alias_of : {y : ℕ} {p q : StateTree} {args others new : ArgumentTrees} → q ≡ p → others ≡ args → ((r : StreamType) (s : StateTree) → Eased (let_state y r q (frame_state others s)) (let_state y r q (frame_state new s)))
    → (r : StreamType) (s : StateTree) → Eased (let_state y r p (frame_state args s)) (let_state y r p (frame_state new s))
alias_of {y = y} {new = new} e f h r s = subst (λ (u : StateTree × ArgumentTrees). Eased (let_state y r u.0 (frame_state u.1 s)) (let_state y r u.0 (frame_state new s))) (λ i. (e i, f i)) (h r s)

-- arguments that are names or finished are passed on as often as one likes
plain_once : (args : ArgumentTrees) (us : List ℕ) → are_plain args ≡ true → stand_once args us ≡ true
plain_once no_arguments us p = refl
plain_once (argument_before x t s args) us p =
    ap₂ ◌&&◌ (ap (λ b. b || at_most_once x us) (and_first (is_plain s) (are_plain args) p)) (plain_once args (without x us) (and_second (is_plain s) (are_plain args) p))

-- a frame right in a frame
pub eased_frames : {args inner : ArgumentTrees} {a : StateTree} → are_plain args ≡ true → are_plain inner ≡ true → Eased (frame_state args (frame_state inner a)) (frame_state (composed args inner) a)
eased_frames {args = args} {inner = inner} p q = record { at = λ r. one_more as_it_is (here (frames q (plain_once args (names_passed inner) p))) }

-- a frame whose arguments were put into a simpler form, in what stands round it
pub finished_frame : {args others : ArgumentTrees} (l m : Layers) → EasedArguments args others → ((s : StateTree) → Eased (within l (frame_state others s)) (within m s)) → (s : StateTree) → Eased (within l (frame_state args s)) (within m s)
finished_frame l m h k s = eased_then (within_eased l (eased_frame h (eased_same refl))) (k s)

-- a name in the place of another one, in arguments
pub put_none : {names : List ℕ} {R : StreamType → StateTree → StateTree → Type 0} → ReplacedArgumentsBy names R no_arguments no_arguments
put_none = as_they_are

pub put_before : {names : List ℕ} {R : StreamType → StateTree → StateTree → Type 0} {x : ℕ} {t : StreamType} {a b : StateTree} {args others : ArgumentTrees} → ((r : StreamType) → ReplacedBy names R r a b) → ReplacedArgumentsBy names R args others
    → ReplacedArgumentsBy names R (argument_before x t a args) (argument_before x t b others)
put_before {t = t} h k = by_before (h t) k

pub ruleset putting = (put_none, put_before)

pub ruleset finishing = (eased_none, eased_before)

pub ruleset aliasing = (alias_put, alias_none)

-- what is left of parts, and of the whole
pub same_eased : {a b w z : StateTree} → Eased a b → w ≡ a → z ≡ b → Eased w z
same_eased h e f = eased_then (eased_same e) (eased_then h (eased_same (sym f)))

pub let_eased : {a b c d w z : StateTree} {x : ℕ} {s : StreamType} → Eased a b → Eased c d → w ≡ let_state x s a c → z ≡ let_state x s b d → Eased w z
let_eased h k e f = same_eased (eased_let h k) e f

pub let_cat_eased : {a b w z : StateTree} {x y u : ℕ} → Eased a b → w ≡ let_cat_state x y u a → z ≡ let_cat_state x y u b → Eased w z
let_cat_eased h e f = same_eased (eased_let_cat h) e f

pub frame_eased : {args others : ArgumentTrees} {a b w z : StateTree} → EasedArguments args others → Eased a b → w ≡ frame_state args a → z ≡ frame_state others b → Eased w z
frame_eased h k e f = same_eased (eased_frame h k) e f

pub none_eased : {args others : ArgumentTrees} → args ≡ no_arguments → others ≡ no_arguments → EasedArguments args others
none_eased {args = args} {others = others} e f =
    record { by = subst (λ (a : ArgumentTrees). ReplacedArgumentsBy [] Rewritten a others) (sym e) (subst (λ (b : ArgumentTrees). ReplacedArgumentsBy [] Rewritten no_arguments b) (sym f) as_they_are) }

pub same_arguments : {args others rest new : ArgumentTrees} → EasedArguments args others → rest ≡ args → new ≡ others → EasedArguments rest new
same_arguments {args = args} {new = new} h e f =
    record { by = subst (λ (a : ArgumentTrees). ReplacedArgumentsBy [] Rewritten a new) (sym e) (subst (λ (b : ArgumentTrees). ReplacedArgumentsBy [] Rewritten args b) (sym f) h.by) }

pub before_eased : {x : ℕ} {t : StreamType} {a b : StateTree} {args others rest new : ArgumentTrees} → Eased a b → EasedArguments args others → rest ≡ argument_before x t a args → new ≡ argument_before x t b others → EasedArguments rest new
before_eased {t = t} h k e f = same_arguments (record { by = by_before (h.at t) k.by }) e f

pub ruleset arguments_eased = (none_eased, before_eased, same_arguments)

pub alias_eased : {a b w v : StateTree} {x z : ℕ} {t : StreamType} → Eased a b → w ≡ let_state x t (var_state z) a → v ≡ let_state x t (var_state z) b → Eased w v
alias_eased h e f = same_eased (eased_let (eased_same refl) h) e f

pub two_eased : {a b w v : StateTree} {x y z : ℕ} {s t u : StreamType} → Eased a b → w ≡ let_state x s (sink t) (let_state y u (var_state z) a) → v ≡ let_state x s (sink t) (let_state y u (var_state z) b) → Eased w v
two_eased h e f = same_eased (eased_let (eased_same refl) (eased_let (eased_same refl) h)) e f

pub ruleset cases_eased = (same_eased, eased_same, alias_eased, two_eased, let_cat_eased)
