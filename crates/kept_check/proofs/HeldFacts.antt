-- What is held of names: whether it has begun, and the facts that it leaves.
use Rattle.std.proofs.Common.{◌≡◌, ◌∙◌, ◌<◌, ◌≤◌, ◌+◌, ℕ, Bool, true, false, ◌&&◌, ◌||◌, not, eqb, List, [], ◌∷◌, ◌++◌, length, get_or, drop, map, refl, ap, sym, arith}
use Rattle.std.proofs.lemmas.Bool.{eqb-true}
use Rattle.std.proofs.lemmas.List.{at_drop_more, drop_all}
use Rattle.std.proofs.lemmas.List.Folds.{list_any-append}
use Rattle.stream_prefix.specs.StreamPrefix.{StreamPrefix}
use Rattle.stream_prefix.specs.declared.prefix.Prefix.{Prefix}
use Rattle.stream_prefix.specs.declared.prefix.StarEnd.{StarEnd}
use Rattle.stream_prefix.specs.declared.prefix.StarEnd.TheVariants.{Emp, Done, First'}
use Rattle.stream_prefix.specs.Tree.{prefix_of, end_of, star_of}
use Rattle.bunch.specs.declared.name.Name.{Name}
use Rattle.bunch.specs.Names.{holds, numbers_of}
use Rattle.bunch.specs.Facts.{Facts}
use Rattle.bunch.proofs.Tests.{and_none}
use Rattle.delta_check.specs.Scopes.{facts_given}
use Rattle.delta_state.specs.StateTree.{HeldName, held_names}
use Rattle.delta_state.specs.StateTyping.{is_empty, facts_held}
use Rattle.delta_state.specs.Settled.{has_tag}
use Rattle.kept_check.specs.Holding.{stays_before}
use Rattle.core_term.proofs.OnceEach.{or_false}

-- a star with an item has begun
pub begun : (ps : List Prefix) (e : StarEnd) → 1 ≤ length ps → true ≡ has_tag (star_of (map prefix_of ps) (end_of e))
begun [] e h = absurd (omega arith)
begun (p ∷ ps) e h = refl

-- a star has begun where something of it came
pub not_begun : (ps : List StreamPrefix) (e : StarEnd) → not (has_tag (star_of ps (end_of e))) ≡ is_empty (star_of ps (end_of e))
not_begun [] Emp = refl
not_begun [] Done = refl
not_begun [] (First' x p) = refl
not_begun (p ∷ ps) e = refl

and_assoc : (a b c : Bool) → ((a && b) && c) ≡ (a && (b && c))
and_assoc true b c = refl
and_assoc false b c = refl

-- a fact, or none
pub one_more : (fs gs : List (Name × Name)) (x y : Name) (u v : ℕ) (d : Bool) → gs ≡ fs ++ (x, y) ∷ [] → d ≡ true
    → facts_given gs u v ≡ (facts_given fs u v || (eqb u x.0 && (eqb v y.0 && d)))
one_more fs gs x y u v d e k =
    ap (λ l. facts_given l u v) e
    ∙ (list_any-append (λ (f : Name × Name). eqb u f.0.0 && eqb v f.1.0) fs ((x, y) ∷ [])
    ∙ ap (λ b. facts_given fs u v || b) (or_false (eqb u x.0 && eqb v y.0) ∙ ap (λ b. eqb u x.0 && b) (and_true (eqb v y.0) ∙ ap (λ b. eqb v y.0 && b) (sym k))))
  where
    and_true : (b : Bool) → b ≡ (b && true)
    and_true true = refl
    and_true false = refl

pub no_more : (a b c d : Bool) → d ≡ false → a ≡ (a || (b && (c && d)))
no_more a b c d k = sym (ap (λ e. a || (b && (c && e))) k ∙ (ap (λ e. a || (b && e)) (and_none c) ∙ (ap (λ e. a || e) (and_none b) ∙ or_false a)))

-- one more of several ways to a fact
with_one : (f e r x y : Bool) → (e ≡ true → y ≡ x) → ((f || (e && y)) || (r && x)) ≡ (f || ((e || r) && x))
with_one true e r x y h = refl
with_one false false r x y h = refl
with_one false true r x y h = ap (λ b. b || (r && x)) (h refl) ∙ either r x
  where
    either : (r x : Bool) → (x || (r && x)) ≡ x
    either r true = refl
    either true false = refl
    either false false = refl

-- the same beside something that all need
beside_one : (f u v r x y : Bool) → (v ≡ true → y ≡ x) → ((f || (u && (v && y))) || (u && (r && x))) ≡ (f || (u && ((v || r) && x)))
beside_one f true v r x y h = with_one f v r x y h
beside_one true false v r x y h = refl
beside_one false false v r x y h = refl

-- the names left: the next one, and those behind it
holds-next : (v : ℕ) (names : List Name) (i : ℕ) (n d : Name) → i < length names → n ≡ get_or names i d → holds v (numbers_of (drop i names)) ≡ (eqb v n.0 || holds v (numbers_of (drop (i + 1) names)))
holds-next v names i n d h e =
    at_drop_more (λ l. holds v (numbers_of l)) names i d h ∙ ap (λ (m : Name). eqb v m.0 || holds v (numbers_of (drop (i + 1) names))) (sym e)

module _ (held : List HeldName) (before : Facts) (names : List Name) (i : ℕ) (n d : Name) (h : i < length names) (e : n ≡ get_or names i d) where
  -- the facts of one name before those left
  pub next_fact : (x u v : ℕ) (old new : Bool) → new ≡ (old || (eqb u x && (eqb v n.0 && stays_before held before x n.0)))
      → (new || (eqb u x && (holds v (numbers_of (drop (i + 1) names)) && stays_before held before x v))) ≡ (old || (eqb u x && (holds v (numbers_of (drop i names)) && stays_before held before x v)))
  next_fact x u v old new k =
      ap (λ b. b || (eqb u x && (holds v (numbers_of (drop (i + 1) names)) && stays_before held before x v))) k
      ∙ (beside_one old (eqb u x) (eqb v n.0) (holds v (numbers_of (drop (i + 1) names))) (stays_before held before x v) (stays_before held before x n.0) (λ q. ap (stays_before held before x) (sym (eqb-true v n.0 q)))
      ∙ ap (λ b. old || (eqb u x && (b && stays_before held before x v))) (sym (holds-next v names i n d h e)))

  -- the facts of the names left before all
  pub next_facts : (u v : ℕ) (old new : Bool) → new ≡ (old || (eqb u n.0 && (holds v (numbers_of names) && stays_before held before n.0 v)))
      → (new || (holds u (numbers_of (drop (i + 1) names)) && (holds v (numbers_of names) && stays_before held before u v)))
      ≡ (old || (holds u (numbers_of (drop i names)) && (holds v (numbers_of names) && stays_before held before u v)))
  next_facts u v old new k =
      ap (λ b. b || (holds u (numbers_of (drop (i + 1) names)) && (holds v (numbers_of names) && stays_before held before u v))) k
      ∙ (with_one old (eqb u n.0) (holds u (numbers_of (drop (i + 1) names))) (holds v (numbers_of names) && stays_before held before u v) (holds v (numbers_of names) && stays_before held before n.0 v)
      (λ q. ap (λ w. holds v (numbers_of names) && stays_before held before w v) (sym (eqb-true u n.0 q)))
      ∙ ap (λ b. old || (b && (holds v (numbers_of names) && stays_before held before u v))) (sym (holds-next u names i n d h e)))

-- the facts of held names
pub facts_held-is : (held : List HeldName) (before : Facts) (names : List Name) (u v : ℕ) → numbers_of names ≡ held_names held
    → (holds u (numbers_of names) && (holds v (numbers_of names) && stays_before held before u v)) ≡ facts_held held before u v
facts_held-is held before names u v e =
    ap (λ l. holds u l && (holds v l && stays_before held before u v)) e ∙ sym (and_assoc (holds u (held_names held)) (holds v (held_names held)) (stays_before held before u v))

-- with none left, those so far are all
pub all_facts : (f g b : Bool) (names : List Name) (i u : ℕ) → length names ≤ i → (f || (holds u (numbers_of (drop i names)) && b)) ≡ g → f ≡ g
all_facts f g b names i u h k = sym (ap (λ (l : List Name). f || (holds u (numbers_of l) && b)) (drop_all i names h) ∙ or_false f) ∙ k

pub all_named : (f g b d : Bool) (names : List Name) (i v : ℕ) → length names ≤ i → (f || (b && (holds v (numbers_of (drop i names)) && d))) ≡ g → f ≡ g
all_named f g b d names i v h k = sym (ap (λ (l : List Name). f || (b && (holds v (numbers_of l) && d))) (drop_all i names h) ∙ (ap (λ e. f || e) (and_none b) ∙ or_false f)) ∙ k
