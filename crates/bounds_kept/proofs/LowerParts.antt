-- Where a part is replaced by one that can hold no more, the whole can hold no more: once for any replacement.
use Rattle.std.proofs.Common.{◌≡◌, ◌∙◌, ℕ, Bool, true, false, not, ◌&&◌, List, ◌∷◌, eqb, if◌then◌else◌, ap, ap₂, refl, sym}
use Rattle.std.specs.Prelude.{Some}
use Rattle.stream_type.specs.StreamType.{StreamType, null_of}
use Rattle.bunch.specs.Names.{put, holds}
use Rattle.bunch.specs.Facts.{place_let}
use Rattle.bunch.proofs.Tests.{and_first, and_second}
use Rattle.core_term.specs.CoreTerm.{CoreBody}
use Rattle.core_term.specs.FreeNames.{without, free_names}
use Rattle.core_term.specs.Parts.{par_left, par_right, cat_first, cat_second}
use Rattle.core_term.specs.Typing.{Context, type_at, types_of, AllBefore, with_name, with_fact, with_parts}
use Rattle.delta_state.specs.StateTree.{StateTree, ArgumentTrees, argument_names, argument_at, free_in_state, free_in_arguments}
use Rattle.delta_state.specs.StateTyping.{HasStateType, HaveArgumentTypes, marks_of_arguments, context_of_arguments}
use Rattle.delta_state.specs.Settled.{is_settled, are_settled}
use Rattle.state_rewriting.specs.Rewriting.{Replaced, ReplacedArgument, here, in_left, in_right, in_first, in_bound, in_let, in_let_par, in_let_cat, in_arguments, in_body, at_first, at_other}
use Rattle.state_rewriting.proofs.FittingParts.{row_at, row_of, Served, served_same, served_left, served_right, served_cons, par_form, cat_form}
use Rattle.state_bounds.specs.Bounds.{Bound, ◌⊑◌}
use Rattle.state_bounds.specs.StateBounds.{code_bound, state_bound, argument_bounds}
use Rattle.state_bounds.proofs.BoundOrder.{at_most_same, both_at_most, greater_at_most}
use Rattle.state_bounds.proofs.StatesWithMoreFacts.{Roomy, state_at_most}
use Rattle.state_rewriting.proofs.NamesThatServe.{AllServe, serve_let, serve_parts, serve_fact, serve_body, still_served, still_before, still_placed}

-- a called body has the types of the names of the list, and no fewer facts between them, where other arguments
-- have the same parameters among them, and stand before one another where the first did
pub roomy_body : (xs : List ℕ) (args others : ArgumentTrees) (c e : Context) → ((u : ℕ) → holds u xs ≡ true → marks_of_arguments args u ≡ marks_of_arguments others u)
    → ((u : ℕ) → holds u xs ≡ true → holds u (argument_names args) ≡ holds u (argument_names others))
    → ((u v : ℕ) → holds u xs ≡ true → holds v xs ≡ true → AllBefore c (free_in_state (argument_at args u)) (free_in_state (argument_at args v)) → AllBefore e (free_in_state (argument_at others u)) (free_in_state (argument_at others v)))
    → Roomy xs (context_of_arguments c args) (context_of_arguments e others)
roomy_body xs args others c e f g o = record {
  types = f;
  order = record {
    at = λ u v m n h.
        ap₂ ◌&&◌ (ap₂ ◌&&◌ (sym (g u m)) (sym (g v n)) ∙ and_first (holds u (argument_names args) && holds v (argument_names args)) _ h)
        (row_of e (free_in_state (argument_at others u)) (free_in_state (argument_at others v))
        (o u v m n (row_at c (free_in_state (argument_at args u)) (free_in_state (argument_at args v)) (and_second (holds u (argument_names args) && holds v (argument_names args)) _ h))));
  };
}

module _ (funs : List CoreBody) (counts : ℕ → Bool) (numbers : ℕ → Bound) (N : ℕ → ℕ → Type 0) where
  -- b can hold no more than a, and its free names serve for those of a
  pub record Lowers (c : Context) (a b : StateTree) : Type 0 where
    pub free : Served N (free_in_state a) (free_in_state b)
    pub bound : state_bound funs numbers b c ⊑ state_bound funs numbers a c

  -- so it is with arguments; they have the same parameters with the same types
  pub record LowerArguments (c : Context) (args others : ArgumentTrees) : Type 0 where
    pub free : Served N (free_in_arguments args) (free_in_arguments others)
    pub names : argument_names args ≡ argument_names others
    pub marks : marks_of_arguments args ≡ marks_of_arguments others
    pub at : (u : ℕ) → Served N (free_in_state (argument_at args u)) (free_in_state (argument_at others u))
    pub bound : argument_bounds funs numbers others c ⊑ argument_bounds funs numbers args c

  -- what a replacement R of parts does, outside bindings of the names: what it puts in can hold no more. N speaks
  -- of the names alone
  pub record LowersLocally (names : List ℕ) (R : StreamType → StateTree → StateTree → Type 0) : Type 0 where
    pub named : (w v : ℕ) → N w v → (holds w names ≡ true) × (holds v names ≡ true)
    pub local : (r : StreamType) (a b : StateTree) → R r a b → (c : Context) → AllServe N c → HasStateType funs counts c a r → is_settled a r ≡ true → Lowers c a b

module _ {funs : List CoreBody} {counts : ℕ → Bool} {numbers : ℕ → Bound} {N : ℕ → ℕ → Type 0} {names : List ℕ} {R : StreamType → StateTree → StateTree → Type 0} (w : LowersLocally funs counts numbers N names R) where
  -- a body has no fewer facts where its arguments are replaced
  roomy_arguments : (xs : List ℕ) (args others : ArgumentTrees) (c : Context) → AllServe N c → LowerArguments funs counts numbers N c args others → Roomy xs (context_of_arguments c args) (context_of_arguments c others)
  roomy_arguments xs args others c k g =
      roomy_body xs args others c c (λ u m. ap (λ f. f u) g.marks) (λ u m. ap (holds u) g.names)
      (λ u v m n h. still_before N c k (free_in_state (argument_at args u)) (free_in_state (argument_at others u)) (free_in_state (argument_at args v)) (free_in_state (argument_at others v)) (g.at u) (g.at v) h)

  mutual
    -- the whole can hold no more
    pub lowers : {r : StreamType} {a b : StateTree} → Replaced names R r a b → (c : Context) → AllServe N c → HasStateType funs counts c a r → is_settled a r ≡ true → Lowers funs counts numbers N c a b
    lowers (here {r = r} {a = a} {b = b} h) c k t i = w.local r a b h c k t i
    lowers (in_left {r = r} {a = a} {b = b} {e = e} h) c k t i =
        let g = lowers h c k (par_form funs counts a e c r t).left (and_first (is_settled a (par_left r)) (is_settled e (par_right r)) i) in
        record {
          free = served_left N (free_in_state a) (free_in_state b) (free_in_state e) g.free;
          bound = both_at_most _ _ _ _ g.bound (at_most_same (state_bound funs numbers e c));
        }
    lowers (in_right {r = r} {a = a} {b = b} {e = e} h) c k t i =
        let g = lowers h c k (par_form funs counts e a c r t).right (and_second (is_settled e (par_left r)) (is_settled a (par_right r)) i) in
        record {
          free = served_right N (free_in_state a) (free_in_state b) (free_in_state e) g.free;
          bound = both_at_most _ _ _ _ (at_most_same (state_bound funs numbers e c)) g.bound;
        }
    lowers (in_first {r = r} {a = a} {b = b} {l = l} h) c k t i =
        let g = lowers h c k (cat_form funs counts a l c r t).first (and_first (is_settled a (cat_first r)) (not (null_of (cat_first r))) i) in
        record {
          free = served_left N (free_in_state a) (free_in_state b) (free_names l.term) g.free;
          bound = greater_at_most _ _ _ _ g.bound (at_most_same (code_bound funs numbers l.term (types_of c) c.order));
        }
    lowers (in_bound {r = r} {s = s} {x = x} {a = a} {b = b} {e = e} h) c k t i =
        let g = lowers h c k t.0 (and_first (is_settled a s) (is_settled e r) i) in
        record {
          free = served_left N (free_in_state a) (free_in_state b) (without x (free_in_state e)) g.free;
          bound =
              both_at_most _ _ _ _ g.bound
              (state_at_most funs numbers e (with_name x s (place_let x (free_in_state a) true c.order) c) (with_name x s (place_let x (free_in_state b) true c.order) c)
              (record { types = λ y m. refl; order = still_placed N c k x (free_in_state a) (free_in_state b) (free_in_state e) g.free }));
        }
    lowers (in_let {r = r} {s = s} {x = x} {a = a} {b = b} {e = e} nx h) c k t i =
        let g = lowers h (with_name x s (place_let x (free_in_state e) true c.order) c) (serve_let names N w.named c x s (free_in_state e) k nx) t.1 (and_second (is_settled e s) (is_settled a r) i) in
        record {
          free = served_right N (without x (free_in_state a)) (without x (free_in_state b)) (free_in_state e) (still_served names N w.named x (free_in_state a) (free_in_state b) nx g.free);
          bound = both_at_most _ _ _ _ (at_most_same (state_bound funs numbers e c)) g.bound;
        }
    lowers (in_let_par {r = r} {x = x} {y = y} {z = z} {a = a} {b = b} nx ny nz h) c k t i =
        let g = lowers h (with_parts x (par_left (type_at c z)) y (par_right (type_at c z)) z c) (serve_parts names N w.named c x y z _ _ k nx ny nz) t.2 i in
        record {
          free =
              served_cons N z (without x (without y (free_in_state a))) (without x (without y (free_in_state b)))
              (still_served names N w.named x (without y (free_in_state a)) (without y (free_in_state b)) nx (still_served names N w.named y (free_in_state a) (free_in_state b) ny g.free));
          bound = g.bound;
        }
    lowers (in_let_cat {r = r} {x = x} {y = y} {z = z} {a = a} {b = b} nx ny nz h) c k t i =
        let inside = with_parts x (cat_first (type_at c z)) y (cat_second (type_at c z)) z c in
        let g = lowers h (with_fact x y inside) (serve_fact names N w.named inside x y (serve_parts names N w.named c x y z _ _ k nx ny nz) nx ny) t.2 i in
        record {
          free =
              served_cons N z (without x (without y (free_in_state a))) (without x (without y (free_in_state b)))
              (still_served names N w.named x (without y (free_in_state a)) (without y (free_in_state b)) nx (still_served names N w.named y (free_in_state a) (free_in_state b) ny g.free));
          bound = g.bound;
        }
    lowers (in_arguments {r = r} {args = args} {others = others} {a = a} h) c k t i =
        let g = lower_arguments h c k t.0 (and_first (are_settled args) (is_settled a r) i) in
        record {
          free = g.free;
          bound = both_at_most _ _ _ _ g.bound (state_at_most funs numbers a (context_of_arguments c args) (context_of_arguments c others) (roomy_arguments (free_in_state a) args others c k g));
        }
    lowers (in_body {r = r} {args = args} {a = a} {b = b} none h) c k t i =
        let g = lowers h (context_of_arguments c args) (serve_body names N w.named c args none) t.1 (and_second (are_settled args) (is_settled a r) i) in
        record { free = served_same N (free_in_arguments args); bound = both_at_most _ _ _ _ (at_most_same (argument_bounds funs numbers args c)) g.bound }

    -- nor can arguments one of whose parts was replaced
    pub lower_arguments : {args others : ArgumentTrees} → ReplacedArgument names R args others → (c : Context) → AllServe N c → HaveArgumentTypes funs counts c args → are_settled args ≡ true → LowerArguments funs counts numbers N c args others
    lower_arguments (at_first {x = x} {t = s} {a = a} {b = b} {args = args} h) c k t i =
        let g = lowers h c k t.0 (and_first (is_settled a s) (are_settled args) i) in
        record {
          free = served_left N (free_in_state a) (free_in_state b) (free_in_arguments args) g.free;
          names = refl;
          marks = refl;
          at = λ u. by_name (eqb u x) (argument_at args u) g.free;
          bound = both_at_most _ _ _ _ g.bound (at_most_same (argument_bounds funs numbers args c));
        }
      where
        by_name : (o : Bool) (q : StateTree) → Served N (free_in_state a) (free_in_state b) → Served N (free_in_state (if o then a else q)) (free_in_state (if o then b else q))
        by_name true q f = f
        by_name false q f = served_same N (free_in_state q)
    lower_arguments (at_other {x = x} {t = s} {a = a} {args = args} {others = others} h) c k t i =
        let g = lower_arguments h c k t.1 (and_second (is_settled a s) (are_settled args) i) in
        record {
          free = served_right N (free_in_arguments args) (free_in_arguments others) (free_in_state a) g.free;
          names = ap (λ ns. x ∷ ns) g.names;
          marks = ap (put x (Some s)) g.marks;
          at = λ u. by_name (eqb u x) (argument_at args u) (argument_at others u) (g.at u);
          bound = both_at_most _ _ _ _ (at_most_same (state_bound funs numbers a c)) g.bound;
        }
      where
        by_name : (o : Bool) (p q : StateTree) → Served N (free_in_state p) (free_in_state q) → Served N (free_in_state (if o then a else p)) (free_in_state (if o then a else q))
        by_name true p q f = served_same N (free_in_state a)
        by_name false p q f = f
