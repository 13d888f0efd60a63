-- Terms, states and kept states of bytes without a fault of form.
use Rattle.std.proofs.Common.{◌≡◌, ◌∙◌, ◌+◌, ◌*◌, ◌<◌, ℕ, zero, suc, Bool, true, false, List, [], ◌∷◌, ◌++◌, length, drop, eqb, ap, ap₂, refl, sym, subst, arith, append_assoc, length-append}
use Rattle.std.specs.Prelude.{⊤, Some, None, Option, if◌then◌else◌, option_map, nat_lt}
use Rattle.std.specs.List.{AllByRecursion}
use Rattle.std.proofs.lemmas.Bool.{eqb-true}
use Rattle.std.proofs.lemmas.List.{append-nil}
use Rattle.stream_type.specs.StreamType.{StreamType}
use Rattle.hist_value.specs.HistExpr.{HistExpr}
use Rattle.core_term.specs.CoreTerm.{CoreTerm, CoreTerms, var_term, eps_term, unit_term, nil_term, past_term, par_term, cat_term, cons_term, inl_term, inr_term, let_term, let_par_term, let_cat_term, case_sum_term, case_star_term, wait_term, call_term, no_terms, term_before, term_count, node_count, node_counts}
use Rattle.delta_state.specs.StateTree.{Known, HeldName, LaterTree, StateTree, ArgumentTrees, sink, var_state, par_state, cat_state, let_state, let_par_state, let_cat_state, sum_state, star_state, wait_state, frame_state, no_arguments, argument_before, argument_names}
use Rattle.kept_state.specs.KeptBytes.{short_bytes, long_bytes, list_bytes, bool_bytes, type_bytes, prefix_bytes, value_bytes, expr_bytes, node_bytes, inside, term_bytes, terms_bytes, known_bytes, held_name_bytes, later_bytes, nodes_in_state, nodes_in_arguments, state_bytes, arguments_bytes}
use Rattle.kept_state.specs.KeptForm.{Kind, bool_kind, type_kind, prefix_kind, end_kind, value_kind, op_kind, expr_kind, term_kind, state_kind, Item, bool_item, type_item, prefix_item, value_item, expr_item, node_item, known_item, held_item, argument_item, Part, exactly, any, form, count, items, list_part, item_parts, forms_of, form_at, settle, after_byte, is_whole, go_on, fault_from, kept_parts}
use Rattle.kept_state.specs.KeptSizes.{FitsShort, FitsExpr, FitsTerm, FitsTerms, FitsKnown, FitsHeldName, FitsLater, FitsState, FitsArguments, IsShaped, IsShapedValue, IsShapedLater, IsShapedState, AreShapedArguments}
use Rattle.kept_state.specs.KeptBytes.{most_bytes}
use Rattle.kept_state.specs.KeptForm.{FormFault, bad_form, or_else, version_fault, later_parts}
use Rattle.kept_state.specs.Laws.{AllSpelled}
use Rattle.kept_state.proofs.SpelledParts.{AreBytes, Got, GotNode, GotArgument, GotKind, GotItem, Both, GotItems, GotCount, GotParts, MadeOf, TookList, take_name, take_long, take_type, take_expr, take_prefix, take_value, take_count, take_list, made_bool, made_type, made_op, made_expr, made_prefix, made_end, made_value}

-- what is left behind the first part
drop_first : (n : ℕ) (xs ys : List ℕ) → length xs ≡ n → drop n (xs ++ ys) ≡ ys
drop_first n [] ys e = ap (λ k. drop k ys) (sym e)
drop_first n (x ∷ xs) ys e = ap (λ k. drop k (x ∷ (xs ++ ys))) (sym e) ∙ drop_first (length xs) xs ys refl

-- the places of a second part, behind those of a first one
second_places : (n : ℕ) (ps qs more : List ℕ) → length ps ≡ n → drop n ((ps ++ qs) ++ more) ≡ qs ++ more
second_places n ps qs more e = ap (drop n) (append_assoc ps qs more) ∙ drop_first n ps (qs ++ more) e

-- the bytes of a node, where these are the places of it and of the nodes inside
abbrev node_at : CoreTerm → List ℕ → List ℕ
node_at e ps = node_bytes ps (term_bytes e (inside ps))

-- a node in front
record TookNode (ps : List Part) (bs : List ℕ) : Type 0 where
  term : CoreTerm
  places : List ℕ
  many : length places ≡ node_count term
  good : FitsTerm term
  rest : List ℕ
  is : (more : List ℕ) → bs ≡ node_at term (places ++ more) ++ rest
  more : GotParts ps rest

take_node : (ps : List Part) (bs : List ℕ) → GotParts (any 4 ∷ form term_kind ∷ ps) bs → TookNode ps bs
take_node ps bs h =
    let n = take_name (form term_kind ∷ ps) bs h in
    let t = n.more.first in
    record {
      term = t.term;
      places = n.value ∷ t.places;
      many = t.many;
      good = t.good;
      rest = n.more.rest;
      is = λ more. n.is ∙ (ap (λ x. short_bytes n.value ++ x) (n.more.split ∙ ap (λ x. x ++ n.more.rest) (sym (t.is more))) ∙ sym (append_assoc (short_bytes n.value) (term_bytes t.term (t.places ++ more)) n.more.rest));
      more = n.more.second;
    }

-- an item that is a node
got_node : (bs : List ℕ) → GotParts (any 4 ∷ form term_kind ∷ []) bs → GotNode bs
got_node bs h =
    let t = take_node [] bs h in
    record { term = t.term; places = t.places; many = t.many; good = t.good; is = λ more. sym (t.is more ∙ (ap (λ x. node_at t.term (t.places ++ more) ++ x) t.more ∙ append-nil (node_at t.term (t.places ++ more)))) }

-- the nodes of a call
record GotNodes (n : ℕ) (bs : List ℕ) : Type 0 where
  terms : CoreTerms
  places : List ℕ
  many : term_count terms ≡ n
  counted : length places ≡ node_counts terms
  good : FitsTerms terms
  is : (more : List ℕ) → terms_bytes terms (places ++ more) ≡ bs

got_nodes : (n : ℕ) (bs : List ℕ) → GotItems n node_item bs → GotNodes n bs
got_nodes zero bs h = record { terms = no_terms; places = []; many = refl; counted = refl; good = tt; is = λ more. sym h }
got_nodes (suc n) bs h =
    let a = h.first in
    let r = got_nodes n h.rest h.second in
    record {
      terms = term_before a.term r.terms;
      places = a.places ++ r.places;
      many = let e = r.many in omega (arith, e);
      counted = length-append a.places r.places ∙ ap₂ (λ i j. i + j) a.many r.counted;
      good = (a.good, r.good);
      is = λ more.
          ap₂ (λ x y. x ++ y) (ap (node_at a.term) (append_assoc a.places r.places more) ∙ a.is (r.places ++ more)) (ap (terms_bytes r.terms) (second_places (node_count a.term) a.places r.places more a.many) ∙ r.is more)
          ∙ sym h.split;
    }

-- the arguments of a frame
record GotArguments (n : ℕ) (bs : List ℕ) : Type 0 where
  args : ArgumentTrees
  places : List ℕ
  many : length (argument_names args) ≡ n
  counted : length places ≡ nodes_in_arguments args
  good : FitsArguments args
  shaped : AreShapedArguments args
  is : (more : List ℕ) → arguments_bytes args (places ++ more) ≡ bs

got_arguments : (n : ℕ) (bs : List ℕ) → GotItems n argument_item bs → GotArguments n bs
got_arguments zero bs h = record { args = no_arguments; places = []; many = refl; counted = refl; good = tt; shaped = tt; is = λ more. sym h }
got_arguments (suc n) bs h =
    let a = h.first in
    let r = got_arguments n h.rest h.second in
    record {
      args = argument_before a.name a.type a.state r.args;
      places = a.places ++ r.places;
      many = ap suc r.many;
      counted = length-append a.places r.places ∙ ap₂ (λ i j. i + j) a.many r.counted;
      good = (a.fits, a.good, r.good);
      shaped = (a.shaped, r.shaped);
      is = λ more.
          ap₂ (λ x y. x ++ y)
          (ap (λ ps. short_bytes a.name ++ (type_bytes a.type ++ state_bytes a.state ps)) (append_assoc a.places r.places more) ∙ a.is (r.places ++ more))
          (ap (arguments_bytes r.args) (second_places (nodes_in_state a.state) a.places r.places more a.many) ∙ r.is more)
          ∙ sym h.split;
    }

-- a name that has a value
got_known : (bs : List ℕ) → GotParts (any 4 ∷ form type_kind ∷ form value_kind ∷ []) bs → Got Known known_bytes (λ e. FitsKnown e × IsShapedValue e.value) bs
got_known bs h =
    let x = take_name (form type_kind ∷ form value_kind ∷ []) bs h in
    let t = take_type (form value_kind ∷ []) x.rest x.more in
    let v = take_value [] t.rest t.more in
    record {
      value = record { name = x.value; type = t.value; value = v.value };
      good = ((x.good, v.good.0), v.good.1);
      is = sym (x.is ∙ ap (λ y. short_bytes x.value ++ y) (t.is ∙ ap (λ y. type_bytes t.value ++ y) (v.is ∙ (ap (λ y. value_bytes v.value ++ y) v.more ∙ append-nil (value_bytes v.value)))));
    }

-- a name of which something is held
got_held : (bs : List ℕ) → GotParts (any 4 ∷ form type_kind ∷ form prefix_kind ∷ []) bs → Got HeldName held_name_bytes (λ h. FitsHeldName h × IsShaped h.prefix) bs
got_held bs h =
    let x = take_name (form type_kind ∷ form prefix_kind ∷ []) bs h in
    let t = take_type (form prefix_kind ∷ []) x.rest x.more in
    let p = take_prefix [] t.rest t.more in
    record {
      value = record { name = x.value; type = t.value; prefix = p.value };
      good = ((x.good, p.good.0), p.good.1);
      is = sym (x.is ∙ ap (λ y. short_bytes x.value ++ y) (t.is ∙ ap (λ y. type_bytes t.value ++ y) (p.is ∙ (ap (λ y. prefix_bytes p.value ++ y) p.more ∙ append-nil (prefix_bytes p.value)))));
    }

-- a parameter with its mark and its state
got_argument : (bs : List ℕ) → GotParts (any 4 ∷ form type_kind ∷ form state_kind ∷ []) bs → GotArgument bs
got_argument bs h =
    let x = take_name (form type_kind ∷ form state_kind ∷ []) bs h in
    let t = take_type (form state_kind ∷ []) x.rest x.more in
    let s = t.more.first in
    record {
      name = x.value;
      type = t.value;
      state = s.state;
      places = s.places;
      many = s.many;
      fits = x.good;
      good = s.good;
      shaped = s.shaped;
      is = λ more. sym (x.is ∙ ap (λ y. short_bytes x.value ++ y) (t.is ∙ ap (λ y. type_bytes t.value ++ y) (t.more.split ∙ (ap₂ (λ y z. y ++ z) (sym (s.is more)) t.more.second ∙ append-nil (state_bytes s.state (s.places ++ more))))));
    }

-- the one part that is awaited
alone : (P : List ℕ → Type 0) (bs : List ℕ) → Both P (GotParts []) bs → P bs
alone P bs h = subst P (sym (h.split ∙ (ap (λ x. h.front ++ x) h.second ∙ append-nil h.front))) h.first

-- an item of each kind
item_got : (item : Item) (bs : List ℕ) → GotParts (item_parts item) bs → GotItem item bs
item_got bool_item bs h = alone (GotKind bool_kind) bs h
item_got type_item bs h = alone (GotKind type_kind) bs h
item_got prefix_item bs h = alone (GotKind prefix_kind) bs h
item_got value_item bs h = alone (GotKind value_kind) bs h
item_got expr_item bs h = alone (GotKind expr_kind) bs h
item_got node_item bs h = got_node bs h
item_got known_item bs h = got_known bs h
item_got held_item bs h = got_held bs h
item_got argument_item bs h = got_argument bs h

-- code that isn't reached, in front
record TookLater (ps : List Part) (bs : List ℕ) : Type 0 where
  later : LaterTree
  places : List ℕ
  many : length places ≡ node_count later.term
  good : FitsLater later
  shaped : IsShapedLater later
  rest : List ℕ
  is : (more : List ℕ) → bs ≡ later_bytes later (places ++ more) ++ rest
  more : GotParts ps rest

-- the first and the second property of each thing
first_all : {A : Type 0} (P Q : A → Type 0) (xs : List A) → AllByRecursion (λ a. P a × Q a) xs → AllByRecursion P xs
first_all P Q [] h = tt
first_all P Q (x ∷ xs) h = (h.0.0, first_all P Q xs h.1)

second_all : {A : Type 0} (P Q : A → Type 0) (xs : List A) → AllByRecursion (λ a. P a × Q a) xs → AllByRecursion Q xs
second_all P Q [] h = tt
second_all P Q (x ∷ xs) h = (h.0.1, second_all P Q xs h.1)

take_later : (ps : List Part) (bs : List ℕ) → GotParts (later_parts ++ ps) bs → TookLater ps bs
take_later ps bs h =
    let n = take_node (list_part known_item ∷ any 8 ∷ ps) bs h in
    let l = take_list Known known_bytes (λ e. FitsKnown e × IsShapedValue e.value) known_item (λ x g. g) (any 8 ∷ ps) n.rest n.more in
    let d = take_long ps l.rest l.more in
    record {
      later = record { term = n.term; past = l.values; depth = d.value };
      places = n.places;
      many = n.many;
      good = (n.good, l.fits, first_all FitsKnown (λ e. IsShapedValue e.value) l.values l.good, d.good);
      shaped = second_all FitsKnown (λ e. IsShapedValue e.value) l.values l.good;
      rest = d.rest;
      is = λ more.
          n.is more
          ∙ (ap (λ x. node_at n.term (n.places ++ more) ++ x) (l.is ∙ (ap (λ x. list_bytes known_bytes l.values ++ x) d.is ∙ sym (append_assoc (list_bytes known_bytes l.values) (long_bytes d.value) d.rest)))
          ∙ sym (append_assoc (node_at n.term (n.places ++ more)) (list_bytes known_bytes l.values ++ long_bytes d.value) d.rest));
      more = d.more;
    }

-- what a form holds, in front
take_held : (ps : List Part) (bs : List ℕ) → GotParts (list_part held_item ∷ ps) bs → TookList HeldName held_name_bytes (λ h. FitsHeldName h × IsShaped h.prefix) ps bs
take_held ps bs h = take_list HeldName held_name_bytes (λ h. FitsHeldName h × IsShaped h.prefix) held_item (λ x g. g) ps bs h

-- a state in front
record TookState (ps : List Part) (bs : List ℕ) : Type 0 where
  state : StateTree
  places : List ℕ
  many : length places ≡ nodes_in_state state
  good : FitsState state
  shaped : IsShapedState state
  rest : List ℕ
  is : (more : List ℕ) → bs ≡ state_bytes state (places ++ more) ++ rest
  more : GotParts ps rest

take_state : (ps : List Part) (bs : List ℕ) → GotParts (form state_kind ∷ ps) bs → TookState ps bs
take_state ps bs h =
    record {
      state = h.first.state;
      places = h.first.places;
      many = h.first.many;
      good = h.first.good;
      shaped = h.first.shaped;
      rest = h.rest;
      is = λ more. h.split ∙ ap (λ x. x ++ h.rest) (sym (h.first.is more));
      more = h.second;
    }

-- terms
made_term : (b : ℕ) (bs : List ℕ) → MadeOf (form_at (forms_of term_kind) b) bs → GotKind term_kind (b ∷ bs)
made_term zero bs h =
    let t_x = take_name [] bs h in
    record {
      term = var_term t_x.value;
      places = [];
      many = refl;
      good = t_x.good;
      is = λ more. ap (λ x. 0 ∷ x) (sym (t_x.is ∙ (ap (λ x. (short_bytes t_x.value) ++ x) t_x.more ∙ append-nil (short_bytes t_x.value))));
    }
made_term (suc zero) bs h = record { term = eps_term; places = []; many = refl; good = tt; is = λ more. ap (λ x. 1 ∷ x) (sym h) }
made_term (suc (suc zero)) bs h = record { term = unit_term; places = []; many = refl; good = tt; is = λ more. ap (λ x. 2 ∷ x) (sym h) }
made_term (suc (suc (suc zero))) bs h =
    let t_m = take_expr [] bs h in
    record {
      term = past_term t_m.value;
      places = [];
      many = refl;
      good = t_m.good;
      is = λ more. ap (λ x. 3 ∷ x) (sym (t_m.is ∙ (ap (λ x. (expr_bytes t_m.value) ++ x) t_m.more ∙ append-nil (expr_bytes t_m.value))));
    }
made_term (suc (suc (suc (suc zero)))) bs h =
    let t_a = take_node (any 4 ∷ form term_kind ∷ []) bs h in
    let t_b = take_node [] t_a.rest t_a.more in
    record {
      term = par_term t_a.term t_b.term;
      places = t_a.places ++ t_b.places;
      many = let e = t_a.many in let f = t_b.many in let g = length-append t_a.places t_b.places in omega (arith, e, f, g);
      good = (t_a.good, t_b.good);
      is = λ more. ap (λ x. 4 ∷ x) (sym ((t_a.is (t_b.places ++ more) ∙ ap (λ ps. node_at t_a.term ps ++ t_a.rest) (sym (append_assoc t_a.places t_b.places more))) ∙ (ap (λ x. (node_at t_a.term ((t_a.places ++ t_b.places) ++ more)) ++ x) ((t_b.is more ∙ ap (λ ps. node_at t_b.term ps ++ t_b.rest) (sym (second_places (node_count t_a.term) t_a.places t_b.places more t_a.many))) ∙ (ap (λ x. (node_at t_b.term (drop (node_count t_a.term) ((t_a.places ++ t_b.places) ++ more))) ++ x) t_b.more ∙ append-nil (node_at t_b.term (drop (node_count t_a.term) ((t_a.places ++ t_b.places) ++ more))))))));
    }
made_term (suc (suc (suc (suc (suc zero))))) bs h =
    let t_a = take_node (any 4 ∷ form term_kind ∷ []) bs h in
    let t_b = take_node [] t_a.rest t_a.more in
    record {
      term = cat_term t_a.term t_b.term;
      places = t_a.places ++ t_b.places;
      many = let e = t_a.many in let f = t_b.many in let g = length-append t_a.places t_b.places in omega (arith, e, f, g);
      good = (t_a.good, t_b.good);
      is = λ more. ap (λ x. 5 ∷ x) (sym ((t_a.is (t_b.places ++ more) ∙ ap (λ ps. node_at t_a.term ps ++ t_a.rest) (sym (append_assoc t_a.places t_b.places more))) ∙ (ap (λ x. (node_at t_a.term ((t_a.places ++ t_b.places) ++ more)) ++ x) ((t_b.is more ∙ ap (λ ps. node_at t_b.term ps ++ t_b.rest) (sym (second_places (node_count t_a.term) t_a.places t_b.places more t_a.many))) ∙ (ap (λ x. (node_at t_b.term (drop (node_count t_a.term) ((t_a.places ++ t_b.places) ++ more))) ++ x) t_b.more ∙ append-nil (node_at t_b.term (drop (node_count t_a.term) ((t_a.places ++ t_b.places) ++ more))))))));
    }
made_term (suc (suc (suc (suc (suc (suc zero)))))) bs h =
    let t_a = take_node [] bs h in
    record {
      term = inl_term t_a.term;
      places = t_a.places;
      many = let e = t_a.many in omega (arith, e);
      good = t_a.good;
      is = λ more. ap (λ x. 6 ∷ x) (sym (t_a.is more ∙ (ap (λ x. (node_at t_a.term ((t_a.places) ++ more)) ++ x) t_a.more ∙ append-nil (node_at t_a.term ((t_a.places) ++ more)))));
    }
made_term (suc (suc (suc (suc (suc (suc (suc zero))))))) bs h =
    let t_a = take_node [] bs h in
    record {
      term = inr_term t_a.term;
      places = t_a.places;
      many = let e = t_a.many in omega (arith, e);
      good = t_a.good;
      is = λ more. ap (λ x. 7 ∷ x) (sym (t_a.is more ∙ (ap (λ x. (node_at t_a.term ((t_a.places) ++ more)) ++ x) t_a.more ∙ append-nil (node_at t_a.term ((t_a.places) ++ more)))));
    }
made_term (suc (suc (suc (suc (suc (suc (suc (suc zero)))))))) bs h = record { term = nil_term; places = []; many = refl; good = tt; is = λ more. ap (λ x. 8 ∷ x) (sym h) }
made_term (suc (suc (suc (suc (suc (suc (suc (suc (suc zero))))))))) bs h =
    let t_a = take_node (any 4 ∷ form term_kind ∷ []) bs h in
    let t_b = take_node [] t_a.rest t_a.more in
    record {
      term = cons_term t_a.term t_b.term;
      places = t_a.places ++ t_b.places;
      many = let e = t_a.many in let f = t_b.many in let g = length-append t_a.places t_b.places in omega (arith, e, f, g);
      good = (t_a.good, t_b.good);
      is = λ more. ap (λ x. 9 ∷ x) (sym ((t_a.is (t_b.places ++ more) ∙ ap (λ ps. node_at t_a.term ps ++ t_a.rest) (sym (append_assoc t_a.places t_b.places more))) ∙ (ap (λ x. (node_at t_a.term ((t_a.places ++ t_b.places) ++ more)) ++ x) ((t_b.is more ∙ ap (λ ps. node_at t_b.term ps ++ t_b.rest) (sym (second_places (node_count t_a.term) t_a.places t_b.places more t_a.many))) ∙ (ap (λ x. (node_at t_b.term (drop (node_count t_a.term) ((t_a.places ++ t_b.places) ++ more))) ++ x) t_b.more ∙ append-nil (node_at t_b.term (drop (node_count t_a.term) ((t_a.places ++ t_b.places) ++ more))))))));
    }
made_term (suc (suc (suc (suc (suc (suc (suc (suc (suc (suc zero)))))))))) bs h =
    let t_x = take_name (form type_kind ∷ any 4 ∷ form term_kind ∷ any 4 ∷ form term_kind ∷ []) bs h in
    let t_s = take_type (any 4 ∷ form term_kind ∷ any 4 ∷ form term_kind ∷ []) t_x.rest t_x.more in
    let t_a = take_node (any 4 ∷ form term_kind ∷ []) t_s.rest t_s.more in
    let t_b = take_node [] t_a.rest t_a.more in
    record {
      term = let_term t_x.value t_s.value t_a.term t_b.term;
      places = t_a.places ++ t_b.places;
      many = let e = t_a.many in let f = t_b.many in let g = length-append t_a.places t_b.places in omega (arith, e, f, g);
      good = (t_x.good, t_a.good, t_b.good);
      is = λ more. ap (λ x. 10 ∷ x) (sym (t_x.is ∙ (ap (λ x. (short_bytes t_x.value) ++ x) (t_s.is ∙ (ap (λ x. (type_bytes t_s.value) ++ x) ((t_a.is (t_b.places ++ more) ∙ ap (λ ps. node_at t_a.term ps ++ t_a.rest) (sym (append_assoc t_a.places t_b.places more))) ∙ (ap (λ x. (node_at t_a.term ((t_a.places ++ t_b.places) ++ more)) ++ x) ((t_b.is more ∙ ap (λ ps. node_at t_b.term ps ++ t_b.rest) (sym (second_places (node_count t_a.term) t_a.places t_b.places more t_a.many))) ∙ (ap (λ x. (node_at t_b.term (drop (node_count t_a.term) ((t_a.places ++ t_b.places) ++ more))) ++ x) t_b.more ∙ append-nil (node_at t_b.term (drop (node_count t_a.term) ((t_a.places ++ t_b.places) ++ more))))))))))));
    }
made_term (suc (suc (suc (suc (suc (suc (suc (suc (suc (suc (suc zero))))))))))) bs h =
    let t_x = take_name (any 4 ∷ any 4 ∷ any 4 ∷ form term_kind ∷ []) bs h in
    let t_y = take_name (any 4 ∷ any 4 ∷ form term_kind ∷ []) t_x.rest t_x.more in
    let t_z = take_name (any 4 ∷ form term_kind ∷ []) t_y.rest t_y.more in
    let t_a = take_node [] t_z.rest t_z.more in
    record {
      term = let_par_term t_x.value t_y.value t_z.value t_a.term;
      places = t_a.places;
      many = let e = t_a.many in omega (arith, e);
      good = (t_x.good, t_y.good, t_z.good, t_a.good);
      is = λ more. ap (λ x. 11 ∷ x) (sym (t_x.is ∙ (ap (λ x. (short_bytes t_x.value) ++ x) (t_y.is ∙ (ap (λ x. (short_bytes t_y.value) ++ x) (t_z.is ∙ (ap (λ x. (short_bytes t_z.value) ++ x) (t_a.is more ∙ (ap (λ x. (node_at t_a.term ((t_a.places) ++ more)) ++ x) t_a.more ∙ append-nil (node_at t_a.term ((t_a.places) ++ more)))))))))));
    }
made_term (suc (suc (suc (suc (suc (suc (suc (suc (suc (suc (suc (suc zero)))))))))))) bs h =
    let t_x = take_name (any 4 ∷ any 4 ∷ any 4 ∷ form term_kind ∷ []) bs h in
    let t_y = take_name (any 4 ∷ any 4 ∷ form term_kind ∷ []) t_x.rest t_x.more in
    let t_z = take_name (any 4 ∷ form term_kind ∷ []) t_y.rest t_y.more in
    let t_a = take_node [] t_z.rest t_z.more in
    record {
      term = let_cat_term t_x.value t_y.value t_z.value t_a.term;
      places = t_a.places;
      many = let e = t_a.many in omega (arith, e);
      good = (t_x.good, t_y.good, t_z.good, t_a.good);
      is = λ more. ap (λ x. 12 ∷ x) (sym (t_x.is ∙ (ap (λ x. (short_bytes t_x.value) ++ x) (t_y.is ∙ (ap (λ x. (short_bytes t_y.value) ++ x) (t_z.is ∙ (ap (λ x. (short_bytes t_z.value) ++ x) (t_a.is more ∙ (ap (λ x. (node_at t_a.term ((t_a.places) ++ more)) ++ x) t_a.more ∙ append-nil (node_at t_a.term ((t_a.places) ++ more)))))))))));
    }
made_term (suc (suc (suc (suc (suc (suc (suc (suc (suc (suc (suc (suc (suc zero))))))))))))) bs h =
    let t_z = take_name (form type_kind ∷ any 4 ∷ any 4 ∷ form term_kind ∷ any 4 ∷ any 4 ∷ form term_kind ∷ []) bs h in
    let t_t = take_type (any 4 ∷ any 4 ∷ form term_kind ∷ any 4 ∷ any 4 ∷ form term_kind ∷ []) t_z.rest t_z.more in
    let t_x = take_name (any 4 ∷ form term_kind ∷ any 4 ∷ any 4 ∷ form term_kind ∷ []) t_t.rest t_t.more in
    let t_a = take_node (any 4 ∷ any 4 ∷ form term_kind ∷ []) t_x.rest t_x.more in
    let t_y = take_name (any 4 ∷ form term_kind ∷ []) t_a.rest t_a.more in
    let t_b = take_node [] t_y.rest t_y.more in
    record {
      term = case_sum_term t_z.value t_t.value t_x.value t_a.term t_y.value t_b.term;
      places = t_a.places ++ t_b.places;
      many = let e = t_a.many in let f = t_b.many in let g = length-append t_a.places t_b.places in omega (arith, e, f, g);
      good = (t_z.good, t_x.good, t_a.good, t_y.good, t_b.good);
      is = λ more. ap (λ x. 13 ∷ x) (sym (t_z.is ∙ (ap (λ x. (short_bytes t_z.value) ++ x) (t_t.is ∙ (ap (λ x. (type_bytes t_t.value) ++ x) (t_x.is ∙ (ap (λ x. (short_bytes t_x.value) ++ x) ((t_a.is (t_b.places ++ more) ∙ ap (λ ps. node_at t_a.term ps ++ t_a.rest) (sym (append_assoc t_a.places t_b.places more))) ∙ (ap (λ x. (node_at t_a.term ((t_a.places ++ t_b.places) ++ more)) ++ x) (t_y.is ∙ (ap (λ x. (short_bytes t_y.value) ++ x) ((t_b.is more ∙ ap (λ ps. node_at t_b.term ps ++ t_b.rest) (sym (second_places (node_count t_a.term) t_a.places t_b.places more t_a.many))) ∙ (ap (λ x. (node_at t_b.term (drop (node_count t_a.term) ((t_a.places ++ t_b.places) ++ more))) ++ x) t_b.more ∙ append-nil (node_at t_b.term (drop (node_count t_a.term) ((t_a.places ++ t_b.places) ++ more))))))))))))))));
    }
made_term (suc (suc (suc (suc (suc (suc (suc (suc (suc (suc (suc (suc (suc (suc zero)))))))))))))) bs h =
    let t_z = take_name (form type_kind ∷ any 4 ∷ form term_kind ∷ any 4 ∷ any 4 ∷ any 4 ∷ form term_kind ∷ []) bs h in
    let t_t = take_type (any 4 ∷ form term_kind ∷ any 4 ∷ any 4 ∷ any 4 ∷ form term_kind ∷ []) t_z.rest t_z.more in
    let t_a = take_node (any 4 ∷ any 4 ∷ any 4 ∷ form term_kind ∷ []) t_t.rest t_t.more in
    let t_y = take_name (any 4 ∷ any 4 ∷ form term_kind ∷ []) t_a.rest t_a.more in
    let t_ys = take_name (any 4 ∷ form term_kind ∷ []) t_y.rest t_y.more in
    let t_b = take_node [] t_ys.rest t_ys.more in
    record {
      term = case_star_term t_z.value t_t.value t_a.term t_y.value t_ys.value t_b.term;
      places = t_a.places ++ t_b.places;
      many = let e = t_a.many in let f = t_b.many in let g = length-append t_a.places t_b.places in omega (arith, e, f, g);
      good = (t_z.good, t_a.good, t_y.good, t_ys.good, t_b.good);
      is = λ more. ap (λ x. 14 ∷ x) (sym (t_z.is ∙ (ap (λ x. (short_bytes t_z.value) ++ x) (t_t.is ∙ (ap (λ x. (type_bytes t_t.value) ++ x) ((t_a.is (t_b.places ++ more) ∙ ap (λ ps. node_at t_a.term ps ++ t_a.rest) (sym (append_assoc t_a.places t_b.places more))) ∙ (ap (λ x. (node_at t_a.term ((t_a.places ++ t_b.places) ++ more)) ++ x) (t_y.is ∙ (ap (λ x. (short_bytes t_y.value) ++ x) (t_ys.is ∙ (ap (λ x. (short_bytes t_ys.value) ++ x) ((t_b.is more ∙ ap (λ ps. node_at t_b.term ps ++ t_b.rest) (sym (second_places (node_count t_a.term) t_a.places t_b.places more t_a.many))) ∙ (ap (λ x. (node_at t_b.term (drop (node_count t_a.term) ((t_a.places ++ t_b.places) ++ more))) ++ x) t_b.more ∙ append-nil (node_at t_b.term (drop (node_count t_a.term) ((t_a.places ++ t_b.places) ++ more))))))))))))))));
    }
made_term (suc (suc (suc (suc (suc (suc (suc (suc (suc (suc (suc (suc (suc (suc (suc zero))))))))))))))) bs h =
    let t_x = take_name (form type_kind ∷ any 4 ∷ form term_kind ∷ []) bs h in
    let t_t = take_type (any 4 ∷ form term_kind ∷ []) t_x.rest t_x.more in
    let t_a = take_node [] t_t.rest t_t.more in
    record {
      term = wait_term t_x.value t_t.value t_a.term;
      places = t_a.places;
      many = let e = t_a.many in omega (arith, e);
      good = (t_x.good, t_a.good);
      is = λ more. ap (λ x. 15 ∷ x) (sym (t_x.is ∙ (ap (λ x. (short_bytes t_x.value) ++ x) (t_t.is ∙ (ap (λ x. (type_bytes t_t.value) ++ x) (t_a.is more ∙ (ap (λ x. (node_at t_a.term ((t_a.places) ++ more)) ++ x) t_a.more ∙ append-nil (node_at t_a.term ((t_a.places) ++ more)))))))));
    }
made_term (suc (suc (suc (suc (suc (suc (suc (suc (suc (suc (suc (suc (suc (suc (suc (suc zero)))))))))))))))) bs h =
    let t_f = take_name (list_part expr_item ∷ list_part node_item ∷ []) bs h in
    let t_ms = take_list HistExpr expr_bytes FitsExpr expr_item (λ x g. g) (list_part node_item ∷ []) t_f.rest t_f.more in
    let c_es = take_count node_item [] t_ms.rest t_ms.more in
    let t_es = got_nodes c_es.number c_es.mid c_es.each in
    record {
      term = call_term t_f.value t_ms.values t_es.terms;
      places = t_es.places;
      many = let e = t_es.counted in omega (arith, e);
      good = (t_f.good, (t_ms.fits, t_ms.good), subst FitsShort (sym t_es.many) c_es.fits, t_es.good);
      is = λ more. ap (λ x. 16 ∷ x) (sym (t_f.is ∙ (ap (λ x. (short_bytes t_f.value) ++ x) (t_ms.is ∙ (ap (λ x. (list_bytes expr_bytes t_ms.values) ++ x) (c_es.is ∙ (ap (λ x. short_bytes c_es.number ++ (c_es.mid ++ x)) c_es.more ∙ (ap (λ x. short_bytes c_es.number ++ x) (append-nil c_es.mid) ∙ ap₂ (λ n x. short_bytes n ++ x) (sym t_es.many) (sym (t_es.is more))))))))));
    }
made_term _ bs h = absurd h

-- states
made_state : (b : ℕ) (bs : List ℕ) → MadeOf (form_at (forms_of state_kind) b) bs → GotKind state_kind (b ∷ bs)
made_state zero bs h =
    let t_t = take_type [] bs h in
    record {
      state = sink t_t.value;
      places = [];
      many = refl;
      good = tt;
      shaped = tt;
      is = λ more. ap (λ x. 0 ∷ x) (sym (t_t.is ∙ (ap (λ x. (type_bytes t_t.value) ++ x) t_t.more ∙ append-nil (type_bytes t_t.value))));
    }
made_state (suc zero) bs h =
    let t_x = take_name [] bs h in
    record {
      state = var_state t_x.value;
      places = [];
      many = refl;
      good = t_x.good;
      shaped = tt;
      is = λ more. ap (λ x. 1 ∷ x) (sym (t_x.is ∙ (ap (λ x. (short_bytes t_x.value) ++ x) t_x.more ∙ append-nil (short_bytes t_x.value))));
    }
made_state (suc (suc zero)) bs h =
    let t_a = take_state (form state_kind ∷ []) bs h in
    let t_b = take_state [] t_a.rest t_a.more in
    record {
      state = par_state t_a.state t_b.state;
      places = t_a.places ++ t_b.places;
      many = length-append t_a.places t_b.places ∙ ap₂ (λ i j. i + j) t_a.many t_b.many;
      good = (t_a.good, t_b.good);
      shaped = (t_a.shaped, t_b.shaped);
      is = λ more. ap (λ x. 2 ∷ x) (sym ((t_a.is (t_b.places ++ more) ∙ ap (λ ps. state_bytes t_a.state ps ++ t_a.rest) (sym (append_assoc t_a.places t_b.places more))) ∙ (ap (λ x. (state_bytes t_a.state ((t_a.places ++ t_b.places) ++ more)) ++ x) ((t_b.is more ∙ ap (λ ps. state_bytes t_b.state ps ++ t_b.rest) (sym (second_places (nodes_in_state t_a.state) t_a.places t_b.places more t_a.many))) ∙ (ap (λ x. (state_bytes t_b.state (drop (nodes_in_state t_a.state) ((t_a.places ++ t_b.places) ++ more))) ++ x) t_b.more ∙ append-nil (state_bytes t_b.state (drop (nodes_in_state t_a.state) ((t_a.places ++ t_b.places) ++ more))))))));
    }
made_state (suc (suc (suc zero))) bs h =
    let t_a = take_state (any 4 ∷ form term_kind ∷ list_part known_item ∷ any 8 ∷ []) bs h in
    let t_l = take_later [] t_a.rest t_a.more in
    record {
      state = cat_state t_a.state t_l.later;
      places = t_a.places ++ t_l.places;
      many = length-append t_a.places t_l.places ∙ ap₂ (λ i j. i + j) t_a.many t_l.many;
      good = (t_a.good, t_l.good);
      shaped = (t_a.shaped, t_l.shaped);
      is = λ more. ap (λ x. 3 ∷ x) (sym ((t_a.is (t_l.places ++ more) ∙ ap (λ ps. state_bytes t_a.state ps ++ t_a.rest) (sym (append_assoc t_a.places t_l.places more))) ∙ (ap (λ x. (state_bytes t_a.state ((t_a.places ++ t_l.places) ++ more)) ++ x) ((t_l.is more ∙ ap (λ ps. later_bytes t_l.later ps ++ t_l.rest) (sym (second_places (nodes_in_state t_a.state) t_a.places t_l.places more t_a.many))) ∙ (ap (λ x. (later_bytes t_l.later (drop (nodes_in_state t_a.state) ((t_a.places ++ t_l.places) ++ more))) ++ x) t_l.more ∙ append-nil (later_bytes t_l.later (drop (nodes_in_state t_a.state) ((t_a.places ++ t_l.places) ++ more))))))));
    }
made_state (suc (suc (suc (suc zero)))) bs h =
    let t_x = take_name (form type_kind ∷ form state_kind ∷ form state_kind ∷ []) bs h in
    let t_s = take_type (form state_kind ∷ form state_kind ∷ []) t_x.rest t_x.more in
    let t_a = take_state (form state_kind ∷ []) t_s.rest t_s.more in
    let t_b = take_state [] t_a.rest t_a.more in
    record {
      state = let_state t_x.value t_s.value t_a.state t_b.state;
      places = t_a.places ++ t_b.places;
      many = length-append t_a.places t_b.places ∙ ap₂ (λ i j. i + j) t_a.many t_b.many;
      good = (t_x.good, t_a.good, t_b.good);
      shaped = (t_a.shaped, t_b.shaped);
      is = λ more. ap (λ x. 4 ∷ x) (sym (t_x.is ∙ (ap (λ x. (short_bytes t_x.value) ++ x) (t_s.is ∙ (ap (λ x. (type_bytes t_s.value) ++ x) ((t_a.is (t_b.places ++ more) ∙ ap (λ ps. state_bytes t_a.state ps ++ t_a.rest) (sym (append_assoc t_a.places t_b.places more))) ∙ (ap (λ x. (state_bytes t_a.state ((t_a.places ++ t_b.places) ++ more)) ++ x) ((t_b.is more ∙ ap (λ ps. state_bytes t_b.state ps ++ t_b.rest) (sym (second_places (nodes_in_state t_a.state) t_a.places t_b.places more t_a.many))) ∙ (ap (λ x. (state_bytes t_b.state (drop (nodes_in_state t_a.state) ((t_a.places ++ t_b.places) ++ more))) ++ x) t_b.more ∙ append-nil (state_bytes t_b.state (drop (nodes_in_state t_a.state) ((t_a.places ++ t_b.places) ++ more))))))))))));
    }
made_state (suc (suc (suc (suc (suc zero))))) bs h =
    let t_x = take_name (any 4 ∷ any 4 ∷ form state_kind ∷ []) bs h in
    let t_y = take_name (any 4 ∷ form state_kind ∷ []) t_x.rest t_x.more in
    let t_z = take_name (form state_kind ∷ []) t_y.rest t_y.more in
    let t_a = take_state [] t_z.rest t_z.more in
    record {
      state = let_par_state t_x.value t_y.value t_z.value t_a.state;
      places = t_a.places;
      many = t_a.many;
      good = (t_x.good, t_y.good, t_z.good, t_a.good);
      shaped = t_a.shaped;
      is = λ more. ap (λ x. 5 ∷ x) (sym (t_x.is ∙ (ap (λ x. (short_bytes t_x.value) ++ x) (t_y.is ∙ (ap (λ x. (short_bytes t_y.value) ++ x) (t_z.is ∙ (ap (λ x. (short_bytes t_z.value) ++ x) (t_a.is more ∙ (ap (λ x. (state_bytes t_a.state ((t_a.places) ++ more)) ++ x) t_a.more ∙ append-nil (state_bytes t_a.state ((t_a.places) ++ more)))))))))));
    }
made_state (suc (suc (suc (suc (suc (suc zero)))))) bs h =
    let t_x = take_name (any 4 ∷ any 4 ∷ form state_kind ∷ []) bs h in
    let t_y = take_name (any 4 ∷ form state_kind ∷ []) t_x.rest t_x.more in
    let t_z = take_name (form state_kind ∷ []) t_y.rest t_y.more in
    let t_a = take_state [] t_z.rest t_z.more in
    record {
      state = let_cat_state t_x.value t_y.value t_z.value t_a.state;
      places = t_a.places;
      many = t_a.many;
      good = (t_x.good, t_y.good, t_z.good, t_a.good);
      shaped = t_a.shaped;
      is = λ more. ap (λ x. 6 ∷ x) (sym (t_x.is ∙ (ap (λ x. (short_bytes t_x.value) ++ x) (t_y.is ∙ (ap (λ x. (short_bytes t_y.value) ++ x) (t_z.is ∙ (ap (λ x. (short_bytes t_z.value) ++ x) (t_a.is more ∙ (ap (λ x. (state_bytes t_a.state ((t_a.places) ++ more)) ++ x) t_a.more ∙ append-nil (state_bytes t_a.state ((t_a.places) ++ more)))))))))));
    }
made_state (suc (suc (suc (suc (suc (suc (suc zero))))))) bs h =
    let t_z = take_name (form type_kind ∷ list_part held_item ∷ any 4 ∷ any 4 ∷ form term_kind ∷ list_part known_item ∷ any 8 ∷ any 4 ∷ any 4 ∷ form term_kind ∷ list_part known_item ∷ any 8 ∷ []) bs h in
    let t_t = take_type (list_part held_item ∷ any 4 ∷ any 4 ∷ form term_kind ∷ list_part known_item ∷ any 8 ∷ any 4 ∷ any 4 ∷ form term_kind ∷ list_part known_item ∷ any 8 ∷ []) t_z.rest t_z.more in
    let t_held = take_held (any 4 ∷ any 4 ∷ form term_kind ∷ list_part known_item ∷ any 8 ∷ any 4 ∷ any 4 ∷ form term_kind ∷ list_part known_item ∷ any 8 ∷ []) t_t.rest t_t.more in
    let t_x = take_name (any 4 ∷ form term_kind ∷ list_part known_item ∷ any 8 ∷ any 4 ∷ any 4 ∷ form term_kind ∷ list_part known_item ∷ any 8 ∷ []) t_held.rest t_held.more in
    let t_l = take_later (any 4 ∷ any 4 ∷ form term_kind ∷ list_part known_item ∷ any 8 ∷ []) t_x.rest t_x.more in
    let t_y = take_name (any 4 ∷ form term_kind ∷ list_part known_item ∷ any 8 ∷ []) t_l.rest t_l.more in
    let t_m = take_later [] t_y.rest t_y.more in
    record {
      state = sum_state t_z.value t_t.value t_held.values t_x.value t_l.later t_y.value t_m.later;
      places = t_l.places ++ t_m.places;
      many = length-append t_l.places t_m.places ∙ ap₂ (λ i j. i + j) t_l.many t_m.many;
      good = (t_z.good, (t_held.fits, first_all FitsHeldName (λ h. IsShaped h.prefix) t_held.values t_held.good), t_x.good, t_l.good, t_y.good, t_m.good);
      shaped = (second_all FitsHeldName (λ h. IsShaped h.prefix) t_held.values t_held.good, t_l.shaped, t_m.shaped);
      is = λ more. ap (λ x. 7 ∷ x) (sym (t_z.is ∙ (ap (λ x. (short_bytes t_z.value) ++ x) (t_t.is ∙ (ap (λ x. (type_bytes t_t.value) ++ x) (t_held.is ∙ (ap (λ x. (list_bytes held_name_bytes t_held.values) ++ x) (t_x.is ∙ (ap (λ x. (short_bytes t_x.value) ++ x) ((t_l.is (t_m.places ++ more) ∙ ap (λ ps. later_bytes t_l.later ps ++ t_l.rest) (sym (append_assoc t_l.places t_m.places more))) ∙ (ap (λ x. (later_bytes t_l.later ((t_l.places ++ t_m.places) ++ more)) ++ x) (t_y.is ∙ (ap (λ x. (short_bytes t_y.value) ++ x) ((t_m.is more ∙ ap (λ ps. later_bytes t_m.later ps ++ t_m.rest) (sym (second_places (node_count t_l.later.term) t_l.places t_m.places more t_l.many))) ∙ (ap (λ x. (later_bytes t_m.later (drop (node_count t_l.later.term) ((t_l.places ++ t_m.places) ++ more))) ++ x) t_m.more ∙ append-nil (later_bytes t_m.later (drop (node_count t_l.later.term) ((t_l.places ++ t_m.places) ++ more))))))))))))))))));
    }
made_state (suc (suc (suc (suc (suc (suc (suc (suc zero)))))))) bs h =
    let t_z = take_name (form type_kind ∷ list_part held_item ∷ any 4 ∷ form term_kind ∷ list_part known_item ∷ any 8 ∷ any 4 ∷ any 4 ∷ any 4 ∷ form term_kind ∷ list_part known_item ∷ any 8 ∷ []) bs h in
    let t_t = take_type (list_part held_item ∷ any 4 ∷ form term_kind ∷ list_part known_item ∷ any 8 ∷ any 4 ∷ any 4 ∷ any 4 ∷ form term_kind ∷ list_part known_item ∷ any 8 ∷ []) t_z.rest t_z.more in
    let t_held = take_held (any 4 ∷ form term_kind ∷ list_part known_item ∷ any 8 ∷ any 4 ∷ any 4 ∷ any 4 ∷ form term_kind ∷ list_part known_item ∷ any 8 ∷ []) t_t.rest t_t.more in
    let t_l = take_later (any 4 ∷ any 4 ∷ any 4 ∷ form term_kind ∷ list_part known_item ∷ any 8 ∷ []) t_held.rest t_held.more in
    let t_y = take_name (any 4 ∷ any 4 ∷ form term_kind ∷ list_part known_item ∷ any 8 ∷ []) t_l.rest t_l.more in
    let t_ys = take_name (any 4 ∷ form term_kind ∷ list_part known_item ∷ any 8 ∷ []) t_y.rest t_y.more in
    let t_m = take_later [] t_ys.rest t_ys.more in
    record {
      state = star_state t_z.value t_t.value t_held.values t_l.later t_y.value t_ys.value t_m.later;
      places = t_l.places ++ t_m.places;
      many = length-append t_l.places t_m.places ∙ ap₂ (λ i j. i + j) t_l.many t_m.many;
      good = (t_z.good, (t_held.fits, first_all FitsHeldName (λ h. IsShaped h.prefix) t_held.values t_held.good), t_l.good, t_y.good, t_ys.good, t_m.good);
      shaped = (second_all FitsHeldName (λ h. IsShaped h.prefix) t_held.values t_held.good, t_l.shaped, t_m.shaped);
      is = λ more. ap (λ x. 8 ∷ x) (sym (t_z.is ∙ (ap (λ x. (short_bytes t_z.value) ++ x) (t_t.is ∙ (ap (λ x. (type_bytes t_t.value) ++ x) (t_held.is ∙ (ap (λ x. (list_bytes held_name_bytes t_held.values) ++ x) ((t_l.is (t_m.places ++ more) ∙ ap (λ ps. later_bytes t_l.later ps ++ t_l.rest) (sym (append_assoc t_l.places t_m.places more))) ∙ (ap (λ x. (later_bytes t_l.later ((t_l.places ++ t_m.places) ++ more)) ++ x) (t_y.is ∙ (ap (λ x. (short_bytes t_y.value) ++ x) (t_ys.is ∙ (ap (λ x. (short_bytes t_ys.value) ++ x) ((t_m.is more ∙ ap (λ ps. later_bytes t_m.later ps ++ t_m.rest) (sym (second_places (node_count t_l.later.term) t_l.places t_m.places more t_l.many))) ∙ (ap (λ x. (later_bytes t_m.later (drop (node_count t_l.later.term) ((t_l.places ++ t_m.places) ++ more))) ++ x) t_m.more ∙ append-nil (later_bytes t_m.later (drop (node_count t_l.later.term) ((t_l.places ++ t_m.places) ++ more))))))))))))))))));
    }
made_state (suc (suc (suc (suc (suc (suc (suc (suc (suc zero))))))))) bs h =
    let t_x = take_name (form type_kind ∷ list_part held_item ∷ any 4 ∷ form term_kind ∷ list_part known_item ∷ any 8 ∷ []) bs h in
    let t_t = take_type (list_part held_item ∷ any 4 ∷ form term_kind ∷ list_part known_item ∷ any 8 ∷ []) t_x.rest t_x.more in
    let t_held = take_held (any 4 ∷ form term_kind ∷ list_part known_item ∷ any 8 ∷ []) t_t.rest t_t.more in
    let t_l = take_later [] t_held.rest t_held.more in
    record {
      state = wait_state t_x.value t_t.value t_held.values t_l.later;
      places = t_l.places;
      many = t_l.many;
      good = (t_x.good, (t_held.fits, first_all FitsHeldName (λ h. IsShaped h.prefix) t_held.values t_held.good), t_l.good);
      shaped = (second_all FitsHeldName (λ h. IsShaped h.prefix) t_held.values t_held.good, t_l.shaped);
      is = λ more. ap (λ x. 9 ∷ x) (sym (t_x.is ∙ (ap (λ x. (short_bytes t_x.value) ++ x) (t_t.is ∙ (ap (λ x. (type_bytes t_t.value) ++ x) (t_held.is ∙ (ap (λ x. (list_bytes held_name_bytes t_held.values) ++ x) (t_l.is more ∙ (ap (λ x. (later_bytes t_l.later ((t_l.places) ++ more)) ++ x) t_l.more ∙ append-nil (later_bytes t_l.later ((t_l.places) ++ more)))))))))));
    }
made_state (suc (suc (suc (suc (suc (suc (suc (suc (suc (suc zero)))))))))) bs h =
    let c_args = take_count argument_item (form state_kind ∷ []) bs h in
    let t_args = got_arguments c_args.number c_args.mid c_args.each in
    let t_s = take_state [] c_args.rest c_args.more in
    record {
      state = frame_state t_args.args t_s.state;
      places = t_args.places ++ t_s.places;
      many = length-append t_args.places t_s.places ∙ ap₂ (λ i j. i + j) t_args.counted t_s.many;
      good = (subst FitsShort (sym t_args.many) c_args.fits, t_args.good, t_s.good);
      shaped = (t_args.shaped, t_s.shaped);
      is = λ more. ap (λ x. 10 ∷ x) (sym (c_args.is ∙ (sym (append_assoc (short_bytes c_args.number) c_args.mid c_args.rest) ∙ ap₂ (λ x y. x ++ y) (ap₂ (λ n x. short_bytes n ++ x) (sym t_args.many) (sym (ap (arguments_bytes t_args.args) (append_assoc t_args.places t_s.places more) ∙ t_args.is (t_s.places ++ more)))) ((t_s.is more ∙ ap (λ ps. state_bytes t_s.state ps ++ t_s.rest) (sym (second_places (nodes_in_arguments t_args.args) t_args.places t_s.places more t_args.counted))) ∙ (ap (λ x. (state_bytes t_s.state (drop (nodes_in_arguments t_args.args) ((t_args.places ++ t_s.places) ++ more))) ++ x) t_s.more ∙ append-nil (state_bytes t_s.state (drop (nodes_in_arguments t_args.args) ((t_args.places ++ t_s.places) ++ more))))))));
    }
made_state _ bs h = absurd h

-- what begins with a byte of a kind
made : (kind : Kind) (b : ℕ) (bs : List ℕ) → MadeOf (form_at (forms_of kind) b) bs → GotKind kind (b ∷ bs)
made bool_kind b bs h = made_bool b bs h
made type_kind b bs h = made_type b bs h
made prefix_kind b bs h = made_prefix b bs h
made end_kind b bs h = made_end b bs h
made value_kind b bs h = made_value b bs h
made op_kind b bs h = made_op b bs h
made expr_kind b bs h = made_expr b bs h
made term_kind b bs h = made_term b bs h
made state_kind b bs h = made_state b bs h

-- some parts in front, and those behind them
parts_split : (ps qs : List Part) (bs : List ℕ) → GotParts (ps ++ qs) bs → Both (GotParts ps) (GotParts qs) bs
parts_split [] qs bs h = record { front = []; rest = bs; split = refl; first = refl; second = h }
parts_split (p ∷ ps) qs bs h =
    let r = parts_split ps qs h.rest h.second in
    record {
      front = h.front ++ r.front;
      rest = r.rest;
      split = h.split ∙ (ap (λ x. h.front ++ x) r.split ∙ sym (append_assoc h.front r.front r.rest));
      first = record { front = h.front; rest = r.front; split = refl; first = h.first; second = r.first };
      second = r.second;
    }

-- nothing in front
nothing : (P : List ℕ → Type 0) (ps : List Part) (bs : List ℕ) → P [] → GotParts ps bs → Both P (GotParts ps) bs
nothing P ps bs h k = record { front = []; rest = bs; split = refl; first = h; second = k }

-- an item opened
opened : (item : Item) (n : ℕ) (ps : List Part) (bs : List ℕ) → GotParts (item_parts item ++ items n item ∷ ps) bs → Both (GotItems (suc n) item) (GotParts ps) bs
opened item n ps bs h =
    let r = parts_split (item_parts item) (items n item ∷ ps) bs h in
    let s = r.second in
    record {
      front = r.front ++ s.front;
      rest = s.rest;
      split = r.split ∙ (ap (λ x. r.front ++ x) s.split ∙ sym (append_assoc r.front s.front s.rest));
      first = record { front = r.front; rest = s.front; split = refl; first = item_got item r.front r.first; second = s.first };
      second = s.second;
    }

-- a count that is whole, and its items
counted : (n : ℕ) (item : Item) (bs : List ℕ) → GotItems n item bs → GotCount 0 n item bs
counted n item bs h = record { front = []; rest = bs; split = refl; many = refl; bytes = tt; each = h }

-- what is awaited with a part in front that has a byte is what was awaited
unsettled : (ps : List Part) (bs : List ℕ) → GotParts (settle ps) bs → GotParts ps bs
unsettled [] bs h = h
unsettled (exactly b ∷ ps) bs h = h
unsettled (any zero ∷ ps) bs h = nothing (λ x. (length x ≡ 0) × AreBytes x) ps bs (refl, tt) (unsettled ps bs h)
unsettled (any (suc k) ∷ ps) bs h = h
unsettled (form kind ∷ ps) bs h = h
unsettled (count zero zero item ∷ ps) bs h = nothing (GotCount 0 0 item) ps bs (counted 0 item [] refl) (unsettled ps bs h)
unsettled (count zero (suc n) item ∷ ps) bs h =
    let r = opened item n ps bs h in
    record { front = r.front; rest = r.rest; split = r.split; first = counted (suc n) item r.front r.first; second = r.second }
unsettled (count (suc k) seen item ∷ ps) bs h = h
unsettled (items zero item ∷ ps) bs h = nothing (GotItems 0 item) ps bs refl (unsettled ps bs h)
unsettled (items (suc n) item ∷ ps) bs h = opened item n ps bs h

-- of an option that is something
some_same : {A : Type 0} (a b : A) → Some a ≡ Some b → a ≡ b
some_same a b e = cc

-- the fields that follow a byte of a form
form_step : (kind : Kind) (ps : List Part) (b : ℕ) (next : List Part) (bs : List ℕ) (o : Option (List Part)) → form_at (forms_of kind) b ≡ o → option_map (λ fields. fields ++ ps) o ≡ Some next → GotParts next bs → Both (GotKind kind) (GotParts ps) (b ∷ bs)
form_step kind ps b next bs None f e h = absurd (let none : ⊥ = cc in none)
form_step kind ps b next bs (Some fields) f e h =
    let r = parts_split fields ps bs (subst (λ n. GotParts n bs) (sym (some_same (fields ++ ps) next e)) h) in
    record { front = b ∷ r.front; rest = r.rest; split = ap (λ x. b ∷ x) r.split; first = made kind b r.front (subst (λ o. MadeOf o r.front) (sym f) r.first); second = r.second }

-- the byte that is awaited
byte_step : (c : ℕ) (ps : List Part) (b : ℕ) (next : List Part) (bs : List ℕ) (t : Bool) → eqb b c ≡ t → (if t then Some ps else None) ≡ Some next → GotParts next bs → Both (λ x. x ≡ c ∷ []) (GotParts ps) (b ∷ bs)
byte_step c ps b next bs false f e h = absurd (let none : ⊥ = cc in none)
byte_step c ps b next bs true f e h = record { front = b ∷ []; rest = bs; split = refl; first = ap (λ x. x ∷ []) (eqb-true b c f); second = subst (λ n. GotParts n bs) (sym (some_same ps next e)) h }

-- one byte more
step : (ps : List Part) (b : ℕ) (next : List Part) (bs : List ℕ) → b < 256 → after_byte ps b ≡ Some next → GotParts next bs → GotParts ps (b ∷ bs)
step [] b next bs l e h = absurd (let none : ⊥ = cc in none)
step (exactly c ∷ ps) b next bs l e h = byte_step c ps b next bs (eqb b c) refl e h
step (any zero ∷ ps) b next bs l e h = absurd (let none : ⊥ = cc in none)
step (any (suc k) ∷ ps) b next bs l e h =
    let r = subst (λ n. GotParts n bs) (sym (some_same (any k ∷ ps) next e)) h in
    record { front = b ∷ r.front; rest = r.rest; split = ap (λ x. b ∷ x) r.split; first = (ap suc r.first.0, (l, r.first.1)); second = r.second }
step (form kind ∷ ps) b next bs l e h = form_step kind ps b next bs (form_at (forms_of kind) b) refl e h
step (count zero seen item ∷ ps) b next bs l e h = absurd (let none : ⊥ = cc in none)
step (count (suc k) seen item ∷ ps) b next bs l e h =
    let r = subst (λ n. GotParts n bs) (sym (some_same (count k (seen * 256 + b) item ∷ ps) next e)) h in
    let c = r.first in
    record {
      front = b ∷ r.front;
      rest = r.rest;
      split = ap (λ x. b ∷ x) r.split;
      first = record { front = b ∷ c.front; rest = c.rest; split = ap (λ x. b ∷ x) c.split; many = ap suc c.many; bytes = (l, c.bytes); each = c.each };
      second = r.second;
    }
step (items n item ∷ ps) b next bs l e h = absurd (let none : ⊥ = cc in none)

-- nothing is awaited where it is whole
whole_nothing : (ps : List Part) → is_whole ps ≡ true → GotParts ps []
whole_nothing [] e = refl
whole_nothing (p ∷ ps) e = absurd (let none : ⊥ = cc in none)

-- at the end of the bytes nothing is awaited
at_end : (ps : List Part) (at : ℕ) (t : Bool) → is_whole ps ≡ t → (if t then None else Some at) ≡ None → GotParts ps []
at_end ps at true f e = whole_nothing ps f
at_end ps at false f e = absurd (let none : ⊥ = cc in none)

-- a byte without a fault, and what is awaited after it
spelled_on : (b : ℕ) (bs : List ℕ) (ps : List Part) (at : ℕ) (o : Option (List Part)) → b < 256 → after_byte ps b ≡ o → ((next : List Part) → fault_from next (suc at) bs ≡ None → GotParts next bs) → go_on o at (λ next. fault_from next (suc at) bs) ≡ None
    → GotParts ps (b ∷ bs)
spelled_on b bs ps at None l f k e = absurd (let none : ⊥ = cc in none)
spelled_on b bs ps at (Some next) l f k e = step ps b next bs l f (k next e)

-- bytes without a fault are all that is awaited
spelled : (bs : List ℕ) (ps : List Part) (at : ℕ) → AreBytes bs → fault_from ps at bs ≡ None → GotParts ps bs
spelled [] ps at h e = unsettled ps [] (at_end (settle ps) at (is_whole (settle ps)) refl e)
spelled (b ∷ bs) ps at h e = unsettled ps (b ∷ bs) (spelled_on b bs (settle ps) at (after_byte (settle ps) b) h.0 refl (λ next f. spelled bs next (suc at) h.1 f) e)

-- where there is no fault of form, no byte is in a wrong place
no_fault : (bs : List ℕ) (t : Bool) (v : Option FormFault) (o : Option ℕ) → (if t then Some (bad_form most_bytes) else or_else v (option_map bad_form o)) ≡ None → o ≡ None
no_fault bs true v o e = absurd (let none : ⊥ = cc in none)
no_fault bs false (Some f) o e = absurd (let none : ⊥ = cc in none)
no_fault bs false None (Some at) e = absurd (let none : ⊥ = cc in none)
no_fault bs false None None e = refl

-- a byte in front, and the others
behind_exactly : (c : ℕ) (ps : List Part) (bs : List ℕ) → GotParts (exactly c ∷ ps) bs → (rest : List ℕ) × (bs ≡ c ∷ rest) × GotParts ps rest
behind_exactly c ps bs h = (h.rest, h.split ∙ ap (λ x. x ++ h.rest) h.first, h.second)

-- all bytes without a fault of form are those of some kept state
pub all_spelled : AllSpelled
all_spelled bs h e =
    let g = spelled bs kept_parts 0 h (no_fault bs (nat_lt most_bytes (length bs)) (version_fault bs) (fault_from kept_parts 0 bs) e) in
    let b0 = behind_exactly 0x44 (exactly 0x53 ∷ exactly 0x54 ∷ exactly 0x01 ∷ any 8 ∷ list_part type_item ∷ list_part bool_item ∷ form type_kind ∷ form state_kind ∷ []) bs g in
    let b1 = behind_exactly 0x53 (exactly 0x54 ∷ exactly 0x01 ∷ any 8 ∷ list_part type_item ∷ list_part bool_item ∷ form type_kind ∷ form state_kind ∷ []) b0.0 b0.2 in
    let b2 = behind_exactly 0x54 (exactly 0x01 ∷ any 8 ∷ list_part type_item ∷ list_part bool_item ∷ form type_kind ∷ form state_kind ∷ []) b1.0 b1.2 in
    let b3 = behind_exactly 0x01 (any 8 ∷ list_part type_item ∷ list_part bool_item ∷ form type_kind ∷ form state_kind ∷ []) b2.0 b2.2 in
    let n = take_long (list_part type_item ∷ list_part bool_item ∷ form type_kind ∷ form state_kind ∷ []) b3.0 b3.2 in
    let i = take_list StreamType type_bytes (λ t. ⊤) type_item (λ x g. g) (list_part bool_item ∷ form type_kind ∷ form state_kind ∷ []) n.rest n.more in
    let c = take_list Bool bool_bytes (λ t. ⊤) bool_item (λ x g. g) (form type_kind ∷ form state_kind ∷ []) i.rest i.more in
    let t = take_type (form state_kind ∷ []) c.rest c.more in
    let s = take_state [] t.rest t.more in (
      record { events = n.value; ins = i.values; cuts = c.values; out = t.value; state = s.state },
      s.places ++ [],
      record { events = n.good; types = i.fits; cuts = c.fits; state = s.good },
      s.shaped,
      sym
          (b0.1
          ∙ ap (λ x. 0x44 ∷ x)
          (b1.1
          ∙ ap (λ x. 0x53 ∷ x)
          (b2.1
          ∙ ap (λ x. 0x54 ∷ x)
          (b3.1
          ∙ ap (λ x. 0x01 ∷ x)
          (n.is
          ∙ ap (λ x. long_bytes n.value ++ x)
          (i.is
          ∙ ap (λ x. list_bytes type_bytes i.values ++ x)
          (c.is
          ∙ ap (λ x. list_bytes bool_bytes c.values ++ x)
          (t.is ∙ ap (λ x. type_bytes t.value ++ x) (s.is [] ∙ (ap (λ x. state_bytes s.state (s.places ++ []) ++ x) s.more ∙ append-nil (state_bytes s.state (s.places ++ [])))))))))))),
    )
