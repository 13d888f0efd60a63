-- Bytes without a fault of form are those of a kept state.
use Rattle.std.proofs.Common.{◌≡◌, ◌∙◌, ◌+◌, ◌*◌, ◌<◌, ◌^◌, ℕ, zero, suc, Bool, true, false, List, [], ◌∷◌, ◌++◌, length, map, get_or, ap, ap₂, refl, sym, subst, arith, append_assoc}
use Rattle.std.specs.Prelude.{ℤ, ⊤, Some, None, Option}
use Rattle.std.specs.Int.{w32, w64, to_be_bytes, from_be_bytes, cast_signed}
use Rattle.std.specs.List.{concat, AllByRecursion}
use Rattle.std.proofs.lemmas.List.{append-nil}
use Rattle.std.proofs.lemmas.Nat.{be_bytes_4, be_bytes_8}
use Rattle.std.proofs.lemmas.Int.{of_z-to_z}
use Rattle.std.proofs.Math.Facts.{sfits_to_z}
use Rattle.stream_type.specs.StreamType.{StreamType, eps, one, int, cat, par, sum, star}
use Rattle.stream_prefix.specs.StreamPrefix.{StreamPrefix, eps_emp, one_emp, one_full, int_emp, int_full, par_both, cat_fst, cat_both, sum_emp, in_left, in_right, star_emp, star_done, star_first, star_rest}
use Rattle.hist_value.specs.declared.expr.Op.{Op}
use Rattle.hist_value.specs.declared.expr.Op.TheVariants.{Add, Sub, Mul, Div, Less, Same}
use Rattle.hist_value.specs.HistValue.{HistValue, unit_value, number, pair_of, left_of, right_of, list_of}
use Rattle.hist_value.specs.HistExpr.{HistExpr, variable, literal, unit_expr, reckoned, pair_expr, first_expr, second_expr, left_expr, right_expr, choice, nil_expr, cons_expr, fold_expr}
use Rattle.core_term.specs.CoreTerm.{CoreTerm, node_count}
use Rattle.delta_state.specs.StateTree.{Known, HeldName, StateTree}
use Rattle.kept_state.specs.KeptBytes.{short_bytes, long_bytes, int_bytes, list_bytes, bool_bytes, type_bytes, whole_items, prefix_bytes, rest_bytes, item_count, value_bytes, items_bytes, op_byte, expr_bytes, node_bytes, inside, term_bytes, known_bytes, held_name_bytes, nodes_in_state, state_bytes}
use Rattle.kept_state.specs.KeptForm.{Kind, bool_kind, type_kind, prefix_kind, end_kind, value_kind, op_kind, expr_kind, term_kind, state_kind, Item, bool_item, type_item, prefix_item, value_item, expr_item, node_item, known_item, held_item, argument_item, Part, exactly, any, form, count, items, list_part, forms_of, form_at}
use Rattle.kept_state.specs.KeptSizes.{FitsShort, FitsLong, FitsInt, FitsPrefix, FitsValue, FitsExpr, FitsTerm, FitsKnown, FitsHeldName, FitsState, IsOfStar, IsShaped, IsOfList, IsShapedValue, IsShapedState}

-- each is a byte
abbrev pub AreBytes : List ℕ → Type 0
AreBytes bs = AllByRecursion (λ b. b < 256) bs

-- something that has these bytes
pub record Got (A : Type 0) (bytes : A → List ℕ) (Good : A → Type 0) (bs : List ℕ) : Type 0 where
  pub value : A
  pub good : Good value
  pub is : bytes value ≡ bs

-- a term, with the places of the nodes inside
pub record GotTerm (bs : List ℕ) : Type 0 where
  pub term : CoreTerm
  pub places : List ℕ
  pub many : suc (length places) ≡ node_count term
  pub good : FitsTerm term
  pub is : (more : List ℕ) → term_bytes term (places ++ more) ≡ bs

-- a node, with its places
pub record GotNode (bs : List ℕ) : Type 0 where
  pub term : CoreTerm
  pub places : List ℕ
  pub many : length places ≡ node_count term
  pub good : FitsTerm term
  pub is : (more : List ℕ) → node_bytes (places ++ more) (term_bytes term (inside (places ++ more))) ≡ bs

-- a state, with the places of the nodes of its code
pub record GotState (bs : List ℕ) : Type 0 where
  pub state : StateTree
  pub places : List ℕ
  pub many : length places ≡ nodes_in_state state
  pub good : FitsState state
  pub shaped : IsShapedState state
  pub is : (more : List ℕ) → state_bytes state (places ++ more) ≡ bs

-- a parameter with its mark and its state
pub record GotArgument (bs : List ℕ) : Type 0 where
  pub name : ℕ
  pub type : StreamType
  pub state : StateTree
  pub places : List ℕ
  pub many : length places ≡ nodes_in_state state
  pub fits : FitsShort name
  pub good : FitsState state
  pub shaped : IsShapedState state
  pub is : (more : List ℕ) → short_bytes name ++ (type_bytes type ++ state_bytes state (places ++ more)) ≡ bs

-- what begins with a byte of a kind
abbrev pub GotKind : Kind → List ℕ → Type 0
GotKind bool_kind bs = Got Bool bool_bytes (λ b. ⊤) bs
GotKind type_kind bs = Got StreamType type_bytes (λ t. ⊤) bs
GotKind prefix_kind bs = Got StreamPrefix prefix_bytes (λ p. FitsPrefix p × IsShaped p) bs
GotKind end_kind bs = Got StreamPrefix rest_bytes (λ p. FitsPrefix p × IsShaped p × IsOfStar p × (whole_items p ≡ 0)) bs
GotKind value_kind bs = Got HistValue value_bytes (λ v. FitsValue v × IsShapedValue v) bs
GotKind op_kind bs = Got Op (λ o. op_byte o ∷ []) (λ o. ⊤) bs
GotKind expr_kind bs = Got HistExpr expr_bytes FitsExpr bs
GotKind term_kind bs = GotTerm bs
GotKind state_kind bs = GotState bs

-- an item
abbrev pub GotItem : Item → List ℕ → Type 0
GotItem bool_item bs = GotKind bool_kind bs
GotItem type_item bs = GotKind type_kind bs
GotItem prefix_item bs = GotKind prefix_kind bs
GotItem value_item bs = GotKind value_kind bs
GotItem expr_item bs = GotKind expr_kind bs
GotItem node_item bs = GotNode bs
GotItem known_item bs = Got Known known_bytes (λ e. FitsKnown e × IsShapedValue e.value) bs
GotItem held_item bs = Got HeldName held_name_bytes (λ h. FitsHeldName h × IsShaped h.prefix) bs
GotItem argument_item bs = GotArgument bs

-- bytes of one thing, and behind them bytes of another
pub record Both (P Q : List ℕ → Type 0) (bs : List ℕ) : Type 0 where
  pub front : List ℕ
  pub rest : List ℕ
  pub split : bs ≡ front ++ rest
  pub first : P front
  pub second : Q rest

-- so many items
abbrev pub GotItems : ℕ → Item → List ℕ → Type 0
GotItems zero item bs = bs ≡ []
GotItems (suc n) item bs = Both (GotItem item) (GotItems n item) bs

-- the number that bytes make behind those that made another
abbrev pub told : ℕ → List ℕ → ℕ
told seen [] = seen
told seen (b ∷ bs) = told (seen * 256 + b) bs

-- the bytes of a count that are missing, and so many items
pub record GotCount (k seen : ℕ) (item : Item) (bs : List ℕ) : Type 0 where
  pub front : List ℕ
  pub rest : List ℕ
  pub split : bs ≡ front ++ rest
  pub many : length front ≡ k
  pub bytes : AreBytes front
  pub each : GotItems (told seen front) item rest

-- what is awaited
abbrev pub GotPart : Part → List ℕ → Type 0
GotPart (exactly b) bs = bs ≡ b ∷ []
GotPart (any k) bs = (length bs ≡ k) × AreBytes bs
GotPart (form kind) bs = GotKind kind bs
GotPart (count k seen item) bs = GotCount k seen item bs
GotPart (items n item) bs = GotItems n item bs

-- all that is awaited
abbrev pub GotParts : List Part → List ℕ → Type 0
GotParts [] bs = bs ≡ []
GotParts (p ∷ ps) bs = Both (GotPart p) (GotParts ps) bs

-- something in front, whose bytes are told, and the parts behind it
pub record Took (A : Type 0) (bytes : A → List ℕ) (Good : A → Type 0) (ps : List Part) (bs : List ℕ) : Type 0 where
  pub value : A
  pub good : Good value
  pub rest : List ℕ
  pub is : bs ≡ bytes value ++ rest
  pub more : GotParts ps rest

-- the first part, where it is something with bytes
pub take_got : (A : Type 0) (bytes : A → List ℕ) (Good : A → Type 0) (ps : List Part) (bs : List ℕ) → Both (Got A bytes Good) (GotParts ps) bs → Took A bytes Good ps bs
take_got A bytes Good ps bs h = record { value = h.first.value; good = h.first.good; rest = h.rest; is = h.split ∙ ap (λ x. x ++ h.rest) (sym h.first.is); more = h.second }

-- a byte of bytes
pub byte_at : (bs : List ℕ) → AreBytes bs → (i : ℕ) → get_or bs i 0 < 256
byte_at [] h i = omega arith
byte_at (b ∷ bs) h zero = h.0
byte_at (b ∷ bs) h (suc i) = byte_at bs h.1 i

-- the number of four bytes
pub below_4 : (bs : List ℕ) → length bs ≡ 4 → AreBytes bs → from_be_bytes w32 bs < 2 ^ 32
below_4 (a ∷ b ∷ c ∷ d ∷ []) n h = omega (arith, h.0, h.1.0, h.1.1.0, h.1.1.1.0)
below_4 _ n h = absurd (let none : ⊥ = omega (arith, n) in none)

-- of eight
pub below_8 : (bs : List ℕ) → length bs ≡ 8 → AreBytes bs → from_be_bytes w64 bs < 2 ^ 64
below_8 (a ∷ b ∷ c ∷ d ∷ e ∷ f ∷ g ∷ i ∷ []) n h = omega (arith, h.0, h.1.0, h.1.1.0, h.1.1.1.0, h.1.1.1.1.0, h.1.1.1.1.1.0, h.1.1.1.1.1.1.0, h.1.1.1.1.1.1.1.0)
below_8 _ n h = absurd (let none : ⊥ = omega (arith, n) in none)

-- a name in front
pub take_name : (ps : List Part) (bs : List ℕ) → GotParts (any 4 ∷ ps) bs → Took ℕ short_bytes FitsShort ps bs
take_name ps bs h =
    record {
      value = from_be_bytes w32 h.front;
      good = below_4 h.front h.first.0 h.first.1;
      rest = h.rest;
      is = h.split ∙ ap (λ x. x ++ h.rest) (sym (be_bytes_4 h.front (from_be_bytes w32 h.front) h.first.0 (byte_at h.front h.first.1) refl));
      more = h.second;
    }

-- a number of eight bytes in front
pub take_long : (ps : List Part) (bs : List ℕ) → GotParts (any 8 ∷ ps) bs → Took ℕ long_bytes FitsLong ps bs
take_long ps bs h =
    record {
      value = from_be_bytes w64 h.front;
      good = below_8 h.front h.first.0 h.first.1;
      rest = h.rest;
      is = h.split ∙ ap (λ x. x ++ h.rest) (sym (be_bytes_8 h.front (from_be_bytes w64 h.front) h.first.0 (byte_at h.front h.first.1) refl));
      more = h.second;
    }

-- a number with a sign in front
pub take_int : (ps : List Part) (bs : List ℕ) → GotParts (any 8 ∷ ps) bs → Took ℤ int_bytes FitsInt ps bs
take_int ps bs h =
    let b = below_8 h.front h.first.0 h.first.1 in
    record {
      value = cast_signed w64 (from_be_bytes w64 h.front);
      good = sfits_to_z {w = w64} {n = from_be_bytes w64 h.front} (search (arith, b));
      rest = h.rest;
      is = h.split ∙ ap (λ x. x ++ h.rest) (sym (ap (to_be_bytes w64) (of_z-to_z w64 (from_be_bytes w64 h.front) b) ∙ be_bytes_8 h.front (from_be_bytes w64 h.front) h.first.0 (byte_at h.front h.first.1) refl));
      more = h.second;
    }

-- a type, an expression, a prefix, a value, an operation in front
pub take_type : (ps : List Part) (bs : List ℕ) → GotParts (form type_kind ∷ ps) bs → Took StreamType type_bytes (λ t. ⊤) ps bs
take_type ps bs h = take_got StreamType type_bytes (λ t. ⊤) ps bs h

pub take_expr : (ps : List Part) (bs : List ℕ) → GotParts (form expr_kind ∷ ps) bs → Took HistExpr expr_bytes FitsExpr ps bs
take_expr ps bs h = take_got HistExpr expr_bytes FitsExpr ps bs h

pub take_prefix : (ps : List Part) (bs : List ℕ) → GotParts (form prefix_kind ∷ ps) bs → Took StreamPrefix prefix_bytes (λ p. FitsPrefix p × IsShaped p) ps bs
take_prefix ps bs h = take_got StreamPrefix prefix_bytes (λ p. FitsPrefix p × IsShaped p) ps bs h

pub take_value : (ps : List Part) (bs : List ℕ) → GotParts (form value_kind ∷ ps) bs → Took HistValue value_bytes (λ v. FitsValue v × IsShapedValue v) ps bs
take_value ps bs h = take_got HistValue value_bytes (λ v. FitsValue v × IsShapedValue v) ps bs h

pub take_op : (ps : List Part) (bs : List ℕ) → GotParts (form op_kind ∷ ps) bs → Took Op (λ o. op_byte o ∷ []) (λ o. ⊤) ps bs
take_op ps bs h = take_got Op (λ o. op_byte o ∷ []) (λ o. ⊤) ps bs h

-- the fields of a form, if there is one
abbrev pub MadeOf : Option (List Part) → List ℕ → Type 0
MadeOf None bs = ⊥
MadeOf (Some fields) bs = GotParts fields bs

-- a mark
pub made_bool : (b : ℕ) (bs : List ℕ) → MadeOf (form_at (forms_of bool_kind) b) bs → GotKind bool_kind (b ∷ bs)
made_bool zero bs h = record { value = false; good = tt; is = ap (λ x. 0 ∷ x) (sym h) }
made_bool (suc zero) bs h = record { value = true; good = tt; is = ap (λ x. 1 ∷ x) (sym h) }
made_bool _ bs h = absurd h

-- types
pub made_type : (b : ℕ) (bs : List ℕ) → MadeOf (form_at (forms_of type_kind) b) bs → GotKind type_kind (b ∷ bs)
made_type zero bs h = record { value = eps; good = tt; is = ap (λ x. 0 ∷ x) (sym h) }
made_type (suc zero) bs h = record { value = one; good = tt; is = ap (λ x. 1 ∷ x) (sym h) }
made_type (suc (suc zero)) bs h = record { value = int; good = tt; is = ap (λ x. 2 ∷ x) (sym h) }
made_type (suc (suc (suc zero))) bs h =
    let t0 = take_type (form type_kind ∷ []) bs h in
    let t1 = take_type [] t0.rest t0.more in
    record { value = cat t0.value t1.value; good = tt; is = ap (λ x. 3 ∷ x) (sym (t0.is ∙ ap (λ x. type_bytes t0.value ++ x) (t1.is ∙ (ap (λ x. type_bytes t1.value ++ x) t1.more ∙ append-nil (type_bytes t1.value))))) }
made_type (suc (suc (suc (suc zero)))) bs h =
    let t0 = take_type (form type_kind ∷ []) bs h in
    let t1 = take_type [] t0.rest t0.more in
    record { value = par t0.value t1.value; good = tt; is = ap (λ x. 4 ∷ x) (sym (t0.is ∙ ap (λ x. type_bytes t0.value ++ x) (t1.is ∙ (ap (λ x. type_bytes t1.value ++ x) t1.more ∙ append-nil (type_bytes t1.value))))) }
made_type (suc (suc (suc (suc (suc zero))))) bs h =
    let t0 = take_type (form type_kind ∷ []) bs h in
    let t1 = take_type [] t0.rest t0.more in
    record { value = sum t0.value t1.value; good = tt; is = ap (λ x. 5 ∷ x) (sym (t0.is ∙ ap (λ x. type_bytes t0.value ++ x) (t1.is ∙ (ap (λ x. type_bytes t1.value ++ x) t1.more ∙ append-nil (type_bytes t1.value))))) }
made_type (suc (suc (suc (suc (suc (suc zero)))))) bs h =
    let t0 = take_type [] bs h in
    record { value = star t0.value; good = tt; is = ap (λ x. 6 ∷ x) (sym (t0.is ∙ (ap (λ x. type_bytes t0.value ++ x) t0.more ∙ append-nil (type_bytes t0.value)))) }
made_type _ bs h = absurd h

-- operations
pub made_op : (b : ℕ) (bs : List ℕ) → MadeOf (form_at (forms_of op_kind) b) bs → GotKind op_kind (b ∷ bs)
made_op zero bs h = record { value = Add; good = tt; is = ap (λ x. 0 ∷ x) (sym h) }
made_op (suc zero) bs h = record { value = Sub; good = tt; is = ap (λ x. 1 ∷ x) (sym h) }
made_op (suc (suc zero)) bs h = record { value = Mul; good = tt; is = ap (λ x. 2 ∷ x) (sym h) }
made_op (suc (suc (suc zero))) bs h = record { value = Div; good = tt; is = ap (λ x. 3 ∷ x) (sym h) }
made_op (suc (suc (suc (suc zero)))) bs h = record { value = Less; good = tt; is = ap (λ x. 4 ∷ x) (sym h) }
made_op (suc (suc (suc (suc (suc zero))))) bs h = record { value = Same; good = tt; is = ap (λ x. 5 ∷ x) (sym h) }
made_op _ bs h = absurd h

-- historical expressions
pub made_expr : (b : ℕ) (bs : List ℕ) → MadeOf (form_at (forms_of expr_kind) b) bs → GotKind expr_kind (b ∷ bs)
made_expr zero bs h =
    let t0 = take_name [] bs h in
    record { value = variable t0.value; good = t0.good; is = ap (λ x. 0 ∷ x) (sym (t0.is ∙ (ap (λ x. short_bytes t0.value ++ x) t0.more ∙ append-nil (short_bytes t0.value)))) }
made_expr (suc zero) bs h =
    let t0 = take_int [] bs h in
    record { value = literal t0.value; good = t0.good; is = ap (λ x. 1 ∷ x) (sym (t0.is ∙ (ap (λ x. int_bytes t0.value ++ x) t0.more ∙ append-nil (int_bytes t0.value)))) }
made_expr (suc (suc zero)) bs h = record { value = unit_expr; good = tt; is = ap (λ x. 2 ∷ x) (sym h) }
made_expr (suc (suc (suc zero))) bs h =
    let t0 = take_op (form expr_kind ∷ form expr_kind ∷ []) bs h in
    let t1 = take_expr (form expr_kind ∷ []) t0.rest t0.more in
    let t2 = take_expr [] t1.rest t1.more in
    record { value = reckoned t0.value t1.value t2.value; good = (t1.good, t2.good); is = ap (λ x. 3 ∷ x) (sym (t0.is ∙ ap (λ x. (op_byte t0.value ∷ []) ++ x) (t1.is ∙ ap (λ x. expr_bytes t1.value ++ x) (t2.is ∙ (ap (λ x. expr_bytes t2.value ++ x) t2.more ∙ append-nil (expr_bytes t2.value)))))) }
made_expr (suc (suc (suc (suc zero)))) bs h =
    let t0 = take_expr (form expr_kind ∷ []) bs h in
    let t1 = take_expr [] t0.rest t0.more in
    record { value = pair_expr t0.value t1.value; good = (t0.good, t1.good); is = ap (λ x. 4 ∷ x) (sym (t0.is ∙ ap (λ x. expr_bytes t0.value ++ x) (t1.is ∙ (ap (λ x. expr_bytes t1.value ++ x) t1.more ∙ append-nil (expr_bytes t1.value))))) }
made_expr (suc (suc (suc (suc (suc zero))))) bs h =
    let t0 = take_expr [] bs h in
    record { value = first_expr t0.value; good = t0.good; is = ap (λ x. 5 ∷ x) (sym (t0.is ∙ (ap (λ x. expr_bytes t0.value ++ x) t0.more ∙ append-nil (expr_bytes t0.value)))) }
made_expr (suc (suc (suc (suc (suc (suc zero)))))) bs h =
    let t0 = take_expr [] bs h in
    record { value = second_expr t0.value; good = t0.good; is = ap (λ x. 6 ∷ x) (sym (t0.is ∙ (ap (λ x. expr_bytes t0.value ++ x) t0.more ∙ append-nil (expr_bytes t0.value)))) }
made_expr (suc (suc (suc (suc (suc (suc (suc zero))))))) bs h =
    let t0 = take_expr [] bs h in
    record { value = left_expr t0.value; good = t0.good; is = ap (λ x. 7 ∷ x) (sym (t0.is ∙ (ap (λ x. expr_bytes t0.value ++ x) t0.more ∙ append-nil (expr_bytes t0.value)))) }
made_expr (suc (suc (suc (suc (suc (suc (suc (suc zero)))))))) bs h =
    let t0 = take_expr [] bs h in
    record { value = right_expr t0.value; good = t0.good; is = ap (λ x. 8 ∷ x) (sym (t0.is ∙ (ap (λ x. expr_bytes t0.value ++ x) t0.more ∙ append-nil (expr_bytes t0.value)))) }
made_expr (suc (suc (suc (suc (suc (suc (suc (suc (suc zero))))))))) bs h =
    let t0 = take_expr (any 4 ∷ form expr_kind ∷ any 4 ∷ form expr_kind ∷ []) bs h in
    let t1 = take_name (form expr_kind ∷ any 4 ∷ form expr_kind ∷ []) t0.rest t0.more in
    let t2 = take_expr (any 4 ∷ form expr_kind ∷ []) t1.rest t1.more in
    let t3 = take_name (form expr_kind ∷ []) t2.rest t2.more in
    let t4 = take_expr [] t3.rest t3.more in
    record { value = choice t0.value t1.value t2.value t3.value t4.value; good = (t0.good, t1.good, t2.good, t3.good, t4.good); is = ap (λ x. 9 ∷ x) (sym (t0.is ∙ ap (λ x. expr_bytes t0.value ++ x) (t1.is ∙ ap (λ x. short_bytes t1.value ++ x) (t2.is ∙ ap (λ x. expr_bytes t2.value ++ x) (t3.is ∙ ap (λ x. short_bytes t3.value ++ x) (t4.is ∙ (ap (λ x. expr_bytes t4.value ++ x) t4.more ∙ append-nil (expr_bytes t4.value)))))))) }
made_expr (suc (suc (suc (suc (suc (suc (suc (suc (suc (suc zero)))))))))) bs h = record { value = nil_expr; good = tt; is = ap (λ x. 10 ∷ x) (sym h) }
made_expr (suc (suc (suc (suc (suc (suc (suc (suc (suc (suc (suc zero))))))))))) bs h =
    let t0 = take_expr (form expr_kind ∷ []) bs h in
    let t1 = take_expr [] t0.rest t0.more in
    record { value = cons_expr t0.value t1.value; good = (t0.good, t1.good); is = ap (λ x. 11 ∷ x) (sym (t0.is ∙ ap (λ x. expr_bytes t0.value ++ x) (t1.is ∙ (ap (λ x. expr_bytes t1.value ++ x) t1.more ∙ append-nil (expr_bytes t1.value))))) }
made_expr (suc (suc (suc (suc (suc (suc (suc (suc (suc (suc (suc (suc zero)))))))))))) bs h =
    let t0 = take_expr (form expr_kind ∷ any 4 ∷ any 4 ∷ form expr_kind ∷ []) bs h in
    let t1 = take_expr (any 4 ∷ any 4 ∷ form expr_kind ∷ []) t0.rest t0.more in
    let t2 = take_name (any 4 ∷ form expr_kind ∷ []) t1.rest t1.more in
    let t3 = take_name (form expr_kind ∷ []) t2.rest t2.more in
    let t4 = take_expr [] t3.rest t3.more in
    record { value = fold_expr t0.value t1.value t2.value t3.value t4.value; good = (t0.good, t1.good, t2.good, t3.good, t4.good); is = ap (λ x. 12 ∷ x) (sym (t0.is ∙ ap (λ x. expr_bytes t0.value ++ x) (t1.is ∙ ap (λ x. expr_bytes t1.value ++ x) (t2.is ∙ ap (λ x. short_bytes t2.value ++ x) (t3.is ∙ ap (λ x. short_bytes t3.value ++ x) (t4.is ∙ (ap (λ x. expr_bytes t4.value ++ x) t4.more ∙ append-nil (expr_bytes t4.value)))))))) }
made_expr _ bs h = absurd h

-- a list of things that have these bytes
pub record GotList (A : Type 0) (bytes : A → List ℕ) (Good : A → Type 0) (n : ℕ) (bs : List ℕ) : Type 0 where
  pub values : List A
  pub many : length values ≡ n
  pub good : AllByRecursion Good values
  pub is : concat (map bytes values) ≡ bs

-- so many items, each of which is such a thing
pub got_list : (A : Type 0) (bytes : A → List ℕ) (Good : A → Type 0) (item : Item) → ((bs : List ℕ) → GotItem item bs → Got A bytes Good bs) → (n : ℕ) (bs : List ℕ) → GotItems n item bs → GotList A bytes Good n bs
got_list A bytes Good item f zero bs h = record { values = []; many = refl; good = tt; is = sym h }
got_list A bytes Good item f (suc n) bs h =
    let x = f h.front h.first in
    let xs = got_list A bytes Good item f n h.rest h.second in
    record { values = x.value ∷ xs.values; many = ap suc xs.many; good = (x.good, xs.good); is = ap₂ (λ a b. a ++ b) x.is xs.is ∙ sym h.split }

-- a count in front, the bytes of so many items, and the parts behind them
pub record TookCount (item : Item) (ps : List Part) (bs : List ℕ) : Type 0 where
  pub number : ℕ
  pub fits : FitsShort number
  pub mid : List ℕ
  pub rest : List ℕ
  pub is : bs ≡ short_bytes number ++ (mid ++ rest)
  pub each : GotItems number item mid
  pub more : GotParts ps rest

-- four bytes tell a number as they do in a number of 32 bits
told_four : (bs : List ℕ) → length bs ≡ 4 → told 0 bs ≡ from_be_bytes w32 bs
told_four (a ∷ b ∷ c ∷ d ∷ []) n = omega arith
told_four _ n = absurd (let none : ⊥ = omega (arith, n) in none)

-- a list in front
pub take_count : (item : Item) (ps : List Part) (bs : List ℕ) → GotParts (list_part item ∷ ps) bs → TookCount item ps bs
take_count item ps bs h =
    let c = h.first in
    let e = told_four c.front c.many in
    record {
      number = told 0 c.front;
      fits = subst FitsShort (sym e) (below_4 c.front c.many c.bytes);
      mid = c.rest;
      rest = h.rest;
      is =
          h.split
          ∙ (ap (λ x. x ++ h.rest) c.split
          ∙ (append_assoc c.front c.rest h.rest ∙ ap (λ x. x ++ (c.rest ++ h.rest)) (sym (be_bytes_4 c.front (told 0 c.front) c.many (byte_at c.front c.bytes) e))));
      each = c.each;
      more = h.second;
    }

-- a list of things in front
pub record TookList (A : Type 0) (bytes : A → List ℕ) (Good : A → Type 0) (ps : List Part) (bs : List ℕ) : Type 0 where
  pub values : List A
  pub fits : FitsShort (length values)
  pub good : AllByRecursion Good values
  pub rest : List ℕ
  pub is : bs ≡ list_bytes bytes values ++ rest
  pub more : GotParts ps rest

pub take_list : (A : Type 0) (bytes : A → List ℕ) (Good : A → Type 0) (item : Item) → ((bs : List ℕ) → GotItem item bs → Got A bytes Good bs) → (ps : List Part) (bs : List ℕ) → GotParts (list_part item ∷ ps) bs → TookList A bytes Good ps bs
take_list A bytes Good item f ps bs h =
    let c = take_count item ps bs h in
    let l = got_list A bytes Good item f c.number c.mid c.each in
    record {
      values = l.values;
      fits = subst FitsShort (sym l.many) c.fits;
      good = l.good;
      rest = c.rest;
      is =
          c.is
          ∙ (ap₂ (λ n x. short_bytes n ++ (x ++ c.rest)) (sym l.many) (sym l.is)
          ∙ sym (append_assoc (short_bytes (length l.values)) (concat (map bytes l.values)) c.rest));
      more = c.more;
    }

-- whole items before what stands after them
abbrev pub star_from : List StreamPrefix → StreamPrefix → StreamPrefix
star_from [] e = e
star_from (p ∷ ps) e = star_rest p (star_from ps e)

-- how many whole items it has
whole-star_from : (ps : List StreamPrefix) (e : StreamPrefix) → whole_items e ≡ 0 → whole_items (star_from ps e) ≡ length ps
whole-star_from [] e z = z
whole-star_from (p ∷ ps) e z = ap suc (whole-star_from ps e z)

-- its numbers have their sizes, where the count of its items has
fits-star_from : (ps : List StreamPrefix) (e : StreamPrefix) → whole_items e ≡ 0 → FitsShort (length ps) → AllByRecursion (λ p. FitsPrefix p × IsShaped p) ps → FitsPrefix e → FitsPrefix (star_from ps e)
fits-star_from [] e z n h f = f
fits-star_from (p ∷ ps) e z n h f =
    let w = whole-star_from ps e z in
    (h.0.0, fits-star_from ps e z (omega (arith, n)) h.1 f, omega (arith, n, w))

-- it is of a star,
of-star_from : (ps : List StreamPrefix) (e : StreamPrefix) → IsOfStar e → IsOfStar (star_from ps e)
of-star_from [] e h = h
of-star_from (p ∷ ps) e h = tt

-- and so is all in it
shaped-star_from : (ps : List StreamPrefix) (e : StreamPrefix) → IsOfStar e → AllByRecursion (λ p. FitsPrefix p × IsShaped p) ps → IsShaped e → IsShaped (star_from ps e)
shaped-star_from [] e o h s = s
shaped-star_from (p ∷ ps) e o h s = (h.0.1, of-star_from ps e o, shaped-star_from ps e o h.1 s)

-- the bytes of its items and of what stands after them
rest-star_from : (ps : List StreamPrefix) (e : StreamPrefix) → rest_bytes (star_from ps e) ≡ concat (map prefix_bytes ps) ++ rest_bytes e
rest-star_from [] e = refl
rest-star_from (p ∷ ps) e = ap (λ x. prefix_bytes p ++ x) (rest-star_from ps e) ∙ sym (append_assoc (prefix_bytes p) (concat (map prefix_bytes ps)) (rest_bytes e))

-- the bytes of what is of a star
star_bytes : (q : StreamPrefix) → IsOfStar q → prefix_bytes q ≡ 11 ∷ short_bytes (whole_items q) ++ rest_bytes q
star_bytes star_emp h = refl
star_bytes star_done h = refl
star_bytes (star_first p) h = refl
star_bytes (star_rest p q) h = refl
star_bytes _ h = absurd h

-- a prefix of a star, behind its form
made_star : (bs : List ℕ) → GotParts (list_part prefix_item ∷ form end_kind ∷ []) bs → GotKind prefix_kind (11 ∷ bs)
made_star bs h =
    let l = take_list StreamPrefix prefix_bytes (λ p. FitsPrefix p × IsShaped p) prefix_item (λ x g. g) (form end_kind ∷ []) bs h in
    let e = take_got StreamPrefix rest_bytes (λ p. FitsPrefix p × IsShaped p × IsOfStar p × (whole_items p ≡ 0)) [] l.rest l.more in
    let q = star_from l.values e.value in
    let w : whole_items q ≡ length l.values = whole-star_from l.values e.value e.good.3 in
    let tail : l.rest ≡ rest_bytes e.value = e.is ∙ (ap (λ x. rest_bytes e.value ++ x) e.more ∙ append-nil (rest_bytes e.value)) in
    let whole : bs ≡ short_bytes (length l.values) ++ rest_bytes q = l.is ∙ (append_assoc (short_bytes (length l.values)) (concat (map prefix_bytes l.values)) l.rest ∙ ap (λ x. short_bytes (length l.values) ++ x) (ap (λ x. concat (map prefix_bytes l.values) ++ x) tail ∙ sym (rest-star_from l.values e.value))) in
    record {
      value = q;
      good = (fits-star_from l.values e.value e.good.3 l.fits l.good e.good.0, shaped-star_from l.values e.value e.good.2 l.good e.good.1);
      is = star_bytes q (of-star_from l.values e.value e.good.2) ∙ (ap (λ n. 11 ∷ short_bytes n ++ rest_bytes q) w ∙ ap (λ x. 11 ∷ x) (sym whole));
    }

-- prefixes
pub made_prefix : (b : ℕ) (bs : List ℕ) → MadeOf (form_at (forms_of prefix_kind) b) bs → GotKind prefix_kind (b ∷ bs)
made_prefix zero bs h = record { value = eps_emp; good = (tt, tt); is = ap (λ x. 0 ∷ x) (sym h) }
made_prefix (suc zero) bs h = record { value = one_emp; good = (tt, tt); is = ap (λ x. 1 ∷ x) (sym h) }
made_prefix (suc (suc zero)) bs h = record { value = one_full; good = (tt, tt); is = ap (λ x. 2 ∷ x) (sym h) }
made_prefix (suc (suc (suc zero))) bs h = record { value = int_emp; good = (tt, tt); is = ap (λ x. 3 ∷ x) (sym h) }
made_prefix (suc (suc (suc (suc zero)))) bs h =
    let t0 = take_int [] bs h in
    record { value = int_full t0.value; good = (t0.good, tt); is = ap (λ x. 4 ∷ x) (sym (t0.is ∙ (ap (λ x. int_bytes t0.value ++ x) t0.more ∙ append-nil (int_bytes t0.value)))) }
made_prefix (suc (suc (suc (suc (suc zero))))) bs h =
    let t0 = take_prefix (form prefix_kind ∷ []) bs h in
    let t1 = take_prefix [] t0.rest t0.more in
    record { value = par_both t0.value t1.value; good = ((t0.good.0, t1.good.0), (t0.good.1, t1.good.1)); is = ap (λ x. 5 ∷ x) (sym (t0.is ∙ ap (λ x. prefix_bytes t0.value ++ x) (t1.is ∙ (ap (λ x. prefix_bytes t1.value ++ x) t1.more ∙ append-nil (prefix_bytes t1.value))))) }
made_prefix (suc (suc (suc (suc (suc (suc zero)))))) bs h =
    let t0 = take_prefix [] bs h in
    record { value = cat_fst t0.value; good = t0.good; is = ap (λ x. 6 ∷ x) (sym (t0.is ∙ (ap (λ x. prefix_bytes t0.value ++ x) t0.more ∙ append-nil (prefix_bytes t0.value)))) }
made_prefix (suc (suc (suc (suc (suc (suc (suc zero))))))) bs h =
    let t0 = take_prefix (form prefix_kind ∷ []) bs h in
    let t1 = take_prefix [] t0.rest t0.more in
    record { value = cat_both t0.value t1.value; good = ((t0.good.0, t1.good.0), (t0.good.1, t1.good.1)); is = ap (λ x. 7 ∷ x) (sym (t0.is ∙ ap (λ x. prefix_bytes t0.value ++ x) (t1.is ∙ (ap (λ x. prefix_bytes t1.value ++ x) t1.more ∙ append-nil (prefix_bytes t1.value))))) }
made_prefix (suc (suc (suc (suc (suc (suc (suc (suc zero)))))))) bs h = record { value = sum_emp; good = (tt, tt); is = ap (λ x. 8 ∷ x) (sym h) }
made_prefix (suc (suc (suc (suc (suc (suc (suc (suc (suc zero))))))))) bs h =
    let t0 = take_prefix [] bs h in
    record { value = in_left t0.value; good = t0.good; is = ap (λ x. 9 ∷ x) (sym (t0.is ∙ (ap (λ x. prefix_bytes t0.value ++ x) t0.more ∙ append-nil (prefix_bytes t0.value)))) }
made_prefix (suc (suc (suc (suc (suc (suc (suc (suc (suc (suc zero)))))))))) bs h =
    let t0 = take_prefix [] bs h in
    record { value = in_right t0.value; good = t0.good; is = ap (λ x. 10 ∷ x) (sym (t0.is ∙ (ap (λ x. prefix_bytes t0.value ++ x) t0.more ∙ append-nil (prefix_bytes t0.value)))) }
made_prefix (suc (suc (suc (suc (suc (suc (suc (suc (suc (suc (suc zero))))))))))) bs h = made_star bs h
made_prefix _ bs h = absurd h

-- what stands after whole items
pub made_end : (b : ℕ) (bs : List ℕ) → MadeOf (form_at (forms_of end_kind) b) bs → GotKind end_kind (b ∷ bs)
made_end zero bs h = record { value = star_emp; good = (tt, tt, tt, refl); is = ap (λ x. 0 ∷ x) (sym h) }
made_end (suc zero) bs h = record { value = star_done; good = (tt, tt, tt, refl); is = ap (λ x. 1 ∷ x) (sym h) }
made_end (suc (suc zero)) bs h =
    let t = take_prefix [] bs h in
    record { value = star_first t.value; good = (t.good.0, t.good.1, tt, refl); is = ap (λ x. 2 ∷ x) (sym (t.is ∙ (ap (λ x. prefix_bytes t.value ++ x) t.more ∙ append-nil (prefix_bytes t.value)))) }
made_end _ bs h = absurd h

-- how many items a list has
pub count-list_of : (vs : List HistValue) → item_count (list_of vs) ≡ length vs
count-list_of [] = refl
count-list_of (v ∷ vs) = ap suc (count-list_of vs)

-- it is a list
of-list_of : (vs : List HistValue) → IsOfList (list_of vs)
of-list_of [] = tt
of-list_of (v ∷ vs) = tt

-- its numbers have their sizes, where the count of its items has, and so is its shape
good-list_of : (vs : List HistValue) → FitsShort (length vs) → AllByRecursion (λ v. FitsValue v × IsShapedValue v) vs → FitsValue (list_of vs) × IsShapedValue (list_of vs)
good-list_of [] n h = (tt, tt)
good-list_of (v ∷ vs) n h =
    let r = good-list_of vs (omega (arith, n)) h.1 in
    let c = count-list_of vs in
    ((h.0.0, r.0, omega (arith, n, c)), (h.0.1, of-list_of vs, r.1))

-- the bytes of its items
pub items-list_of : (vs : List HistValue) → items_bytes (list_of vs) ≡ concat (map value_bytes vs)
items-list_of [] = refl
items-list_of (v ∷ vs) = ap (λ x. value_bytes v ++ x) (items-list_of vs)

-- its own
pub bytes-list_of : (vs : List HistValue) → value_bytes (list_of vs) ≡ 5 ∷ list_bytes value_bytes vs
bytes-list_of [] = refl
bytes-list_of (v ∷ vs) = ap₂ (λ n x. 5 ∷ short_bytes n ++ x) (count-list_of (v ∷ vs)) (items-list_of (v ∷ vs))

-- a list's value, behind its form
made_list : (bs : List ℕ) → GotParts (list_part value_item ∷ []) bs → GotKind value_kind (5 ∷ bs)
made_list bs h =
    let l = take_list HistValue value_bytes (λ v. FitsValue v × IsShapedValue v) value_item (λ x g. g) [] bs h in
    record { value = list_of l.values; good = good-list_of l.values l.fits l.good; is = bytes-list_of l.values ∙ ap (λ x. 5 ∷ x) (sym (l.is ∙ (ap (λ x. list_bytes value_bytes l.values ++ x) l.more ∙ append-nil (list_bytes value_bytes l.values)))) }

-- values
pub made_value : (b : ℕ) (bs : List ℕ) → MadeOf (form_at (forms_of value_kind) b) bs → GotKind value_kind (b ∷ bs)
made_value zero bs h = record { value = unit_value; good = (tt, tt); is = ap (λ x. 0 ∷ x) (sym h) }
made_value (suc zero) bs h =
    let t0 = take_int [] bs h in
    record { value = number t0.value; good = (t0.good, tt); is = ap (λ x. 1 ∷ x) (sym (t0.is ∙ (ap (λ x. int_bytes t0.value ++ x) t0.more ∙ append-nil (int_bytes t0.value)))) }
made_value (suc (suc zero)) bs h =
    let t0 = take_value (form value_kind ∷ []) bs h in
    let t1 = take_value [] t0.rest t0.more in
    record { value = pair_of t0.value t1.value; good = ((t0.good.0, t1.good.0), (t0.good.1, t1.good.1)); is = ap (λ x. 2 ∷ x) (sym (t0.is ∙ ap (λ x. value_bytes t0.value ++ x) (t1.is ∙ (ap (λ x. value_bytes t1.value ++ x) t1.more ∙ append-nil (value_bytes t1.value))))) }
made_value (suc (suc (suc zero))) bs h =
    let t0 = take_value [] bs h in
    record { value = left_of t0.value; good = t0.good; is = ap (λ x. 3 ∷ x) (sym (t0.is ∙ (ap (λ x. value_bytes t0.value ++ x) t0.more ∙ append-nil (value_bytes t0.value)))) }
made_value (suc (suc (suc (suc zero)))) bs h =
    let t0 = take_value [] bs h in
    record { value = right_of t0.value; good = t0.good; is = ap (λ x. 4 ∷ x) (sym (t0.is ∙ (ap (λ x. value_bytes t0.value ++ x) t0.more ∙ append-nil (value_bytes t0.value)))) }
made_value (suc (suc (suc (suc (suc zero))))) bs h = made_list bs h
made_value _ bs h = absurd h
