-- A list's whole star is made of its items' whole streams; a value of another form has the empty stream of the type, and where
-- memory is refused nothing is said.
use Rattle.std.proofs.Common.{◌≡◌, ℤ, subst, map, refl, sym, ap, ap₂, ◌∙◌}
use Rattle.std.proofs.lemmas.Result.{IfOk-from_err}
use Rattle.std.specs.Prelude.{Result, IfOk}
use Rattle.std.specs.declared.boxed.Box.{Box}
use Rattle.std.specs.declared.alloc.Global.{Global}
use Rattle.stream_type.specs.declared.memory.Memory.{Memory}
use Rattle.stream_type.specs.declared.ty.Ty.{Ty}
use Rattle.stream_type.specs.declared.ty.Ty.TheVariants.{Int as IntType, Cat, Par}
use Rattle.stream_prefix.specs.declared.prefix.Prefix.{Prefix}
use Rattle.hist_value.specs.declared.history.Value.{Value}
use Rattle.hist_value.specs.declared.history.Value.TheVariants.{Int, Pair}
use Rattle.stream_type.specs.StreamType.{type_of, star}
use Rattle.stream_prefix.specs.declared.prefix.StarEnd.TheVariants.{Done}
use Rattle.stream_prefix.specs.StreamPrefix.{StreamPrefix, int_emp, emp, star_done}
use Rattle.stream_prefix.specs.Tree.{prefix_of, star_of}
use Rattle.stream_prefix.proofs.Rows.{prefix_of-star}
use Rattle.hist_value.specs.HistValue.{hist_value_of, list_of}
use Rattle.hist_value.specs.Wholes.{full}
use Rattle.hist_value.proofs.Rows.{hist_value_of-list}
use Rattle.hist_value.proofs.Lists.{full-list_of, full-int_off, full-cat_off, full-par_off}
use Rattle.hist_value.proofs.wholes.+full.Goals as goal

pub full-returns-in_ok-full_items-in-List : goal.full-returns-in_ok-full_items-in-List
full-returns-in_ok-full_items-in-List t c =
    let i : hist_value_of c.args.v.now ≡ list_of (map hist_value_of c.in-List.items.items) = rw c.in-List.is (hist_value_of-list c.in-List.items) in
    let j : type_of c.args.t.now ≡ star (type_of c.in-Star.s.value) = rw c.in-Star.is refl in
    let e : map prefix_of c.in_ok-full_items-in-List.field-0.items ≡ map (full (type_of c.in-Star.s.value)) (map hist_value_of c.in-List.items.items) = cc (c.in_ok-full_items-in-List.ensures, c.deref-in-List.ensures, c.deref-in-List-2.ensures.value) in
    prefix_of-star c.in_ok-full_items-in-List.field-0 Done ∙ (ap (λ ps. star_of ps star_done) e ∙ (sym (full-list_of (type_of c.in-Star.s.value) (map hist_value_of c.in-List.items.items)) ∙ sym (ap₂ full j i)))

-- a result that stands for one prefix stands for an equal one
result_as : (q : Result Prefix Memory) (x y : StreamPrefix) → x ≡ y → IfOk q (λ p. prefix_of p ≡ x) → IfOk q (λ p. prefix_of p ≡ y)
result_as q x y e h = subst (λ (z : StreamPrefix). IfOk q (λ p. prefix_of p ≡ z)) e h

-- where the value isn't of the type's form
int_off : (t : Ty) (v : Value) → t ≡ IntType → ((n : ℤ) → v ≡ Int n → ⊥) → int_emp ≡ full (type_of t) (hist_value_of v)
int_off t v e n = rw e (sym (full-int_off v n))

cat_off : (t : Ty) (x y : Box Ty Global) (v : Value) → t ≡ Cat x y → ((a b : Box Value Global) → v ≡ Pair a b → ⊥) → emp (type_of t) ≡ full (type_of t) (hist_value_of v)
cat_off t x y v e n = rw e (sym (full-cat_off (type_of x.value) (type_of y.value) v n))

par_off : (t : Ty) (x y : Box Ty Global) (v : Value) → t ≡ Par x y → ((a b : Box Value Global) → v ≡ Pair a b → ⊥) → emp (type_of t) ≡ full (type_of t) (hist_value_of v)
par_off t x y v e n = rw e (sym (full-par_off (type_of x.value) (type_of y.value) v n))

pub full-returns-in_default : goal.full-returns-in_default
full-returns-in_default t c = int_off c.args.t.now c.args.v.now c.in-Int.is c.in_default.not-Int

pub full-returns-in_default-v : goal.full-returns-in_default-v
full-returns-in_default-v t c = result_as _ _ _ (cat_off c.args.t.now c.in-Cat.s c.in-Cat.u c.args.v.now c.in-Cat.is c.in_default-v.not-Pair) c.empty.ensures

pub full-returns-in_default-v-2 : goal.full-returns-in_default-v-2
full-returns-in_default-v-2 t c = result_as _ _ _ (par_off c.args.t.now c.in-Par.s c.in-Par.u c.args.v.now c.in-Par.is c.in_default-v-2.not-Pair) c.empty-in_default-v-2.ensures

pub full-returns-in_err-p-in-Pair : goal.full-returns-in_err-p-in-Pair
full-returns-in_err-p-in-Pair t c = IfOk-from_err _ _ c.from_residual.ensures.0

pub full-returns-in_err-q-in-Pair : goal.full-returns-in_err-q-in-Pair
full-returns-in_err-q-in-Pair t c = IfOk-from_err _ _ c.from_residual-in_err-q-in-Pair.ensures.0

pub full-returns-in_err-new-in-Pair : goal.full-returns-in_err-new-in-Pair
full-returns-in_err-new-in-Pair t c = IfOk-from_err _ _ c.from_residual-in_err-new-in-Pair.ensures.0

pub full-returns-in_err-new-in-Pair-2 : goal.full-returns-in_err-new-in-Pair-2
full-returns-in_err-new-in-Pair-2 t c = IfOk-from_err _ _ c.from_residual-in_err-new-in-Pair-2.ensures.0

pub full-returns-in_err-p-in-Pair-v : goal.full-returns-in_err-p-in-Pair-v
full-returns-in_err-p-in-Pair-v t c = IfOk-from_err _ _ c.from_residual-in_err-p-in-Pair-v.ensures.0

pub full-returns-in_err-q-in-Pair-v : goal.full-returns-in_err-q-in-Pair-v
full-returns-in_err-q-in-Pair-v t c = IfOk-from_err _ _ c.from_residual-in_err-q-in-Pair-v.ensures.0

pub full-returns-in_err-new-in-Pair-v : goal.full-returns-in_err-new-in-Pair-v
full-returns-in_err-new-in-Pair-v t c = IfOk-from_err _ _ c.from_residual-in_err-new-in-Pair-v.ensures.0

pub full-returns-in_err-new-in-Pair-v-2 : goal.full-returns-in_err-new-in-Pair-v-2
full-returns-in_err-new-in-Pair-v-2 t c = IfOk-from_err _ _ c.from_residual-in_err-new-in-Pair-v-2.ensures.0

pub full-returns-in_err-full-in-Inl : goal.full-returns-in_err-full-in-Inl
full-returns-in_err-full-in-Inl t c = IfOk-from_err _ _ c.from_residual-in_err-full-in-Inl.ensures.0

pub full-returns-in_err-new-in-Inl : goal.full-returns-in_err-new-in-Inl
full-returns-in_err-new-in-Inl t c = IfOk-from_err _ _ c.from_residual-in_err-new-in-Inl.ensures.0

pub full-returns-in_err-full-in-Inr : goal.full-returns-in_err-full-in-Inr
full-returns-in_err-full-in-Inr t c = IfOk-from_err _ _ c.from_residual-in_err-full-in-Inr.ensures.0

pub full-returns-in_err-new-in-Inr : goal.full-returns-in_err-new-in-Inr
full-returns-in_err-new-in-Inr t c = IfOk-from_err _ _ c.from_residual-in_err-new-in-Inr.ensures.0

pub full-returns-in_err-full-in_default-v-3 : goal.full-returns-in_err-full-in_default-v-3
full-returns-in_err-full-in_default-v-3 t c = IfOk-from_err _ _ c.from_residual-in_err-full-in_default-v-3.ensures.0

pub full-returns-in_err-new-in_default-v-3 : goal.full-returns-in_err-new-in_default-v-3
full-returns-in_err-new-in_default-v-3 t c = IfOk-from_err _ _ c.from_residual-in_err-new-in_default-v-3.ensures.0

pub full-returns-in_err-full_items-in-List : goal.full-returns-in_err-full_items-in-List
full-returns-in_err-full_items-in-List t c = IfOk-from_err _ _ c.from_residual-in_err-full_items-in-List.ensures.0

pub full_items-returns-in_err-full : goal.full_items-returns-in_err-full
full_items-returns-in_err-full t c = IfOk-from_err _ _ c.from_residual.ensures.0

pub full_items-returns-in_err-push : goal.full_items-returns-in_err-push
full_items-returns-in_err-push t c = IfOk-from_err _ _ c.from_residual-in_err-push.ensures.0
