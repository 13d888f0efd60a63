-- What is reckoned of parts, and what was seen of them.
use Rattle.std.proofs.Common.{◌≡◌, ◌∙◌, ℤ, Option, Some, None, ap, ap₂, sym, subst}
use Rattle.std.specs.Prelude.{IfSome, IsSomeAnd, Result, Ok, true, Bool}
use Rattle.std.specs.Ordering.{int_eq}
use Rattle.stream_type.specs.declared.memory.Memory.{Memory}
use Rattle.hist_value.specs.declared.expr.Op.{Op}
use Rattle.hist_value.specs.Evaluate.{value, reckon_values}
use Rattle.hist_value.specs.HistExpr.{HistExpr, reckoned, pair_expr}
use Rattle.hist_value.specs.HistValue.{HistValue, unit_value, number, pair_of}
use Rattle.core_term.specs.Meaning.{Past}
use Rattle.filled_states.specs.Registers.{number_at}
use Rattle.other_numbers.specs.Numbers.{exchanged_value, exchanged_past}
use Rattle.state_shapes.specs.RegisterLists.{RegisterLists, Longer}
use Rattle.state_shapes.specs.Beside.{beside}
use Rattle.state_shapes.specs.Goes.{Goes}
use Rattle.state_shapes.proofs.FoundBeside.{number_stays}
use Rattle.state_shapes.proofs.Growing.{longer_more}
use Rattle.learned_table.specs.declared.reckoning.Reckoned.{Reckoned}
use Rattle.learned_table.specs.declared.reckoning.Reckoned.TheVariants.{Number}
use Rattle.learned_table.specs.Reckoned.{HasNow, IsReckoned, reckoned_value}
use Rattle.learned_table.specs.StepTree.{AskTree, asked}
use Rattle.learned_table.specs.Suits.{GoesAlong}

-- what holds of what is there, said otherwise
pub some_so : {A : Type 0} {P Q : A → Type 0} (o : Option A) → IfSome o P → ((x : A) → P x → Q x) → IfSome o Q
some_so None h f = tt
some_so (Some x) h f = f x h

-- what holds of what is there
some_is : {A : Type 0} (P : A → Type 0) (o : Option A) (x : A) → o ≡ Some x → IfSome o P → P x
some_is P o x e h = subst (λ p. IfSome p P) e h

-- two things of what is there, as one
some_both : {A : Type 0} {P Q : A → Type 0} (C : Type 0) (o : Option A) → IfSome o P → IsSomeAnd o Q → ((x : A) → P x → Q x → C) → C
some_both C None h k f = absurd k
some_both C (Some x) h k f = f x h k

-- what is reckoned with two numbers
pub both_have : (l : RegisterLists) (op : Op) (a b : HistExpr) (past : Past) (m n result : Option Reckoned) → IfSome m (λ r. HasNow l a past (reckoned_value r))
    → IfSome n (λ r. HasNow l b past (reckoned_value r)) → IfSome result (IsReckoned op m n) → IfSome result (λ r. HasNow l (reckoned op a b) past (reckoned_value r))
both_have l op a b past m n result h k g =
    some_so result g (λ r d x longer.
    ap₂ (reckon_values op) (some_is (λ r. HasNow l a past (reckoned_value r)) m (Number d.first) d.is_first h x longer)
    (some_is (λ r. HasNow l b past (reckoned_value r)) n (Number d.second) d.is_second k x longer)
    ∙ d.is)

-- the number that was found for what was seen
pub seen_now : {V : Type 0} (read : V → HistValue) (l : RegisterLists) (e : HistExpr) (past : Past) (seen : Option V) (result : Option Reckoned)
    → IfSome seen (λ v. (f : ℤ → ℤ) → value e (exchanged_past f past) ≡ exchanged_value f (read v))
    → IfSome result (λ r. IsSomeAnd seen (λ v. (x : RegisterLists) → Longer l x → exchanged_value (number_at x.keys x.numbers) (read v) ≡ reckoned_value r))
    → IfSome result (λ r. HasNow l e past (reckoned_value r))
seen_now read l e past seen result h g =
    some_so result g (λ r k x longer. some_both _ seen h k (λ v is now. is (number_at x.keys x.numbers) ∙ now x longer))

-- what is reckoned now is what there was
pub now_goes : {answer : Result Bool Memory} {l m : RegisterLists} (a : AskTree) (v : HistValue) → HasNow l a.expr a.past v
    → Goes (Ok true) l m answer (λ x. v ≡ exchanged_value (number_at x.keys x.numbers) a.value) → Goes (Ok true) l m answer (λ x. GoesAlong (number_at x.keys x.numbers) a)
now_goes a v has g =
    record { grown = g.grown; went = g.went; holds = λ p e x longer. has x (longer_more g.grown longer) ∙ g.holds p e x longer }

-- what is there, or else the value that carries nothing
abbrev pub or_unit : {V : Type 0} → (V → HistValue) → Option V → HistValue
or_unit read (Some v) = read v
or_unit read None = unit_value

-- the number that was found for a key stays
pub number_found : (l : RegisterLists) (key n m : ℤ) → m ≡ n → beside int_eq l.keys l.numbers key ≡ Some n → (x : RegisterLists) → Longer l x → number (number_at x.keys x.numbers key) ≡ number m
number_found l key n m same e x longer = ap number (sym (same ∙ number_stays l key n e x longer))

-- what holds of what is there, of what is said to be there
pub there : {A : Type 0} (P : A → Type 0) (o : Option A) (x : A) → o ≡ Some x → P x → IsSomeAnd o P
there P o x e h = subst (λ p. IsSomeAnd p P) (sym e) h

-- two parts as one
pub pair_goes : (f : ℤ → ℤ) (e a b : HistExpr) (past : Past) (u v w : HistValue) → e ≡ pair_expr a b → u ≡ pair_of v w → GoesAlong f (asked a past v) → GoesAlong f (asked b past w)
    → GoesAlong f (asked e past u)
pair_goes f e a b past u v w is_expr is_value h k =
    ap (λ d. value d (exchanged_past f past)) is_expr ∙ ap₂ pair_of h k ∙ sym (ap (exchanged_value f) is_value)
