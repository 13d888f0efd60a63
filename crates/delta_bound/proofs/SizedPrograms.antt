-- A typed program that counts no name without a size has a bound, and it is at most the limit.
use Rattle.std.proofs.Common.{◌≡◌, ◌∙◌, ◌<◌, ◌+◌, ℕ, zero, suc, Bool, true, List, [], ◌∷◌, map, length, if◌then◌else◌, IsTrue, ap, refl, sym, subst, arith}
use Rattle.std.proofs.lemmas.Bool.{ltb-true}
use Rattle.std.specs.Prelude.{Some, None, slice_index_or}
use Rattle.bunch.specs.Names.{holds}
use Rattle.core_term.specs.declared.program.Body.{Body}
use Rattle.core_term.specs.declared.program.Core.{Core}
use Rattle.core_term.specs.CoreTerm.{CoreBody, CoreProgram, core_of, core_body_of, fun_at, no_body, is_there}
use Rattle.core_term.specs.Inert.{is_inert_fun}
use Rattle.core_term.specs.Typing.{IsTypedCore, IsTypedBody, context_of}
use Rattle.core_term.proofs.Causes.{first_some-none}
use Rattle.core_term.proofs.TypedRuns.{at_index}
use Rattle.state_bounds.specs.Bounds.{Bound, ◌⊑◌, limit}
use Rattle.state_bounds.specs.ProgramBound.{bound_of_body, calls_in, is_marked, number_at, first_numbers, numbers_after, numbers_in, program_numbers, program_bound, reached_marks, mark_count}
use Rattle.delta_bound.specs.Unsized.{unsized_in, unsized_from, program_unsized}
use Rattle.delta_bound.proofs.Bodies.{body-is}
use Rattle.delta_bound.proofs.CallsThere.{calls_there}
use Rattle.delta_bound.proofs.ReachedCalls.{table_at, main_reaches, reached_reaches}
use Rattle.delta_bound.proofs.SizedTerms.{IsTold, term_told}

-- of functions that count none, each that is marked counts none
of_marked : (funs : List CoreBody) (counts : ℕ → Bool) (marks : List Bool) (i : ℕ) (bs : List Body) (j : ℕ) (d : Body) → j < length bs → unsized_from funs counts marks i bs ≡ None → is_marked marks (i + j) ≡ true
    → unsized_in funs counts (slice_index_or bs j d) ≡ None
of_marked funs counts marks i [] j d l e h = absurd (omega (arith, l))
of_marked funs counts marks i (b ∷ bs) zero d l e h =
    let marked : is_marked marks i ≡ true = subst (λ n. is_marked marks n ≡ true) (omega arith) h in
    let own = (first_some-none (if is_marked marks i then unsized_in funs counts b else None) (unsized_from funs counts marks (suc i) bs) e).0 in
    sym (ap (λ m. if m then unsized_in funs counts b else None) marked) ∙ own
of_marked funs counts marks i (b ∷ bs) (suc j) d l e h =
    let less : j < length bs = omega (arith, l) in
    let marked : is_marked marks (suc i + j) ≡ true = subst (λ n. is_marked marks n ≡ true) (omega arith) h in
    let rest = (first_some-none (if is_marked marks i then unsized_in funs counts b else None) (unsized_from funs counts marks (suc i) bs) e).1 in
    of_marked funs counts marks (suc i) bs j d less rest marked

-- the function at a place is the body there
fun_at-map : (bs : List Body) (j : ℕ) (d : Body) → j < length bs → fun_at (map core_body_of bs) j ≡ core_body_of (slice_index_or bs j d)
fun_at-map [] j d l = absurd (omega (arith, l))
fun_at-map (b ∷ bs) zero d l = refl
fun_at-map (b ∷ bs) (suc j) d l = let less : j < length bs = omega (arith, l) in fun_at-map bs j d less

pub length-bodies : (bs : List Body) → length (map core_body_of bs) ≡ length bs
length-bodies [] = refl
length-bodies (b ∷ bs) = ap suc (length-bodies bs)

-- a body that counts none, and calls only functions with numbers, has a bound
body_told : (c : CoreProgram) (numbers : ℕ → Bound) (b : Body) → unsized_in c.funs (is_inert_fun c.funs) b ≡ None → ((f : ℕ) → holds f (calls_in (core_body_of b).body) ≡ true → IsTold (numbers f))
    → IsTold (bound_of_body c numbers (core_body_of b))
body_told c numbers b e h =
    subst IsTold (body-is c.funs (is_inert_fun c.funs) numbers (core_body_of b) (λ f. refl))
    (term_told c.funs (is_inert_fun c.funs) numbers b.body.at b.body.term (context_of (core_body_of b)) e h)

module _ (c : Core) (typed : IsTypedCore (core_of c)) (sized : program_unsized c ≡ None) where
  -- no function that is reached counts one, nor does the main program
  none_in_funs : unsized_from (core_of c).funs (is_inert_fun (core_of c).funs) (reached_marks (core_of c)) 0 c.funs.items ≡ None
  none_in_funs = (first_some-none (unsized_from (core_of c).funs (is_inert_fun (core_of c).funs) (reached_marks (core_of c)) 0 c.funs.items) (unsized_in (core_of c).funs (is_inert_fun (core_of c).funs) c.main) sized).0

  none_in_main : unsized_in (core_of c).funs (is_inert_fun (core_of c).funs) c.main ≡ None
  none_in_main = (first_some-none (unsized_from (core_of c).funs (is_inert_fun (core_of c).funs) (reached_marks (core_of c)) 0 c.funs.items) (unsized_in (core_of c).funs (is_inert_fun (core_of c).funs) c.main) sized).1

  -- each function that is reached has a number in each round
  abbrev AreNumbered : List Bound → Type 0
  AreNumbered ns = (f : ℕ) → is_marked (reached_marks (core_of c)) f ≡ true → f < length (core_of c).funs → IsTold (number_at ns f)

  there_below : (f : ℕ) → IsTrue (is_there (core_of c).funs f) → f < length (core_of c).funs
  there_below f h = ltb-true f (length (core_of c).funs) h

  numbered_first : AreNumbered (first_numbers (core_of c) (reached_marks (core_of c)))
  numbered_first f h l =
      let marks = reached_marks (core_of c) in
      subst IsTold (sym (table_at (length (core_of c).funs) (λ g. if is_marked marks g then Some 0 else None) None f l ∙ ap (λ m. if m then Some 0 else None) h)) (omega arith)

  numbered_after : (ns : List Bound) → AreNumbered ns → AreNumbered (numbers_after (core_of c) (reached_marks (core_of c)) ns)
  numbered_after ns k f h l =
      let p = core_of c in
      let marks = reached_marks p in
      let number = length-bodies c.funs.items in
      let less : f < length c.funs.items = omega (arith, l, number) in
      let b = slice_index_or c.funs.items f c.main in
      let same : fun_at p.funs f ≡ core_body_of b = fun_at-map c.funs.items f c.main less in
      let marked : is_marked marks (0 + f) ≡ true = subst (λ n. is_marked marks n ≡ true) (omega arith) h in
      let none = of_marked p.funs (is_inert_fun p.funs) marks 0 c.funs.items f c.main less none_in_funs marked in
      let body : IsTypedBody p.funs (core_body_of b) = subst (IsTypedBody p.funs) same (at_index (IsTypedBody p.funs) no_body p.funs typed.funs_typed refl f) in
      let told : IsTold (bound_of_body p (number_at ns) (core_body_of b)) =
      body_told p (number_at ns) b none
      (λ g m. let there = there_below g (calls_there p.funs (is_inert_fun p.funs) (core_body_of b).body (context_of (core_body_of b)) (core_body_of b).result body g m) in
      k g (reached_reaches p f g h (subst (λ a. holds g (calls_in a.body) ≡ true) (sym same) m) there) there) in
      subst IsTold
      (sym (table_at (length p.funs) (λ g. if is_marked marks g then bound_of_body p (number_at ns) (fun_at p.funs g) else None) None f l
      ∙ (ap (λ m. if m then bound_of_body p (number_at ns) (fun_at p.funs f) else None) h ∙ ap (bound_of_body p (number_at ns)) same)))
      told

  numbered_in : (k : ℕ) → AreNumbered (numbers_in (core_of c) k)
  numbered_in zero = numbered_first
  numbered_in (suc k) = numbered_after (numbers_in (core_of c) k) (numbered_in k)

  -- so the program has a bound
  pub program_told : IsTold (program_bound (core_of c))
  program_told =
      let p = core_of c in
      body_told p (number_at (program_numbers p)) c.main none_in_main
      (λ g m. let there = there_below g (calls_there p.funs (is_inert_fun p.funs) p.main.body (context_of p.main) p.main.result typed.main_typed g m) in
      numbered_in (mark_count (reached_marks p)) g (main_reaches p g m there) there)

-- a bound of the limit at least, which is at most the limit, is the limit
pub limit_is : (b : Bound) → IsTold b → Some limit ⊑ b → b ≡ Some limit
limit_is None h k = absurd h
limit_is (Some n) h k = ap Some (omega (arith, h, k))
