-- Tokens have one answer: one tree, or one first fault.
use Rattle.std.proofs.Common.{◌≡◌, ◌∙◌, ℕ, zero, suc, ◌+◌, ◌<◌, ◌≤◌, ◌⊎◌, inl, inr, false, List, refl, sym, ap, length, arith, ⊎_elim}
use Rattle.std.proofs.Math.Seq.{take-length}
use Rattle.std.proofs.lemmas.Bool.{cases_lt}
use Rattle.delta_tree.specs.SyntaxTree.{WrittenFunction, Declaration}
use Rattle.delta_parse.specs.Terminals.{Tok}
use Rattle.delta_parse.specs.Plain.{grammar_tokens, names_in}
use Rattle.delta_parse.specs.Programs.{IsProgram, tree_with}
use Rattle.delta_parse.specs.Marks.{marks_before, IsShallow}
use Rattle.delta_parse.specs.Bindings.{is_twice, is_many, AreNamed}
use Rattle.delta_parse.specs.Places.{place_at}
use Rattle.delta_parse.specs.Causes.{Wrong, too_deep, unexpected, bound_twice, too_many, no_main, order_of, IsWrong}
use Rattle.delta_parse.specs.Laws.{TreeIsOne, CauseIsOne, ProgramsHaveNoCause}
use Rattle.delta_parse.proofs.Programs.{one_program, declarations_no_program}
use Rattle.delta_parse.proofs.Firsts.{begins_whole, begins_shorter}

-- the numbers of the order tell what is wrong
wrong_at : ℕ → Wrong
wrong_at (suc zero) = too_deep
wrong_at (suc (suc zero)) = unexpected
wrong_at (suc (suc (suc zero))) = bound_twice
wrong_at (suc (suc (suc (suc zero)))) = too_many
wrong_at _ = no_main

told : (w : Wrong) → wrong_at (order_of w) ≡ w
unfolding wrong_at
told too_deep = refl
told unexpected = refl
told bound_twice = refl
told too_many = refl
told no_main = refl

same_order : (w v : Wrong) → order_of w ≡ order_of v → w ≡ v
same_order w v e = sym (told w) ∙ ap wrong_at e ∙ told v

both_first : (n m a b : ℕ) → (n < m) ⊎ ((n ≡ m) × (a ≤ b)) → (m < n) ⊎ ((m ≡ n) × (b ≤ a)) → (n ≡ m) × (a ≡ b)
both_first n m a b (inl h) (inl k) = absurd (omega arith)
both_first n m a b (inl h) (inr k) = absurd (omega (arith, k.0))
both_first n m a b (inr h) (inl k) = absurd (omega (arith, h.0))
both_first n m a b (inr h) (inr k) = (h.0, omega (arith, h.1, k.1))

pub cause_is_one : CauseIsOne
cause_is_one ls w v at bt a b =
    let s = both_first a.number b.number (order_of w) (order_of v) (a.is_first.first b.number v b.is_first.wrong) (b.is_first.first a.number w a.is_first.wrong) in
    (same_order w v s.1, a.place ∙ ap (place_at ls) s.0 ∙ sym b.place)

pub tree_is_one : TreeIsOne
tree_is_one ls p q a b =
    let s = one_program (grammar_tokens ls) a.is_tree.found b.is_tree.found a.is_tree.main b.is_tree.main a.is_tree.program b.is_tree.program in
    a.is_tree.is ∙ ap (λ ds. tree_with (names_in ls) ds a.is_tree.main) s.0 ∙ ap (λ m. tree_with (names_in ls) b.is_tree.found m) s.1 ∙ sym b.is_tree.is

nothing_wrong : (ts : List Tok) (ds : List Declaration) (m : WrittenFunction) → IsProgram ts ds m → IsShallow ts (length ts) → AreNamed ts (length ts) → (n : ℕ) (w : Wrong) → IsWrong ts n w → ⊥
nothing_wrong ts ds m p s a n too_deep w = (let k : marks_before ts n ≤ 64 = s n w.0 in let d = w.1 in absurd (omega arith))
nothing_wrong ts ds m p s a n unexpected w = ⊎_elim
    (λ h. w.fails h (begins_shorter ts (n + 1) (length ts) (omega arith) (rw (take-length ts) (begins_whole ts ds m p))))
    (λ h. w.no_program (let k = w.within in omega arith) ds m p) (cases_lt n (length ts))
nothing_wrong ts ds m p s a n bound_twice w = (let k : is_twice ts n ≡ false = a.once n w.0 in let z = w.1 in cc)
nothing_wrong ts ds m p s a n too_many w = (let k : is_many ts n ≡ false = a.few n w.0 in let z = w.1 in cc)
nothing_wrong ts ds m p s a n no_main w = declarations_no_program ts ds m w.1 p

pub programs_have_no_cause : ProgramsHaveNoCause
programs_have_no_cause ls p w at b f = nothing_wrong (grammar_tokens ls) b.is_tree.found b.is_tree.main b.is_tree.program b.shallow b.named f.number w f.is_first.wrong
