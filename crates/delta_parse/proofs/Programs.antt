-- Whole programs, and the first token that no program has there.
use Rattle.std.proofs.Common.{◌≡◌, ◌∙◌, ℕ, ◌-◌, ◌≤◌, List, [], ◌∷◌, refl, ap, length, take, arith}
use Rattle.std.proofs.Math.Seq.{take-length}
use Rattle.grammar.specs.Reading.{got, stuck}
use Rattle.grammar.specs.Sentences.{Begins, IsMisfit}
use Rattle.grammar.proofs.Exact.{sentence_read, one_sentence, read_whole, stops_behind, stops_within}
use Rattle.delta_tree.specs.SyntaxTree.{WrittenFunction, Declaration}
use Rattle.delta_parse.specs.Terminals.{Tok}
use Rattle.delta_parse.specs.Parts.{a_program, declarations, a_main, delta}
use Rattle.delta_parse.specs.Tables.{delta_grammar, reading}
use Rattle.delta_parse.specs.Programs.{IsProgram, BeginsProgram, AreDeclarations, IsUnexpected}
use Rattle.delta_parse.proofs.Samples.{delta_checked}
use Rattle.delta_parse.proofs.Steps.{program_is, main_is}

abbrev Found : Type 0
Found = List Declaration × WrittenFunction

program_read : (ts : List Tok) (ds : List Declaration) (m : WrittenFunction) → IsProgram ts ds m → reading a_program ts ≡ got (ds, m) []
unfolding reading
program_read ts ds m d = sentence_read delta delta_grammar delta_checked a_program ts (ds, m) d.derived

program_of_read : (ts : List Tok) (ds : List Declaration) (m : WrittenFunction) → reading a_program ts ≡ got (ds, m) [] → IsProgram ts ds m
unfolding reading
program_of_read ts ds m e = record { derived = read_whole delta delta_grammar delta_checked a_program ts (ds, m) e }

declarations_read : (ts : List Tok) (h : AreDeclarations ts) → reading declarations ts ≡ got h.found []
unfolding reading
declarations_read ts h = sentence_read delta delta_grammar delta_checked declarations ts h.found h.derived

declarations_of_read : (ts : List Tok) (ds : List Declaration) → reading declarations ts ≡ got ds [] → AreDeclarations ts
unfolding reading
declarations_of_read ts ds e = record { found = ds; derived = read_whole delta delta_grammar delta_checked declarations ts ds e }

-- the tokens are one program at most
pub one_program : (ts : List Tok) (ds es : List Declaration) (m n : WrittenFunction) → IsProgram ts ds m → IsProgram ts es n → (ds ≡ es) × (m ≡ n)
one_program ts ds es m n d e =
    let same : (ds, m) ≡ (es, n) = one_sentence delta delta_grammar delta_checked a_program ts (ds, m) (es, n) d.derived e.derived in
    (ap (λ (x : Found). x.0) same, ap (λ (x : Found). x.1) same)

program_got : (ts : List Tok) (ds : List Declaration) (rest : List Tok) (m : WrittenFunction) (r : List Tok) → reading declarations ts ≡ got ds rest → reading a_main rest ≡ got m r
    → reading a_program ts ≡ got (ds, m) r
program_got ts ds rest m r e h = rw (program_is ts, e, h) refl

program_stuck : (ts : List Tok) (ds : List Declaration) (rest : List Tok) (n : ℕ) → reading declarations ts ≡ got ds rest → reading a_main rest ≡ stuck n
    → reading a_program ts ≡ stuck n
program_stuck ts ds rest n e h = rw (program_is ts, e, h) refl

program_stuck_before : (ts : List Tok) (n : ℕ) → reading declarations ts ≡ stuck n → reading a_program ts ≡ stuck n
program_stuck_before ts n e = rw (program_is ts, e) refl

no_main_left : reading a_main [] ≡ stuck 0
no_main_left = rw (main_is []) refl

-- what the reader stopped at
unexpected : (ts : List Tok) (n : ℕ) → IsMisfit delta delta_grammar a_program ts n → (AreDeclarations ts → ⊥) → IsUnexpected ts n
unexpected ts n m none = record {
  within = m.within;
  fails = λ h b. m.fails h b.begun;
  no_program = λ h ds f d. m.ends h (ds, f) d.derived;
  no_declarations = λ h d. none d;
}

stuck_at : (ts : List Tok) (n : ℕ) → reading a_program ts ≡ stuck n → (AreDeclarations ts → ⊥) → (n ≤ length ts) × (IsUnexpected ts (length ts - n) × BeginsProgram (take (length ts - n) ts))
unfolding reading
stuck_at ts n e none =
    let s = stops_within delta delta_grammar delta_checked a_program ts n e in
    (s.0, (unexpected ts (length ts - n) s.1 none, record { begun = s.1.begins }))

behind_at : (ts rest : List Tok) (ds : List Declaration) (m : WrittenFunction) → reading a_program ts ≡ got (ds, m) rest → (length rest ≡ 0 → ⊥) → (AreDeclarations ts → ⊥)
    → (length rest ≤ length ts) × (IsUnexpected ts (length ts - length rest) × BeginsProgram (take (length ts - length rest) ts))
unfolding reading
behind_at ts rest ds m e h none =
    let s = stops_behind delta delta_grammar delta_checked a_program ts rest (ds, m) e h in
    (s.0, (unexpected ts (length ts - length rest) s.1 none, record { begun = s.1.begins }))

left_over : (ts rest : List Tok) (ds : List Declaration) → reading declarations ts ≡ got ds rest → (rest ≡ [] → ⊥) → AreDeclarations ts → ⊥
left_over ts rest ds e h d = (let g : reading declarations ts ≡ got d.found [] = declarations_read ts d in h (cc))

nil_of_length : {A : Type 0} (xs : List A) → length xs ≡ 0 → xs ≡ []
nil_of_length [] h = refl
nil_of_length (x ∷ xs) h = absurd (omega arith)

pub program_found : (ts : List Tok) (ds : List Declaration) (rest : List Tok) (m : WrittenFunction) (r : List Tok) → reading declarations ts ≡ got ds rest → reading a_main rest ≡ got m r → length r ≡ 0 → IsProgram ts ds m
program_found ts ds rest m r e h z = program_of_read ts ds m (program_got ts ds rest m r e h ∙ ap (got (ds, m)) (nil_of_length r z))

pub stuck_before : (ts : List Tok) (n : ℕ) → reading declarations ts ≡ stuck n → (n ≤ length ts) × (IsUnexpected ts (length ts - n) × BeginsProgram (take (length ts - n) ts))
stuck_before ts n e = stuck_at ts n (program_stuck_before ts n e) (λ d. let g : reading declarations ts ≡ got d.found [] = declarations_read ts d in cc)

pub no_main : (ts : List Tok) (ds : List Declaration) (rest : List Tok) → reading declarations ts ≡ got ds rest → length rest ≡ 0 → AreDeclarations ts × BeginsProgram ts
unfolding reading
no_main ts ds rest e z =
    let e0 : reading declarations ts ≡ got ds [] = e ∙ ap (got ds) (nil_of_length rest z) in
    let s = stops_within delta delta_grammar delta_checked a_program ts 0 (program_stuck ts ds [] 0 e0 no_main_left) in
    let t : take (length ts - 0) ts ≡ ts = ap (λ k. take k ts) (omega arith) ∙ take-length ts in
    let b : Begins delta delta_grammar a_program (take (length ts - 0) ts) = s.1.begins in
    (declarations_of_read ts ds e0, record { begun = (rw t at b) })

pub stuck_in_main : (ts : List Tok) (ds : List Declaration) (rest : List Tok) (n : ℕ) → reading declarations ts ≡ got ds rest → (length rest ≡ 0 → ⊥) → reading a_main rest ≡ stuck n
    → (n ≤ length ts) × (IsUnexpected ts (length ts - n) × BeginsProgram (take (length ts - n) ts))
stuck_in_main ts ds rest n e z h = stuck_at ts n (program_stuck ts ds rest n e h) (left_over ts rest ds e (λ w. z (ap length w)))

pub more_behind_main : (ts : List Tok) (ds : List Declaration) (rest : List Tok) (m : WrittenFunction) (r : List Tok) → reading declarations ts ≡ got ds rest → (length rest ≡ 0 → ⊥) → reading a_main rest ≡ got m r
    → (length r ≡ 0 → ⊥) → (length r ≤ length ts) × (IsUnexpected ts (length ts - length r) × BeginsProgram (take (length ts - length r) ts))
more_behind_main ts ds rest m r e z h w = behind_at ts r ds m (program_got ts ds rest m r e h) w (left_over ts rest ds e (λ v. z (ap length v)))

-- declarations alone are no program
pub declarations_no_program : (ts : List Tok) (ds : List Declaration) (m : WrittenFunction) → AreDeclarations ts → IsProgram ts ds m → ⊥
declarations_no_program ts ds m a p =
    let e : reading declarations ts ≡ got a.found [] = declarations_read ts a in
    let s : reading a_program ts ≡ stuck 0 = program_stuck ts a.found [] 0 e no_main_left in
    let g : reading a_program ts ≡ got (ds, m) [] = program_read ts ds m p in
    cc
