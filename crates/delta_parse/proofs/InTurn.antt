-- What is read in turn, by what the readers of the parts answer.
use Rattle.std.proofs.Common.{◌≡◌, ◌∙◌, ℕ, ◌<◌, ◌≤◌, Bool, List, length, refl, sym, ap, subst, arith, IfOk, Ok, Err}
use Rattle.std.specs.Prelude.{Result}
use Rattle.grammar.specs.Reading.{Outcome, got, stuck, ◌>>=◌}
use Rattle.delta_parse.specs.declared.cursor.Halt.{Halt}
use Rattle.delta_parse.specs.declared.cursor.Halt.TheVariants as halts
use Rattle.delta_parse.specs.declared.plain.Plain.{Plain}
use Rattle.delta_parse.specs.declared.terminal.Terminal.{Terminal}
use Rattle.delta_parse.specs.Terminals.{Tok, plains}
use Rattle.delta_parse.specs.Readers.{Gives}
use Rattle.delta_parse.proofs.Steps.{plains_length}
use Rattle.delta_parse.specs.Reads.{Reads, Behind, Follows, before}

-- both clauses of a reader as one fact
pub read_so : {X Y : Type 0} {tree : X → Y} {rest : X → List Plain} {r : Result X Halt} {o : Outcome Tok Y} {n : ℕ} → Gives tree (λ x. plains (rest x)) r o → IfOk r (λ x. length (rest x) < n) → Reads tree rest r o n
read_so g s = record { given = g; shorter = s }

-- the same of what is read, said in another way
pub reads_is : {X Y : Type 0} {tree : X → Y} {rest : X → List Plain} {r : Result X Halt} {p o : Outcome Tok Y} {n : ℕ} → p ≡ o → Reads tree rest r o n → Reads tree rest r p n
reads_is {X} {Y} {tree} {rest} {r} {p} {o} {n} e h = subst (λ (q : Outcome Tok Y). Reads tree rest r q n) (sym e) h

-- and of the answer
pub was : {X Y : Type 0} {tree : X → Y} {rest : X → List Plain} {r q : Result X Halt} {o : Outcome Tok Y} {n : ℕ} → r ≡ q → Reads tree rest r o n → Reads tree rest q o n
was {X} {Y} {tree} {rest} {r} {q} {o} {n} e h = subst (λ (a : Result X Halt). Reads tree rest a o n) e h

-- what leaves less leaves less than more
pub within : {X Y : Type 0} {tree : X → Y} {rest : X → List Plain} {r : Result X Halt} {o : Outcome Tok Y} {m n : ℕ} → m ≤ n → Reads tree rest r o m → Reads tree rest r o n
within {X} {Y} {tree} {rest} {r} {o} {m} {n} e h = record { given = h.given; shorter = go r h.shorter }
  where
    go : (a : Result X Halt) → IfOk a (λ x. length (rest x) < m) → IfOk a (λ x. length (rest x) < n)
    go (Ok x) s = omega arith
    go (Err f) s = tt

-- what was read, and then what is read behind it
pub on_read : {X Y W Z : Type 0} {tree : X → Y} {rest : X → List Plain} {x : X} {o : Outcome Tok Y} {m n : ℕ} {tree' : W → Z} {rest' : W → List Plain} {w : Result W Halt} (f : Y × List Tok → Outcome Tok Z)
    → Reads tree rest (Ok x) o n → (length (rest x) < n → m ≤ n) → Reads tree' rest' w (f (tree x, plains (rest x))) m → Reads tree' rest' w (o >>= f) n
on_read {X} {Y} {W} {Z} {tree} {rest} {x} {o} {m} {n} {tree'} {rest'} {w} f h l k =
    let e : o ≡ got (tree x) (plains (rest x)) = h.given in
    reads_is (ap (λ q. q >>= f) e) (within (l h.shorter) k)

-- behind what was read less is left
pub then : {X Y W Z : Type 0} {tree : X → Y} {rest : X → List Plain} {x : X} {o : Outcome Tok Y} {n : ℕ} {tree' : W → Z} {rest' : W → List Plain} {w : Result W Halt} (f : Y × List Tok → Outcome Tok Z)
    → Reads tree rest (Ok x) o n → Reads tree' rest' w (f (tree x, plains (rest x))) (length (rest x)) → Reads tree' rest' w (o >>= f) n
then f h k = on_read f h (λ s. omega arith) k

-- what was read last, and the whole that is made of it
pub made : {X Y W Z : Type 0} {tree : X → Y} {rest : X → List Plain} {x : X} {o : Outcome Tok Y} {n : ℕ} {tree' : W → Z} {rest' : W → List Plain} {w : Result W Halt} (f : Y × List Tok → Outcome Tok Z)
    → Reads tree rest (Ok x) o n → ((m : ℕ) → length (rest x) < m → Reads tree' rest' w (f (tree x, plains (rest x))) m) → Reads tree' rest' w (o >>= f) n
made {X} {Y} {W} {Z} {tree} {rest} {x} {o} {n} f h k = on_read f h (λ s. omega arith) (k n h.shorter)

-- what is answered at once
pub answered : {X Y W Z : Type 0} {tree : X → Y} {rest : X → List Plain} {x : X} {o : Outcome Tok Y} {n : ℕ} {tree' : W → Z} {rest' : W → List Plain} {w : W} (f : Y × List Tok → Outcome Tok Z)
    → Reads tree rest (Ok x) o n → f (tree x, plains (rest x)) ≡ got (tree' w) (plains (rest x)) → rest' w ≡ rest x → Reads tree' rest' (Ok w) (o >>= f) n
answered {X} {Y} {W} {Z} {tree} {rest} {x} {o} {n} {tree'} {rest'} {w} f h e r = record {
  given = ap (λ q. q >>= f) h.given ∙ (e ∙ ap (λ ts. got (tree' w) (plains ts)) (sym r));
  shorter = subst (λ (ts : List Plain). length ts < n) (sym r) h.shorter;
}

-- where a part stops, the whole does
pub stops : {X Y W Z : Type 0} {tree : X → Y} {rest : X → List Plain} {e : Halt} {o : Outcome Tok Y} {m n : ℕ} {tree' : W → Z} {rest' : W → List Plain} (f : Y × List Tok → Outcome Tok Z)
    → Reads tree rest (Err e) o m → Reads tree' rest' (Err e) (o >>= f) n
stops {X} {Y} {W} {Z} {tree} {rest} {e} {o} {m} {n} {tree'} {rest'} f h = go e h
  where
    go : (e : Halt) → Reads tree rest (Err e) o m → Reads tree' rest' (Err e) (o >>= f) n
    go halts.Memory h = record { given = tt; shorter = tt }
    go (halts.At i) h = record { given = ap (λ q. q >>= f) h.given; shorter = tt }

-- memory was refused
pub refused : {X Y : Type 0} {tree : X → Y} {rest : X → List Plain} {o : Outcome Tok Y} {n : ℕ} → Reads tree rest (Err halts.Memory) o n
refused = record { given = tt; shorter = tt }

-- no token fits
pub stuck_at : {X Y : Type 0} {tree : X → Y} {rest : X → List Plain} {o : Outcome Tok Y} {n : ℕ} (ts : List Plain) → o ≡ stuck (length (plains ts)) → Reads tree rest (Err (halts.At (length ts))) o n
stuck_at ts e = record { given = e ∙ ap stuck (plains_length ts); shorter = tt }

-- a token, and what is behind it
pub token_read : {W Z : Type 0} {tree : W → Z} {rest : W → List Plain} {w : Result W Halt} {p o : Outcome Tok Z} {m n : ℕ} → m < n → p ≡ o → Reads tree rest w o m → Reads tree rest w p n
token_read l e h = reads_is e (within (omega arith) h)

-- what is answered, so much of it left
pub at_once : {W Z : Type 0} {tree : W → Z} {rest : W → List Plain} {w : W} {o : Outcome Tok Z} {n : ℕ} → length (rest w) < n → o ≡ got (tree w) (plains (rest w)) → Reads tree rest (Ok w) o n
at_once l e = record { given = e; shorter = l }

-- no more than what is less
pub most : {X : Type 0} (rest : X → List Plain) (r : Result X Halt) {m n : ℕ} → m < n → IfOk r (λ x. length (rest x) ≤ m) → IfOk r (λ x. length (rest x) < n)
most {X} rest r {m} {n} l h = go r h
  where
    go : (a : Result X Halt) → IfOk a (λ x. length (rest x) ≤ m) → IfOk a (λ x. length (rest x) < n)
    go (Ok x) s = omega arith
    go (Err f) s = tt

-- what stands before a sign
behind_reads : {V T Y : Type 0} (k : Terminal) (value : V → T) (rest : V → List Plain) (tree : T → Y) (r w : Result V Halt) (o : Outcome Tok Y) (n : ℕ)
    → Behind k value rest r w → Gives (λ v. tree (value v)) (λ v. plains (rest v)) r o → IfOk r (λ v. length (rest v) ≤ n) → Reads (λ v. tree (value v)) rest w (before k o) n
behind_reads k value rest tree (Ok v) (Ok w) o n b h t =
    let e : o ≡ got (tree (value v)) (plains (rest v)) = h in
    let s : length (rest w) < length (rest v) = b.shorter in
    record {
      given = rw (e, b.read) (ap (λ x. got (tree x) (plains (rest w))) (sym b.same));
      shorter = omega arith;
    }
behind_reads k value rest tree (Ok v) (Err (halts.At i)) o n b h t =
    let e : o ≡ got (tree (value v)) (plains (rest v)) = h in
    record { given = rw (e, b) refl; shorter = tt }
behind_reads k value rest tree (Ok v) (Err halts.Memory) o n b h t = refused
behind_reads k value rest tree (Err e) (Ok w) o n b h t = absurd b
behind_reads k value rest tree (Err e) (Err halts.Memory) o n b h t = refused
behind_reads k value rest tree (Err (halts.At i)) (Err (halts.At j)) o n b h t =
    let e : o ≡ stuck i = h in
    let s : j ≡ i = cc in
    record { given = rw (e, s) refl; shorter = tt }
behind_reads k value rest tree (Err halts.Memory) (Err (halts.At j)) o n b h t = cc

pub before_most : {V T Y : Type 0} {k : Terminal} {value : V → T} {rest : V → List Plain} (tree : T → Y) {r w : Result V Halt} (o : Outcome Tok Y) (n : ℕ)
    → Follows k value rest r w → Gives (λ v. tree (value v)) (λ v. plains (rest v)) r o → IfOk r (λ v. length (rest v) ≤ n) → Reads (λ v. tree (value v)) rest w (before k o) n
before_most {V} {T} {Y} {k} {value} {rest} tree {r} {w} o n b h t = behind_reads k value rest tree r w o n b.follows h t

pub before_reads : {V T Y : Type 0} {k : Terminal} {value : V → T} {rest : V → List Plain} (tree : T → Y) {r w : Result V Halt} {o : Outcome Tok Y} {n : ℕ}
    → Follows k value rest r w → Reads (λ v. tree (value v)) rest r o n → Reads (λ v. tree (value v)) rest w (before k o) n
before_reads {V} {T} {Y} {k} {value} {rest} tree {r} {w} {o} {n} b h = before_most tree o n b h.given (go r h.shorter)
  where
    go : (a : Result V Halt) → IfOk a (λ x. length (rest x) < n) → IfOk a (λ x. length (rest x) ≤ n)
    go (Ok x) s = omega arith
    go (Err f) s = tt

-- a test that was made
pub found : {r b s : Bool} → r ≡ s → r ≡ b → s ≡ b
found e h = sym e ∙ h
