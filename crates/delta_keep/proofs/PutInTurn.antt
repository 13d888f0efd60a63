-- Bytes that are put out in turn.
use Rattle.std.proofs.Common.{◌≡◌, ◌∙◌, ◌<◌, ◌+◌, ℕ, zero, suc, Bool, false, List, [], ◌∷◌, ◌++◌, length, take, get_or, ap, refl, sym, arith, append_assoc}
use Rattle.std.specs.Int.{from_bool}
use Rattle.std.proofs.lemmas.List.{take_more}
use Rattle.kept_state.specs.KeptBytes.{bool_bytes}
use Rattle.delta_keep.specs.declared.output.Output.{Output}
use Rattle.delta_keep.specs.Putting.{Puts}
use Rattle.delta_keep.proofs.Lists.{items_bytes, one_more}

-- the same bytes, said otherwise
pub puts_same : {o0 o1 : Output} {a b : List ℕ} → a ≡ b → Puts o0 o1 a → Puts o0 o1 b
puts_same {o0} {o1} {a} {b} same f = record { begun = f.begun; put = λ k. f.put k ∙ ap (λ bs. o0.bytes.items ++ bs) same }

-- two pieces put out in turn are put out together,
pub puts_2 : {o0 o1 o2 : Output} {a b : List ℕ} → Puts o0 o1 a → Puts o1 o2 b → Puts o0 o2 (a ++ b)
puts_2 {o0} {o1} {o2} {a} {b} f g =
    record {
      begun = λ k. f.begun (g.begun k);
      put = λ k. g.put k ∙ (ap (λ o. o ++ b) (f.put (g.begun k)) ∙ append_assoc o0.bytes.items a b);
    }

-- and so are more
pub puts_3 : {o0 o1 o2 o3 : Output} {a b c : List ℕ} → Puts o0 o1 a → Puts o1 o2 b → Puts o2 o3 c → Puts o0 o3 (a ++ (b ++ c))
puts_3 f g h = puts_2 f (puts_2 g h)

pub puts_4 : {o0 o1 o2 o3 o4 : Output} {a b c d : List ℕ} → Puts o0 o1 a → Puts o1 o2 b → Puts o2 o3 c → Puts o3 o4 d → Puts o0 o4 (a ++ (b ++ (c ++ d)))
puts_4 f g h i = puts_2 f (puts_3 g h i)

pub puts_5 : {o0 o1 o2 o3 o4 o5 : Output} {a b c d e : List ℕ} → Puts o0 o1 a → Puts o1 o2 b → Puts o2 o3 c → Puts o3 o4 d → Puts o4 o5 e → Puts o0 o5 (a ++ (b ++ (c ++ (d ++ e))))
puts_5 f g h i j = puts_2 f (puts_4 g h i j)

pub puts_6 : {o0 o1 o2 o3 o4 o5 o6 : Output} {a b c d e f : List ℕ} → Puts o0 o1 a → Puts o1 o2 b → Puts o2 o3 c → Puts o3 o4 d → Puts o4 o5 e → Puts o5 o6 f → Puts o0 o6 (a ++ (b ++ (c ++ (d ++ (e ++ f)))))
puts_6 f g h i j k = puts_2 f (puts_5 g h i j k)

-- what stands behind a form with a name and a type,
pub puts_formed : {o0 o1 o2 : Output} (form : ℕ) (x t rest : List ℕ) → Puts o0 o1 (form ∷ x ++ t) → Puts o1 o2 rest → Puts o0 o2 (form ∷ x ++ (t ++ rest))
puts_formed form x t rest f g = puts_same (ap (λ bs. form ∷ bs) (append_assoc x t rest)) (puts_2 f g)

-- and behind one with three names
pub puts_named : {o0 o1 o2 : Output} (form : ℕ) (x y z rest : List ℕ) → Puts o0 o1 (form ∷ x ++ (y ++ z)) → Puts o1 o2 rest → Puts o0 o2 (form ∷ x ++ (y ++ (z ++ rest)))
puts_named form x y z rest f g =
    puts_same (ap (λ bs. form ∷ bs) (append_assoc x (y ++ z) rest ∙ ap (λ bs. x ++ bs) (append_assoc y z rest))) (puts_2 f g)

-- what is put out with an item more
pub puts_more : {A B : Type 0} (f : B → List ℕ) (g : A → B) (xs : List A) (i : ℕ) (x : A) {start out next : Output} → i < length xs → x ≡ get_or xs i x → Puts start out (items_bytes f g (take i xs)) → Puts out next (f (g x))
    → Puts start next (items_bytes f g (take (i + 1) xs))
puts_more f g xs i x h is p q =
    puts_same (sym (one_more f g (take i xs) x) ∙ ap (λ ys. items_bytes f g ys) (ap (λ y. take i xs ++ y ∷ []) is ∙ sym (take_more xs i x h))) (puts_2 p q)

-- an element that is there is the same whatever stands for one that isn't
get_there : {A : Type 0} (xs : List A) (i : ℕ) (d e : A) → i < length xs → get_or xs i d ≡ get_or xs i e
get_there [] i d e h = absurd (omega (arith, h))
get_there (x ∷ xs) zero d e h = refl
get_there (x ∷ xs) (suc i) d e h = get_there xs i d e (omega (arith, h))

-- what is put out with a mark more
pub puts_mark_more : (marks : List Bool) (i : ℕ) {start out next : Output} → i < length marks → Puts start out (items_bytes bool_bytes (λ b. b) (take i marks)) → Puts out next (from_bool (get_or marks i false) ∷ [])
    → Puts start next (items_bytes bool_bytes (λ b. b) (take (i + 1) marks))
puts_mark_more marks i h p q = puts_more bool_bytes (λ b. b) marks i (get_or marks i false) h (get_there marks i false (get_or marks i false) h) p q
