-- Registers that are found behind others.
use Rattle.std.proofs.Common.{◌≡◌, ◌+◌, ℕ, Bool, true, false, List, [], ◌∷◌, length, Result, Ok, Err, refl, ap, ap₂, sym, subst, ◌∙◌, append_assoc, arith, ◌<◌, ◌≤◌, ◌==◌, map, drop, get_or}
use Rattle.std.proofs.lemmas.List.{append-nil, drop_more, drop_all}
use Rattle.std.specs.Prelude.{IsTrue}
use Rattle.stream_type.specs.declared.memory.Memory.{Memory}
use Rattle.state_shapes.specs.RegisterLists.{RegisterLists, IsParallel, behind, Longer}
use Rattle.state_shapes.specs.Goes.{Goes}
use Rattle.core_term.proofs.Parameters.{length-appended}

-- nothing behind
pub longer_still : (l : RegisterLists) → Longer l l
longer_still l =
    record {
      more = record { keys = []; numbers = []; depth_keys = []; depths = [] };
      are_parallel = record { numbers = refl; depths = refl };
      is_behind = rw (append-nil l.keys, append-nil l.numbers, append-nil l.depth_keys, append-nil l.depths) refl;
    }

along_lists : (l m : RegisterLists) → IsParallel l → IsParallel m → IsParallel (behind l m)
along_lists l m h k = record { numbers = length-appended l.keys m.keys l.numbers m.numbers h.numbers k.numbers; depths = length-appended l.depth_keys m.depth_keys l.depths m.depths h.depths k.depths }

-- one behind the other
behind-behind : (l m n : RegisterLists) → behind (behind l m) n ≡ behind l (behind m n)
behind-behind l m n =
    rw (append_assoc l.keys m.keys n.keys, append_assoc l.numbers m.numbers n.numbers, append_assoc l.depth_keys m.depth_keys n.depth_keys, append_assoc l.depths m.depths n.depths) refl

-- more behind more
pub longer_more : {l m n : RegisterLists} → Longer l m → Longer m n → Longer l n
longer_more {l = l} h k =
    record {
      more = behind h.more k.more;
      are_parallel = along_lists h.more k.more h.are_parallel k.are_parallel;
      is_behind = k.is_behind ∙ ap (λ m. behind m k.more) h.is_behind ∙ behind-behind l h.more k.more;
    }

-- what is longer is parallel too
pub parallel_longer : {l m : RegisterLists} → IsParallel l → Longer l m → IsParallel m
parallel_longer {l = l} p h = subst IsParallel (sym h.is_behind) (along_lists l h.more p h.are_parallel)

-- where it didn't go before, it doesn't
pub stops : {before : Result Bool Memory} {l : RegisterLists} {H : RegisterLists → Type 0} → (before ≡ Ok true → IsTrue false) → Goes before l l before H
stops {l = l} h = record { grown = longer_still l; went = λ p e. e; holds = λ p e. let f = h e in absurd (cc f) }

-- no is said
pub says_no : {before : Result Bool Memory} {l m : RegisterLists} {H : RegisterLists → Type 0} → Longer l m → Goes before l m (Ok false) H
says_no h = record { grown = h; went = λ p e. absurd (cc e); holds = λ p e. absurd (cc e) }

-- there is no memory
pub no_memory : {before : Result Bool Memory} {l m : RegisterLists} {H : RegisterLists → Type 0} (e : Memory) → Longer l m → Goes before l m (Err e) H
no_memory e h = record { grown = h; went = λ p e. absurd (cc e); holds = λ p e. absurd (cc e) }

-- one part and then another
pub goes_then : {before first second : Result Bool Memory} {l m n : RegisterLists} {F G : RegisterLists → Type 0} (H : RegisterLists → Type 0) → Goes before l m first F → Goes first m n second G
    → ((x : RegisterLists) → F x → G x → H x) → Goes before l n second H
goes_then H f g h =
    record {
      grown = longer_more f.grown g.grown;
      went = λ p e. f.went p (g.went (parallel_longer p f.grown) e);
      holds = λ p e x k. h x (f.holds p (g.went (parallel_longer p f.grown) e) x (longer_more g.grown k)) (g.holds (parallel_longer p f.grown) e x k);
    }

-- what holds, said otherwise, where it goes on behind a test
pub goes_where : {before answer : Result Bool Memory} {y : Bool} {l m : RegisterLists} {F : RegisterLists → Type 0} (H : RegisterLists → Type 0) → before ≡ Ok true → Goes (Ok y) l m answer F
    → (y ≡ true → (x : RegisterLists) → F x → H x) → Goes before l m answer H
goes_where {y = y} H b f h =
    record {
      grown = f.grown;
      went = λ p e. b;
      holds = λ p e x k. h (let w : ◌≡◌ {A = Result Bool Memory} (Ok y) (Ok true) = f.went p e in grind (arith, w)) x (f.holds p e x k);
    }

-- a test alone
pub goes_if : {before : Result Bool Memory} {y : Bool} {l : RegisterLists} (H : RegisterLists → Type 0) → before ≡ Ok true → (y ≡ true → (x : RegisterLists) → Longer l x → H x) → Goes before l l (Ok y) H
goes_if {y = y} {l = l} H b h =
    record { grown = longer_still l; went = λ p e. b; holds = λ p e x k. h (let w : ◌≡◌ {A = Result Bool Memory} (Ok y) (Ok true) = e in grind (arith, w)) x k }

-- a test behind what went before
pub goes_tested : {before answer : Result Bool Memory} {y : Bool} {l : RegisterLists} (H : RegisterLists → Type 0) → (answer ≡ Ok true → (before ≡ Ok true) × (y ≡ true)) → (y ≡ true → (x : RegisterLists) → H x)
    → Goes before l l answer H
goes_tested {l = l} H b h = record { grown = longer_still l; went = λ p e. (b e).0; holds = λ p e x k. h (b e).1 x }

-- at the beginning
pub goes_first : {before answer : Result Bool Memory} {l m : RegisterLists} {F : RegisterLists → Type 0} → before ≡ Ok true → Goes (Ok true) l m answer F → Goes before l m answer F
goes_first b f = record { grown = f.grown; went = λ p e. b; holds = f.holds }

-- what holds, said otherwise
pub goes_so : {before answer : Result Bool Memory} {l m : RegisterLists} {F : RegisterLists → Type 0} (H : RegisterLists → Type 0) → Goes before l m answer F → ((x : RegisterLists) → F x → H x)
    → Goes before l m answer H
goes_so H f h = record { grown = f.grown; went = f.went; holds = λ p e x k. h x (f.holds p e x k) }

-- behind what goes on, a part at which it doesn't
pub goes_no_further : {answer : Result Bool Memory} {l m n : RegisterLists} {F G H : RegisterLists → Type 0} → (answer ≡ Ok true → IsTrue false) → Goes (Ok true) l m (Ok true) F → Goes (Ok true) m n answer G
    → Goes (Ok true) l n answer H
goes_no_further stop f g =
    record { grown = longer_more f.grown g.grown; went = λ p e. refl; holds = λ p e. let h = stop e in absurd (cc h) }

-- behind what goes on, a part at which it does
pub goes_further : {answer : Result Bool Memory} {l m n : RegisterLists} {F G : RegisterLists → Type 0} (H : RegisterLists → Type 0) → answer ≡ Ok true → Goes (Ok true) l m (Ok true) F
    → Goes (Ok true) m n answer G → ((x : RegisterLists) → F x → G x → H x) → Goes (Ok true) l n (Ok true) H
goes_further {l = l} {n = n} H e f g h = subst (λ r. Goes (Ok true) l n r H) e (goes_then H f g h)

-- a test, one part and then another
pub goes_two : {before first second : Result Bool Memory} {y : Bool} {l m n : RegisterLists} {F G : RegisterLists → Type 0} (H : RegisterLists → Type 0) → before ≡ Ok true → Goes (Ok y) l m first F
    → Goes first m n second G → (y ≡ true → (x : RegisterLists) → F x → G x → H x) → Goes before l n second H
goes_two {y = y} {F = F} {G = G} H b f g h = goes_where H b (goes_then (λ x. F x × G x) f g (λ x e k. (e, k))) (λ e x k. h e x k.0 k.1)

-- a test, and three parts
pub goes_three : {before first second third : Result Bool Memory} {y : Bool} {l m n o : RegisterLists} {F G I : RegisterLists → Type 0} (H : RegisterLists → Type 0) → before ≡ Ok true → Goes (Ok y) l m first F
    → Goes first m n second G → Goes second n o third I → (y ≡ true → (x : RegisterLists) → F x → G x → I x → H x) → Goes before l o third H
goes_three {y = y} {F = F} {G = G} {I = I} H b f g i h =
    goes_two H b f (goes_then (λ x. G x × I x) g i (λ x e k. (e, k))) (λ e x k d. h e x k d.0 d.1)

-- at the end of a list
pub goes_last : {y : Bool} {l m : RegisterLists} {F : RegisterLists → Type 0} (H : RegisterLists → Type 0) → Goes (Ok true) l m (Ok true) F → (y ≡ true → (x : RegisterLists) → F x → H x) → Goes (Ok true) l m (Ok y) H
goes_last {y = y} H f h =
    record { grown = f.grown; went = λ p e. refl; holds = λ p e x k. h (let w : ◌≡◌ {A = Result Bool Memory} (Ok y) (Ok true) = e in grind (arith, w)) x (f.holds p refl x k) }

-- the first of those that are left, before the rest of them
pub one_more : {A B : Type 0} (reads : A → B) (from : B → B) (shapes others rest : List A) (i : ℕ) (s v : A) → others ≡ v ∷ rest → i < length shapes → s ≡ get_or shapes i s → reads v ≡ from (reads s)
    → map reads rest ≡ map from (map reads (drop (i + 1) shapes)) → map reads others ≡ map from (map reads (drop i shapes))
one_more reads from shapes others rest i s v opened within is e k =
    ap (λ l. map reads l) opened ∙ ap₂ (λ b bs. b ∷ bs) e k
    ∙ sym (ap (λ l. map from (map reads l)) (drop_more shapes i s within ∙ ap (λ t. t ∷ drop (i + 1) shapes) (sym is)))

-- and where none is left
pub none_left : {A B : Type 0} (reads : A → B) (from : B → B) (shapes others : List A) (i : ℕ) {y : Bool} → y ≡ (length others == 0) → length shapes ≤ i → y ≡ true
    → map reads others ≡ map from (map reads (drop i shapes))
none_left reads from shapes [] i e past t = ap (λ l. map from (map reads l)) (sym (drop_all i shapes past))
none_left reads from shapes (v ∷ vs) i e past t = absurd (grind (arith, e, t))

-- where the forms differ
pub ruleset refusals = (says_no, longer_still)
