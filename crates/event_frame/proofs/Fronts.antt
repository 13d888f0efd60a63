-- What stands at the front of bytes, from what stands behind their first byte.
use Rattle.std.proofs.Common.{◌≡◌, ℕ, suc, zero, ◌+◌, ◌-◌, ◌≤◌, ◌<◌, List, [], ◌∷◌, ◌++◌, length, map, take, drop, get_or, true, Option, Some, None, ◌⊎◌, inl, inr, refl, ap, ◌∙◌, sym, subst, arith, length-append, length-take, length-drop, append-nil, add-one}
use Rattle.std.proofs.lemmas.List.{length-map, nil_from_length, take-append-drop, drop_more}
use Rattle.std.proofs.Math.Seq.{drop-append-add}
use Rattle.std.specs.Prelude.{is_some, IsNone, IfSome, ℤ}
use Rattle.std.specs.Int.{w64, from_be_bytes, cast_signed}
use Rattle.event_word.specs.declared.event.Step.{Step}
use Rattle.event_word.specs.declared.event.Leaf.{Leaf}
use Rattle.event_word.specs.declared.event.Leaf.TheVariants.{Int}
use Rattle.event_word.specs.StreamEvent.{StreamEvent, FitsLeaf}
use Rattle.event_frame.specs.declared.version.Version.{Version}
use Rattle.event_frame.specs.declared.version.Version.TheVariants.{V1, V2}
use Rattle.event_frame.specs.declared.fault.FrameFault.{FrameFault}
use Rattle.event_frame.specs.declared.front.Front.TheVariants.{Part, Fault}
use Rattle.event_frame.specs.Frames.{step_code, path_bytes, leaf_bytes, AreBytes}
use Rattle.event_frame.specs.Reading.{AtLeaf, AtNumber, Taken, parts, steps_in, first_then, step_of, event, Inside, stop, reading_from, at_path}
use Rattle.event_frame.specs.Front.{path_len, IsTail, IsAtPath, IsBehind, behind}
use Rattle.event_frame.proofs.Codes.{code_is}
use Rattle.event_frame.proofs.FrameLaws.{reading_from-steps}
use Rattle.event_frame.proofs.Spelling.{parts_are, path_bytes-front}
use Rattle.event_frame.proofs.Numbers.{number_fits, number_bytes}
use Rattle.event_frame.proofs.WholeLaws.{reading_from-int}

-- at most one step to a part
pub steps_fit : (left : ℕ) (ps : List ℕ) (taken : Taken) → steps_in left ps ≡ Some taken → length taken.steps ≤ length ps
steps_fit left ps taken e =
    let are = parts_are left ps taken e in
    omega (arith, ap length are.split, length-append (map step_code taken.steps) are.zeros, length-map taken.steps step_code)

-- what is left when a byte's parts are read
pub left_is : (left : ℕ) (ps : List ℕ) (taken : Taken) → steps_in left ps ≡ Some taken → taken.left ≡ left - length ps
left_is left ps taken e = by_rest (parts_are left ps taken e).full
  where
    sizes : length ps ≡ length taken.steps + length (parts_are left ps taken e).zeros
    sizes = let are = parts_are left ps taken e in ap length are.split ∙ length-append (map step_code taken.steps) are.zeros ∙ ap (λ (n : ℕ). n + length are.zeros) (length-map taken.steps step_code)

    by_rest : ((parts_are left ps taken e).zeros ≡ []) ⊎ (taken.left ≡ 0) → taken.left ≡ left - length ps
    by_rest (inl none) = omega (arith, sizes, ap length none, (parts_are left ps taken e).count)
    by_rest (inr none) = omega (arith, sizes, none, (parts_are left ps taken e).count)

-- what is behind the steps of a byte
record Behind (o : Option Taken) (x longer : StreamEvent) : Type 0 where
  taken : Taken
  is : o ≡ Some taken
  path : longer.path ≡ taken.steps ++ x.path
  leaf : longer.leaf ≡ x.leaf

behind_is : (o : Option Taken) (x longer : StreamEvent) → behind o x ≡ Some longer → Behind o x longer
behind_is None x longer e = absurd (let none : ⊥ = cc in none)
behind_is (Some taken) x longer e =
    let same : event (taken.steps ++ x.path) x.leaf ≡ longer = cc in
    record { taken = taken; is = refl; path = sym (ap (λ (y : StreamEvent). y.path) same); leaf = sym (ap (λ (y : StreamEvent). y.leaf) same) }

-- one step more
pub behind_step : (left : ℕ) (ps : List ℕ) (part : ℕ) (rest : List ℕ) (step : Step) (x longer : StreamEvent) (o : Option StreamEvent)
    → (left ≡ 0 → ⊥) → ps ≡ part ∷ rest → step_of part ≡ Some step → behind (steps_in (left - 1) rest) x ≡ Some longer → length x.path + length ps ≤ 63
    → (IsNone o → length longer.path ≡ 63) → IfSome o (λ e. e.path ≡ step ∷ longer.path) → IfSome o (λ e. e.leaf ≡ longer.leaf)
    → o ≡ behind (steps_in left ps) x
behind_step zero ps part rest step x longer o some split is e room full path leaf = absurd (some refl)
behind_step (suc left) ps part rest step x longer None some split is e room full path leaf =
    let minus : suc left - 1 ≡ left = omega arith in
    let is_behind = behind_is (steps_in left rest) x longer (ap (λ (n : ℕ). behind (steps_in n rest) x) (sym minus) ∙ e) in
    absurd (let none : ⊥ = omega (arith, full refl, ap length is_behind.path, length-append is_behind.taken.steps x.path, steps_fit left rest is_behind.taken is_behind.is, ap length split) in none)
behind_step (suc left) ps part rest step x longer (Some y) some split is e room full path leaf =
    let minus : suc left - 1 ≡ left = omega arith in
    let is_behind = behind_is (steps_in left rest) x longer (ap (λ (n : ℕ). behind (steps_in n rest) x) (sym minus) ∙ e) in
    let taken = is_behind.taken in
    let all : behind (steps_in (suc left) ps) x ≡ Some (event ((step ∷ taken.steps) ++ x.path) x.leaf)
    = ap (λ (bs : List ℕ). behind (steps_in (suc left) bs) x) split
    ∙ ap (λ (s : Option Step). behind (first_then s (steps_in left rest)) x) is
    ∙ ap (λ (t : Option Taken). behind (first_then (Some step) t) x) is_behind.is in
    let long : y.path ≡ (step ∷ taken.steps) ++ x.path = path ∙ ap (λ (p : List Step). step ∷ p) is_behind.path in
    let last : y.leaf ≡ x.leaf = leaf ∙ is_behind.leaf in
    let same : y ≡ event ((step ∷ taken.steps) ++ x.path) x.leaf = λ i. record { path = long i; leaf = last i } in
    ap Some same ∙ sym all

-- the steps of a byte that holds some
record Holds (left : ℕ) (ps : List ℕ) : Type 0 where
  taken : Taken
  is : steps_in left ps ≡ Some taken

holds : (left : ℕ) (ps : List ℕ) → is_some (steps_in left ps) ≡ true → Holds left ps
holds left ps e = go (steps_in left ps) refl e
  where
    go : (o : Option Taken) → steps_in left ps ≡ o → is_some o ≡ true → Holds left ps
    go None is e = absurd (let none : ⊥ = cc in none)
    go (Some taken) is e = record { taken = taken; is = is }

-- a byte of steps before what stands at a path
pub tail_grows : (v : Version) (left : ℕ) (bytes : List ℕ) (byte : ℕ) (rest ps : List ℕ) (x longer : StreamEvent) (n : ℕ)
    → (left ≡ 0 → ⊥) → bytes ≡ byte ∷ rest → ps ≡ parts v byte → behind (steps_in left ps) x ≡ Some longer → IsTail v (left - length ps) rest x n
    → IsTail v left bytes longer (n + 1)
tail_grows v zero bytes byte rest ps x longer n some split are e tail = absurd (some refl)
tail_grows v (suc left) bytes byte rest ps x longer n some split are e tail =
    let is_behind = behind_is (steps_in (suc left) ps) x longer e in
    let taken = is_behind.taken in
    let is : steps_in (suc left) (parts v byte) ≡ Some taken = ap (steps_in (suc left)) (sym are) ∙ is_behind.is in
    let len : length x.path ≡ taken.left = tail.steps ∙ sym (left_is (suc left) ps taken is_behind.is) in
    let path : path_bytes v longer.path ≡ byte ∷ path_bytes v x.path = ap (path_bytes v) is_behind.path ∙ path_bytes-front v left byte taken x.path is len in
    let more : drop (n + 1) bytes ≡ drop n rest = ap (drop (n + 1)) split ∙ ap (λ (m : ℕ). drop m (byte ∷ rest)) (add-one n) in
    record {
      steps = omega (arith, ap length is_behind.path, length-append taken.steps x.path, len, (parts_are (suc left) ps taken is_behind.is).count);
      within = omega (arith, tail.within, ap length split);
      spelled = split ∙ ap (λ (bs : List ℕ). byte ∷ bs) tail.spelled
          ∙ ap (λ (bs : List ℕ). bs ++ (leaf_bytes x.leaf ++ drop n rest)) (sym path)
          ∙ ap (λ (bs : List ℕ). path_bytes v longer.path ++ (leaf_bytes x.leaf ++ bs)) (sym more)
          ∙ ap (λ (l : Leaf). path_bytes v longer.path ++ (leaf_bytes l ++ drop (n + 1) bytes)) (sym is_behind.leaf);
      leaf = subst FitsLeaf (sym is_behind.leaf) tail.leaf;
    }

path_len_grows : (v : Version) (left byte : ℕ) → path_len v (suc left - length (parts v byte)) + 1 ≡ path_len v (suc left)
path_len_grows V1 left byte = omega arith
path_len_grows V2 left byte = omega arith

reads_on : (v : Version) (left at : ℕ) (bytes : List ℕ) (byte : ℕ) (rest ps : List ℕ) → bytes ≡ byte ∷ rest → ps ≡ parts v byte
    → is_some (steps_in (suc left) ps) ≡ true → (path : List Step) → (more : List Step) × (reading_from (at_path v (suc left) path) at bytes ≡ reading_from (at_path v (suc left - length ps) (path ++ more)) (at + 1) rest)
reads_on v left at bytes byte rest ps split are e path =
    let some = holds (suc left) ps e in
    let is : steps_in (suc left) (parts v byte) ≡ Some some.taken = ap (steps_in (suc left)) (sym are) ∙ some.is in (
      some.taken.steps,
      ap (reading_from (at_path v (suc left) path) at) split ∙ reading_from-steps v left path at byte rest some.taken is
          ∙ ap (λ (n : ℕ). reading_from (at_path v n (path ++ some.taken.steps)) (at + 1) rest) (left_is (suc left) ps some.taken some.is),
    )

pub part_grows : (v : Version) (left at : ℕ) (bytes : List ℕ) (byte : ℕ) (rest ps : List ℕ) → (left ≡ 0 → ⊥) → bytes ≡ byte ∷ rest → ps ≡ parts v byte
    → is_some (steps_in left ps) ≡ true → IsAtPath v (left - length ps) (at + 1) rest Part → IsAtPath v left at bytes Part
part_grows v zero at bytes byte rest ps some split are e part = absurd (some refl)
part_grows v (suc left) at bytes byte rest ps some split are e part = (
  omega (arith, part.0, ap length split, path_len_grows v left byte, ap (λ (bs : List ℕ). path_len v (suc left - length bs)) are),
  λ path. let on = reads_on v left at bytes byte rest ps split are e path in on.1 ∙ part.1 (path ++ on.0),
)

pub fault_grows : (v : Version) (left at : ℕ) (bytes : List ℕ) (byte : ℕ) (rest ps : List ℕ) (fault : FrameFault) → (left ≡ 0 → ⊥) → bytes ≡ byte ∷ rest → ps ≡ parts v byte
    → is_some (steps_in left ps) ≡ true → IsAtPath v (left - length ps) (at + 1) rest (Fault fault) → IsAtPath v left at bytes (Fault fault)
fault_grows v zero at bytes byte rest ps fault some split are e bad = absurd (some refl)
fault_grows v (suc left) at bytes byte rest ps fault some split are e bad =
    λ path. let on = reads_on v left at bytes byte rest ps split are e path in on.1 ∙ bad (path ++ on.0)

-- a number that is cut off
number_cut : (v : Version) (path : List Step) (k : ℕ) (seen : List ℕ) (at : ℕ) (bytes : List ℕ) → length bytes ≤ k → reading_from (AtNumber v path k seen) at bytes ≡ stop Inside
number_cut v path k seen at [] short = refl
number_cut v path zero seen at (b ∷ bytes) short = absurd (let none : ⊥ = omega arith in none)
number_cut v path (suc k) seen at (b ∷ bytes) short = number_cut v path k (seen ++ b ∷ []) (at + 1) bytes (omega arith)

pub number_part : (v : Version) (at : ℕ) (bytes : List ℕ) (byte : ℕ) (rest : List ℕ) → bytes ≡ byte ∷ rest → byte ≡ 0x11 → length rest < 8 → IsAtPath v 0 at bytes Part
number_part v at bytes byte rest split is short = (
  omega (arith, ap length split),
  λ path. ap (reading_from (AtLeaf v path) at) split ∙ reading_from-int v path at byte rest is ∙ number_cut v path 7 [] (at + 1) rest (omega arith),
)

-- the first eight of some bytes
abbrev pub eight : List ℕ → List ℕ
eight bs = get_or bs 0 0 ∷ get_or bs 1 0 ∷ get_or bs 2 0 ∷ get_or bs 3 0 ∷ get_or bs 4 0 ∷ get_or bs 5 0 ∷ get_or bs 6 0 ∷ get_or bs 7 0 ∷ []

eight_first : (bs : List ℕ) → 8 ≤ length bs → bs ≡ eight bs ++ drop 8 bs
eight_first (a ∷ b ∷ c ∷ d ∷ e ∷ f ∷ g ∷ h ∷ bs) long = refl
eight_first _ long = absurd (let none : ⊥ = omega arith in none)

no_path_bytes : (v : Version) → path_bytes v [] ≡ []
no_path_bytes V1 = refl
no_path_bytes V2 = refl

pub number_tail : (v : Version) (bytes : List ℕ) (byte : ℕ) (rest : List ℕ) (number : ℤ) (x : StreamEvent) → bytes ≡ byte ∷ rest → byte ≡ 0x11 → (length rest < 8 → ⊥)
    → ((i : ℕ) → get_or bytes i 0 < 256) → number ≡ cast_signed w64 (from_be_bytes w64 (eight rest)) → x.path ≡ [] → x.leaf ≡ Int number → IsTail v 0 bytes x 9
number_tail v bytes byte rest number x split is long are is_number path leaf =
    let at : (i : ℕ) → get_or rest i 0 < 256 = λ i. subst (λ (bs : List ℕ). get_or bs (suc i) 0 < 256) split (are (suc i)) in
    let are_bytes : AreBytes (eight rest) = (at 0, (at 1, (at 2, (at 3, (at 4, (at 5, (at 6, (at 7, tt)))))))) in
    let is_leaf : x.leaf ≡ Int (cast_signed w64 (from_be_bytes w64 (eight rest))) = leaf ∙ ap Int is_number in
    let leaf_is : leaf_bytes x.leaf ≡ 0x11 ∷ eight rest = ap leaf_bytes is_leaf ∙ ap (λ (bs : List ℕ). 0x11 ∷ bs) (number_bytes (eight rest) refl are_bytes) in
    let no_steps : path_bytes v x.path ≡ [] = ap (path_bytes v) path ∙ no_path_bytes v in
    record {
      steps = ap length path;
      within = omega (arith, ap length split);
      spelled = split ∙ ap (λ (b : ℕ). b ∷ rest) is ∙ ap (λ (bs : List ℕ). 0x11 ∷ bs) (eight_first rest (omega arith))
          ∙ ap (λ (bs : List ℕ). bs ++ drop 8 rest) (sym leaf_is)
          ∙ ap (λ (bs : List ℕ). leaf_bytes x.leaf ++ drop 9 bs) (sym split)
          ∙ ap (λ (bs : List ℕ). bs ++ (leaf_bytes x.leaf ++ drop 9 bytes)) (sym no_steps);
      leaf = subst FitsLeaf (sym is_leaf) (number_fits (eight rest) refl are_bytes);
    }

-- one byte more of steps that have a byte each
pub behind_more : (bytes : List ℕ) (i : ℕ) (step : Step) (x longer more : StreamEvent) → 0 < i → i ≤ length bytes → step_of (get_or bytes (i - 1) 0) ≡ Some step
    → IsBehind (drop i bytes) x longer → more.path ≡ step ∷ longer.path → more.leaf ≡ longer.leaf → IsBehind (drop (i - 1) bytes) x more
behind_more bytes i step x longer more some within is are path leaf =
    let back : i - 1 + 1 ≡ i = omega arith in
    record {
      steps = step ∷ are.steps;
      spelled = drop_more bytes (i - 1) 0 (omega arith) ∙ ap (λ (n : ℕ). get_or bytes (i - 1) 0 ∷ drop n bytes) back
          ∙ ap (λ (n : ℕ). n ∷ drop i bytes) (code_is (get_or bytes (i - 1) 0) step is) ∙ ap (λ (bs : List ℕ). step_code step ∷ bs) are.spelled;
      path = path ∙ ap (λ (p : List Step). step ∷ p) are.path;
      leaf = leaf ∙ are.leaf;
    }

-- steps that have a byte each, before a leaf
pub plain_tail : (v : Version) (count : ℕ) (bytes : List ℕ) (x longer : StreamEvent) (n : ℕ) → v ≡ V1 → count ≤ length bytes → IsTail v 0 (drop count bytes) x n
    → IsBehind (take count bytes) x longer → IsTail v count bytes longer (count + n)
plain_tail V2 count bytes x longer n is room tail are = absurd (let none : ⊥ = cc in none)
plain_tail V1 count bytes x longer n is room tail are =
    let none : x.path ≡ [] = nil_from_length x.path tail.steps in
    let path : longer.path ≡ are.steps = are.path ∙ ap (λ (p : List Step). are.steps ++ p) none ∙ append-nil are.steps in
    let size : length (take count bytes) ≡ count = omega (arith, length-take count bytes, room) in
    let split : bytes ≡ take count bytes ++ drop count bytes = sym (take-append-drop count bytes) in
    let rest : drop (count + n) bytes ≡ drop n (drop count bytes)
    = ap (λ (k : ℕ). drop (k + n) bytes) (sym size) ∙ ap (drop (length (take count bytes) + n)) split ∙ drop-append-add (take count bytes) (drop count bytes) n in
    record {
      steps = ap length path ∙ sym (length-map are.steps step_code) ∙ sym (ap length are.spelled) ∙ size;
      within = omega (arith, tail.within, length-drop count bytes, room);
      spelled = split ∙ ap (λ (bs : List ℕ). bs ++ drop count bytes) (are.spelled ∙ ap (map step_code) (sym path))
          ∙ ap (λ (bs : List ℕ). map step_code longer.path ++ bs) (tail.spelled ∙ ap (λ (p : List Step). map step_code p ++ (leaf_bytes x.leaf ++ drop n (drop count bytes))) none)
          ∙ ap (λ (l : Leaf). map step_code longer.path ++ (leaf_bytes l ++ drop n (drop count bytes))) (sym are.leaf)
          ∙ ap (λ (bs : List ℕ). map step_code longer.path ++ (leaf_bytes longer.leaf ++ bs)) (sym rest);
      leaf = subst FitsLeaf (sym are.leaf) tail.leaf;
    }
