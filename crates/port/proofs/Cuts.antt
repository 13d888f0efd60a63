-- What a cut at the most bytes of a file leaves.
use Rattle.std.proofs.Common.{◌≡◌, ℕ, List, [], ◌++◌, length, min, take, Option, Some, None, IfSome, refl, subst, ap, ◌∙◌, arith}
use Rattle.std.specs.Option.{option_map}
use Rattle.std.proofs.lemmas.List.{take_min}

-- a file is cut by taking the lesser of its length and the most
pub cut_file : (file front : List ℕ) (count most : ℕ) → front ≡ file → count ≡ min (length file) most → take count front ≡ take most file
cut_file file front count most same is =
    let turned : min (length file) most ≡ min most (length file) = omega arith in
    rw (same, is) (ap (λ n. take n file) turned ∙ take_min most file)

-- what was read to the end of a cut input is that input's cut, where the input is known
pub cut_known : (inner known : Option (List ℕ)) (given before : List ℕ) (limit most : ℕ) → inner ≡ known → limit ≡ most → before ≡ []
    → IfSome (option_map (take limit) inner) (λ all. given ≡ before ++ all) → IfSome known (λ all. given ≡ take most all)
cut_known inner None given before limit most same cut none read = tt
cut_known inner (Some all) given before limit most same cut none read =
    let known : given ≡ before ++ take limit all = subst (λ known. IfSome (option_map (take limit) known) (λ all. given ≡ before ++ all)) same read in
    known ∙ rw (none, cut) refl
