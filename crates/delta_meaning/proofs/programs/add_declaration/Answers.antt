-- What is declared comes after what was declared above it.
use Rattle.std.proofs.Common.{◌≡◌, List, [], ◌∷◌, ◌++◌, map, Some, ap, ◌∙◌}
use Rattle.std.proofs.lemmas.List.{map-append}
use Rattle.stream_type.specs.declared.ty.Ty.{Ty}
use Rattle.stream_type.specs.StreamType.{StreamType, type_of}
use Rattle.bunch.specs.declared.name.Name.{Name}
use Rattle.bunch.specs.Names.{put}
use Rattle.delta_tree.specs.Tree.{type_tree_of, function_of}
use Rattle.delta_meaning.specs.TypeNames.{type_meant}
use Rattle.delta_meaning.specs.KnownTypes.{names_known}
use Rattle.delta_meaning.specs.SourceBody.{SourceBody, body_meant}
use Rattle.delta_meaning.specs.Functions.{body_of}
use Rattle.delta_meaning.proofs.Declarations.{names_known-push}
use Rattle.delta_meaning.proofs.programs.add_declaration.Goals as goal

pub returns-in_ok-push-in-Alias-clause-known : goal.returns-in_ok-push-in-Alias-clause-known
returns-in_ok-push-in-Alias-clause-known c =
    let es = c.args.known.now.items in
    let a = c.in-Alias.a in
    let ty = c.in_ok-ty-in-Alias.ty in
    let h : type_of ty ≡ type_meant (names_known es) (type_tree_of a.ty) =
    c.in_ok-ty-in-Alias.ensures ∙ ap (λ (l : List (Name × Ty)). type_meant (names_known l) (type_tree_of a.ty)) c.deref.ensures.value in
    let e : names_known (es ++ (a.name, ty) ∷ []) ≡ put a.name.0 (Some (type_meant (names_known es) (type_tree_of a.ty))) (names_known es) =
    names_known-push es (a.name, ty) ∙ ap (λ (t : StreamType). put a.name.0 (Some t) (names_known es)) h in
    rw (c.in-Alias.is, c.in_ok-push-in-Alias.ensures.items) e

pub returns-in_ok-push-in-Fun-clause-functions : goal.returns-in_ok-push-in-Fun-clause-functions
returns-in_ok-push-in-Fun-clause-functions c =
    let es = c.args.known.now.items in
    let fs = c.args.functions.now.items in
    let f = c.in-Fun.f in
    let b = c.in_ok-function_meant-in-Fun.field-0 in
    let h : body_of b ≡ body_meant (names_known es) (function_of f) =
    c.in_ok-function_meant-in-Fun.ensures ∙ ap (λ (l : List (Name × Ty)). body_meant (names_known l) (function_of f)) c.deref-in-Fun.ensures.value in
    let e : map body_of (fs ++ b ∷ []) ≡ map body_of fs ++ body_meant (names_known es) (function_of f) ∷ [] =
    map-append body_of fs (b ∷ []) ∙ ap (λ (z : SourceBody). map body_of fs ++ z ∷ []) h in
    rw (c.in-Fun.is, c.in_ok-push-in-Fun.ensures.items) e
